-- From the uncut pages of a shelf the reader gets the very parts of the shelf.
use Rattle.std.specs.Prelude.{◌≡◌, ℕ, ◌+◌, ◌*◌, ◌/◌, ◌%◌, ◌<◌, ◌≤◌, List, [], ◌∷◌, length, take, Ok, Result, slice_index}
use Rattle.backplane.specs.Meaning.{Bounded}
use Rattle.backplane.specs.declared.configuration.Configuration.{Configuration}
use Rattle.enclosure.specs.Codes.{fan_byte, supply_byte}
use Rattle.enclosure.specs.Conditions.{fan_of, supply_of}
use Rattle.reader.specs.Reads.{Handed, read_part}
use Rattle.reader.specs.declared.fault.Fault.{Fault}
use Rattle.reader.specs.declared.fault.Run.TheVariants.{Fans, Supplies, Ids, Temperatures, Slots, Counts}
use Rattle.history.specs.Shelf.{Call, slot, supply, Shelf, powered, World}
use Rattle.history.specs.Replies.{page_bytes, slot_bytes}
use Rattle.history.specs.Steps.{history}

-- bytes handed out at a place
abbrev pub handed : ℕ → List ℕ → Result Handed Fault
handed place bs = Ok (record { place = place; bytes = bs })

-- what the reader gets from pages 00h, 01h, 03h and 04h
pub record PartsOf (c : Configuration) (s : Shelf) (config status_page count_page slot_page : List ℕ) : Type 0 where
  pub fans : (n : ℕ) → n < c.counts.fans → read_part config status_page Fans n ≡ handed n (fan_byte (fan_of (s.rest.inputs.fan n)) ∷ [])
  pub supplies : (n : ℕ) → n < c.counts.supplies
      → read_part config status_page Supplies n ≡ handed (c.counts.fans + n) (supply_byte (supply_of (s.rest.inputs.supply n) (s.parts (supply n))) ∷ [])
  pub ids : (n : ℕ) → n < c.counts.slots → read_part config status_page Ids n ≡ handed (c.counts.fans + c.counts.supplies + n) (slice_index c.ids n ∷ [])
  pub temperatures : (n : ℕ) → n < c.counts.sensors
      → read_part config status_page Temperatures n ≡ handed (c.counts.fans + c.counts.supplies + c.counts.slots + 2 + n) (s.rest.inputs.temperature n ∷ [])
  pub slots : (n : ℕ) → n < c.counts.slots → read_part config slot_page Slots n ≡ handed (n * 4) (slot_bytes (s.parts (slot n)))
  pub counts : (n : ℕ) → n < c.counts.slots → read_part config count_page Counts n ≡ handed (n * 2) ((s.rest.counts n / 256) ∷ (s.rest.counts n % 256) ∷ [])

-- a page of a shelf
abbrev pub page : World → Shelf → ℕ → List ℕ
page w s b = page_bytes w.configuration b s.parts s.rest

abbrev pub PagesReadBack : Type 0
PagesReadBack =
    (w : World) (calls : List Call) (s : Shelf) → Bounded w.configuration → (history w calls).state ≡ powered s →
    (a b c d : ℕ) → length (page w s 0) ≤ a → length (page w s 1) ≤ b → length (page w s 3) ≤ c → length (page w s 4) ≤ d →
    PartsOf w.configuration s (take a (page w s 0)) (take b (page w s 1)) (take c (page w s 3)) (take d (page w s 4))
