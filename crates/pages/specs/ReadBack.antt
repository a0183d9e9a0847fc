-- What the reader gets from a page that was laid.
use Rattle.std.specs.Prelude.{◌≡◌, ℕ, ◌+◌, ◌*◌, ◌<◌, ◌≤◌, List, length, Ok, slice_index_or}
use Rattle.enclosure.specs.declared.counts.PartCounts.{PartCounts}
use Rattle.parts.specs.Laid.{byte_laid, count_laid, fan_laid, slot_laid, supply_laid}
use Rattle.parts.specs.declared.kinds.InsertionCount.{InsertionCount}
use Rattle.parts.specs.declared.kinds.Slot.{Slot}
use Rattle.reader.specs.Reads.{counts_of, read_part}
use Rattle.reader.specs.declared.fault.Run.{Run}
use Rattle.reader.specs.declared.fault.Run.TheVariants.{Fans, Supplies, Ids, Temperatures, Slots, Counts}
use Rattle.pages.specs.Pages.{Status, insertions_page, slots_page, status_page}

-- of each part of a run the reader hands out the bytes that it was laid as, at the run's start and n times the width
abbrev pub HandedOut : {X : Type 0} → (X → List ℕ) → ℕ → List ℕ → List ℕ → Run → ℕ → List X → Type 0
HandedOut {X} laid width config page run start xs =
    (n : ℕ) (x : X) → n < length xs → x ≡ slice_index_or xs n x → read_part config page run n ≡ Ok (record { place = start + n * width; bytes = laid x })

-- the counts of fans, supplies, slots and sensors are those of the parts; the thermostats may be any
pub record Counted (c : PartCounts) (s : Status) : Type 0 where
  pub fans : c.fans ≡ length s.fans
  pub supplies : c.supplies ≡ length s.supplies
  pub slots : c.slots ≡ length s.ids
  pub sensors : c.sensors ≡ length s.temperatures

-- the four runs of a status page
pub record StatusPartsRead (s : Status) (config page : List ℕ) : Type 0 where
  pub fans : HandedOut fan_laid 1 config page Fans 0 s.fans
  pub supplies : HandedOut supply_laid 1 config page Supplies (length s.fans) s.supplies
  pub ids : HandedOut byte_laid 1 config page Ids (length s.fans + length s.supplies) s.ids
  pub temperatures : HandedOut byte_laid 1 config page Temperatures (length s.fans + length s.supplies + length s.ids + 2) s.temperatures

-- from a buffer that held the status page, and by every configuration page with the counts of its parts, the reader gets the very parts
abbrev pub StatusBack : Status → List ℕ → List ℕ → Type 0
StatusBack s old new =
    length (status_page s) ≤ length old → (config : List ℕ) (c : PartCounts) → counts_of config ≡ Ok c → Counted c s → StatusPartsRead s config new

-- likewise for the slot page
abbrev pub SlotsBack : List Slot → List ℕ → List ℕ → Type 0
SlotsBack slots old new =
    length (slots_page slots) ≤ length old → (config : List ℕ) (c : PartCounts) → counts_of config ≡ Ok c → c.slots ≡ length slots → HandedOut slot_laid 4 config new Slots 0 slots

-- and for the insertion page
abbrev pub InsertionsBack : List InsertionCount → List ℕ → List ℕ → Type 0
InsertionsBack counts old new =
    length (insertions_page counts) ≤ length old → (config : List ℕ) (c : PartCounts) → counts_of config ≡ Ok c → c.slots ≡ length counts → HandedOut count_laid 2 config new Counts 0 counts
