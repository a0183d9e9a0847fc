-- The bytes of replies: INQUIRY, REQUEST SENSE, and the pages of a shelf.
use Rattle.std.specs.Prelude.{ℕ, zero, suc, ◌+◌, Bool, cond, List, [], ◌∷◌, ◌++◌, take, Some, None, Option, ◌==◌, slice_index}
use Rattle.std.specs.List.{flat_map}
use Rattle.answers.specs.Numbers.{sense_code, sense_key, sense_qualifier}
use Rattle.answers.specs.declared.sense.Sense.{Sense}
use Rattle.answers.specs.declared.sense.Sense.TheVariants as sense
use Rattle.answers.specs.declared.status.Status.TheVariants.{Good, CheckCondition}
use Rattle.backplane.specs.declared.configuration.Configuration.{Configuration}
use Rattle.enclosure.specs.Conditions.{fan_of, supply_of}
use Rattle.enclosure.specs.Slots.{state_byte}
use Rattle.pages.specs.Pages.{Status, configuration_page, global_flags_page, insertions_page, status_page}
use Rattle.history.specs.Shelf.{Answer, ended, refused, Part, slot, supply, Host, Rest, Slot, Value, World}
use Rattle.history.specs.Judgement.{Verdict, refuse, miss, miss_inquiry, miss_sense, attend, pass, reject, inquire, show_sense, show_page, obey}

-- 56 bytes: a processor device, or with 7Fh no device there; then the version, the format, 33h more bytes; vendor, product, revision, unique identifier and channel; the name and revision of the interface
abbrev pub inquiry_bytes : ℕ → List ℕ → List ℕ
inquiry_bytes first identity =
    (first ∷ 0x00 ∷ 0x02 ∷ 0x02 ∷ 0x33 ∷ 0x00 ∷ 0x00 ∷ 0x00 ∷ [])
    ++ (identity ++ (0x53 ∷ 0x41 ∷ 0x46 ∷ 0x2D ∷ 0x54 ∷ 0x45 ∷ 0x31 ∷ 0x2E ∷ 0x30 ∷ 0x30 ∷ 0x00 ∷ 0x00 ∷ []))

-- 18 bytes: the key is byte 2, the additional sense code and its qualifier are bytes 12 and 13
abbrev pub sense_bytes : Sense → List ℕ
sense_bytes s =
    0xF0 ∷ 0x00 ∷ sense_key s ∷ 0x00 ∷ 0x00 ∷ 0x00 ∷ 0x00 ∷ 0x0A ∷ 0x00 ∷ 0x00 ∷ 0x00 ∷ 0x00 ∷ sense_code s ∷ sense_qualifier s ∷ 0x00 ∷ 0x00 ∷ 0x00 ∷ 0x00 ∷ []

-- REQUEST SENSE shows the stored sense; if there is none, pending attention
abbrev pub shown_sense : Option Sense → Bool → Sense
shown_sense (Some s) attention = s
shown_sense None attention = cond attention sense.Attention sense.Nothing

-- the values at 0 to n - 1, in a list
abbrev pub listed : {X : Type 0} → (ℕ → X) → ℕ → List X
listed f zero = []
listed f (suc n) = listed f n ++ (f n ∷ [])

-- something that is fitted or not
abbrev pub if_fitted : Bool → Bool → Option Bool
if_fitted fitted b = cond fitted (Some b) None

-- what the status page shows
abbrev pub status_of : Configuration → ((p : Part) → Value p) → Rest → Status
status_of c parts r =
    record {
      fans = listed (λ k. fan_of (r.inputs.fan k)) c.counts.fans;
      supplies = listed (λ k. supply_of (r.inputs.supply k) (parts (supply k))) c.counts.supplies;
      ids = listed (λ k. record { 0 = slice_index c.ids k }) c.counts.slots;
      lock = if_fitted c.lock r.lock;
      alarm = if_fitted c.alarm r.alarm;
      temperatures = listed (λ k. record { 0 = r.inputs.temperature k }) c.counts.sensors;
      over_temperature = listed (λ k. r.inputs.hot k) (c.counts.sensors + c.counts.thermostats);
    }

-- a slot on the slot page: its record, and its physical state
abbrev pub slot_bytes : Slot → List ℕ
slot_bytes s = s.row.flags ∷ s.row.more ∷ s.row.last ∷ state_byte s.state ∷ []

abbrev pub slots_of : Configuration → ((p : Part) → Value p) → List Slot
slots_of c parts = listed (λ k. parts (slot k)) c.counts.slots

-- the slot page: each slot, then 00h
abbrev pub slot_page : List Slot → List ℕ
slot_page slots = flat_map slot_bytes slots ++ (0 ∷ [])

-- 00h configuration, 01h status, 03h insertion counts, 04h slots, 05h global flags
abbrev pub page_bytes : Configuration → ℕ → ((p : Part) → Value p) → Rest → List ℕ
page_bytes c b parts r =
    cond (b == 0) (configuration_page c.counts c.lock c.alarm)
    (cond (b == 1) (status_page (status_of c parts r))
    (cond (b == 3) (insertions_page (listed (λ k. record { 0 = r.counts k }) c.counts.slots))
    (cond (b == 4) (slot_page (slots_of c parts))
    (global_flags_page r.flags))))

-- the answer of each verdict; every reply is cut at the length that is wanted
abbrev pub reply : World → Verdict → Host → ((p : Part) → Value p) → Rest → Answer
reply w (refuse n) h parts r = refused n
reply w miss h parts r = ended CheckCondition []
reply w (miss_inquiry n) h parts r = ended Good (take n (inquiry_bytes 0x7F w.identity))
reply w (miss_sense n) h parts r = ended Good (take n (sense_bytes sense.LogicalUnit))
reply w attend h parts r = ended CheckCondition []
reply w pass h parts r = ended Good []
reply w (reject s) h parts r = ended CheckCondition []
reply w (inquire n) h parts r = ended Good (take n (inquiry_bytes 0x03 w.identity))
reply w (show_sense n) h parts r = ended Good (take n (sense_bytes (shown_sense h.sense h.attention)))
reply w (show_page b n) h parts r = ended Good (take n (page_bytes w.configuration b parts r))
reply w (obey o) h parts r = ended Good []
