-- The laws of records and settings: after every list of calls, each is what the log last set it to.
use Rattle.std.specs.Prelude.{◌≡◌, ℕ, ◌%◌, ◌<◌, Bool, true, false, cond, ◌&&◌, ◌||◌, List, [], ◌∷◌, ◌++◌, drop, Some, None, Option, ◌==◌, slice_index}
use Rattle.backplane.specs.Meaning.{Inputs}
use Rattle.backplane.specs.declared.configuration.Configuration.{Configuration}
use Rattle.enclosure.specs.Flags.{bit, rebuild_stopped, rebuilding}
use Rattle.enclosure.specs.Slots.{inserted, moved}
use Rattle.enclosure.specs.declared.record.rows.Row.{Row}
use Rattle.enclosure.specs.declared.slots.PhysicalState.{PhysicalState}
use Rattle.enclosure.specs.declared.slots.PhysicalState.TheVariants.{EmptyReady, InsertedPrepared}
use Rattle.enclosure.specs.declared.slots.SlotEvent.{SlotEvent}
use Rattle.enclosure.specs.declared.slots.SlotEvent.TheVariants.{Prepare, Release, Insertion, Removal}
use Rattle.history.specs.Shelf.{Answer, Call, power_on, sample, reset, command, slot, fan, supply, Shelf, State, unpowered, powered, World}
use Rattle.history.specs.Orders.{Operation, idle, prepare, release, identify, flagged, operation_of, stored, triple_in}
use Rattle.history.specs.Steps.{Entry, history, row, unconfigured}
use Rattle.history.specs.Log.{LastSet, as_set, drive_in, last_frame, order_bytes, powered_in, puts_in, sample_by, sets}

-- a shelf is powered exactly from its first accepted power-on on

abbrev pub is_powered : State → Bool
is_powered unpowered = false
is_powered (powered s) = true

abbrev pub PoweredKept : Type 0
PoweredKept = (w : World) (calls : List Call) → is_powered (history w calls).state ≡ powered_in (history w calls).log

-- records

-- the record that a slot gets at power-on
abbrev pub first_row : Bool → Row
first_row present = cond present (row 0x80 0x00 0x00) (row 0x00 0x00 0x00)

-- the triple with a flag that an order 10h has for slot n, reserved bits as 0
abbrev pub ordered_row : ℕ → List ℕ → Option Row
ordered_row n bs = cond (slice_index bs 0 == 0x10 && flagged (triple_in (drop 1 bs) n)) (Some (stored (triple_in (drop 1 bs) n))) None

-- a later entry put a drive into slot n
abbrev pub put_in_since : World → ℕ → List Entry → List Entry → Bool
put_in_since w n [] older = false
put_in_since w n (e ∷ later) older = puts_in w n e (later ++ older) || put_in_since w n later older

abbrev pub unconfigured_since : World → ℕ → Row → List Entry → List Entry → Row
unconfigured_since w n t later older = cond (put_in_since w n later older) (unconfigured t) t

abbrev pub row_set : World → ℕ → Entry → Option Row
row_set w n = sets w (λ q. first_row (q.present n)) (ordered_row n)

-- the record of a slot is the last accepted triple with a flag or its power-on record, whichever came last, with Unconfigured besides if a drive was put in since
abbrev pub RecordsKept : Type 0
RecordsKept =
    (w : World) (calls : List Call) (s : Shelf) (n : ℕ) → n < w.configuration.counts.slots → (history w calls).state ≡ powered s →
    LastSet Row (row_set w n) (unconfigured_since w n) (history w calls).log (s.parts (slot n)).row

-- no record has both rebuild flags, or a reserved bit
pub record Fine (t : Row) : Type 0 where
  pub rebuild : (rebuilding t.flags && rebuild_stopped t.more) ≡ false
  pub more : t.more < 4
  pub last : t.last ≡ 0

abbrev pub RecordsFine : Type 0
RecordsFine = (w : World) (calls : List Call) (s : Shelf) (n : ℕ) → (history w calls).state ≡ powered s → Fine (s.parts (slot n)).row

-- settings

-- an order of this sort on part n
abbrev pub on_part_of : ℕ → ℕ → List ℕ → Bool
on_part_of sort n bs = slice_index bs 0 == sort && n == slice_index bs 1

abbrev pub ordered_speed : ℕ → List ℕ → Option ℕ
ordered_speed n bs = cond (on_part_of 0x13 n bs) (Some (slice_index bs 2)) None

abbrev pub ordered_supply : ℕ → List ℕ → Option Bool
ordered_supply n bs = cond (on_part_of 0x14 n bs) (Some (slice_index bs 2 == 1)) None

abbrev pub ordered_alarm : Configuration → List ℕ → Option Bool
ordered_alarm c bs = cond (slice_index bs 0 == 0x15 && c.alarm) (Some (bit 0 (slice_index bs 1))) None

abbrev pub ordered_lock : Configuration → List ℕ → Option Bool
ordered_lock c bs = cond (slice_index bs 0 == 0x15 && c.lock) (Some (bit 2 (slice_index bs 2))) None

-- identify begins it, prepare and release end it
abbrev pub identifies : Option Operation → Option Bool
identifies (Some idle) = None
identifies (Some prepare) = Some false
identifies (Some release) = Some false
identifies (Some identify) = Some true
identifies None = None

abbrev pub ordered_identify : ℕ → List ℕ → Option Bool
ordered_identify n bs = cond (on_part_of 0x12 n bs) (identifies (operation_of (slice_index bs 2 % 8))) None

-- a speed, a supply, the alarm, the lock and identify are what the last accepted entry that sets them set
pub record SettingsLastSet (w : World) (log : List Entry) (s : Shelf) : Type 0 where
  pub speeds : (n : ℕ) → LastSet ℕ (sets w (λ _. 4) (ordered_speed n)) as_set log (s.parts (fan n))
  pub supplies : (n : ℕ) → LastSet Bool (sets w (λ _. true) (ordered_supply n)) as_set log (s.parts (supply n))
  pub alarm : LastSet Bool (sets w (λ _. false) (ordered_alarm w.configuration)) as_set log s.rest.alarm
  pub lock : LastSet Bool (sets w (λ _. false) (ordered_lock w.configuration)) as_set log s.rest.lock
  pub identify : (n : ℕ) → LastSet Bool (sets w (λ _. false) (ordered_identify n)) as_set log (s.parts (slot n)).identify

abbrev pub SettingsKept : Type 0
SettingsKept = (w : World) (calls : List Call) (s : Shelf) → (history w calls).state ≡ powered s → SettingsLastSet w (history w calls).log s

-- physical states

-- prepare and release are events; to identify, and no operation, are none
abbrev pub event_of : Option Operation → Option SlotEvent
event_of (Some idle) = None
event_of (Some prepare) = Some Prepare
event_of (Some release) = Some Release
event_of (Some identify) = None
event_of None = None

abbrev pub ordered_event : ℕ → List ℕ → Option SlotEvent
ordered_event n bs = cond (on_part_of 0x12 n bs) (event_of (operation_of (slice_index bs 2 % 8))) None

-- a drive where there was none, and none where there was one
abbrev pub change : Bool → Bool → Option SlotEvent
change true true = None
change true false = Some Removal
change false true = Some Insertion
change false false = None

-- what an accepted frame shows, beside what the last one showed
abbrev pub seen : ℕ → Option Inputs → Option Inputs → Option SlotEvent
seen n before None = None
seen n before (Some q) = change (drive_in n before) (q.present n)

-- the event of slot n in an entry, if there is one
abbrev pub event_by : World → ℕ → Call → Answer → List Entry → Option SlotEvent
event_by w n (power_on counts frame) a older = None
event_by w n (sample frame) a older = seen n (last_frame w older) (sample_by w (sample frame) a)
event_by w n reset a older = None
event_by w n (command c) a older = ordered_event n (order_bytes c a)

abbrev pub moved_by : Option SlotEvent → PhysicalState → PhysicalState
moved_by None s = s
moved_by (Some e) s = moved s e

-- the state that the events of the later entries make of one
abbrev pub moved_since : World → ℕ → PhysicalState → List Entry → List Entry → PhysicalState
moved_since w n s [] older = s
moved_since w n s (e ∷ later) older = moved_by (event_by w n e.call e.answer (later ++ older)) (moved_since w n s later older)

abbrev pub first_state : Bool → PhysicalState
first_state present = cond present InsertedPrepared EmptyReady

-- only an accepted power-on sets a state anew
abbrev pub state_set : World → ℕ → Entry → Option PhysicalState
state_set w n = sets w (λ q. first_state (q.present n)) (λ _. None)

-- the physical state of a slot is what its events since the last accepted power-on make of its power-on state
abbrev pub StatesKept : Type 0
StatesKept =
    (w : World) (calls : List Call) (s : Shelf) (n : ℕ) → (history w calls).state ≡ powered s →
    LastSet PhysicalState (state_set w n) (moved_since w n) (history w calls).log (s.parts (slot n)).state

-- the inputs are those of the last accepted frame, and a drive is present exactly if the physical state says inserted
pub record PresenceLastSeen (w : World) (log : List Entry) (s : Shelf) : Type 0 where
  pub frame : last_frame w log ≡ Some s.rest.inputs
  pub present : (n : ℕ) → s.rest.inputs.present n ≡ inserted (s.parts (slot n)).state

abbrev pub PresenceKept : Type 0
PresenceKept = (w : World) (calls : List Call) (s : Shelf) → (history w calls).state ≡ powered s → PresenceLastSeen w (history w calls).log s
