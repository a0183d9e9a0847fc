-- How each call moves a shelf, and runs of calls.
use Rattle.std.specs.Prelude.{ℕ, ◌+◌, min, Bool, true, false, cond, not, ◌&&◌, List, [], ◌∷◌, length, Some, None, Option, ◌==◌, slice_index}
use Rattle.answers.specs.declared.refusal.Refusal.TheVariants as refusal
use Rattle.backplane.specs.Meaning.{Inputs}
use Rattle.enclosure.specs.Flags.{bit}
use Rattle.enclosure.specs.Slots.{moved}
use Rattle.enclosure.specs.declared.record.rows.Row.{Row}
use Rattle.enclosure.specs.declared.slots.PhysicalState.TheVariants.{EmptyReady, InsertedPrepared}
use Rattle.enclosure.specs.declared.slots.SlotEvent.TheVariants.{Insertion, Removal}
use Rattle.history.specs.Shelf.{Answer, done, refused, Call, power_on, sample, reset, command, Command, Host, Part, slot, fan, supply, Shelf, Slot, State, unpowered, powered, Value, World}
use Rattle.history.specs.Orders.{acted, acted_rest}
use Rattle.history.specs.Judgement.{Verdict, judge, on_host, order_in}
use Rattle.history.specs.Replies.{reply}

-- commands

abbrev pub verdict : World → Shelf → Command → Verdict
verdict w s c = judge w.configuration (s.hosts c.host).attention c

abbrev pub commanded : World → Shelf → Command → Shelf
commanded w s c =
    record {
      parts = λ p. acted (order_in (verdict w s c)) p (s.parts p);
      hosts = λ h. cond (h == c.host) (on_host (verdict w s c) (s.hosts h)) (s.hosts h);
      rest = acted_rest w.configuration (order_in (verdict w s c)) s.rest;
    }

abbrev pub replied : World → Shelf → Command → Answer
replied w s c = reply w (verdict w s c) (s.hosts c.host) s.parts s.rest

-- power-on

-- no stored sense, and attention pending
abbrev pub fresh_host : Host
fresh_host = record { sense = None; attention = true }

-- a record of three bytes
abbrev pub row : ℕ → ℕ → ℕ → Row
row a b c = record { flags = a; more = b; last = c }

-- a slot with a drive is Unconfigured and prepared, any other has no flag and is ready
abbrev pub first_slot : Bool → Slot
first_slot true = record { row = row 0x80 0x00 0x00; state = InsertedPrepared; identify = false }
first_slot false = record { row = row 0x00 0x00 0x00; state = EmptyReady; identify = false }

-- fans run at 4 and supplies are on
abbrev pub first_part : Inputs → (p : Part) → Value p
first_part q (slot n) = first_slot (q.present n)
first_part q (fan n) = 4
first_part q (supply n) = true

abbrev pub started : List ℕ → Inputs → Shelf
started counts q =
    record {
      parts = first_part q;
      hosts = λ h. fresh_host;
      rest = record { inputs = q; counts = λ n. slice_index counts n; alarm = false; lock = false; flags = 0 ∷ 0 ∷ 0 ∷ [] };
    }

-- sample

-- the record with Unconfigured, bit 7 of byte 0, set
abbrev pub unconfigured : Row → Row
unconfigured t = row (cond (bit 7 t.flags) t.flags (t.flags + 128)) t.more t.last

-- a slot that had a drive or none, and now has one or none: a drive put in is an insertion and makes the slot Unconfigured; one gone is a removal and leaves the three bytes
abbrev pub sampled_slot : Bool → Bool → Slot → Slot
sampled_slot true true s = s
sampled_slot true false s = record { row = s.row; state = moved s.state Removal; identify = s.identify }
sampled_slot false true s = record { row = unconfigured s.row; state = moved s.state Insertion; identify = s.identify }
sampled_slot false false s = s

abbrev pub sampled_part : Inputs → Inputs → (p : Part) → Value p → Value p
sampled_part before now (slot n) s = sampled_slot (before.present n) (now.present n) s
sampled_part before now (fan n) v = v
sampled_part before now (supply n) v = v

-- the count of a slot that a drive is put in, raised by one up to 65,535
abbrev pub counted : Inputs → Inputs → (ℕ → ℕ) → ℕ → ℕ
counted before now counts n = cond (now.present n && not (before.present n)) (min 65535 (counts n + 1)) (counts n)

abbrev pub sampled : Inputs → Shelf → Shelf
sampled q s =
    record {
      parts = λ p. sampled_part s.rest.inputs q p (s.parts p);
      hosts = s.hosts;
      rest = record { inputs = q; counts = counted s.rest.inputs q s.rest.counts; alarm = s.rest.alarm; lock = s.rest.lock; flags = s.rest.flags };
    }

-- reset: every stored sense is dropped, and attention is pending for all hosts
abbrev pub restarted : Shelf → Shelf
restarted s = record { parts = s.parts; hosts = λ h. fresh_host; rest = s.rest }

-- one call: the state after it, and its answer

pub record Outcome : Type 0 where
  pub state : State
  pub answer : Answer

abbrev pub outcome : State → Answer → Outcome
outcome s a = record { state = s; answer = a }

abbrev pub powered_by : State → List ℕ → Option Inputs → Outcome
powered_by s counts (Some q) = outcome (powered (started counts q)) done
powered_by s counts None = outcome s (refused refusal.Frame)

abbrev pub sampled_by : Shelf → Option Inputs → Outcome
sampled_by s (Some q) = outcome (powered (sampled q s)) done
sampled_by s None = outcome (powered s) (refused refusal.Frame)

abbrev pub step : World → State → Call → Outcome
step w s (power_on counts frame) =
    cond (w.configuration.counts.slots == 0) (outcome s (refused refusal.NoSlots))
    (cond (length counts == w.configuration.counts.slots) (powered_by s counts (w.reading frame)) (outcome s (refused refusal.Counts)))
step w unpowered (sample frame) = outcome unpowered (refused refusal.Unpowered)
step w (powered s) (sample frame) = sampled_by s (w.reading frame)
step w unpowered reset = outcome unpowered (refused refusal.Unpowered)
step w (powered s) reset = outcome (powered (restarted s)) done
step w unpowered (command c) = outcome unpowered (refused refusal.Unpowered)
step w (powered s) (command c) = outcome (powered (commanded w s c)) (replied w s c)

-- a run: the state, and the log of each call with its answer, the newest first

pub record Entry : Type 0 where
  pub call : Call
  pub answer : Answer

pub record History : Type 0 where
  pub state : State
  pub log : List Entry

abbrev pub entry : Call → Answer → Entry
entry c a = record { call = c; answer = a }

abbrev pub fed : World → History → Call → History
fed w h c = record { state = (step w h.state c).state; log = entry c (step w h.state c).answer ∷ h.log }

abbrev pub run : World → History → List Call → History
run w h [] = h
run w h (c ∷ cs) = run w (fed w h c) cs

-- a shelf as it is made
abbrev pub new : History
new = record { state = unpowered; log = [] }

-- its history after a list of calls
abbrev pub history : World → List Call → History
history w cs = run w new cs
