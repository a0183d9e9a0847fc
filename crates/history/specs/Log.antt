-- What the log of a run tells: each call with its answer, the newest first.
use Rattle.std.specs.Prelude.{◌≡◌, ℕ, Bool, true, false, cond, not, ◌&&◌, ◌||◌, List, [], ◌∷◌, ◌++◌, Some, None, All, Option, ◌==◌}
use Rattle.std.specs.Option.{option_map}
use Rattle.answers.specs.declared.status.Status.TheVariants.{Good, CheckCondition}
use Rattle.backplane.specs.Meaning.{Inputs}
use Rattle.history.specs.Shelf.{Answer, done, ended, refused, Call, power_on, sample, reset, command, Command, World}
use Rattle.history.specs.Cdb.{opcode, sent}
use Rattle.history.specs.Steps.{Entry}

-- not refused, and for a command GOOD
abbrev pub accepted : Answer → Bool
accepted (refused n) = false
accepted done = true
accepted (ended Good bs) = true
accepted (ended CheckCondition bs) = false

-- the bytes of an accepted order; none if it is no accepted WRITE BUFFER
abbrev pub order_bytes : Command → Answer → List ℕ
order_bytes c a = cond (accepted a && opcode c == 0x3B) (sent c) []

-- what an entry sets something to, if it does: an accepted power-on by its inputs, an accepted order by its bytes
abbrev pub sets_by : {X : Type 0} → World → (Inputs → X) → (List ℕ → Option X) → Call → Answer → Option X
sets_by w first ordered (power_on counts frame) a = cond (accepted a) (option_map first (w.reading frame)) None
sets_by w first ordered (sample frame) a = None
sets_by w first ordered reset a = None
sets_by w first ordered (command c) a = ordered (order_bytes c a)

abbrev pub sets : {X : Type 0} → World → (Inputs → X) → (List ℕ → Option X) → Entry → Option X
sets w first ordered e = sets_by w first ordered e.call e.answer

-- an accepted power-on
abbrev pub powers_on : Call → Answer → Bool
powers_on (power_on counts frame) a = accepted a
powers_on (sample frame) a = false
powers_on reset a = false
powers_on (command c) a = false

-- the log has an accepted power-on
abbrev pub powered_in : List Entry → Bool
powered_in [] = false
powered_in (e ∷ older) = powers_on e.call e.answer || powered_in older

-- the inputs of an accepted frame
abbrev pub frame_by : World → Call → Answer → Option Inputs
frame_by w (power_on counts frame) a = cond (accepted a) (w.reading frame) None
frame_by w (sample frame) a = cond (accepted a) (w.reading frame) None
frame_by w reset a = None
frame_by w (command c) a = None

abbrev pub or_else : {X : Type 0} → Option X → Option X → Option X
or_else (Some x) o = Some x
or_else None o = o

-- the inputs of the last accepted frame
abbrev pub last_frame : World → List Entry → Option Inputs
last_frame w [] = None
last_frame w (e ∷ older) = or_else (frame_by w e.call e.answer) (last_frame w older)

-- the inputs of an accepted sample
abbrev pub sample_by : World → Call → Answer → Option Inputs
sample_by w (power_on counts frame) a = None
sample_by w (sample frame) a = cond (accepted a) (w.reading frame) None
sample_by w reset a = None
sample_by w (command c) a = None

abbrev pub drive_in : ℕ → Option Inputs → Bool
drive_in n (Some q) = q.present n
drive_in n None = false

-- an accepted sample finds a drive in slot n where the last accepted frame had none
abbrev pub puts_in : World → ℕ → Entry → List Entry → Bool
puts_in w n e older = drive_in n (sample_by w e.call e.answer) && not (drive_in n (last_frame w older))

-- x is what the last entry that sets it set, and what has become of that since
pub record LastSet (X : Type 0) (set_by : Entry → Option X) (since : X → List Entry → List Entry → X) (log : List Entry) (x : X) : Type 0 where
  pub later : List Entry
  pub last : Entry
  pub earlier : List Entry
  pub said : X
  pub splits : log ≡ later ++ last ∷ earlier
  pub set_there : set_by last ≡ Some said
  pub none_since : All (λ e. set_by e ≡ None) later
  pub is : x ≡ since said later (last ∷ earlier)

-- what only such entries move
abbrev pub as_set : {X : Type 0} → X → List Entry → List Entry → X
as_set x later older = x
