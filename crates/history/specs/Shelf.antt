-- What a shelf keeps, the calls that move it, and what it answers.
use Rattle.std.specs.Prelude.{ℕ, Bool, List, Option}
use Rattle.answers.specs.declared.refusal.Refusal.{Refusal}
use Rattle.answers.specs.declared.sense.Sense.{Sense}
use Rattle.answers.specs.declared.status.Status.{Status}
use Rattle.backplane.specs.Meaning.{Inputs}
use Rattle.backplane.specs.declared.configuration.Configuration.{Configuration}
use Rattle.enclosure.specs.declared.record.rows.Row.{Row}
use Rattle.enclosure.specs.declared.slots.PhysicalState.{PhysicalState}

-- what is given: the configuration, what a frame reads as if it reads as anything, and the 36 identity bytes
pub record World : Type 0 where
  pub configuration : Configuration
  pub reading : List ℕ → Option Inputs
  pub identity : List ℕ

-- a slot: its record, its physical state, and whether it is to be identified
pub record Slot : Type 0 where
  pub row : Row
  pub state : PhysicalState
  pub identify : Bool

-- the parts that orders act on
pub data Part : Type 0 where
  slot fan supply : ℕ → Part

-- what is kept of each: a slot, the speed of a fan, whether a supply is on
abbrev pub Value : Part → Type 0
Value (slot n) = Slot
Value (fan n) = ℕ
Value (supply n) = Bool

-- what is kept for a host: its stored sense, and whether attention is pending
pub record Host : Type 0 where
  pub sense : Option Sense
  pub attention : Bool

-- what else is kept: the inputs of the last accepted frame, insertion counts, whether the alarm sounds and the lock is set, and the global flags
pub record Rest : Type 0 where
  pub inputs : Inputs
  pub counts : ℕ → ℕ
  pub alarm : Bool
  pub lock : Bool
  pub flags : List ℕ

pub record Shelf : Type 0 where
  pub parts : (p : Part) → Value p
  pub hosts : ℕ → Host
  pub rest : Rest

pub data State : Type 0 where
  unpowered : State
  powered : Shelf → State

-- a command: who sends it, its CDB, its data, and the room in the reply buffer
pub record Command : Type 0 where
  pub host : ℕ
  pub cdb : List ℕ
  pub payload : List ℕ
  pub room : ℕ

-- power-on has insertion counts and a frame, a sample has a frame
pub data Call : Type 0 where
  power_on : List ℕ → List ℕ → Call
  sample : List ℕ → Call
  reset : Call
  command : Command → Call

-- refused; done, for a call that is no command; or the status of a command with its reply
pub data Answer : Type 0 where
  refused : Refusal → Answer
  done : Answer
  ended : Status → List ℕ → Answer
