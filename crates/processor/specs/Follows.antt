-- What a call of a shelf promises: it does as the history of the shelf does.
use Rattle.std.specs.Prelude.{◌≡◌, ℕ, List, Some, None, Ok, Err, Option, Result}
use Rattle.answers.specs.declared.refusal.Refusal.{Refusal}
use Rattle.backplane.specs.Meaning.{Inputs, Value}
use Rattle.backplane.specs.declared.configuration.Configuration.{Configuration}
use Rattle.history.specs.Shelf as history
use Rattle.history.specs.Steps.{step}
use Rattle.hosts.specs.Held.{hosts_of}
use Rattle.replies.specs.Answered.{laid, result_of}
use Rattle.replies.specs.declared.reply.Ended.{Ended}
use Rattle.table.specs.Table.{counts_of, slots_of}
use Rattle.processor.specs.Tied.{Tied}
use Rattle.processor.specs.declared.state.Running.{Running}
use Rattle.processor.specs.declared.state.State.{State}

-- what a shelf keeps while it is powered is tied to the history in each component
abbrev pub TiedRunning : Value → Option Running → history.Shelf → Type 0
TiedRunning v None s = ⊥
TiedRunning v (Some r) s = Tied v (slots_of r.memory.table) (counts_of r.memory.table) (hosts_of r.hosts) r.memory.flags s

-- unpowered as the history is, or powered and tied to it in each component
abbrev pub TiedTo : Value → State → history.State → Type 0
TiedTo v k history.unpowered = k.running ≡ None
TiedTo v k (history.powered s) = TiedRunning v k.running s

-- what the history of a shelf knows: its configuration, the reading of its backplane and its identity bytes
abbrev pub world_of : (Configuration → List ℕ → Option Inputs) → Value → State → history.World
world_of reading v k = record { configuration = v.configuration; reading = reading v.configuration; identity = k.identity }

-- the answer is the history's, the buffer holds the reply bytes and then what it held, and the shelf is then tied to the history's next state
pub record Commanded (w : history.World) (s : history.State) (c : history.Command) (old new : List ℕ) (r : Result Ended Refusal) (v : Value) (k : State) : Type 0 where
  pub says : r ≡ result_of (step w s (history.command c)).answer
  pub lays : new ≡ laid (step w s (history.command c)).answer old
  pub ties : TiedTo v k (step w s (history.command c)).state

-- a refused call leaves the backplane's value, the shelf and the buffer as they were
abbrev pub Unaltered : {X : Type 0} → Result X Refusal → Value → Value → State → State → Type 0
Unaltered (Ok x) v v' k k' = Unit {0}
Unaltered (Err r) v v' k k' = (v' ≡ v) × (k' ≡ k)

abbrev pub Untouched : {X : Type 0} → Result X Refusal → List ℕ → List ℕ → Type 0
Untouched (Ok x) old new = Unit {0}
Untouched (Err r) old new = new ≡ old

-- what a call that is no command returns, by its answer
abbrev pub done_of : history.Answer → Result (Unit {0}) Refusal
done_of (history.refused r) = Err r
done_of history.done = Ok tt
done_of (history.ended s bs) = Ok tt

-- the answer is the history's, and the shelf is then tied to the history's next state
pub record Called (w : history.World) (s : history.State) (c : history.Call) (r : Result (Unit {0}) Refusal) (v : Value) (k : State) : Type 0 where
  pub says : r ≡ done_of (step w s c).answer
  pub ties : TiedTo v k (step w s c).state
