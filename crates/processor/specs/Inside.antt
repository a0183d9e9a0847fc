-- What a shelf holds: the value of its backplane, and what it keeps; and what its calls promise of both.
use Rattle.std.specs.Prelude.{◌≡◌, ℕ, List, Some, Option, Result}
use Rattle.answers.specs.declared.refusal.Refusal.{Refusal}
use Rattle.backplane.specs.Meaning.{Inputs, Value}
use Rattle.backplane.specs.declared.configuration.Configuration.{Configuration}
use Rattle.history.specs.Shelf as history
use Rattle.replies.specs.declared.reply.Ended.{Ended}
use Rattle.processor.specs.Follows.{Called, Commanded, TiedTo, Unaltered, world_of}
use Rattle.processor.specs.declared.shelf.Shelf.{Shelf}
use Rattle.processor.specs.declared.state.Running.{Running}
use Rattle.processor.specs.declared.state.State.{State}

abbrev pub value_in : {B : Type 0} → (B → Value) → Shelf B → Value
value_in value s = value s.backplane.now

abbrev pub state_in : {B : Type 0} → Shelf B → State
state_in s = s.state

-- a powered shelf
abbrev pub powered_by : Running → List ℕ → State
powered_by r identity = record { running = Some r; identity = identity }

-- a call does as the history does, wherever what is kept before it is tied to the history
abbrev pub FollowsIn : (Configuration → List ℕ → Option Inputs) → Value → State → history.Call → Result (Unit {0}) Refusal → Value → State → Type 0
FollowsIn reading v k call r v' k' = (s : history.State) → TiedTo v k s → Called (world_of reading v k) s call r v' k'

-- likewise a command, whose reply bytes are laid in a buffer
abbrev pub CommandedIn : (Configuration → List ℕ → Option Inputs) → Value → State → history.Command → List ℕ → List ℕ → Result Ended Refusal → Value → State → Type 0
CommandedIn reading v k command held laid r v' k' = (s : history.State) → TiedTo v k s → Commanded (world_of reading v k) s command held laid r v' k'

-- the two of a shelf
abbrev pub Follows : {B : Type 0} → (B → Value) → (Configuration → List ℕ → Option Inputs) → Shelf B → history.Call → Result (Unit {0}) Refusal → Shelf B → Type 0
Follows value reading old call r new = FollowsIn reading (value_in value old) (state_in old) call r (value_in value new) (state_in new)

abbrev pub FollowsCommand : {B : Type 0} → (B → Value) → (Configuration → List ℕ → Option Inputs) → Shelf B → history.Command → List ℕ → List ℕ → Result Ended Refusal → Shelf B → Type 0
FollowsCommand value reading old command held laid r new = CommandedIn reading (value_in value old) (state_in old) command held laid r (value_in value new) (state_in new)

-- a refused call leaves the backplane's value and the shelf as they were
abbrev pub IsUnaltered : {B X : Type 0} → (B → Value) → Result X Refusal → Shelf B → Shelf B → Type 0
IsUnaltered value r old new = Unaltered r (value_in value old) (value_in value new) (state_in old) (state_in new)

-- what no call alters: the configuration, what stands beside the outputs, the identity bytes, and which backplane is held
pub record Keeps {B : Type 0} (value : B → Value) (old new : Shelf B) : Type 0 where
  pub configuration : (value_in value new).configuration ≡ (value_in value old).configuration
  pub beside : (value_in value new).beside ≡ (value_in value old).beside
  pub identity : (state_in new).identity ≡ (state_in old).identity
  pub held : new.backplane.ghost_name ≡ old.backplane.ghost_name
