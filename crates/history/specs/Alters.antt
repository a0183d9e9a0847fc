-- What a refused call, and a command with CHECK CONDITION, leave as it was.
use Rattle.std.specs.Prelude.{◌≡◌, ℕ, List, [], ◌≢◌}
use Rattle.answers.specs.declared.refusal.Refusal.{Refusal}
use Rattle.answers.specs.declared.status.Status.TheVariants.{CheckCondition}
use Rattle.history.specs.Shelf.{ended, refused, Call, command, Command, Shelf, State, powered, World}
use Rattle.history.specs.Steps.{step}

-- a refused call alters nothing
abbrev pub RefusedAltersNothing : Type 0
RefusedAltersNothing = (w : World) (s : State) (c : Call) (r : Refusal) → (step w s c).answer ≡ refused r → (step w s c).state ≡ s

-- all but what is kept for one host is the same
pub record SameButHost (h : ℕ) (s t : Shelf) : Type 0 where
  pub parts : s.parts ≡ t.parts
  pub rest : s.rest ≡ t.rest
  pub hosts : (k : ℕ) → (k ≢ h) → s.hosts k ≡ t.hosts k

-- after a command with CHECK CONDITION: no bytes were sent, the shelf is still powered, and all but what is kept for the host is the same
pub record Checked (w : World) (s : Shelf) (c : Command) (bs : List ℕ) : Type 0 where
  pub no_bytes : bs ≡ []
  pub after : Shelf
  pub still : (step w (powered s) (command c)).state ≡ powered after
  pub same : SameButHost c.host s after

-- CHECK CONDITION sends no bytes, and alters nothing but that host's sense and pending attention
abbrev pub CheckAltersHost : Type 0
CheckAltersHost = (w : World) (s : Shelf) (c : Command) (bs : List ℕ) → (step w (powered s) (command c)).answer ≡ ended CheckCondition bs → Checked w s c bs
