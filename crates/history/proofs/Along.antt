-- What holds of each shelf that a list of calls leads to: one induction for every law.
use Rattle.std.proofs.Common.{◌≡◌, ℕ, false, eqb, List, [], ◌∷◌, length, Some, None, Option, refl, subst}
use Rattle.std.proofs.lemmas.Bool.{cond_both}
use Rattle.answers.specs.declared.refusal.Refusal.{Refusal}
use Rattle.answers.specs.declared.refusal.Refusal.TheVariants as refusal
use Rattle.backplane.specs.Meaning.{Inputs}
use Rattle.history.specs.Shelf.{done, refused, Call, power_on, sample, reset, command, Command, Shelf, State, unpowered, powered, World}
use Rattle.history.specs.Steps.{Entry, History, Outcome, commanded, entry, fed, history, new, powered_by, replied, restarted, run, sampled, sampled_by, started, step}

-- each accepted power-on makes it hold, each other call keeps it
pub record Along (w : World) (P : Shelf → List Entry → Type 0) : Type 0 where
  pub starts : (log : List Entry) (counts frame : List ℕ) (q : Inputs) → eqb w.configuration.counts.slots 0 ≡ false → w.reading frame ≡ Some q
      → P (started counts q) (entry (power_on counts frame) done ∷ log)
  pub samples : (s : Shelf) (log : List Entry) (frame : List ℕ) (q : Inputs) → w.reading frame ≡ Some q → P s log → P (sampled q s) (entry (sample frame) done ∷ log)
  pub resets : (s : Shelf) (log : List Entry) → P s log → P (restarted s) (entry reset done ∷ log)
  pub commands : (s : Shelf) (log : List Entry) (c : Command) → P s log → P (commanded w s c) (entry (command c) (replied w s c) ∷ log)
  pub refusals : (s : Shelf) (log : List Entry) (c : Call) (r : Refusal) → P s log → P s (entry c (refused r) ∷ log)

module _ (w : World) (P : Shelf → List Entry → Type 0) (k : Along w P) where
  abbrev Over : State → List Entry → Type 0
  Over unpowered log = Unit {0}
  Over (powered s) log = P s log

  abbrev After : Call → List Entry → Outcome → Type 0
  After c log o = Over o.state (entry c o.answer ∷ log)

  refused_over : (s : State) (log : List Entry) (c : Call) (r : Refusal) → Over s log → Over s (entry c (refused r) ∷ log)
  refused_over unpowered log c r h = tt
  refused_over (powered s) log c r h = k.refusals s log c r h

  powered_over : (s : State) (log : List Entry) (counts frame : List ℕ) → eqb w.configuration.counts.slots 0 ≡ false → Over s log → (o : Option Inputs) → w.reading frame ≡ o
      → After (power_on counts frame) log (powered_by s counts o)
  powered_over s log counts frame z h (Some q) e = k.starts log counts frame q z e
  powered_over s log counts frame z h None e = refused_over s log (power_on counts frame) refusal.Frame h

  sampled_over : (s : Shelf) (log : List Entry) (frame : List ℕ) → P s log → (o : Option Inputs) → w.reading frame ≡ o → After (sample frame) log (sampled_by s o)
  sampled_over s log frame h (Some q) e = k.samples s log frame q e h
  sampled_over s log frame h None e = k.refusals s log (sample frame) refusal.Frame h

  step_over : (s : State) (log : List Entry) (c : Call) → Over s log → After c log (step w s c)
  step_over s log (power_on counts frame) h =
      cond_both (eqb w.configuration.counts.slots 0) _ _ (After (power_on counts frame) log) (λ _. refused_over s log _ refusal.NoSlots h) λ z.
      cond_both (eqb (length counts) w.configuration.counts.slots) _ _ (After (power_on counts frame) log)
      (λ _. powered_over s log counts frame z h (w.reading frame) refl) (λ _. refused_over s log _ refusal.Counts h)
  step_over unpowered log (sample frame) h = tt
  step_over (powered s) log (sample frame) h = sampled_over s log frame h (w.reading frame) refl
  step_over unpowered log reset h = tt
  step_over (powered s) log reset h = k.resets s log h
  step_over unpowered log (command c) h = tt
  step_over (powered s) log (command c) h = k.commands s log c h

  run_over : (cs : List Call) (h : History) → Over h.state h.log → Over (run w h cs).state (run w h cs).log
  run_over [] h o = o
  run_over (c ∷ cs) h o = run_over cs (fed w h c) (step_over h.state h.log c o)

  pub along : (calls : List Call) (s : Shelf) → (history w calls).state ≡ powered s → P s (history w calls).log
  along calls s e = subst (λ (x : State). Over x (history w calls).log) e (run_over calls new tt)
