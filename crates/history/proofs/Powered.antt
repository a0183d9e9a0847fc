-- A shelf is powered exactly from its first accepted power-on on.
use Rattle.std.proofs.Common.{◌≡◌, ℕ, Bool, true, ◌||◌, eqb, List, [], ◌∷◌, length, Some, None, Option, refl}
use Rattle.std.proofs.lemmas.Bool.{cond_both}
use Rattle.backplane.specs.Meaning.{Inputs}
use Rattle.history.specs.Shelf.{Call, power_on, sample, reset, command, Shelf, State, unpowered, powered, World}
use Rattle.history.specs.Steps.{History, Outcome, fed, new, powered_by, run, sampled_by, step}
use Rattle.history.specs.Log.{powered_in, powers_on}
use Rattle.history.specs.Kept.{PoweredKept, is_powered}

module _ (w : World) (b : Bool) where
  abbrev After : Call → Outcome → Type 0
  After c o = is_powered o.state ≡ (powers_on c o.answer || b)

  powered_after : (s : State) (counts frame : List ℕ) → is_powered s ≡ b → (o : Option Inputs) → After (power_on counts frame) (powered_by s counts o)
  powered_after s counts frame h (Some q) = refl
  powered_after s counts frame h None = h

  sampled_after : (s : Shelf) (frame : List ℕ) → true ≡ b → (o : Option Inputs) → After (sample frame) (sampled_by s o)
  sampled_after s frame h (Some q) = h
  sampled_after s frame h None = h

  step_after : (s : State) (c : Call) → is_powered s ≡ b → After c (step w s c)
  step_after s (power_on counts frame) h =
      cond_both (eqb w.configuration.counts.slots 0) _ _ (After (power_on counts frame)) (λ _. h) λ _.
      cond_both (eqb (length counts) w.configuration.counts.slots) _ _ (After (power_on counts frame)) (λ _. powered_after s counts frame h (w.reading frame)) (λ _. h)
  step_after unpowered (sample frame) h = h
  step_after (powered s) (sample frame) h = sampled_after s frame h (w.reading frame)
  step_after unpowered reset h = h
  step_after (powered s) reset h = h
  step_after unpowered (command c) h = h
  step_after (powered s) (command c) h = h

run_after : (w : World) (calls : List Call) (h : History) → is_powered h.state ≡ powered_in h.log → is_powered (run w h calls).state ≡ powered_in (run w h calls).log
run_after w [] h e = e
run_after w (c ∷ calls) h e = run_after w calls (fed w h c) (step_after w (powered_in h.log) h.state c e)

pub powered_kept : PoweredKept
powered_kept w calls = run_after w calls new refl
