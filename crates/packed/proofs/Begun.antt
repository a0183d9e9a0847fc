-- What a packed backplane means as it is made.
use Rattle.std.proofs.Common.{◌≡◌, ℕ, ◌+◌, ◌/◌, ◌%◌, ◌^◌, eqb, ltb, leb, List, length, replicate, ap, ◌∙◌, subst}
use native.Mathlib.Nat.{zero-div}
use base.Fml.{GName}
use Rattle.bits.specs.Image.{bit, bit_at, half, half_at}
use Rattle.backplane.specs.Configured.{asked}
use Rattle.backplane.specs.Few.{few}
use Rattle.backplane.specs.Meaning.{Bounded, condition_of, no_inputs}
use Rattle.backplane.specs.Same.{same_inputs}
use Rattle.backplane.specs.declared.configuration.Configuration.{Configuration}
use Rattle.backplane.specs.declared.configuration.Fittings.{Fittings}
use Rattle.backplane.proofs.Kept.{filled, kept_configured, unset}
use Rattle.packed.specs.Frame.{inputs_in}
use Rattle.packed.specs.Layout.{beside_of, fitted, fitted_over, made_over, outputs_of, value_of}

no_half : (k : ℕ) → half (replicate 33 0) k ≡ 0
no_half k = ap (λ b. half_at b (k % 2)) (filled 33 0 (k / 2)) ∙ ap (λ x. x % 16) (zero-div (16 ^ (k % 2)))

no_bit : (k : ℕ) → bit (replicate 33 0) k ≡ bit_at 0 0
no_bit k = ap (λ b. bit_at b (k % 8)) (filled 33 0 (k / 8)) ∙ ap (λ x. eqb (x % 2) 1) (zero-div (2 ^ (k % 8)))

empty_inputs : (c : Configuration) → inputs_in c (replicate 33 0) ≡ no_inputs
empty_inputs c =
    let n = c.counts in
    same_inputs (inputs_in c (replicate 33 0)) no_inputs
    (λ k. unset (ltb k n.slots) _ _ (no_bit k))
    (λ k. unset (ltb k n.fans) _ _ (ap condition_of (no_half (4 + k))))
    (λ k. unset (ltb k n.supplies) _ _ (ap condition_of (no_half (20 + k))))
    (λ k. unset (ltb k n.sensors) _ _ (filled 33 0 (14 + k)))
    (λ k. unset (ltb k (n.sensors + n.thermostats)) _ _ (no_bit (232 + k)))

pub made_value : (c : Configuration) (f : Fittings) (image : List ℕ) (lender : GName) → c ≡ asked f
    → value_of c (replicate 33 0) image lender ≡ made_over (fitted_over f image) image lender
made_value c f image lender is =
    let k : fitted c image ≡ fitted_over f image = ap (λ x. fitted x image) is ∙ kept_configured f.counts f.lock f.alarm f.ids.now (leb 19 (length image)) in
    ap (λ i. record { configuration = fitted c image; inputs = i; outputs = outputs_of (fitted c image) image; beside = beside_of (fitted c image) image lender }) (empty_inputs (fitted c image))
    ∙ ap (λ x. made_over x image lender) k

-- and what it is fitted with is bounded
pub few_fitted : (f : Fittings) (image : List ℕ) → Bounded (fitted_over f image)
few_fitted f image =
    subst Bounded (kept_configured f.counts f.lock f.alarm f.ids.now (leb 19 (length image))) (few (asked f) (leb 19 (length image)))
