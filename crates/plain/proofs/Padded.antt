-- What stands after a frame does not matter to its inputs.
use Rattle.std.proofs.Common.{◌≡◌, ℕ, ◌+◌, ◌<◌, Bool, true, false, cond, eqb, ltb, List, ◌++◌, length, get_or, refl, ap, arith, ltb-true}
use Rattle.std.proofs.lemmas.List.{get_or_append_left}
use Rattle.enclosure.specs.declared.conditions.Condition.TheVariants.{Works}
use Rattle.backplane.specs.Meaning.{condition_of}
use Rattle.backplane.specs.Same.{same_inputs}
use Rattle.backplane.specs.declared.configuration.Configuration.{Configuration}
use Rattle.plain.specs.Frame.{fans_at, flags_at, frame_length, inputs_in, supplies_at, temperatures_at}

-- what depends on a byte only where a test holds
where_true : {A : Type 0} (b : Bool) (f : ℕ → A) (d : A) (x y : ℕ) → (b ≡ true → x ≡ y) → cond b (f x) d ≡ cond b (f y) d
where_true true f d x y h = ap f (h refl)
where_true false f d x y h = refl

-- what is read of a byte of the frame for part k of n
same_byte : {A : Type 0} (k n : ℕ) (f : ℕ → A) (d : A) (frame rest : List ℕ) (i : ℕ) → (k < n → i < length frame)
    → cond (ltb k n) (f (get_or (frame ++ rest) i 0)) d ≡ cond (ltb k n) (f (get_or frame i 0)) d
same_byte k n f d frame rest i h = where_true (ltb k n) f d _ _ (λ t. get_or_append_left frame rest 0 i (h (ltb-true k n t)))

pub padded_inputs : (c : Configuration) (frame rest : List ℕ) → length frame ≡ frame_length c → inputs_in c (frame ++ rest) ≡ inputs_in c frame
padded_inputs c frame rest long =
    let n = c.counts in
    same_inputs (inputs_in c (frame ++ rest)) (inputs_in c frame)
    (λ k. same_byte k n.slots (λ b. eqb b 1) false frame rest k (λ l. omega arith))
    (λ k. same_byte k n.fans condition_of Works frame rest (fans_at c + k) (λ l. omega arith))
    (λ k. same_byte k n.supplies condition_of Works frame rest (supplies_at c + k) (λ l. omega arith))
    (λ k. same_byte k n.sensors (λ b. b) 0 frame rest (temperatures_at c + k) (λ l. omega arith))
    (λ k. same_byte k (n.sensors + n.thermostats) (λ b. eqb b 1) false frame rest (flags_at c + k) (λ l. omega arith))
