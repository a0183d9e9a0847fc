-- The first of a list of values.
use Rattle.std.proofs.Common.{◌≡◌, ℕ, zero, suc, ◌≤◌, [], ◌∷◌, take, sym, ap, ◌∙◌, inl, inr, arith}
use Rattle.std.proofs.lemmas.List.{take_all, take-append-le}
use Rattle.std.proofs.lemmas.Bool.{cases_lt}
use Rattle.history.specs.Replies.{listed}
use Rattle.history.proofs.Listed.{listed_length}

pub take_listed : {X : Type 0} (f : ℕ → X) (n m : ℕ) → n ≤ m → take n (listed f m) ≡ listed f n
take_listed f n zero l = let z : n ≡ 0 = omega arith in ap (λ k. take k (listed f zero)) z ∙ sym (ap (listed f) z)
take_listed f n (suc m) l =
    elim (cases_lt n (suc m)) [
      | inl b ↦ take-append-le n (listed f m) (f m ∷ []) (omega (arith, listed_length f m)) ∙ take_listed f n m (omega arith)
      | inr g ↦ (let z : n ≡ suc m = omega arith in take_all n (listed f (suc m)) (omega (arith, listed_length f (suc m))) ∙ sym (ap (listed f) z))
    ]
