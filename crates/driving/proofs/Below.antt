-- Places below one done, and one more.
use Rattle.std.proofs.Common.{◌≡◌, ℕ, ◌+◌, ◌<◌, cond, eqb, ltb, arith}
use Rattle.std.proofs.lemmas.Bool.Decides.{nat_tests}

module _ {X : Type 0} (old now next f : ℕ → X) (k : ℕ) (inv : (j : ℕ) → j < 14 → now j ≡ cond (ltb j k) (f j) (old j))
    (g : ℕ → X → X) (step : (j : ℕ) → j < 14 → next j ≡ cond (eqb j k) (g j (now j)) (now j)) (is : g k (old k) ≡ f k) where
  pub one_more : (j : ℕ) → j < 14 → next j ≡ cond (ltb j (k + 1)) (f j) (old j)
  one_more j l = let i = inv j l in let s = step j l in grind (arith, nat_tests)
