-- Slots before one done, and one more.
use Rattle.std.proofs.Common.{◌≡◌, ℕ, ◌+◌, ◌*◌, ◌<◌, cond, ◌&&◌, eqb, ltb, List, length, arith}
use Rattle.std.proofs.lemmas.Bool.Decides.{nat_tests}
use Rattle.enclosure.specs.declared.record.rows.Row.{Row}
use Rattle.history.specs.Orders.{triple_in}
use Rattle.history.specs.Shelf.{Slot}
use Rattle.table.specs.Rows.{replaced}

module _ (old now : ℕ → Slot) (bs : List ℕ) (k : ℕ)
    (inv : (j : ℕ) → j < 14 → now j ≡ cond (ltb j k && ltb (3 * j + 2) (length bs)) (replaced (triple_in bs j) (old j)) (old j)) where
  pub stored_more : (next : ℕ → Slot) (t : Row) → t ≡ triple_in bs k → 3 * k + 2 < length bs
      → ((j : ℕ) → j < 14 → next j ≡ cond (eqb j k) (replaced t (now j)) (now j))
      → (j : ℕ) → j < 14 → next j ≡ cond (ltb j (k + 1) && ltb (3 * j + 2) (length bs)) (replaced (triple_in bs j) (old j)) (old j)
  stored_more next t is m step j l = let i = inv j l in let s = step j l in grind (arith, nat_tests)
