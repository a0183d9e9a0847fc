use Rattle.std.proofs.Common.{◌≡◌, ℕ, ◌+◌, ◌*◌, ◌<◌, cond, ◌&&◌, ltb, length}
use Rattle.history.specs.Orders.{triple_in}
use Rattle.table.specs.Rows.{replaced}
use Rattle.table.specs.Table.{counts_of, slots_of}
use Rattle.table.proofs.rows.Table.store.Given as goal

-- the slots before k are done
abbrev pub invariant-loop-k : goal.invariant-loop-k
invariant-loop-k l =
    ((j : ℕ) → j < 14 → slots_of l.self j ≡ cond (ltb j l.k && ltb (3 * j + 2) (length l.triples)) (replaced (triple_in l.triples j) (slots_of l.initial.self j)) (slots_of l.initial.self j))
    × (counts_of l.self ≡ counts_of l.initial.self)
