use Rattle.std.proofs.Common.{◌≡◌, ℕ, ◌<◌, cond, ltb, get_or}
use Rattle.history.specs.Steps.{first_slot}
use Rattle.table.specs.Table.{counts_of, slots_of}
use Rattle.driving.proofs.frames.start_slots.Given as goal

abbrev pub invariant-loop-k : goal.invariant-loop-k
invariant-loop-k g l =
    ((k : ℕ) → k < 14 → slots_of l.table k ≡ cond (ltb k l.k) (first_slot ((g.B.Backplane.value l.b).inputs.present k)) (slots_of l.initial.table k))
    × ((k : ℕ) → k < 14 → counts_of l.table k ≡ cond (ltb k l.k) (get_or l.counts k 0) (counts_of l.initial.table k))
