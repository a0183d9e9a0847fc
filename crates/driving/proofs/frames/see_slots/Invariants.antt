use Rattle.std.proofs.Common.{◌≡◌, ℕ, ◌<◌, cond, ltb}
use Rattle.enclosure.specs.Slots.{inserted}
use Rattle.history.specs.Steps.{sampled_slot}
use Rattle.table.specs.Table.{counted, counts_of, slots_of}
use Rattle.driving.proofs.frames.see_slots.Given as goal

abbrev pub invariant-loop-k : goal.invariant-loop-k
invariant-loop-k g l =
    ((k : ℕ) → k < 14 → slots_of l.table k ≡ cond (ltb k l.k) (sampled_slot (inserted (slots_of l.initial.table k).state) ((g.B.Backplane.value l.b).inputs.present k) (slots_of l.initial.table k)) (slots_of l.initial.table k))
    × ((k : ℕ) → k < 14 → counts_of l.table k ≡ cond (ltb k l.k) (counted (inserted (slots_of l.initial.table k).state) ((g.B.Backplane.value l.b).inputs.present k) (counts_of l.initial.table k)) (counts_of l.initial.table k))
