use Rattle.std.proofs.Common.{◌≡◌}
use Rattle.showing.specs.Shown.{slot_number, slots_below}
use Rattle.startup.specs.Started.{made_where}
use Rattle.table.specs.Table.{slots_of}
use Rattle.showing.proofs.show_slots.Given as goal

abbrev pub invariant-loop-k : goal.invariant-loop-k
invariant-loop-k g l = g.B.Backplane.value l.b ≡ made_where (slots_below l.k) (slot_number (slots_of l.table)) (g.B.Backplane.value l.initial.b)
