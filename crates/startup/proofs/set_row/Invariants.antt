use Rattle.std.proofs.Common.{◌≡◌, ℕ}
use Rattle.backplane.specs.Rows.{place_in, row_below}
use Rattle.backplane.specs.declared.places.Output.{Output}
use Rattle.startup.specs.Started.{made_where}
use Rattle.startup.proofs.set_row.Given as goal

abbrev pub invariant-loop-k : goal.invariant-loop-k
invariant-loop-k g l =
    (f : Output → ℕ) → ((k : ℕ) → f (place_in l.row k) ≡ l.number) → g.B.Backplane.value l.b ≡ made_where (row_below l.row l.k) f (g.B.Backplane.value l.initial.b)
