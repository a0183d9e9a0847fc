-- What part k of a run reads as, for every kind.
use Rattle.std.proofs.Common.{◌≡◌, ℕ, ◌+◌, ◌*◌, ◌<◌, ◌≤◌, List, length, get_or, Some, Option, ap, ◌∙◌}
use Rattle.std.specs.List.{flat_map}
use Rattle.part_runs.specs.Runs.{over, part_bytes}
use Rattle.part_runs.proofs.Over.{over_at}

-- part k of a run that was laid is the very part
pub part_back : {X : Type 0} (laid : X → List ℕ) (reads : List ℕ → Option X) (w : ℕ) → ((x : X) → length (laid x) ≡ w) → ((x : X) → reads (laid x) ≡ Some x)
    → (page : List ℕ) (at k : ℕ) (r : Option X) → r ≡ reads (part_bytes w page at k)
    → (old : List ℕ) (xs : List X) (x : X) → at + length xs * w ≤ length old → page ≡ over old at (flat_map laid xs) → k < length xs → x ≡ get_or xs k x → r ≡ Some x
part_back laid reads w wide back page at k r is old xs x fit e l here =
    is ∙ ap reads (over_at laid w wide old page at xs k x fit e l here) ∙ back x
