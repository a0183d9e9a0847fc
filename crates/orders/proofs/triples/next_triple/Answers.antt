use Rattle.std.proofs.Common.{◌≡◌, ℕ, ◌≤◌, List, length, Some, Option, ap₂, rules}
use Rattle.std.proofs.lemmas.List.{take_rest}
use Rattle.std.proofs.lemmas.Bool.{le-ltb}
use Rattle.enclosure.specs.declared.record.rows.Row.{Row}
use Rattle.history.specs.Orders.{triple_in}
use Rattle.orders.proofs.triples.next_triple.Goals as goal

pub returns-in-len3-up : goal.returns-in-len3-up
returns-in-len3-up c =
    let xs = c.args.bytes.now in
    let l : 3 ≤ length xs = search rules in
    let e : c.row.result ≡ triple_in xs 0 = c.row.ensures in
    rw (le-ltb (length xs) 3 l) (ap₂ {C = Option (Row × List ℕ)} (λ (t : Row) (ys : List ℕ). Some (t, ys)) e (take_rest xs 3))
