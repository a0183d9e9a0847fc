use Rattle.std.proofs.Common.{◌≡◌, ℕ, ◌/◌, ◌<◌, List, [], length, get_or, ap, ◌∙◌, arith, rules}
use Rattle.std.proofs.lemmas.List.{get_or-take}
use Rattle.history.specs.Orders.{triple_in}
use Rattle.orders.proofs.Sound.{chunk_triple}
use Rattle.table.specs.Table.{slots_of}
use Rattle.table.proofs.Stored.{stored_more}
use Rattle.table.proofs.rows.Table.store.Goals as goal

pub loop-k-preserved : goal.loop-k-preserved
loop-k-preserved c =
    let bs = c.args.triples.now in
    let k = c.loop-k.k in
    let l : k < length bs / 3 = search rules in
    let e : c.row.result ≡ triple_in bs k =
    c.row.ensures
    ∙ ap (λ (t : List ℕ). triple_in t 0) (get_or-take c.min.result c.as_chunks.result.0.now k [] (search rules))
    ∙ ap (λ (ts : List (List ℕ)). triple_in (get_or ts k []) 0) c.as_chunks.ensures.front
    ∙ chunk_triple (length bs / 3) k bs [] l in (
      stored_more (slots_of c.args.self.now) (slots_of c.loop-k.self) bs k c.loop-k.invariant.0 (slots_of c.replace.new.self) c.row.result e (omega arith) c.replace.ensures.slots,
      c.replace.ensures.counts ∙ c.loop-k.invariant.1,
    )
