use Rattle.std.proofs.Common.{◌≡◌, ◌<◌, ap, ◌∙◌, rules}
use Rattle.backplane.specs.Meaning.{Value, put}
use Rattle.backplane.specs.Rows.{place_in, row_length}
use Rattle.startup.proofs.Rows.{row_more}
use Rattle.startup.proofs.set_row.Goals as goal

pub loop-k-preserved : goal.loop-k-preserved
loop-k-preserved g c f each =
    let v = g.B.Backplane.value c.args.b.now in
    let row = c.args.row in
    let n = c.args.number in
    let there : c.loop-k.k < row_length row v.configuration = search rules in
    let at : c.place.result ≡ place_in row c.loop-k.k = search rules in
    c.set.ensures.does ∙ ap (λ o. put (g.B.Backplane.value c.loop-k.b) o n) at ∙ ap (λ (u : Value). put u (place_in row c.loop-k.k) n) (c.loop-k.invariant f each)
    ∙ row_more row f n v c.loop-k.k each there c.requires
