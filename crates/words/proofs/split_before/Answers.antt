use Rattle.std.proofs.Common.{◌≡◌, refl}
use Rattle.std.proofs.lemmas.Fn.{says_at}
use Rattle.std.proofs.lemmas.Iterator.{YieldsList-from_slice}
use Rattle.std.proofs.lemmas.Iterator.Search.{position_from_yields_List}
use Rattle.std.specs.List.{position}
use Rattle.words.proofs.Pieces.{front_found}
use Rattle.words.proofs.split_before.Goals as goal

pub returns-clause-front : goal.returns-clause-front
returns-clause-front g c test is =
    let text = c.args.text.now in
    let at : c.position.result ≡ position test text =
    position_from_yields_List test _ _ c.position.result c.position.ensures.ran (YieldsList-from_slice text c.iter.ensures.rest)
    (λ x b q k. (g.met.F.Fn.1.step_stays _ _ _ _ k, is x.now b (says_at g.F.Fn ((g.met.F.FnMut.1.post_iff _ _ _).1 (q, k)) refl))) in
    front_found test text c.split_at.result.0.now c.position.result c.unwrap_or-end.result at c.unwrap_or-end.ensures c.split_at.ensures.front
