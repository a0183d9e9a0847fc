use Rattle.std.proofs.Common.{◌++◌, codes, ap, ◌∙◌}
use Rattle.std.proofs.lemmas.Result.{IfOk-weaker}
use Rattle.outputs_text.specs.Outputs.{numbers_text}
use Rattle.line_answers.specs.Texts.{numbered}
use Rattle.shelf_answers.specs.Texts.{made_text}
use Rattle.shelf_answers.proofs.answer_shelf.Goals as goal

pub returns : goal.returns
unfolding made_text
returns c =
    let lamps = c.as_slice.ensures.value ∙ ap (λ s. s.lamps) c.in_ok-outputs.ensures in
    IfOk-weaker c.format.result _ _
    (λ s h. h ∙ ap (λ ns. numbered c.args.line (codes "shelf: made; lamps " ++ numbers_text ns)) lamps)
    c.format.ensures.ok
