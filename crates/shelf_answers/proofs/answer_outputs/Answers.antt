use Rattle.std.proofs.Common.{Some, None, ap, ◌∙◌}
use Rattle.std.proofs.lemmas.Result.{IfOk-weaker}
use Rattle.held_shelf.specs.Kept.{kept, outside_of}
use Rattle.outputs_text.specs.Outputs.{outputs_shown}
use Rattle.line_answers.specs.Texts.{numbered}
use Rattle.shelf_answers.specs.Texts.{held_text, shown_text}
use Rattle.shelf_answers.proofs.answer_outputs.Goals as goal

pub returns-in-Some : goal.returns-in-Some
unfolding held_text
returns-in-Some c =
    let shown = outputs_shown (outside_of (kept c.args.shelf.now)) in
    IfOk-weaker c.format.result _ _
    (λ s h. h ∙ ap (λ t. numbered c.args.line (shown_text t (Some c.in-Some.image.now))) c.in_ok-outputs.ensures
    ∙ ap (λ o. numbered c.args.line (shown_text shown o)) c.in-Some.ensures)
    c.format.ensures.ok

pub returns : goal.returns
unfolding held_text
returns c =
    let shown = outputs_shown (outside_of (kept c.args.shelf.now)) in
    IfOk-weaker c.format-in-None.result _ _
    (λ s h. h ∙ ap (λ t. numbered c.args.line (shown_text t None)) c.in_ok-outputs.ensures
    ∙ ap (λ o. numbered c.args.line (shown_text shown o)) c.in-None.ensures)
    c.format-in-None.ensures.ok
