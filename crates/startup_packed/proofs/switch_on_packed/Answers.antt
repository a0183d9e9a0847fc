use Rattle.std.proofs.Common.{ap, ◌∙◌, rules}
use Rattle.bits.specs.Image.{bit}
use Rattle.packed.specs.Frame.{reading}
use Rattle.packed.specs.Layout.{fitted_over}
use Rattle.packed.proofs.Begun.{few_fitted}
use Rattle.startup.specs.Started.{switched_on}
use Rattle.startup_packed.proofs.Switched.{at_same, told}
use Rattle.startup_packed.proofs.switch_on_packed.Goals as goal

pub returns-clause-bits : goal.returns-clause-bits
returns-clause-bits c =
    let old = c.args.image.now in
    let frame = c.args.frame.now in
    let parts = fitted_over c.args.fittings old in
    let last = c.switch_on.new.b in
    let total = c.switch_on.ensures.does ∙ ap (λ v. switched_on v (reading v.configuration frame)) c.new-b.ensures.shows in
    let e = told parts last.configuration (few_fitted c.args.fittings old) frame last.frame old last.image.now _ last.image.ghost_name total in
    λ k. at_same (λ i. bit i k) last.image.now _ _ (search rules) (e.bits k)
