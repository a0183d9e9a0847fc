use Rattle.std.proofs.Common.{◌+◌, take, ap, ◌∙◌, rules}
use Rattle.backplane.specs.Meaning.{output_of}
use Rattle.backplane.specs.declared.configuration.Configuration.{Configuration}
use Rattle.backplane.specs.declared.places.Output.TheVariants.{Alarm, Lock}
use Rattle.history.specs.Replies.{status_of}
use Rattle.pages.specs.Pages.{status_page}
use Rattle.shelf_pages.specs.Held.{set_if, status_parts, status_rest}
use Rattle.shelf_pages.proofs.Fronts.{front}
use Rattle.shelf_pages.proofs.Statuses.{same_status, set_fitted}
use Rattle.shelf_pages.proofs.status.Goals as goal

pub returns : goal.returns
returns g c =
    let v = g.B.Backplane.value c.args.b.now in
    let s = status_of v.configuration (status_parts v) (status_rest v) in
    let k = c.configuration-c.ensures in
    let e = same_status _ s
    (ap (λ (p : Configuration). take p.counts.fans c.fan_codes.result) k ∙ c.fan_codes.ensures)
    (ap (λ (p : Configuration). take p.counts.supplies c.supply_codes.result) k ∙ c.supply_codes.ensures)
    (ap (λ (p : Configuration). take p.counts.slots c.ids.result) k ∙ c.ids.ensures)
    (c.if_fitted.ensures ∙ ap (set_if _) c.output.ensures ∙ ap (λ (p : Configuration). set_if p.lock (output_of v Lock)) k ∙ set_fitted v.configuration.lock (v.outputs Lock))
    (c.if_fitted-2.ensures ∙ ap (set_if _) c.output-2.ensures ∙ ap (λ (p : Configuration). set_if p.alarm (output_of v Alarm)) k ∙ set_fitted v.configuration.alarm (v.outputs Alarm))
    (ap (λ (p : Configuration). take p.counts.sensors c.temperatures.result) k ∙ c.temperatures.ensures)
    (ap (λ (p : Configuration). take (p.counts.sensors + p.counts.thermostats) c.over_temperature.result) k ∙ c.over_temperature.ensures) in
    front _ _ c.args.buffer.now _ _ _ (search rules) (search rules) c.lay_status.ensures.len c.lay_status.ensures.page c.unwrap_or.ensures (ap status_page e)
