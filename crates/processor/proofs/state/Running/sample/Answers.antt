use Rattle.std.proofs.Common.{◌≡◌, true, refl, rules}
use Rattle.backplane.specs.Meaning.{reads_well}
use Rattle.processor.specs.Follows.{world_of}
use Rattle.processor.specs.Inside.{powered_by}
use Rattle.processor.proofs.Sampling.{sample_follows}
use Rattle.processor.proofs.state.Running.sample.Goals as goal

pub returns-clause-follows : goal.returns-clause-follows
returns-clause-follows g c =
    let v = g.B.Backplane.value c.args.b.now in
    let r = c.args.self.now in
    λ identity s t.
    let k = powered_by r identity in
    let w = world_of g.B.Backplane.reading v k in
    let well : reads_well (w.reading c.args.frame.now) ≡ true = search rules in
    sample_follows w v (g.B.Backplane.bounded c.args.b.now).slots k _ r _ refl refl c.args.frame.now (g.B.Backplane.value c.sample.new.self) (g.B.Backplane.value c.show_slots.new.b)
    well c.sample.ensures.does c.see_slots.ensures.slots c.see_slots.ensures.counts c.show_slots.ensures refl refl s t
