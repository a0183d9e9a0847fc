use Rattle.packed.proofs.Whole.{after_set}
use Rattle.packed.proofs.held.Packed.write.Goals as goal

pub returns-clause-bits : goal.returns-clause-bits
returns-clause-bits c =
    let s = c.args.self.now in
    let t = c.set.new.self in
    after_set s.configuration t.configuration s.frame t.frame s.image.now t.image.now s.image.ghost_name t.image.ghost_name c.args.at c.args.number c.set.ensures.does
