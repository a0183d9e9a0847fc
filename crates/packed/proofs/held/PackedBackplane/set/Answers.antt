use Rattle.std.proofs.Common.{◌≡◌, true, is_ok, sym, ◌∙◌, rules}
use Rattle.backplane.specs.Meaning.{fits}
use Rattle.packed.specs.Layout.{cell_of, fitted}
use Rattle.packed.proofs.Places.{cell_fits, put_done, put_there, value_after}
use Rattle.packed.proofs.held.PackedBackplane.set.Goals as goal

pub returns-then-fits-clause-says : goal.returns-then-fits-clause-says
returns-then-fits-clause-says c =
    let s = c.args.self.now in
    let g : fits (fitted s.configuration s.image.now) c.args.at c.args.number ≡ true = search rules in
    let e : is_ok c.put.result ≡ true = put_done s.image.now c.place.result (cell_of c.args.at) c.args.number c.put.result c.place.ensures c.put.ensures.fits (cell_fits s.configuration s.image.now c.args.at c.args.number g) in
    c.map_err.ensures.variant ∙ e ∙ sym g

pub returns-then-fits-clause-does : goal.returns-then-fits-clause-does
returns-then-fits-clause-does c =
    let s = c.args.self.now in
    let old = s.image.now in
    let g : fits (fitted s.configuration old) c.args.at c.args.number ≡ true = search rules in
    let room = cell_fits s.configuration old c.args.at c.args.number g in
    let w = put_there old c.put.new.image c.place.result (cell_of c.args.at) c.args.number c.put.result c.place.ensures c.put.ensures.fits room c.put.ensures.image in
    value_after s.configuration s.frame old c.put.new.image s.image.ghost_name c.args.at c.args.number g w
