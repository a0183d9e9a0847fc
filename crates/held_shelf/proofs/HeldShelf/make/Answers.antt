use Rattle.std.proofs.Common.{◌≡◌, vec_items, sym, ap, ◌∙◌}
use Rattle.std.specs.Option.{option_map}
use Rattle.backplane.specs.Configured.{asked}
use Rattle.plain.specs.Held.{made_with}
use Rattle.shelf_line.specs.ShelfLine.{parts_of}
use Rattle.held_shelf.specs.Kept.{configuration_asked, made_with_image, plain}
use Rattle.held_shelf.proofs.HeldShelf.make.Goals as goal

pub returns-in-None : goal.returns-in-None
returns-in-None c =
    let parts = parts_of c.args.asked.parts in
    let e : asked c.fittings.result ≡ configuration_asked parts = cc in
    ap (plain parts) (c.new-backplane.ensures.holds ∙ ap made_with e) ∙ ap (λ o. made_with_image parts (option_map vec_items o)) (sym c.in-None.is)
