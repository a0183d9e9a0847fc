-- The shelf that a script holds.
use Rattle.std.specs.Prelude.{ℕ, List, Some, None, vec_items, Option}
use Rattle.backplane.specs.Configured.{configured}
use Rattle.backplane.specs.Meaning.{Value}
use Rattle.backplane.specs.declared.configuration.Configuration.{Configuration}
use Rattle.packed.specs.Layout.{fitted_with, outputs_of}
use Rattle.plain.specs.Held.{made_with, value_of}
use Rattle.outputs_text.specs.Outputs.{Outside, outside}
use Rattle.shelf_line.specs.ShelfLine.{Asked, Parts, parts_of}
use Rattle.held_shelf.specs.declared.HeldShelf.{HeldShelf}
use Rattle.held_shelf.specs.declared.HeldShelf.TheVariants as shelf

-- a plain shelf with the value of its backplane, or a packed one with its image
pub data Kept : Type 0 where
  plain : Parts → Value → Kept
  packed : Parts → List ℕ → Kept

-- what the code holds
abbrev pub kept : HeldShelf → Kept
kept (shelf.Plain s) = plain (parts_of s.parts) (value_of s.backplane.configuration s.backplane.tables)
kept (shelf.Packed s) = packed (parts_of s.parts) (vec_items s.image)

-- the configuration that is asked for
abbrev pub configuration_asked : Parts → Configuration
configuration_asked p = configured p.counts p.lock p.alarm p.ids

-- the shelf that a line asks for: with an image it is packed, else plain with all its inputs and outputs 0
abbrev pub made_with_image : Parts → Option (List ℕ) → Kept
made_with_image p None = plain p (made_with (configuration_asked p))
made_with_image p (Some image) = packed p image

abbrev pub made_shelf : Asked → Kept
made_shelf a = made_with_image a.parts a.image

-- what a packed backplane with these parts is fitted with over an image
abbrev pub packed_configuration : Parts → List ℕ → Configuration
packed_configuration p image = fitted_with p.counts p.lock p.alarm p.ids image

-- what is seen of one
abbrev pub packed_outside : Parts → List ℕ → Outside
packed_outside p image = record { configuration = packed_configuration p image; outputs = outputs_of (packed_configuration p image) image }

-- what is seen of a shelf's backplane
abbrev pub outside_of : Kept → Outside
outside_of (plain p v) = outside v
outside_of (packed p image) = packed_outside p image

-- the image of a packed shelf
abbrev pub image_of : Kept → Option (List ℕ)
image_of (plain p v) = None
image_of (packed p image) = Some image
