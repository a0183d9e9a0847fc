-- Where a packed backplane keeps its outputs: the caller's image of 19 bytes.
use Rattle.std.specs.Prelude.{ℕ, ◌+◌, ◌-◌, ◌/◌, Bool, false, cond, ◌&&◌, ◌||◌, List, length, ◌==◌, nat_le, nat_lt}
use Rattle.std.proofs.Math.Option.{some}
use Rattle.std.specs.Borrow.{GName}
use Rattle.bits.specs.Image.{bit, bit_at, held, inner, within}
use Rattle.bits.specs.declared.Cell.{Cell}
use Rattle.bits.specs.declared.Cell.TheVariants.{Half, Bit}
use Rattle.enclosure.specs.declared.counts.PartCounts.{PartCounts}
use Rattle.backplane.specs.Configured.{configured, kept, none}
use Rattle.backplane.specs.Meaning.{Beside, Outputs, Value, fits, has, no_inputs}
use Rattle.backplane.specs.declared.configuration.Configuration.{Configuration}
use Rattle.backplane.specs.declared.configuration.Fittings.{Fittings}
use Rattle.backplane.specs.declared.places.Output.{Output}
use Rattle.backplane.specs.declared.places.Output.TheVariants.{Lamp, Connection, Speed, Supply, Alarm, Lock}
use Rattle.packed.specs.Frame.{inputs_in}

-- lamps by halves in bytes 0 to 6, connections by bits in 7 and 8, speeds by halves in 9 to 16, supplies by bits in 17, alarm and lock as bits 0 and 1 of 18
abbrev pub cell_of : Output → Cell
cell_of (Lamp k) = Half k
cell_of (Connection k) = Bit (56 + k)
cell_of (Speed k) = Half (18 + k)
cell_of (Supply k) = Bit (136 + k)
cell_of Alarm = Bit 144
cell_of Lock = Bit 145

-- the number at each output that is fitted
abbrev pub outputs_of : Configuration → List ℕ → Outputs
outputs_of c image o = cond (has c o) (held image (cell_of o)) 0

-- bit k of the image is one of an output that is fitted
abbrev pub is_output : Configuration → ℕ → Bool
is_output c k =
    nat_lt (k / 4) c.counts.slots || (nat_le 56 k && nat_lt k (56 + c.counts.slots)) || (nat_le 18 (k / 4) && nat_lt (k / 4) (18 + c.counts.fans))
    || (nat_le 136 k && nat_lt k (136 + c.counts.supplies)) || (k == 144 && c.alarm) || (k == 145 && c.lock)

-- the bits of the image that are no output
abbrev pub other_bits : Configuration → List ℕ → ℕ → Bool
other_bits c image k = cond (is_output c k) false (bit image k)

-- the configuration that it was made with, if the image has room for its outputs
abbrev pub fitted : Configuration → List ℕ → Configuration
fitted c image = kept c (nat_le 19 (length image))

-- that configuration, the inputs in the frame, the outputs in the image, and the image's other bits
abbrev pub value_of : Configuration → List ℕ → List ℕ → GName → Value
value_of c frame image lender =
    record {
      configuration = fitted c image;
      inputs = inputs_in (fitted c image) frame;
      outputs = outputs_of (fitted c image) image;
      beside = record { lender = some lender; bits = other_bits (fitted c image) image };
    }

-- the output that has bit k of the image, if one is fitted there
abbrev pub output_at : ℕ → Output
output_at k =
    cond (nat_lt k 56) (Lamp (k / 4)) (cond (nat_lt k 72) (Connection (k - 56)) (cond (nat_lt k 136) (Speed (k / 4 - 18))
    (cond (nat_lt k 144) (Supply (k - 136)) (cond (k == 144) Alarm Lock))))

-- that output is fitted, and bit k is one of its cell
abbrev pub of_output : Configuration → ℕ → Bool
of_output c k = has c (output_at k) && within k (cell_of (output_at k))

-- bit k of an image that was `old` before its outputs were made `outputs`
abbrev pub bit_of : Configuration → Outputs → List ℕ → ℕ → Bool
bit_of c outputs old k = cond (of_output c k) (bit_at (outputs (output_at k)) (inner k (cell_of (output_at k)))) (bit old k)

-- the same where one output was set: its cell has the number if that fits, and every other bit is as it was
abbrev pub bit_set : Configuration → Output → ℕ → List ℕ → ℕ → Bool
bit_set c at n old k = cond (fits c at n && within k (cell_of at)) (bit_at n (inner k (cell_of at))) (bit old k)

-- the caller's image, and its bits that are no output
abbrev pub beside_of : Configuration → List ℕ → GName → Beside
beside_of c image lender = record { lender = some lender; bits = other_bits c image }

-- what one is fitted with that is made over an image: the parts that are wanted, if they are well-formed and the image has 19 bytes; else none at all
abbrev pub fitted_with : PartCounts → Bool → Bool → List ℕ → List ℕ → Configuration
fitted_with counts lock alarm ids image = cond (nat_le 19 (length image)) (configured counts lock alarm ids) none

abbrev pub fitted_over : Fittings → List ℕ → Configuration
fitted_over f image = fitted_with f.counts f.lock f.alarm f.ids.now image

-- the value of one that is made over an image: all inputs 0, and the image as it is
abbrev pub made_over : Configuration → List ℕ → GName → Value
made_over c image lender = record { configuration = c; inputs = no_inputs; outputs = outputs_of c image; beside = beside_of c image lender }
