-- What the code reads of a cell, and what its write leaves of every cell.
use Rattle.std.proofs.Common.{◌≡◌, ℕ, ◌-◌, ◌*◌, ◌/◌, ◌%◌, ◌^◌, ◌<◌, ◌≤◌, eqb, List, length, get_or, set, sym, refl, ap, ◌∙◌, arith, lit<}
use lib.Bits.{bit_and, bit_or}
use Rattle.std.proofs.lemmas.Bool.{eqb-false}
use Rattle.std.proofs.lemmas.Bool.Decides.{nat_tests}
use Rattle.bits.specs.Image.{part_at, half_at, bit_at, part, half, Wrote, byte_of, shift_of, limit, held, one, Apart, Put}
use Rattle.bits.specs.declared.Cell.{Cell}
use Rattle.bits.specs.declared.Cell.TheVariants.{Half, Bit}
use Rattle.bits.proofs.Bytes.{part_made, part_read, wrote_from, half_bits}

one_of : (v : ℕ) → v < 2 → one (eqb v 1) ≡ v
one_of v p = grind (arith, nat_tests)

pub cell_read : (image : List ℕ) (c : Cell) → get_or image (byte_of c) 0 < 256 → bit_and (get_or image (byte_of c) 0 / 2 ^ shift_of c) (limit c - 1) ≡ held image c
cell_read image (Half k) small = part_read 16 2 (λ j. 4 * j) refl (get_or image (k / 2) 0) (k % 2) small (omega arith)
cell_read image (Bit k) small =
    part_read 2 8 (λ j. j) refl (get_or image (k / 8) 0) (k % 8) small (omega arith) ∙ sym (one_of (part 2 8 image k) (omega arith))

half_others : (old new : List ℕ) (k v : ℕ) → Wrote half 2 old new k v → (c : Cell) → Apart c (Half k) → held new c ≡ held old c
half_others old new k v w (Half a) ne = w.others a ne
half_others old new k v w (Bit a) ne = ap (λ b. one (bit_at b (a % 8))) (w.bytes (a / 8) ne)

bit_others : (old new : List ℕ) (k v : ℕ) → Wrote (part 2 8) 8 old new k v → (c : Cell) → Apart c (Bit k) → held new c ≡ held old c
bit_others old new k v w (Half a) ne = ap (λ b. half_at b (a % 2)) (w.bytes (a / 2) ne)
bit_others old new k v w (Bit a) ne = ap (λ x. one (eqb x 1)) (w.others a ne)

half_put : (old new : List ℕ) (k v : ℕ) → Wrote half 2 old new k v → Put old new (Half k) v
half_put old new k v w =
    record {
      there = w.there;
      others = half_others old new k v w;
      bits = λ i e. half_bits old new k v w i (eqb-false (i / 4) k e);
      long = w.long;
    }

bit_put : (old new : List ℕ) (k v : ℕ) → v < 2 → Wrote (part 2 8) 8 old new k v → Put old new (Bit k) v
bit_put old new k v small w =
    record {
      there = ap (λ x. one (eqb x 1)) w.there ∙ one_of v small;
      others = bit_others old new k v w;
      bits = λ i e. ap (λ x. eqb x 1) (w.others i (eqb-false i k e));
      long = w.long;
    }

-- the byte that the code writes
abbrev pub byte_made : List ℕ → Cell → ℕ → ℕ
byte_made old c v = bit_or (bit_and (get_or old (byte_of c) 0) (255 - (limit c - 1) * 2 ^ shift_of c % 256)) (v * 2 ^ shift_of c % 256)

pub cell_put : (old : List ℕ) (c : Cell) (v : ℕ) → byte_of c < length old → get_or old (byte_of c) 0 < 256 → v ≤ limit c - 1 → Put old (set old (byte_of c) (byte_made old c v)) c v
cell_put old (Half k) v there small fits =
    half_put old (set old (k / 2) (byte_made old (Half k) v)) k v
    (wrote_from half_at 2 (lit< tt) old k (byte_made old (Half k) v) v there
    (part_made 16 2 (λ j. 4 * j) refl (get_or old (k / 2) 0) (k % 2) v small (omega arith) (omega arith)))
cell_put old (Bit k) v there small fits =
    bit_put old (set old (k / 8) (byte_made old (Bit k) v)) k v (omega arith)
    (wrote_from (part_at 2) 8 (lit< tt) old k (byte_made old (Bit k) v) v there
    (part_made 2 8 (λ j. j) refl (get_or old (k / 8) 0) (k % 8) v small (omega arith) (omega arith)))
