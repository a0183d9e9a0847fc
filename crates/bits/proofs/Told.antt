-- What a cell holds is told by its bits.
use Rattle.std.proofs.Common.{◌≡◌, ℕ, ◌+◌, ◌*◌, ◌/◌, ◌%◌, ◌<◌, Bool, true, false, cond, eqb, List, sym, refl, ap, ◌∙◌, arith}
use Rattle.std.proofs.lemmas.Bool.{eq-eqb, eqb-true}
use Rattle.std.proofs.lemmas.Bool.Decides.{nat_tests}
use Rattle.bits.specs.Image.{bit_at, half, bit, inner, held, one, within}
use Rattle.bits.specs.declared.Cell.{Cell}
use Rattle.bits.specs.declared.Cell.TheVariants.{Half, Bit}
use Rattle.bits.proofs.Bytes.{image_bit}

-- a bit that is on, as a number, has that bit
one_bit : (b : Bool) → b ≡ bit_at (cond b 1 0) 0
one_bit true = refl
one_bit false = refl

-- a bit of an image is a bit of what its cell holds
pub bit_of_held : (image : List ℕ) (c : Cell) (k : ℕ) → within k c ≡ true → bit image k ≡ bit_at (held image c) (inner k c)
bit_of_held image (Half h) k e =
    let f : k % 8 % 4 ≡ k % 4 = omega arith in
    image_bit image k ∙ ap (λ q. bit_at (half image q) (k % 8 % 4)) (eqb-true (k / 4) h e) ∙ ap (bit_at (half image h)) f
bit_of_held image (Bit b) k e = ap (bit image) (eqb-true k b e) ∙ one_bit (bit image b)

same_digit : (p q : ℕ) → p < 2 → q < 2 → eqb p 1 ≡ eqb q 1 → p ≡ q
same_digit p q a b e = grind (arith, nat_tests)

-- four bits make a half
same_half : (y z : ℕ) → y < 16 → z < 16 → bit_at y 0 ≡ bit_at z 0 → bit_at y 1 ≡ bit_at z 1 → bit_at y 2 ≡ bit_at z 2 → bit_at y 3 ≡ bit_at z 3 → y ≡ z
same_half y z p q a b c d =
    let a' : y / 1 % 2 ≡ z / 1 % 2 = same_digit (y / 1 % 2) (z / 1 % 2) (omega arith) (omega arith) a in
    let b' : y / 2 % 2 ≡ z / 2 % 2 = same_digit (y / 2 % 2) (z / 2 % 2) (omega arith) (omega arith) b in
    let c' : y / 4 % 2 ≡ z / 4 % 2 = same_digit (y / 4 % 2) (z / 4 % 2) (omega arith) (omega arith) c in
    let d' : y / 8 % 2 ≡ z / 8 % 2 = same_digit (y / 8 % 2) (z / 8 % 2) (omega arith) (omega arith) d in
    omega arith

-- bit i of half h
bit_of_four : (new old : List ℕ) (h i : ℕ) → i < 4 → ((k : ℕ) → within k (Half h) ≡ true → bit new k ≡ bit old k) → bit_at (half new h) i ≡ bit_at (half old h) i
bit_of_four new old h i small same =
    let k = 4 * h + i in
    let in-half : within k (Half h) ≡ true = eq-eqb (k / 4) h (omega arith) in
    let is : k % 4 ≡ i = omega arith in
    ap (bit_at (half new h)) (sym is) ∙ sym (bit_of_held new (Half h) k in-half) ∙ same k in-half ∙ bit_of_held old (Half h) k in-half ∙ ap (bit_at (half old h)) is

-- what a cell holds is told by its bits
pub same_held : (new old : List ℕ) (c : Cell) → ((k : ℕ) → within k c ≡ true → bit new k ≡ bit old k) → held new c ≡ held old c
same_held new old (Half h) same =
    same_half (half new h) (half old h) (omega arith) (omega arith)
    (bit_of_four new old h 0 (omega arith) same) (bit_of_four new old h 1 (omega arith) same)
    (bit_of_four new old h 2 (omega arith) same) (bit_of_four new old h 3 (omega arith) same)
same_held new old (Bit b) same = ap one (same b (eq-eqb b b refl))
