-- What the masks make of a byte, by tests that antt computes at every byte, and then of an image.
use Rattle.std.proofs.Common.{◌≡◌, ℕ, zero, suc, ◌-◌, ◌*◌, ◌/◌, ◌%◌, ◌^◌, ◌<◌, Bool, true, cond, eqb, ◌≢◌, List, length, get_or, set, sym, refl, ap, ◌∙◌, ⊎_elim, arith}
use lib.Bits.{bit_and, bit_or}
use Rattle.std.proofs.lemmas.List.{get_or-set_same, get_or-set_other, length-set}
use Rattle.std.proofs.lemmas.Bool.{eqb-true, cases_eq, eq-eqb, ne_eqb, cond-true, cond-false}
use Rattle.std.proofs.lemmas.Nat.{mod_below, div-add-mod'}
use Rattle.bits.specs.Image.{part_at, half_at, bit_at, half, bit, Made, Wrote}
use Rattle.bits.proofs.Below.{all, all2_at, all4_at}

-- the byte x with part j made v, as the code makes it; `below` says how many bits stand below a part
abbrev pub placed : ℕ → (ℕ → ℕ) → ℕ → ℕ → ℕ → ℕ
placed size below x j v = bit_or (bit_and x (255 - (size - 1) * 2 ^ below j % 256)) (v * 2 ^ below j % 256)

abbrev pub makes : ℕ → (ℕ → ℕ) → ℕ → ℕ → ℕ → ℕ → Bool
makes size below x j v i = eqb (part_at size (placed size below x j v) i) (cond (eqb i j) v (part_at size x i))

pub part_made : (size n : ℕ) (below : ℕ → ℕ) → all 256 (λ x. all n (λ j. all size (λ v. all n (makes size below x j v)))) ≡ true
    → (x j v : ℕ) → x < 256 → j < n → v < size → Made (part_at size) n x (placed size below x j v) j v
part_made size n below t x j v p q r i s =
    eqb-true (part_at size (placed size below x j v) i) (cond (eqb i j) v (part_at size x i)) (all4_at 256 n size n (makes size below) t x j v i p q r s)

-- what `>>` and `&` read of a byte
abbrev pub reads : ℕ → (ℕ → ℕ) → ℕ → ℕ → Bool
reads size below x j = eqb (bit_and (x / 2 ^ below j) (size - 1)) (part_at size x j)

pub part_read : (size n : ℕ) (below : ℕ → ℕ) → all 256 (λ x. all n (reads size below x)) ≡ true
    → (x j : ℕ) → x < 256 → j < n → bit_and (x / 2 ^ below j) (size - 1) ≡ part_at size x j
part_read size n below t x j p q = eqb-true (bit_and (x / 2 ^ below j) (size - 1)) (part_at size x j) (all2_at 256 n (reads size below) t x j p q)

-- one law for every width: the byte with a part made v, put in its place, makes that part of the image v and no other
pub wrote_from : {A : Type 0} (at : ℕ → ℕ → A) (n : ℕ) → 0 < n → (old : List ℕ) (k y : ℕ) (v : A) → k / n < length old
    → Made at n (get_or old (k / n) 0) y (k % n) v
    → Wrote (λ image i. at (get_or image (i / n) 0) (i % n)) n old (set old (k / n) y) k v
wrote_from at n pos old k y v h law =
    record {
      there = ap (λ b. at b (k % n)) (get_or-set_same old (k / n) y 0 h) ∙ law (k % n) (mod_below k n pos)
          ∙ cond-true (eqb (k % n) (k % n)) v _ (eq-eqb (k % n) (k % n) refl);
      others = λ i ne. ⊎_elim
          (λ same. ap (λ q. at (get_or (set old (k / n) y) q 0) (i % n)) same
          ∙ ap (λ b. at b (i % n)) (get_or-set_same old (k / n) y 0 h)
          ∙ law (i % n) (mod_below i n pos)
          ∙ cond-false (eqb (i % n) (k % n)) v _ (ne_eqb (i % n) (k % n)
          (λ e. ne (let p = div-add-mod' i n in let q = div-add-mod' k n in cc)))
          ∙ ap (λ q. at (get_or old q 0) (i % n)) (sym same))
          (λ apart. ap (λ b. at b (i % n)) (get_or-set_other old (k / n) (i / n) y 0 apart))
          (cases_eq (i / n) (k / n));
      bytes = λ i ne. get_or-set_other old (k / n) i y 0 ne;
      long = length-set old (k / n) y;
    }

-- a fact of each number below 8
below_8 : (P : ℕ → Type 0) → P 0 → P 1 → P 2 → P 3 → P 4 → P 5 → P 6 → P 7 → (j : ℕ) → j < 8 → P j
below_8 P a b c d e f g h zero p = a
below_8 P a b c d e f g h (suc zero) p = b
below_8 P a b c d e f g h (suc (suc zero)) p = c
below_8 P a b c d e f g h (suc (suc (suc zero))) p = d
below_8 P a b c d e f g h (suc (suc (suc (suc zero)))) p = e
below_8 P a b c d e f g h (suc (suc (suc (suc (suc zero))))) p = f
below_8 P a b c d e f g h (suc (suc (suc (suc (suc (suc zero)))))) p = g
below_8 P a b c d e f g h (suc (suc (suc (suc (suc (suc (suc zero))))))) p = h
below_8 P a b c d e f g h (suc (suc (suc (suc (suc (suc (suc (suc j)))))))) p = absurd (omega arith)

-- a bit of a byte is a bit of one of its halves
bit_of_half : (x j : ℕ) → j < 8 → x / 2 ^ j % 2 ≡ half_at x (j / 4) / 2 ^ (j % 4) % 2
bit_of_half x =
    below_8 (λ j. x / 2 ^ j % 2 ≡ half_at x (j / 4) / 2 ^ (j % 4) % 2)
    (omega arith) (omega arith) (omega arith) (omega arith) (omega arith) (omega arith) (omega arith) (omega arith)

pub image_bit : (image : List ℕ) (k : ℕ) → bit image k ≡ bit_at (half image (k / 4)) (k % 8 % 4)
image_bit image k =
    let e : k / 4 / 2 ≡ k / 8 = omega arith in
    let f : k / 4 % 2 ≡ k % 8 / 4 = omega arith in
    ap (λ b. eqb b 1) (bit_of_half (get_or image (k / 8) 0) (k % 8) (omega arith))
    ∙ ap (λ q. bit_at (half_at (get_or image q 0) (k % 8 / 4)) (k % 8 % 4)) (sym e)
    ∙ ap (λ q. bit_at (half_at (get_or image (k / 4 / 2) 0) q) (k % 8 % 4)) (sym f)

-- a write of a half writes no bit outside it
pub half_bits : (old new : List ℕ) (h v : ℕ) → Wrote half 2 old new h v → (k : ℕ) → k / 4 ≢ h → bit new k ≡ bit old k
half_bits old new h v wrote k ne =
    image_bit new k ∙ ap (λ x. bit_at x (k % 8 % 4)) (wrote.others (k / 4) ne) ∙ sym (image_bit old k)
