-- Hex text: the step of the loop that reads it, and what reads. Assumes nothing.
use Rattle.std.proofs.Common.{◌≡◌, ℕ, zero, suc, ◌+◌, ◌*◌, ◌/◌, ◌%◌, ◌<◌, true, not, ◌⊎◌, List, [], ◌∷◌, ◌++◌, map, length, get_or, drop, IfOk, Some, None, Ok, Err, All, Option, Result, sym, refl, ap, ◌∙◌, inl, inr, append_assoc, arith, MatchResult}
use Rattle.std.specs.Char.{digit_char, to_ascii_lowercase}
use Rattle.std.specs.List.{concat, flat_map}
use Rattle.std.specs.Simd.{first_chunks}
use Rattle.std.proofs.Math.Seq.{drop-cons}
use Rattle.std.proofs.lemmas.List.{nil_from_length}
use Rattle.std.proofs.lemmas.List.Elements.{All-head, All-tail}
use Rattle.std.proofs.lemmas.Bool.{cond-true}
use Rattle.std.proofs.lemmas.Bool.Decides.{nat_tests}
use Rattle.digits.specs.declared.hex.HexFault.{HexFault}
use Rattle.digits.specs.declared.hex.HexFault.TheVariants.{Memory, NotHex}
use Rattle.digits.specs.Hex.{digit_of, paired, byte_of, followed, hex_read, Failed, upperChar, spelled_by, spelled, spelled_upper}
use Rattle.printed.specs.Shown.{pair, after_blank, spaced}
use Rattle.words.specs.Words.{blank, unblanked}

-- Bytes that were read before those that are left.
abbrev pub after : List ℕ → Option (List ℕ) → Option (List ℕ)
after xs None = None
after xs (Some ys) = Some (xs ++ ys)

after_followed : (xs : List ℕ) (b : ℕ) (o : Option (List ℕ)) → after (xs ++ b ∷ []) o ≡ after xs (followed (Some b) o)
after_followed xs b None = refl
after_followed xs b (Some ys) = ap (λ (l : List ℕ). Some l) (append_assoc xs (b ∷ []) ys)

-- A pair in front of what is left.
pair_read : (pair left : List ℕ) → length pair ≡ 2 → hex_read (pair ++ left) ≡ followed (byte_of (get_or pair 0 0) (get_or pair 1 0)) (hex_read left)
pair_read [] left two = absurd (omega arith)
pair_read (a ∷ []) left two = absurd (omega arith)
pair_read (a ∷ b ∷ []) left two = refl
pair_read (a ∷ b ∷ c ∷ pair) left two = absurd (omega arith)

-- The first of the pairs that are left.
next_read : (pairs : List (List ℕ)) (k : ℕ) (d : List ℕ) → k < length pairs → length (get_or pairs k d) ≡ 2 → hex_read (concat (drop k pairs)) ≡ followed (byte_of (get_or (get_or pairs k d) 0 0) (get_or (get_or pairs k d) 1 0)) (hex_read (concat (drop (k + 1) pairs)))
next_read pairs k d l two =
    let next : suc k ≡ k + 1 = omega arith in
    ap (λ (ps : List (List ℕ)). hex_read (concat ps)) (drop-cons pairs k d l ∙ ap (λ (m : ℕ). get_or pairs k d ∷ drop m pairs) next) ∙ pair_read (get_or pairs k d) (concat (drop (k + 1) pairs)) two

-- Two digits that are no byte.
pub pair_none : (pairs : List (List ℕ)) (k : ℕ) (d xs : List ℕ) (whole : Option (List ℕ)) → k < length pairs → length (get_or pairs k d) ≡ 2 → None ≡ byte_of (get_or (get_or pairs k d) 0 0) (get_or (get_or pairs k d) 1 0) → after xs (hex_read (concat (drop k pairs))) ≡ whole → whole ≡ None
pair_none pairs k d xs whole l two is inv =
    sym inv ∙ ap (after xs) (next_read pairs k d l two ∙ ap (λ (o : Option ℕ). followed o (hex_read (concat (drop (k + 1) pairs)))) (sym is))

-- One more byte.
pub pair_more : (pairs : List (List ℕ)) (k : ℕ) (d xs ys : List ℕ) (b : ℕ) (whole : Option (List ℕ)) → k < length pairs → length (get_or pairs k d) ≡ 2 → Some b ≡ byte_of (get_or (get_or pairs k d) 0 0) (get_or (get_or pairs k d) 1 0) → ys ≡ xs ++ b ∷ [] → after xs (hex_read (concat (drop k pairs))) ≡ whole → after ys (hex_read (concat (drop (k + 1) pairs))) ≡ whole
pair_more pairs k d xs ys b whole l two is grown inv =
    let left = hex_read (concat (drop (k + 1) pairs)) in
    ap (λ (l : List ℕ). after l left) grown ∙ after_followed xs b left ∙ ap (λ (o : Option ℕ). after xs (followed o left)) is ∙ sym (ap (after xs) (next_read pairs k d l two)) ∙ inv

-- Pairs that a text is cut in are the text.
pub pairs_joined : (n : ℕ) (text : List ℕ) → n * 2 ≡ length text → concat (first_chunks 2 n text) ≡ text
pairs_joined zero text e = sym (nil_from_length text (sym e))
pairs_joined (suc n) [] e = absurd (omega arith)
pairs_joined (suc n) (a ∷ []) e = absurd (omega arith)
pairs_joined (suc n) (a ∷ b ∷ rest) e = ap (λ (l : List ℕ). a ∷ b ∷ l) (pairs_joined n rest (omega arith))

followed_none : (o : Option ℕ) → followed o None ≡ None
followed_none None = refl
followed_none (Some b) = refl

pub odd_none : (text : List ℕ) → length text % 2 ≡ 1 → hex_read text ≡ None
odd_none [] h = absurd (omega arith)
odd_none (a ∷ []) h = refl
odd_none (a ∷ b ∷ rest) h = ap (followed (byte_of a b)) (odd_none rest (omega arith)) ∙ followed_none (byte_of a b)

abbrev IsByte : ℕ → Type 0
IsByte b = b < 256

-- A digit that is read of each number below 16.
abbrev Digit : (ℕ → ℕ) → Type 0
Digit digit = (d : ℕ) → d < 16 → digit_of (digit d) ≡ Some d

lower_digit : Digit digit_char
lower_digit d h = grind (arith, nat_tests)

upper_digit : Digit upperChar
upper_digit d h = grind (arith, nat_tests)

paired_back : (b : ℕ) → b < 256 → paired (Some (b / 16)) (Some (b % 16)) ≡ Some b
paired_back b h = let e : b / 16 * 16 + b % 16 ≡ b = omega arith in ap (λ (n : ℕ). Some n) e

spelled_back : (digit : ℕ → ℕ) → Digit digit → (bs : List ℕ) → All (λ b. b < 256) bs → hex_read (spelled_by digit bs) ≡ Some bs
spelled_back digit each [] h = refl
spelled_back digit each (b ∷ bs) h =
    let small : b < 256 = All-head IsByte b bs h in
    let high = each (b / 16) (omega arith) in
    let low = each (b % 16) (omega arith) in
    let byte : byte_of (digit (b / 16)) (digit (b % 16)) ≡ Some b = ap (λ (o : Option ℕ). paired o (digit_of (digit (b % 16)))) high ∙ ap (paired (Some (b / 16))) low ∙ paired_back b small in
    ap (λ (o : Option ℕ). followed o (hex_read (spelled_by digit bs))) byte ∙ ap (followed (Some b)) (spelled_back digit each bs (All-tail IsByte b bs h))

pub read_back : (text bs : List ℕ) → All (λ b. b < 256) bs → (text ≡ spelled bs) ⊎ (text ≡ spelled_upper bs) → hex_read text ≡ Some bs
read_back text bs h (inl e) = ap hex_read e ∙ spelled_back digit_char lower_digit bs h
read_back text bs h (inr e) = ap hex_read e ∙ spelled_back upperChar upper_digit bs h

digit_lower : (c d : ℕ) → digit_of c ≡ Some d → to_ascii_lowercase c ≡ digit_char d
digit_lower c d e = grind (arith, nat_tests)

digit_small : (c d : ℕ) → digit_of c ≡ Some d → d < 16
digit_small c d e = grind (arith, nat_tests)

only_step : (a b : ℕ) (rest bs : List ℕ) (h l : Option ℕ) (o : Option (List ℕ)) → digit_of a ≡ h → digit_of b ≡ l → followed (paired h l) o ≡ Some bs → ((cs : List ℕ) → o ≡ Some cs → map to_ascii_lowercase rest ≡ spelled cs) → map to_ascii_lowercase (a ∷ b ∷ rest) ≡ spelled bs
only_step a b rest bs None l o p q e k = cc
only_step a b rest bs (Some x) None o p q e k = cc
only_step a b rest bs (Some x) (Some y) None p q e k = cc
only_step a b rest bs (Some x) (Some y) (Some cs) p q e k =
    let small : y < 16 = digit_small b y q in
    let high : (x * 16 + y) / 16 ≡ x = omega arith in
    let low : (x * 16 + y) % 16 ≡ y = omega arith in
    let is : bs ≡ (x * 16 + y) ∷ cs = cc in
    let first : to_ascii_lowercase a ≡ digit_char ((x * 16 + y) / 16) = digit_lower a x p ∙ ap digit_char (sym high) in
    let second : to_ascii_lowercase b ≡ digit_char ((x * 16 + y) % 16) = digit_lower b y q ∙ ap digit_char (sym low) in
    let others = k cs refl in
    (λ i. first i ∷ second i ∷ others i) ∙ ap spelled (sym is)

pub read_only : (text bs : List ℕ) → hex_read text ≡ Some bs → map to_ascii_lowercase text ≡ spelled bs
read_only [] bs e = let is : bs ≡ [] = cc in ap spelled (sym is)
read_only (a ∷ []) bs e = cc
read_only (a ∷ b ∷ rest) bs e = only_step a b rest bs (digit_of a) (digit_of b) (hex_read rest) refl refl e (λ cs. read_only rest cs)

-- What is written with blanks is the same text without them.
digit_seen : (d : ℕ) → d < 16 → not (blank (digit_char d)) ≡ true
digit_seen d h = grind (arith, nat_tests)

pair_seen : (b : ℕ) (rest : List ℕ) → b < 256 → unblanked (pair b ++ rest) ≡ digit_char (b / 16) ∷ digit_char (b % 16) ∷ unblanked rest
pair_seen b rest h =
    let x = digit_char (b / 16) in
    let y = digit_char (b % 16) in
    let low : unblanked (y ∷ rest) ≡ y ∷ unblanked rest = cond-true (not (blank y)) (y ∷ unblanked rest) (unblanked rest) (digit_seen (b % 16) (omega arith)) in
    cond-true (not (blank x)) (x ∷ unblanked (y ∷ rest)) (unblanked (y ∷ rest)) (digit_seen (b / 16) (omega arith)) ∙ ap (λ (l : List ℕ). x ∷ l) low

unspaced_after : (bs : List ℕ) → All (λ b. b < 256) bs → unblanked (flat_map after_blank bs) ≡ spelled bs
unspaced_after [] h = refl
unspaced_after (b ∷ bs) h = pair_seen b (flat_map after_blank bs) (All-head IsByte b bs h) ∙ ap (λ (l : List ℕ). digit_char (b / 16) ∷ digit_char (b % 16) ∷ l) (unspaced_after bs (All-tail IsByte b bs h))

unspaced : (bs : List ℕ) → All (λ b. b < 256) bs → 0 < length bs → unblanked (spaced bs) ≡ spelled bs
unspaced [] h some = absurd (omega arith)
unspaced (b ∷ bs) h some = pair_seen b (flat_map after_blank bs) (All-head IsByte b bs h) ∙ ap (λ (l : List ℕ). digit_char (b / 16) ∷ digit_char (b % 16) ∷ l) (unspaced_after bs (All-tail IsByte b bs h))

-- The laws of a reader, from what it reads.
module _ {X : Type 0} (items : X → List ℕ) where
  pub reads_back : (r : Result X HexFault) (text : List ℕ) → MatchResult r (λ v. hex_read text ≡ Some (items v)) (λ f. Failed f (hex_read text)) → (bs : List ℕ) → All (λ b. b < 256) bs → (text ≡ spelled bs) ⊎ (text ≡ spelled_upper bs) → MatchResult r (λ v. items v ≡ bs) (λ f. f ≡ Memory)
  reads_back (Ok v) text h bs small e = let f = read_back text bs small e in cc
  reads_back (Err Memory) text h bs small e = refl
  reads_back (Err NotHex) text h bs small e = let f = read_back text bs small e in cc

  pub reads_only : (r : Result X HexFault) (text : List ℕ) → MatchResult r (λ v. hex_read text ≡ Some (items v)) (λ f. Failed f (hex_read text)) → IfOk r (λ v. map to_ascii_lowercase text ≡ spelled (items v))
  reads_only (Ok v) text h = read_only text (items v) h
  reads_only (Err f) text h = tt

  pub reads_unspaced : (r : Result X HexFault) (text : List ℕ) → MatchResult r (λ v. hex_read text ≡ Some (items v)) (λ f. Failed f (hex_read text)) → (bs : List ℕ) → All (λ b. b < 256) bs → 0 < length bs → text ≡ unblanked (spaced bs) → MatchResult r (λ v. items v ≡ bs) (λ f. f ≡ Memory)
  reads_unspaced r text h bs small some e = reads_back r text h bs small (inl (e ∙ unspaced bs small some))
