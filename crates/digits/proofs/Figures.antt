-- Decimal text: the step of the loop that reads it, and what reads. Assumes nothing.
use Rattle.std.proofs.Common.{◌≡◌, ℕ, ◌+◌, ◌-◌, ◌*◌, ◌^◌, ◌<◌, ◌≤◌, Bool, true, cond, List, [], ◌∷◌, length, get_or, drop, Some, None, decimal, sym, ap, ◌∙◌, arith, rules}
use Rattle.std.proofs.lemmas.Fmt.{digits_decimal, digits_value-decimal}
use Rattle.std.proofs.lemmas.List.{at_drop_more}
use Rattle.std.proofs.lemmas.Str.Parse.{IsNumeralModel, numerals_by_fold}
use Rattle.std.proofs.lemmas.Bool.{le-leb}
use Rattle.std.proofs.lemmas.Bool.Decides.{nat_tests}
use Rattle.digits.specs.Number.{all_digits, value_from, at_most, number_after, digit_after}

value_ge : (n : ℕ) (cs : List ℕ) → n ≤ value_from n cs
value_ge n [] = omega arith
value_ge n (c ∷ cs) = omega (arith, value_ge (n * 10 + (c - 48)) cs)

-- A byte that is no further digit ends what could be a number.
pub no_further : (most n i : ℕ) (word : List ℕ) → i < length word → None ≡ digit_after most n (get_or word i 0) → None ≡ number_after most n (drop i word)
no_further most n i word h e =
    let c = get_or word i 0 in
    let ge = value_ge (n * 10 + (c - 48)) (drop (i + 1) word) in
    let none : number_after most n (c ∷ drop (i + 1) word) ≡ None = grind (arith, nat_tests) in
    sym (at_drop_more (number_after most n) word i 0 h ∙ none)

own : IsNumeralModel (λ ds. all_digits ds ≡ true) (value_from 0)
own = numerals_by_fold _ (search rules) value_from (search rules)

-- A number that was written reads as itself.
pub number_back : (most n : ℕ) (word : List ℕ) → most < 2 ^ 32 → n ≤ most → word ≡ decimal n → number_after most 0 word ≡ Some n
number_back most n word big h e =
    let fits : n < 2 ^ 64 = omega arith in
    ap (number_after most 0) e ∙ ap (λ (b : Bool). cond b (at_most most (value_from 0 (decimal n))) None) (digits_decimal own n fits) ∙ ap (at_most most) (digits_value-decimal own n fits) ∙ ap (λ (b : Bool). cond b (Some n) None) (le-leb n most h)

-- a number with a further digit is at most what it may be
pub digit_bound : (most n c m : ℕ) → Some m ≡ digit_after most n c → m ≤ most
digit_bound most n c m e = grind (arith, nat_tests)
