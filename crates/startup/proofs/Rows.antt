-- One more output of a row.
use Rattle.std.proofs.Common.{◌≡◌, ℕ, ◌+◌, ◌<◌, Bool, true, false, cond, ◌&&◌, eqb, ltb, sym, refl, ap, ◌∙◌, arith}
use Rattle.std.proofs.lemmas.Bool.{cond-true}
use Rattle.std.proofs.lemmas.Bool.Decides.{nat_tests}
use Rattle.backplane.specs.Meaning.{Value, altered, fits, index, numbers, put, same_output, sort}
use Rattle.backplane.specs.Rows.{place_in, row_below, row_length}
use Rattle.backplane.specs.Same.{same_value}
use Rattle.backplane.specs.declared.configuration.Configuration.{Configuration}
use Rattle.backplane.specs.declared.places.Output.{Output}
use Rattle.backplane.specs.declared.rows.Row.{Row}
use Rattle.backplane.specs.declared.rows.Row.TheVariants.{Lamps, Connections, Speeds, Supplies}
use Rattle.backplane.proofs.Numbered.{place_back}
use Rattle.startup.specs.Started.{made_where}

row_fits : (row : Row) (c : Configuration) (k n : ℕ) → k < row_length row c → n < numbers (place_in row 0) → fits c (place_in row k) n ≡ true
row_fits Lamps c k n p q = grind (arith, nat_tests)
row_fits Connections c k n p q = grind (arith, nat_tests)
row_fits Speeds c k n p q = grind (arith, nat_tests)
row_fits Supplies c k n p q = grind (arith, nat_tests)

same_place : (row : Row) (k : ℕ) (o : Output) → same_output o (place_in row k) ≡ (eqb (sort o) (sort (place_in row 0)) && eqb (index o) k)
same_place Lamps k o = refl
same_place Connections k o = refl
same_place Speeds k o = refl
same_place Supplies k o = refl

one_more : (s : Bool) (j k x n y : ℕ) → (s ≡ true → x ≡ n) → cond (s && eqb j k) n (cond (s && ltb j k) x y) ≡ cond (s && ltb j (k + 1)) x y
one_more true j k x n y h = let e : x ≡ n = h refl in grind (arith, nat_tests)
one_more false j k x n y h = refl

pub row_more : (row : Row) (f : Output → ℕ) (n : ℕ) (v : Value) (k : ℕ) → ((i : ℕ) → f (place_in row i) ≡ n) → k < row_length row v.configuration → n < numbers (place_in row 0)
    → put (made_where (row_below row k) f v) (place_in row k) n ≡ made_where (row_below row (k + 1)) f v
row_more row f n v k each there small =
    let u = made_where (row_below row k) f v in
    let at = place_in row k in
    cond-true (fits u.configuration at n) (altered u at n) u (row_fits row v.configuration k n there small)
    ∙ same_value (altered u at n) (made_where (row_below row (k + 1)) f v) refl refl
    (λ o. ap (λ t. cond t n (u.outputs o)) (same_place row k o)
    ∙ one_more (eqb (sort o) (sort (place_in row 0))) (index o) k (f o) n (v.outputs o) (λ e. sym (ap f (place_back row o e)) ∙ each (index o)))
    refl
