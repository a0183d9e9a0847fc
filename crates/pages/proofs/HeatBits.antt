-- Flags as bits of a number.
use Rattle.std.proofs.Common.{◌≡◌, ℕ, zero, suc, ◌+◌, ◌-◌, ◌*◌, ◌%◌, ◌^◌, ◌<◌, ◌≤◌, Bool, true, false, cond, ◌||◌, List, length, take, drop, get_or, sym, ap, ◌∙◌, one-mul, pow-suc, add-one, arith, shl_exact}
use mathlib.Core.Bool.{or-true, or_assoc}
use Rattle.std.specs.List.{enumerate_from}
use Rattle.std.proofs.Math.Pow.{pow_mono}
use Rattle.std.proofs.lemmas.List.{get_or-drop, get_or-take, get_or_default, get_or_past, length-drop, length-take}
use Rattle.std.proofs.lemmas.List.FromFn.{get_or-enumerate_from, length-enumerate_from}
use Rattle.pages.specs.Heat.{flag, flag_bits, one_set}

-- one turn of the loop: a flag that is set adds its bit, and any other none
pub turn : (flags : List Bool) (at k bits new : ℕ) (here : Bool) → k < 8 → here ≡ flag flags (at + k) → bits ≡ flag_bits flags at k → bits < 2 ^ k → new ≡ bits + cond here (1 * 2 ^ k % 256) 0
    → (new ≡ flag_bits flags at (k + 1)) × (new < 2 ^ (k + 1))
turn flags at k bits new true l h b m e =
    let x = shl_exact {a = 1} 1 k 8 (omega arith) (omega arith) in
    let o = one-mul (2 ^ k) in
    let p = pow-suc 2 k in
    let t : cond (flag flags (at + k)) (2 ^ k) 0 ≡ 2 ^ k = ap (λ f. cond f (2 ^ k) 0) (sym h) in
    (simp add-one (omega arith), simp add-one (omega arith))
turn flags at k bits new false l h b m e =
    let p = pow-suc 2 k in
    let t : cond (flag flags (at + k)) (2 ^ k) 0 ≡ 0 = ap (λ f. cond f (2 ^ k) 0) (sym h) in
    (simp add-one (omega arith), simp add-one (omega arith))

-- the item that the loop is at: its number, and the flag that stands there
pub item : (flags : List Bool) (at count n k : ℕ) (here : Bool)
    → (n < length (enumerate_from 0 (take count (drop at flags)))) × ((k, here) ≡ get_or (enumerate_from 0 (take count (drop at flags))) n (k, here))
    → (k ≡ n) × ((n < count) × (here ≡ flag flags (at + n)))
item flags at count n k here h =
    let zs = take count (drop at flags) in
    let l = length-enumerate_from 0 zs in
    let m = length-take count (drop at flags) in
    let d = length-drop at flags in
    let a : n < length zs = omega (arith, h.0, l) in
    let b : n < count = omega (arith, a, m) in
    let e = h.1 ∙ get_or-enumerate_from 0 zs n (k, here) a in
    let first : k ≡ 0 + n = ap (λ p. p.0) e in
    let second : here ≡ get_or zs n here = ap (λ p. p.1) e in
    (omega (arith, first), (b, second ∙ get_or-take count (drop at flags) n here b ∙ get_or-drop at flags n here ∙ get_or_default flags (at + n) here false (omega (arith, a, m, d))))

-- flags that are not fitted add nothing
past : (flags : List Bool) (at n m : ℕ) → (0 < m → length flags ≤ at + n) → flag_bits flags at (n + m) ≡ flag_bits flags at n
past flags at n zero h = ap (flag_bits flags at) (omega arith)
past flags at n (suc m) h =
    let l : length flags ≤ at + n = h (omega arith) in
    let none : flag flags (at + (n + m)) ≡ false = get_or_past flags (at + (n + m)) false (omega (arith, l)) in
    let t : cond (flag flags (at + (n + m))) (2 ^ (n + m)) 0 ≡ 0 = ap (λ f. cond f (2 ^ (n + m)) 0) none in
    let e : n + suc m ≡ suc (n + m) = omega arith in
    ap (flag_bits flags at) e ∙ omega (arith, t, past flags at n m (λ _. l))

-- where the loop ends, all the flags have been added
pub ended : (flags : List Bool) (at count n bits : ℕ) → n ≡ length (enumerate_from 0 (take count (drop at flags))) → bits ≡ flag_bits flags at n → bits < 2 ^ n
    → (bits ≡ flag_bits flags at count) × (bits < 2 ^ count)
ended flags at count n bits is b m =
    let l = length-enumerate_from 0 (take count (drop at flags)) in
    let t = length-take count (drop at flags) in
    let d = length-drop at flags in
    let le : n ≤ count = omega (arith, is, l, t) in
    let whole : n + (count - n) ≡ count = omega (arith, le) in
    let p = past flags at n (count - n) (λ more. omega (arith, is, l, t, d, more)) in
    (b ∙ sym p ∙ ap (flag_bits flags at) whole, omega (arith, m, pow_mono le))

-- with one flag more
lit_more : (bits power : ℕ) (set here : Bool) → (0 < bits → set ≡ true) → 0 < bits + cond here power 0 → (set || here) ≡ true
lit_more bits power set true h l = or-true set
lit_more bits power set false h l = rw (h (omega arith))

-- bits that are not 0 have a flag that is set
pub lit : (flags : List Bool) (at n : ℕ) → 0 < flag_bits flags at n → one_set flags at n ≡ true
lit flags at zero l = absurd (omega arith)
lit flags at (suc n) l = lit_more (flag_bits flags at n) (2 ^ n) (one_set flags at n) (flag flags (at + n)) (lit flags at n) l

-- one of the first fifteen flags is one of the first eight or of the next seven
pub fifteen : (flags : List Bool) → one_set flags 0 15 ≡ (one_set flags 0 8 || one_set flags 8 7)
fifteen flags = simp or_assoc
