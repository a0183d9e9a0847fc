-- How many of three bits are set: none or one of them, as an operation asks, or more.
use Rattle.std.proofs.Common.{◌≡◌, ℕ, zero, suc, ◌<◌, cond, eqb, refl, arith}
use lib.Count.{ones}

abbrev pub three_ones : ℕ → ℕ
three_ones m = cond (eqb m 0) 0 (cond (eqb m 1) 1 (cond (eqb m 2) 1 (cond (eqb m 4) 1 (cond (eqb m 7) 3 2))))

pub ones_of : (m : ℕ) → m < 8 → ones m ≡ three_ones m
unfolding ones
ones_of zero l = refl
ones_of (suc zero) l = refl
ones_of (suc (suc zero)) l = refl
ones_of (suc (suc (suc zero))) l = refl
ones_of (suc (suc (suc (suc zero)))) l = refl
ones_of (suc (suc (suc (suc (suc zero))))) l = refl
ones_of (suc (suc (suc (suc (suc (suc zero)))))) l = refl
ones_of (suc (suc (suc (suc (suc (suc (suc zero))))))) l = refl
ones_of (suc (suc (suc (suc (suc (suc (suc (suc m)))))))) l = absurd (omega arith)
