-- What a computed test passes at each number below n holds of each number below n.
use Rattle.std.proofs.Common.{◌≡◌, ℕ, zero, suc, ◌<◌, Bool, true, ◌&&◌, refl}
use Rattle.std.proofs.lemmas.Bool.Decides.{Decides-below_and}

-- the test f passes at each number below n
abbrev pub all : ℕ → (ℕ → Bool) → Bool
all zero f = true
all (suc n) f = f n && all n f

pub all_at : (n : ℕ) (f : ℕ → Bool) → all n f ≡ true → (k : ℕ) → k < n → f k ≡ true
all_at n f t =
    (Decides-below_and f (λ k. f k ≡ true) (λ m. all m f) (λ k. (λ e. e, λ e. e)) refl (λ m. refl) n).0 t

-- the same over two, three and four numbers
pub all2_at : (m n : ℕ) (f : ℕ → ℕ → Bool) → all m (λ x. all n (f x)) ≡ true → (x y : ℕ) → x < m → y < n → f x y ≡ true
all2_at m n f t x y p q = all_at n (f x) (all_at m (λ a. all n (f a)) t x p) y q

pub all3_at : (m n o : ℕ) (f : ℕ → ℕ → ℕ → Bool) → all m (λ x. all n (λ y. all o (f x y))) ≡ true
    → (x y z : ℕ) → x < m → y < n → z < o → f x y z ≡ true
all3_at m n o f t x y z p q r = all_at o (f x y) (all2_at m n (λ a b. all o (f a b)) t x y p q) z r

pub all4_at : (m n o l : ℕ) (f : ℕ → ℕ → ℕ → ℕ → Bool) → all m (λ x. all n (λ y. all o (λ z. all l (f x y z)))) ≡ true
    → (x y z w : ℕ) → x < m → y < n → z < o → w < l → f x y z w ≡ true
all4_at m n o l f t x y z w p q r s = all_at l (f x y z) (all3_at m n o (λ a b c. all l (f a b c)) t x y z p q r) w s
