-- The first elements of an array that a closure made, listed.
use Rattle.std.proofs.Common.{◌≡◌, ℕ, zero, suc, ◌+◌, ◌<◌, ◌≤◌, List, [], ◌∷◌, ◌++◌, length, get_or, take, Some, sym, refl, ap, ◌∙◌, ap₂, subst, inl, inr, arith}
use Rattle.std.proofs.Math.Seq.{take-suc}
use Rattle.std.proofs.lemmas.Bool.{cases_lt}
use Rattle.std.proofs.lemmas.List.{flat_map_more}
use Rattle.std.specs.Array.{IsFromFnResult, IsFromFnResultFrom}
use Rattle.std.specs.List.{flat_map}
use denote.Param.Members.{Mut, Called}
use Rattle.enclosure.specs.Conditions.{condition_number}
use Rattle.enclosure.specs.declared.conditions.Condition.{Condition}
use Rattle.enclosure.specs.declared.conditions.Condition.TheVariants.{Works, Broken, Absent, PresentOnly, Unknown}
use Rattle.history.specs.Replies.{listed}
use Rattle.gathering.specs.Conditions.{condition_at}

-- the first elements are those of a function
pub listed_each : {X : Type 0} (h : ℕ → X) (xs : List X) (n : ℕ) → n ≤ length xs → ((k : ℕ) (d : X) → k < n → get_or xs k d ≡ h k) → take n xs ≡ listed h n
listed_each h xs zero l e = refl
listed_each h xs (suc n) l e =
    take-suc xs n (h n) (omega arith) ∙ ap₂ (λ ys y. ys ++ (y ∷ [])) (listed_each h xs n (omega arith) (λ k d m. e k d (omega arith))) (e n (h n) (omega arith))

-- the bytes of the first elements are those of a function's values
pub laid_each : {X Y : Type 0} (lay : X → List ℕ) (bytes : Y → List ℕ) (h : ℕ → Y) (xs : List X) (none : X) (n : ℕ) → n ≤ length xs → ((k : ℕ) → k < n → lay (get_or xs k none) ≡ bytes (h k))
    → flat_map lay (take n xs) ≡ flat_map bytes (listed h n)
laid_each lay bytes h xs none zero l e = refl
laid_each lay bytes h xs none (suc n) l e =
    ap (flat_map lay) (take-suc xs n none (omega arith)) ∙ sym (flat_map_more lay [] (take n xs) (get_or xs n none))
    ∙ ap₂ (λ bs cs. bs ++ cs) (laid_each lay bytes h xs none n (omega arith) (λ k m. e k (omega arith))) (e n (omega arith))
    ∙ flat_map_more bytes [] (listed h n) (h n)

-- what holds of each value that a closure gives, whose calls leave it as it was, holds of the elements that it made
module _ {F X : Type 0} (g : Mut F (ℕ × Unit {0}) X) (f : F) (P : ℕ → X → Type 0) (gives : (k : ℕ) (y : X) (q : F) → Called g f (k, tt) y q → (q ≡ f) × P k y) where
  each : (ys : List X) (i m : ℕ) → IsFromFnResultFrom g f ys i m → (k : ℕ) (d : X) → i ≤ k → k < i + m → P k (get_or ys k d)
  each ys i zero r k d a b = absurd (omega arith)
  each ys i (suc m) (q, y, is, call, rest) k d a b = elim (cases_lt i k) [
    | inl l ↦ each ys (i + 1) m (subst (λ (s : F). IsFromFnResultFrom g s ys (i + 1) m) (gives i y q call).0 rest) k d (omega arith) (omega arith)
    | inr l ↦ (let e : k ≡ i = omega arith in subst (λ (j : ℕ). P j (get_or ys j d)) (sym e) (subst (P i) (sym (is.1 d)) (gives i y q call).1))
  ]

  pub made_each : (ys : List X) (m : ℕ) → IsFromFnResult g f ys m → (k : ℕ) (d : X) → k < m → P k (get_or ys k d)
  made_each ys m r k d l = each ys 0 m r.each k d (omega arith) (omega arith)

pub gathered : {F X : Type 0} (g : Mut F (ℕ × Unit {0}) X) (f : F) (h : ℕ → X) (n : ℕ) (ys : List X) (m : ℕ) → IsFromFnResult g f ys m → n ≤ m
    → ((k : ℕ) (y : X) (q : F) → Called g f (k, tt) y q → (q ≡ f) × (k < n → y ≡ h k)) → take n ys ≡ listed h n
gathered g f h n ys m r l gives = listed_each h ys n (omega (arith, r.long)) (λ k d b. made_each g f (λ j y. j < n → y ≡ h j) gives ys m r k d (omega arith) b)

-- the number of a condition is read as that condition
pub condition_back : (q : Condition) → condition_at (Some (condition_number q)) ≡ q
condition_back Works = refl
condition_back Broken = refl
condition_back Absent = refl
condition_back PresentOnly = refl
condition_back Unknown = refl
