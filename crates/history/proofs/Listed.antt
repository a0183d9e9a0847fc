-- The values at 0 to n - 1, in a list: how long it is, what stands in it, and the bytes of a run of such parts.
use Rattle.std.proofs.Common.{◌≡◌, ℕ, zero, suc, ◌+◌, ◌-◌, ◌*◌, ◌<◌, ◌≤◌, List, [], ◌∷◌, ◌++◌, length, get_or, sym, refl, ap, ◌∙◌, inl, inr, mul_comm, arith}
use Rattle.std.proofs.lemmas.List.{get_or_append_left, get_or-append_right, get_or_past, get_or_push, flat_map_more, length_push}
use Rattle.std.proofs.lemmas.Bool.{cases_lt}
use Rattle.std.specs.List.{flat_map}
use Rattle.part_runs.proofs.Over.{joined_length}
use Rattle.history.specs.Replies.{listed}

pub listed_length : {X : Type 0} (f : ℕ → X) (n : ℕ) → length (listed f n) ≡ n
listed_length f zero = refl
listed_length f (suc n) = omega (arith, length_push (listed f n) (f n), listed_length f n)

pub listed_at : {X : Type 0} (f : ℕ → X) (n k : ℕ) (d : X) → k < n → get_or (listed f n) k d ≡ f k
listed_at f zero k d l = absurd (omega arith)
listed_at f (suc n) k d l = elim (cases_lt k n) [
  | inl h ↦ get_or_append_left (listed f n) (f n ∷ []) d k (omega (arith, listed_length f n)) ∙ listed_at f n k d h
  | inr g ↦ last (omega arith)
]
  where
    last : k ≡ n → get_or (listed f n ++ (f n ∷ [])) k d ≡ f k
    last e = get_or_push (listed f n) (f n) d k (listed_length f n ∙ sym e) ∙ ap f (sym e)

-- of two lists of bytes in two pieces each, the first of one length, byte i is the same if it is in its piece
pub append_same : (xs xs' ys ys' : List ℕ) (n i : ℕ) → length xs ≡ n → length xs' ≡ n →
    (i < n → get_or xs i 0 ≡ get_or xs' i 0) → (n ≤ i → get_or ys (i - n) 0 ≡ get_or ys' (i - n) 0) → get_or (xs ++ ys) i 0 ≡ get_or (xs' ++ ys') i 0
append_same xs xs' ys ys' n i l l' left right = elim (cases_lt i n) [ inl h ↦ front h | inr g ↦ back g ]
  where
    front : i < n → get_or (xs ++ ys) i 0 ≡ get_or (xs' ++ ys') i 0
    front h = get_or_append_left xs ys 0 i (omega arith) ∙ left h ∙ sym (get_or_append_left xs' ys' 0 i (omega arith))

    back : n ≤ i → get_or (xs ++ ys) i 0 ≡ get_or (xs' ++ ys') i 0
    back g = get_or-append_right xs ys n i 0 l g ∙ right g ∙ sym (get_or-append_right xs' ys' n i 0 l' g)

-- runs of parts that are each laid as m bytes
module _ {X : Type 0} (m : ℕ) (lay : X → List ℕ) (wide : (x : X) → length (lay x) ≡ m) where
  pub run_length : (f : ℕ → X) (n : ℕ) → length (flat_map lay (listed f n)) ≡ m * n
  run_length f n = joined_length lay m wide (listed f n) ∙ ap (λ k. k * m) (listed_length f n) ∙ mul_comm n m

  -- one part more
  more : (f : ℕ → X) (n : ℕ) → flat_map lay (listed f (suc n)) ≡ flat_map lay (listed f n) ++ lay (f n)
  more f n = sym (flat_map_more lay [] (listed f n) (f n))

  -- byte i is the same where the part that it belongs to is
  pub run_same : (f g : ℕ → X) (n i : ℕ) → ((k : ℕ) → k < n → m * k ≤ i → i < m * k + m → f k ≡ g k) → get_or (flat_map lay (listed f n)) i 0 ≡ get_or (flat_map lay (listed g n)) i 0
  run_same f g zero i e = refl
  run_same f g (suc n) i e =
      ap (λ (xs : List ℕ). get_or xs i 0) (more f n)
      ∙ append_same (flat_map lay (listed f n)) (flat_map lay (listed g n)) (lay (f n)) (lay (g n)) (m * n) i (run_length f n) (run_length g n)
      (λ _. run_same f g n i (λ k h. e k (omega arith))) last
      ∙ sym (ap (λ (xs : List ℕ). get_or xs i 0) (more g n))
    where
      last : m * n ≤ i → get_or (lay (f n)) (i - m * n) 0 ≡ get_or (lay (g n)) (i - m * n) 0
      last h = elim (cases_lt i (m * n + m)) [
        | inl l ↦ ap (λ (x : X). get_or (lay x) (i - m * n) 0) (e n (omega arith) h l)
        | inr p ↦ get_or_past (lay (f n)) (i - m * n) 0 (omega (arith, wide (f n))) ∙ sym (get_or_past (lay (g n)) (i - m * n) 0 (omega (arith, wide (g n))))
      ]
