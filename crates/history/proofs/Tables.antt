-- One place of a table written.
use Rattle.std.proofs.Common.{◌≡◌, ℕ, ◌<◌, cond, eqb, List, length, get_or, set, sym, ap, ◌∙◌, inl, inr}
use Rattle.std.proofs.lemmas.List.{get_or-set_other, get_or-set_same}
use Rattle.std.proofs.lemmas.Bool.{cases_eq, cond-false, cond-true, eq-eqb, ne_eqb}

pub set_at : {A B : Type 0} (f : A → B) (xs : List A) (i k : ℕ) (a d : A) → i < length xs → f (get_or (set xs i a) k d) ≡ cond (eqb k i) (f a) (f (get_or xs k d))
set_at f xs i k a d l =
    elim (cases_eq k i) [
      | inl e ↦ ap (λ (j : ℕ). f (get_or (set xs i a) j d)) e ∙ ap f (get_or-set_same xs i a d l) ∙ sym (cond-true (eqb k i) (f a) (f (get_or xs k d)) (eq-eqb k i e))
      | inr n ↦ ap f (get_or-set_other xs i k a d n) ∙ sym (cond-false (eqb k i) (f a) (f (get_or xs k d)) (ne_eqb k i n))
    ]
