-- A page at the front of a buffer that holds it, told in another way too.
use Rattle.std.proofs.Common.{◌≡◌, ℕ, ◌≤◌, List, ◌++◌, length, take, drop, Option, unwrap_or, refl, ap, ◌∙◌, subst, sym, take_at}
use Rattle.std.proofs.lemmas.Bool.{le-leb}
use Rattle.pages.specs.Into.{laid_front, length_within}
use Rattle.shelf_pages.specs.Held.{Front}

pub front : (page told old new : List ℕ) (r : Option ℕ) (n : ℕ) → length page ≤ 64 → length old ≡ 64 → r ≡ length_within page (length old) → new ≡ laid_front page old → n ≡ unwrap_or r 0 → page ≡ told → Front told new n
front page told old new r n l room e f is same =
    let t = le-leb (length page) (length old) (subst (λ (m : ℕ). length page ≤ m) (sym room) l) in
    let k : n ≡ length page = is ∙ ap (λ o. unwrap_or o 0) e ∙ rw t in
    let g : new ≡ page ++ drop (length page) old = f ∙ rw t in
    record { len = k ∙ ap length same; page_there = ap (λ m. take m new) k ∙ ap (take (length page)) g ∙ take_at page (drop (length page) old) (length page) refl ∙ same }
