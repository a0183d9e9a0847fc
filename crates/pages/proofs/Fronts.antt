-- Runs laid one after another from the front of a buffer make a page.
use Rattle.std.proofs.Common.{◌≡◌, ℕ, ◌+◌, true, false, leb, List, [], ◌++◌, length, drop, Some, None, Option, sym, refl, ap, ◌∙◌, append_assoc, zero-add}
use Rattle.std.proofs.lemmas.List.{length-append, take_at, drop_at, drop-drop}
use Rattle.part_runs.specs.Runs.{end_within, laid_if_room, over}
use Rattle.pages.specs.Into.{laid_front, length_within}

-- the buffer holds a front of so many bytes, and then what it held before
pub record Front (old new front : List ℕ) (at : ℕ) : Type 0 where
  pub long : length front ≡ at
  pub holds : new ≡ front ++ drop at old

pub none : (old : List ℕ) → Front old old [] 0
none old = record { long = refl; holds = refl }

-- a run laid after a front makes a longer one
pub next : {old page new front : List ℕ} {at end : ℕ} (bytes : List ℕ) → Front old page front at → end ≡ at + length bytes → new ≡ over page at bytes → Front old new (front ++ bytes) end
next {old} {page} {new} {front} {at} {end} bytes f e o =
    let t = take_at front (drop at old) at f.long in
    let d = drop_at front (drop at old) at f.long in
    let p = drop-drop (length bytes) at page in
    let q = drop-drop (length bytes) at old in
    let a = append_assoc front bytes (drop (at + length bytes) old) in
    let h = f.holds in
    record { long = length-append front bytes ∙ ap (λ k. k + length bytes) f.long ∙ sym e; holds = cc }

-- what a laying function answers and leaves, where the page's length passed the test for room
pub fitted : (page old new : List ℕ) (r n : ℕ) → length page ≡ n → true ≡ leb n (length old) → Front old new page r → (Some r ≡ length_within page (length old)) × (new ≡ laid_front page old)
fitted page old new r n l t f =
    let e = sym f.long ∙ l in
    (rw (l, ← t) (ap Some e), rw (l, ← t) (f.holds ∙ ap (λ k. page ++ drop k old) e))

-- and where it did not
pub unfitted : (page old : List ℕ) (n : ℕ) → length page ≡ n → false ≡ leb n (length old) → (None ≡ length_within page (length old)) × (old ≡ laid_front page old)
unfitted page old n l t = (rw (l, ← t), rw (l, ← t))

-- a page that is one run of n bytes
pub one_run : (bytes old new : List ℕ) (n : ℕ) (r : Option ℕ) → length bytes ≡ n → r ≡ end_within (length old) 0 n → new ≡ laid_if_room old 0 n bytes
    → (r ≡ length_within bytes (length old)) × (new ≡ laid_front bytes old)
one_run bytes old new n r e p q =
    let z = zero-add n in
    let y = zero-add (length bytes) in
    (p ∙ rw (z, ← e), q ∙ rw (z, y, ← e))
