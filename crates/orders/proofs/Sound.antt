-- Triples, one after another.
use Rattle.std.proofs.Common.{◌≡◌, ℕ, zero, suc, ◌+◌, ◌*◌, ◌<◌, ◌≤◌, Bool, true, false, not, ◌&&◌, List, [], ◌∷◌, ◌++◌, get_or, take, drop, refl, ap, ◌∙◌, arith}
use Rattle.std.specs.List.{list_all}
use Rattle.std.specs.Simd.{first_chunks}
use Rattle.std.proofs.lemmas.List.{drop-drop, get_or-drop}
use Rattle.std.proofs.lemmas.List.Folds.{list_all-append}
use Rattle.enclosure.specs.declared.record.rows.Row.{Row}
use Rattle.history.specs.Orders.{both_rebuild, sound_below, triple_in}
use Rattle.history.proofs.Rows.{triple_within}

-- the first triple of what is left after k of them
triple_after : (bs : List ℕ) (k : ℕ) → triple_in (drop (3 * k) bs) 0 ≡ triple_in bs k
triple_after bs k =
    let z : 3 * k + 0 ≡ 3 * k = omega arith in
    λ i. record { flags = (get_or-drop (3 * k) bs 0 0 ∙ ap (λ (m : ℕ). get_or bs m 0) z) i; more = (get_or-drop (3 * k) bs 1 0) i; last = (get_or-drop (3 * k) bs 2 0) i }

triple_cut : (bs : List ℕ) (k : ℕ) → triple_in (take 3 (drop (3 * k) bs)) 0 ≡ triple_in bs k
triple_cut bs k = triple_within 1 (drop (3 * k) bs) 0 (omega arith) ∙ triple_after bs k

drop_more : (bs : List ℕ) (k : ℕ) → drop (3 * k) (drop 3 bs) ≡ drop (3 * suc k) bs
drop_more bs k = drop-drop (3 * k) 3 bs ∙ ap (λ (m : ℕ). drop m bs) (omega arith)

-- bytes cut in threes are their triples
chunk_at : (n k : ℕ) (bs d : List ℕ) → k < n → get_or (first_chunks 3 n bs) k d ≡ take 3 (drop (3 * k) bs)
chunk_at zero k bs d l = absurd (omega arith)
chunk_at (suc n) zero bs d l = refl
chunk_at (suc n) (suc k) bs d l = chunk_at n k (drop 3 bs) d (omega arith) ∙ ap (take 3) (drop_more bs k)

pub chunk_triple : (n k : ℕ) (bs d : List ℕ) → k < n → triple_in (get_or (first_chunks 3 n bs) k d) 0 ≡ triple_in bs k
chunk_triple n k bs d l = ap (λ (xs : List ℕ). triple_in xs 0) (chunk_at n k bs d l) ∙ triple_cut bs k

chunks_more : (n : ℕ) (bs : List ℕ) → first_chunks 3 (suc n) bs ≡ first_chunks 3 n bs ++ (take 3 (drop (3 * n) bs) ∷ [])
chunks_more zero bs = refl
chunks_more (suc n) bs = ap (λ xs. take 3 bs ∷ xs) (chunks_more n (drop 3 bs) ∙ ap (λ xs. first_chunks 3 n (drop 3 bs) ++ (take 3 xs ∷ [])) (drop_more bs n))

-- whether all are sound, told from the front and from the back
abbrev pub is_sound : List ℕ → Bool
is_sound t = not (both_rebuild (triple_in t 0))

turned : (a b : Bool) → (a && (b && true)) ≡ (b && a)
turned true true = refl
turned true false = refl
turned false true = refl
turned false false = refl

pub all_sound : (n : ℕ) (bs : List ℕ) → list_all is_sound (first_chunks 3 n bs) ≡ sound_below bs n
all_sound zero bs = refl
all_sound (suc n) bs =
    ap (list_all is_sound) (chunks_more n bs)
    ∙ list_all-append is_sound (first_chunks 3 n bs) (take 3 (drop (3 * n) bs) ∷ [])
    ∙ turned (list_all is_sound (first_chunks 3 n bs)) (is_sound (take 3 (drop (3 * n) bs)))
    ∙ ap (λ (t : Row). not (both_rebuild t) && list_all is_sound (first_chunks 3 n bs)) (triple_cut bs n)
    ∙ ap (λ b. not (both_rebuild (triple_in bs n)) && b) (all_sound n bs)

-- of bytes that hold d triples only those count
pub sound_within : (d n : ℕ) (bs : List ℕ) → n ≤ d → sound_below (take (3 * d) bs) n ≡ sound_below bs n
sound_within d zero bs l = refl
sound_within d (suc n) bs l =
    ap (λ (t : Row). not (both_rebuild t) && sound_below (take (3 * d) bs) n) (triple_within d bs n (omega arith))
    ∙ ap (λ b. not (both_rebuild (triple_in bs n)) && b) (sound_within d n bs (omega arith))
