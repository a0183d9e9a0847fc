-- The words of a line: how they are cut off, and that joined words are found again. Assumes nothing.
use Rattle.std.proofs.Common.{◌≡◌, ℕ, ◌<◌, Bool, true, false, cond, not, List, [], ◌∷◌, ◌++◌, length, take, Some, None, All, Option, sym, refl, ap, ◌∙◌, arith, append-nil}
use Rattle.std.specs.List.{before_first, position, position_or_len}
use Rattle.std.specs.Option.{unwrap_or}
use Rattle.std.proofs.lemmas.List.Elements.{All-nil, All-cons, All-head, All-tail, All-append, All-weaker}
use Rattle.std.proofs.lemmas.Grind.{common_steps}
use Rattle.std.proofs.lemmas.List.{nil_from_length}
use Rattle.std.proofs.lemmas.List.Sums.{fails_before_first, prefix_len-le-length, take_while-cons}
use Rattle.std.proofs.lemmas.Bool.{cond-true, cond-false, not_from_true, not_from_false, not-true, not-false, both_ways}
use Rattle.std.proofs.lemmas.Bool.Decides.{nat_tests}
use Rattle.words.specs.Words.{blank, comment, pieces, words, taken, joined_after, joined_by, IsWord}

module _ (test : ℕ → Bool) where
  abbrev Fails : ℕ → Type 0
  Fails c = test c ≡ false

  -- What stands before the first place that passes, or all of the text.
  pub front_found : (cs front : List ℕ) (found : Option ℕ) (n : ℕ) → found ≡ position test cs → n ≡ unwrap_or found (length cs) → front ≡ take n cs → front ≡ before_first test cs
  front_found cs front found n at is cut =
      let h = prefix_len-le-length (λ x. not (test x)) cs in
      let end : n ≡ position_or_len test cs = grind (arith, nat_tests) in
      cut ∙ ap (λ k. take k cs) end

  ends : (c : ℕ) (cs : List ℕ) → test c ≡ true → before_first test (c ∷ cs) ≡ []
  ends c cs e = take_while-cons (λ x. not (test x)) c cs ∙ cond-false (not (test c)) (c ∷ before_first test cs) [] (not_from_true (test c) e)

  goes_on : (c : ℕ) (cs : List ℕ) → test c ≡ false → before_first test (c ∷ cs) ≡ c ∷ before_first test cs
  goes_on c cs e = take_while-cons (λ x. not (test x)) c cs ∙ cond-true (not (test c)) (c ∷ before_first test cs) [] (not_from_false (test c) e)

  stops_at : (c : ℕ) (cs : List ℕ) → before_first test (c ∷ cs) ≡ [] → test c ≡ true
  stops_at c cs h = let e = take_while-cons (λ x. not (test x)) c cs in grind (arith, nat_tests)

  front_append : (cs rest : List ℕ) → All (λ c. test c ≡ false) cs → before_first test rest ≡ [] → before_first test (cs ++ rest) ≡ cs
  front_append [] rest h e = e
  front_append (c ∷ cs) rest h e = goes_on c (cs ++ rest) (All-head Fails c cs h) ∙ ap (λ (l : List ℕ). c ∷ l) (front_append cs rest (All-tail Fails c cs h) e)

  front_all : (cs : List ℕ) → All (λ c. test c ≡ false) cs → before_first test cs ≡ cs
  front_all cs h = sym (ap (before_first test) (append-nil cs)) ∙ front_append cs [] h refl

  -- A text cut before the first byte that passes: none passes in front, and the rest begins with one.
  front_fails : (cs : List ℕ) → All (λ c. test c ≡ false) (before_first test cs)
  front_fails cs = λ k d h. let fails = fails_before_first test cs k d (grind (arith, common_steps)) in grind (arith, common_steps)

  rest_stops_at : (c : ℕ) (cs rest : List ℕ) (b : Bool) → test c ≡ b → (cs ≡ before_first test cs ++ rest → before_first test rest ≡ []) → c ∷ cs ≡ before_first test (c ∷ cs) ++ rest → before_first test rest ≡ []
  rest_stops_at c cs rest true e so whole = let h = ends c cs e in sym (ap (before_first test) (whole ∙ ap (λ (l : List ℕ). l ++ rest) h)) ∙ h
  rest_stops_at c cs rest false e so whole = so (let h = goes_on c cs e in cc)

  rest_stops : (cs rest : List ℕ) → cs ≡ before_first test cs ++ rest → before_first test rest ≡ []
  rest_stops [] rest e = sym (ap (before_first test) e)
  rest_stops (c ∷ cs) rest e = rest_stops_at c cs rest (test c) refl (rest_stops cs rest) e

abbrev Ink : ℕ → Type 0
Ink c = blank c ≡ false

piece_gap : (inside : Bool) (c : ℕ) (cs : List ℕ) → blank c ≡ true → pieces inside (c ∷ cs) ≡ pieces false cs
piece_gap inside c cs e = cond-true (blank c) (pieces false cs) (cond inside (pieces true cs) (before_first blank (c ∷ cs) ∷ pieces true cs)) e

piece_on : (c : ℕ) (cs : List ℕ) → blank c ≡ false → pieces true (c ∷ cs) ≡ pieces true cs
piece_on c cs e = cond-false (blank c) (pieces false cs) (pieces true cs) e

piece_new : (c : ℕ) (cs : List ℕ) → blank c ≡ false → pieces false (c ∷ cs) ≡ before_first blank (c ∷ cs) ∷ pieces true cs
piece_new c cs e = cond-false (blank c) (pieces false cs) (before_first blank (c ∷ cs) ∷ pieces true cs) e

-- Blanks in front hold no word.
over_gap : (gap rest : List ℕ) → All (λ c. blank c ≡ true) gap → pieces false (gap ++ rest) ≡ pieces false rest
over_gap [] rest h = refl
over_gap (c ∷ gap) rest h =
    let P : ℕ → Type 0 = λ c. blank c ≡ true in
    piece_gap false c (gap ++ rest) (All-head P c gap h) ∙ over_gap gap rest (All-tail P c gap h)

-- What goes on with a word up to a blank or the end holds no other.
over_word : (w rest : List ℕ) → All (λ c. blank c ≡ false) w → pieces true (w ++ rest) ≡ pieces true rest
over_word [] rest h = refl
over_word (c ∷ w) rest h = piece_on c (w ++ rest) (All-head Ink c w h) ∙ over_word w rest (All-tail Ink c w h)

at_end : (rest : List ℕ) → before_first blank rest ≡ [] → pieces true rest ≡ pieces false rest
at_end [] h = refl
at_end (c ∷ cs) h = let e = stops_at blank c cs h in piece_gap true c cs e ∙ sym (piece_gap false c cs e)

-- A word up to a blank or the end comes first, and the others come after it.
word_first : (w rest : List ℕ) → 0 < length w → All (λ c. blank c ≡ false) w → before_first blank rest ≡ [] → pieces false (w ++ rest) ≡ w ∷ pieces false rest
word_first [] rest some h e = absurd (omega arith)
word_first (c ∷ w) rest some h e =
    let front = front_append blank (c ∷ w) rest h e in
    let others = over_word w rest (All-tail Ink c w h) in
    let end = at_end rest e in
    piece_new c (w ++ rest) (All-head Ink c w h) ∙ (λ i. front i ∷ (others ∙ end) i)

-- Where no word follows the blanks, nothing does.
nothing : (rest : List ℕ) → before_first blank rest ≡ [] → before_first (λ d. not (blank d)) rest ≡ [] → rest ≡ []
nothing [] h k = refl
nothing (c ∷ cs) h k = absurd (both_ways (blank c) (not-true (blank c) (stops_at (λ d. not (blank d)) c cs k)) (stops_at blank c cs h))

-- A text cut at the end of its blanks, and what follows at the end of its first word.
pub record Cut (text gap rest word past : List ℕ) : Type 0 where
  pub blanks : gap ≡ before_first (λ c. not (blank c)) text
  pub start : text ≡ gap ++ rest
  pub first : word ≡ before_first blank rest
  pub others : rest ≡ word ++ past

module _ (text gap rest word past : List ℕ) (h : Cut text gap rest word past) where
  gap_over : pieces false text ≡ pieces false rest
  gap_over =
      let each : All (λ c. blank c ≡ true) gap = rw h.blanks (All-weaker (λ c. not (blank c) ≡ false) (λ c. blank c ≡ true) (λ c e. not-false (blank c) e) _ (front_fails (λ c. not (blank c)) text)) in
      ap (pieces false) h.start ∙ over_gap gap rest each

  past_stops : before_first blank past ≡ []
  past_stops = rest_stops blank rest past (h.others ∙ ap (λ (l : List ℕ). l ++ past) h.first)

  pub cut_some : 0 < length word → (Some word, pieces false past) ≡ taken (pieces false text)
  cut_some some =
      let each : All (λ c. blank c ≡ false) word = rw h.first (front_fails blank rest) in
      sym (ap taken (gap_over ∙ ap (pieces false) h.others ∙ word_first word past some each past_stops))

  pub cut_none : length word ≡ 0 → (None, pieces false past) ≡ taken (pieces false text)
  cut_none none =
      let empty = nil_from_length word none in
      let same : rest ≡ past = h.others ∙ ap (λ (l : List ℕ). l ++ past) empty in
      let end : rest ≡ [] = nothing rest (sym h.first ∙ empty) (rest_stops (λ c. not (blank c)) text rest (h.start ∙ ap (λ (l : List ℕ). l ++ rest) h.blanks)) in
      ap (λ (l : List ℕ). (None, pieces false l)) (sym same ∙ end) ∙ sym (ap taken (gap_over ∙ ap (pieces false) end))

-- Joined words are found again.
abbrev Bare : ℕ → Type 0
Bare c = (blank c ≡ false) × (comment c ≡ false)

abbrev IsCode : ℕ → Type 0
IsCode c = comment c ≡ false

inked : (w : List ℕ) → IsWord w → All (λ c. blank c ≡ false) w
inked w h = All-weaker Bare Ink (λ c p. p.0) w h.1

coded : (w : List ℕ) → IsWord w → All (λ c. comment c ≡ false) w
coded w h = All-weaker Bare IsCode (λ c p. p.1) w h.1

module _ (b : ℕ) (is : blank b ≡ true) where
  stops : (ws : List (List ℕ)) → before_first blank (joined_after b ws) ≡ []
  stops [] = refl
  stops (w ∷ ws) = ends blank b (w ++ joined_after b ws) is

  found_first : (w : List ℕ) (ws : List (List ℕ)) → IsWord w → pieces false (joined_after b ws) ≡ ws → pieces false (w ++ joined_after b ws) ≡ w ∷ ws
  found_first w ws h others = word_first w (joined_after b ws) h.0 (inked w h) (stops ws) ∙ ap (λ (l : List (List ℕ)). w ∷ l) others

  found_after : (ws : List (List ℕ)) → All IsWord ws → pieces false (joined_after b ws) ≡ ws
  found_after [] h = refl
  found_after (w ∷ ws) h = piece_gap false b (w ++ joined_after b ws) is ∙ found_first w ws (All-head IsWord w ws h) (found_after ws (All-tail IsWord w ws h))

  found : (ws : List (List ℕ)) → All IsWord ws → pieces false (joined_by b ws) ≡ ws
  found [] h = refl
  found (w ∷ ws) h = found_first w ws (All-head IsWord w ws h) (found_after ws (All-tail IsWord w ws h))

  code_after : (ws : List (List ℕ)) → All IsWord ws → All (λ c. comment c ≡ false) (joined_after b ws)
  code_after [] h = All-nil IsCode
  code_after (w ∷ ws) h = All-cons IsCode b (w ++ joined_after b ws) (grind (arith, nat_tests)) (All-append IsCode w (joined_after b ws) (coded w (All-head IsWord w ws h)) (code_after ws (All-tail IsWord w ws h)))

  code_all : (ws : List (List ℕ)) → All IsWord ws → All (λ c. comment c ≡ false) (joined_by b ws)
  code_all [] h = All-nil IsCode
  code_all (w ∷ ws) h = All-append IsCode w (joined_after b ws) (coded w (All-head IsWord w ws h)) (code_after ws (All-tail IsWord w ws h))

  pub words_back : (line : List ℕ) (ws : List (List ℕ)) → All IsWord ws → line ≡ joined_by b ws → words line ≡ ws
  words_back line ws h e = ap words e ∙ ap (pieces false) (front_all comment (joined_by b ws) (code_all ws h)) ∙ found ws h
