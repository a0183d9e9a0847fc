use Rattle.std.proofs.Common.{ℕ, ◌≡◌, ◌<◌, ◌≤◌, List, [], ◌∷◌, ◌++◌, length, take, ltb, sym, ap, ◌∙◌, append-nil, arith, rules}
use Rattle.std.specs.List.{flat_map}
use Rattle.std.proofs.Output.{has_written_append, has_written_of_eq}
use Rattle.std.proofs.lemmas.Bool.{cond-false, le-ltb}
use Rattle.std.proofs.lemmas.List.{take_all}
use Rattle.std.proofs.lemmas.Bool.Decides.{nat_tests}
use Rattle.std.proofs.lemmas.Grind.{common_steps}
use Rattle.printed.specs.Shown.{mark, quoted}
use Rattle.printed.proofs.QuotedDisplay.fmt.Goals as goal

-- a short word as a whole, and the front of a long one with the dots
quoted_short : (word front : List ℕ) (i : ℕ) → length word ≤ 40 → front ≡ take (length word) word → length front ≤ i → flat_map mark (take i front) ≡ quoted word
quoted_short word front i h is past =
    let whole : take (length word) word ≡ word = take_all (length word) word (omega arith) in
    let shown : take i front ≡ take 40 word = take_all i front past ∙ is ∙ whole ∙ sym (take_all 40 word h) in
    let no_dots = sym (cond-false (ltb 40 (length word)) (46 ∷ 46 ∷ 46 ∷ []) [] (le-ltb 40 (length word) h)) in
    ap (flat_map mark) shown ∙ sym (append-nil (flat_map mark (take 40 word))) ∙ ap (λ l. flat_map mark (take 40 word) ++ l) no_dots

quoted_long : (word front : List ℕ) (i : ℕ) → 40 < length word → front ≡ take 40 word → length front ≤ i → flat_map mark (take i front) ++ (46 ∷ 46 ∷ 46 ∷ []) ≡ quoted word
quoted_long word front i h is past = grind (arith, nat_tests, common_steps)

pub returns-then-is_empty-clause-writes : goal.returns-then-is_empty-clause-writes
returns-then-is_empty-clause-writes g c plain ok =
    has_written_of_eq _ _ _ _ _ (quoted_short c.args.self.now.0.now c.split_at.result.0.now c.loop-b.b-index (search rules) (search rules) (search rules)) (c.loop-b.invariant plain)

pub returns-else-is_empty-clause-writes : goal.returns-else-is_empty-clause-writes
returns-else-is_empty-clause-writes g c plain ok =
    let one = c.loop-b.invariant plain in
    has_written_of_eq _ _ _ _ _ (quoted_long c.args.self.now.0.now c.split_at.result.0.now c.loop-b.b-index (search rules) (search rules) (search rules)) (has_written_append _ _ _ _ _ _ one (c.write_str.ensures.writes one.plain ok))
