use Rattle.std.proofs.Common.{◌≡◌, ℕ, ◌<◌, Bool, true, false, not, List, length, Some, None, Option, option_map, refl, ap, ◌∙◌, rules}
use Rattle.std.specs.Borrow.{Bor}
use Rattle.std.specs.Bool.{then_some}
use Rattle.words.specs.Words.{pieces}
use Rattle.words.proofs.Pieces.{Cut, cut_some, cut_none}
use Rattle.words.proofs.cut.Goals as goal

told : (b : Bool) (word : Bor (List ℕ)) (left : List (List ℕ)) (o : Option (Bor (List ℕ))) (r : Option (List ℕ) × List (List ℕ)) → o ≡ then_some (not b) word → (b ≡ true → (None, left) ≡ r) → (b ≡ false → (Some word.now, left) ≡ r) → (option_map (λ x. x.now) o, left) ≡ r
told true word left o r is none some = ap (λ o. (option_map (λ x. x.now) o, left)) is ∙ none refl
told false word left o r is none some = ap (λ o. (option_map (λ x. x.now) o, left)) is ∙ some refl

pub returns : goal.returns
returns c =
    let text = c.args.text.now in
    let gap = c.split_before.result.0.now in
    let rest = c.split_before.result.1.now in
    let word = c.split_before-2.result.0 in
    let past = c.split_before-2.result.1.now in
    let cut : Cut text gap rest word.now past = record { blanks = search rules; start = c.split_before.ensures.whole; first = search rules; others = c.split_before-2.ensures.whole } in
    told c.is_empty.result word (pieces false past) c.then_some.result _ c.then_some.ensures
    (λ e. let none : length word.now ≡ 0 = search rules in cut_none text gap rest word.now past cut none)
    (λ e. let some : 0 < length word.now = search rules in cut_some text gap rest word.now past cut some)
