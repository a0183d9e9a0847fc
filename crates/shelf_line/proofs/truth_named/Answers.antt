use Rattle.std.proofs.Common.{◌<◌, length, rules, refl, codes, arith}
use Rattle.std.specs.Str.{IsUtf8}
use Rattle.fields.proofs.Spelled.{is_long, is_same, is_other, is_no_text}
use Rattle.shelf_line.proofs.truth_named.Goals as goal

pub returns-in-Ok-yes : goal.returns-in-Ok-yes
returns-in-Ok-yes c = rw (is_same _ _ _ c.in-Ok-yes.is-yes c.in-Ok-yes.ensures.cases.0) refl

pub returns-in-Ok-no : goal.returns-in-Ok-no
returns-in-Ok-no c = rw (is_other _ _ _ c.in-Ok-no.not-yes c.in-Ok-no.ensures.cases.0, is_same _ _ _ c.in-Ok-no.is-no c.in-Ok-no.ensures.cases.0) refl

pub returns-in_default : goal.returns-in_default
returns-in_default c = rw (is_other _ c.args.word.now _ c.in_default.not-yes (search rules), is_other _ c.args.word.now _ c.in_default.not-no (search rules)) refl

pub returns-in_default-2 : goal.returns-in_default-2
returns-in_default-2 c =
    let word = c.args.word.now in
    let none : IsUtf8 word → ⊥ = search rules in
    rw (is_no_text word (codes "yes") none (search rules), is_no_text word (codes "no") none (search rules)) refl

pub returns-then-word-gt3 : goal.returns-then-word-gt3
returns-then-word-gt3 c =
    let word = c.args.word.now in
    let long : 3 < length word = search rules in
    rw (is_long word (codes "yes") (omega (arith, long)), is_long word (codes "no") (omega (arith, long))) refl
