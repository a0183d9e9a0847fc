use Rattle.std.proofs.Common.{◌<◌, length, rules, refl, codes, arith}
use Rattle.std.specs.Str.{IsUtf8}
use Rattle.fields.proofs.Spelled.{is_long, is_same, is_other, is_no_text}
use Rattle.shelf_line.proofs.kind_named.Goals as goal

pub returns-in-Ok-plain : goal.returns-in-Ok-plain
returns-in-Ok-plain c = rw (is_same _ _ _ c.in-Ok-plain.is-plain c.in-Ok-plain.ensures.cases.0) refl

pub returns-in-Ok-packed : goal.returns-in-Ok-packed
returns-in-Ok-packed c = rw (is_other _ _ _ c.in-Ok-packed.not-plain c.in-Ok-packed.ensures.cases.0, is_same _ _ _ c.in-Ok-packed.is-packed c.in-Ok-packed.ensures.cases.0) refl

pub returns-in_default : goal.returns-in_default
returns-in_default c = rw (is_other _ c.args.word.now _ c.in_default.not-plain (search rules), is_other _ c.args.word.now _ c.in_default.not-packed (search rules)) refl

pub returns-in_default-2 : goal.returns-in_default-2
returns-in_default-2 c =
    let word = c.args.word.now in
    let none : IsUtf8 word → ⊥ = search rules in
    rw (is_no_text word (codes "plain") none (search rules), is_no_text word (codes "packed") none (search rules)) refl

pub returns-then-word-gt6 : goal.returns-then-word-gt6
returns-then-word-gt6 c =
    let word = c.args.word.now in
    let long : 6 < length word = search rules in
    rw (is_long word (codes "plain") (omega (arith, long)), is_long word (codes "packed") (omega (arith, long))) refl
