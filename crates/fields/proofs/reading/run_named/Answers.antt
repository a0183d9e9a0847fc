use Rattle.std.proofs.Common.{rules, refl, ◌≡◌, sym, ◌∙◌}
use Rattle.std.specs.Str.{IsUtf8}
use Rattle.digits.specs.Number.{number_read}
use Rattle.fields.specs.Fields.{run_of_number}
use Rattle.fields.proofs.RunNames.{other_name, no_name, long_name}
use Rattle.fields.proofs.Spelled.{is_same, is_other}
use Rattle.fields.proofs.reading.run_named.Goals as goal
use Rattle.fields.proofs.reading.run_named.Goals.{in_default-via-in-Ok+in_default, in_default-via-in_default}

pub returns-in-Ok-fans : goal.returns-in-Ok-fans
returns-in-Ok-fans c = rw (is_same _ _ _ c.in-Ok-fans.is-fans c.in-Ok-fans.ensures.cases.0) refl

pub returns-in-Ok-supplies : goal.returns-in-Ok-supplies
returns-in-Ok-supplies c = rw (is_other _ _ _ c.in-Ok-supplies.not-fans c.in-Ok-supplies.ensures.cases.0, is_same _ _ _ c.in-Ok-supplies.is-supplies c.in-Ok-supplies.ensures.cases.0) refl

pub returns-in-Ok-ids : goal.returns-in-Ok-ids
returns-in-Ok-ids c = rw (is_other _ _ _ c.in-Ok-ids.not-fans c.in-Ok-ids.ensures.cases.0, is_other _ _ _ c.in-Ok-ids.not-supplies c.in-Ok-ids.ensures.cases.0, is_same _ _ _ c.in-Ok-ids.is-ids c.in-Ok-ids.ensures.cases.0) refl

pub returns-in-Ok-temperatures : goal.returns-in-Ok-temperatures
returns-in-Ok-temperatures c = rw (is_other _ _ _ c.in-Ok-temperatures.not-fans c.in-Ok-temperatures.ensures.cases.0, is_other _ _ _ c.in-Ok-temperatures.not-supplies c.in-Ok-temperatures.ensures.cases.0, is_other _ _ _ c.in-Ok-temperatures.not-ids c.in-Ok-temperatures.ensures.cases.0, is_same _ _ _ c.in-Ok-temperatures.is-temperatures c.in-Ok-temperatures.ensures.cases.0) refl

pub returns-in-Ok-slots : goal.returns-in-Ok-slots
returns-in-Ok-slots c = rw (is_other _ _ _ c.in-Ok-slots.not-fans c.in-Ok-slots.ensures.cases.0, is_other _ _ _ c.in-Ok-slots.not-supplies c.in-Ok-slots.ensures.cases.0, is_other _ _ _ c.in-Ok-slots.not-ids c.in-Ok-slots.ensures.cases.0, is_other _ _ _ c.in-Ok-slots.not-temperatures c.in-Ok-slots.ensures.cases.0, is_same _ _ _ c.in-Ok-slots.is-slots c.in-Ok-slots.ensures.cases.0) refl

pub returns-in-Ok-counts : goal.returns-in-Ok-counts
returns-in-Ok-counts c = rw (is_other _ _ _ c.in-Ok-counts.not-fans c.in-Ok-counts.ensures.cases.0, is_other _ _ _ c.in-Ok-counts.not-supplies c.in-Ok-counts.ensures.cases.0, is_other _ _ _ c.in-Ok-counts.not-ids c.in-Ok-counts.ensures.cases.0, is_other _ _ _ c.in-Ok-counts.not-temperatures c.in-Ok-counts.ensures.cases.0, is_other _ _ _ c.in-Ok-counts.not-slots c.in-Ok-counts.ensures.cases.0, is_same _ _ _ c.in-Ok-counts.is-counts c.in-Ok-counts.ensures.cases.0) refl

pub returns-in_default : goal.returns-in_default
returns-in_default c =
    let word = c.args.word.now in
    let number : c.map-in_default.result ≡ run_of_number (number_read 255 word) = search rules in
    elim c.in_default.branch [
      | in_default-via-in-Ok+in_default w ↦
          number ∙ sym (other_name _ word w.in_default.not-fans w.in_default.not-supplies w.in_default.not-ids w.in_default.not-temperatures w.in_default.not-slots w.in_default.not-counts (search rules))
      | in_default-via-in_default w ↦
          let none : IsUtf8 word → ⊥ = search rules in
          number ∙ sym (no_name word none)
    ]

pub returns-then-word-gt12 : goal.returns-then-word-gt12
returns-then-word-gt12 c =
    let word = c.args.word.now in
    let number : c.map.result ≡ run_of_number (number_read 255 word) = search rules in
    number ∙ sym (long_name word (search rules))
