-- An output is told by its sort and its number among those.
use Rattle.std.proofs.Common.{◌≡◌, ℕ, true, cond, eqb, sym, refl, ap, ◌∙◌}
use Rattle.std.proofs.lemmas.Bool.{and_from, and_parts, eq-eqb, eqb-true}
use Rattle.backplane.specs.Meaning.{index, same_output, sort}
use Rattle.backplane.specs.Rows.{place_in}
use Rattle.backplane.specs.declared.places.Output.{Output}
use Rattle.backplane.specs.declared.places.Output.TheVariants.{Lamp, Connection, Speed, Supply, Alarm, Lock}
use Rattle.backplane.specs.declared.rows.Row.{Row}
use Rattle.backplane.specs.declared.rows.Row.TheVariants.{Lamps, Connections, Speeds, Supplies}

-- the output of a sort that has a number among those
abbrev numbered : ℕ → ℕ → Output
numbered s k = cond (eqb s 0) (Lamp k) (cond (eqb s 1) (Connection k) (cond (eqb s 2) (Speed k) (cond (eqb s 3) (Supply k) (cond (eqb s 4) Alarm Lock))))

numbered_back : (o : Output) → numbered (sort o) (index o) ≡ o
numbered_back (Lamp k) = refl
numbered_back (Connection k) = refl
numbered_back (Speed k) = refl
numbered_back (Supply k) = refl
numbered_back Alarm = refl
numbered_back Lock = refl

pub same_is : (o at : Output) → same_output o at ≡ true → o ≡ at
same_is o at e =
    let p = and_parts (eqb (sort o) (sort at)) (eqb (index o) (index at)) e in
    sym (numbered_back o) ∙ ap (λ s. numbered s (index o)) (eqb-true (sort o) (sort at) p.0) ∙ ap (numbered (sort at)) (eqb-true (index o) (index at) p.1) ∙ numbered_back at

pub same_self : (o : Output) → same_output o o ≡ true
same_self o = and_from (eqb (sort o) (sort o)) (eqb (index o) (index o)) (eq-eqb (sort o) (sort o) refl) (eq-eqb (index o) (index o) refl)

in_row : (row : Row) (k : ℕ) → numbered (sort (place_in row 0)) k ≡ place_in row k
in_row Lamps k = refl
in_row Connections k = refl
in_row Speeds k = refl
in_row Supplies k = refl

-- an output of a row's sort is one of that row
pub place_back : (row : Row) (o : Output) → eqb (sort o) (sort (place_in row 0)) ≡ true → place_in row (index o) ≡ o
place_back row o e = sym (in_row row (index o)) ∙ ap (λ s. numbered s (index o)) (sym (eqb-true (sort o) (sort (place_in row 0)) e)) ∙ numbered_back o
