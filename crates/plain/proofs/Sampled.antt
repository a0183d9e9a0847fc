-- A frame that is kept alters the inputs, and nothing else.
use Rattle.std.proofs.Common.{◌≡◌, ℕ, true, cond, List, ◌++◌, length, Some, None, sym, refl, ap, ◌∙◌}
use Rattle.backplane.specs.Configured.{kept}
use Rattle.backplane.specs.Meaning.{sampled}
use Rattle.backplane.specs.Same.{same_value}
use Rattle.backplane.specs.declared.configuration.Configuration.{Configuration}
use Rattle.backplane.specs.declared.places.Output.{Output}
use Rattle.plain.specs.Frame.{frame_length, inputs_in, reading, well_formed}
use Rattle.plain.specs.Held.{outputs_of, value_of}
use Rattle.plain.specs.declared.tables.Tables.{Tables}
use Rattle.plain.proofs.Padded.{padded_inputs}

pub reading_some : (c : Configuration) (frame : List ℕ) → well_formed c frame ≡ true → reading c frame ≡ Some (inputs_in c frame)
reading_some c frame w = ap (λ t. cond t (Some (inputs_in c frame)) None) w

pub sampled_value : (c : Configuration) (s t : Tables) (frame rest : List ℕ) → ((o : Output) → outputs_of t o ≡ outputs_of s o) → well_formed (kept c true) frame ≡ true → length frame ≡ frame_length (kept c true) → t.frame ≡ frame ++ rest
    → value_of c t ≡ sampled (value_of c s) (reading (kept c true) frame)
sampled_value c s t frame rest alike w long is =
    same_value (value_of c t) (sampled (value_of c s) (Some (inputs_in (kept c true) frame))) refl
    (ap (inputs_in (kept c true)) is ∙ padded_inputs (kept c true) frame rest long) alike refl
    ∙ sym (ap (sampled (value_of c s)) (reading_some (kept c true) frame w))
