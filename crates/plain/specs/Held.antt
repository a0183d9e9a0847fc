-- What a plain backplane means.
use Rattle.std.specs.Prelude.{◌≡◌, ℕ, true, false, replicate, slice_index, slice_index_or}
use Rattle.std.proofs.Math.Option.{none}
use Rattle.backplane.specs.Configured.{kept}
use Rattle.backplane.specs.Meaning.{Beside, Outputs, Value, no_inputs, one}
use Rattle.backplane.specs.declared.configuration.Configuration.{Configuration}
use Rattle.backplane.specs.declared.places.Output.{Output}
use Rattle.backplane.specs.declared.places.Output.TheVariants.{Lamp, Connection, Speed, Supply, Alarm, Lock}
use Rattle.plain.specs.Frame.{inputs_in}
use Rattle.plain.specs.declared.tables.SlotOutputs.{SlotOutputs}
use Rattle.plain.specs.declared.tables.Tables.{Tables}

-- a slot at which all is 0
abbrev pub dark : SlotOutputs
dark = record { lamp = 0; connected = false }

-- the number at each output
abbrev pub outputs_of : Tables → Outputs
outputs_of t (Lamp k) = (slice_index_or t.slots k dark).lamp
outputs_of t (Connection k) = one (slice_index_or t.slots k dark).connected
outputs_of t (Speed k) = slice_index t.speeds k
outputs_of t (Supply k) = one (slice_index_or t.supplies k false)
outputs_of t Alarm = one t.alarm
outputs_of t Lock = one t.lock

-- it stands over nothing else
abbrev pub nothing_beside : Beside
nothing_beside = record { lender = none; bits = λ _. false }

-- the configuration that it was made with, the inputs in its frame, the outputs in its tables
abbrev pub value_of : Configuration → Tables → Value
value_of c t =
    record { configuration = kept c true; inputs = inputs_in (kept c true) t.frame; outputs = outputs_of t; beside = nothing_beside }

-- how many outputs of a sort the tables hold
abbrev pub table_size : Output → ℕ
table_size (Lamp k) = 14
table_size (Connection k) = 14
table_size (Speed k) = 16
table_size (Supply k) = 8
table_size Alarm = 1
table_size Lock = 1

-- the value of one that is made with a configuration: all inputs 0, all outputs 0
abbrev pub made_with : Configuration → Value
made_with c = record { configuration = c; inputs = no_inputs; outputs = λ _. 0; beside = nothing_beside }

-- tables in which all is 0
pub record Blank (t : Tables) : Type 0 where
  pub frame : t.frame ≡ replicate 83 0
  pub slots : t.slots ≡ replicate 14 dark
  pub speeds : t.speeds ≡ replicate 16 0
  pub supplies : t.supplies ≡ replicate 8 false
  pub alarm : t.alarm ≡ false
  pub lock : t.lock ≡ false
