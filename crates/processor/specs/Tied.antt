-- How a shelf is tied to its history.
use Rattle.std.specs.Prelude.{◌≡◌, ℕ, ◌<◌, true, List}
use Rattle.backplane.specs.Meaning.{Value, has}
use Rattle.backplane.specs.declared.places.Output.{Output}
use Rattle.enclosure.specs.Slots.{inserted}
use Rattle.history.specs.Kept.{Fine}
use Rattle.history.specs.Outputs.{output}
use Rattle.history.specs.Shelf.{Host, slot, Shelf, Slot}

-- for each fitted slot its record, physical state, identify and insertion count; for each host what is kept for it; the global flags; all inputs; each fitted output
pub record Tied (v : Value) (slots : ℕ → Slot) (counts : ℕ → ℕ) (hosts : ℕ → Host) (flags : List ℕ) (s : Shelf) : Type 0 where
  pub same_slots : (k : ℕ) → k < v.configuration.counts.slots → slots k ≡ s.parts (slot k)
  pub same_counts : (k : ℕ) → k < v.configuration.counts.slots → counts k ≡ s.rest.counts k
  pub same_hosts : (h : ℕ) → h < 16 → hosts h ≡ s.hosts h
  pub same_flags : flags ≡ s.rest.flags
  pub same_inputs : v.inputs ≡ s.rest.inputs
  pub same_outputs : (o : Output) → has v.configuration o ≡ true → v.outputs o ≡ output s o
  -- a drive is present exactly if the physical state says so, and each record is fine
  pub present : (k : ℕ) → k < v.configuration.counts.slots → s.rest.inputs.present k ≡ inserted (s.parts (slot k)).state
  pub fine : (k : ℕ) → k < v.configuration.counts.slots → Fine (s.parts (slot k)).row
