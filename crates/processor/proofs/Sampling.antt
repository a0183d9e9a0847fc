-- A sample does to a shelf what it does to the history.
use Rattle.std.proofs.Common.{◌≡◌, ℕ, ◌<◌, ◌≤◌, Bool, true, cond, ltb, List, Some, None, Ok, Option, sym, refl, ap, ◌∙◌, subst, ap₂, arith}
use Rattle.std.proofs.lemmas.Bool.{both_ways, cond-true, lt-ltb, ltb-true}
use Rattle.backplane.specs.Meaning.{Inputs, Value, has, one, reads_well}
use Rattle.backplane.specs.Meaning as meaning
use Rattle.backplane.specs.declared.places.Output.{Output}
use Rattle.backplane.specs.declared.places.Output.TheVariants.{Lamp, Connection}
use Rattle.enclosure.specs.Slots.{inserted}
use Rattle.history.specs.Outputs.{connected, output, slot_lamp}
use Rattle.history.specs.Shelf as history
use Rattle.history.specs.Steps.{sampled, sampled_by, sampled_slot}
use Rattle.history.proofs.Present.{sampled_in}
use Rattle.history.proofs.Rows.{sampled_fine}
use Rattle.hosts.specs.Held.{hosts_of}
use Rattle.showing.specs.Shown.{slot_number, slots_below}
use Rattle.startup.specs.Started.{made_where}
use Rattle.table.specs.Table.{counted, counts_of, slots_of}
use Rattle.processor.specs.Follows.{Called, TiedRunning, TiedTo, done_of}
use Rattle.processor.specs.Tied.{Tied}
use Rattle.processor.specs.declared.state.Running.{Running}
use Rattle.processor.specs.declared.state.State.{State}
use Rattle.processor.proofs.Recast.{recast}

module _ (v : Value) (slots : ℕ → history.Slot) (counts : ℕ → ℕ) (hosts : ℕ → history.Host) (flags : List ℕ) (s : history.Shelf) (few : v.configuration.counts.slots ≤ 14) (t : Tied v slots counts hosts flags s)
    (q : Inputs) (slots' : ℕ → history.Slot) (counts' : ℕ → ℕ)
    (slots_now : (k : ℕ) → k < 14 → slots' k ≡ cond (ltb k v.configuration.counts.slots) (sampled_slot (inserted (slots k).state) (q.present k) (slots k)) (slots k))
    (counts_now : (k : ℕ) → k < 14 → counts' k ≡ cond (ltb k v.configuration.counts.slots) (counted (inserted (slots k).state) (q.present k) (counts k)) (counts k)) where
  abbrev seen_value : Value
  seen_value = meaning.sampled v (Some q)

  abbrev value_now : Value
  value_now = made_where (slots_below v.configuration.counts.slots) (slot_number slots') seen_value

  was : (k : ℕ) → k < v.configuration.counts.slots → inserted (slots k).state ≡ s.rest.inputs.present k
  was k l = ap (λ (x : history.Slot). inserted x.state) (t.same_slots k l) ∙ sym (t.present k l)

  slot_now : (k : ℕ) → k < v.configuration.counts.slots → slots' k ≡ (sampled q s).parts (history.slot k)
  slot_now k l =
      slots_now k (omega arith) ∙ cond-true (ltb k v.configuration.counts.slots) _ _ (lt-ltb k _ l)
      ∙ ap₂ (λ (b : Bool) (x : history.Slot). sampled_slot b (q.present k) x) (was k l) (t.same_slots k l)

  count_now : (k : ℕ) → k < v.configuration.counts.slots → counts' k ≡ (sampled q s).rest.counts k
  count_now k l =
      counts_now k (omega arith) ∙ cond-true (ltb k v.configuration.counts.slots) _ _ (lt-ltb k _ l)
      ∙ ap₂ (λ (b : Bool) (n : ℕ). counted b (q.present k) n) (was k l) (t.same_counts k l)

  outs : (o : Output) → has v.configuration o ≡ true → value_now.outputs o ≡ output (sampled q s) o
  outs (Lamp k) h = cond-true (ltb k v.configuration.counts.slots) _ _ h ∙ ap slot_lamp (slot_now k (ltb-true k _ h))
  outs (Connection k) h = cond-true (ltb k v.configuration.counts.slots) _ _ h ∙ ap (λ (x : history.Slot). one (connected x)) (slot_now k (ltb-true k _ h))
  outs o h = t.same_outputs o h

  pub sampled_tied : Tied value_now slots' counts' hosts flags (sampled q s)
  sampled_tied =
      record {
        same_slots = slot_now;
        same_counts = count_now;
        same_hosts = t.same_hosts;
        same_flags = t.same_flags;
        same_inputs = refl;
        same_outputs = outs;
        present = λ k l. (let x = s.parts (history.slot k) in rw (t.present k l) (sampled_in (q.present k) x.row x.state x.identify));
        fine = λ k l. sampled_fine (s.rest.inputs.present k) (q.present k) (s.parts (history.slot k)) (t.fine k l);
      }

-- a frame that reads as inputs, sampled
module _ (w : history.World) (v : Value) (few : v.configuration.counts.slots ≤ 14) (k k' : State) (r r' : Running) (on : k.running ≡ Some r) (on' : k'.running ≡ Some r') (frame : List ℕ) (v₁ v₂ : Value)
    (well : reads_well (w.reading frame) ≡ true) (seen : v₁ ≡ meaning.sampled v (w.reading frame))
    (slots_now : (j : ℕ) → j < 14 → slots_of r'.memory.table j ≡ cond (ltb j v₁.configuration.counts.slots) (sampled_slot (inserted (slots_of r.memory.table j).state) (v₁.inputs.present j) (slots_of r.memory.table j)) (slots_of r.memory.table j))
    (counts_now : (j : ℕ) → j < 14 → counts_of r'.memory.table j ≡ cond (ltb j v₁.configuration.counts.slots) (counted (inserted (slots_of r.memory.table j).state) (v₁.inputs.present j) (counts_of r.memory.table j)) (counts_of r.memory.table j))
    (shown : v₂ ≡ made_where (slots_below v₁.configuration.counts.slots) (slot_number (slots_of r'.memory.table)) v₁)
    (same_hosts : r'.hosts ≡ r.hosts) (same_flags : r'.memory.flags ≡ r.memory.flags) where
  pub sample_follows : (s : history.State) → TiedTo v k s → Called w s (history.sample frame) (Ok tt) v₂ k'
  sample_follows history.unpowered t = (let no : ⊥ = cc (on, t) in absurd no)
  sample_follows (history.powered s) t = go (w.reading frame) refl
    where
      go : (o : Option Inputs) → w.reading frame ≡ o → Called w (history.powered s) (history.sample frame) (Ok tt) v₂ k'
      go None e = absurd (both_ways (reads_well (w.reading frame)) (ap reads_well e) well)
      go (Some q) e =
          let tied_before = subst (λ o. TiedRunning v o s) on t in
          let x : v₁ ≡ meaning.sampled v (Some q) = seen ∙ ap (meaning.sampled v) e in
          let ss = subst (λ (u : Value). (j : ℕ) → j < 14 → slots_of r'.memory.table j ≡ cond (ltb j u.configuration.counts.slots) (sampled_slot (inserted (slots_of r.memory.table j).state) (u.inputs.present j) (slots_of r.memory.table j)) (slots_of r.memory.table j)) x slots_now in
          let cs = subst (λ (u : Value). (j : ℕ) → j < 14 → counts_of r'.memory.table j ≡ cond (ltb j u.configuration.counts.slots) (counted (inserted (slots_of r.memory.table j).state) (u.inputs.present j) (counts_of r.memory.table j)) (counts_of r.memory.table j)) x counts_now in
          let y = shown ∙ ap (λ (u : Value). made_where (slots_below u.configuration.counts.slots) (slot_number (slots_of r'.memory.table)) u) x in
          let z = sampled_tied v (slots_of r.memory.table) (counts_of r.memory.table) (hosts_of r.hosts) r.memory.flags s few tied_before q (slots_of r'.memory.table) (counts_of r'.memory.table) ss cs in
          let tied : Tied v₂ (slots_of r'.memory.table) (counts_of r'.memory.table) (hosts_of r'.hosts) r'.memory.flags (sampled q s)
          = recast y refl (ap hosts_of same_hosts) same_flags refl z in
          record {
            says = sym (ap (λ (o : Option Inputs). done_of (sampled_by s o).answer) e);
            ties = subst (TiedTo v₂ k') (sym (ap (λ (o : Option Inputs). (sampled_by s o).state) e)) (subst (λ o. TiedRunning v₂ o (sampled q s)) (sym on') tied);
          }
