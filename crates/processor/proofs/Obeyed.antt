-- A shelf that obeys an order is tied to the history that does.
use Rattle.std.proofs.Common.{◌≡◌, ℕ, ◌+◌, ◌*◌, ◌%◌, ◌<◌, ◌≤◌, Bool, true, false, cond, ◌&&◌, eqb, ltb, List, [], ◌∷◌, length, get_or, take, drop, Some, sym, refl, ap, ◌∙◌, subst, arith, length-drop, length-take}
use Rattle.std.proofs.lemmas.Bool.{cond_both, cond-false, cond-true, eqb-true, lt-ltb, ltb-true}
use Rattle.backplane.specs.Meaning.{Value, altered, has, numbers, one, put, same_output}
use Rattle.backplane.specs.declared.configuration.Configuration.{Configuration}
use Rattle.backplane.specs.declared.places.Output.{Output}
use Rattle.backplane.specs.declared.places.Output.TheVariants.{Lamp, Connection, Speed, Supply, Alarm, Lock}
use Rattle.enclosure.specs.Flags.{bit}
use Rattle.driving.specs.Obeyed.{flags_after, slots_after, value_after}
use Rattle.history.specs.Orders.{Operation, Order, triples, operate, speed, switch, global, act, act_rest, both_rebuild, flagged, operated, sound_below, stored, triple_in, with_row}
use Rattle.history.specs.Outputs.{connected, output, slot_lamp}
use Rattle.history.specs.Shelf.{Host, slot, supply, Shelf, Slot}
use Rattle.history.proofs.Judged.{Ordered, fifteen, fourteen, ten, thirteen, twelve}
use Rattle.history.proofs.Present.{acted_in}
use Rattle.history.proofs.Rows.{act_fine, sound_at, triple_within}
use Rattle.table.specs.Rows.{replaced}
use Rattle.processor.specs.Tied.{Tied}

-- the history's shelf after an order
abbrev pub ordered_shelf : Configuration → Order → Shelf → Shelf
ordered_shelf c o s = record { parts = λ p. act o p (s.parts p); hosts = s.hosts; rest = act_rest c o s.rest }

one_fits : (b : Bool) → ltb (one b) 2 ≡ true
one_fits true = refl
one_fits false = refl

-- a triple that is sound becomes the record
sound_replaced : (t : _) (x : Slot) → both_rebuild t ≡ false → replaced t x ≡ cond (flagged t) (with_row (stored t) x) x
sound_replaced t x e = rw e

module _ (v : Value) (slots : ℕ → Slot) (counts : ℕ → ℕ) (hosts : ℕ → Host) (flags : List ℕ) (s : Shelf) (few : v.configuration.counts.slots ≤ 14) (t : Tied v slots counts hosts flags s)
    (slots' : ℕ → Slot) where
  abbrev c : Configuration
  c = v.configuration

  abbrev d : ℕ
  d = v.configuration.counts.slots

  -- what holds of every order
  module _ (bs : List ℕ) (o : Order) (k : Ordered v.configuration bs o) (v' : Value)
      (conf : v'.configuration ≡ v.configuration) (ins : v'.inputs ≡ v.inputs)
      (now : (j : ℕ) → j < d → slots' j ≡ act o (slot j) (slots j))
      (rest-inputs : (act_rest c o s.rest).inputs ≡ s.rest.inputs)
      (rest-counts : (act_rest c o s.rest).counts ≡ s.rest.counts)
      (rest-flags : flags_after o s.rest.flags ≡ (act_rest c o s.rest).flags)
      (outs : (q : Output) → has c q ≡ true → v'.outputs q ≡ output (ordered_shelf c o s) q) where
    back : (j : ℕ) → j < v'.configuration.counts.slots → j < d
    back j l = subst (λ (f : Configuration). j < f.counts.slots) conf l

    tied : Tied v' slots' counts hosts (flags_after o flags) (ordered_shelf c o s)
    tied =
        record {
          same_slots = λ j l. now j (back j l) ∙ ap (act o (slot j)) (t.same_slots j (back j l));
          same_counts = λ j l. t.same_counts j (back j l) ∙ sym (ap (λ (f : ℕ → ℕ). f j) rest-counts);
          same_hosts = t.same_hosts;
          same_flags = ap (flags_after o) t.same_flags ∙ rest-flags;
          same_inputs = ins ∙ t.same_inputs ∙ sym rest-inputs;
          same_outputs = λ q h. outs q (subst (λ (f : Configuration). has f q ≡ true) conf h);
          present = λ j l. ap (λ i. i.present j) rest-inputs ∙ t.present j (back j l) ∙ sym (acted_in (Some o) j (s.parts (slot j)));
          fine = λ j l. act_fine k j (s.parts (slot j)) (t.fine j (back j l));
        }

-- what an output that is put leaves
put_leaves : {X : Type 0} (f : Value → X) (v : Value) (at : Output) (n : ℕ) → f (altered v at n) ≡ f v → f (put v at n) ≡ f v
put_leaves f v at n e = cond_both (has v.configuration at && ltb n (numbers at)) _ _ (λ (u : Value). f u ≡ f v) (λ _. e) (λ _. refl)

put_conf : (v : Value) (at : Output) (n : ℕ) → (put v at n).configuration ≡ v.configuration
put_conf v at n = put_leaves (λ u. u.configuration) v at n refl

put_ins : (v : Value) (at : Output) (n : ℕ) → (put v at n).inputs ≡ v.inputs
put_ins v at n = put_leaves (λ u. u.inputs) v at n refl

put_other : (v : Value) (at o : Output) (n : ℕ) → same_output o at ≡ false → (put v at n).outputs o ≡ v.outputs o
put_other v at o n e = put_leaves (λ u. u.outputs o) v at n (cond-false (same_output o at) _ _ e)

one_cond : (b on y : Bool) (n : ℕ) → n ≡ one y → cond b (one on) n ≡ one (cond b on y)
one_cond true on y n e = refl
one_cond false on y n e = e

module _ (v : Value) (slots : ℕ → Slot) (counts : ℕ → ℕ) (hosts : ℕ → Host) (flags : List ℕ) (s : Shelf) (few : v.configuration.counts.slots ≤ 14) (t : Tied v slots counts hosts flags s)
    (slots' : ℕ → Slot) where
  module _ (bs : List ℕ) (k : get_or bs 0 0 ≡ 0x10) (l : 3 * v.configuration.counts.slots < length bs) (z : sound_below (drop 1 bs) v.configuration.counts.slots ≡ true) where
    abbrev told : List ℕ
    told = take (3 * v.configuration.counts.slots) (drop 1 bs)

    long : length told ≡ 3 * v.configuration.counts.slots
    long = let a = length-take (3 * v.configuration.counts.slots) (drop 1 bs) in let b = length-drop 1 bs in omega arith

    stored_now : ((j : ℕ) → j < 14 → slots' j ≡ slots_after (triples told) slots j) → (j : ℕ) → j < v.configuration.counts.slots → slots' j ≡ act (triples told) (slot j) (slots j)
    stored_now e j m =
        let n = long in
        let p : 3 * j + 2 < length told = omega arith in
        let q : both_rebuild (triple_in told j) ≡ false = ap both_rebuild (triple_within v.configuration.counts.slots (drop 1 bs) j m) ∙ sound_at (drop 1 bs) v.configuration.counts.slots j z m in
        e j (omega arith) ∙ cond-true (ltb (3 * j + 2) (length told)) _ _ (lt-ltb (3 * j + 2) (length told) p) ∙ sound_replaced (triple_in told j) (slots j) q

    ten_tied : ((j : ℕ) → j < 14 → slots' j ≡ slots_after (triples told) slots j)
        → Tied (value_after (triples told) slots' v) slots' counts hosts flags (ordered_shelf v.configuration (triples told) s)
    ten_tied e = tied v slots counts hosts flags s few t slots' bs (triples told) (ten k l z) (value_after (triples told) slots' v) refl refl (stored_now e) refl refl refl outs
      where
        there : (j : ℕ) → ltb j v.configuration.counts.slots ≡ true → slots' j ≡ act (triples told) (slot j) (s.parts (slot j))
        there j h = let m = ltb-true j _ h in stored_now e j m ∙ ap (act (triples told) (slot j)) (t.same_slots j m)

        outs : (q : Output) → has v.configuration q ≡ true → (value_after (triples told) slots' v).outputs q ≡ output (ordered_shelf v.configuration (triples told) s) q
        outs (Lamp j) h = cond-true (ltb j v.configuration.counts.slots) _ _ h ∙ ap slot_lamp (there j h)
        outs (Connection j) h = cond-true (ltb j v.configuration.counts.slots) _ _ h ∙ ap (λ (x : Slot). one (connected x)) (there j h)
        outs q h = t.same_outputs q h

  module _ (bs : List ℕ) (n : ℕ) (o : Operation) (k : Ordered v.configuration bs (operate n o)) where
    twelve_tied : ((j : ℕ) → j < 14 → slots' j ≡ slots_after (operate n o) slots j)
        → Tied (value_after (operate n o) slots' v) slots' counts hosts flags (ordered_shelf v.configuration (operate n o) s)
    twelve_tied e = tied v slots counts hosts flags s few t slots' bs (operate n o) k (value_after (operate n o) slots' v) refl refl (λ j m. e j (omega arith)) refl refl refl outs
      where
        there : (j : ℕ) → ltb j v.configuration.counts.slots ≡ true → slots' j ≡ act (operate n o) (slot j) (s.parts (slot j))
        there j h = let m = ltb-true j _ h in e j (omega arith) ∙ ap (act (operate n o) (slot j)) (t.same_slots j m)

        -- something that an output shows of a slot
        shows : (f : Slot → ℕ) (j old : ℕ) → ltb j v.configuration.counts.slots ≡ true → old ≡ f (s.parts (slot j))
            → cond (ltb j v.configuration.counts.slots && eqb j n) (f (slots' n)) old ≡ f (act (operate n o) (slot j) (s.parts (slot j)))
        shows f j old h is = rw h (go (eqb j n) refl)
          where
            go : (b : Bool) → eqb j n ≡ b → cond b (f (slots' n)) old ≡ f (cond b (operated o (s.parts (slot j))) (s.parts (slot j)))
            go true b = ap (λ (i : ℕ). f (slots' i)) (sym (eqb-true j n b)) ∙ ap f (there j h ∙ cond-true (eqb j n) _ _ b)
            go false b = is

        outs : (q : Output) → has v.configuration q ≡ true → (value_after (operate n o) slots' v).outputs q ≡ output (ordered_shelf v.configuration (operate n o) s) q
        outs (Lamp j) h = shows slot_lamp j (v.outputs (Lamp j)) h (t.same_outputs (Lamp j) h)
        outs (Connection j) h = shows (λ x. one (connected x)) j (v.outputs (Connection j)) h (t.same_outputs (Connection j) h)
        outs q h = t.same_outputs q h

  module _ (bs : List ℕ) (n x : ℕ) (k : Ordered v.configuration bs (speed n x)) (l : n < v.configuration.counts.fans) (m : x < 5) where
    thirteen_tied : ((j : ℕ) → j < 14 → slots' j ≡ slots j) → Tied (value_after (speed n x) slots' v) slots' counts hosts flags (ordered_shelf v.configuration (speed n x) s)
    thirteen_tied e =
        let is : put v (Speed n) x ≡ altered v (Speed n) x = rw (lt-ltb n _ l, lt-ltb x 5 m) in
        subst (λ (u : Value). Tied u slots' counts hosts flags (ordered_shelf v.configuration (speed n x) s)) (sym is)
        (tied v slots counts hosts flags s few t slots' bs (speed n x) k (altered v (Speed n) x) refl refl (λ j b. e j (omega arith)) refl refl refl outs)
      where
        outs : (q : Output) → has v.configuration q ≡ true → (altered v (Speed n) x).outputs q ≡ output (ordered_shelf v.configuration (speed n x) s) q
        outs (Speed j) h = ap (cond (eqb j n) x) (t.same_outputs (Speed j) h)
        outs q h = t.same_outputs q h

  module _ (bs : List ℕ) (n : ℕ) (on : Bool) (k : Ordered v.configuration bs (switch n on)) (l : n < v.configuration.counts.supplies) where
    fourteen_tied : ((j : ℕ) → j < 14 → slots' j ≡ slots j) → Tied (value_after (switch n on) slots' v) slots' counts hosts flags (ordered_shelf v.configuration (switch n on) s)
    fourteen_tied e =
        let is : put v (Supply n) (one on) ≡ altered v (Supply n) (one on) = rw (lt-ltb n _ l, one_fits on) in
        subst (λ (u : Value). Tied u slots' counts hosts flags (ordered_shelf v.configuration (switch n on) s)) (sym is)
        (tied v slots counts hosts flags s few t slots' bs (switch n on) k (altered v (Supply n) (one on)) refl refl (λ j b. e j (omega arith)) refl refl refl outs)
      where
        outs : (q : Output) → has v.configuration q ≡ true → (altered v (Supply n) (one on)).outputs q ≡ output (ordered_shelf v.configuration (switch n on) s) q
        outs (Supply j) h = one_cond (eqb j n) on (s.parts (supply j)) (v.outputs (Supply j)) (t.same_outputs (Supply j) h)
        outs q h = t.same_outputs q h

  module _ (bs : List ℕ) (a b e : ℕ) (k : Ordered v.configuration bs (global a b e)) where
    fifteen_tied : ((j : ℕ) → j < 14 → slots' j ≡ slots j) → Tied (value_after (global a b e) slots' v) slots' counts hosts (a ∷ b % 16 ∷ 0 ∷ []) (ordered_shelf v.configuration (global a b e) s)
    fifteen_tied now =
        tied v slots counts hosts flags s few t slots' bs (global a b e) k (put (put v Alarm x) Lock y)
        (put_conf (put v Alarm x) Lock y ∙ put_conf v Alarm x) (put_ins (put v Alarm x) Lock y ∙ put_ins v Alarm x) (λ j m. now j (omega arith)) refl refl refl outs
      where
        x : ℕ
        x = one (bit 0 a)

        y : ℕ
        y = one (bit 2 b)

        kept : (q : Output) → same_output q Lock ≡ false → same_output q Alarm ≡ false → (put (put v Alarm x) Lock y).outputs q ≡ v.outputs q
        kept q c₁ c₂ = put_other (put v Alarm x) Lock q y c₁ ∙ put_other v Alarm q x c₂

        set_alarm : v.configuration.alarm ≡ true → (put v Alarm x).outputs Alarm ≡ x
        set_alarm f = let is : put v Alarm x ≡ altered v Alarm x = rw (f, one_fits (bit 0 a)) in ap (λ (u : Value). u.outputs Alarm) is

        set_lock : v.configuration.lock ≡ true → (put (put v Alarm x) Lock y).outputs Lock ≡ y
        set_lock f =
            let g : (put v Alarm x).configuration.lock ≡ true = ap (λ (p : Configuration). p.lock) (put_conf v Alarm x) ∙ f in
            let is : put (put v Alarm x) Lock y ≡ altered (put v Alarm x) Lock y = rw (g, one_fits (bit 2 b)) in ap (λ (u : Value). u.outputs Lock) is

        outs : (q : Output) → has v.configuration q ≡ true → (put (put v Alarm x) Lock y).outputs q ≡ output (ordered_shelf v.configuration (global a b e) s) q
        outs Alarm h = put_other (put v Alarm x) Lock Alarm y refl ∙ set_alarm h ∙ sym (ap one (cond-true v.configuration.alarm (bit 0 a) s.rest.alarm h))
        outs Lock h = set_lock h ∙ sym (ap one (cond-true v.configuration.lock (bit 2 b) s.rest.lock h))
        outs q h = kept q refl refl ∙ t.same_outputs q h

  pub obeyed_tied : (bs : List ℕ) (o : Order) → Ordered v.configuration bs o → ((j : ℕ) → j < 14 → slots' j ≡ slots_after o slots j)
      → Tied (value_after o slots' v) slots' counts hosts (flags_after o flags) (ordered_shelf v.configuration o s)
  obeyed_tied bs _ (ten k l z) e = ten_tied bs k l z e
  obeyed_tied bs _ (twelve {o = o} k l m q) e = twelve_tied bs (get_or bs 1 0) o (twelve k l m q) e
  obeyed_tied bs _ (thirteen k l m q) e = thirteen_tied bs (get_or bs 1 0) (get_or bs 2 0) (thirteen k l m q) m q e
  obeyed_tied bs _ (fourteen k l m q) e = fourteen_tied bs (get_or bs 1 0) (eqb (get_or bs 2 0) 1) (fourteen k l m q) m e
  obeyed_tied bs _ (fifteen k) e = fifteen_tied bs (get_or bs 1 0) (get_or bs 2 0) (get_or bs 3 0) (fifteen k) e
