-- The record of a slot is what the log last set it to, and is fine.
use Rattle.std.proofs.Common.{◌≡◌, ℕ, zero, suc, ◌+◌, ◌*◌, ◌/◌, ◌%◌, ◌<◌, ◌≤◌, Bool, true, false, cond, not, ◌&&◌, ◌||◌, eqb, ◌⊎◌, List, ◌++◌, get_or, take, drop, Some, None, Option, unwrap_or, sym, refl, ap, ◌∙◌, subst, inl, inr, arith, length-take}
use Rattle.std.proofs.lemmas.List.{get_or_past, get_or-take}
use Rattle.std.proofs.lemmas.Bool.{and_parts, both_ways, cases_eq, cases_lt, cond_both, not-true}
use Rattle.answers.specs.declared.refusal.Refusal.{Refusal}
use Rattle.backplane.specs.declared.configuration.Configuration.{Configuration}
use Rattle.enclosure.specs.Flags.{bit, rebuild_stopped, rebuilding}
use Rattle.enclosure.specs.declared.record.rows.Row.{Row}
use Rattle.history.specs.Shelf.{Answer, done, refused, Call, power_on, sample, reset, command, Command, slot, Shelf, Slot, World}
use Rattle.history.specs.Orders.{Operation, idle, prepare, release, identify, Order, acted, both_rebuild, flagged, operated, sound_below, stored, triple_in, with_row}
use Rattle.history.specs.Steps.{Entry, entry, first_slot, sampled_slot, unconfigured}
use Rattle.history.specs.Log.{puts_in}
use Rattle.history.specs.Kept.{Fine, RecordsFine, RecordsKept, first_row, unconfigured_since, ordered_row, put_in_since}
use Rattle.history.proofs.Judged.{Ordered, fifteen, fourteen, ten, thirteen, twelve}
use Rattle.history.proofs.Effects.{Effect, acts, effect, still}
use Rattle.history.proofs.Along.{Along, along}
use Rattle.history.proofs.LastSet.{Aspect, last_set}
use Rattle.history.proofs.Settings.{by_effect}

-- the triples of an order 10h, within the slots and past them
pub triple_within : (d : ℕ) (xs : List ℕ) (n : ℕ) → n < d → triple_in (take (3 * d) xs) n ≡ triple_in xs n
triple_within d xs n h =
    λ i. record {
      flags = get_or-take (3 * d) xs (3 * n) 0 (omega arith) i;
      more = get_or-take (3 * d) xs (3 * n + 1) 0 (omega arith) i;
      last = get_or-take (3 * d) xs (3 * n + 2) 0 (omega arith) i;
    }

pub none_past : (d : ℕ) (xs : List ℕ) (n : ℕ) → d ≤ n → flagged (triple_in (take (3 * d) xs) n) ≡ false
none_past d xs n h =
    let a : get_or (take (3 * d) xs) (3 * n) 0 ≡ 0 = get_or_past (take (3 * d) xs) (3 * n) 0 (simp length-take (omega arith)) in
    let b : get_or (take (3 * d) xs) (3 * n + 1) 0 ≡ 0 = get_or_past (take (3 * d) xs) (3 * n + 1) 0 (simp length-take (omega arith)) in
    rw (a, b)

pub operated_row : (o : Operation) (x : Slot) → (operated o x).row ≡ x.row
operated_row idle x = refl
operated_row prepare x = refl
operated_row release x = refl
operated_row identify x = refl

-- Unconfigured, set once or again

unconfigured_again : (a : ℕ) → cond (bit 7 (cond (bit 7 a) a (a + 128))) (cond (bit 7 a) a (a + 128)) (cond (bit 7 a) a (a + 128) + 128) ≡ cond (bit 7 a) a (a + 128)
unconfigured_again a = go (bit 7 a) refl
  where
    set-now : eqb (a / 128 % 2) 1 ≡ false → eqb ((a + 128) / 128 % 2) 1 ≡ true
    set-now e = grind arith

    go : (b : Bool) → bit 7 a ≡ b → cond (bit 7 (cond b a (a + 128))) (cond b a (a + 128)) (cond b a (a + 128) + 128) ≡ cond b a (a + 128)
    go true e = rw e
    go false e = rw (set-now e)

twice_unconfigured : (t : Row) → unconfigured (unconfigured t) ≡ unconfigured t
twice_unconfigured t = λ i. record { flags = unconfigured_again t.flags i; more = t.more; last = t.last }

abbrev once : Bool → Row → Row
once b t = cond b (unconfigured t) t

put_twice : (a b : Bool) (t : Row) → once (a || b) t ≡ once a (once b t)
put_twice true true t = sym (twice_unconfigured t)
put_twice true false t = refl
put_twice false true t = refl
put_twice false false t = refl

first_is : (b : Bool) → (first_slot b).row ≡ first_row b
first_is true = refl
first_is false = refl

sampled_row : (b now : Bool) (x : Slot) → (sampled_slot b now x).row ≡ once (now && not b) x.row
sampled_row true true x = refl
sampled_row true false x = refl
sampled_row false true x = refl
sampled_row false false x = refl

module _ (w : World) (n : ℕ) (l : n < w.configuration.counts.slots) where
  row_ordered : {bs : List ℕ} {o : Order} → Ordered w.configuration bs o → (x : Slot) → (acted (Some o) (slot n) x).row ≡ unwrap_or (ordered_row n bs) x.row
  row_ordered {bs} (ten k _ _) x =
      ap (λ (t : Row). (cond (flagged t) (with_row (stored t) x) x).row) (triple_within w.configuration.counts.slots (drop 1 bs) n l)
      ∙ rw k (go (flagged (triple_in (drop 1 bs) n)))
    where
      go : (b : Bool) → (cond b (with_row (stored (triple_in (drop 1 bs) n)) x) x).row ≡ unwrap_or (cond b (Some (stored (triple_in (drop 1 bs) n))) None) x.row
      go true = refl
      go false = refl
  row_ordered {bs} (twelve {o = o} k _ _ _) x =
      rw k (cond_both (eqb n (get_or bs 1 0)) _ _ (λ (y : Slot). y.row ≡ x.row) (λ _. operated_row o x) (λ _. refl))
  row_ordered (thirteen k _ _ _) x = rw k
  row_ordered (fourteen k _ _ _) x = rw k
  row_ordered (fifteen k) x = rw k

  refused_row : (c : Call) (r : Refusal) (log : List Entry) (x : Row) → once (puts_in w n (entry c (refused r)) log) x ≡ x
  refused_row (power_on counts frame) r log x = refl
  refused_row (sample frame) r log x = refl
  refused_row reset r log x = refl
  refused_row (command c) r log x = refl

  rows : Aspect Row w (λ q. first_row (q.present n)) (ordered_row n) (unconfigured_since w n) (λ s. (s.parts (slot n)).row)
  rows =
      record {
        moves = λ e log x. once (puts_in w n e log) x;
        start = λ x older. refl;
        more = λ x e later older. put_twice (puts_in w n e (later ++ older)) (put_in_since w n later older) x;
        none = refl;
        at_start = λ counts q. first_is (q.present n);
        at_sample = λ s log frame q e f.
            let put : puts_in w n (entry (sample frame) done) log ≡ (q.present n && not (s.rest.inputs.present n)) = rw (e, f) in
            sampled_row (s.rest.inputs.present n) (q.present n) (s.parts (slot n)) ∙ ap (λ (b : Bool). once b (s.parts (slot n)).row) (sym put);
        at_reset = λ s log. refl;
        at_command = λ s log c.
            by_effect (ordered_row n) refl (λ o. (acted o (slot n) (s.parts (slot n))).row) _ refl (λ _ _ k. row_ordered k (s.parts (slot n))) (effect w s c);
        at_refusal = refused_row;
      }

pub records_kept : RecordsKept
records_kept w calls s n l e =
    last_set Row w (λ q. first_row (q.present n)) (ordered_row n) (unconfigured_since w n) (λ t. (t.parts (slot n)).row) (rows w n l) calls s e

-- what makes a record makes a fine one

fine_unconfigured : (t : Row) → Fine t → Fine (unconfigured t)
fine_unconfigured t h =
    record { rebuild = go (bit 7 t.flags); more = h.more; last = h.last }
  where
    same : eqb ((t.flags + 128) / 4 % 2) 1 ≡ eqb (t.flags / 4 % 2) 1
    same = let z : (t.flags + 128) / 4 % 2 ≡ t.flags / 4 % 2 = omega arith in ap (λ (y : ℕ). eqb y 1) z

    go : (b : Bool) → (rebuilding (cond b t.flags (t.flags + 128)) && rebuild_stopped t.more) ≡ false
    go true = h.rebuild
    go false = ap (λ (b : Bool). b && rebuild_stopped t.more) same ∙ h.rebuild

pub fine_stored : (t : Row) → both_rebuild t ≡ false → Fine (stored t)
fine_stored t h =
    let z : t.more % 4 / 2 % 2 ≡ t.more / 2 % 2 = omega arith in
    let q : rebuild_stopped (t.more % 4) ≡ rebuild_stopped t.more = ap (λ (y : ℕ). eqb y 1) z in
    record { rebuild = ap (λ (b : Bool). rebuilding t.flags && b) q ∙ h; more = omega arith; last = refl }

pub sound_at : (bs : List ℕ) (d n : ℕ) → sound_below bs d ≡ true → n < d → both_rebuild (triple_in bs n) ≡ false
sound_at bs zero n e h = absurd (omega arith)
sound_at bs (suc d) n e h =
    let p = and_parts (not (both_rebuild (triple_in bs d))) (sound_below bs d) e in
    elim (cases_eq n d) [
      | inl k ↦ subst (λ (i : ℕ). both_rebuild (triple_in bs i) ≡ false) (sym k) (not-true _ p.0)
      | inr k ↦ sound_at bs d n p.1 (omega arith)
    ]

pub act_fine : {f : Configuration} {bs : List ℕ} {o : Order} → Ordered f bs o → (n : ℕ) (x : Slot) → Fine x.row → Fine (acted (Some o) (slot n) x).row
act_fine {f} {bs} (ten k _ z) n x h =
    cond_both (flagged (triple_in (take (3 * f.counts.slots) (drop 1 bs)) n)) _ _ (λ (y : Slot). Fine y.row) (λ g. made g (cases_lt n f.counts.slots)) (λ _. h)
  where
    made : flagged (triple_in (take (3 * f.counts.slots) (drop 1 bs)) n) ≡ true → (n < f.counts.slots) ⊎ (f.counts.slots ≤ n)
        → Fine (stored (triple_in (take (3 * f.counts.slots) (drop 1 bs)) n))
    made g (inl l) =
        fine_stored (triple_in (take (3 * f.counts.slots) (drop 1 bs)) n)
        (ap both_rebuild (triple_within f.counts.slots (drop 1 bs) n l) ∙ sound_at (drop 1 bs) f.counts.slots n z l)
    made g (inr p) = absurd (both_ways _ (none_past f.counts.slots (drop 1 bs) n p) g)
act_fine {bs = bs} (twelve {o = o} k _ _ _) n x h =
    cond_both (eqb n (get_or bs 1 0)) _ _ (λ (y : Slot). Fine y.row) (λ _. subst Fine (sym (operated_row o x)) h) (λ _. h)
act_fine (thirteen k _ _ _) n x h = h
act_fine (fourteen k _ _ _) n x h = h
act_fine (fifteen k) n x h = h

effect_fine : {f : Configuration} {c : Command} {a : Answer} {o : Option Order} → Effect f c a o → (n : ℕ) (x : Slot) → Fine x.row → Fine (acted o (slot n) x).row
effect_fine (still e) n x h = h
effect_fine (acts e k) n x h = act_fine k n x h

pub sampled_fine : (b now : Bool) (x : Slot) → Fine x.row → Fine (sampled_slot b now x).row
sampled_fine true true x h = h
sampled_fine true false x h = h
sampled_fine false true x h = fine_unconfigured x.row h
sampled_fine false false x h = h

pub first_fine : (b : Bool) → Fine (first_slot b).row
first_fine true = record { rebuild = refl; more = omega arith; last = refl }
first_fine false = record { rebuild = refl; more = omega arith; last = refl }

module _ (w : World) where
  abbrev AllFine : Shelf → List Entry → Type 0
  AllFine s log = (n : ℕ) → Fine (s.parts (slot n)).row

  fine : Along w AllFine
  fine =
      record {
        starts = λ log counts frame q z e n. first_fine (q.present n);
        samples = λ s log frame q e h n. sampled_fine (s.rest.inputs.present n) (q.present n) (s.parts (slot n)) (h n);
        resets = λ s log h. h;
        commands = λ s log c h n. effect_fine (effect w s c) n (s.parts (slot n)) (h n);
        refusals = λ s log c r h. h;
      }

pub records_fine : RecordsFine
records_fine w calls s n e = along w (AllFine w) (fine w) calls s e n
