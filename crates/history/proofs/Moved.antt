-- The physical state of a slot is what its events make of its power-on state.
use Rattle.std.proofs.Common.{◌≡◌, ℕ, Bool, true, false, cond, eqb, List, get_or, Some, None, Option, refl}
use Rattle.std.proofs.lemmas.Bool.{cond_both}
use Rattle.answers.specs.declared.refusal.Refusal.{Refusal}
use Rattle.enclosure.specs.declared.slots.PhysicalState.{PhysicalState}
use Rattle.history.specs.Shelf.{Answer, refused, Call, power_on, sample, reset, command, Command, slot, Slot, World}
use Rattle.history.specs.Orders.{Operation, idle, prepare, release, identify, Order, acted, operated}
use Rattle.history.specs.Steps.{Entry, first_slot, sampled_slot}
use Rattle.history.specs.Log.{order_bytes}
use Rattle.history.specs.Kept.{StatesKept, change, event_by, event_of, first_state, moved_by, moved_since, ordered_event}
use Rattle.history.proofs.Judged.{Ordered, fifteen, fourteen, ten, thirteen, twelve}
use Rattle.history.proofs.Effects.{Effect, acts, effect, still}
use Rattle.history.proofs.LastSet.{Aspect, last_set}

first_is : (b : Bool) → (first_slot b).state ≡ first_state b
first_is true = refl
first_is false = refl

sampled_state : (b now : Bool) (x : Slot) → (sampled_slot b now x).state ≡ moved_by (change b now) x.state
sampled_state true true x = refl
sampled_state true false x = refl
sampled_state false true x = refl
sampled_state false false x = refl

operated_state : (b : Bool) (o : Operation) (x : Slot) → (cond b (operated o x) x).state ≡ moved_by (cond b (event_of (Some o)) None) x.state
operated_state true idle x = refl
operated_state true prepare x = refl
operated_state true release x = refl
operated_state true identify x = refl
operated_state false o x = refl

module _ (w : World) (n : ℕ) where
  state_ordered : {bs : List ℕ} {o : Order} → Ordered w.configuration bs o → (x : Slot) → (acted (Some o) (slot n) x).state ≡ moved_by (ordered_event n bs) x.state
  state_ordered (ten k _ _) x = rw k (cond_both _ _ _ (λ (y : Slot). y.state ≡ x.state) (λ _. refl) (λ _. refl))
  state_ordered {bs} (twelve {o = o} k _ _ e) x = rw (k, e) (operated_state (eqb n (get_or bs 1 0)) o x)
  state_ordered (thirteen k _ _ _) x = rw k
  state_ordered (fourteen k _ _ _) x = rw k
  state_ordered (fifteen k) x = rw k

  effect_state : {c : Command} {a : Answer} {o : Option Order} → Effect w.configuration c a o → (x : Slot) → (acted o (slot n) x).state ≡ moved_by (ordered_event n (order_bytes c a)) x.state
  effect_state (still e) x = rw e
  effect_state (acts e k) x = rw e (state_ordered k x)

  refused_state : (c : Call) (r : Refusal) (log : List Entry) (x : PhysicalState) → moved_by (event_by w n c (refused r) log) x ≡ x
  refused_state (power_on counts frame) r log x = refl
  refused_state (sample frame) r log x = refl
  refused_state reset r log x = refl
  refused_state (command c) r log x = refl

  states : Aspect PhysicalState w (λ q. first_state (q.present n)) (λ _. None) (moved_since w n) (λ s. (s.parts (slot n)).state)
  states =
      record {
        moves = λ e log x. moved_by (event_by w n e.call e.answer log) x;
        start = λ x older. refl;
        more = λ x e later older. refl;
        none = refl;
        at_start = λ counts q. first_is (q.present n);
        at_sample = λ s log frame q e f. rw (e, f) (sampled_state (s.rest.inputs.present n) (q.present n) (s.parts (slot n)));
        at_reset = λ s log. refl;
        at_command = λ s log c. effect_state (effect w s c) (s.parts (slot n));
        at_refusal = refused_state;
      }

pub states_kept : StatesKept
states_kept w calls s n e =
    last_set PhysicalState w (λ q. first_state (q.present n)) (λ _. None) (moved_since w n) (λ t. (t.parts (slot n)).state) (states w n) calls s e
