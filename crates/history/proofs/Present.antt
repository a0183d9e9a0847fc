-- The inputs are those of the last accepted frame, and a drive is present exactly if the physical state says inserted.
use Rattle.std.proofs.Common.{◌≡◌, ℕ, Bool, true, false, eqb, List, ◌∷◌, Some, None, Option, sym, refl, ap, ◌∙◌}
use Rattle.std.proofs.lemmas.Bool.{cond_both}
use Rattle.answers.specs.declared.refusal.Refusal.{Refusal}
use Rattle.backplane.specs.Meaning.{Inputs}
use Rattle.backplane.specs.declared.configuration.Configuration.{Configuration}
use Rattle.enclosure.specs.Slots.{inserted, moved}
use Rattle.enclosure.specs.declared.record.rows.Row.{Row}
use Rattle.enclosure.specs.declared.slots.PhysicalState.{PhysicalState}
use Rattle.enclosure.specs.declared.slots.PhysicalState.TheVariants.{EmptyReady, EmptyPrepared, InsertedReady, InsertedPrepared}
use Rattle.enclosure.specs.declared.slots.SlotEvent.TheVariants.{Prepare, Release}
use Rattle.history.specs.Shelf.{refused, Call, power_on, sample, reset, command, Command, slot, Rest, Shelf, Slot, World}
use Rattle.history.specs.Orders.{Operation, idle, prepare, release, identify, Order, triples, operate, speed, switch, global, acted, acted_rest, flagged, operated, triple_in}
use Rattle.history.specs.Judgement.{order_in}
use Rattle.history.specs.Steps.{Entry, commanded, entry, first_slot, sampled_slot, verdict}
use Rattle.history.specs.Log.{last_frame}
use Rattle.history.specs.Kept.{PresenceKept, PresenceLastSeen}
use Rattle.history.proofs.Along.{Along, along}

pub first_in : (b : Bool) → b ≡ inserted (first_slot b).state
first_in true = refl
first_in false = refl

pub sampled_in : (now : Bool) (t : Row) (p : PhysicalState) (m : Bool) → now ≡ inserted (sampled_slot (inserted p) now (record { row = t; state = p; identify = m })).state
sampled_in true t EmptyReady m = refl
sampled_in true t EmptyPrepared m = refl
sampled_in true t InsertedReady m = refl
sampled_in true t InsertedPrepared m = refl
sampled_in false t EmptyReady m = refl
sampled_in false t EmptyPrepared m = refl
sampled_in false t InsertedReady m = refl
sampled_in false t InsertedPrepared m = refl

prepared_in : (p : PhysicalState) → inserted (moved p Prepare) ≡ inserted p
prepared_in EmptyReady = refl
prepared_in EmptyPrepared = refl
prepared_in InsertedReady = refl
prepared_in InsertedPrepared = refl

released_in : (p : PhysicalState) → inserted (moved p Release) ≡ inserted p
released_in EmptyReady = refl
released_in EmptyPrepared = refl
released_in InsertedReady = refl
released_in InsertedPrepared = refl

operated_in : (o : Operation) (x : Slot) → inserted (operated o x).state ≡ inserted x.state
operated_in idle x = refl
operated_in prepare x = prepared_in x.state
operated_in release x = released_in x.state
operated_in identify x = refl

-- no order puts a drive in or takes one out
pub acted_in : (o : Option Order) (n : ℕ) (x : Slot) → inserted (acted o (slot n) x).state ≡ inserted x.state
acted_in None n x = refl
acted_in (Some (triples bs)) n x =
    cond_both (flagged (triple_in bs n)) _ _ (λ (y : Slot). inserted y.state ≡ inserted x.state) (λ _. refl) (λ _. refl)
acted_in (Some (operate m o)) n x = cond_both (eqb n m) _ _ (λ (y : Slot). inserted y.state ≡ inserted x.state) (λ _. operated_in o x) (λ _. refl)
acted_in (Some (speed m y)) n x = refl
acted_in (Some (switch m y)) n x = refl
acted_in (Some (global a b d)) n x = refl

pub acted_inputs : (f : Configuration) (o : Option Order) (r : Rest) → (acted_rest f o r).inputs ≡ r.inputs
acted_inputs f None r = refl
acted_inputs f (Some (triples bs)) r = refl
acted_inputs f (Some (operate m o)) r = refl
acted_inputs f (Some (speed m y)) r = refl
acted_inputs f (Some (switch m y)) r = refl
acted_inputs f (Some (global a b d)) r = refl

module _ (w : World) where
  abbrev Seen : Shelf → List Entry → Type 0
  Seen s log = PresenceLastSeen w log s

  refused_frame : (c : Call) (r : Refusal) (log : List Entry) → last_frame w (entry c (refused r) ∷ log) ≡ last_frame w log
  refused_frame (power_on counts frame) r log = refl
  refused_frame (sample frame) r log = refl
  refused_frame reset r log = refl
  refused_frame (command c) r log = refl

  inputs_after : (s : Shelf) (c : Command) → (commanded w s c).rest.inputs ≡ s.rest.inputs
  inputs_after s c = acted_inputs w.configuration (order_in (verdict w s c)) s.rest

  pub seen : Along w (λ s log. PresenceLastSeen w log s)
  seen =
      record {
        starts = λ log counts frame q z e. record { frame = rw e; present = λ n. first_in (q.present n) };
        samples = λ s log frame q e h. record {
          frame = rw e;
          present = λ n. let x = s.parts (slot n) in rw (h.present n) (sampled_in (q.present n) x.row x.state x.identify);
        };
        resets = λ s log h. record { frame = h.frame; present = h.present };
        commands = λ s log c h. record {
          frame = h.frame ∙ ap (λ (q : Inputs). Some q) (sym (inputs_after s c));
          present = λ n. ap (λ (q : Inputs). q.present n) (inputs_after s c) ∙ h.present n ∙ sym (acted_in (order_in (verdict w s c)) n (s.parts (slot n)));
        };
        refusals = λ s log c r h. record { frame = refused_frame c r log ∙ h.frame; present = h.present };
      }

pub presence_kept : PresenceKept
presence_kept w calls s e = along w (Seen w) (seen w) calls s e
