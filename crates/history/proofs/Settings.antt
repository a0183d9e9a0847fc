-- Speeds, supplies, alarm, lock and identify are what the log last set them to.
use Rattle.std.proofs.Common.{◌≡◌, ℕ, Bool, true, false, cond, eqb, List, [], get_or, Some, None, Option, unwrap_or, sym, refl, ap, ◌∙◌}
use Rattle.std.proofs.lemmas.Bool.{cond_both}
use Rattle.backplane.specs.Meaning.{Inputs}
use Rattle.backplane.specs.declared.configuration.Configuration.{Configuration}
use Rattle.enclosure.specs.Flags.{bit}
use Rattle.history.specs.Shelf.{Answer, Command, slot, fan, supply, Rest, Shelf, Slot, World}
use Rattle.history.specs.Orders.{Operation, idle, prepare, release, identify, Order, acted, acted_rest, operated}
use Rattle.history.specs.Steps.{commanded, first_slot, replied, restarted, sampled, sampled_slot, started}
use Rattle.history.specs.Log.{as_set, order_bytes}
use Rattle.history.specs.Kept.{SettingsKept, identifies, ordered_alarm, ordered_identify, ordered_lock, ordered_speed, ordered_supply}
use Rattle.history.proofs.Judged.{Ordered, fifteen, fourteen, ten, thirteen, twelve}
use Rattle.history.proofs.Effects.{Effect, acts, effect, still}
use Rattle.history.proofs.LastSet.{Aspect, last_set}

-- a test that gives a value, or none
pub if_some : {X : Type 0} (b : Bool) (y x : X) → cond b y x ≡ unwrap_or (cond b (Some y) None) x
if_some true y x = refl
if_some false y x = refl

-- something that only power-on and orders move
module _ (X : Type 0) (w : World) (first : X) (ordered : List ℕ → Option X) (get : Shelf → X) (none : ordered [] ≡ None)
    (at_start : (counts : List ℕ) (q : Inputs) → get (started counts q) ≡ first)
    (at_sample : (s : Shelf) (q : Inputs) → get (sampled q s) ≡ get s)
    (at_reset : (s : Shelf) → get (restarted s) ≡ get s)
    (at_command : (s : Shelf) (c : Command) → get (commanded w s c) ≡ unwrap_or (ordered (order_bytes c (replied w s c))) (get s)) where
  pub setting : Aspect X w (λ _. first) ordered as_set get
  setting =
      record {
        moves = λ e log x. x;
        start = λ x older. refl;
        more = λ x e later older. refl;
        none = none;
        at_start = at_start;
        at_sample = λ s log frame q _ _. at_sample s q;
        at_reset = λ s log. at_reset s;
        at_command = λ s log c. at_command s c;
        at_refusal = λ c r log x. refl;
      }

-- orders

module _ (f : Configuration) (n : ℕ) where
  speed_ordered : {bs : List ℕ} {o : Order} → Ordered f bs o → (x : ℕ) → acted (Some o) (fan n) x ≡ unwrap_or (ordered_speed n bs) x
  speed_ordered (ten k _ _) x = rw k
  speed_ordered (twelve k _ _ _) x = rw k
  speed_ordered {bs} (thirteen k _ _ _) x = rw k (if_some (eqb n (get_or bs 1 0)) (get_or bs 2 0) x)
  speed_ordered (fourteen k _ _ _) x = rw k
  speed_ordered (fifteen k) x = rw k

  supply_ordered : {bs : List ℕ} {o : Order} → Ordered f bs o → (x : Bool) → acted (Some o) (supply n) x ≡ unwrap_or (ordered_supply n bs) x
  supply_ordered (ten k _ _) x = rw k
  supply_ordered (twelve k _ _ _) x = rw k
  supply_ordered (thirteen k _ _ _) x = rw k
  supply_ordered {bs} (fourteen k _ _ _) x = rw k (if_some (eqb n (get_or bs 1 0)) (eqb (get_or bs 2 0) 1) x)
  supply_ordered (fifteen k) x = rw k

  operated_identify : (b : Bool) (o : Operation) (x : Slot) → (cond b (operated o x) x).identify ≡ unwrap_or (cond b (identifies (Some o)) None) x.identify
  operated_identify true idle x = refl
  operated_identify true prepare x = refl
  operated_identify true release x = refl
  operated_identify true identify x = refl
  operated_identify false o x = refl

  identify_ordered : {bs : List ℕ} {o : Order} → Ordered f bs o → (x : Slot) → (acted (Some o) (slot n) x).identify ≡ unwrap_or (ordered_identify n bs) x.identify
  identify_ordered (ten k _ _) x = rw k (cond_both _ _ _ (λ (y : Slot). y.identify ≡ x.identify) (λ _. refl) (λ _. refl))
  identify_ordered {bs} (twelve {o = o} k _ _ e) x = rw (k, e) (operated_identify (eqb n (get_or bs 1 0)) o x)
  identify_ordered (thirteen k _ _ _) x = rw k
  identify_ordered (fourteen k _ _ _) x = rw k
  identify_ordered (fifteen k) x = rw k

module _ (f : Configuration) where
  alarm_ordered : {bs : List ℕ} {o : Order} → Ordered f bs o → (r : Rest) → (acted_rest f (Some o) r).alarm ≡ unwrap_or (ordered_alarm f bs) r.alarm
  alarm_ordered (ten k _ _) r = rw k
  alarm_ordered (twelve k _ _ _) r = rw k
  alarm_ordered (thirteen k _ _ _) r = rw k
  alarm_ordered (fourteen k _ _ _) r = rw k
  alarm_ordered {bs} (fifteen k) r = rw k (if_some f.alarm (bit 0 (get_or bs 1 0)) r.alarm)

  lock_ordered : {bs : List ℕ} {o : Order} → Ordered f bs o → (r : Rest) → (acted_rest f (Some o) r).lock ≡ unwrap_or (ordered_lock f bs) r.lock
  lock_ordered (ten k _ _) r = rw k
  lock_ordered (twelve k _ _ _) r = rw k
  lock_ordered (thirteen k _ _ _) r = rw k
  lock_ordered (fourteen k _ _ _) r = rw k
  lock_ordered {bs} (fifteen k) r = rw k (if_some f.lock (bit 2 (get_or bs 2 0)) r.lock)

-- commands: by their accepted order, if there is one

pub by_effect : {X : Type 0} {f : Configuration} {c : Command} {a : Answer} {o : Option Order} (ordered : List ℕ → Option X) → ordered [] ≡ None → (does : Option Order → X) (x : X)
    → does None ≡ x → ((bs : List ℕ) (p : Order) → Ordered f bs p → does (Some p) ≡ unwrap_or (ordered bs) x) → Effect f c a o → does o ≡ unwrap_or (ordered (order_bytes c a)) x
by_effect ordered none does x z h (still e) = z ∙ sym (ap (λ bs. unwrap_or (ordered bs) x) e ∙ ap (λ y. unwrap_or y x) none)
by_effect ordered none does x z h (acts e k) = h _ _ k ∙ sym (ap (λ bs. unwrap_or (ordered bs) x) e)

sampled_identify : (b now : Bool) (x : Slot) → (sampled_slot b now x).identify ≡ x.identify
sampled_identify true true x = refl
sampled_identify true false x = refl
sampled_identify false true x = refl
sampled_identify false false x = refl

first_identify : (b : Bool) → (first_slot b).identify ≡ false
first_identify true = refl
first_identify false = refl

pub settings_kept : SettingsKept
settings_kept w calls s e =
    let f = w.configuration in
    record {
      speeds = λ n. last_set ℕ w (λ _. 4) (ordered_speed n) as_set (λ t. t.parts (fan n))
          (setting ℕ w 4 (ordered_speed n) (λ t. t.parts (fan n)) refl (λ _ _. refl) (λ _ _. refl) (λ _. refl)
          (λ t c. by_effect (ordered_speed n) refl (λ o. acted o (fan n) (t.parts (fan n))) _ refl (λ _ _ k. speed_ordered f n k _) (effect w t c))) calls s e;
      supplies = λ n. last_set Bool w (λ _. true) (ordered_supply n) as_set (λ t. t.parts (supply n))
          (setting Bool w true (ordered_supply n) (λ t. t.parts (supply n)) refl (λ _ _. refl) (λ _ _. refl) (λ _. refl)
          (λ t c. by_effect (ordered_supply n) refl (λ o. acted o (supply n) (t.parts (supply n))) _ refl (λ _ _ k. supply_ordered f n k _) (effect w t c))) calls s e;
      alarm = last_set Bool w (λ _. false) (ordered_alarm f) as_set (λ t. t.rest.alarm)
          (setting Bool w false (ordered_alarm f) (λ t. t.rest.alarm) refl (λ _ _. refl) (λ _ _. refl) (λ _. refl)
          (λ t c. by_effect (ordered_alarm f) refl (λ o. (acted_rest f o t.rest).alarm) _ refl (λ _ _ k. alarm_ordered f k _) (effect w t c))) calls s e;
      lock = last_set Bool w (λ _. false) (ordered_lock f) as_set (λ t. t.rest.lock)
          (setting Bool w false (ordered_lock f) (λ t. t.rest.lock) refl (λ _ _. refl) (λ _ _. refl) (λ _. refl)
          (λ t c. by_effect (ordered_lock f) refl (λ o. (acted_rest f o t.rest).lock) _ refl (λ _ _ k. lock_ordered f k _) (effect w t c))) calls s e;
      identify = λ n. last_set Bool w (λ _. false) (ordered_identify n) as_set (λ t. (t.parts (slot n)).identify)
          (setting Bool w false (ordered_identify n) (λ t. (t.parts (slot n)).identify) refl (λ _ q. first_identify (q.present n)) (λ t q. sampled_identify (t.rest.inputs.present n) (q.present n) (t.parts (slot n))) (λ _. refl)
          (λ t c. by_effect (ordered_identify n) refl (λ o. (acted o (slot n) (t.parts (slot n))).identify) _ refl (λ _ _ k. identify_ordered f n k _) (effect w t c))) calls s e;
    }
