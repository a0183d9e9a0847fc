-- A refused call alters nothing, and CHECK CONDITION nothing but its host.
use Rattle.std.proofs.Common.{◌≡◌, ℕ, Bool, true, false, cond, eqb, List, [], length, Some, None, Option, sym, refl, ap, ◌∙◌}
use Rattle.std.proofs.lemmas.Bool.{both_ways, cond_both, cond-false, ne_eqb}
use Rattle.answers.specs.declared.refusal.Refusal.{Refusal}
use Rattle.answers.specs.declared.status.Status.TheVariants.{Good, CheckCondition}
use Rattle.backplane.specs.Meaning.{Inputs}
use Rattle.history.specs.Shelf.{Answer, done, ended, refused, power_on, sample, reset, command, Command, Host, Part, Rest, Shelf, State, unpowered, powered, Value, World}
use Rattle.history.specs.Orders.{acted, acted_rest}
use Rattle.history.specs.Judgement.{Verdict, refuse, miss, miss_inquiry, miss_sense, attend, pass, reject, inquire, show_sense, show_page, obey, on_host, order_in}
use Rattle.history.specs.Replies.{reply}
use Rattle.history.specs.Steps.{Outcome, commanded, powered_by, sampled_by, verdict}
use Rattle.history.specs.Alters.{CheckAltersHost, RefusedAltersNothing}
use Rattle.history.proofs.Effects.{shelf_path}

abbrev is_refused : Answer → Bool
is_refused (refused n) = true
is_refused done = false
is_refused (ended s bs) = false

abbrev is_check : Answer → Bool
is_check (refused n) = false
is_check done = false
is_check (ended Good bs) = false
is_check (ended CheckCondition bs) = true

abbrev sent_back : Answer → List ℕ
sent_back (refused n) = []
sent_back done = []
sent_back (ended s bs) = bs

no : {X : Type 0} → false ≡ true → X
no e = absurd (both_ways false refl e)

record Idle (v : Verdict) : Type 0 where
  order : order_in v ≡ None
  host : (x : Host) → on_host v x ≡ x

module _ (w : World) (h : Host) (ps : (p : Part) → Value p) (r : Rest) where
  refused_idle : (v : Verdict) → is_refused (reply w v h ps r) ≡ true → Idle v
  refused_idle (refuse n) e = record { order = refl; host = λ x. refl }
  refused_idle miss e = no e
  refused_idle (miss_inquiry n) e = no e
  refused_idle (miss_sense n) e = no e
  refused_idle attend e = no e
  refused_idle pass e = no e
  refused_idle (reject s) e = no e
  refused_idle (inquire n) e = no e
  refused_idle (show_sense n) e = no e
  refused_idle (show_page b n) e = no e
  refused_idle (obey o) e = no e

  check_no_order : (v : Verdict) → is_check (reply w v h ps r) ≡ true → order_in v ≡ None
  check_no_order (refuse n) e = refl
  check_no_order miss e = refl
  check_no_order (miss_inquiry n) e = refl
  check_no_order (miss_sense n) e = refl
  check_no_order attend e = refl
  check_no_order pass e = refl
  check_no_order (reject s) e = refl
  check_no_order (inquire n) e = refl
  check_no_order (show_sense n) e = refl
  check_no_order (show_page b n) e = refl
  check_no_order (obey o) e = no e

  check_no_bytes : (v : Verdict) → is_check (reply w v h ps r) ≡ true → sent_back (reply w v h ps r) ≡ []
  check_no_bytes (refuse n) e = refl
  check_no_bytes miss e = refl
  check_no_bytes (miss_inquiry n) e = no e
  check_no_bytes (miss_sense n) e = no e
  check_no_bytes attend e = refl
  check_no_bytes pass e = refl
  check_no_bytes (reject s) e = refl
  check_no_bytes (inquire n) e = no e
  check_no_bytes (show_sense n) e = no e
  check_no_bytes (show_page b n) e = no e
  check_no_bytes (obey o) e = refl

-- both ways of a test the same
same_cond : {X : Type 0} (b : Bool) (x y : X) → x ≡ y → cond b x y ≡ y
same_cond true x y e = e
same_cond false x y e = refl

idle_shelf : (w : World) (s : Shelf) (c : Command) → Idle (verdict w s c) → commanded w s c ≡ s
idle_shelf w s c i =
    shelf_path (commanded w s c) s
    (λ p. ap (λ o. acted o p (s.parts p)) i.order)
    (λ h. same_cond (eqb h c.host) _ _ (i.host (s.hosts h)))
    (ap (λ o. acted_rest w.configuration o s.rest) i.order)

abbrev Keeps : State → Refusal → Outcome → Type 0
Keeps s r o = o.answer ≡ refused r → o.state ≡ s

powered_keeps : (s : State) (r : Refusal) (counts : List ℕ) (o : Option Inputs) → Keeps s r (powered_by s counts o)
powered_keeps s r counts (Some q) e = no (ap is_refused e)
powered_keeps s r counts None e = refl

sampled_keeps : (s : Shelf) (r : Refusal) (o : Option Inputs) → Keeps (powered s) r (sampled_by s o)
sampled_keeps s r (Some q) e = no (ap is_refused e)
sampled_keeps s r None e = refl

pub refused_alters_nothing : RefusedAltersNothing
refused_alters_nothing w s (power_on counts frame) r e =
    (cond_both (eqb w.configuration.counts.slots 0) _ _ (Keeps s r) (λ _ _. refl) λ _.
    cond_both (eqb (length counts) w.configuration.counts.slots) _ _ (Keeps s r) (λ _. powered_keeps s r counts (w.reading frame)) (λ _ _. refl)) e
refused_alters_nothing w unpowered (sample frame) r e = refl
refused_alters_nothing w (powered s) (sample frame) r e = sampled_keeps s r (w.reading frame) e
refused_alters_nothing w unpowered reset r e = refl
refused_alters_nothing w (powered s) reset r e = no (ap is_refused e)
refused_alters_nothing w unpowered (command c) r e = refl
refused_alters_nothing w (powered s) (command c) r e =
    ap powered (idle_shelf w s c (refused_idle w (s.hosts c.host) s.parts s.rest (verdict w s c) (ap is_refused e)))

pub check_alters_host : CheckAltersHost
check_alters_host w s c bs e =
    let o = check_no_order w (s.hosts c.host) s.parts s.rest (verdict w s c) (ap is_check e) in
    record {
      no_bytes = sym (ap sent_back e) ∙ check_no_bytes w (s.hosts c.host) s.parts s.rest (verdict w s c) (ap is_check e);
      after = commanded w s c;
      still = refl;
      same = record {
        parts = λ i p. ap (λ x. acted x p (s.parts p)) (sym o) i;
        rest = ap (λ x. acted_rest w.configuration x s.rest) (sym o);
        hosts = λ k n. sym (cond-false (eqb k c.host) _ _ (ne_eqb k c.host n));
      };
    }
