-- A command does to a shelf what it does to the history.
use Rattle.std.proofs.Common.{Option, ◌≡◌, ℕ, ◌<◌, ◌≤◌, Bool, true, false, cond, ◌&&◌, eqb, ltb, List, length, take, sym, refl, ap, ◌∙◌, inl, inr, arith}
use Rattle.std.proofs.lemmas.Bool.{both_ways, cases_lt, cond_both, lt-ltb, ltb-false}
use Rattle.answers.specs.declared.status.Status.TheVariants.{Good}
use Rattle.backplane.specs.Meaning.{Inputs, Value}
use Rattle.backplane.specs.declared.configuration.Configuration.{Configuration}
use Rattle.history.specs.Cdb.{ill_formed, long_length, opcode}
use Rattle.history.specs.Judgement.{Verdict, show_sense, show_page, judge, on_host, order_in}
use Rattle.history.specs.Orders.{acted, acted_rest}
use Rattle.history.specs.Replies.{reply, sense_bytes, shown_sense}
use Rattle.history.specs.Shelf.{ended, Command, Host, Shelf, Slot, World}
use Rattle.history.specs.Steps.{commanded, verdict}
use Rattle.history.proofs.Judged.{Judged, judged, obeys}
use Rattle.replies.specs.Answered.{answer_to, is_refusal}
use Rattle.processor.specs.Settled.{flags_by, slots_by, value_by}
use Rattle.processor.specs.Tied.{Tied}
use Rattle.processor.proofs.Obeyed.{obeyed_tied}
use Rattle.processor.proofs.SamePages.{page_same}

-- a command that is not refused has a host from 0 to 15 and room for its reply
pub record Admitted (c : Command) : Type 0 where
  pub host : c.host < 16
  pub room : 64 ≤ c.room

abbrev Admits : Command → Verdict → Type 0
Admits c x = is_refusal x ≡ false → Admitted c

no : {X : Type 0} → true ≡ false → X
no e = absurd (both_ways true e refl)

pub admitted : (f : Configuration) (a : Bool) (c : Command) → is_refusal (judge f a c) ≡ false → Admitted c
admitted f a c =
    cond_both (ltb 15 c.host) _ _ (Admits c) (λ _ e. no e) λ h.
    cond_both (ill_formed c) _ _ (Admits c) (λ _ e. no e) λ _.
    cond_both (eqb (opcode c) 0x3B && ltb (length c.payload) (long_length c)) _ _ (Admits c) (λ _ e. no e) λ _.
    cond_both (ltb c.room 64) _ _ (Admits c) (λ _ e. no e) λ r _.
    record { host = omega (arith, ltb-false 15 c.host h); room = ltb-false c.room 64 r }

module _ (reading : List ℕ → Option Inputs) (identity : List ℕ) (v : Value) (slots : ℕ → Slot) (counts : ℕ → ℕ) (hosts : ℕ → Host) (flags : List ℕ) (s : Shelf)
    (few : v.configuration.counts.slots ≤ 14) (t : Tied v slots counts hosts flags s) (c : Command) where
  abbrev w : World
  w = record { configuration = v.configuration; reading = reading; identity = identity }

  -- the same verdict
  pub same_verdict : verdict w s c ≡ judge v.configuration (hosts c.host).attention c
  same_verdict = elim (cases_lt c.host 16) [
    | inl l ↦ ap (λ (h : Host). judge v.configuration h.attention c) (sym (t.same_hosts c.host l))
    | inr g ↦ (let b = lt-ltb 15 c.host (omega arith) in rw b)
  ]

  -- the same answer
  pub same_answer : c.host < 16 → (x : Verdict) → answer_to v slots counts flags w.identity x (hosts c.host) ≡ reply w x (s.hosts c.host) s.parts s.rest
  same_answer l (show_sense n) = ap (λ (h : Host). ended Good (take n (sense_bytes (shown_sense h.sense h.attention)))) (t.same_hosts c.host l)
  same_answer l (show_page b n) = ap (λ (bs : List ℕ). ended Good (take n bs)) (page_same v slots counts hosts flags s t b)
  same_answer l x = refl

  -- the history's shelf by a verdict
  abbrev by_verdict : Verdict → Shelf
  by_verdict x =
      record {
        parts = λ p. acted (order_in x) p (s.parts p);
        hosts = λ h. cond (eqb h c.host) (on_host x (s.hosts h)) (s.hosts h);
        rest = acted_rest v.configuration (order_in x) s.rest;
      }

  pub by_same : (x : Verdict) → verdict w s c ≡ x → commanded w s c ≡ by_verdict x
  by_same x e = ap by_verdict e

  module _ (slots' : ℕ → Slot) (hosts' : ℕ → Host) where
    abbrev ordered : Verdict → Shelf
    ordered x = record { parts = λ p. acted (order_in x) p (s.parts p); hosts = s.hosts; rest = acted_rest v.configuration (order_in x) s.rest }

    abbrev Done : Verdict → Type 0
    Done x = ((j : ℕ) → j < 14 → slots' j ≡ slots_by (order_in x) slots j) → Tied (value_by (order_in x) slots' v) slots' counts hosts (flags_by (order_in x) flags) (ordered x)

    still : ((j : ℕ) → j < 14 → slots' j ≡ slots j) → Tied v slots' counts hosts flags s
    still e =
        record {
          same_slots = λ j l. e j (omega arith) ∙ t.same_slots j l;
          same_counts = t.same_counts;
          same_hosts = t.same_hosts;
          same_flags = t.same_flags;
          same_inputs = t.same_inputs;
          same_outputs = t.same_outputs;
          present = t.present;
          fine = t.fine;
        }

    done_by : {a : Bool} {x : Verdict} → Judged v.configuration a c x → Done x
    done_by (obeys {o = o} k q) e = obeyed_tied v slots counts hosts flags s few t slots' _ o q e
    done_by j e = still e

    pub settled_tied : (a : Bool) → ((j : ℕ) → j < 14 → slots' j ≡ slots_by (order_in (judge v.configuration a c)) slots j)
        → ((h : ℕ) → h < 16 → hosts' h ≡ cond (eqb h c.host) (on_host (judge v.configuration a c) (hosts h)) (hosts h))
        → Tied (value_by (order_in (judge v.configuration a c)) slots' v) slots' counts hosts' (flags_by (order_in (judge v.configuration a c)) flags) (by_verdict (judge v.configuration a c))
    settled_tied a e h =
        let d = done_by (judged v.configuration a c) e in
        record {
          same_slots = d.same_slots;
          same_counts = d.same_counts;
          same_hosts = λ k l. h k l ∙ ap (λ (x : Host). cond (eqb k c.host) (on_host (judge v.configuration a c) x) x) (t.same_hosts k l);
          same_flags = d.same_flags;
          same_inputs = d.same_inputs;
          same_outputs = λ o f. d.same_outputs o f;
          present = d.present;
          fine = d.fine;
        }
