-- A command of a shelf follows the history.
use Rattle.std.proofs.Common.{Option, Some, None, ◌≡◌, ℕ, ◌<◌, ◌≤◌, false, cond, eqb, List, Ok, Err, sym, refl, ap, ◌∙◌, subst}
use Rattle.answers.specs.declared.refusal.Refusal.{Refusal}
use Rattle.backplane.specs.Meaning.{Inputs, Value}
use Rattle.backplane.specs.declared.configuration.Configuration.{Configuration}
use Rattle.history.specs.Judgement.{Verdict, refuse, judge, on_host, order_in}
use Rattle.history.specs.Replies.{reply}
use Rattle.history.specs.Shelf as history
use Rattle.history.specs.Steps.{commanded, replied, step}
use Rattle.history.proofs.Altered.{refused_alters_nothing}
use Rattle.hosts.specs.Held.{hosts_of}
use Rattle.replies.specs.Answered.{answer_in, is_refusal, laid, result_of}
use Rattle.replies.specs.declared.reply.Ended.{Ended}
use Rattle.table.specs.Table.{counts_of, slots_of}
use Rattle.processor.specs.Follows.{Commanded, TiedRunning, TiedTo, world_of}
use Rattle.processor.specs.Settled.{flags_by, slots_by, value_by}
use Rattle.processor.specs.Tied.{Tied}
use Rattle.processor.specs.declared.state.Running.{Running}
use Rattle.processor.specs.declared.state.State.{State}
use Rattle.processor.proofs.Recast.{recast}
use Rattle.processor.proofs.Commanding.{admitted, by_same, same_answer, same_verdict, settled_tied}

module _ (reading : Configuration → List ℕ → Option Inputs) (v : Value) (few : v.configuration.counts.slots ≤ 14) (k : State) (r : Running) (on : k.running ≡ Some r) (c : history.Command) where
  abbrev w : history.World
  w = world_of reading v k

  abbrev slots : ℕ → history.Slot
  slots = slots_of r.memory.table

  abbrev counts : ℕ → ℕ
  counts = counts_of r.memory.table

  abbrev hosts : ℕ → history.Host
  hosts = hosts_of r.hosts

  abbrev told : Verdict
  told = judge v.configuration (hosts c.host).attention c

  not_off : {X : Type 0} → k.running ≡ None → X
  not_off e = let no : ⊥ = cc (on, e) in absurd no

  tied : (s : history.Shelf) → TiedRunning v k.running s → Tied v slots counts hosts r.memory.flags s
  tied s t = subst (λ o. TiedRunning v o s) on t

  pub refused_follows : (why : Refusal) → told ≡ refuse why → (s : history.State) → TiedTo v k s → (old : List ℕ) → Commanded w s c old old (Err why) v k
  refused_follows why e history.unpowered t old = not_off t
  refused_follows why e (history.powered s) t old =
      let q = same_verdict (reading v.configuration) k.identity v slots counts hosts r.memory.flags s few (tied s t) c ∙ e in
      let a : (step w (history.powered s) (history.command c)).answer ≡ history.refused why = ap (λ (x : Verdict). reply w x (s.hosts c.host) s.parts s.rest) q in
      record {
        says = sym (ap result_of a);
        lays = sym (ap (λ (y : history.Answer). laid y old) a);
        ties = subst (TiedTo v k) (sym (refused_alters_nothing w (history.powered s) (history.command c) why a)) t;
      }

  -- what a command that comes to a verdict did
  pub record Facts (v' : Value) (r' : Running) (old new : List ℕ) (ended : Ended) (x : Verdict) : Type 0 where
    pub go : is_refusal x ≡ false
    pub says : 64 ≤ c.room → Ok ended ≡ result_of (answer_in v r.memory k.identity x (hosts c.host))
    pub lays : 64 ≤ c.room → new ≡ laid (answer_in v r.memory k.identity x (hosts c.host)) old
    pub hosts_now : (h : ℕ) → h < 16 → hosts_of r'.hosts h ≡ cond (eqb h c.host) (on_host x (hosts h)) (hosts h)
    pub slots_now : (j : ℕ) → j < 14 → slots_of r'.memory.table j ≡ slots_by (order_in x) slots j
    pub counts_now : counts_of r'.memory.table ≡ counts
    pub flags_now : r'.memory.flags ≡ flags_by (order_in x) r.memory.flags
    pub does : v' ≡ value_by (order_in x) (slots_of r'.memory.table) v

  pub done_follows : (v' : Value) (k' : State) (r' : Running) → k'.running ≡ Some r' → (old new : List ℕ) (ended : Ended) (x : Verdict) → x ≡ told → Facts v' r' old new ended x
      → (s : history.State) → TiedTo v k s → Commanded w s c old new (Ok ended) v' k'
  done_follows v' k' r' on' old new ended x is facts history.unpowered t = not_off t
  done_follows v' k' r' on' old new ended x is facts (history.powered s) t =
      let f : Facts v' r' old new ended told = subst (Facts v' r' old new ended) is facts in
      let adm = admitted v.configuration (hosts c.host).attention c f.go in
      let q = same_verdict (reading v.configuration) k.identity v slots counts hosts r.memory.flags s few (tied s t) c in
      let a : answer_in v r.memory k.identity told (hosts c.host) ≡ replied w s c
      = same_answer (reading v.configuration) k.identity v slots counts hosts r.memory.flags s few (tied s t) c adm.host told ∙ sym (ap (λ (y : Verdict). reply w y (s.hosts c.host) s.parts s.rest) q) in
      record {
        says = f.says adm.room ∙ ap result_of a;
        lays = f.lays adm.room ∙ ap (λ (y : history.Answer). laid y old) a;
        ties = subst (λ o. TiedRunning v' o (commanded w s c)) (sym on')
            (recast f.does f.counts_now refl f.flags_now (by_same (reading v.configuration) k.identity v slots counts hosts r.memory.flags s few (tied s t) c told q)
            (settled_tied (reading v.configuration) k.identity v slots counts hosts r.memory.flags s few (tied s t) c (slots_of r'.memory.table) (hosts_of r'.hosts) (hosts c.host).attention f.slots_now f.hosts_now));
      }
