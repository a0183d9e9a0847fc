-- Something of a shelf that entries of the log set, and others may move, is what the last that sets it made it.
use Rattle.std.proofs.Common.{◌≡◌, ℕ, List, [], ◌∷◌, ◌++◌, Some, None, Option, unwrap_or, sym, refl, ap, ◌∙◌, subst}
use Rattle.std.proofs.lemmas.List.Elements.{All-cons, All-nil}
use Rattle.std.specs.Option.{option_map}
use Rattle.answers.specs.declared.refusal.Refusal.{Refusal}
use Rattle.backplane.specs.Meaning.{Inputs}
use Rattle.history.specs.Shelf.{done, refused, Call, power_on, sample, reset, command, Command, Shelf, powered, World}
use Rattle.history.specs.Steps.{Entry, commanded, entry, history, replied, restarted, sampled, started}
use Rattle.history.specs.Log.{LastSet, last_frame, order_bytes, sets}
use Rattle.history.specs.Kept.{PresenceLastSeen}
use Rattle.history.proofs.Along.{Along, along}
use Rattle.history.proofs.Present.{seen}

-- how one more entry moves it, and that the calls move it so
pub record Aspect (X : Type 0) (w : World) (first : Inputs → X) (ordered : List ℕ → Option X) (since : X → List Entry → List Entry → X) (get : Shelf → X) : Type 0 where
  pub moves : Entry → List Entry → X → X
  pub start : (x : X) (older : List Entry) → since x [] older ≡ x
  pub more : (x : X) (e : Entry) (later older : List Entry) → since x (e ∷ later) older ≡ moves e (later ++ older) (since x later older)
  pub none : ordered [] ≡ None
  pub at_start : (counts : List ℕ) (q : Inputs) → get (started counts q) ≡ first q
  pub at_sample : (s : Shelf) (log : List Entry) (frame : List ℕ) (q : Inputs) → w.reading frame ≡ Some q → last_frame w log ≡ Some s.rest.inputs
      → get (sampled q s) ≡ moves (entry (sample frame) done) log (get s)
  pub at_reset : (s : Shelf) (log : List Entry) → get (restarted s) ≡ moves (entry reset done) log (get s)
  pub at_command : (s : Shelf) (log : List Entry) (c : Command)
      → get (commanded w s c) ≡ unwrap_or (ordered (order_bytes c (replied w s c))) (moves (entry (command c) (replied w s c)) log (get s))
  pub at_refusal : (c : Call) (r : Refusal) (log : List Entry) (x : X) → moves (entry c (refused r)) log x ≡ x

module _ (X : Type 0) (w : World) (first : Inputs → X) (ordered : List ℕ → Option X) (since : X → List Entry → List Entry → X) (get : Shelf → X)
    (a : Aspect X w first ordered since get) where
  abbrev set_by : Entry → Option X
  set_by = sets w first ordered

  abbrev Set : List Entry → X → Type 0
  Set log x = LastSet X set_by since log x

  fresh : (e : Entry) (log : List Entry) (x : X) → set_by e ≡ Some x → Set (e ∷ log) x
  fresh e log x s =
      record { later = []; last = e; earlier = log; said = x; splits = refl; set_there = s; none_since = All-nil (λ (d : Entry). set_by d ≡ None); is = sym (a.start x (e ∷ log)) }

  older : (e : Entry) (log : List Entry) (x : X) → set_by e ≡ None → Set log x → Set (e ∷ log) (a.moves e log x)
  older e log x s l =
      record {
        later = e ∷ l.later;
        last = l.last;
        earlier = l.earlier;
        said = l.said;
        splits = ap (λ (xs : List Entry). e ∷ xs) l.splits;
        set_there = l.set_there;
        none_since = All-cons (λ (d : Entry). set_by d ≡ None) e l.later s l.none_since;
        is =
            ap (a.moves e log) l.is
            ∙ ap (λ (xs : List Entry). a.moves e xs (since l.said l.later (l.last ∷ l.earlier))) l.splits
            ∙ sym (a.more l.said e l.later (l.last ∷ l.earlier));
      }

  next : (e : Entry) (log : List Entry) (x : X) → Set log x → Set (e ∷ log) (unwrap_or (set_by e) (a.moves e log x))
  next e log x l = go (set_by e) refl
    where
      go : (o : Option X) → set_by e ≡ o → Set (e ∷ log) (unwrap_or o (a.moves e log x))
      go (Some y) q = fresh e log y q
      go None q = older e log x q l

  refused_none : (c : Call) (r : Refusal) → set_by (entry c (refused r)) ≡ None
  refused_none (power_on counts frame) r = refl
  refused_none (sample frame) r = refl
  refused_none reset r = refl
  refused_none (command c) r = a.none

  abbrev Held : Shelf → List Entry → Type 0
  Held s log = PresenceLastSeen w log s × Set log (get s)

  held : Along w Held
  held =
      record {
        starts = λ log counts frame q z e. (
          (seen w).starts log counts frame q z e,
          fresh (entry (power_on counts frame) done) log (get (started counts q)) (ap (option_map first) e ∙ ap (λ (x : X). Some x) (sym (a.at_start counts q))),
        );
        samples = λ s log frame q e h. (
          (seen w).samples s log frame q e h.0,
          subst (Set (entry (sample frame) done ∷ log)) (sym (a.at_sample s log frame q e h.0.frame)) (next (entry (sample frame) done) log (get s) h.1),
        );
        resets = λ s log h. (
          (seen w).resets s log h.0,
          subst (Set (entry reset done ∷ log)) (sym (a.at_reset s log)) (next (entry reset done) log (get s) h.1),
        );
        commands = λ s log c h. (
          (seen w).commands s log c h.0,
          subst (Set (entry (command c) (replied w s c) ∷ log)) (sym (a.at_command s log c)) (next (entry (command c) (replied w s c)) log (get s) h.1),
        );
        refusals = λ s log c r h. (
          (seen w).refusals s log c r h.0,
          subst (Set (entry c (refused r) ∷ log)) (a.at_refusal c r log (get s)) (older (entry c (refused r)) log (get s) (refused_none c r) h.1),
        );
      }

  pub last_set : (calls : List Call) (s : Shelf) → (history w calls).state ≡ powered s → LastSet X (sets w first ordered) since (history w calls).log (get s)
  last_set calls s e = (along w Held held calls s e).1
