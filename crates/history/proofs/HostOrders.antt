-- Each host hears what it would hear alone, and each part ends as it would from its own host's commands.
use Rattle.std.proofs.Common.{◌≡◌, ℕ, Bool, true, false, cond, eqb, ◌⊎◌, List, [], ◌∷◌, All, sym, refl, ap, ◌∙◌, subst, ap₂, inl, inr, length-take}
use Rattle.std.proofs.lemmas.Bool.{both_ways, cases_Bool, cond-false, eq-eqb, eqb-false, eqb-true, ne_eqb}
use Rattle.std.proofs.lemmas.List.Elements.{All-cons, All-head, All-nil, All-tail}
use Rattle.std.specs.List.{AllZip}
use Rattle.answers.specs.declared.refusal.Refusal.TheVariants as refusal
use Rattle.history.specs.Shelf.{Answer, refused, Command, Host, Part, Rest, Shelf, unpowered, powered, Value, World}
use Rattle.history.specs.Cdb.{buffer_id, opcode}
use Rattle.history.specs.Orders.{acted, acted_rest}
use Rattle.history.specs.Judgement.{Verdict, judge, on_host, order_in}
use Rattle.history.specs.Replies.{reply}
use Rattle.history.specs.Steps.{commanded, replied, verdict}
use Rattle.history.specs.Hosts.{Alike, Apart, Only, OrdersAgree, Said, SameOrders, SameResults, after, byte_part, heard_by, is_global, names, of_host, said_by}
use Rattle.history.proofs.Judged.{Judged, attends, inquires, judged, misses, misses_inquiry, misses_sense, obeys, passes, refuses, rejects, shows_page, shows_sense, writes_nothing}
use Rattle.history.proofs.Effects.{shelf_path}
use Rattle.history.proofs.PageBytes.{cut_byte, page_length}
use Rattle.history.proofs.Quiet.{quiet, rest_kept}

-- a command that names the part is the host's
abbrev ItsHost : World → ℕ → Part → Command → Type 0
ItsHost w h p c = names w.configuration c p ≡ true → c.host ≡ h

abbrev NotGlobal : Command → Type 0
NotGlobal c = is_global c ≡ false

-- the shelf after commands
abbrev end_of : World → Shelf → List Command → Shelf
end_of w s [] = s
end_of w s (c ∷ cs) = end_of w (commanded w s c) cs

ends_powered : (w : World) (s : Shelf) (cs : List Command) → after w (powered s) cs ≡ powered (end_of w s cs)
ends_powered w s [] = refl
ends_powered w s (c ∷ cs) = ends_powered w (commanded w s c) cs

abbrev said : Command → Answer → Said
said c a = record { asked = c; answer = a }

-- a host's own parts
module _ (w : World) (h : ℕ) (all : List Command) where
  abbrev Own : Part → Type 0
  Own p = Only w h p all

  abbrev SameOwn : ((p : Part) → Value p) → ((p : Part) → Value p) → Type 0
  SameOwn ps qs = (p : Part) → Own p → ps p ≡ qs p

  abbrev AlikeAnswers : Command → Answer → Answer → Type 0
  AlikeAnswers c a b = Alike w h all (said c a) (said c b)

  same_said : (c : Command) (a : Answer) → AlikeAnswers c a a
  same_said c a = record { asked = refl; heading = refl; bytes = (refl, λ k _. refl) }

  alike : {b : Bool} {c : Command} {v : Verdict} → Judged w.configuration b c v → (x : Host) (r : Rest) (ps qs : (p : Part) → Value p) → SameOwn ps qs →
      AlikeAnswers c (reply w v x ps r) (reply w v x qs r)
  alike {c = c} refuses x r ps qs e = same_said c _
  alike {c = c} misses x r ps qs e = same_said c _
  alike {c = c} (misses_inquiry _) x r ps qs e = same_said c _
  alike {c = c} (misses_sense _) x r ps qs e = same_said c _
  alike {c = c} (attends _) x r ps qs e = same_said c _
  alike {c = c} (passes _) x r ps qs e = same_said c _
  alike {c = c} (writes_nothing _) x r ps qs e = same_said c _
  alike {c = c} rejects x r ps qs e = same_said c _
  alike {c = c} (inquires _) x r ps qs e = same_said c _
  alike {c = c} (shows_sense _) x r ps qs e = same_said c _
  alike {c = c} (shows_page o) x r ps qs e =
      record {
        asked = refl;
        heading = refl;
        bytes = (
          simp (length-take, page_length w.configuration ps qs r (buffer_id c)),
          λ k own. cut_byte w.configuration ps qs r (buffer_id c) _ k (λ p z. e p (own p (rw (eq-eqb (opcode c) 0x3C o) z))),
        );
      }
  alike {c = c} (obeys _ _) x r ps qs e = same_said c _

  -- two shelves that look alike to the host
  record Agree (s t : Shelf) : Type 0 where
    same_host : s.hosts h ≡ t.hosts h
    same_rest : s.rest ≡ t.rest
    same_parts : SameOwn s.parts t.parts

  host_there : (s t : Shelf) (c : Command) → c.host ≡ h → Agree s t → s.hosts c.host ≡ t.hosts c.host
  host_there s t c e a = ap s.hosts e ∙ a.same_host ∙ sym (ap t.hosts e)

  same_verdict : (s t : Shelf) (c : Command) → c.host ≡ h → Agree s t → verdict w s c ≡ verdict w t c
  same_verdict s t c e a = ap (λ (x : Host). judge w.configuration x.attention c) (host_there s t c e a)

  own_step : (s t : Shelf) (c : Command) → c.host ≡ h → Agree s t → Agree (commanded w s c) (commanded w t c)
  own_step s t c e a =
      let q = same_verdict s t c e a in
      record {
        same_host = ap₂ (λ (v : Verdict) (x : Host). cond (eqb h c.host) (on_host v x) x) q a.same_host;
        same_rest = ap₂ (λ (v : Verdict) (r : Rest). acted_rest w.configuration (order_in v) r) q a.same_rest;
        same_parts = λ p o. ap₂ (λ (v : Verdict) (x : Value p). acted (order_in v) p x) q (a.same_parts p o);
      }

  own_answer : (s t : Shelf) (c : Command) → c.host ≡ h → Agree s t → AlikeAnswers c (replied w s c) (replied w t c)
  own_answer s t c e a =
      let q = host_there s t c e a in
      subst (λ (y : Answer). AlikeAnswers c (replied w s c) y)
      (ap₂ (λ (x : Host) (r : Rest). reply w (judge w.configuration x.attention c) x t.parts r) q a.same_rest)
      (alike (judged w.configuration (s.hosts c.host).attention c) (s.hosts c.host) s.rest s.parts t.parts a.same_parts)

  not_named : (c : Command) (p : Part) → (c.host ≡ h → ⊥) → (names w.configuration c p ≡ true → c.host ≡ h) → names w.configuration c p ≡ false
  not_named c p n o = elim (cases_Bool (names w.configuration c p)) [ inl y ↦ absurd (n (o y)) | inr z ↦ z ]

  other_step : (s t : Shelf) (c : Command) → (c.host ≡ h → ⊥) → is_global c ≡ false →
      ((p : Part) → Own p → names w.configuration c p ≡ true → c.host ≡ h) → Agree s t → Agree (commanded w s c) t
  other_step s t c n g o a =
      let j = judged w.configuration (s.hosts c.host).attention c in
      record {
        same_host = cond-false (eqb h c.host) _ _ (ne_eqb h c.host (λ e. n (sym e))) ∙ a.same_host;
        same_rest = rest_kept j s.rest g ∙ a.same_rest;
        same_parts = λ p i. quiet j p (s.parts p) (not_named c p n (o p i)) ∙ a.same_parts p i;
      }

  abbrev Covers : List Command → Type 0
  Covers cs = (p : Part) → Own p → Only w h p cs

  abbrev Plain : List Command → Type 0
  Plain = All (λ c. is_global c ≡ false)

  -- where the first command of a list is the host's own, and where it is not
  solo_cases : (s t : Shelf) (c : Command) (cs : List Command) → Covers (c ∷ cs) → Plain (c ∷ cs) → Agree s t →
      ((u : Shelf) → Agree (commanded w s c) u → AllZip (Alike w h all) (heard_by h (said_by w (powered (commanded w s c)) cs)) (said_by w (powered u) (of_host h cs))) →
      (b : Bool) → eqb c.host h ≡ b →
      AllZip (Alike w h all)
      (cond b (said c (replied w s c) ∷ heard_by h (said_by w (powered (commanded w s c)) cs)) (heard_by h (said_by w (powered (commanded w s c)) cs)))
      (said_by w (powered t) (cond b (c ∷ of_host h cs) (of_host h cs)))
  solo_cases s t c cs o g a more true e = let k = eqb-true _ _ e in (own_answer s t c k a, more (commanded w t c) (own_step s t c k a))
  solo_cases s t c cs o g a more false e = more t (other_step s t c (eqb-false _ _ e) (All-head NotGlobal c cs g) (λ p i. All-head (ItsHost w h p) c cs (o p i)) a)

  solo : (cs : List Command) (s t : Shelf) → Covers cs → Plain cs → Agree s t →
      AllZip (Alike w h all) (heard_by h (said_by w (powered s) cs)) (said_by w (powered t) (of_host h cs))
  solo [] s t o g a = tt
  solo (c ∷ cs) s t o g a =
      solo_cases s t c cs o g a (λ u b. solo cs (commanded w s c) u (λ p i. All-tail (ItsHost w h p) c cs (o p i)) (All-tail NotGlobal c cs g) b) (eqb c.host h) refl

  end_cases : (s t : Shelf) (c : Command) (cs : List Command) → Covers (c ∷ cs) → Plain (c ∷ cs) → Agree s t →
      ((u : Shelf) → Agree (commanded w s c) u → Agree (end_of w (commanded w s c) cs) (end_of w u (of_host h cs))) →
      (b : Bool) → eqb c.host h ≡ b →
      Agree (end_of w (commanded w s c) cs) (end_of w t (cond b (c ∷ of_host h cs) (of_host h cs)))
  end_cases s t c cs o g a more true e = more (commanded w t c) (own_step s t c (eqb-true _ _ e) a)
  end_cases s t c cs o g a more false e = more t (other_step s t c (eqb-false _ _ e) (All-head NotGlobal c cs g) (λ p i. All-head (ItsHost w h p) c cs (o p i)) a)

  end : (cs : List Command) (s t : Shelf) → Covers cs → Plain cs → Agree s t → Agree (end_of w s cs) (end_of w t (of_host h cs))
  end [] s t o g a = a
  end (c ∷ cs) s t o g a =
      end_cases s t c cs o g a (λ u b. end cs (commanded w s c) u (λ p i. All-tail (ItsHost w h p) c cs (o p i)) (All-tail NotGlobal c cs g) b) (eqb c.host h) refl

  -- an unpowered shelf refuses every command
  unpowered_cases : (c : Command) (cs : List Command) → AllZip (Alike w h all) (heard_by h (said_by w unpowered cs)) (said_by w unpowered (of_host h cs)) → (b : Bool)
      → AllZip (Alike w h all)
      (cond b (said c (refused refusal.Unpowered) ∷ heard_by h (said_by w unpowered cs)) (heard_by h (said_by w unpowered cs)))
      (said_by w unpowered (cond b (c ∷ of_host h cs) (of_host h cs)))
  unpowered_cases c cs more true = (same_said c (refused refusal.Unpowered), more)
  unpowered_cases c cs more false = more

  unpowered_solo : (cs : List Command) → AllZip (Alike w h all) (heard_by h (said_by w unpowered cs)) (said_by w unpowered (of_host h cs))
  unpowered_solo [] = tt
  unpowered_solo (c ∷ cs) = unpowered_cases c cs (unpowered_solo cs) (eqb c.host h)

unpowered_ends : (w : World) (cs : List Command) → after w unpowered cs ≡ unpowered
unpowered_ends w [] = refl
unpowered_ends w (c ∷ cs) = unpowered_ends w cs

-- the host that names a part, if any does
module _ (w : World) (p : Part) (all : List Command) where
  abbrev Owned : Command → Type 0
  Owned c = names w.configuration c p ≡ true → Only w c.host p all

  abbrev Unnamed : Command → Type 0
  Unnamed c = names w.configuration c p ≡ false

  owner_in : (cs : List Command) → All (λ c. names w.configuration c p ≡ true → Only w c.host p all) cs →
      ((h : ℕ) × Only w h p all) ⊎ All (λ c. names w.configuration c p ≡ false) cs
  owner_in [] a = inr (All-nil Unnamed)
  owner_in (c ∷ cs) a = go (cases_Bool (names w.configuration c p)) (owner_in cs (All-tail Owned c cs a))
    where
      go : (names w.configuration c p ≡ true) ⊎ (names w.configuration c p ≡ false) →
          ((h : ℕ) × Only w h p all) ⊎ All (λ d. names w.configuration d p ≡ false) cs →
          ((h : ℕ) × Only w h p all) ⊎ All (λ d. names w.configuration d p ≡ false) (c ∷ cs)
      go (inl y) r = inl (c.host, All-head Owned c cs a y)
      go (inr z) (inl h) = inl h
      go (inr z) (inr n) = inr (All-cons Unnamed c cs z n)

  none_only : (cs : List Command) → All (λ c. names w.configuration c p ≡ false) cs → Only w 0 p cs
  none_only [] a = All-nil (ItsHost w 0 p)
  none_only (c ∷ cs) a =
      All-cons (ItsHost w 0 p) c cs (λ y. absurd (both_ways (names w.configuration c p) (All-head Unnamed c cs a) y)) (none_only cs (All-tail Unnamed c cs a))

owner : (w : World) (p : Part) (cs : List Command) → All (λ c. names w.configuration c p ≡ true → Only w c.host p cs) cs → (h : ℕ) × Only w h p cs
owner w p cs a = elim (owner_in w p cs cs a) [ inl h ↦ h | inr n ↦ (0, none_only w p cs cs n) ]

-- what holds of each command holds of each host's, and the other way round
module _ (P : Command → Type 0) where
  all_kept : (h : ℕ) (cs : List Command) → All P cs → All P (of_host h cs)
  all_kept h [] a = All-nil P
  all_kept h (c ∷ cs) a = go (eqb c.host h) (all_kept h cs (All-tail P c cs a))
    where
      go : (b : Bool) → All P (of_host h cs) → All P (cond b (c ∷ of_host h cs) (of_host h cs))
      go true r = All-cons P c (of_host h cs) (All-head P c cs a) r
      go false r = r

  all_tail : (b : Bool) (c : Command) (cs : List Command) → All P (cond b (c ∷ cs) cs) → All P cs
  all_tail true c cs a = All-tail P c cs a
  all_tail false c cs a = a

  all_head : (b : Bool) (c : Command) (cs : List Command) → b ≡ true → All P (cond b (c ∷ cs) cs) → P c
  all_head true c cs e a = All-head P c cs a
  all_head false c cs e a = absurd (both_ways false refl e)

  all_by_hosts : (cs : List Command) → ((h : ℕ) → All P (of_host h cs)) → All P cs
  all_by_hosts [] a = All-nil P
  all_by_hosts (c ∷ cs) a =
      All-cons P c cs
      (all_head (eqb c.host c.host) c (of_host c.host cs) (eq-eqb _ _ refl) (a c.host))
      (all_by_hosts cs (λ h. all_tail (eqb c.host h) c (of_host h cs) (a h)))

  carried : (cs ds : List Command) → SameOrders cs ds → All P cs → All P ds
  carried cs ds e a = all_by_hosts ds (λ h. subst (All P) (e h) (all_kept h cs a))

-- two that are alike to a third
module _ (w : World) (h : ℕ) (cs ds : List Command) (back : (p : Part) → Only w h p cs → Only w h p ds) where
  alike_both : (x y z : Said) → Alike w h cs x z → Alike w h ds y z → Alike w h cs x y
  alike_both x y z a b =
      record {
        asked = a.asked ∙ sym b.asked;
        heading = a.heading ∙ sym b.heading;
        bytes = (
          a.bytes.0 ∙ sym b.bytes.0,
          λ k own. a.bytes.1 k own ∙ sym (b.bytes.1 k (λ p q. back p (own p (ap (λ (c : Command). byte_part w.configuration c k) (a.asked ∙ sym b.asked) ∙ q)))),
        );
      }

  each_both : (xs ys zs : List Said) → AllZip (Alike w h cs) xs zs → AllZip (Alike w h ds) ys zs → AllZip (Alike w h cs) xs ys
  each_both [] [] zs a b = tt
  each_both [] (y ∷ ys) [] a b = b
  each_both [] (y ∷ ys) (z ∷ zs) a b = absurd a
  each_both (x ∷ xs) [] [] a b = a
  each_both (x ∷ xs) [] (z ∷ zs) a b = absurd b
  each_both (x ∷ xs) (y ∷ ys) [] a b = absurd a
  each_both (x ∷ xs) (y ∷ ys) (z ∷ zs) a b = (alike_both x y z a.0 b.0, each_both xs ys zs a.1 b.1)

itself : (w : World) (h : ℕ) (cs : List Command) (s : Shelf) → Agree w h cs s s
itself w h cs s = record { same_host = refl; same_rest = refl; same_parts = λ p o. refl }

module _ (w : World) (cs ds : List Command) (g : All (λ c. is_global c ≡ false) cs) (e : SameOrders cs ds) (apart : Apart w cs) where
  to : (h : ℕ) (p : Part) → Only w h p cs → Only w h p ds
  to h p = carried (λ c. names w.configuration c p ≡ true → c.host ≡ h) cs ds e

  plain : All (λ c. is_global c ≡ false) ds
  plain = carried (λ c. is_global c ≡ false) cs ds e g

  powered_agree : (s : Shelf) → SameResults w (powered s) cs ds
  powered_agree s =
      record {
        ends = ends_powered w s cs ∙ ap powered (shelf_path (end_of w s cs) (end_of w s ds) parts hosts rests) ∙ sym (ends_powered w s ds);
        answers = λ h.
            each_both w h cs ds (to h) _ _ (said_by w (powered s) (of_host h cs))
            (solo w h cs cs s s (λ p o. o) g (itself w h cs s))
            (subst (λ (xs : List Command). AllZip (Alike w h ds) (heard_by h (said_by w (powered s) ds)) (said_by w (powered s) xs)) (sym (e h))
            (solo w h ds ds s s (λ p o. o) plain (itself w h ds s)));
      }
    where
      alone : (h : ℕ) (xs : List Command) → All (λ c. is_global c ≡ false) xs → Agree w h xs (end_of w s xs) (end_of w s (of_host h xs))
      alone h xs k = end w h xs xs s s (λ p o. o) k (itself w h xs s)

      parts : (p : Part) → (end_of w s cs).parts p ≡ (end_of w s ds).parts p
      parts p =
          let (h, o) = owner w p cs (apart p) in
          (alone h cs g).same_parts p o
          ∙ ap (λ (xs : List Command). (end_of w s xs).parts p) (e h)
          ∙ sym ((alone h ds plain).same_parts p (to h p o))

      hosts : (h : ℕ) → (end_of w s cs).hosts h ≡ (end_of w s ds).hosts h
      hosts h = (alone h cs g).same_host ∙ ap (λ (xs : List Command). (end_of w s xs).hosts h) (e h) ∙ sym (alone h ds plain).same_host

      rests : (end_of w s cs).rest ≡ (end_of w s ds).rest
      rests = (alone 0 cs g).same_rest ∙ ap (λ (xs : List Command). (end_of w s xs).rest) (e 0) ∙ sym (alone 0 ds plain).same_rest

  unpowered_agree : SameResults w unpowered cs ds
  unpowered_agree =
      record {
        ends = unpowered_ends w cs ∙ sym (unpowered_ends w ds);
        answers = λ h.
            each_both w h cs ds (to h) _ _ (said_by w unpowered (of_host h cs)) (unpowered_solo w h cs cs)
            (subst (λ (xs : List Command). AllZip (Alike w h ds) (heard_by h (said_by w unpowered ds)) (said_by w unpowered xs)) (sym (e h)) (unpowered_solo w h ds ds));
      }

pub orders_agree : OrdersAgree
orders_agree w unpowered cs ds g e apart = unpowered_agree w cs ds g e apart
orders_agree w (powered s) cs ds g e apart = powered_agree w cs ds g e apart s
