-- The pages of a shelf are those of its history.
use Rattle.std.proofs.Common.{◌≡◌, ℕ, zero, suc, ◌+◌, ◌<◌, Bool, true, false, cond, eqb, List, [], ◌∷◌, ◌++◌, refl, ap, ◌∙◌, ap₂, arith}
use Rattle.std.proofs.lemmas.Bool.{lt-ltb}
use Rattle.backplane.specs.Meaning.{Inputs, Value, one}
use Rattle.backplane.specs.declared.places.Output.TheVariants.{Supply, Alarm, Lock}
use Rattle.enclosure.specs.Conditions.{fan_of, supply_of}
use Rattle.history.specs.Replies.{if_fitted, listed, page_bytes, slot_page, status_of}
use Rattle.history.specs.Shelf.{Host, supply, Shelf, Slot}
use Rattle.pages.specs.Pages.{insertions_page, status_page, global_flags_page}
use Rattle.parts.specs.declared.kinds.InsertionCount.{InsertionCount}
use Rattle.shelf_pages.specs.Held.{parts_of, rest_of}
use Rattle.shelf_pages.proofs.Statuses.{same_status}
use Rattle.processor.specs.Tied.{Tied}

listed_same : {X : Type 0} (f g : ℕ → X) (n : ℕ) → ((k : ℕ) → k < n → f k ≡ g k) → listed f n ≡ listed g n
listed_same f g zero e = refl
listed_same f g (suc n) e = ap₂ (λ xs x. xs ++ (x ∷ [])) (listed_same f g n (λ k l. e k (omega arith))) (e n (omega arith))

is_one : (b : Bool) → eqb (one b) 1 ≡ b
is_one true = refl
is_one false = refl

fitted_same : (f b c : Bool) → (f ≡ true → b ≡ c) → if_fitted f b ≡ if_fitted f c
fitted_same true b c e = ap (λ x. if_fitted true x) (e refl)
fitted_same false b c e = refl

module _ (v : Value) (slots : ℕ → Slot) (counts : ℕ → ℕ) (hosts : ℕ → Host) (flags : List ℕ) (s : Shelf) (t : Tied v slots counts hosts flags s) where
  supply_same : (k : ℕ) → k < v.configuration.counts.supplies → eqb (v.outputs (Supply k)) 1 ≡ s.parts (supply k)
  supply_same k l = ap (λ n. eqb n 1) (t.same_outputs (Supply k) (lt-ltb k _ l)) ∙ is_one (s.parts (supply k))

  status_same : status_of v.configuration (parts_of v slots) (rest_of v counts flags) ≡ status_of v.configuration s.parts s.rest
  status_same =
      let c = v.configuration in
      same_status _ _
      (ap (λ (i : Inputs). listed (λ k. fan_of (i.fan k)) c.counts.fans) t.same_inputs)
      (ap (λ (i : Inputs). listed (λ k. supply_of (i.supply k) (eqb (v.outputs (Supply k)) 1)) c.counts.supplies) t.same_inputs
      ∙ listed_same _ _ c.counts.supplies (λ k l. ap (supply_of (s.rest.inputs.supply k)) (supply_same k l)))
      refl
      (fitted_same c.lock _ _ (λ f. ap (λ n. eqb n 1) (t.same_outputs Lock f) ∙ is_one s.rest.lock))
      (fitted_same c.alarm _ _ (λ f. ap (λ n. eqb n 1) (t.same_outputs Alarm f) ∙ is_one s.rest.alarm))
      (ap (λ (i : Inputs). listed (λ k. record { 0 = i.temperature k }) c.counts.sensors) t.same_inputs)
      (ap (λ (i : Inputs). listed (λ k. i.hot k) (c.counts.sensors + c.counts.thermostats)) t.same_inputs)

  pub page_same : (b : ℕ) → page_bytes v.configuration b (parts_of v slots) (rest_of v counts flags) ≡ page_bytes v.configuration b s.parts s.rest
  page_same b =
      let d = v.configuration.counts.slots in
      ap₂ (cond (eqb b 0)) refl
      (ap₂ (cond (eqb b 1)) (ap status_page status_same)
      (ap₂ (cond (eqb b 3)) (ap insertions_page (listed_same {X = InsertionCount} _ _ d (λ k l. ap {A = ℕ} {B = InsertionCount} (λ n. record { 0 = n }) (t.same_counts k l))))
      (ap₂ (cond (eqb b 4)) (ap slot_page (listed_same _ _ d (λ k l. t.same_slots k l)))
      (ap global_flags_page t.same_flags))))
