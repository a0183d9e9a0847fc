-- One slot shown, and one more.
use Rattle.std.proofs.Common.{◌≡◌, ℕ, ◌+◌, ◌<◌, Bool, true, false, cond, ◌&&◌, eqb, ltb, refl, ap, ◌∙◌, arith}
use Rattle.std.proofs.lemmas.Bool.Decides.{nat_tests}
use Rattle.backplane.specs.Meaning.{Value, altered, one, put}
use Rattle.backplane.specs.Same.{same_value}
use Rattle.backplane.specs.declared.places.Output.{Output}
use Rattle.backplane.specs.declared.places.Output.TheVariants.{Lamp, Connection, Speed, Supply, Alarm, Lock}
use Rattle.history.specs.Outputs.{connected, slot_lamp}
use Rattle.history.specs.Shelf.{Slot}
use Rattle.lamps.specs.Lamps.{lamp_number, lamp_of}
use Rattle.lamps.specs.declared.Lamp.{Lamp as Shown}
use Rattle.lamps.specs.declared.Lamp.TheVariants.{Off, NoError, Faulty, Rebuilding, Failed, Spare, Predicted, Identify}
use Rattle.startup.specs.Started.{made_where}
use Rattle.showing.specs.Shown.{of_slot, slot_number, slots_below}

lamp_fits : (l : Shown) → ltb (lamp_number l) 8 ≡ true
lamp_fits Off = refl
lamp_fits NoError = refl
lamp_fits Faulty = refl
lamp_fits Rebuilding = refl
lamp_fits Failed = refl
lamp_fits Spare = refl
lamp_fits Predicted = refl
lamp_fits Identify = refl

one_fits : (b : Bool) → ltb (one b) 2 ≡ true
one_fits true = refl
one_fits false = refl

-- at place j: where slot k is fitted, and where it is not
set_there : (d k j x y : ℕ) → ltb k d ≡ true → cond (eqb j k) x y ≡ cond (ltb j d && eqb j k) x y
set_there d k j x y l = grind (arith, nat_tests)

left_there : (d k j x y : ℕ) → ltb k d ≡ false → y ≡ cond (ltb j d && eqb j k) x y
left_there d k j x y l = grind (arith, nat_tests)

pub show_one : (v : Value) (k : ℕ) (s : Slot) →
    put (put v (Lamp k) (slot_lamp s)) (Connection k) (one (connected s)) ≡ made_where (of_slot v.configuration k) (slot_number (λ _. s)) v
show_one v k s = go (ltb k d) refl
  where
    d : ℕ
    d = v.configuration.counts.slots

    x : ℕ
    x = slot_lamp s

    y : ℕ
    y = one (connected s)

    w : Value
    w = made_where (of_slot v.configuration k) (slot_number (λ _. s)) v

    go : (b : Bool) → ltb k d ≡ b → put (put v (Lamp k) x) (Connection k) y ≡ w
    go true e =
        let first : put v (Lamp k) x ≡ altered v (Lamp k) x = rw (e, lamp_fits (lamp_of s.row s.identify)) in
        let second : put (altered v (Lamp k) x) (Connection k) y ≡ altered (altered v (Lamp k) x) (Connection k) y = rw (e, one_fits (connected s)) in
        ap (λ (u : Value). put u (Connection k) y) first ∙ second ∙ same_value (altered (altered v (Lamp k) x) (Connection k) y) w refl refl outs refl
      where
        outs : (o : Output) → (altered (altered v (Lamp k) x) (Connection k) y).outputs o ≡ w.outputs o
        outs (Lamp j) = set_there d k j x (v.outputs (Lamp j)) e
        outs (Connection j) = set_there d k j y (v.outputs (Connection j)) e
        outs (Speed j) = refl
        outs (Supply j) = refl
        outs Alarm = refl
        outs Lock = refl
    go false e =
        let first : put v (Lamp k) x ≡ v = rw e in
        let second : put v (Connection k) y ≡ v = rw e in
        ap (λ (u : Value). put u (Connection k) y) first ∙ second ∙ same_value v w refl refl outs refl
      where
        outs : (o : Output) → v.outputs o ≡ w.outputs o
        outs (Lamp j) = left_there d k j x (v.outputs (Lamp j)) e
        outs (Connection j) = left_there d k j y (v.outputs (Connection j)) e
        outs (Speed j) = refl
        outs (Supply j) = refl
        outs Alarm = refl
        outs Lock = refl

below_more : (g : ℕ → ℕ) (d k j y : ℕ) → k < d → cond (ltb j d && eqb j k) (g k) (cond (ltb j k) (g j) y) ≡ cond (ltb j (k + 1)) (g j) y
below_more g d k j y l = grind (arith, nat_tests)

pub show_more : (v : Value) (slots : ℕ → Slot) (k : ℕ) → k < v.configuration.counts.slots →
    made_where (of_slot v.configuration k) (slot_number (λ _. slots k)) (made_where (slots_below k) (slot_number slots) v) ≡ made_where (slots_below (k + 1)) (slot_number slots) v
show_more v slots k l = same_value _ (made_where (slots_below (k + 1)) (slot_number slots) v) refl refl outs refl
  where
    outs : (o : Output) →
        (made_where (of_slot v.configuration k) (slot_number (λ _. slots k)) (made_where (slots_below k) (slot_number slots) v)).outputs o ≡ (made_where (slots_below (k + 1)) (slot_number slots) v).outputs o
    outs (Lamp j) = below_more (λ i. slot_lamp (slots i)) v.configuration.counts.slots k j (v.outputs (Lamp j)) l
    outs (Connection j) = below_more (λ i. one (connected (slots i))) v.configuration.counts.slots k j (v.outputs (Connection j)) l
    outs (Speed j) = refl
    outs (Supply j) = refl
    outs Alarm = refl
    outs Lock = refl
