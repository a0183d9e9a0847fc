use Rattle.std.proofs.Common.{◌≡◌, ◌<◌, Bool, ap, ◌∙◌, arith}
use Rattle.std.proofs.lemmas.Bool.Decides.{nat_tests}
use Rattle.backplane.specs.declared.configuration.Configuration.{Configuration}
use Rattle.enclosure.specs.Slots.{inserted}
use Rattle.history.specs.Shelf.{Slot}
use Rattle.history.specs.Steps.{sampled_slot}
use Rattle.table.specs.Table.{counted, counts_of, slots_of}
use Rattle.driving.proofs.Below.{one_more}
use Rattle.driving.proofs.frames.see_slots.Goals as goal

pub loop-k-preserved : goal.loop-k-preserved
loop-k-preserved g c =
    let q = (g.B.Backplane.value c.args.b.now).inputs.present in
    let k = c.loop-k.k in
    let p = c.is_present.result in
    let e = c.is_present.ensures in
    let old = slots_of c.args.table.now in
    let counts = counts_of c.args.table.now in
    let few = (g.B.Backplane.bounded c.args.b.now).slots in
    let m = ap (λ (p : Configuration). p.counts.slots) c.configuration.ensures in
    let t = c.loop-k-test.true in
    let l : k < 14 = omega arith in
    let same : slots_of c.loop-k.table k ≡ old k = (let i = c.loop-k.invariant.0 k l in grind (arith, nat_tests)) in (
      one_more old (slots_of c.loop-k.table) (slots_of c.see.new.self) (λ j. sampled_slot (inserted (old j).state) (q j) (old j)) k c.loop-k.invariant.0
          (λ j s. sampled_slot (inserted s.state) p s) c.see.ensures.slots (ap (λ (b : Bool). sampled_slot (inserted (old k).state) b (old k)) e),
      one_more counts (counts_of c.loop-k.table) (counts_of c.see.new.self) (λ j. counted (inserted (old j).state) (q j) (counts j)) k c.loop-k.invariant.1
          (λ j n. counted (inserted (slots_of c.loop-k.table j).state) p n) c.see.ensures.counts
          (ap (λ (s : Slot). counted (inserted s.state) p (counts k)) same ∙ ap (λ (b : Bool). counted (inserted (old k).state) b (counts k)) e),
    )
