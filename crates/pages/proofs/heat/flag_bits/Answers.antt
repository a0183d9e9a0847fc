use Rattle.std.proofs.Common.{◌≡◌, ◌+◌, ◌*◌, ◌%◌, ◌^◌, ◌<◌, true, false, length, sym, ap, ◌∙◌, subst, arith}
use Rattle.std.proofs.lemmas.Iterator.{YieldsList-from_slice, YieldsList-from_take}
use Rattle.std.proofs.lemmas.Iterator.Adapters.{YieldsList-from_skip}
use Rattle.std.proofs.lemmas.Iterator.Consumers.{YieldsList-from_enumerate, YieldsList-turn, YieldsList-end}
use Rattle.std.proofs.lemmas.List.{length_push}
use Rattle.pages.specs.Heat.{flag_bits}
use Rattle.pages.proofs.HeatBits.{turn, item, ended}
use Rattle.pages.proofs.heat.flag_bits.Goals as goal

pub loop-k-preserved-then-flag : goal.loop-k-preserved-then-flag
loop-k-preserved-then-flag c =
    let road = YieldsList-from_enumerate (YieldsList-from_take c.args.count (YieldsList-from_skip c.args.at (YieldsList-from_slice c.args.flags.now cc) (cc)) (cc)) (cc) in
    let n = length c.loop-k.yielded in
    let t = YieldsList-turn road c.loop-k.yielded _ c.loop-k.yielded_by _ _ (c.in-Some.k, c.in-Some.flag) c.in-Some.is c.next.ensures.steps in
    let i = item c.args.flags.now c.args.at c.args.count n c.in-Some.k c.in-Some.flag.now t in
    let new = c.loop-k.bits + 1 * 2 ^ c.in-Some.k % 256 in
    let w = turn c.args.flags.now c.args.at n c.loop-k.bits new true (omega (arith, i.1.0)) (sym c.if-flag.true ∙ i.1.1) c.loop-k.invariant.0 c.loop-k.invariant.1 (ap (λ x. c.loop-k.bits + 1 * 2 ^ x % 256) i.0) in
    subst (λ m. (new ≡ flag_bits c.args.flags.now c.args.at m) × (new < 2 ^ m)) (sym (length_push c.loop-k.yielded (c.in-Some.k, c.in-Some.flag))) w

pub loop-k-preserved : goal.loop-k-preserved
loop-k-preserved c =
    let road = YieldsList-from_enumerate (YieldsList-from_take c.args.count (YieldsList-from_skip c.args.at (YieldsList-from_slice c.args.flags.now cc) (cc)) (cc)) (cc) in
    let n = length c.loop-k.yielded in
    let t = YieldsList-turn road c.loop-k.yielded _ c.loop-k.yielded_by _ _ (c.in-Some.k, c.in-Some.flag) c.in-Some.is c.next.ensures.steps in
    let i = item c.args.flags.now c.args.at c.args.count n c.in-Some.k c.in-Some.flag.now t in
    let new = c.loop-k.bits in
    let w = turn c.args.flags.now c.args.at n new new false (omega (arith, i.1.0)) (sym c.if-flag.false ∙ i.1.1) c.loop-k.invariant.0 c.loop-k.invariant.1 (omega arith) in
    subst (λ m. (new ≡ flag_bits c.args.flags.now c.args.at m) × (new < 2 ^ m)) (sym (length_push c.loop-k.yielded (c.in-Some.k, c.in-Some.flag))) w

pub returns : goal.returns
returns c =
    let road = YieldsList-from_enumerate (YieldsList-from_take c.args.count (YieldsList-from_skip c.args.at (YieldsList-from_slice c.args.flags.now cc) (cc)) (cc)) (cc) in
    let e = YieldsList-end road c.loop-k.yielded _ c.loop-k.yielded_by _ _ c.in-None.is c.next.ensures.steps in
    let w = ended c.args.flags.now c.args.at c.args.count (length c.loop-k.yielded) c.loop-k.bits e.1 c.loop-k.invariant.0 c.loop-k.invariant.1 in
    record { bits = w.0; below = w.1 }
