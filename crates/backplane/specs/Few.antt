-- A configuration that is kept has few parts.
use Rattle.std.specs.Prelude.{Bool, ◌&&◌, nat_le, refl}
use Rattle.std.proofs.Common.{arith, lit≤}
use Rattle.std.proofs.lemmas.Bool.{cond_both, leb-true, and_parts}
use Rattle.enclosure.specs.Ranges.{in_range}
use Rattle.backplane.specs.Configured.{kept, none}
use Rattle.backplane.specs.Meaning.{Bounded}
use Rattle.backplane.specs.declared.configuration.Configuration.{Configuration}

pub few : (c : Configuration) (room : Bool) → Bounded (kept c room)
few c room =
    cond_both (room && in_range c.counts) c none Bounded
    (λ e.
    let z = and_parts room _ e in
    let a = and_parts (nat_le c.counts.fans 16) _ z.1 in
    let b = and_parts (nat_le c.counts.supplies 8) _ a.1 in
    let d = and_parts (nat_le 1 c.counts.slots) _ b.1 in
    let f = and_parts (nat_le c.counts.slots 14) _ d.1 in
    let g = and_parts (nat_le c.counts.sensors 15) _ f.1 in
    let some = leb-true 1 c.counts.slots d.0 in
    record {
      slots = leb-true c.counts.slots 14 f.0;
      fans = leb-true c.counts.fans 16 a.0;
      supplies = leb-true c.counts.supplies 8 b.0;
      sensors = leb-true c.counts.sensors 15 g.0;
      thermostats = leb-true c.counts.thermostats 15 g.1;
      empty = λ no. absurd (omega arith);
    })
    (λ e. record { slots = lit≤ tt; fans = lit≤ tt; supplies = lit≤ tt; sensors = lit≤ tt; thermostats = lit≤ tt; empty = λ _. refl })
