-- The status page of a backplane.
use Rattle.std.proofs.Common.{◌≡◌, ℕ, ◌≤◌, Bool, true, false, cond, eqb, length, get_or, Some, None, refl, arith}
use Rattle.backplane.specs.Meaning.{Bounded}
use Rattle.backplane.specs.declared.configuration.Configuration.{Configuration}
use Rattle.enclosure.specs.Conditions.{fan_of, supply_of}
use Rattle.parts.specs.declared.kinds.PlainByte.{PlainByte}
use Rattle.history.specs.Replies.{if_fitted, status_of}
use Rattle.history.specs.Shelf.{Part, supply, Rest, Value}
use Rattle.history.proofs.Listed.{listed_length}
use Rattle.pages.specs.Pages.{Status, status_page}
use Rattle.pages.proofs.Sizes.{status_long}
use Rattle.shelf_pages.specs.Held.{set_if}

pub same_status : (s t : Status) → s.fans ≡ t.fans → s.supplies ≡ t.supplies → s.ids ≡ t.ids → s.lock ≡ t.lock → s.alarm ≡ t.alarm
    → s.temperatures ≡ t.temperatures → s.over_temperature ≡ t.over_temperature → s ≡ t
same_status s t a b c d e f g =
    λ i. record { fans = a i; supplies = b i; ids = c i; lock = d i; alarm = e i; temperatures = f i; over_temperature = g i }

pub set_fitted : (fitted : Bool) (n : ℕ) → set_if fitted (cond fitted (Some n) None) ≡ if_fitted fitted (eqb n 1)
set_fitted true n = refl
set_fitted false n = refl

-- every status page has room in 64 bytes
pub status_fits : (c : Configuration) (ps : (p : Part) → Value p) (r : Rest) → Bounded c → length (status_page (status_of c ps r)) ≤ 64
status_fits c ps r few =
    let a = few.fans in
    let b = few.supplies in
    let d = few.slots in
    let e = few.sensors in
    let l = status_long (status_of c ps r) in
    let f1 : length (status_of c ps r).fans ≡ c.counts.fans = listed_length (λ k. fan_of (r.inputs.fan k)) c.counts.fans in
    let f2 : length (status_of c ps r).supplies ≡ c.counts.supplies = listed_length (λ k. supply_of (r.inputs.supply k) (ps (supply k))) c.counts.supplies in
    let f3 : length (status_of c ps r).ids ≡ c.counts.slots = listed_length {X = PlainByte} (λ k. record { 0 = get_or c.ids k 0 }) c.counts.slots in
    let f4 : length (status_of c ps r).temperatures ≡ c.counts.sensors = listed_length {X = PlainByte} (λ k. record { 0 = r.inputs.temperature k }) c.counts.sensors in
    omega arith
