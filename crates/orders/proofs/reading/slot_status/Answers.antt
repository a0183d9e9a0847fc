use Rattle.std.proofs.Common.{◌≡◌, ℕ, ◌+◌, ◌*◌, ◌/◌, ◌≤◌, Bool, true, false, cond, List, length, take, drop, Some, None, option_map, refl, ap, ◌∙◌, arith, rules}
use Rattle.std.specs.Borrow.{Bor}
use Rattle.std.specs.Bool.{then_some}
use Rattle.std.specs.List.{list_all}
use Rattle.std.specs.Simd.{first_chunks}
use Rattle.std.proofs.lemmas.Bool.{le-ltb}
use Rattle.history.specs.Orders.{sound_below, triples}
use Rattle.orders.specs.Decoded.{order_as}
use Rattle.orders.specs.declared.order.Order.TheVariants.{Triples}
use Rattle.orders.proofs.Sound.{all_sound, is_sound, sound_within}
use Rattle.orders.proofs.reading.slot_status.Goals as goal

told : (b : Bool) (ts : Bor (List ℕ)) → option_map order_as (then_some b (Triples ts)) ≡ cond b (Some (triples ts.now)) None
told true ts = refl
told false ts = refl

pub returns : goal.returns
returns c =
    let bs = c.args.bytes.now in
    let d = c.args.c.counts.slots in
    let ts = c.in_ok-triples.triples.now in
    let is : ts ≡ take (3 * d) (drop 1 bs) = search rules in
    let long : 3 * d + 1 ≤ length bs = search rules in
    let count : length ts / 3 ≡ d = search rules in
    let sound : c.are_sound.result ≡ sound_below (drop 1 bs) d =
    c.are_sound.ensures
    ∙ ap (list_all is_sound) (c.as_chunks.ensures.front ∙ ap (λ (n : ℕ). first_chunks 3 n ts) count)
    ∙ all_sound d ts
    ∙ ap (λ (xs : List ℕ). sound_below xs d) is
    ∙ sound_within d d (drop 1 bs) (omega arith) in
    ap (option_map order_as) c.then_some.ensures
    ∙ told c.are_sound.result c.in_ok-triples.triples
    ∙ ap (λ (b : Bool). cond b (Some (triples ts)) None) sound
    ∙ ap (λ (xs : List ℕ). cond (sound_below (drop 1 bs) d) (Some (triples xs)) None) is
    ∙ rw (le-ltb (length bs) (3 * d + 1) long)
