use Rattle.std.proofs.Common.{◌≡◌, ◌<◌, ◌≤◌, length, drop, [], Some, None, vec_items, sym, ap, ◌∙◌, append-nil, rules}
use Rattle.std.proofs.lemmas.List.{drop_all}
use Rattle.std.specs.List.{concat}
use Rattle.digits.specs.Hex.{hex_read}
use Rattle.digits.proofs.Spelling.{after, pair_more, pair_none}
use Rattle.digits.proofs.hex.read_pairs.Goals as goal

pub returns-in_err-byte : goal.returns-in_err-byte
returns-in_err-byte c =
    let ps = c.args.pairs.now in
    let k = c.loop-high.high-index in
    let here : k < length ps = search rules in
    let none : None ≡ c.hex_byte.result = search rules in
    let all = pair_none ps k [] (vec_items c.loop-high.bytes) _ here (c.told-pairs k here) (none ∙ c.hex_byte.ensures) c.loop-high.invariant in
    search rules

pub loop-high-preserved : goal.loop-high-preserved
loop-high-preserved c =
    let ps = c.args.pairs.now in
    let k = c.loop-high.high-index in
    let here : k < length ps = search rules in
    pair_more ps k [] (vec_items c.loop-high.bytes) (vec_items c.push.new.self) c.in_ok-byte.byte _ here (c.told-pairs k here) (sym c.in_ok-byte.ensures.ok_part ∙ c.hex_byte.ensures) c.in_ok-push.ensures.items c.loop-high.invariant

pub returns : goal.returns
returns c =
    let ps = c.args.pairs.now in
    let k = c.loop-high.high-index in
    let items = vec_items c.loop-high.bytes in
    let past : length ps ≤ k = search rules in
    let none : drop k ps ≡ [] = drop_all k ps past in
    sym c.loop-high.invariant ∙ ap (λ l. after items (hex_read (concat l))) none ∙ ap (λ l. Some l) (append-nil items)
