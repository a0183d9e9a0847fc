use Rattle.std.proofs.Common.{◌≡◌, ℕ, ◌*◌, ◌/◌, ◌%◌, List, length, Some, Err, vec_items, ap, ◌∙◌, subst, rules, MatchResult}
use Rattle.std.specs.List.{concat}
use Rattle.digits.specs.declared.hex.HexFault.TheVariants.{NotHex}
use Rattle.digits.specs.Hex.{Failed, hex_read}
use Rattle.digits.proofs.Spelling.{odd_none, pairs_joined, reads_back, reads_unspaced, reads_only}
use Rattle.digits.proofs.hex.read_hex.Goals as goal

pub returns-then-not-is_empty : goal.returns-then-not-is_empty
returns-then-not-is_empty c =
    let text = c.args.text.now in
    let odd : length text % 2 ≡ 1 = search rules in
    let none = odd_none text odd in
    record {
      reads = none;
      back = reads_back (λ (v : List ℕ). v) (Err NotHex) text none;
      unspaced = reads_unspaced (λ (v : List ℕ). v) (Err NotHex) text none;
      only = tt;
    }

pub returns : goal.returns
returns c =
    let text = c.args.text.now in
    let r = c.read_pairs.result in
    let even : length text / 2 * 2 ≡ length text = search rules in
    let joined : concat c.as_chunks.result.0.now ≡ text = ap concat c.as_chunks.ensures.front ∙ pairs_joined (length text / 2) text even in
    let told = subst (λ (t : List ℕ). MatchResult r (λ v. hex_read t ≡ Some (vec_items v)) (λ f. Failed f (hex_read t))) joined c.read_pairs.ensures in
    record {
      reads = told;
      back = reads_back vec_items r text told;
      unspaced = reads_unspaced vec_items r text told;
      only = reads_only vec_items r text told;
    }
