use Rattle.std.proofs.Common.{sym, ◌∙◌, arith, rules}
use Rattle.std.proofs.lemmas.List.{take_all}
use Rattle.table.specs.Table.{counts_of}
use Rattle.gathering.proofs.Gathered.{gathered}
use Rattle.gathering.proofs.kept.insertion_counts.Goals as goal

pub returns : goal.returns
returns c =
    let r = c.from_fn.ensures.items in
    sym (take_all 14 c.from_fn.result (omega (arith, r.long)))
    ∙ gathered _ _ (λ k. record { 0 = counts_of c.args.table.now k }) 14 _ 14 r (omega arith) (λ k y q w. (search rules, λ l. search rules))
