use Rattle.std.proofs.Common.{◌≡◌, ◌<◌, length, refl, arith, rules}
use Rattle.history.proofs.Tables.{set_at}
use Rattle.table.specs.Entries.{entry_at, vacant}
use Rattle.table.specs.Rows.{slot_as}
use Rattle.table.specs.Table.{counts_of, slots_of}
use Rattle.table.specs.declared.rows.Entry.{Entry}
use Rattle.table.proofs.Records.{kept_by_set, records_set}
use Rattle.table.proofs.rows.Table.put.Goals as goal

pub invariant_of-self : goal.invariant_of-self
invariant_of-self c =
    let es = c.args.self.now.entries in
    let n : length es ≡ 14 = search rules in
    let m : c.args.k < 14 = search rules in
    record { records = records_set es c.args.k _ (omega arith) c.args.self.now.records c.requires }

pub returns-then-k-lt14 : goal.returns-then-k-lt14
unfolding slots_of counts_of
returns-then-k-lt14 c =
    let es = c.args.self.now.entries in
    let n : length es ≡ 14 = search rules in
    let m : c.args.k < 14 = search rules in
    let e : Entry = record { slot = c.args.slot; count = (entry_at es c.args.k).count } in
    record {
      slots = λ j _. set_at (λ x. slot_as x.slot) es c.args.k j e vacant (omega arith);
      counts = λ i j. kept_by_set es c.args.k e (omega arith) (λ x. x.count) refl j i;
    }
