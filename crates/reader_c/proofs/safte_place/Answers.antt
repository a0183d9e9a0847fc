use Rattle.std.proofs.Common.{arith}
use Rattle.reader.specs.Numbers.{run_numbered}
use Rattle.reader.specs.Reads.{read_part}
use Rattle.reader_c.specs.Answers.{place_of, width_of}
use Rattle.reader_c.proofs.Small.{held, roomy_answer, roomy_number}
use Rattle.reader_c.proofs.safte_place.Goals as goal

pub returns : goal.returns
returns c =
    let r = read_part c.args.config.now c.args.page.now (run_numbered c.args.run) c.args.number in
    let h = held c.args.config.now c.args.page.now (run_numbered c.args.run) c.args.number in
    record {
      answer = roomy_answer _ r _ (omega arith) h c.safte_part.ensures.answer;
      place = roomy_number place_of _ r _ _ (omega arith) h c.safte_part.ensures.place;
      width = roomy_number width_of _ r _ _ (omega arith) h c.safte_part.ensures.width;
    }
