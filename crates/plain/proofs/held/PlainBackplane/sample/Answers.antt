use Rattle.std.proofs.Common.{◌≡◌, true, length, ◌∙◌, rules}
use Rattle.backplane.specs.Configured.{kept}
use Rattle.plain.specs.Frame.{frame_length, well_formed}
use Rattle.plain.proofs.Sampled.{sampled_value}
use Rattle.plain.proofs.held.PlainBackplane.sample.Goals as goal

pub returns-clause-does : goal.returns-clause-does
returns-clause-does c =
    let k = kept c.args.self.now.configuration true in
    let frame = c.args.frame.now in
    let w : well_formed k frame ≡ true = search rules in
    let long : length frame ≡ frame_length k = search rules in
    sampled_value c.args.self.now.configuration c.args.self.now.tables c.keep.new.self frame _ c.keep.ensures.outputs w long (c.keep.ensures.frame ∙ c.padded.ensures)
