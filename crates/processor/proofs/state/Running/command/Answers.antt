use Rattle.std.proofs.Common.{◌≡◌, length, sym, refl, ap, ◌∙◌, rules}
use Rattle.backplane.specs.Meaning.{Value}
use Rattle.history.specs.Judgement.{judge, order_in}
use Rattle.history.specs.Shelf.{Command}
use Rattle.hosts.specs.Held.{hosts_of}
use Rattle.verdicts.specs.Judged.{verdict_as}
use Rattle.table.specs.Table.{slots_of}
use Rattle.processor.specs.Inside.{powered_by}
use Rattle.processor.proofs.Keeping.{order_keeps}
use Rattle.processor.proofs.NotRefused.{not_refused}
use Rattle.processor.proofs.Following.{Facts, done_follows, refused_follows}
use Rattle.processor.proofs.state.Running.command.Goals as goal

pub returns-in-Refuse-clause-follows : goal.returns-in-Refuse-clause-follows
returns-in-Refuse-clause-follows g c =
    let v = g.B.Backplane.value c.args.b.now in
    let r = c.args.self.now in
    let cmd : Command = record { host = c.args.host; cdb = c.args.cdb.now; payload = c.args.payload.now; room = length c.args.buffer.now } in
    let j : verdict_as c.judge-verdict.result ≡ judge v.configuration (hosts_of r.hosts c.args.host).attention cmd
    = search rules in
    λ s t. refused_follows g.B.Backplane.reading v (g.B.Backplane.bounded c.args.b.now).slots (powered_by r c.args.identity.now) r refl cmd c.in-Refuse.refusal (sym j ∙ ap verdict_as c.in-Refuse.is) s t c.args.buffer.now

pub returns : goal.returns
returns g c =
    let b = c.args.b.now in
    let v = g.B.Backplane.value b in
    let r = c.args.self.now in
    let k = powered_by r c.args.identity.now in
    let cmd : Command = record { host = c.args.host; cdb = c.args.cdb.now; payload = c.args.payload.now; room = length c.args.buffer.now } in
    let x = verdict_as c.judge-verdict.result in
    let j : x ≡ judge v.configuration (hosts_of r.hosts c.args.host).attention cmd
    = search rules in
    let go = not_refused c.judge-verdict.result c.in_default.not-Refuse in
    let did = c.settle.ensures in
    let u = g.B.Backplane.value c.settle.new.b in
    let r' = c.settle.new.self in
    let facts : Facts g.B.Backplane.reading v (g.B.Backplane.bounded b).slots k r refl cmd u r' c.args.buffer.now c.settle.new.buffer c.settle.result x
    = record {
      go = go;
      says = did.says go;
      lays = did.lays;
      hosts_now = did.hosts;
      slots_now = did.slots;
      counts_now = did.counts;
      flags_now = did.flags;
      does = did.does;
    } in
    let kept = order_keeps (order_in x) (slots_of r'.memory.table) v in
    record {
      follows = λ s t. done_follows g.B.Backplane.reading v (g.B.Backplane.bounded b).slots k r refl cmd u _ r' refl c.args.buffer.now c.settle.new.buffer c.settle.result x j facts s t;
      untouched = tt;
      refused = tt;
      configuration = ap (λ (y : Value). y.configuration) did.does ∙ kept.parts;
      beside = ap (λ (y : Value). y.beside) did.does ∙ kept.beside;
    }
