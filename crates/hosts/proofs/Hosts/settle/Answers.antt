use Rattle.std.proofs.Common.{◌≡◌, ℕ, ◌<◌, cond, eqb, length, ◌∙◌, arith, rules}
use Rattle.std.proofs.lemmas.Bool.Decides.{nat_tests}
use Rattle.history.specs.Judgement.{on_host}
use Rattle.history.proofs.Tables.{set_at}
use Rattle.verdicts.specs.Judged.{verdict_as}
use Rattle.hosts.specs.Held.{host_as, hosts_of, nobody}
use Rattle.hosts.proofs.Hosts.settle.Goals as goal

-- f of what stands at one place
moved_at : {X : Type 0} (f : X → X) (at : ℕ → X) (i j k : ℕ) (x : X) → i ≡ j → x ≡ f (at i) → cond (eqb k i) x (at k) ≡ cond (eqb k j) (f (at k)) (at k)
moved_at f at i j k x same is = grind (arith, nat_tests)

pub returns-then-k-lt16 : goal.returns-then-k-lt16
returns-then-k-lt16 c = λ k l.
    let each = c.args.self.now.each in
    let n : length each ≡ 16 = search rules in
    let m : c.from-k.result < 16 = search rules in
    set_at host_as each c.from-k.result k c.after.result nobody (omega arith)
    ∙ moved_at (on_host (verdict_as c.args.verdict)) (hosts_of c.args.self.now) c.from-k.result c.args.host k _ c.from-k.ensures c.after.ensures
