use Rattle.std.proofs.Common.{◌≡◌, ℕ, List, [], ◌∷◌, ◌++◌, get_or, ap, subst, arith, rules}
use Rattle.std.specs.List.{flat_map}
use Rattle.parts.specs.Laid.{byte_laid, fan_laid, supply_laid}
use Rattle.pages.specs.Heat.{heat_bytes}
use Rattle.pages.specs.Pages.{door_byte, shown, speaker_byte, status_page}
use Rattle.pages.proofs.Fronts.{Front, fitted, next, none, unfitted}
use Rattle.pages.proofs.PagesBack.{status_back}
use Rattle.pages.proofs.Sizes.{long, status_long}
use Rattle.pages.proofs.status.lay_status.Goals as goal

pub returns-then-not-fit : goal.returns-then-not-fit
returns-then-not-fit c =
    let s = shown c.args.parts in
    let old = c.args.buffer.now in
    let u = unfitted (status_page s) old _ (status_long s) c.if-not-fit.ensures in
    record { len = u.0; page = u.1; size = status_long s; back = status_back s old old u.1 }

pub returns : goal.returns
returns c =
    let s = shown c.args.parts in
    let old = c.args.buffer.now in
    let new = c.put_run.new.page in
    let l = long s in
    let hb = c.heat_bytes.result in
    let two = c.door_byte.result ∷ c.speaker_byte.result ∷ [] in
    let three = get_or hb 0 0 ∷ get_or hb 1 0 ∷ 0 ∷ [] in
    let d : two ≡ door_byte s.lock ∷ speaker_byte s.alarm ∷ [] = search rules in
    let t1 = next (flat_map fan_laid s.fans) (none old) (omega arith) c.put_run-at.ensures.page in
    let t2 = next (flat_map supply_laid s.supplies) t1 (omega arith) c.put_run-at-2.ensures.page in
    let t3 = next (flat_map byte_laid s.ids) t2 (omega arith) c.put_run-at-3.ensures.page in
    let t4 = next two t3 c.put_run-at-4.ensures.place c.put_run-at-4.ensures.page in
    let t5 = next (flat_map byte_laid s.temperatures) t4 (omega arith) c.put_run-at-5.ensures.page in
    let t6 = next three t5 c.put_run.ensures.place c.put_run.ensures.page in
    let h : three ≡ heat_bytes s.over_temperature ++ (0 ∷ []) = ap (λ xs. get_or xs 0 0 ∷ get_or xs 1 0 ∷ 0 ∷ []) c.heat_bytes.ensures in
    let front = flat_map fan_laid s.fans ++ flat_map supply_laid s.supplies ++ flat_map byte_laid s.ids in
    let P : List ℕ → List ℕ → Type 0 = λ x y. Front old new (front ++ x ++ flat_map byte_laid s.temperatures ++ y) c.put_run.result in
    let t7 = subst (λ x. P x three) d t6 in
    let t8 = subst (λ y. P (door_byte s.lock ∷ speaker_byte s.alarm ∷ []) y) h t7 in
    let u = fitted (status_page s) old new c.put_run.result _ (status_long s) c.if-not-fit.ensures t8 in
    record { len = u.0; page = u.1; size = status_long s; back = status_back s old new u.1 }
