-- A verdict that is no refusal.
use Rattle.std.proofs.Common.{◌≡◌, false, refl}
use Rattle.answers.specs.declared.refusal.Refusal.{Refusal}
use Rattle.replies.specs.Answered.{is_refusal}
use Rattle.verdicts.specs.Judged.{verdict_as}
use Rattle.verdicts.specs.declared.Verdict.{Verdict}
use Rattle.verdicts.specs.declared.Verdict.TheVariants.{Refuse}

pub not_refused : (x : Verdict) → ((r : Refusal) → x ≡ Refuse r → ⊥) → is_refusal (verdict_as x) ≡ false
not_refused (Refuse r) n = absurd (n r refl)
not_refused x n = refl
