-- Whether bytes w are a text t, from what is known of the text s that they are, or of that they are none.
use Rattle.std.proofs.Common.{◌≡◌, ℕ, ◌<◌, List, true, false, length, rules, refl, sym, ap, subst, ◌∙◌, arith}
use Rattle.std.proofs.lemmas.Slice.Eq.{bytes_eq-Decides}
use Rattle.std.proofs.lemmas.Str.{IsUtf8-from_ascii}
use Rattle.std.specs.Str.{IsAscii, IsUtf8}
use Rattle.fields.specs.Fields.{is_text}

pub is_same : (s w t : List ℕ) → s ≡ t → s ≡ w → is_text w t ≡ true
unfolding is_text
is_same s w t e is =
    let d = bytes_eq-Decides w t in
    let same : w ≡ t = sym is ∙ e in
    search (rules, d)

pub is_other : (s w t : List ℕ) → (s ≡ t → ⊥) → s ≡ w → is_text w t ≡ false
unfolding is_text
is_other s w t n is =
    let d = bytes_eq-Decides w t in
    let other : w ≡ t → ⊥ = λ e. n (is ∙ e) in
    search (rules, d)

-- bytes that are no UTF-8 are no text
pub is_no_text : (w t : List ℕ) → (IsUtf8 w → ⊥) → IsAscii t → is_text w t ≡ false
is_no_text w t n u = is_other w w t (λ e. n (subst IsUtf8 (sym e) (IsUtf8-from_ascii t u))) refl

-- bytes that are more than those of a text are not that text
pub is_long : (w t : List ℕ) → length t < length w → is_text w t ≡ false
is_long w t l = is_other w w t (λ e. (let same : length w ≡ length t = ap length e in absurd (omega (arith, same, l)))) refl
