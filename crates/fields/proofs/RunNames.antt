-- A word that names no run is read as a run's number.
use Rattle.std.proofs.Common.{◌≡◌, ℕ, ◌<◌, List, length, codes, refl, rules, arith}
use Rattle.std.specs.Str.{IsUtf8}
use Rattle.digits.specs.Number.{number_read}
use Rattle.fields.specs.Fields.{run_of_number, run_read}
use Rattle.fields.proofs.Spelled.{is_long, is_no_text, is_other}

-- of a text s and the bytes w that it is
pub other_name : (s w : List ℕ) → (s ≡ codes "fans" → ⊥) → (s ≡ codes "supplies" → ⊥) → (s ≡ codes "ids" → ⊥) → (s ≡ codes "temperatures" → ⊥) → (s ≡ codes "slots" → ⊥) → (s ≡ codes "counts" → ⊥) → s ≡ w → run_read w ≡ run_of_number (number_read 255 w)
other_name s w a b c d e f is = rw (is_other s w _ a is, is_other s w _ b is, is_other s w _ c is, is_other s w _ d is, is_other s w _ e is, is_other s w _ f is) refl

pub no_name : (w : List ℕ) → (IsUtf8 w → ⊥) → run_read w ≡ run_of_number (number_read 255 w)
no_name w n = rw (is_no_text w (codes "fans") n (search rules), is_no_text w (codes "supplies") n (search rules), is_no_text w (codes "ids") n (search rules), is_no_text w (codes "temperatures") n (search rules), is_no_text w (codes "slots") n (search rules), is_no_text w (codes "counts") n (search rules)) refl

pub long_name : (w : List ℕ) → 12 < length w → run_read w ≡ run_of_number (number_read 255 w)
long_name w l = rw (is_long w (codes "fans") (omega (arith, l)), is_long w (codes "supplies") (omega (arith, l)), is_long w (codes "ids") (omega (arith, l)), is_long w (codes "temperatures") (omega (arith, l)), is_long w (codes "slots") (omega (arith, l)), is_long w (codes "counts") (omega (arith, l))) refl
