-- What a caller's image holds after the packed backplane over it was switched on.
use Rattle.std.specs.Prelude.{ℕ, Bool, cond, ◌&&◌, List}
use Rattle.bits.specs.Image.{bit, bit_at, inner}
use Rattle.backplane.specs.declared.configuration.Configuration.{Configuration}
use Rattle.packed.specs.Frame.{well_formed}
use Rattle.packed.specs.Layout.{cell_of, of_output, output_at}
use Rattle.startup.specs.Started.{start_number, starts}

-- bit k is one of a fan, a supply, the alarm or the lock that is fitted
abbrev pub is_started : Configuration → ℕ → Bool
is_started c k = of_output c k && starts (output_at k)

-- bit k of the image that was `old`: those bits hold what the outputs are set to, and every other bit is as it was; all of them if the frame reads as nothing
abbrev pub started_bit : Configuration → List ℕ → List ℕ → ℕ → Bool
started_bit c frame old k =
    cond (well_formed c frame && is_started c k) (bit_at (start_number (output_at k)) (inner k (cell_of (output_at k)))) (bit old k)
