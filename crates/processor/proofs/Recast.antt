-- A shelf that is tied to its history, told in other words.
use Rattle.std.proofs.Common.{◌≡◌, ℕ, List}
use Rattle.backplane.specs.Meaning.{Value}
use Rattle.history.specs.Shelf.{Host, Shelf, Slot}
use Rattle.processor.specs.Tied.{Tied}

pub recast : {v v' : Value} {slots : ℕ → Slot} {counts counts' : ℕ → ℕ} {hosts hosts' : ℕ → Host} {flags flags' : List ℕ} {s s' : Shelf}
    → v' ≡ v → counts' ≡ counts → hosts' ≡ hosts → flags' ≡ flags → s' ≡ s → Tied v slots counts hosts flags s → Tied v' slots counts' hosts' flags' s'
recast a b c d e t = rw (a, b, c, d, e) t
