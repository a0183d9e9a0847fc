-- Two values are one where their parts are.
use Rattle.std.specs.Prelude.{◌≡◌, ℕ}
use Rattle.backplane.specs.Meaning.{Inputs, Value}
use Rattle.backplane.specs.declared.places.Output.{Output}

pub same_inputs : (a b : Inputs) → ((k : ℕ) → a.present k ≡ b.present k) → ((k : ℕ) → a.fan k ≡ b.fan k) → ((k : ℕ) → a.supply k ≡ b.supply k)
    → ((k : ℕ) → a.temperature k ≡ b.temperature k) → ((k : ℕ) → a.hot k ≡ b.hot k) → a ≡ b
same_inputs a b p f s t h = λ i. record { present = λ k. p k i; fan = λ k. f k i; supply = λ k. s k i; temperature = λ k. t k i; hot = λ k. h k i }

pub same_value : (v w : Value) → v.configuration ≡ w.configuration → v.inputs ≡ w.inputs → ((o : Output) → v.outputs o ≡ w.outputs o) → v.beside ≡ w.beside → v ≡ w
same_value v w c a o b = λ i. record { configuration = c i; inputs = a i; outputs = λ x. o x i; beside = b i }
