-- The value of a packed backplane tells every bit of its image.
use Rattle.std.proofs.Common.{◌≡◌, ℕ, Bool, true, false, cond, ◌&&◌, ltb, List, sym, refl, ap, ◌∙◌, ⊎_elim}
use mathlib.Core.Option.{some}
use base.Fml.{GName}
use borrow.Author.Tests.{clash}
use Rattle.std.proofs.lemmas.Bool.{and_from, and_left, and_parts, and_right, cases_Bool, cond_both, cond-false, cond-true, false_from_ne_true}
use Rattle.bits.specs.Image.{bit, bit_at, held, inner, within}
use Rattle.bits.proofs.Told.{bit_of_held}
use Rattle.backplane.specs.Meaning.{Bounded, Outputs, Value, altered, fits, has, numbers, put, same_output}
use Rattle.backplane.specs.Few.{few}
use Rattle.backplane.specs.declared.configuration.Configuration.{Configuration}
use Rattle.backplane.specs.declared.places.Output.{Output}
use Rattle.backplane.proofs.Numbered.{same_is, same_self}
use Rattle.packed.specs.Layout.{bit_of, bit_set, cell_of, fitted, is_output, of_output, other_bits, output_at, outputs_of, value_of}
use Rattle.packed.proofs.Places.{fitted_there, found}

-- the bit that an output's number gives the image
abbrev pub given_by : Outputs → ℕ → Bool
given_by f k = bit_at (f (output_at k)) (inner k (cell_of (output_at k)))

-- a bit of a fitted output is one of the output's number
pub output_bit : (c : Configuration) (image : List ℕ) (k : ℕ) → of_output c k ≡ true → bit image k ≡ given_by (outputs_of c image) k
output_bit c image k e =
    let o = output_at k in
    let p = and_parts (has c o) (within k (cell_of o)) e in
    bit_of_held image (cell_of o) k p.1 ∙ ap (λ x. bit_at x (inner k (cell_of o))) (sym (cond-true (has c o) (held image (cell_of o)) 0 p.0))

-- a bit of no output that is fitted there is none of an output
not_there : (c : Configuration) → Bounded c → (k : ℕ) → of_output c k ≡ false → is_output c k ≡ false
not_there c b k e = false_from_ne_true (is_output c k) (λ is. clash (sym e ∙ fitted_there c b k is))

-- so the outputs and the other bits tell the image
pub bits_told : (c : Configuration) → Bounded c → (old new : List ℕ) (f : Outputs) → outputs_of c new ≡ f → other_bits c new ≡ other_bits c old → (k : ℕ) → bit new k ≡ bit_of c f old k
bits_told c b old new f outs others k =
    cond_both (of_output c k) (given_by f k) (bit old k) (λ v. bit new k ≡ v)
    (λ e. output_bit c new k e ∙ ap (λ g. given_by g k) outs)
    (λ e. let no = not_there c b k e in
    sym (cond-false (is_output c k) false (bit new k) no) ∙ ap (λ g. g k) others ∙ cond-false (is_output c k) false (bit old k) no)

-- the outputs as they are give the bits as they are
pub same_bits : (c : Configuration) → Bounded c → (old : List ℕ) (k : ℕ) → bit_of c (outputs_of c old) old k ≡ bit old k
same_bits c b old k = sym (bits_told c b old old (outputs_of c old) refl refl k)

-- one output that is made n gives its cell n, and leaves every other bit
one_set : (c : Configuration) → Bounded c → (at : Output) (n : ℕ) (old : List ℕ) → fits c at n ≡ true → (k : ℕ)
    → bit_of c (λ o. cond (same_output o at) n (outputs_of c old o)) old k ≡ bit_set c at n old k
one_set c b at n old g k =
    let h = (and_parts (has c at) (ltb n (numbers at)) g).0 in
    let f : Outputs = λ o. cond (same_output o at) n (outputs_of c old o) in
    let there = bit_at n (inner k (cell_of at)) in
    ⊎_elim
    (λ w. let is = found c b at k h w in
    let hit : of_output c k ≡ true = ap (λ (o : Output). has c o && within k (cell_of o)) is ∙ and_from (has c at) (within k (cell_of at)) h w in
    cond-true (of_output c k) (given_by f k) (bit old k) hit
    ∙ ap (λ (o : Output). bit_at (f o) (inner k (cell_of o))) is
    ∙ ap (λ x. bit_at x (inner k (cell_of at))) (cond-true (same_output at at) n (outputs_of c old at) (same_self at))
    ∙ sym (cond-true (fits c at n && within k (cell_of at)) there (bit old k) (and_from (fits c at n) (within k (cell_of at)) g w)))
    (λ w. cond_both (of_output c k) (given_by f k) (bit old k) (λ v. v ≡ bit old k)
    (λ e. let ne : same_output (output_at k) at ≡ false = false_from_ne_true (same_output (output_at k) at)
    (λ s. clash (sym w ∙ ap (λ (o : Output). within k (cell_of o)) (sym (same_is (output_at k) at s)) ∙ (and_parts (has c (output_at k)) (within k (cell_of (output_at k))) e).1)) in
    ap (λ x. bit_at x (inner k (cell_of (output_at k)))) (cond-false (same_output (output_at k) at) n (outputs_of c old (output_at k)) ne) ∙ sym (output_bit c old k e))
    (λ e. refl)
    ∙ sym (cond-false (fits c at n && within k (cell_of at)) there (bit old k) (and_right (fits c at n) (within k (cell_of at)) w)))
    (cases_Bool (within k (cell_of at)))

-- what a packed backplane of the value v says of its image
pub record Ends (new : List ℕ) (lent : GName) (v : Value) : Type 0 where
  pub outputs : outputs_of v.configuration new ≡ v.outputs
  pub bits : other_bits v.configuration new ≡ v.beside.bits
  pub lender : some lent ≡ v.beside.lender

pub ends : (c : Configuration) (frame new : List ℕ) (lent : GName) (v : Value) → value_of c frame new lent ≡ v → Ends new lent v
ends c frame new lent v e =
    let s = sym (ap (λ w. w.configuration) e) in
    record {
      outputs = ap (λ x. outputs_of x new) s ∙ ap (λ w. w.outputs) e;
      bits = ap (λ x. other_bits x new) s ∙ ap (λ w. w.beside.bits) e;
      lender = ap (λ w. w.beside.lender) e;
    }

-- an output is set: what the image then is
pub after_set : (c d : Configuration) (frame last old new : List ℕ) (lent held : GName) (at : Output) (n : ℕ) → value_of d last new held ≡ put (value_of c frame old lent) at n
    → (k : ℕ) → bit new k ≡ bit_set (fitted c old) at n old k
after_set c d frame last old new lent held at n is k =
    let f = fitted c old in
    let v = value_of c frame old lent in
    ⊎_elim
    (λ g. let e = ends d last new held (altered v at n) (is ∙ cond-true (fits f at n) (altered v at n) v g) in
    bits_told f (few c _) old new _ e.outputs e.bits k ∙ one_set f (few c _) at n old g k)
    (λ g. let e = ends d last new held v (is ∙ cond-false (fits f at n) (altered v at n) v g) in
    bits_told f (few c _) old new _ e.outputs e.bits k ∙ same_bits f (few c _) old k
    ∙ sym (cond-false (fits f at n && within k (cell_of at)) _ (bit old k) (and_left (fits f at n) (within k (cell_of at)) g)))
    (cases_Bool (fits f at n))
