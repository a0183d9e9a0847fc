-- From the value of a packed backplane that was switched on to the bits of its image.
use Rattle.std.proofs.Common.{◌≡◌, ℕ, cond, ◌&&◌, List, Some, None, sym, ap, ◌∙◌, ⊎_elim}
use mathlib.Core.Option.{some}
use base.Fml.{GName}
use Rattle.std.proofs.lemmas.Bool.{and_from, and_left, and_parts, and_right, cases_Bool, cond_both, cond-false, cond-true}
use Rattle.bits.specs.Image.{bit, bit_at, inner, within}
use Rattle.backplane.specs.Meaning.{Bounded, Outputs, has, reads_well, sampled}
use Rattle.backplane.specs.declared.configuration.Configuration.{Configuration}
use Rattle.packed.specs.Frame.{inputs_in, reading, well_formed}
use Rattle.packed.specs.Layout.{bit_of, cell_of, of_output, made_over, output_at, outputs_of, value_of}
use Rattle.packed.proofs.Whole.{bits_told, ends, given_by, output_bit, same_bits}
use Rattle.startup.specs.Started.{start_number, started, starts, switched_on}
use Rattle.startup_packed.specs.Bits.{is_started, started_bit}

-- the outputs that are started, and the bits that they give
abbrev outputs_started : Configuration → List ℕ → Outputs
outputs_started c old o = cond (has c o && starts o) (start_number o) (outputs_of c old o)

bits_started : (c : Configuration) (old : List ℕ) (k : ℕ) → bit_of c (outputs_started c old) old k ≡ cond (is_started c k) (given_by start_number k) (bit old k)
bits_started c old k =
    let o = output_at k in
    let f = outputs_started c old in
    let is = given_by start_number k in
    cond_both (of_output c k) (given_by f k) (bit old k) (λ v. v ≡ cond (is_started c k) is (bit old k))
    (λ e. let h = (and_parts (has c o) (within k (cell_of o)) e).0 in
    cond_both (is_started c k) is (bit old k) (λ v. given_by f k ≡ v)
    (λ s. ap (λ x. bit_at x (inner k (cell_of o))) (cond-true (has c o && starts o) (start_number o) (outputs_of c old o) (and_from (has c o) (starts o) h (and_parts (of_output c k) (starts o) s).1)))
    (λ s. ap (λ x. bit_at x (inner k (cell_of o))) (cond-false (has c o && starts o) (start_number o) (outputs_of c old o) (and_right (has c o) (starts o) (ap (λ t. t && starts o) (sym e) ∙ s)))
    ∙ sym (output_bit c old k e)))
    (λ e. sym (cond-false (is_started c k) is (bit old k) (and_left (of_output c k) (starts o) e)))

-- what is then known of the image
pub record Told (c : Configuration) (frame old new : List ℕ) (lent held : GName) : Type 0 where
  pub bits : (k : ℕ) → bit new k ≡ started_bit c frame old k
  pub lender : some held ≡ some lent

pub told : (c d : Configuration) → Bounded c → (frame last old new : List ℕ) (lent held : GName) → value_of d last new held ≡ switched_on (made_over c old lent) (reading c frame) → Told c frame old new lent held
told c d few frame last old new lent held is =
    let v = made_over c old lent in
    ⊎_elim
    (λ w. let some_read = cond-true (well_formed c frame) (Some (inputs_in c frame)) None w in
    let e = ends d last new held (started (sampled v (Some (inputs_in c frame)))) (is ∙ ap (switched_on v) some_read) in
    record {
      bits = λ k. bits_told c few old new (outputs_started c old) e.outputs e.bits k ∙ bits_started c old k
          ∙ ap (λ t. cond (t && is_started c k) (given_by start_number k) (bit old k)) (sym w);
      lender = e.lender;
    })
    (λ w. let none_read = cond-false (well_formed c frame) (Some (inputs_in c frame)) None w in
    let e = ends d last new held v (is ∙ ap (switched_on v) none_read) in
    record {
      bits = λ k. bits_told c few old new (outputs_of c old) e.outputs e.bits k ∙ same_bits c few old k
          ∙ ap (λ t. cond (t && is_started c k) (given_by start_number k) (bit old k)) (sym w);
      lender = e.lender;
    })
    (cases_Bool (well_formed c frame))

-- an equation at y is one at an equal x
pub at_same : {A B : Type 0} (f : A → B) (y x : A) (z : B) → x ≡ y → f y ≡ z → f x ≡ z
at_same f y x z e p = ap f e ∙ p

-- a frame reads as something exactly if it is well-formed
pub reads : (c : Configuration) (frame : List ℕ) → reads_well (reading c frame) ≡ well_formed c frame
reads c frame =
    ⊎_elim
    (λ w. ap reads_well (cond-true (well_formed c frame) (Some (inputs_in c frame)) None w) ∙ sym w)
    (λ w. ap reads_well (cond-false (well_formed c frame) (Some (inputs_in c frame)) None w) ∙ sym w)
    (cases_Bool (well_formed c frame))
