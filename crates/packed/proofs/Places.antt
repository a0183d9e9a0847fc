-- Two fitted outputs are one, or share no bit; so a write of one output leaves all else.
use Rattle.std.proofs.Common.{◌≡◌, ℕ, ◌<◌, ◌≤◌, Bool, true, false, cond, ◌&&◌, ltb, leb, List, length, MatchResult, is_ok, Ok, Err, Result, ◌⊎◌, sym, refl, ap, ◌∙◌, subst, inl, inr, ⊎_elim, arith, le-ltb, lt-ltb, leb-true}
use mathlib.Core.Option.{some}
use base.Fml.{GName}
use borrow.Author.Tests.{clash}
use Rattle.std.proofs.lemmas.Bool.{and_from, and_parts, cases_Bool, cases_eq, cond_both, cond-false, cond-true, eqb-true, false_from_ne_true, ltb-true, ne_eqb}
use Rattle.std.proofs.lemmas.Bool.Decides.{nat_tests}
use Rattle.bits.specs.declared.Cell.{Cell}
use Rattle.bits.specs.Image.{Apart, Put, bit, byte_of, held, limit, within}
use Rattle.bits.proofs.Told.{same_held}
use Rattle.backplane.specs.Configured.{kept, none}
use Rattle.backplane.specs.Few.{few}
use Rattle.backplane.specs.Meaning.{Bounded, altered, fits, has, numbers, put, same_output}
use Rattle.backplane.specs.Same.{same_value}
use Rattle.backplane.specs.declared.configuration.Configuration.{Configuration}
use Rattle.backplane.specs.declared.places.Output.{Output}
use Rattle.backplane.specs.declared.places.Output.TheVariants.{Lamp, Connection, Speed, Supply, Alarm, Lock}
use Rattle.backplane.proofs.Numbered.{same_is, same_self}
use Rattle.packed.specs.Frame.{inputs_in}
use Rattle.packed.specs.Layout.{cell_of, fitted, is_output, of_output, other_bits, output_at, outputs_of, value_of}

-- the output of a bit is found again from any of its bits
pub found : (c : Configuration) → Bounded c → (at : Output) (k : ℕ) → has c at ≡ true → within k (cell_of at) ≡ true → output_at k ≡ at
found c b (Lamp a) k h g = let b1 = b.slots in grind (arith, nat_tests)
found c b (Connection a) k h g = let b1 = b.slots in grind (arith, nat_tests)
found c b (Speed a) k h g = let b1 = b.fans in grind (arith, nat_tests)
found c b (Supply a) k h g = let b1 = b.supplies in grind (arith, nat_tests)
found c b Alarm k h g = ap output_at (eqb-true k 144 g)
found c b Lock k h g = ap output_at (eqb-true k 145 g)

-- so two fitted outputs share no bit
pub no_bit_shared : (c : Configuration) → Bounded c → (o at : Output) (k : ℕ) → same_output o at ≡ false → has c o ≡ true → has c at ≡ true → within k (cell_of o) ≡ true → within k (cell_of at) ≡ false
no_bit_shared c b o at k ne h g w =
    false_from_ne_true (within k (cell_of at))
    (λ v. clash (sym ne ∙ ap (λ (x : Output). same_output x at) (sym (found c b o k h w) ∙ found c b at k g v) ∙ same_self at))

-- a bit of an output is one of the output that is found there
pub fitted_there : (c : Configuration) → Bounded c → (k : ℕ) → is_output c k ≡ true → of_output c k ≡ true
fitted_there c b k e = let b1 = b.slots in let b2 = b.fans in let b3 = b.supplies in grind (arith, nat_tests)

inside : (c : Configuration) (at : Output) (k : ℕ) → has c at ≡ true → within k (cell_of at) ≡ true → is_output c k ≡ true
inside c (Lamp a) k h g = grind (arith, nat_tests)
inside c (Connection a) k h g = grind (arith, nat_tests)
inside c (Speed a) k h g = grind (arith, nat_tests)
inside c (Supply a) k h g = grind (arith, nat_tests)
inside c Alarm k h g = grind (arith, nat_tests)
inside c Lock k h g = grind (arith, nat_tests)

-- one cell is written: one output changes
pub outputs_after : (c : Configuration) → Bounded c → (old new : List ℕ) (at : Output) (n : ℕ) → has c at ≡ true → Put old new (cell_of at) n
    → (o : Output) → outputs_of c new o ≡ cond (same_output o at) n (outputs_of c old o)
outputs_after c b old new at n g w o =
    cond_both (same_output o at) n (outputs_of c old o) (λ v. outputs_of c new o ≡ v)
    (λ e. ap (outputs_of c new) (same_is o at e) ∙ ap (λ t. cond t (held new (cell_of at)) 0) g ∙ w.there)
    (λ ne. cond_both (has c o) (held new (cell_of o)) 0 (λ v. v ≡ outputs_of c old o)
    (λ h. same_held new old (cell_of o) (λ k e. w.bits k (no_bit_shared c b o at k ne h g e)) ∙ sym (cond-true (has c o) (held old (cell_of o)) 0 h))
    (λ h. sym (cond-false (has c o) (held old (cell_of o)) 0 h)))

-- and no bit of another thing does
pub bits_after : (c : Configuration) (old new : List ℕ) (at : Output) (n : ℕ) → has c at ≡ true → Put old new (cell_of at) n
    → other_bits c new ≡ other_bits c old
bits_after c old new at n g w =
    let each : (k : ℕ) → other_bits c new k ≡ other_bits c old k =
    λ k. ⊎_elim
    (λ e. ap (λ t. cond t false (bit new k)) (inside c at k g e) ∙ sym (ap (λ t. cond t false (bit old k)) (inside c at k g e)))
    (λ e. ap (cond (is_output c k) false) (w.bits k e))
    (cases_Bool (within k (cell_of at)))
    in λ i k. each k i

-- a configuration that is kept depends on the length of the image alone
same_fit : (c : Configuration) (old new : List ℕ) → length new ≡ length old → fitted c new ≡ fitted c old
same_fit c old new long = ap (λ n. kept c (leb 19 n)) long

-- the whole backplane
pub value_after : (c : Configuration) (frame old new : List ℕ) (lender : GName) (at : Output) (n : ℕ) → fits (fitted c old) at n ≡ true → Put old new (cell_of at) n
    → value_of c frame new lender ≡ put (value_of c frame old lender) at n
value_after c frame old new lender at n g w =
    let f = fitted c old in
    let h = (and_parts (has f at) (ltb n (numbers at)) g).0 in
    let s = same_fit c old new w.long in
    same_value (value_of c frame new lender) (altered (value_of c frame old lender) at n) s
    (ap (λ x. inputs_in x frame) s)
    (λ o. ap (λ x. outputs_of x new o) s ∙ outputs_after f (few c (leb 19 (length old))) old new at n h w o)
    (ap (λ b. record { lender = some lender; bits = b }) (ap (λ x. other_bits x new) s ∙ bits_after f old new at n h w))
    ∙ sym (cond-true (fits f at n) (altered (value_of c frame old lender) at n) (value_of c frame old lender) g)

-- the image has room for the cell of an output that is fitted, and the cell for its numbers
in_image : (c : Configuration) → Bounded c → (image : List ℕ) (at : Output) (n : ℕ) → 19 ≤ length image → fits c at n ≡ true → (byte_of (cell_of at) < length image) × (n < limit (cell_of at))
in_image c b image (Lamp k) n long g = let b1 = b.slots in (grind (arith, nat_tests), grind (arith, nat_tests))
in_image c b image (Connection k) n long g = let b1 = b.slots in (grind (arith, nat_tests), grind (arith, nat_tests))
in_image c b image (Speed k) n long g = let b1 = b.fans in (grind (arith, nat_tests), grind (arith, nat_tests))
in_image c b image (Supply k) n long g = let b1 = b.supplies in (grind (arith, nat_tests), grind (arith, nat_tests))
in_image c b image Alarm n long g = (omega arith, grind (arith, nat_tests))
in_image c b image Lock n long g = (omega arith, grind (arith, nat_tests))

no_less : (k : ℕ) → ltb k 0 ≡ false
no_less k = le-ltb k 0 (omega arith)

-- without room for the outputs, nothing fits
no_fit : (at : Output) (n : ℕ) → fits none at n ≡ false
no_fit (Lamp k) n = ap (λ t. t && ltb n 8) (no_less k)
no_fit (Connection k) n = ap (λ t. t && ltb n 2) (no_less k)
no_fit (Speed k) n = ap (λ t. t && ltb n 5) (no_less k)
no_fit (Supply k) n = ap (λ t. t && ltb n 2) (no_less k)
no_fit Alarm n = refl
no_fit Lock n = refl

roomy : (c : Configuration) (room : Bool) (at : Output) (n : ℕ) → fits (kept c room) at n ≡ true → room ≡ true
roomy c true at n g = refl
roomy c false at n g = absurd (clash (sym (no_fit at n) ∙ g))

pub cell_fits : (c : Configuration) (image : List ℕ) (at : Output) (n : ℕ) → fits (fitted c image) at n ≡ true → (byte_of (cell_of at) < length image) × (n < limit (cell_of at))
cell_fits c image at n g =
    in_image (fitted c image) (few c (leb 19 (length image))) image at n (leb-true 19 (length image) (roomy c (leb 19 (length image)) at n g)) g

-- a write that fits is done, and what it leaves
pub put_done : {A E : Type 0} (old : List ℕ) (at cell : Cell) (n : ℕ) (r : Result A E) → at ≡ cell → is_ok r ≡ (ltb (byte_of at) (length old) && ltb n (limit at)) → (byte_of cell < length old) × (n < limit cell) → is_ok r ≡ true
put_done old at cell n r is says fit =
    says ∙ ap (λ (x : Cell). ltb (byte_of x) (length old) && ltb n (limit x)) is
    ∙ and_from (ltb (byte_of cell) (length old)) (ltb n (limit cell)) (lt-ltb (byte_of cell) (length old) fit.0) (lt-ltb n (limit cell) fit.1)

pub put_there : {A E : Type 0} (old new : List ℕ) (at cell : Cell) (n : ℕ) (r : Result A E) → at ≡ cell → is_ok r ≡ (ltb (byte_of at) (length old) && ltb n (limit at)) → (byte_of cell < length old) × (n < limit cell)
    → MatchResult r (λ _. Put old new at n) (λ _. new ≡ old) → Put old new cell n
put_there old new at cell n (Ok _) is says fit done = let P : Cell → Type 0 = λ x. Put old new x n in subst P is done
put_there {A = A} old new at cell n (Err e) is says fit done = absurd (clash (put_done {A = A} old at cell n (Err e) is says fit))

-- two fitted outputs are one, or their cells are apart: a half and a bit stand in different bytes
pub which : (c : Configuration) → Bounded c → (o at : Output)
    → (o ≡ at) ⊎ ((same_output o at ≡ false) × (has c o ≡ true → has c at ≡ true → Apart (cell_of o) (cell_of at)))
which c b (Lamp j) (Lamp k) = ⊎_elim (λ e. inl (ap Lamp e)) (λ ne. inr (ne_eqb j k ne, λ h g e. ne (omega arith))) (cases_eq j k)
which c b (Lamp j) (Connection k) = inr (refl, λ h g. let b1 = b.slots in let b2 = b.fans in let b3 = b.supplies in let p = ltb-true j c.counts.slots h in let q = ltb-true k c.counts.slots g in λ e. omega arith)
which c b (Lamp j) (Speed k) = inr (refl, λ h g. let b1 = b.slots in let b2 = b.fans in let b3 = b.supplies in let p = ltb-true j c.counts.slots h in let q = ltb-true k c.counts.fans g in λ e. omega arith)
which c b (Lamp j) (Supply k) = inr (refl, λ h g. let b1 = b.slots in let b2 = b.fans in let b3 = b.supplies in let p = ltb-true j c.counts.slots h in let q = ltb-true k c.counts.supplies g in λ e. omega arith)
which c b (Lamp j) Alarm = inr (refl, λ h g. let b1 = b.slots in let b2 = b.fans in let b3 = b.supplies in let p = ltb-true j c.counts.slots h in λ e. omega arith)
which c b (Lamp j) Lock = inr (refl, λ h g. let b1 = b.slots in let b2 = b.fans in let b3 = b.supplies in let p = ltb-true j c.counts.slots h in λ e. omega arith)
which c b (Connection j) (Lamp k) = inr (refl, λ h g. let b1 = b.slots in let b2 = b.fans in let b3 = b.supplies in let p = ltb-true j c.counts.slots h in let q = ltb-true k c.counts.slots g in λ e. omega arith)
which c b (Connection j) (Connection k) = ⊎_elim (λ e. inl (ap Connection e)) (λ ne. inr (ne_eqb j k ne, λ h g e. ne (omega arith))) (cases_eq j k)
which c b (Connection j) (Speed k) = inr (refl, λ h g. let b1 = b.slots in let b2 = b.fans in let b3 = b.supplies in let p = ltb-true j c.counts.slots h in let q = ltb-true k c.counts.fans g in λ e. omega arith)
which c b (Connection j) (Supply k) = inr (refl, λ h g. let b1 = b.slots in let b2 = b.fans in let b3 = b.supplies in let p = ltb-true j c.counts.slots h in let q = ltb-true k c.counts.supplies g in λ e. omega arith)
which c b (Connection j) Alarm = inr (refl, λ h g. let b1 = b.slots in let b2 = b.fans in let b3 = b.supplies in let p = ltb-true j c.counts.slots h in λ e. omega arith)
which c b (Connection j) Lock = inr (refl, λ h g. let b1 = b.slots in let b2 = b.fans in let b3 = b.supplies in let p = ltb-true j c.counts.slots h in λ e. omega arith)
which c b (Speed j) (Lamp k) = inr (refl, λ h g. let b1 = b.slots in let b2 = b.fans in let b3 = b.supplies in let p = ltb-true j c.counts.fans h in let q = ltb-true k c.counts.slots g in λ e. omega arith)
which c b (Speed j) (Connection k) = inr (refl, λ h g. let b1 = b.slots in let b2 = b.fans in let b3 = b.supplies in let p = ltb-true j c.counts.fans h in let q = ltb-true k c.counts.slots g in λ e. omega arith)
which c b (Speed j) (Speed k) = ⊎_elim (λ e. inl (ap Speed e)) (λ ne. inr (ne_eqb j k ne, λ h g e. ne (omega arith))) (cases_eq j k)
which c b (Speed j) (Supply k) = inr (refl, λ h g. let b1 = b.slots in let b2 = b.fans in let b3 = b.supplies in let p = ltb-true j c.counts.fans h in let q = ltb-true k c.counts.supplies g in λ e. omega arith)
which c b (Speed j) Alarm = inr (refl, λ h g. let b1 = b.slots in let b2 = b.fans in let b3 = b.supplies in let p = ltb-true j c.counts.fans h in λ e. omega arith)
which c b (Speed j) Lock = inr (refl, λ h g. let b1 = b.slots in let b2 = b.fans in let b3 = b.supplies in let p = ltb-true j c.counts.fans h in λ e. omega arith)
which c b (Supply j) (Lamp k) = inr (refl, λ h g. let b1 = b.slots in let b2 = b.fans in let b3 = b.supplies in let p = ltb-true j c.counts.supplies h in let q = ltb-true k c.counts.slots g in λ e. omega arith)
which c b (Supply j) (Connection k) = inr (refl, λ h g. let b1 = b.slots in let b2 = b.fans in let b3 = b.supplies in let p = ltb-true j c.counts.supplies h in let q = ltb-true k c.counts.slots g in λ e. omega arith)
which c b (Supply j) (Speed k) = inr (refl, λ h g. let b1 = b.slots in let b2 = b.fans in let b3 = b.supplies in let p = ltb-true j c.counts.supplies h in let q = ltb-true k c.counts.fans g in λ e. omega arith)
which c b (Supply j) (Supply k) = ⊎_elim (λ e. inl (ap Supply e)) (λ ne. inr (ne_eqb j k ne, λ h g e. ne (omega arith))) (cases_eq j k)
which c b (Supply j) Alarm = inr (refl, λ h g. let b1 = b.slots in let b2 = b.fans in let b3 = b.supplies in let p = ltb-true j c.counts.supplies h in λ e. omega arith)
which c b (Supply j) Lock = inr (refl, λ h g. let b1 = b.slots in let b2 = b.fans in let b3 = b.supplies in let p = ltb-true j c.counts.supplies h in λ e. omega arith)
which c b Alarm (Lamp k) = inr (refl, λ h g. let b1 = b.slots in let b2 = b.fans in let b3 = b.supplies in let q = ltb-true k c.counts.slots g in λ e. omega arith)
which c b Alarm (Connection k) = inr (refl, λ h g. let b1 = b.slots in let b2 = b.fans in let b3 = b.supplies in let q = ltb-true k c.counts.slots g in λ e. omega arith)
which c b Alarm (Speed k) = inr (refl, λ h g. let b1 = b.slots in let b2 = b.fans in let b3 = b.supplies in let q = ltb-true k c.counts.fans g in λ e. omega arith)
which c b Alarm (Supply k) = inr (refl, λ h g. let b1 = b.slots in let b2 = b.fans in let b3 = b.supplies in let q = ltb-true k c.counts.supplies g in λ e. omega arith)
which c b Alarm Alarm = inl refl
which c b Alarm Lock = inr (refl, λ h g. let b1 = b.slots in let b2 = b.fans in let b3 = b.supplies in λ e. omega arith)
which c b Lock (Lamp k) = inr (refl, λ h g. let b1 = b.slots in let b2 = b.fans in let b3 = b.supplies in let q = ltb-true k c.counts.slots g in λ e. omega arith)
which c b Lock (Connection k) = inr (refl, λ h g. let b1 = b.slots in let b2 = b.fans in let b3 = b.supplies in let q = ltb-true k c.counts.slots g in λ e. omega arith)
which c b Lock (Speed k) = inr (refl, λ h g. let b1 = b.slots in let b2 = b.fans in let b3 = b.supplies in let q = ltb-true k c.counts.fans g in λ e. omega arith)
which c b Lock (Supply k) = inr (refl, λ h g. let b1 = b.slots in let b2 = b.fans in let b3 = b.supplies in let q = ltb-true k c.counts.supplies g in λ e. omega arith)
which c b Lock Alarm = inr (refl, λ h g. let b1 = b.slots in let b2 = b.fans in let b3 = b.supplies in λ e. omega arith)
which c b Lock Lock = inl refl
