-- Rows of slots that are records, and entries written.
use Rattle.std.proofs.Common.{◌≡◌, ℕ, ◌<◌, Bool, true, false, T, eqb, List, length, set, IsOk, sym, refl, ap, ◌∙◌, subst}
use Rattle.std.proofs.lemmas.Bool.{both_ways, cond_both, eq-eqb, eqb-true, lt-ltb}
use Rattle.std.specs.Option.{ok_or}
use Rattle.enclosure.specs.Flags.{sound}
use Rattle.enclosure.specs.Records.{record_if, record_of}
use Rattle.enclosure.specs.declared.record.rows.Row.{Row}
use Rattle.history.specs.Kept.{Fine}
use Rattle.history.specs.Orders.{Operation, both_rebuild, flagged, operated}
use Rattle.history.specs.Shelf as history
use Rattle.history.proofs.Rows.{fine_stored, operated_row}
use Rattle.history.proofs.Tables.{set_at}
use Rattle.table.specs.Entries.{AllRecords, entry_at, vacant}
use Rattle.table.specs.Rows.{replaced, slot_as}
use Rattle.table.specs.Table.{slots_of}
use Rattle.table.specs.declared.rows.Entry.{Entry}
use Rattle.table.specs.declared.rows.Table.{Table}
use Rattle.table.specs.declared.slot.Slot.{Slot}

-- every row of a table is a record
pub fine_in : (t : Table) (k : ℕ) → Fine (slots_of t k).row
unfolding slots_of AllRecords
fine_in t k = t.records k

pub fine_told : (s : Slot) (h : history.Slot) → slot_as s ≡ h → Fine h.row → Fine s.row
fine_told s h e fine = subst (λ (x : history.Slot). Fine x.row) (sym e) fine

pub fine_operated : (o : Operation) (s : history.Slot) → Fine s.row → Fine (operated o s).row
fine_operated o s fine = subst Fine (sym (operated_row o s)) fine

pub fine_replaced : (t : Row) (s : history.Slot) → Fine s.row → Fine (replaced t s).row
fine_replaced t s fine =
    cond_both (flagged t) _ _ (λ (x : history.Slot). Fine x.row) (λ _. cond_both (both_rebuild t) _ _ (λ (x : history.Slot). Fine x.row) (λ _. fine) (fine_stored t)) (λ _. fine)

-- one entry written
module _ (es : List Entry) (k : ℕ) (e : Entry) (l : k < length es) where
  pub records_set : AllRecords es → Fine e.slot.row → AllRecords (set es k e)
  unfolding AllRecords
  records_set all fine = λ j.
      subst Fine (sym (set_at (λ x. x.slot.row) es k j e vacant l)) (cond_both (eqb j k) _ _ Fine (λ _. fine) (λ _. all j))

  -- what the write leaves of the entry is as it was everywhere
  pub kept_by_set : {X : Type 0} (f : Entry → X) → f e ≡ f (entry_at es k) → (j : ℕ) → f (entry_at (set es k e) j) ≡ f (entry_at es j)
  kept_by_set {X} f same j =
      set_at f es k j e vacant l
      ∙ cond_both (eqb j k) _ _ (λ (x : X). x ≡ f (entry_at es j)) (λ q. same ∙ ap (λ i. f (entry_at es i)) (sym (eqb-true j k q))) (λ _. refl)

-- a fine row makes a record
made : {E : Type 0} (flags more : ℕ) (k : Bool) (f : T k → T (sound flags more)) (e : E) → k ≡ true → IsOk (ok_or (record_if flags more k f) e)
made flags more true f e is = refl
made flags more false f e is = absurd (both_ways false refl is)

pub record_made_of : {E : Type 0} (t : Row) (e : E) → Fine t → IsOk (ok_or (record_of t) e)
record_made_of t e fine =
    let s : sound t.flags t.more ≡ true = rw (lt-ltb t.more 4 fine.more, fine.rebuild) in
    rw (eq-eqb t.last 0 fine.last) (made t.flags t.more (sound t.flags t.more) (λ x. x) e s)
