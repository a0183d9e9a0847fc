-- From the uncut pages of a shelf the reader gets the very parts of the shelf.
use Rattle.std.proofs.Common.{◌≡◌, ℕ, zero, suc, ◌+◌, ◌*◌, ◌<◌, Bool, true, false, cond, ◌&&◌, T, eqb, List, [], ◌∷◌, ◌++◌, length, get_or, Ok, Err, Result, sym, refl, ap, ◌∙◌, subst, arith}
use Rattle.std.proofs.lemmas.List.{append-nil, drop_all, flat_map_more, take_all}
use Rattle.std.proofs.lemmas.Bool.{eqb-false, le-leb, lt-ltb}
use Rattle.std.specs.List.{flat_map}
use Rattle.backplane.specs.Meaning.{Bounded}
use Rattle.backplane.specs.declared.configuration.Configuration.{Configuration}
use Rattle.enclosure.specs.Conditions.{fan_of, supply_of}
use Rattle.enclosure.specs.Flags.{rebuild_stopped, rebuilding, sound}
use Rattle.enclosure.specs.Ranges.{in_range}
use Rattle.enclosure.specs.Slots.{state_byte}
use Rattle.enclosure.specs.declared.codes.FanCode.{FanCode}
use Rattle.enclosure.specs.declared.codes.SupplyCode.{SupplyCode}
use Rattle.enclosure.specs.declared.counts.PartCounts.{PartCounts}
use Rattle.parts.specs.Laid.{byte_laid, count_laid, fan_laid, slot_laid, supply_laid}
use Rattle.parts.specs.declared.kinds.InsertionCount.{InsertionCount}
use Rattle.parts.specs.declared.kinds.PlainByte.{PlainByte}
use Rattle.parts.specs.declared.kinds.Slot.{Slot as Shown}
use Rattle.pages.specs.Into.{laid_front}
use Rattle.pages.specs.Pages.{configuration_page, slots_page}
use Rattle.pages.specs.ReadBack.{HandedOut, StatusPartsRead}
use Rattle.pages.proofs.PagesBack.{insertions_back, slots_back, status_back}
use Rattle.reader.specs.Reads.{counts_of, read_part}
use Rattle.reader.specs.declared.fault.Fault.{Fault}
use Rattle.reader.specs.declared.fault.Fault.TheVariants as fault
use Rattle.reader.specs.declared.fault.Run.{Run}
use Rattle.reader.specs.declared.fault.Run.TheVariants.{Fans, Supplies, Ids, Temperatures, Slots, Counts}
use Rattle.history.specs.Shelf.{Call, slot, supply, Shelf, Slot, powered, World}
use Rattle.history.specs.Kept.{Fine}
use Rattle.history.specs.ReadBack.{handed, page, PagesReadBack, PartsOf}
use Rattle.history.specs.Replies.{listed, page_bytes, slot_bytes, status_of}
use Rattle.history.specs.Steps.{Entry, history}
use Rattle.history.proofs.Along.{Along, along}
use Rattle.history.proofs.Listed.{listed_at, listed_length}
use Rattle.history.proofs.Rows.{records_fine}

-- a shelf that a list of calls powers on has a slot
module _ (w : World) where
  abbrev HasSlot : Shelf → List Entry → Type 0
  HasSlot s log = eqb w.configuration.counts.slots 0 ≡ false

  has_slot : Along w HasSlot
  has_slot =
      record {
        starts = λ log counts frame q z e. z;
        samples = λ s log frame q e h. h;
        resets = λ s log h. h;
        commands = λ s log c h. h;
        refusals = λ s log c r h. h;
      }

  pub some_slot : (calls : List Call) (s : Shelf) → (history w calls).state ≡ powered s → 0 < w.configuration.counts.slots
  some_slot calls s e = at_least w.configuration.counts.slots (eqb-false _ _ (along w HasSlot has_slot calls s e))
    where
      at_least : (n : ℕ) → (n ≡ 0 → ⊥) → 0 < n
      at_least zero h = absurd (h refl)
      at_least (suc n) h = omega arith

-- the reader takes its counts from the configuration page
in_bounds : (f : Configuration) → Bounded f → 0 < f.counts.slots → in_range f.counts ≡ true
in_bounds f b l =
    rw (
      le-leb f.counts.fans 16 b.fans,
      le-leb f.counts.supplies 8 b.supplies,
      le-leb 1 f.counts.slots l,
      le-leb f.counts.slots 14 b.slots,
      le-leb f.counts.sensors 15 b.sensors,
      le-leb f.counts.thermostats 15 b.thermostats,
    )

page_counts : (f : Configuration) → Bounded f → 0 < f.counts.slots → counts_of (configuration_page f.counts f.lock f.alarm) ≡ Ok f.counts
page_counts f b l = ap {A = Bool} {B = Result PartCounts Fault} (λ t. cond t (Ok f.counts) (Err fault.Configuration)) (in_bounds f b l)

-- a page fills a buffer of its length
fills : (bs : List ℕ) → bs ≡ laid_front bs bs
fills bs = rw (le-leb (length bs) (length bs) (omega arith), drop_all (length bs) bs (omega arith), append-nil bs)

-- a run of the values at 0 to n - 1
from_run : {X : Type 0} (laid : X → List ℕ) (width : ℕ) (config bytes : List ℕ) (r : Run) (start : ℕ) (f : ℕ → X) (count : ℕ) → HandedOut laid width config bytes r start (listed f count)
    → (n place : ℕ) → n < count → start + n * width ≡ place → read_part config bytes r n ≡ handed place (laid (f n))
from_run laid width config bytes r start f count h n place l e =
    h n (f n) (omega (arith, listed_length f count)) (sym (listed_at f count n (f n) l)) ∙ ap (λ (p : ℕ). handed p (laid (f n))) e

-- runs whose parts are laid alike
run_alike : {X Y : Type 0} (lay : X → List ℕ) (put : Y → List ℕ) (f : ℕ → X) (g : ℕ → Y) → ((k : ℕ) → lay (f k) ≡ put (g k)) → (n : ℕ) → flat_map lay (listed f n) ≡ flat_map put (listed g n)
run_alike lay put f g e zero = refl
run_alike lay put f g e (suc n) =
    let a = flat_map_more lay [] (listed f n) (f n) in
    let b = flat_map_more put [] (listed g n) (g n) in
    let h = run_alike lay put f g e n in
    let k = e n in cc

-- a slot whose record is fine, as the page of slots shows it
sound_row : (flags more : ℕ) → (rebuilding flags && rebuild_stopped more) ≡ false → more < 4 → T (sound flags more)
sound_row flags more e l = let s : sound flags more ≡ true = rw (lt-ltb more 4 l, e) in subst T (sym s) tt

abbrev shown : (s : Slot) → Fine s.row → Shown
shown s g =
    record { «record» = record { flags = s.row.flags; more = s.row.more; sound = sound_row s.row.flags s.row.more g.rebuild g.more }; state = s.state }

shown_alike : (s : Slot) (g : Fine s.row) → slot_laid (shown s g) ≡ slot_bytes s
shown_alike s g = ap (λ (b : ℕ). s.row.flags ∷ s.row.more ∷ b ∷ state_byte s.state ∷ []) (sym g.last)

module _ (f : Configuration) (s : Shelf) (bounded : Bounded f) (some : 0 < f.counts.slots) (fine : (n : ℕ) → Fine (s.parts (slot n)).row) where
  abbrev page_at : ℕ → List ℕ
  page_at b = page_bytes f b s.parts s.rest

  -- part k of each run
  abbrev fan_shown : ℕ → FanCode
  fan_shown k = fan_of (s.rest.inputs.fan k)

  abbrev supply_shown : ℕ → SupplyCode
  supply_shown k = supply_of (s.rest.inputs.supply k) (s.parts (supply k))

  abbrev id_shown : ℕ → PlainByte
  id_shown k = record { 0 = get_or f.ids k 0 }

  abbrev heat_shown : ℕ → PlainByte
  heat_shown k = record { 0 = s.rest.inputs.temperature k }

  abbrev insertion_shown : ℕ → InsertionCount
  insertion_shown k = record { 0 = s.rest.counts k }

  abbrev slot_shown : ℕ → Shown
  slot_shown k = shown (s.parts (slot k)) (fine k)

  fans_long : length (listed fan_shown f.counts.fans) ≡ f.counts.fans
  fans_long = listed_length fan_shown f.counts.fans

  supplies_long : length (listed supply_shown f.counts.supplies) ≡ f.counts.supplies
  supplies_long = listed_length supply_shown f.counts.supplies

  ids_long : length (listed id_shown f.counts.slots) ≡ f.counts.slots
  ids_long = listed_length id_shown f.counts.slots

  counts_there : counts_of (page_at 0) ≡ Ok f.counts
  counts_there = page_counts f bounded some

  status_runs : StatusPartsRead (status_of f s.parts s.rest) (page_at 0) (page_at 1)
  status_runs =
      status_back (status_of f s.parts s.rest) (page_at 1) (page_at 1) (fills (page_at 1)) (omega arith) (page_at 0) f.counts counts_there
      (record { fans = sym fans_long; supplies = sym supplies_long; slots = sym ids_long; sensors = sym (listed_length heat_shown f.counts.sensors) })

  insertion_run : HandedOut count_laid 2 (page_at 0) (page_at 3) Counts 0 (listed insertion_shown f.counts.slots)
  insertion_run =
      insertions_back (listed insertion_shown f.counts.slots) (page_at 3) (page_at 3) (fills (page_at 3)) (omega arith)
      (page_at 0) f.counts counts_there (sym (listed_length insertion_shown f.counts.slots))

  slots_alike : slots_page (listed slot_shown f.counts.slots) ≡ page_at 4
  slots_alike =
      ap (λ (bs : List ℕ). bs ++ (0 ∷ []))
      (run_alike slot_laid slot_bytes slot_shown (λ k. s.parts (slot k)) (λ k. shown_alike (s.parts (slot k)) (fine k)) f.counts.slots)

  slot_run : HandedOut slot_laid 4 (page_at 0) (page_at 4) Slots 0 (listed slot_shown f.counts.slots)
  slot_run =
      slots_back (listed slot_shown f.counts.slots) (page_at 4) (page_at 4)
      (fills (page_at 4) ∙ sym (ap (λ (bs : List ℕ). laid_front bs (page_at 4)) slots_alike)) (omega (arith, ap length slots_alike))
      (page_at 0) f.counts counts_there (sym (listed_length slot_shown f.counts.slots))

  whole_pages : PartsOf f s (page_at 0) (page_at 1) (page_at 3) (page_at 4)
  whole_pages =
      record {
        fans = λ n l. from_run fan_laid 1 (page_at 0) (page_at 1) Fans _ fan_shown f.counts.fans status_runs.fans n _ l (omega arith);
        supplies = λ n l. from_run supply_laid 1 (page_at 0) (page_at 1) Supplies _ supply_shown f.counts.supplies status_runs.supplies n _ l (omega (arith, fans_long));
        ids = λ n l. from_run byte_laid 1 (page_at 0) (page_at 1) Ids _ id_shown f.counts.slots status_runs.ids n _ l (omega (arith, fans_long, supplies_long));
        temperatures = λ n l. from_run byte_laid 1 (page_at 0) (page_at 1) Temperatures _ heat_shown f.counts.sensors status_runs.temperatures n _ l (omega (arith, fans_long, supplies_long, ids_long));
        slots = λ n l.
            from_run slot_laid 4 (page_at 0) (page_at 4) Slots 0 slot_shown f.counts.slots slot_run n (n * 4) l (omega arith)
            ∙ ap (λ (bs : List ℕ). handed (n * 4) bs) (shown_alike (s.parts (slot n)) (fine n));
        counts = λ n l. from_run count_laid 2 (page_at 0) (page_at 3) Counts 0 insertion_shown f.counts.slots insertion_run n _ l (omega arith);
      }

-- a page that is cut at its length or past it is the page
uncut : (f : Configuration) (s : Shelf) (p₀ p₁ p₃ p₄ q₀ q₁ q₃ q₄ : List ℕ) → q₀ ≡ p₀ → q₁ ≡ p₁ → q₃ ≡ p₃ → q₄ ≡ p₄ → PartsOf f s p₀ p₁ p₃ p₄ → PartsOf f s q₀ q₁ q₃ q₄
uncut f s p₀ p₁ p₃ p₄ q₀ q₁ q₃ q₄ a b c d x =
    subst (λ (q : List ℕ). PartsOf f s q₀ q₁ q₃ q) (sym d)
    (subst (λ (q : List ℕ). PartsOf f s q₀ q₁ q p₄) (sym c)
    (subst (λ (q : List ℕ). PartsOf f s q₀ q p₃ p₄) (sym b)
    (subst (λ (q : List ℕ). PartsOf f s q p₁ p₃ p₄) (sym a) x)))

pub pages_read_back : PagesReadBack
pages_read_back w calls s bounded e a b c d la lb lc ld =
    uncut w.configuration s _ _ _ _ _ _ _ _ (take_all a (page w s 0) la) (take_all b (page w s 1) lb) (take_all c (page w s 3) lc) (take_all d (page w s 4) ld)
    (whole_pages w.configuration s bounded (some_slot w calls s e) (λ n. records_fine w calls s n e))
