-- A part that the reader hands out stands at place 200 of its page or before, and takes four bytes at most.
use Rattle.std.proofs.Common.{◌≡◌, ℕ, ◌+◌, ◌*◌, ◌≤◌, Bool, true, false, cond, ltb, leb, List, length, drop, is_some, Ok, Err, Option, Result, sym, refl, subst, arith, rules, leb-false}
use Rattle.std.proofs.lemmas.List.{length-take}
use Rattle.enclosure.specs.Ranges.{in_range}
use Rattle.enclosure.specs.declared.counts.PartCounts.{PartCounts}
use Rattle.parts.specs.Laid.{fan_reads, supply_reads, slot_reads, count_reads, byte_reads}
use Rattle.part_runs.specs.Runs.{part_bytes}
use Rattle.part_runs.proofs.Over.{room}
use Rattle.reader.specs.declared.fault.Fault.{Fault}
use Rattle.reader.specs.declared.fault.Run.{Run}
use Rattle.reader.specs.declared.fault.Run.TheVariants.{Fans, Supplies, Ids, Temperatures, Slots, Counts, Unknown}
use Rattle.reader.specs.Reads.{Handed, and_then, counts_in, read_part, run_of, run_part}
use Rattle.reader_c.specs.Answers.{part_answer, part_number, place_answer, place_number}

pub record Small (h : Handed) : Type 0 where
  pub place : h.place ≤ 200
  pub width : length h.bytes ≤ 4

-- the part that an answer hands out, if any, is small
abbrev pub Held : Result Handed Fault → Type 0
Held (Ok h) = Small h
Held (Err e) = Unit {0}

held_if : (b : Bool) (r s : Result Handed Fault) → (b ≡ true → Held r) → (b ≡ false → Held s) → Held (cond b r s)
held_if true r s f g = f refl
held_if false r s f g = g refl

in_run : {X : Type 0} (w : ℕ) (reads : List ℕ → Option X) (page : List ℕ) (start count n : ℕ) → w ≤ 4 → start + count * w ≤ 200 → Held (run_part w reads page start count n)
in_run w reads page start count n slim ends =
    held_if (ltb (length page) (start + count * w)) _ _ (λ _. tt) (λ _.
    held_if (leb count n) _ _ (λ _. tt) (λ e.
    held_if (is_some (reads (part_bytes w page start n))) _ _ (λ _.
    let l = leb-false count n e in
    let r = room start n count w 200 l ends in
    let t = length-take w (drop (start + n * w) page) in
    record { place = omega arith; width = omega arith }) (λ _. tt)))

-- the bounds that a run's end follows from
record Few (c : PartCounts) : Type 0 where
  fans : c.fans ≤ 16
  supplies : c.supplies ≤ 8
  slots : c.slots ≤ 14
  sensors : c.sensors ≤ 15

few : (c : PartCounts) → in_range c ≡ true → Few c
few c e = record { fans = search rules; supplies = search rules; slots = search rules; sensors = search rules }

of_run : (page : List ℕ) (run : Run) (n : ℕ) (c : PartCounts) → Few c → Held (run_of page run n c)
of_run page Fans n c f = in_run 1 fan_reads page 0 c.fans n (omega arith) (omega arith)
of_run page Supplies n c f = in_run 1 supply_reads page c.fans c.supplies n (omega arith) (omega arith)
of_run page Ids n c f = in_run 1 byte_reads page (c.fans + c.supplies) c.slots n (omega arith) (omega arith)
of_run page Temperatures n c f = in_run 1 byte_reads page (c.fans + c.supplies + c.slots + 2) c.sensors n (omega arith) (omega arith)
of_run page Slots n c f = in_run 4 slot_reads page 0 c.slots n (omega arith) (omega arith)
of_run page Counts n c f = in_run 2 count_reads page 0 c.slots n (omega arith) (omega arith)
of_run page Unknown n c f = tt

-- a test before the counts are known
and_then_if : (b : Bool) (x y : Result PartCounts Fault) (k : PartCounts → Result Handed Fault) → (b ≡ true → Held (and_then x k)) → (b ≡ false → Held (and_then y k)) → Held (and_then (cond b x y) k)
and_then_if true x y k f g = f refl
and_then_if false x y k f g = g refl

pub held : (config page : List ℕ) (run : Run) (n : ℕ) → Held (read_part config page run n)
held config page run n =
    and_then_if (ltb (length config) 64) _ _ _ (λ _. tt) (λ _.
    and_then_if (in_range (counts_in config)) _ _ _ (λ e. of_run page run n (counts_in config) (few (counts_in config) e)) (λ _. tt))

pub small : (config page : List ℕ) (run : Run) (n : ℕ) (h : Handed) → Ok h ≡ read_part config page run n → Small h
small config page run n h e = subst Held (sym e) (held config page run n)

-- every part has room in a buffer of four bytes or more
pub roomy_answer : (room : ℕ) (r : Result Handed Fault) (x : ℕ) → 4 ≤ room → Held r → x ≡ part_answer room r → x ≡ place_answer r
roomy_answer room (Ok h) x l s e = let w = s.width in search rules
roomy_answer room (Err f) x l s e = e

pub roomy_number : (of : Handed → ℕ) (room : ℕ) (r : Result Handed Fault) (old x : ℕ) → 4 ≤ room → Held r → x ≡ part_number of room r old → x ≡ place_number of r old
roomy_number of room (Ok h) old x l s e = let w = s.width in search rules
roomy_number of room (Err f) old x l s e = e
