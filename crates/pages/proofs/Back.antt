-- From a page in which a run was laid the reader gets the very part, for every kind of part.
use Rattle.std.proofs.Common.{◌≡◌, ℕ, ◌+◌, ◌*◌, ◌<◌, ◌≤◌, true, List, ◌++◌, length, get_or, drop, is_some, Some, Ok, Option, Result, ap, ◌∙◌, arith}
use Rattle.std.proofs.lemmas.List.{drop_at, drop-drop, length-append}
use Rattle.std.proofs.lemmas.Bool.{le-leb, le-ltb, lt-leb}
use Rattle.std.specs.List.{flat_map}
use Rattle.enclosure.specs.declared.counts.PartCounts.{PartCounts}
use Rattle.part_runs.specs.Runs.{part_bytes}
use Rattle.part_runs.proofs.Over.{joined_at, joined_length}
use Rattle.reader.specs.Reads.{Handed, and_then, counts_of, read_part, run_of, run_part}
use Rattle.reader.specs.declared.fault.Fault.{Fault}
use Rattle.reader.specs.declared.fault.Run.{Run}
use Rattle.pages.specs.Into.{laid_front}

-- the one lemma for every kind: laid as so many bytes, and read back
pub run_back : {X : Type 0} (w : ℕ) (laid : X → List ℕ) (reads : List ℕ → Option X) → ((x : X) → length (laid x) ≡ w) → ((x : X) → reads (laid x) ≡ Some x)
    → (page front rest : List ℕ) (xs : List X) (at start count : ℕ) → page ≡ front ++ (flat_map laid xs ++ rest) → length front ≡ start → at ≡ start → count ≡ length xs
    → (n : ℕ) (x : X) → n < length xs → x ≡ get_or xs n x → run_part w reads page at count n ≡ Ok (record { place = start + n * w; bytes = laid x })
run_back w laid reads wide back page front rest xs at start count e f q m n x l is =
    let d = drop_at front (flat_map laid xs ++ rest) start f in
    let dd = drop-drop (n * w) start page in
    let j = joined_at laid w wide xs n x rest l is in
    let b : part_bytes w page start n ≡ laid x = cc in
    let a1 = length-append front (flat_map laid xs ++ rest) in
    let a2 = length-append (flat_map laid xs) rest in
    let a3 = joined_length laid w wide xs in
    let a4 = ap length e in
    let a5 : count * w ≡ length xs * w = ap (λ k. k * w) m in
    let t1 = le-ltb (length page) (start + count * w) (omega arith) in
    let t2 = lt-leb count n (omega arith) in
    let t3 : is_some (reads (part_bytes w page start n)) ≡ true = ap (λ bs. is_some (reads bs)) b ∙ ap is_some (back x) in
    rw (q, t1, t2, t3) (ap {A = List ℕ} {B = Result Handed Fault} (λ bs. Ok (record { place = start + n * w; bytes = bs })) b)

-- the reader answers by the counts of the configuration page
pub by_counts : (config page : List ℕ) (run : Run) (n : ℕ) (c : PartCounts) → counts_of config ≡ Ok c → read_part config page run n ≡ run_of page run n c
by_counts config page run n c e = ap {A = Result PartCounts Fault} (λ o. and_then o (run_of page run n)) e

-- a buffer that holds the page begins with it
pub begins : (page old new : List ℕ) → new ≡ laid_front page old → length page ≤ length old → new ≡ page ++ drop (length page) old
begins page old new e l = rw (le-leb (length page) (length old) l) at e
