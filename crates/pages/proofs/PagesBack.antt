-- The runs of each page, read back.
use Rattle.std.proofs.Common.{◌≡◌, ℕ, List, [], ◌∷◌, ◌++◌, length, drop, refl, ◌∙◌, append_assoc, arith, rules}
use Rattle.std.proofs.lemmas.List.{length-append}
use Rattle.std.specs.List.{flat_map}
use Rattle.parts.specs.Laid.{byte_laid, byte_reads, count_laid, count_reads, fan_laid, fan_reads, slot_laid, slot_reads, supply_laid, supply_reads}
use Rattle.parts.specs.declared.kinds.InsertionCount.{InsertionCount}
use Rattle.parts.specs.declared.kinds.Slot.{Slot}
use Rattle.parts.specs.SlotParts.{slot_back}
use Rattle.reader.specs.declared.fault.Run.TheVariants.{Fans, Supplies, Ids, Temperatures, Slots, Counts}
use Rattle.pages.specs.Heat.{heat_bytes}
use Rattle.pages.specs.Into.{laid_front}
use Rattle.pages.specs.Pages.{Status, door_byte, insertions_page, slots_page, speaker_byte, status_page}
use Rattle.pages.specs.ReadBack.{InsertionsBack, SlotsBack, StatusBack}
use Rattle.pages.proofs.Back.{begins, by_counts, run_back}
use Rattle.pages.proofs.Sizes.{long}

-- where each run of a page of six pieces and a rest stands
second_of : (a b c d e f rest : List ℕ) → a ++ b ++ c ++ d ++ e ++ f ++ rest ≡ a ++ (b ++ (c ++ (d ++ (e ++ (f ++ rest)))))
second_of a b c d e f rest = simp append_assoc

third_of : (a b c d e f rest : List ℕ) → a ++ b ++ c ++ d ++ e ++ f ++ rest ≡ (a ++ b) ++ (c ++ (d ++ (e ++ (f ++ rest))))
third_of a b c d e f rest = simp append_assoc

fifth_of : (a b c d e f rest : List ℕ) → a ++ b ++ c ++ d ++ e ++ f ++ rest ≡ (a ++ b ++ c ++ d) ++ (e ++ (f ++ rest))
fifth_of a b c d e f rest = simp append_assoc

pub status_back : (s : Status) (old new : List ℕ) → new ≡ laid_front (status_page s) old → StatusBack s old new
status_back s old new is fit config c counts k =
    let a = flat_map fan_laid s.fans in
    let b = flat_map supply_laid s.supplies in
    let i = flat_map byte_laid s.ids in
    let d = door_byte s.lock ∷ speaker_byte s.alarm ∷ [] in
    let t = flat_map byte_laid s.temperatures in
    let h = heat_bytes s.over_temperature ++ (0 ∷ []) in
    let rest = drop (length (status_page s)) old in
    let e = begins (status_page s) old new is fit in
    let l = long s in
    let ab = length-append a b in
    let abi = length-append (a ++ b) i in
    let abid = length-append (a ++ b ++ i) d in
    let two = second_of a b i d t h rest in
    let three = third_of a b i d t h rest in
    let five = fifth_of a b i d t h rest in
    record {
      fans = λ n x m g. by_counts config new Fans n c counts ∙ run_back 1 fan_laid fan_reads (λ y. refl) (λ y. search rules) new [] _ s.fans 0 0 c.fans (e ∙ two) refl refl k.fans n x m g;
      supplies = λ n x m g. by_counts config new Supplies n c counts ∙ run_back 1 supply_laid supply_reads (λ y. refl) (λ y. search rules) new a _ s.supplies _ _ c.supplies (e ∙ two) l.fans k.fans k.supplies n x m g;
      ids = λ n x m g. by_counts config new Ids n c counts ∙ run_back 1 byte_laid byte_reads (λ y. refl) (λ y. refl) new (a ++ b) _ s.ids _ _ c.slots (e ∙ three) (omega arith) (omega arith) k.slots n x m g;
      temperatures = λ n x m g. by_counts config new Temperatures n c counts ∙ run_back 1 byte_laid byte_reads (λ y. refl) (λ y. refl) new (a ++ b ++ i ++ d) _ s.temperatures _ _ c.sensors (e ∙ five) (omega arith) (omega arith) k.sensors n x m g;
    }

pub slots_back : (slots : List Slot) (old new : List ℕ) → new ≡ laid_front (slots_page slots) old → SlotsBack slots old new
slots_back slots old new is fit config c counts k n x m h =
    by_counts config new Slots n c counts ∙ run_back 4 slot_laid slot_reads (λ y. refl) slot_back new [] _ slots 0 0 c.slots (begins (slots_page slots) old new is fit ∙ append_assoc (flat_map slot_laid slots) (0 ∷ []) _) refl refl k n x m h

pub insertions_back : (counts : List InsertionCount) (old new : List ℕ) → new ≡ laid_front (insertions_page counts) old → InsertionsBack counts old new
insertions_back counts old new is fit config c is-counts k n x m h =
    by_counts config new Counts n c is-counts ∙ run_back 2 count_laid count_reads (λ y. refl) (λ y. search rules) new [] _ counts 0 0 c.slots (begins (insertions_page counts) old new is fit) refl refl k n x m h
