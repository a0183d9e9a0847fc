-- How long the runs and the pages are.
use Rattle.std.proofs.Common.{◌≡◌, ℕ, ◌+◌, ◌*◌, List, [], ◌∷◌, ◌++◌, length, refl, ◌∙◌, mul-one, arith}
use Rattle.std.proofs.lemmas.List.{length-append}
use Rattle.std.specs.List.{flat_map}
use Rattle.parts.specs.Laid.{byte_laid, count_laid, fan_laid, slot_laid, supply_laid}
use Rattle.parts.specs.declared.kinds.InsertionCount.{InsertionCount}
use Rattle.parts.specs.declared.kinds.PlainByte.{PlainByte}
use Rattle.parts.specs.declared.kinds.Slot.{Slot}
use Rattle.part_runs.proofs.Over.{joined_length}
use Rattle.pages.specs.Pages.{Status, insertions_page, slots_page, status_page, status_size}

-- a run of parts of one byte has as many bytes as parts
narrow : {X : Type 0} (laid : X → List ℕ) → ((x : X) → length (laid x) ≡ 1) → (xs : List X) → length (flat_map laid xs) ≡ length xs
narrow laid wide xs = joined_length laid 1 wide xs ∙ mul-one (length xs)

pub bytes_long : (xs : List PlainByte) → length (flat_map byte_laid xs) ≡ length xs
bytes_long xs = narrow byte_laid (λ x. refl) xs

-- a run and then plain bytes, as the test for room reckons them
pub with_end_long : {X : Type 0} (laid : X → List ℕ) (w : ℕ) → ((x : X) → length (laid x) ≡ w) → (xs : List X) (end : List PlainByte)
    → length (flat_map laid xs ++ flat_map byte_laid end) ≡ length xs * w + length end
with_end_long laid w wide xs end =
    let a = length-append (flat_map laid xs) (flat_map byte_laid end) in
    let j = joined_length laid w wide xs in
    let b = bytes_long end in omega arith

-- the runs of the status page
pub record Long (s : Status) : Type 0 where
  pub fans : length (flat_map fan_laid s.fans) ≡ length s.fans
  pub supplies : length (flat_map supply_laid s.supplies) ≡ length s.supplies
  pub ids : length (flat_map byte_laid s.ids) ≡ length s.ids
  pub temperatures : length (flat_map byte_laid s.temperatures) ≡ length s.temperatures

pub long : (s : Status) → Long s
long s =
    record { fans = narrow fan_laid (λ x. refl) s.fans; supplies = narrow supply_laid (λ x. refl) s.supplies; ids = bytes_long s.ids; temperatures = bytes_long s.temperatures }

pub status_long : (s : Status) → length (status_page s) ≡ status_size s
status_long s = let l = long s in simp length-append (omega arith)

pub slots_long : (xs : List Slot) → length (slots_page xs) ≡ 4 * length xs + 1
slots_long xs =
    let a = length-append (flat_map slot_laid xs) (0 ∷ []) in
    let j = joined_length slot_laid 4 (λ x. refl) xs in omega arith

pub insertions_long : (xs : List InsertionCount) → length (insertions_page xs) ≡ 2 * length xs
insertions_long xs = let j = joined_length count_laid 2 (λ x. refl) xs in omega arith
