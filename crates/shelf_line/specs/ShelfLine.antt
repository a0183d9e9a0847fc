-- Which shelf the words after `shelf` ask for.
use Rattle.std.specs.Prelude.{ℕ, Bool, true, false, cond, List, length, replicate, Some, None, Ok, vec_items, codes, Option, ◌==◌}
use Rattle.std.specs.Option.{option_map}
use Rattle.digits.specs.Hex.{bytes_read}
use Rattle.digits.specs.Number.{number_read}
use Rattle.enclosure.specs.declared.counts.PartCounts.{PartCounts}
use Rattle.fields.specs.declared.expected.Expected.TheVariants as expected
use Rattle.fields.specs.declared.expected.Keyword.{Keyword}
use Rattle.fields.specs.declared.expected.Keyword.TheVariants as word
use Rattle.fields.specs.Fields.{Parsed, given, is_text, named, named_bytes, then_read, whole, word_as}
use Rattle.shelf_line.specs.declared.Kind.{Kind}
use Rattle.shelf_line.specs.declared.Kind.TheVariants.{Plain, Packed}
use Rattle.shelf_line.specs.declared.ShelfAsked.{ShelfAsked}
use Rattle.shelf_line.specs.declared.ShelfParts.{ShelfParts}

-- a kind of backplane, by its name
abbrev pub kind_read : List ℕ → Option Kind
kind_read w = cond (is_text w (codes "plain")) (Some Plain) (cond (is_text w (codes "packed")) (Some Packed) None)

-- `yes` or `no`
abbrev pub truth_read : List ℕ → Option Bool
truth_read w = cond (is_text w (codes "yes")) (Some true) (cond (is_text w (codes "no")) (Some false) None)

-- bytes that are n in number
abbrev pub of_length : ℕ → Option (List ℕ) → Option (List ℕ)
of_length n None = None
of_length n (Some bs) = cond (length bs == n) (Some bs) None

-- an identity is 36 bytes
abbrev pub identity_read : List ℕ → Option (List ℕ)
identity_read w = of_length 36 (bytes_read w)

-- a keyword and `yes` or `no`, a keyword and a number up to 255
unfoldable pub named_flag : Keyword → List (List ℕ) → Parsed Bool
named_flag name ws = named name (word_as expected.YesNo truth_read) ws

unfoldable pub named_count : Keyword → List (List ℕ) → Parsed ℕ
named_count name ws = named name (word_as (expected.Number 255) (number_read 255)) ws

-- the counts of the parts
unfoldable pub counts_asked : List (List ℕ) → Parsed PartCounts
counts_asked ws =
    then_read (named_count word.Fans ws) (λ fans ws1.
    then_read (named_count word.Supplies ws1) (λ supplies ws2.
    then_read (named_count word.Slots ws2) (λ slots ws3.
    then_read (named_count word.Sensors ws3) (λ sensors ws4.
    then_read (named_count word.Thermostats ws4) (λ thermostats ws5.
    Ok (record { fans = fans; supplies = supplies; slots = slots; sensors = sensors; thermostats = thermostats }, ws5))))))

-- the parts of a shelf
pub record Parts : Type 0 where
  pub counts : PartCounts
  pub lock : Bool
  pub alarm : Bool
  pub ids : List ℕ
  pub identity : List ℕ

-- what the code's parts are
abbrev pub parts_of : ShelfParts → Parts
parts_of p = record { counts = p.counts; lock = p.lock; alarm = p.alarm; ids = vec_items p.ids; identity = vec_items p.identity }

unfoldable pub parts_asked : List (List ℕ) → Parsed Parts
parts_asked ws =
    then_read (counts_asked ws) (λ counts ws1.
    then_read (named_flag word.Lock ws1) (λ lock ws2.
    then_read (named_flag word.Alarm ws2) (λ alarm ws3.
    then_read (named_bytes word.Ids ws3) (λ ids ws4.
    then_read (named word.Identity (word_as expected.Identity identity_read) ws4) (λ identity ws5.
    Ok (record { counts = counts; lock = lock; alarm = alarm; ids = ids; identity = identity }, ws5))))))

-- the bytes of the image if the keyword was there, else 19 zeros
abbrev pub image_after : Bool × List (List ℕ) → Parsed (List ℕ)
image_after (true, ws) = word_as expected.Bytes bytes_read ws
image_after (false, ws) = Ok (replicate 19 0, ws)

unfoldable pub image_asked : List (List ℕ) → Parsed (List ℕ)
image_asked ws = image_after (given word.Image ws)

-- the shelf that is asked for: its parts, and the image if it is packed
pub record Asked : Type 0 where
  pub parts : Parts
  pub image : Option (List ℕ)

-- what the code's shelf is
abbrev pub shelf_of : ShelfAsked → Asked
shelf_of s = record { parts = parts_of s.parts; image = option_map vec_items s.image }

-- a shelf of a kind with these parts
abbrev pub of_kind : Kind → Parts → List (List ℕ) → Parsed Asked
of_kind Plain parts ws = Ok (record { parts = parts; image = None }, ws)
of_kind Packed parts ws = then_read (image_asked ws) (λ image rest. Ok (record { parts = parts; image = Some image }, rest))

unfoldable pub shelf_asked : List (List ℕ) → Parsed Asked
shelf_asked ws =
    then_read (word_as expected.Kind kind_read ws) (λ kind ws1.
    then_read (parts_asked ws1) (λ parts ws2.
    of_kind kind parts ws2))

-- the same, and no word after it
unfoldable pub shelf_words : List (List ℕ) → Parsed Asked
shelf_words ws = whole (shelf_asked ws)
