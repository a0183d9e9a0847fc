-- How the words of a line are read, one after another.
use Rattle.std.specs.Prelude.{◌≡◌, ℕ, Bool, true, false, cond, List, [], ◌∷◌, Some, None, Ok, Err, codes, Option, Result}
use Rattle.std.specs.Option.{option_map}
use Rattle.std.specs.Str.{bytes_eq}
use Rattle.digits.specs.Hex.{bytes_read}
use Rattle.digits.specs.Number.{number_read}
use Rattle.reader.specs.Numbers.{run_numbered}
use Rattle.reader.specs.declared.fault.Run.{Run}
use Rattle.reader.specs.declared.fault.Run.TheVariants.{Fans, Supplies, Ids, Temperatures, Slots, Counts}
use Rattle.fields.specs.Texts.{keyword_text}
use Rattle.fields.specs.declared.expected.Expected.{Expected}
use Rattle.fields.specs.declared.expected.Expected.TheVariants as expected
use Rattle.fields.specs.declared.expected.Keyword.{Keyword}
use Rattle.fields.specs.declared.expected.Fault.{Fault}
use Rattle.fields.specs.declared.expected.Fault.TheVariants.{Memory, Unreadable as Unread}
use Rattle.fields.specs.declared.expected.Unreadable.{Unreadable}

-- why words are no call: what was expected, and the word in its place, if there is one
pub record Bad : Type 0 where
  pub expected : Expected
  pub found : Option (List ℕ)

-- what the code says of it
abbrev pub seen : Unreadable → Bad
seen u = record { expected = u.expected; found = option_map (λ w. w.now) u.found }

-- a value with the words that are left, or why there is none
abbrev pub Parsed : Type 0 → Type 0
Parsed X = Result (X × List (List ℕ)) Bad

-- the code's answer, with the words that it left
abbrev pub parsed : {X : Type 0} → Result X Unreadable → List (List ℕ) → Parsed X
parsed (Ok x) ws = Ok (x, ws)
parsed (Err u) ws = Err (seen u)

-- the code's answer says the same, its value shown by f; only want of memory is another answer
abbrev pub Told : {X Y : Type 0} → (X → Y) → Result X Fault → List (List ℕ) → Parsed Y → Type 0
Told f (Ok x) ws p = p ≡ Ok (f x, ws)
Told f (Err Memory) ws p = Unit {0}
Told f (Err (Unread u)) ws p = p ≡ Err (seen u)

-- what a word reads as, or that something else was expected
abbrev pub from_word : {X : Type 0} → Expected → List ℕ → List (List ℕ) → Option X → Parsed X
from_word e w ws None = Err (record { expected = e; found = Some w })
from_word e w ws (Some x) = Ok (x, ws)

-- the first word, read as f reads words
abbrev pub word_as : {X : Type 0} → Expected → (List ℕ → Option X) → List (List ℕ) → Parsed X
word_as e f [] = Err (record { expected = e; found = None })
word_as e f (w ∷ ws) = from_word e w ws (f w)

-- a word is this text, in its own letters
unfoldable pub is_text : List ℕ → List ℕ → Bool
is_text w text = bytes_eq w text

-- a word that is the keyword
abbrev pub keyword_read : Keyword → List ℕ → Option (Unit {0})
keyword_read k w = cond (is_text w (keyword_text k)) (Some tt) None

-- a run's number, if it is one
abbrev pub run_of_number : Option ℕ → Option Run
run_of_number None = None
run_of_number (Some n) = Some (run_numbered n)

-- a run by its name, or by a number up to 255
abbrev pub run_read : List ℕ → Option Run
run_read w =
    cond (is_text w (codes "fans")) (Some Fans) (cond (is_text w (codes "supplies")) (Some Supplies) (cond (is_text w (codes "ids")) (Some Ids)
    (cond (is_text w (codes "temperatures")) (Some Temperatures) (cond (is_text w (codes "slots")) (Some Slots) (cond (is_text w (codes "counts")) (Some Counts)
    (run_of_number (number_read 255 w)))))))

-- no word is left
abbrev pub at_end : List (List ℕ) → Parsed (Unit {0})
at_end [] = Ok (tt, [])
at_end (w ∷ ws) = Err (record { expected = expected.End; found = Some w })

-- one reading, and then another of the words that it left
abbrev pub then_read : {X Y : Type 0} → Parsed X → (X → List (List ℕ) → Parsed Y) → Parsed Y
then_read (Ok p) k = k p.0 p.1
then_read (Err b) k = Err b

-- a keyword, which is not kept
abbrev pub named : {X : Type 0} → Keyword → (List (List ℕ) → Parsed X) → List (List ℕ) → Parsed X
named name read ws = then_read (word_as (expected.Keyword name) (keyword_read name) ws) (λ _ rest. read rest)

-- a keyword, and the bytes that follow it
abbrev pub named_bytes : Keyword → List (List ℕ) → Parsed (List ℕ)
named_bytes name ws = named name (word_as expected.Bytes bytes_read) ws

-- a reading after which no word may be left
abbrev pub whole : {X : Type 0} → Parsed X → Parsed X
whole p = then_read p (λ x ws. then_read (at_end ws) (λ _ rest. Ok (x, rest)))

-- the code's answer says the same, its value shown by f; only want of memory is another answer
abbrev pub Says : {X Y : Type 0} → (X → Y) → Result X Fault → Result Y Bad → Type 0
Says f (Ok x) p = p ≡ Ok (f x)
Says f (Err Memory) p = Unit {0}
Says f (Err (Unread u)) p = p ≡ Err (seen u)

-- whether the next word is the keyword, which is then taken
abbrev pub given : Keyword → List (List ℕ) → Bool × List (List ℕ)
given name [] = (false, [])
given name (w ∷ ws) = cond (is_text w (keyword_text name)) (true, ws) (false, w ∷ ws)
