-- Halves (two a byte) and bits (eight a byte) of a byte and of an image of bytes, the lowest first, and what a write of one leaves.
use Rattle.std.specs.Prelude.{◌≡◌, ℕ, ◌*◌, ◌/◌, ◌%◌, ◌^◌, ◌<◌, Bool, false, cond, ◌≢◌, List, length, ◌==◌, slice_index}
use Rattle.bits.specs.declared.Cell.{Cell}
use Rattle.bits.specs.declared.Cell.TheVariants.{Half, Bit}

-- part j of a byte whose parts hold numbers below `size`, a power of 2
abbrev pub part_at : ℕ → ℕ → ℕ → ℕ
part_at size x j = x / size ^ j % size

abbrev pub half_at : ℕ → ℕ → ℕ
half_at x j = part_at 16 x j

abbrev pub bit_at : ℕ → ℕ → Bool
bit_at x j = part_at 2 x j == 1

-- part k of an image of bytes that have n parts each
abbrev pub part : ℕ → ℕ → List ℕ → ℕ → ℕ
part size n image k = part_at size (slice_index image (k / n)) (k % n)

abbrev pub half : List ℕ → ℕ → ℕ
half image k = part 16 2 image k

abbrev pub bit : List ℕ → ℕ → Bool
bit image k = part 2 8 image k == 1

-- the byte y is x with its part j, of n, made v and no other
abbrev pub Made : {A : Type 0} → (ℕ → ℕ → A) → ℕ → ℕ → ℕ → ℕ → A → Type 0
Made at n x y j v = (i : ℕ) → i < n → at y i ≡ cond (i == j) v (at x i)

-- `new` is `old` with its part k made v and no other part, where a byte has n parts that `read` reads
pub record Wrote {A : Type 0} (read : List ℕ → ℕ → A) (n : ℕ) (old new : List ℕ) (k : ℕ) (v : A) : Type 0 where
  pub there : read new k ≡ v
  pub others : (i : ℕ) → i ≢ k → read new i ≡ read old i
  pub bytes : (i : ℕ) → i ≢ k / n → slice_index new i ≡ slice_index old i
  pub long : length new ≡ length old

-- 1 for a bit that is on
abbrev pub one : Bool → ℕ
one b = cond b 1 0

-- what a cell of an image holds
abbrev pub held : List ℕ → Cell → ℕ
held image (Half k) = half image k
held image (Bit k) = one (bit image k)

-- the byte that holds a cell
abbrev pub byte_of : Cell → ℕ
byte_of (Half k) = k / 2
byte_of (Bit k) = k / 8

-- how many bits of that byte stand below the cell
abbrev pub shift_of : Cell → ℕ
shift_of (Half k) = 4 * (k % 2)
shift_of (Bit k) = k % 8

-- how many numbers a cell can hold
abbrev pub limit : Cell → ℕ
limit (Half k) = 16
limit (Bit k) = 2

-- bit k of an image is one of the cell's
abbrev pub within : ℕ → Cell → Bool
within k (Half h) = k / 4 == h
within k (Bit b) = k == b

-- and which bit of the cell's number it then is
abbrev pub inner : ℕ → Cell → ℕ
inner k (Half h) = k % 4
inner k (Bit b) = 0

-- two cells that share no bit
abbrev pub Apart : Cell → Cell → Type 0
Apart (Half a) (Half b) = a ≢ b
Apart (Half a) (Bit b) = a / 2 ≢ b / 8
Apart (Bit a) (Half b) = a / 8 ≢ b / 2
Apart (Bit a) (Bit b) = a ≢ b

-- `new` is `old` with v in the cell, and no other cell, bit or length altered
pub record Put (old new : List ℕ) (cell : Cell) (v : ℕ) : Type 0 where
  pub there : held new cell ≡ v
  pub others : (c : Cell) → Apart c cell → held new c ≡ held old c
  pub bits : (k : ℕ) → within k cell ≡ false → bit new k ≡ bit old k
  pub long : length new ≡ length old
