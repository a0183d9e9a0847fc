-- Hosts that name different parts get the same results in any order of their commands.
use Rattle.std.specs.Prelude.{◌≡◌, ℕ, ◌+◌, ◌-◌, ◌*◌, ◌/◌, Bool, true, false, cond, ◌&&◌, ◌||◌, List, [], ◌∷◌, length, drop, Some, None, All, filter, Option, ◌==◌, nat_eq, nat_lt, slice_index}
use Rattle.std.specs.List.{AllZip}
use Rattle.backplane.specs.declared.configuration.Configuration.{Configuration}
use Rattle.history.specs.Shelf.{Answer, done, ended, refused, command, Command, Part, slot, fan, supply, State, World}
use Rattle.history.specs.Cdb.{buffer_id, mode, opcode, sent, unit}
use Rattle.history.specs.Orders.{flagged, triple_in}
use Rattle.history.specs.Steps.{step}

-- commands alone, from any state: the state after them, and each with its answer, in their order

abbrev pub after : World → State → List Command → State
after w s [] = s
after w s (c ∷ cs) = after w (step w s (command c)).state cs

pub record Said : Type 0 where
  pub asked : Command
  pub answer : Answer

abbrev pub said_by : World → State → List Command → List Said
said_by w s [] = []
said_by w s (c ∷ cs) = record { asked = c; answer = (step w s (command c)).answer } ∷ said_by w (step w s (command c)).state cs

-- one host's commands, and what it is answered
abbrev pub of_host : ℕ → List Command → List Command
of_host h = filter (λ c. nat_eq c.host h)

abbrev pub heard_by : ℕ → List Said → List Said
heard_by h = filter (λ e. nat_eq e.asked.host h)

-- an order of this sort names a fitted part by its second byte, if there is one
abbrev pub second_names : ℕ → ℕ → ℕ → List ℕ → Bool
second_names sort count n bs = slice_index bs 0 == sort && (nat_lt 1 (length bs) && (nat_lt n count && n == slice_index bs 1))

-- 10h names each fitted slot whose triple is there whole and has a flag; 12h a slot, 13h a fan, 14h a supply
abbrev pub bytes_name : Configuration → List ℕ → Part → Bool
bytes_name f bs (slot n) =
    (slice_index bs 0 == 0x10 && (nat_lt n f.counts.slots && (nat_lt (3 * n + 3) (length bs) && flagged (triple_in (drop 1 bs) n))))
    || second_names 0x12 f.counts.slots n bs
bytes_name f bs (fan n) = second_names 0x13 f.counts.fans n bs
bytes_name f bs (supply n) = second_names 0x14 f.counts.supplies n bs

-- a WRITE BUFFER of 10 bytes, to logical unit 0, in mode 1
abbrev pub writes : Command → Bool
writes c = opcode c == 0x3B && (length c.cdb == 10 && (unit c == 0 && mode c == 1))

-- whether a command names a part: by the configuration and the command alone, whether or not it is accepted
abbrev pub names : Configuration → Command → Part → Bool
names f c p = writes c && bytes_name f (sent c) p

-- the order 15h, which is for the whole shelf
abbrev pub is_global : Command → Bool
is_global c = writes c && slice_index (sent c) 0 == 0x15

-- no host but h names p in the list
abbrev pub Only : World → ℕ → Part → List Command → Type 0
Only w h p = All (λ c. names w.configuration c p ≡ true → c.host ≡ h)

-- no part is named by two hosts: where a command names a part, no host but its own does
abbrev pub Apart : World → List Command → Type 0
Apart w cs = (p : Part) → All (λ c. names w.configuration c p ≡ true → Only w c.host p cs) cs

-- both lists hold each host's commands in that host's order
abbrev pub SameOrders : List Command → List Command → Type 0
SameOrders cs ds = (h : ℕ) → of_host h cs ≡ of_host h ds

-- the part whose byte k of a page is: a code of the status page, one of a slot's four bytes of the slot page
abbrev pub part_on : Configuration → ℕ → ℕ → Option Part
part_on f b k =
    cond (b == 1)
    (cond (nat_lt k f.counts.fans) (Some (fan k)) (cond (nat_lt k (f.counts.fans + f.counts.supplies)) (Some (supply (k - f.counts.fans))) None))
    (cond (b == 4) (cond (nat_lt k (4 * f.counts.slots)) (Some (slot (k / 4))) None)
    None)

-- of a reply: READ BUFFER sends pages
abbrev pub byte_part : Configuration → Command → ℕ → Option Part
byte_part f c k = cond (opcode c == 0x3C) (part_on f (buffer_id c) k) None

-- bytes that are equal but where they belong to a part that another host names
abbrev pub AlikeBytes : World → ℕ → List Command → Command → List ℕ → List ℕ → Type 0
AlikeBytes w h cs c xs ys =
    (length xs ≡ length ys) × ((k : ℕ) → ((p : Part) → byte_part w.configuration c k ≡ Some p → Only w h p cs) → slice_index xs k ≡ slice_index ys k)

-- an answer but for its bytes, and its bytes
abbrev pub heading : Answer → Answer
heading (refused n) = refused n
heading done = done
heading (ended s bs) = ended s []

abbrev pub bytes : Answer → List ℕ
bytes (refused n) = []
bytes done = []
bytes (ended s bs) = bs

-- the same command, with the same refusal or status, and bytes alike
pub record Alike (w : World) (h : ℕ) (cs : List Command) (x y : Said) : Type 0 where
  pub asked : x.asked ≡ y.asked
  pub heading : heading x.answer ≡ heading y.answer
  pub bytes : AlikeBytes w h cs x.asked (bytes x.answer) (bytes y.answer)

-- for every two lists of commands without order 15h that hold each host's commands in that host's order, where no part is named by two hosts, from any one state:
-- the shelf ends the same, and each command of each host is answered alike
pub record SameResults (w : World) (s : State) (cs ds : List Command) : Type 0 where
  pub ends : after w s cs ≡ after w s ds
  pub answers : (h : ℕ) → AllZip (Alike w h cs) (heard_by h (said_by w s cs)) (heard_by h (said_by w s ds))

abbrev pub OrdersAgree : Type 0
OrdersAgree =
    (w : World) (s : State) (cs ds : List Command) → All (λ c. is_global c ≡ false) cs → SameOrders cs ds → Apart w cs → SameResults w s cs ds
