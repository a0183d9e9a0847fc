-- What a command returns, and what its buffer then holds, by its answer.
use Rattle.std.specs.Prelude.{ℕ, Bool, true, false, List, ◌++◌, length, drop, None, Ok, Err, Result}
use Rattle.answers.specs.declared.refusal.Refusal.{Refusal}
use Rattle.answers.specs.declared.status.Status.TheVariants.{Good}
use Rattle.backplane.specs.Meaning.{Value}
use Rattle.history.specs.Judgement.{Verdict, refuse, miss, miss_inquiry, miss_sense, attend, pass, reject, inquire, show_sense, show_page, obey}
use Rattle.history.specs.Replies.{reply}
use Rattle.history.specs.Shelf as history
use Rattle.shelf_pages.specs.Held.{parts_of, rest_of}
use Rattle.table.specs.Table.{counts_of, slots_of}
use Rattle.table.specs.declared.memory.Memory.{Memory}
use Rattle.replies.specs.declared.reply.Ended.{Ended}

-- a refusal, or the status with the number of reply bytes
abbrev pub result_of : history.Answer → Result Ended Refusal
result_of (history.refused r) = Err r
result_of history.done = Ok (record { status = Good; len = 0 })
result_of (history.ended s bs) = Ok (record { status = s; len = length bs })

-- the reply bytes, and then what was there
abbrev pub laid : history.Answer → List ℕ → List ℕ
laid (history.refused r) old = old
laid history.done old = old
laid (history.ended s bs) old = bs ++ drop (length bs) old

-- the answer to a command that comes to a verdict, by what a shelf holds
abbrev pub answer_to : Value → (ℕ → history.Slot) → (ℕ → ℕ) → List ℕ → List ℕ → Verdict → history.Host → history.Answer
answer_to v slots counts flags identity verdict host =
    reply (record { configuration = v.configuration; reading = λ _. None; identity = identity }) verdict host (parts_of v slots) (rest_of v counts flags)

-- the same by what a shelf remembers
abbrev pub answer_in : Value → Memory → List ℕ → Verdict → history.Host → history.Answer
answer_in v m identity verdict host = answer_to v (slots_of m.table) (counts_of m.table) m.flags identity verdict host

-- a command is refused
abbrev pub is_refusal : Verdict → Bool
is_refusal (refuse r) = true
is_refusal miss = false
is_refusal (miss_inquiry n) = false
is_refusal (miss_sense n) = false
is_refusal attend = false
is_refusal pass = false
is_refusal (reject x) = false
is_refusal (inquire n) = false
is_refusal (show_sense n) = false
is_refusal (show_page b n) = false
is_refusal (obey o) = false
