-- Verdicts of the code as the history knows them.
use Rattle.history.specs.Judgement as history
use Rattle.orders.specs.Decoded.{order_as}
use Rattle.verdicts.specs.declared.Verdict.{Verdict}
use Rattle.verdicts.specs.declared.Verdict.TheVariants.{Refuse, Miss, MissInquiry, MissSense, Attend, Pass, Reject, Inquire, ShowSense, ShowPage, Obey}

abbrev pub verdict_as : Verdict → history.Verdict
verdict_as (Refuse r) = history.refuse r
verdict_as Miss = history.miss
verdict_as (MissInquiry n) = history.miss_inquiry n
verdict_as (MissSense n) = history.miss_sense n
verdict_as Attend = history.attend
verdict_as Pass = history.pass
verdict_as (Reject s) = history.reject s
verdict_as (Inquire n) = history.inquire n
verdict_as (ShowSense n) = history.show_sense n
verdict_as (ShowPage b n) = history.show_page b n
verdict_as (Obey o) = history.obey (order_as o)
