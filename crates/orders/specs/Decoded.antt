-- Orders of the code as the history knows them.
use Rattle.std.specs.Prelude.{ℕ, cond, List, length, drop, Some, None, Option, nat_lt, slice_index}
use Rattle.std.specs.Borrow.{Bor}
use Rattle.enclosure.specs.declared.record.rows.Row.{Row}
use Rattle.history.specs.Orders as history
use Rattle.orders.specs.declared.order.Operation.{Operation}
use Rattle.orders.specs.declared.order.Operation.TheVariants as operation
use Rattle.orders.specs.declared.order.Order.{Order}
use Rattle.orders.specs.declared.order.Order.TheVariants as order

abbrev pub operation_as : Operation → history.Operation
operation_as operation.Idle = history.idle
operation_as operation.Prepare = history.prepare
operation_as operation.Release = history.release
operation_as operation.Identify = history.identify

abbrev pub order_as : Order → history.Order
order_as (order.Triples bs) = history.triples bs.now
order_as (order.Operate n o) = history.operate n (operation_as o)
order_as (order.Speed n x) = history.speed n x
order_as (order.Switch n on) = history.switch n on
order_as (order.Global flags) = history.global (slice_index flags 0) (slice_index flags 1) (slice_index flags 2)

-- a triple and the bytes after it
abbrev pub parted : Option (Row × Bor (List ℕ)) → Option (Row × List ℕ)
parted (Some p) = Some (p.0, p.1.now)
parted None = None

-- the first triple, where there are three bytes at least
abbrev pub first_of : List ℕ → Option (Row × List ℕ)
first_of bs = cond (nat_lt (length bs) 3) None (Some (history.triple_in bs 0, drop 3 bs))
