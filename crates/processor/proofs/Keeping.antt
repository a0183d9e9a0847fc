-- What no order alters: the configuration, and what stands beside the outputs.
use Rattle.std.proofs.Common.{◌≡◌, ℕ, ◌&&◌, ltb, Some, None, Option, refl, ◌∙◌}
use Rattle.std.proofs.lemmas.Bool.{cond_both}
use Rattle.backplane.specs.Meaning.{Value, has, numbers, one, put}
use Rattle.enclosure.specs.Flags.{bit}
use Rattle.backplane.specs.declared.places.Output.{Output}
use Rattle.backplane.specs.declared.places.Output.TheVariants.{Speed, Supply, Alarm, Lock}
use Rattle.history.specs.Orders.{Order, triples, operate, speed, switch, global}
use Rattle.history.specs.Shelf.{Slot}
use Rattle.processor.specs.Settled.{value_by}

-- two values with one configuration and the same beside it
pub record Kept (u v : Value) : Type 0 where
  pub parts : u.configuration ≡ v.configuration
  pub beside : u.beside ≡ v.beside

same : (v : Value) → Kept v v
same v = record { parts = refl; beside = refl }

put_keeps : (v : Value) (at : Output) (n : ℕ) → Kept (put v at n) v
put_keeps v at n = cond_both (has v.configuration at && ltb n (numbers at)) _ _ (λ (u : Value). Kept u v) (λ _. record { parts = refl; beside = refl }) (λ _. same v)

chained : (u v w : Value) → Kept u v → Kept v w → Kept u w
chained u v w a b = record { parts = a.parts ∙ b.parts; beside = a.beside ∙ b.beside }

pub order_keeps : (o : Option Order) (slots : ℕ → Slot) (v : Value) → Kept (value_by o slots v) v
order_keeps None slots v = same v
order_keeps (Some (triples bs)) slots v = record { parts = refl; beside = refl }
order_keeps (Some (operate n o)) slots v = record { parts = refl; beside = refl }
order_keeps (Some (speed n x)) slots v = put_keeps v (Speed n) x
order_keeps (Some (switch n on)) slots v = put_keeps v (Supply n) (one on)
order_keeps (Some (global a b d)) slots v = chained _ (put v Alarm (one (bit 0 a))) v (put_keeps (put v Alarm (one (bit 0 a))) Lock (one (bit 2 b))) (put_keeps v Alarm (one (bit 0 a)))
