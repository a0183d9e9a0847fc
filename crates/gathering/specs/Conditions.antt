-- The condition that a number at an input is.
use Rattle.std.specs.Prelude.{ℕ, Some, None, Option}
use Rattle.std.specs.Option.{unwrap_or}
use Rattle.enclosure.specs.Conditions.{condition_numbered}
use Rattle.enclosure.specs.declared.conditions.Condition.{Condition}
use Rattle.enclosure.specs.declared.conditions.Condition.TheVariants.{Unknown}

-- unknown where there is none, or it has no such number
abbrev pub condition_at : Option ℕ → Condition
condition_at None = Unknown
condition_at (Some n) = unwrap_or (condition_numbered n) Unknown
