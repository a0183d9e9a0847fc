-- The outputs of a backplane, and how they are printed.
use Rattle.std.specs.Prelude.{ℕ, cond, List, [], ◌∷◌, ◌++◌, map, vec_items, codes, decimal}
use Rattle.std.specs.List.{flat_map, range_with_len}
use Rattle.backplane.specs.Meaning.{Outputs, Value, has}
use Rattle.backplane.specs.Rows.{place_in, row_length}
use Rattle.backplane.specs.declared.configuration.Configuration.{Configuration}
use Rattle.backplane.specs.declared.places.Output.{Output}
use Rattle.backplane.specs.declared.places.Output.TheVariants.{Alarm, Lock}
use Rattle.backplane.specs.declared.rows.Row.{Row}
use Rattle.backplane.specs.declared.rows.Row.TheVariants.{Lamps, Connections, Speeds, Supplies}
use Rattle.outputs_text.specs.declared.shown.OutputNumbers.{OutputNumbers}

-- what is seen of a backplane from outside: its configuration, and the number at each output
pub record Outside : Type 0 where
  pub configuration : Configuration
  pub outputs : Outputs

abbrev pub outside : Value → Outside
outside v = record { configuration = v.configuration; outputs = v.outputs }

-- the number at an output, 0 where it is not fitted
abbrev pub number_at : Outside → Output → ℕ
number_at v at = cond (has v.configuration at) (v.outputs at) 0

-- the numbers of the first n outputs of a row, and of all
abbrev pub numbers_to : Outside → Row → ℕ → List ℕ
numbers_to v row n = map (λ k. number_at v (place_in row k)) (range_with_len 0 n)

unfoldable pub row_shown : Outside → Row → List ℕ
row_shown v row = numbers_to v row (row_length row v.configuration)

-- the number at each output
pub record Shown : Type 0 where
  pub lamps : List ℕ
  pub connections : List ℕ
  pub speeds : List ℕ
  pub supplies : List ℕ
  pub alarm : ℕ
  pub lock : ℕ

abbrev pub outputs_shown : Outside → Shown
outputs_shown v =
    record {
      lamps = row_shown v Lamps;
      connections = row_shown v Connections;
      speeds = row_shown v Speeds;
      supplies = row_shown v Supplies;
      alarm = number_at v Alarm;
      lock = number_at v Lock;
    }

-- what the code holds of them
abbrev pub seen : OutputNumbers → Shown
seen o =
    record {
      lamps = vec_items o.lamps;
      connections = vec_items o.connections;
      speeds = vec_items o.speeds;
      supplies = vec_items o.supplies;
      alarm = o.alarm;
      lock = o.lock;
    }

-- a number after a blank
abbrev pub after_blank : ℕ → List ℕ
after_blank n = codes " " ++ decimal n

-- numbers in decimal, with one blank between each two, and `-` for none
abbrev pub numbers_text : List ℕ → List ℕ
numbers_text [] = codes "-"
numbers_text (n ∷ ns) = decimal n ++ flat_map after_blank ns

-- all outputs
abbrev pub outputs_text : Shown → List ℕ
outputs_text s =
    codes "lamps " ++ (numbers_text s.lamps ++ (codes "; joins " ++ (numbers_text s.connections ++ (codes "; speeds " ++ (numbers_text s.speeds
    ++ (codes "; supplies " ++ (numbers_text s.supplies ++ (codes "; alarm " ++ (decimal s.alarm ++ (codes "; lock " ++ decimal s.lock))))))))))
