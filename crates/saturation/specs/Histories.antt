-- The history that events and rows of kept pairs mean.
use Rattle.std.specs.Prelude.{ℕ, ◌-◌, Bool, ◌&&◌, List, length, nat_le, nat_lt}
use Rattle.history.specs.declared.event.Event.{Event}
use Rattle.order.specs.History.{History}
use Rattle.sets.specs.Rows.{in_rows}
use Rattle.sets.specs.declared.set.EventSet.{EventSet}

-- The rows keep the pair of numbers (a, b): both are numbers of n events, a is the lower, and the row of the first has the second.
abbrev pub kept_in : {W : ℕ} → ℕ → List (EventSet W) → ℕ → ℕ → Bool
kept_in n rows a b = nat_le 1 a && (nat_lt a b && (nat_le b n && in_rows rows (a - 1) (b - 1)))

-- The history of events, with the pairs that the rows keep.
abbrev pub history_from : {W : ℕ} → List Event → List (EventSet W) → History
history_from es rows = record { events = es; kept = kept_in (length es) rows }
