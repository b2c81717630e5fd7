-- What opening a case makes of it.
use Rattle.std.specs.Prelude.{◌≡◌, ℕ, Bool, List, Ok, Err, Result}
use Rattle.history.specs.declared.event.Event.{Event}
use Rattle.order.specs.History.{history_of}
use Rattle.order.specs.Opening.{opening, accepted, fault}
use Rattle.order.specs.Calls.{opened}
use Rattle.opening.specs.declared.fault.HistoryFault.{HistoryFault}
use Rattle.opening.specs.Faults.{fault_number, fault_place}
use Rattle.referee.specs.Meaning.{meaning, holds}
use Rattle.referee.specs.declared.case.Case.{Case}

-- The answer is the one that the events have, a fault with its number and its place; accepted, the case has the history that
-- events and rule mean, and holds what a case just opened holds.
abbrev pub Opens : List Event → (ℕ → ℕ → ℕ → ℕ → Bool) → Case → Result (Unit {0}) HistoryFault → Type 0
Opens es keeps c (Ok u) = (opening es ≡ accepted) × (meaning c ≡ holds (history_of es keeps) opened)
Opens es keeps c (Err f) = opening es ≡ fault (fault_number f) (fault_place f)
