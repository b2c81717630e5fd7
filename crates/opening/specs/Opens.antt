-- What checking a source answers.
use Rattle.std.specs.Prelude.{◌≡◌, List, Ok, Err, Result}
use Rattle.arrayvec.specs.ArrayVec.{ArrayVec}
use Rattle.history.specs.declared.event.Event.{Event}
use Rattle.order.specs.Opening.{opening, accepted, fault}
use Rattle.opening.specs.declared.fault.HistoryFault.{HistoryFault}
use Rattle.opening.specs.Faults.{fault_number, fault_place}

-- A copy of the events, which opening accepts, or the fault that it answers.
abbrev pub CheckedAs : List Event → Result (ArrayVec Event) HistoryFault → Type 0
CheckedAs es (Ok c) = (opening es ≡ accepted) × (c.items ≡ es)
CheckedAs es (Err f) = opening es ≡ fault (fault_number f) (fault_place f)
