-- What one check of a list of events answers.
use Rattle.std.specs.Prelude.{◌≡◌, ℕ, ◌+◌, ◌<◌, ◌≤◌, Bool, List, length, Some, None, Ok, Err, Result}
use Rattle.history.specs.declared.event.Event.{Event}
use Rattle.order.specs.History.{event_at}
use Rattle.order.specs.Opening.{first_failing}
use Rattle.opening.specs.declared.fault.HistoryFault.{HistoryFault}
use Rattle.opening.specs.Faults.{fault_number, fault_place}

-- A fault of a number at the first of n events that fails a test, and none where all pass.
abbrev pub FirstFails : ℕ → (ℕ → Bool) → ℕ → Result (Unit {0}) HistoryFault → Type 0
FirstFails number passes n (Ok u) = first_failing passes n ≡ None
FirstFails number passes n (Err f) = (first_failing passes n ≡ Some (fault_place f)) × (fault_number f ≡ number)

-- The answers at the index of an event and the event are those of a test of the numbers of events.
abbrev pub AnswersAs : (ℕ → Event → Bool → Type 0) → List Event → (ℕ → Bool) → Type 0
AnswersAs answers es passes = (i : ℕ) (b : Bool) → i < length es → answers i (event_at es (i + 1)) b → passes (i + 1) ≡ b

-- What is made of the number of an event is a fault of one number, with the event as its place.
abbrev pub MakesFault : (ℕ → HistoryFault → Type 0) → ℕ → Type 0
MakesFault makes number = (n : ℕ) (f : HistoryFault) → n ≤ 256 → makes n f → (fault_place f ≡ n) × (fault_number f ≡ number)
