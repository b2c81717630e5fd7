-- The law over runs, on the call that makes them.
use Rattle.std.specs.Prelude.{◌≡◌, ℕ, ◌<◌, Bool, List, length, Ok, Err, Result, slice_index_or}
use Rattle.history.specs.declared.event.Event.{Event}
use Rattle.order.specs.History.{history_of}
use Rattle.order.specs.Opening.{opening, accepted, fault}
use Rattle.order.specs.Calls.{Preference}
use Rattle.order.specs.Calls.{Held, LawOverRuns, Leaves}
use Rattle.opening.specs.declared.fault.HistoryFault.{HistoryFault}
use Rattle.opening.specs.Faults.{fault_number, fault_place}
use Rattle.referee.specs.Meaning.{meaning, holds}
use Rattle.referee.specs.Entries.{turns_of, Stays}
use Rattle.referee.specs.declared.entry.Entry.{Entry}
use Rattle.referee.specs.declared.case.Case.{Case}

-- A run from the case o with the entries es to the case p with the entries es': the answers keep the law over runs, at every
-- place of the list; calls, preferences and the buffers that no show wrote to stay; and the case ends with the history, the
-- ledger of all the calls, and the verdict that stands after them.
pub record Ran {P B : Type 0} (means : P → Preference) (numbers : B → List ℕ) (events : List Event) (keeps : ℕ → ℕ → ℕ → ℕ → Bool)
    (es : List (Entry P B)) (p : Case) (es' : List (Entry P B)) : Type 0 where
  pub opens : opening events ≡ accepted
  pub law : LawOverRuns (history_of events keeps) (turns_of means numbers es es')
  pub long : length es' ≡ length es
  pub stays : (k : ℕ) (d : Entry P B) → k < length es → Stays (slice_index_or es k d) (slice_index_or es' k d)
  pub held : Held
  pub leaves : Leaves (history_of events keeps) (turns_of means numbers es es') held
  pub ends : meaning p ≡ holds (history_of events keeps) held

-- What run promises: it opens, and the run is lawful; or opening refuses with its fault, and case and entries stay.
abbrev pub RunLaw : {P B : Type 0} → (P → Preference) → (B → List ℕ) → List Event → (ℕ → ℕ → ℕ → ℕ → Bool) →
    Case → List (Entry P B) → Case → List (Entry P B) → Result (Unit {0}) HistoryFault → Type 0
RunLaw means numbers events keeps o es p es' (Ok u) = Ran means numbers events keeps es p es'
RunLaw means numbers events keeps o es p es' (Err f) = (opening events ≡ fault (fault_number f) (fault_place f)) × (p ≡ o) × (es' ≡ es)
