-- What an iterator over the events of a source has still to give.
use Rattle.std.specs.Prelude.{◌-◌, List, take, drop}
use Rattle.history.specs.declared.event.Event.{Event}
use Rattle.history.specs.declared.events.Events.{Events}
use Rattle.history.specs.declared.events.Counted.{Counted}

-- The events after those that came.
abbrev pub events_left : {S : Type 0} → (S → List Event) → Events S → List Event
events_left events it = drop it.given (events it.source.now)

-- The events after those that came, as many as there still are to come.
abbrev pub counted_left : {S : Type 0} → (S → List Event) → Counted S → List Event
counted_left events it = take (it.count - it.given) (drop it.given (events it.source.now))
