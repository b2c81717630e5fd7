-- Lists of events, numbered from 1.
use Rattle.std.specs.Prelude.{ℕ, zero, suc, List, None, Option}
use Rattle.std.specs.List.{slice_get}
use Rattle.history.specs.declared.event.Event.{Event}

-- The event with a number: the first has number 1, and there is none with number 0 or above the count.
abbrev pub numbered : List Event → ℕ → Option Event
numbered es zero = None
numbered es (suc k) = slice_get es k
