-- How an event is printed.
use Rattle.std.specs.Prelude.{ℕ, List, ◌++◌, codes}
use Rattle.std.specs.Fmt.{decimal}
use Rattle.history.specs.declared.event.Event.{Event}

-- The kind, the session, the star and the revision as decimal numbers, with points between them.
abbrev pub event_text : Event → List ℕ
event_text e = decimal e.kind ++ codes "." ++ decimal e.session ++ codes "." ++ decimal e.star ++ codes "." ++ decimal e.revision
