-- What the sources of a script hold, and what the layers over them mean.
use Rattle.std.specs.Prelude.{ℕ, List, ◌++◌, map, take, filter, Option, Some, None}
use Rattle.history.specs.declared.event.Event.{Event}
use Rattle.history.specs.Layers.{of_star, shifted, common}
use Rattle.packed.specs.Reading.{season_meant, events_meant}
use Rattle.scripts.specs.declared.pile.Name.{Name}
use Rattle.scripts.specs.declared.pile.Name.TheVariants.{A, B}
use Rattle.scripts.specs.declared.pile.Shift.{Shift}
use Rattle.scripts.specs.declared.pile.Base.{Base}
use Rattle.scripts.specs.declared.pile.Pile.{Pile}
use Rattle.scripts.specs.declared.pile.Pile.TheVariants.{Offset, Pick, Join}
use Rattle.scripts.specs.declared.shelf.Held.{Held}
use Rattle.scripts.specs.declared.shelf.Held.TheVariants.{Records, Bytes}
use Rattle.scripts.specs.declared.shelf.Shelf.{Shelf}

-- The season of what is held.
abbrev pub season_held : Held → ℕ
season_held (Records season events) = season
season_held (Bytes bytes) = season_meant bytes.items

-- The events of what is held.
abbrev pub events_held : Held → List Event
events_held (Records season events) = take 65535 events.items
events_held (Bytes bytes) = events_meant bytes.items

-- What is held under a name.
abbrev pub held_under : Shelf → Name → Held
held_under s A = s.a
held_under s B = s.b

-- Events under an offset, or as they are.
abbrev pub offset_by : Option Shift → List Event → List Event
offset_by None es = es
offset_by (Some by) es = map (shifted by.sessions by.revisions) es

abbrev pub base_season : Shelf → Base → ℕ
base_season s b = season_held (held_under s b.name)

abbrev pub base_events : Shelf → Base → List Event
base_events s b = offset_by b.shift (events_held (held_under s b.name))

-- The season of a pile: of a join the season of both where they agree, and otherwise 0.
abbrev pub pile_season : Shelf → Pile → ℕ
pile_season s (Offset by b) = base_season s b
pile_season s (Pick star b) = base_season s b
pile_season s (Join b c) = common (base_season s b) (base_season s c)

-- The events of a pile.
abbrev pub pile_events : Shelf → Pile → List Event
pile_events s (Offset by b) = offset_by by (base_events s b)
pile_events s (Pick star b) = filter (of_star star) (base_events s b)
pile_events s (Join b c) = take 65535 (base_events s b ++ base_events s c)
