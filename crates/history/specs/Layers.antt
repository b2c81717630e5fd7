-- What the layers do to events and seasons.
use Rattle.std.specs.Prelude.{ℕ, ◌+◌, min, Bool, cond, ◌==◌}
use Rattle.history.specs.declared.event.Event.{Event}

-- An event of the star x.
abbrev pub of_star : ℕ → Event → Bool
of_star x e = e.star == x

-- The event with s added to its session, up to 255, and r to its revision, up to 65,535; revision 0 stays 0.
abbrev pub shifted : ℕ → ℕ → Event → Event
shifted s r e = record {
  kind = e.kind;
  session = min 255 (e.session + s);
  star = e.star;
  revision = cond (e.revision == 0) 0 (min 65535 (e.revision + r));
}

-- The season of both where they agree, and otherwise 0.
abbrev pub common : ℕ → ℕ → ℕ
common a b = cond (a == b) a 0
