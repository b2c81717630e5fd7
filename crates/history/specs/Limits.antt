-- The limits of a case and of a packed file.
use Rattle.std.specs.Prelude.{Bool, ◌&&◌, nat_le}
use Rattle.history.specs.declared.event.Event.{Event}

-- The kind is at most 1, the session at most 15, the star at most 63 and the revision at most 16,383.
abbrev pub within_limits : Event → Bool
within_limits e = nat_le e.kind 1 && (nat_le e.session 15 && (nat_le e.star 63 && nat_le e.revision 16383))
