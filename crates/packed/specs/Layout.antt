-- The packed file: fields without gaps, 25 bits for the header and 25 for each event.
use Rattle.std.specs.Prelude.{ℕ, ◌+◌, ◌*◌, ◌/◌, ◌^◌, List, ◌∷◌, map, length}
use Rattle.history.specs.declared.event.Event.{Event}
use Rattle.packed.specs.Bits.{bit_in, grouped}

-- The header as a number of 25 bits: version (4 bits, 1), season (12), count n (9).
abbrev pub head_word : ℕ → ℕ → ℕ
head_word season n = (1 * 2 ^ 12 + season) * 2 ^ 9 + n

-- An event as a number of 25 bits: kind (1 bit), session (4), star (6), revision (14).
abbrev pub event_word : Event → ℕ
event_word e = ((e.kind * 2 ^ 4 + e.session) * 2 ^ 6 + e.star) * 2 ^ 14 + e.revision

-- The header and the events as numbers of 25 bits.
abbrev pub words : ℕ → List Event → List ℕ
words season es = head_word season (length es) ∷ map event_word es

-- The bytes that a file of n events takes: its bits, rounded up to bytes.
abbrev pub size : ℕ → ℕ
size n = (25 * (n + 1) + 7) / 8

-- The file of a season and events: the bits of their numbers, in bytes, with zeros to fill the last one.
abbrev pub encode : ℕ → List Event → List ℕ
encode season es = grouped (bit_in 25 (words season es)) 8 (size (length es))
