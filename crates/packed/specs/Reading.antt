-- What bytes say, when they are refused, and what they mean.
use Rattle.std.specs.Prelude.{◌≡◌, ℕ, zero, suc, ◌+◌, ◌-◌, ◌*◌, ◌<◌, true, cond, not, List, [], map, length, is_ok, Some, None, Ok, Err, Option, Result, ◌==◌, nat_lt, slice_index}
use Rattle.std.specs.List.{range_with_len}
use Rattle.history.specs.declared.event.Event.{Event}
use Rattle.packed.specs.declared.header.Header.{Header}
use Rattle.packed.specs.declared.fault.FileFault.{FileFault}
use Rattle.packed.specs.declared.fault.FileFault.TheVariants.{Short, Version, Count, Length, Fill}
use Rattle.packed.specs.Bits.{bit_in, field}
use Rattle.packed.specs.Layout.{size}

-- The version is in bits 0 to 3.
abbrev pub version_in : List ℕ → ℕ
version_in bs = field (bit_in 8 bs) 0 4

-- The season is in bits 4 to 15.
abbrev pub season_in : List ℕ → ℕ
season_in bs = field (bit_in 8 bs) 4 12

-- The count is in bits 16 to 24.
abbrev pub count_in : List ℕ → ℕ
count_in bs = field (bit_in 8 bs) 16 9

-- The event with a number, from 1: kind, session, star and revision from bit 25 times the number on.
abbrev pub event_in : List ℕ → ℕ → Event
event_in bs number = record {
  kind = field (bit_in 8 bs) (number * 25) 1;
  session = field (bit_in 8 bs) (number * 25 + 1) 4;
  star = field (bit_in 8 bs) (number * 25 + 5) 6;
  revision = field (bit_in 8 bs) (number * 25 + 11) 14;
}

-- The events, as many as the count says.
abbrev pub events_in : List ℕ → List Event
events_in bs = map (λ i. event_in bs (i + 1)) (range_with_len 0 (count_in bs))

-- A field where the bytes hold it whole, and else the fault that there are too few.
abbrev pub field_read : List ℕ → ℕ → ℕ → Result ℕ FileFault
field_read bs b w = cond (nat_lt (8 * length bs) (b + w)) (Err (Short (length bs))) (Ok (field (bit_in 8 bs) b w))

-- The first bit of 1 among the k bits from bit b on.
abbrev pub first_one : (ℕ → ℕ) → ℕ → ℕ → Option ℕ
first_one f b zero = None
first_one f b (suc k) = cond (f b == 1) (Some b) (first_one f (b + 1) k)

-- The header where no fill bit is 1, and else the fault at the first that is.
abbrev pub filled : Header → Option ℕ → Result Header FileFault
filled h None = Ok h
filled h (Some bit) = Err (Fill bit)

-- The header, or the first of the five faults, in their order.
abbrev pub checked : List ℕ → Result Header FileFault
checked bs =
    cond (nat_lt (length bs) 4) (Err (Short (length bs)))
    (cond (not (version_in bs == 1)) (Err Version)
    (cond (nat_lt 256 (count_in bs)) (Err Count)
    (cond (not (length bs == size (count_in bs))) (Err (Length (length bs)))
    (filled (record { season = season_in bs; count = count_in bs })
    (first_one (bit_in 8 bs) (25 * (count_in bs + 1)) (8 * length bs - 25 * (count_in bs + 1)))))))

-- The season after a check: the header's, and 0 where the bytes are refused.
abbrev pub season_by : Result Header FileFault → ℕ
season_by (Ok h) = h.season
season_by (Err f) = 0

-- The events after a check: those in the bytes, and none where they are refused.
abbrev pub events_by : List ℕ → Result Header FileFault → List Event
events_by bs (Ok h) = events_in bs
events_by bs (Err f) = []

-- The season that bytes mean.
abbrev pub season_meant : List ℕ → ℕ
season_meant bs = season_by (checked bs)

-- The events that bytes mean.
abbrev pub events_meant : List ℕ → List Event
events_meant bs = events_by bs (checked bs)

-- Bytes that are not refused.
abbrev pub Accepted : List ℕ → Type 0
Accepted bs = is_ok (checked bs) ≡ true

-- Accepted bytes that mean a season and events.
pub record Means (bs : List ℕ) (season : ℕ) (es : List Event) : Type 0 where
  pub accepted : Accepted bs
  pub season_is : season_meant bs ≡ season
  pub events_are : events_meant bs ≡ es

-- A list of numbers that are bytes.
abbrev pub Bytes : List ℕ → Type 0
Bytes bs = (j : ℕ) → slice_index bs j < 256
