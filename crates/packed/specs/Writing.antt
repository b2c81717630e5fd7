-- What can be written, when writing is refused, and what it leaves in the buffer.
use Rattle.std.specs.Prelude.{◌≡◌, ℕ, ◌≤◌, Bool, true, cond, not, List, ◌++◌, length, drop, Ok, Err, Result, nat_lt}
use Rattle.std.specs.List.{list_all}
use Rattle.history.specs.declared.event.Event.{Event}
use Rattle.history.specs.Limits.{within_limits}
use Rattle.packed.specs.declared.fault.WriteRefusal.{WriteRefusal}
use Rattle.packed.specs.declared.fault.WriteRefusal.TheVariants.{Long, Outside, Season, Buffer}
use Rattle.packed.specs.Layout.{size, encode}

-- Every event is within the limits.
abbrev pub all_fitting : List Event → Bool
all_fitting = list_all within_limits

-- A season and events that a file has room for.
pub record Writable (season : ℕ) (es : List Event) : Type 0 where
  pub few : length es ≤ 256
  pub fit : all_fitting es ≡ true
  pub low : season ≤ 4095

-- What writing into a buffer of `room` bytes answers: the bytes used, or the first of the four refusals, in their order.
abbrev pub writing : ℕ → List Event → ℕ → Result ℕ WriteRefusal
writing season es room =
    cond (nat_lt 256 (length es)) (Err Long)
    (cond (not (all_fitting es)) (Err Outside)
    (cond (nat_lt 4095 season) (Err Season)
    (cond (nat_lt room (size (length es))) (Err Buffer)
    (Ok (size (length es))))))

-- The buffer with the file in front, and behind it the bytes that were there.
abbrev pub overlaid : ℕ → List Event → List ℕ → List ℕ
overlaid season es buffer = encode season es ++ drop (size (length es)) buffer

-- What the buffer holds after an answer: the file in front, and where writing is refused what it held before.
abbrev pub written : ℕ → List Event → List ℕ → Result ℕ WriteRefusal → List ℕ
written season es buffer (Ok used) = overlaid season es buffer
written season es buffer (Err why) = buffer
