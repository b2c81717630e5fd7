-- Worked cases, together as one fact about the definitions.
use Rattle.std.specs.Prelude.{◌≡◌, ℕ, ◌≤◌, List, [], ◌∷◌}
use Rattle.history.specs.declared.event.Event.{Event}
use Rattle.history.specs.Rules.{strict, same_star, lag}
use Rattle.history.specs.Preferences.{by_number, by_star}
use Rattle.history.specs.Lawful.{by_number_lawful, by_star_lawful}
use Rattle.order.specs.History.{History, history_of}
use Rattle.order.specs.Opening.{opening, fault}
use Rattle.order.specs.Calls.{Preference, Verdict, serial, none, spent, Judges, Shows, stipulate, lifted, lift_answer, ledger}

-- W s x v is a write by session s to star x of revision v; R s x v is a read.
abbrev pub W : ℕ → ℕ → ℕ → Event
W s x v = record { kind = 1; session = s; star = x; revision = v }

abbrev pub R : ℕ → ℕ → ℕ → Event
R s x v = record { kind = 0; session = s; star = x; revision = v }

-- The lower number is preferred; the lower star is, then the lower number.
abbrev pub by_number_preference : Preference
by_number_preference = record { prefers = by_number; lawful = by_number_lawful }

abbrev pub by_star_preference : Preference
by_star_preference = record { prefers = by_star; lawful = by_star_lawful }

-- A read of a revision that another session writes after it found the starting entry.
abbrev pub one_write : List Event
one_write = R 0 3 7 ∷ R 1 3 0 ∷ W 1 3 7 ∷ []

-- Each of two sessions writes a star, and misses what the other wrote.
abbrev pub crossed : List Event
crossed = W 0 0 1 ∷ R 0 1 0 ∷ W 1 1 1 ∷ R 1 0 0 ∷ []

-- Two sessions write one star.
abbrev pub two_writes : List Event
two_writes = W 0 0 1 ∷ W 1 0 2 ∷ []

-- Two sessions read the same two revisions in opposite orders.
abbrev pub opposite : List Event
opposite = R 0 0 1 ∷ R 0 0 2 ∷ R 1 0 2 ∷ R 1 0 1 ∷ W 2 0 1 ∷ W 3 0 2 ∷ []

-- A session misses its own write.
abbrev pub own_missed : List Event
own_missed = W 0 0 1 ∷ R 0 0 0 ∷ []

-- Two writes of each of two stars, where the order of the one pair forces that of the other.
abbrev pub two_stars : List Event
two_stars = W 0 0 1 ∷ W 1 0 2 ∷ R 1 1 1 ∷ W 2 1 1 ∷ W 3 1 2 ∷ R 3 0 1 ∷ []

-- Six sessions and five stars: before has no clash at first, and has one whichever of the two writes of star 1 comes first.
abbrev pub hidden : List Event
hidden =
    R 0 2 2 ∷ W 0 1 2 ∷ R 0 0 1 ∷ W 1 0 1 ∷ W 1 1 1 ∷ W 1 2 1 ∷ W 2 3 1 ∷ W 2 4 1 ∷ W 2 2 2 ∷
    R 3 2 2 ∷ W 3 0 2 ∷ R 3 1 1 ∷ R 4 2 1 ∷ W 4 3 2 ∷ R 4 4 1 ∷ R 5 2 1 ∷ W 5 4 2 ∷ R 5 3 1 ∷ []

-- Judge answers the verdict v with t steps at every budget that allows them.
abbrev pub Judged : History → List (ℕ × ℕ) → Verdict → ℕ → Type 0
Judged h S v t = (budget : ℕ) → t ≤ budget → Judges h S budget v t

-- All of them.
pub record WorkedCases : Type 0 where
  pub one_write_serial : Judged (history_of one_write strict) [] serial 1 × Shows (history_of one_write strict) [] by_number_preference (2 ∷ 3 ∷ 1 ∷ [])
  pub empty : Judged (history_of [] strict) [] serial 1 × Shows (history_of [] strict) [] by_number_preference []
  pub crossed_strict : Judged (history_of crossed strict) [] none 1
  pub crossed_lag : Judged (history_of crossed lag) [] serial 1
  pub crossed_by_number : Shows (history_of crossed lag) [] by_number_preference (2 ∷ 3 ∷ 4 ∷ 1 ∷ [])
  pub crossed_by_star : Shows (history_of crossed lag) [] by_star_preference (4 ∷ 1 ∷ 2 ∷ 3 ∷ [])
  pub two_writes_serial : Judged (history_of two_writes strict) [] serial 2 × Shows (history_of two_writes strict) [] by_number_preference (1 ∷ 2 ∷ [])
  pub two_writes_spent : Judges (history_of two_writes strict) [] 1 spent 1
  pub stipulated : Judged (history_of two_writes strict) ((2, 1) ∷ []) serial 1 × Shows (history_of two_writes strict) ((2, 1) ∷ []) by_number_preference (2 ∷ 1 ∷ [])
  pub against : Judged (history_of two_writes strict) ((2, 1) ∷ (1, 2) ∷ []) none 1
  pub entered : ledger (history_of two_writes strict) (stipulate 2 1 ∷ stipulate 1 2 ∷ []) ≡ (2, 1) ∷ (1, 2) ∷ []
  pub lifts : lift_answer ((2, 1) ∷ (1, 2) ∷ []) ≡ lifted 1 2
  pub opposite_strict : Judged (history_of opposite strict) [] none 1
  pub opposite_star : Judged (history_of opposite same_star) [] none 1
  pub own_missed_strict : Judged (history_of own_missed strict) [] none 1
  pub own_missed_lag : Judged (history_of own_missed lag) [] none 1
  pub two_stars_serial : Judged (history_of two_stars strict) [] serial 2 × Shows (history_of two_stars strict) [] by_number_preference (1 ∷ 5 ∷ 4 ∷ 6 ∷ 2 ∷ 3 ∷ [])
  pub hidden_clash : Judged (history_of hidden strict) [] none 3
  pub written_twice : opening (W 0 0 1 ∷ W 1 0 1 ∷ []) ≡ fault 14 2
  pub never_written : opening (R 0 0 5 ∷ []) ≡ fault 15 1
