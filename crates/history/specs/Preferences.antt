-- What a preference is, and the three that are there.
use Rattle.std.specs.Prelude.{◌≡◌, ℕ, Bool, true, false, cond, not, List, Some, ◌==◌, ◌≢◌, nat_lt}
use Rattle.history.specs.declared.event.Event.{Event}
use Rattle.history.specs.Lists.{numbered}

-- The laws of a preference among the events of one list: none is preferred to itself, of two different ones
-- exactly one is preferred to the other, and what is preferred to a preferred one is preferred.
pub record Lawful (prefers : ℕ → Event → ℕ → Event → Bool) (es : List Event) : Type 0 where
  pub never : (m : ℕ) (x : Event) → numbered es m ≡ Some x → prefers m x m x ≡ false
  pub one : (m n : ℕ) (x y : Event) → numbered es m ≡ Some x → numbered es n ≡ Some y → (m ≢ n) → prefers m x n y ≡ not (prefers n y m x)
  pub chain : (m n o : ℕ) (x y z : Event) → numbered es m ≡ Some x → numbered es n ≡ Some y → numbered es o ≡ Some z
      → prefers m x n y ≡ true → prefers n y o z ≡ true → prefers m x o z ≡ true

-- By number: the lower.
abbrev pub by_number : ℕ → Event → ℕ → Event → Bool
by_number m x n y = nat_lt m n

-- By a key of the events: the lower, and where the keys are equal the lower number.
abbrev pub by_key : (Event → ℕ) → ℕ → Event → ℕ → Event → Bool
by_key key m x n y = cond (key x == key y) (nat_lt m n) (nat_lt (key x) (key y))

-- By star, then number.
abbrev pub by_star : ℕ → Event → ℕ → Event → Bool
by_star = by_key (λ e. e.star)

-- By session, then number.
abbrev pub by_session : ℕ → Event → ℕ → Event → Bool
by_session = by_key (λ e. e.session)
