-- Histories, and what is said of their events by number.
use Rattle.std.specs.Prelude.{◌≡◌, ℕ, ◌-◌, ◌<◌, ◌≤◌, Bool, ◌&&◌, T, ◌≢◌, List, length, ◌==◌, nat_le, nat_lt, slice_index_or}
use mathlib.Core.List.{Memᴰ}
use Rattle.history.specs.declared.event.Event.{Event}

-- A history is a list of events, numbered from 1, with the pairs of numbers whose order is kept.
pub record History : Type 0 where
  pub events : List Event
  pub kept : ℕ → ℕ → Bool

-- The event with a number from 1 to the count; what this gives for any other number means nothing.
abbrev pub event_at : List Event → ℕ → Event
event_at es i = slice_index_or es (i - 1) (record { kind = 0; session = 0; star = 0; revision = 0 })

-- A rule keeps the pair of numbers (a, b): both are numbers of events, a is the lower, the two events are of one
-- session, and the rule answers kept for kind and star of the first and kind and star of the second.
abbrev pub kept_by : (ℕ → ℕ → ℕ → ℕ → Bool) → List Event → ℕ → ℕ → Bool
kept_by keeps es a b =
    let x = event_at es a in
    let y = event_at es b in
    nat_le 1 a && (nat_lt a b && (nat_le b (length es) && (x.session == y.session && keeps x.kind x.star y.kind y.star)))

-- The history that a list of events and a rule mean.
abbrev pub history_of : List Event → (ℕ → ℕ → ℕ → ℕ → Bool) → History
history_of es keeps = record { events = es; kept = kept_by keeps es }

-- How many events there are.
abbrev pub count : History → ℕ
count h = length h.events

-- The event with a number.
abbrev pub at : History → ℕ → Event
at h i = event_at h.events i

-- Its star.
abbrev pub star_of : History → ℕ → ℕ
star_of h i = (at h i).star

-- Its revision.
abbrev pub revision_of : History → ℕ → ℕ
revision_of h i = (at h i).revision

-- i is the number of an event.
pub record Number (h : History) (i : ℕ) : Type 0 where
  pub low : 1 ≤ i
  pub high : i ≤ count h

-- A history is well formed when its kept pairs are pairs of events, the lower number first.
pub record WellFormed (h : History) : Type 0 where
  pub first : (a b : ℕ) → T (h.kept a b) → Number h a
  pub second : (a b : ℕ) → T (h.kept a b) → Number h b
  pub lower : (a b : ℕ) → T (h.kept a b) → a < b

-- The pairs of S are pairs of events.
abbrev pub PairsOfEvents : History → List (ℕ × ℕ) → Type 0
PairsOfEvents h S = (a b : ℕ) → Memᴰ (a, b) S → Number h a × Number h b

-- r is a read.
pub record Read (h : History) (r : ℕ) : Type 0 where
  pub number : Number h r
  pub kind : (at h r).kind ≡ 0

-- w is a write.
pub record Write (h : History) (w : ℕ) : Type 0 where
  pub number : Number h w
  pub kind : (at h w).kind ≡ 1

-- The read r found the starting entry of its star.
pub record FromStart (h : History) (r : ℕ) : Type 0 where
  pub read : Read h r
  pub revision : revision_of h r ≡ 0

-- The read r takes from the write w.
pub record TakesFrom (h : History) (r w : ℕ) : Type 0 where
  pub read : Read h r
  pub other : revision_of h r ≢ 0
  pub write : Write h w
  pub star : star_of h w ≡ star_of h r
  pub revision : revision_of h w ≡ revision_of h r

-- a and b are two different writes of one star.
pub record TwoWrites (h : History) (a b : ℕ) : Type 0 where
  pub first : Write h a
  pub second : Write h b
  pub star : star_of h a ≡ star_of h b
  pub two : a ≢ b
