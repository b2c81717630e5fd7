-- What two events of a history have to do with one another, and how far the facts say so.
use Rattle.std.specs.Prelude.{◌≡◌, ℕ, suc, Bool, true, not, ◌&&◌, ◌||◌, ◌==◌, slice_index}
use Rattle.history.specs.declared.event.Event.{Event}
use Rattle.order.specs.History.{History, at}
use Rattle.order.specs.Opening.{is_read, is_write}
use Rattle.sets.specs.Rows.{in_rows}
use Rattle.saturation.specs.Ties.{from_of, mates_of, others_of, takers_of}
use Rattle.saturation.specs.declared.saturate.Facts.{Facts}

-- Both events are writes of one star.
abbrev pub mate : Event → Event → Bool
mate a b = is_write a && (is_write b && a.star == b.star)

-- The second event is a read, of a revision other than 0, of the star that the first writes.
abbrev pub reads_star : Event → Event → Bool
reads_star a b = is_write a && (is_read b && (a.star == b.star && not (b.revision == 0)))

-- It is a read of the revision that the first writes, or of another.
abbrev pub taker : Event → Event → Bool
taker a b = reads_star a b && a.revision == b.revision

abbrev pub other : Event → Event → Bool
other a b = reads_star a b && not (a.revision == b.revision)

-- The facts are those of the history, as far as the pairs of events in D go.
pub record Noted {N W : ℕ} (h : History) (D : ℕ → ℕ → Bool) (f : Facts N W) : Type 0 where
  pub mates : (w q : ℕ) → in_rows (mates_of f.ties) w q ≡ (D w q && (not (w == q) && mate (at h (suc w)) (at h (suc q))))
  pub takers : (w r : ℕ) → in_rows (takers_of f.ties) w r ≡ (D w r && taker (at h (suc w)) (at h (suc r)))
  pub others : (w r : ℕ) → in_rows (others_of f.ties) w r ≡ (D w r && other (at h (suc w)) (at h (suc r)))
  pub from : (w r : ℕ) → D w r ≡ true → taker (at h (suc w)) (at h (suc r)) ≡ true → slice_index (from_of f.ties) r ≡ w

-- D, and the pairs of x and the events that t picks.
abbrev pub with_row : (ℕ → ℕ → Bool) → ℕ → (ℕ → Bool) → ℕ → ℕ → Bool
with_row D x t w q = D w q || (w == x && t q)
