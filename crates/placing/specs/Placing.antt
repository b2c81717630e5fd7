-- The order that places, again and again, the most preferred event whose predecessors are all placed. An event x of the
-- rows has the number x + 1 in a history.
use Rattle.std.specs.Prelude.{◌≡◌, ℕ, suc, ◌*◌, ◌<◌, ◌≤◌, Bool, true, false, ◌≢◌, ◌↔◌, List, Some, None, Option}
use Rattle.history.specs.declared.event.Event.{Event}
use Rattle.order.specs.History.{History, event_at}
use Rattle.order.specs.Before.{Before}
use Rattle.order.specs.Calls.{Preference, Placed}
use Rattle.sets.specs.Sets.{has}
use Rattle.sets.specs.Rows.{in_rows}
use Rattle.sets.specs.declared.set.EventSet.{EventSet}

-- There are n of at most N events; a set of W words has room for N, and their numbers fit 16 bits.
pub record Room (n N W : ℕ) : Type 0 where
  pub events : n ≤ N
  pub wide : N ≤ 64 * W
  pub short : N ≤ 65535

-- The rows have for each event those that are before it at the node Q.
abbrev pub BeforeRows : {W : ℕ} → History → List (ℕ × ℕ) → List (EventSet W) → Type 0
BeforeRows h Q rows = (x y : ℕ) → (in_rows rows y x ≡ true) ↔ Before h Q (suc x) (suc y)

-- Whatever history of these events and whatever node the rows are those of, the numbers are the order that is placed there.
abbrev pub PlacesAll : {W : ℕ} → Preference → List Event → List (EventSet W) → List ℕ → Type 0
PlacesAll f es rows numbers =
    (h : History) (Q : List (ℕ × ℕ)) (σ : List ℕ) → h.events ≡ es → BeforeRows h Q rows → Placed h Q f σ → numbers ≡ σ

-- The event x is preferred to the event y.
abbrev pub prefers_to : (ℕ → Event → ℕ → Event → Bool) → List Event → ℕ → ℕ → Bool
prefers_to prefers es x y = prefers (suc x) (event_at es (suc x)) (suc y) (event_at es (suc y))

-- The event x can be placed next: it is not placed, and those before it are.
pub record CanBePlaced {W : ℕ} (rows : List (EventSet W)) (placed : EventSet W) (x : ℕ) : Type 0 where
  pub unplaced : has placed x ≡ false
  pub predecessors : (y : ℕ) → in_rows rows x y ≡ true → has placed y ≡ true

-- Of the events below n that can be placed next, x is the most preferred.
pub record MostPreferred {W : ℕ} (prefers : ℕ → Event → ℕ → Event → Bool) (es : List Event) (rows : List (EventSet W)) (placed : EventSet W) (n x : ℕ) : Type 0 where
  pub below : x < n
  pub ready : CanBePlaced rows placed x
  pub preferred : (y : ℕ) → y < n → CanBePlaced rows placed y → y ≢ x → prefers_to prefers es x y ≡ true

-- The most preferred of them, or none where none can be placed.
abbrev pub Next : {W : ℕ} → (ℕ → Event → ℕ → Event → Bool) → List Event → List (EventSet W) → EventSet W → ℕ → Option ℕ → Type 0
Next prefers es rows placed n None = (y : ℕ) → y < n → ¬ CanBePlaced rows placed y
Next prefers es rows placed n (Some x) = MostPreferred prefers es rows placed n x
