-- What opening answers for a list of events.
use Rattle.std.specs.Prelude.{◌≡◌, ℕ, zero, suc, ◌-◌, ◌≤◌, Bool, false, cond, not, ◌&&◌, ◌||◌, ◌≢◌, List, length, Some, None, Option, ◌==◌, nat_le}
use Rattle.history.specs.declared.event.Event.{Event}
use Rattle.history.specs.Limits.{within_limits}
use Rattle.order.specs.History.{History, event_at, at, count, star_of, revision_of, Number, Read, Write, TakesFrom}

-- The lowest of the numbers 1 to n that fails a test.
abbrev pub first_failing : (ℕ → Bool) → ℕ → Option ℕ
first_failing passes zero = None
first_failing passes (suc n) = elim (first_failing passes n) [ Some i ↦ Some i | None ↦ cond (passes (suc n)) None (Some (suc n)) ]

-- Some number from 1 to n passes a test.
abbrev pub some_up_to : ℕ → (ℕ → Bool) → Bool
some_up_to zero passes = false
some_up_to (suc n) passes = passes (suc n) || some_up_to n passes

-- The event is a read, or a write.
abbrev pub is_read : Event → Bool
is_read e = e.kind == 0

abbrev pub is_write : Event → Bool
is_write e = e.kind == 1

-- The event is a write of the star and the revision of another.
abbrev pub writes_same : Event → Event → Bool
writes_same e w = is_write w && (w.star == e.star && w.revision == e.revision)

-- The first check: kind, session, star and revision are within their limits.
abbrev pub keeps_limits : List Event → ℕ → Bool
keeps_limits es i = within_limits (event_at es i)

-- The second: a write has a revision other than 0.
abbrev pub writes_revision : List Event → ℕ → Bool
writes_revision es i = let e = event_at es i in not (is_write e && e.revision == 0)

-- The third: no earlier write has the star and the revision of a write.
abbrev pub writes_first : List Event → ℕ → Bool
writes_first es i = let e = event_at es i in not (is_write e && some_up_to (i - 1) (λ j. writes_same e (event_at es j)))

-- The fourth: a read of a revision other than 0 has a write that carries it.
abbrev pub reads_written : List Event → ℕ → Bool
reads_written es i =
    let e = event_at es i in
    not (is_read e && not (e.revision == 0)) || some_up_to (length es) (λ w. writes_same e (event_at es w))

-- Opening accepts, or it refuses with a fault: its number, and the place.
pub data Opening : Type 0 where
  accepted : Opening
  fault : ℕ → ℕ → Opening

-- A check over a whole list of n events: a fault at the first event that fails, or else what comes next.
abbrev pub checked : ℕ → (ℕ → Bool) → ℕ → Opening → Opening
checked number passes n next = elim (first_failing passes n) [ Some i ↦ fault number i | None ↦ next ]

-- What opening answers.
abbrev pub opening : List Event → Opening
opening es =
    let n = length es in
    cond (nat_le n 256)
    (checked 12 (keeps_limits es) n (checked 13 (writes_revision es) n (checked 14 (writes_first es) n (checked 15 (reads_written es) n accepted))))
    (fault 11 257)

-- What is so of a history whose events opening accepts.
pub record Accepted (h : History) : Type 0 where
  pub few : count h ≤ 256
  pub kind : (i : ℕ) → Number h i → (at h i).kind ≤ 1
  pub session : (i : ℕ) → Number h i → (at h i).session ≤ 15
  pub star : (i : ℕ) → Number h i → star_of h i ≤ 63
  pub revision : (i : ℕ) → Number h i → revision_of h i ≤ 16383
  pub written : (w : ℕ) → Write h w → revision_of h w ≢ 0
  pub once : (v w : ℕ) → Write h v → Write h w → star_of h v ≡ star_of h w → revision_of h v ≡ revision_of h w → v ≡ w
  pub found : (r : ℕ) → Read h r → revision_of h r ≢ 0 → (w : ℕ) × TakesFrom h r w
