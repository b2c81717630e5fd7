use Rattle.std.specs.Prelude.{◌≡◌, ℕ, ◌<◌, Bool, true, false, ◌⊎◌, Result, MatchResult, slice_index}
use Rattle.sets.specs.Sets.{has}
use Rattle.sets.specs.Rows.{in_rows}
use Rattle.saturation.specs.Ties.{from_of, mates_of, others_of, takers_of}
use Rattle.saturation.specs.Orders.{Transitive, Within}
use Rattle.saturation.specs.Relations.{earlier, waits, Idle}
use Rattle.sets.specs.declared.set.EventSet.{EventSet}
use Rattle.saturation.specs.declared.relation.Cycle.{Cycle}
use Rattle.saturation.specs.declared.relation.Relation.{Relation}
use Rattle.saturation.specs.declared.saturate.Facts.{Facts}

-- nothing is known
pub record Blank {N W : ℕ} (f : Facts N W) : Type 0 where
  pub others : (w r : ℕ) → in_rows (others_of f.ties) w r ≡ false
  pub mates : (w q : ℕ) → in_rows (mates_of f.ties) w q ≡ false
  pub takers : (w r : ℕ) → in_rows (takers_of f.ties) w r ≡ false

-- where R has w before a read of its star that takes from another write, S has w before that write
abbrev pub Sources : {N W : ℕ} → Facts N W → ℕ → (ℕ → ℕ → Bool) → (ℕ → ℕ → Bool) → Type 0
Sources f w R S = (r : ℕ) → in_rows (others_of f.ties) w r ≡ true → R w r ≡ true → S w (slice_index (from_of f.ties) r) ≡ true

-- where R has w before another write of its star, S has the reads that take from w before that write
abbrev pub Readers : {N W : ℕ} → Facts N W → ℕ → (ℕ → ℕ → Bool) → (ℕ → ℕ → Bool) → Type 0
Readers f w R S = (q r : ℕ) → in_rows (mates_of f.ties) w q ≡ true → in_rows (takers_of f.ties) w r ≡ true → R w q ≡ true → S r q ≡ true

-- R has all that the two rules force by its pairs of w
abbrev pub Settled : {N W : ℕ} → Facts N W → (ℕ → ℕ → Bool) → ℕ → Type 0
Settled f R w = Sources f w R R × Readers f w R R

-- R has all that the two rules force
abbrev pub Closed : {N W : ℕ} → Facts N W → (ℕ → ℕ → Bool) → Type 0
Closed f R = (w : ℕ) → Settled f R w

-- every transitive relation with the rules that has all of R has an event before itself
abbrev pub Doomed : {N W : ℕ} → Facts N W → (ℕ → ℕ → Bool) → Type 0
Doomed f R = (Q : ℕ → ℕ → Bool) → Transitive Q → Within R Q → Closed f Q → (x : ℕ) × (Q x x ≡ true)

-- the event w waits or is settled
abbrev pub Tended : {N W T : ℕ} → Facts N W → Relation N W T → ℕ → Type 0
Tended f o w = (waits o w ≡ true) ⊎ Settled f (earlier o) w

-- each event waits or is settled
abbrev pub Ready : {N W T : ℕ} → Facts N W → Relation N W T → Type 0
Ready f o = (w : ℕ) → Tended f o w

-- w is one of the events, which are as many in the facts as in the relation
abbrev pub Fitting : {N W T : ℕ} → Facts N W → Relation N W T → ℕ → Type 0
Fitting f o w = (f.count ≡ o.count) × (w < o.count)

-- the events listed are writes of the star of w, and after it
abbrev pub Later : {N W T : ℕ} → Facts N W → Relation N W T → ℕ → EventSet W → Type 0
Later f o w s = (q : ℕ) → has s q ≡ true → (in_rows (mates_of f.ties) w q ≡ true) × (earlier o w q ≡ true)

-- R has r before each of the events listed
abbrev pub Led : {W : ℕ} → ℕ → EventSet W → (ℕ → ℕ → Bool) → Type 0
Led r s R = (q : ℕ) → has s q ≡ true → R r q ≡ true

-- S has all of R, and nothing that some transitive relation with the rules and all of R could lack
pub record Grown {N W : ℕ} (f : Facts N W) (R S : ℕ → ℕ → Bool) : Type 0 where
  pub keeps : Within R S
  pub least : (Q : ℕ → ℕ → Bool) → Transitive Q → Within R Q → Closed f Q → Within S Q

-- p is o and some of what the rules force; what waits is what waited, and what has new successors
pub record Forced {N W T : ℕ} (f : Facts N W) (o p : Relation N W T) : Type 0 where
  pub grown : Grown f (earlier o) (earlier p)
  pub waiting : (x : ℕ) → waits o x ≡ true → waits p x ≡ true
  pub tracks : (x : ℕ) → (waits p x ≡ true) ⊎ ((y : ℕ) → earlier p x y ≡ earlier o x y)
  pub only : (x : ℕ) → waits p x ≡ true → (waits o x ≡ true) ⊎ ((y : ℕ) × ((earlier p x y ≡ true) × (earlier o x y ≡ false)))

-- what comes of following the rules from o to p: what they force, and P of the two relations; or a clash in any case
abbrev pub Comes : {N W T : ℕ} → Facts N W → Relation N W T → Relation N W T → ((ℕ → ℕ → Bool) → (ℕ → ℕ → Bool) → Type 0) → Result Unit Cycle → Type 0
Comes f o p P r = MatchResult r (λ _. Forced f o p × P (earlier o) (earlier p)) (λ _. Doomed f (earlier o))

-- p is the smallest transitive relation with the rules that has all of o, and nothing waits
pub record Saturated {N W T : ℕ} (f : Facts N W) (o p : Relation N W T) : Type 0 where
  pub grown : Grown f (earlier o) (earlier p)
  pub closed : Closed f (earlier p)
  pub idle : Idle p
