-- What a closure has, and what it says of a history. The event x of a closure has the number x + 1 in the history.
use Rattle.std.specs.Prelude.{◌≡◌, ℕ, suc, ◌<◌, ◌≤◌, Bool, true, false, not, ◌&&◌, ◌||◌, T, ◌⊎◌, ◌↔◌, List, ◌==◌}
use Rattle.saturation.specs.Recorded.{history_in}
use Rattle.order.specs.History.{History, count, star_of, WellFormed, PairsOfEvents, Write, FromStart, TakesFrom}
use Rattle.order.specs.Before.{Before}
use Rattle.sets.specs.Sets.{has}
use Rattle.sets.specs.Rows.{in_rows}
use Rattle.saturation.specs.Ties.{mates_of, takers_of}
use Rattle.sets.specs.declared.set.EventSet.{EventSet}
use Rattle.saturation.specs.Orders.{Transitive, Within, Closure as Smallest}
use Rattle.saturation.specs.Laws.{Settled, Closed, Grown}
use Rattle.saturation.specs.Nodes.{FactsOf}
use Rattle.saturation.specs.Rooting.{Outright, Standing, PairsUpTo}
use Rattle.saturation.specs.declared.record.Recorded.{Recorded}
use Rattle.saturation.specs.declared.saturate.Facts.{Facts}
use Rattle.closure.specs.declared.reach.Closure.{Closure}
use Rattle.closure.specs.declared.reach.Spread.{Spread}

-- whether x is before y
abbrev pub earlier : {N W : ℕ} → Closure N W → ℕ → ℕ → Bool
earlier c x y = in_rows c.after x y

-- whether the event x waits to be looked at
abbrev pub waits : {N W : ℕ} → Closure N W → ℕ → Bool
waits c x = has c.dirty x

-- nothing waits
abbrev pub Idle : {N W : ℕ} → Closure N W → Type 0
Idle c = (x : ℕ) → waits c x ≡ false

-- no event is before itself
abbrev pub Calm : {N W : ℕ} → Closure N W → Type 0
Calm c = (x : ℕ) → earlier c x x ≡ false

-- x is the lowest event that is before itself
pub record Lowest {N W : ℕ} (c : Closure N W) (x : ℕ) : Type 0 where
  pub clash : earlier c x x ≡ true
  pub lowest : (y : ℕ) → y < x → earlier c y y ≡ false

-- d is c but for what waits
pub record Still {N W : ℕ} (c d : Closure N W) : Type 0 where
  pub afters : d.after ≡ c.after
  pub events : d.count ≡ c.count

-- what the pair of u and v touches: u with all before it, v with all after it, and of these those that are not
-- before v, and not after u, yet
pub record Spreads {N W : ℕ} (c : Closure N W) (u v : ℕ) (s : Spread W) : Type 0 where
  pub above : (x : ℕ) → has s.above x ≡ (x == u || earlier c x u)
  pub below : (y : ℕ) → has s.below y ≡ (y == v || earlier c v y)
  pub heads : (x : ℕ) → has s.heads x ≡ ((x == u || earlier c x u) && not (earlier c x v))
  pub tails : (y : ℕ) → has s.tails y ≡ ((y == v || earlier c v y) && not (earlier c u y))

-- d is c with the pair of u and v and all that follows by chains; what is newly before v waits
pub record Joined {N W : ℕ} (u v : ℕ) (c d : Closure N W) : Type 0 where
  pub closure : Smallest (earlier c) u v (earlier d)
  pub waiting : (x : ℕ) → waits d x ≡ (waits c x || (earlier d x v && not (earlier c x v)))
  pub events : d.count ≡ c.count

-- d is c and some of what every transitive relation has that is of the kind K and has all of c; what waits is what
-- waited, and what has new successors
pub record Raised {N W : ℕ} (K : (ℕ → ℕ → Bool) → Type 0) (c d : Closure N W) : Type 0 where
  pub keeps : Within (earlier c) (earlier d)
  pub least : (Q : ℕ → ℕ → Bool) → Transitive Q → Within (earlier c) Q → K Q → Within (earlier d) Q
  pub waiting : (x : ℕ) → waits c x ≡ true → waits d x ≡ true
  pub tracks : (x : ℕ) → (waits d x ≡ true) ⊎ ((y : ℕ) → earlier d x y ≡ earlier c x y)
  pub only : (x : ℕ) → waits d x ≡ true → (waits c x ≡ true) ⊎ ((y : ℕ) × ((earlier d x y ≡ true) × (earlier c x y ≡ false)))
  pub events : d.count ≡ c.count

-- each event waits or is settled
abbrev pub Ready : {N W : ℕ} → Facts N W → Closure N W → Type 0
Ready f c = (w : ℕ) → (waits c w ≡ true) ⊎ Settled f (earlier c) w

-- w is one of the events, which are as many in the facts as in the closure
abbrev pub Fits : {N W : ℕ} → Facts N W → Closure N W → ℕ → Type 0
Fits f c w = (f.count ≡ c.count) × (w < c.count)

-- the events listed are writes of the star of w, and after it
abbrev pub After : {N W : ℕ} → Facts N W → Closure N W → ℕ → EventSet W → Type 0
After f c w s = (q : ℕ) → has s q ≡ true → (in_rows (mates_of f.ties) w q ≡ true) × (earlier c w q ≡ true)

-- r is before each of the events listed
abbrev pub Leads : {N W : ℕ} → ℕ → EventSet W → Closure N W → Type 0
Leads r s c = (q : ℕ) → has s q ≡ true → earlier c r q ≡ true

-- d is the smallest transitive relation with the rules that has all of c, and nothing waits
pub record Finished {N W : ℕ} (f : Facts N W) (c d : Closure N W) : Type 0 where
  pub grown : Grown f (earlier c) (earlier d)
  pub closed : Closed f (earlier d)
  pub idle : Idle d
  pub events : d.count ≡ c.count

-- Q has x before each of the events listed
abbrev pub HasRow : {W : ℕ} → ℕ → EventSet W → (ℕ → ℕ → Bool) → Type 0
HasRow x s Q = (y : ℕ) → has s y ≡ true → Q x y ≡ true

-- all that stands in the rows is below n
abbrev pub RowsBelow : {W : ℕ} → ℕ → List (EventSet W) → Type 0
RowsBelow n rows = (x y : ℕ) → in_rows rows x y ≡ true → y < n

-- Q has each event below n before all events of its row
abbrev pub HasRows : {W : ℕ} → ℕ → List (EventSet W) → (ℕ → ℕ → Bool) → Type 0
HasRows n rows Q = (x y : ℕ) → x < n → in_rows rows x y ≡ true → Q x y ≡ true

-- Q has the pairs that the record gives outright
abbrev pub HasEvents : {N W : ℕ} → Recorded N W → (ℕ → ℕ → Bool) → Type 0
HasEvents r Q = (x y : ℕ) → Outright r (count (history_in r)) x y → Q x y ≡ true

-- Q has the pairs of S, which are by number
abbrev pub HasPairs : List (ℕ × ℕ) → (ℕ → ℕ → Bool) → Type 0
HasPairs S Q = (x y : ℕ) → Standing S x y → Q x y ≡ true

-- kept rows, rows of starts and pairs that are of the events of the facts
pub record Given {N W : ℕ} (f : Facts N W) (kept starts : List (EventSet W)) (S : List (ℕ × ℕ)) : Type 0 where
  pub keeps : RowsBelow f.count kept
  pub opens : RowsBelow f.count starts
  pub pairs : PairsUpTo f.count S

-- Q has the pairs of all these rows, and of S
pub record Bases {N W : ℕ} (f : Facts N W) (kept starts : List (EventSet W)) (S : List (ℕ × ℕ)) (Q : ℕ → ℕ → Bool) : Type 0 where
  pub keeps : HasRows f.count kept Q
  pub opens : HasRows f.count starts Q
  pub takes : HasRows f.count (takers_of f.ties) Q
  pub stands : HasPairs S Q

-- c is the smallest transitive relation with the pairs of all these rows, and of S; what has a successor waits
pub record Filled {N W : ℕ} (f : Facts N W) (kept starts : List (EventSet W)) (S : List (ℕ × ℕ)) (c : Closure N W) : Type 0 where
  pub events : c.count ≡ f.count
  pub bases : Bases f kept starts S (earlier c)
  pub least : (Q : ℕ → ℕ → Bool) → Transitive Q → Bases f kept starts S Q → Within (earlier c) Q
  pub ready : Ready f c

-- row a has b just where the history keeps the pair of the two
abbrev pub KeptRows : {W : ℕ} → History → List (EventSet W) → Type 0
KeptRows h rows = (a b : ℕ) → (in_rows rows a b ≡ true) ↔ T (h.kept (suc a) (suc b))

-- row r has w just where r is a read of revision 0, and w a write of its star
abbrev pub StartRows : {W : ℕ} → History → List (EventSet W) → Type 0
StartRows h rows = (r w : ℕ) → (in_rows rows r w ≡ true) ↔ (FromStart h (suc r) × Write h (suc w) × (star_of h (suc w) ≡ star_of h (suc r)))

-- the facts, the kept rows and the rows of starts are those of the history, which is well formed
pub record RowsOf {N W : ℕ} (h : History) (f : Facts N W) (kept starts : List (EventSet W)) : Type 0 where
  pub well : WellFormed h
  pub facts : FactsOf h f
  pub keeps : KeptRows h kept
  pub opens : StartRows h starts

-- R has the pairs that come before any rule: kept pairs, pairs that stand, writes before their takers, and reads of
-- revision 0 before the writes of their star
pub record HasBase (h : History) (S : List (ℕ × ℕ)) (R : ℕ → ℕ → Bool) : Type 0 where
  pub kept : (a b : ℕ) → T (h.kept (suc a) (suc b)) → R a b ≡ true
  pub stands : (a b : ℕ) → Standing S a b → R a b ≡ true
  pub taken : (w r : ℕ) → TakesFrom h (suc r) (suc w) → R w r ≡ true
  pub start : (r w : ℕ) → FromStart h (suc r) → Write h (suc w) → star_of h (suc w) ≡ star_of h (suc r) → R r w ≡ true

-- R is the smallest transitive relation with these pairs
pub record BuiltFrom (h : History) (S : List (ℕ × ℕ)) (R : ℕ → ℕ → Bool) : Type 0 where
  pub base : HasBase h S R
  pub chains : Transitive R
  pub least : (Q : ℕ → ℕ → Bool) → Transitive Q → HasBase h S Q → Within R Q

-- the closure is exactly before, with the pairs S standing
pub record ExactHere {N W : ℕ} (h : History) (S : List (ℕ × ℕ)) (c : Closure N W) : Type 0 where
  pub events : c.count ≡ count h
  pub same : (x y : ℕ) → (earlier c x y ≡ true) ↔ Before h S (suc x) (suc y)

-- d is exactly before, for each history of the facts, where c was built from the base pairs and those that stand
abbrev pub MadeExact : {N W : ℕ} → Facts N W → Closure N W → Closure N W → Type 0
MadeExact f c d = (h : History) (S : List (ℕ × ℕ)) → WellFormed h → FactsOf h f → PairsOfEvents h S → BuiltFrom h S (earlier c) → ExactHere h S d

-- a is the lowest number of an event that is before itself, with the pairs S standing
pub record FirstClash (h : History) (S : List (ℕ × ℕ)) (a : ℕ) : Type 0 where
  pub clash : Before h S a a
  pub lowest : (b : ℕ) → Before h S b b → a ≤ b
