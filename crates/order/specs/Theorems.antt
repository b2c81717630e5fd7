-- The theorems. Each is named by the contract of a function, and so is proved.
use Rattle.std.specs.Prelude.{◌≡◌, ℕ, ◌+◌, ◌-◌, ◌^◌, ◌≤◌, Bool, T, ◌↔◌, List}
use Rattle.history.specs.declared.event.Event.{Event}
use Rattle.order.specs.History.{History, history_of, count, WellFormed, PairsOfEvents}
use Rattle.order.specs.Orders.{Order, Earlier, Serial, SerialByReads, Fitting, Serializable}
use Rattle.order.specs.Before.{Before, Clash, HasRules}
use Rattle.order.specs.Search.{Search, Outcome, fails, succeeds, CountsUnordered}
use Rattle.order.specs.Opening.{opening, accepted, Accepted}
use Rattle.order.specs.Calls.{Preference, Verdict, Judges, Placed, Shows, Call, Turn, calls_of, Held, opened, Run, Leaves, LawOverRuns}

-- The history that events and a rule mean is well formed.
abbrev pub HistoriesAreWellFormed : Type 0
HistoriesAreWellFormed = (es : List Event) (keeps : ℕ → ℕ → ℕ → ℕ → Bool) → WellFormed (history_of es keeps)

-- Opening accepts the events of a history exactly when they are accepted as the record says.
abbrev pub OpeningAccepts : Type 0
OpeningAccepts = (h : History) → (opening h.events ≡ accepted) ↔ Accepted h

-- Before has the rules, and it lies in every relation that has them.
abbrev pub BeforeIsSmallest : Type 0
BeforeIsSmallest =
    (h : History) (S : List (ℕ × ℕ)) →
    HasRules h S (Before h S) ×
    ((R : ℕ → ℕ → Bool) → HasRules h S (λ a b. T (R a b)) → (a b : ℕ) → Before h S a b → T (R a b))

-- A fitting order has a earlier than b wherever a is before b; so a clash leaves no fitting order.
abbrev pub FittingKeepsBefore : Type 0
FittingKeepsBefore =
    (h : History) (S : List (ℕ × ℕ)) → Accepted h →
    ((σ : List ℕ) → Fitting h S σ → (a b : ℕ) → Before h S a b → Earlier σ a b) ×
    (Clash h S → ¬ Serializable h S)

-- The number of nodes that the search visits and its outcome exist, and there is but one of each.
abbrev pub SearchEnds : Type 0
SearchEnds =
    (h : History) (S : List (ℕ × ℕ)) → WellFormed h → PairsOfEvents h S →
    (t : ℕ) × (o : Outcome) × Search h S t o × ((u : ℕ) (q : Outcome) → Search h S u q → (u ≡ t) × (q ≡ o))

-- A search that fails leaves no fitting order; for one that succeeds there is a fitting order.
abbrev pub SearchDecides : Type 0
SearchDecides =
    (h : History) (S : List (ℕ × ℕ)) (t : ℕ) → WellFormed h → Accepted h → PairsOfEvents h S →
    (Search h S t fails → ¬ Serializable h S) ×
    ((Q : List (ℕ × ℕ)) → Search h S t (succeeds Q) → Serializable h S)

-- The count p of the unordered pairs exists, it is one number, and the search visits at most 2 ^ (p + 1) - 1 nodes.
abbrev pub SearchIsBounded : Type 0
SearchIsBounded =
    (h : History) (S : List (ℕ × ℕ)) → WellFormed h → PairsOfEvents h S →
    (p : ℕ) × CountsUnordered h S p × ((q : ℕ) → CountsUnordered h S q → q ≡ p) ×
    ((t : ℕ) (o : Outcome) → Search h S t o → t ≤ 2 ^ (p + 1) - 1)

-- What judge finds exists and is the only thing, whatever pairs of events stand and whatever the budget.
abbrev pub JudgeIsDecided : Type 0
JudgeIsDecided =
    (h : History) (S : List (ℕ × ℕ)) (budget : ℕ) → WellFormed h → Accepted h → PairsOfEvents h S →
    (v : Verdict) × (steps : ℕ) × Judges h S budget v steps ×
    ((w : Verdict) (u : ℕ) → Judges h S budget w u → (w ≡ v) × (u ≡ steps))

-- At a successful node the order that places, again and again, the most preferred event whose predecessors are all placed
-- exists, it is the only one, and it is the one thing that show shows: a fitting order with the node's order of writes for each star,
-- better than every other fitting order with that order of writes.
abbrev pub PlacingIsBest : Type 0
PlacingIsBest =
    (h : History) (S Q : List (ℕ × ℕ)) (t : ℕ) (f : Preference) → WellFormed h → Accepted h → PairsOfEvents h S →
    Search h S t (succeeds Q) →
    (σ : List ℕ) × Placed h Q f σ × ((τ : List ℕ) → Placed h Q f τ → τ ≡ σ) × Shows h S f σ × ((τ : List ℕ) → Shows h S f τ → τ ≡ σ)

-- The two wordings of serial agree.
abbrev pub SerialWordingsAgree : Type 0
SerialWordingsAgree = (h : History) (σ : List ℕ) → Accepted h → Order (count h) σ → Serial h σ ↔ SerialByReads h σ

-- Calls that each keep their contract make a run that keeps the law over runs, and leave what the law says stands.
abbrev pub RunsAreLawful : Type 0
RunsAreLawful = (h : History) (turns : List Turn) (m : Held) → Run h opened turns m → LawOverRuns h turns × Leaves h turns m

-- The law over runs leaves nothing free: for every list of calls there is exactly one list of turns that keeps it.
abbrev pub LawDecidesRuns : Type 0
LawDecidesRuns =
    (h : History) (calls : List Call) → WellFormed h → Accepted h →
    (turns : List Turn) × (calls_of turns ≡ calls) × LawOverRuns h turns ×
    ((others : List Turn) → calls_of others ≡ calls → LawOverRuns h others → others ≡ turns)
