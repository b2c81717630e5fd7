-- The search over the orders of the writes: which nodes it visits, how many, and how it ends.
use Rattle.std.specs.Prelude.{◌≡◌, ℕ, ◌+◌, ◌<◌, ◌≤◌, ◌⊎◌, ◌↔◌, List, [], ◌∷◌, length}
use mathlib.Core.List.{Memᴰ}
use Rattle.order.specs.History.{History, TwoWrites}
use Rattle.order.specs.Before.{Before, Clash}

-- A node is given by the pairs that stand there: the stipulations, and in front of them the pairs chosen so far.

-- At a node, two writes of a star, the lower number first, are unordered when neither is before the other.
pub record Unordered (h : History) (S : List (ℕ × ℕ)) (a b : ℕ) : Type 0 where
  pub writes : TwoWrites h a b
  pub lower : a < b
  pub not_before : ¬ Before h S a b
  pub not_after : ¬ Before h S b a

-- The first unordered pair: lowest number, then lowest partner.
pub record FirstUnordered (h : History) (S : List (ℕ × ℕ)) (a b : ℕ) : Type 0 where
  pub unordered : Unordered h S a b
  pub first : (c d : ℕ) → Unordered h S c d → (a < c) ⊎ ((a ≡ c) × (b ≤ d))

-- A node is complete when any two writes of a star are ordered.
abbrev pub Complete : History → List (ℕ × ℕ) → Type 0
Complete h S = (a b : ℕ) → TwoWrites h a b → Before h S a b ⊎ Before h S b a

-- A search fails, or it succeeds at a node.
pub data Outcome : Type 0 where
  fails : Outcome
  succeeds : List (ℕ × ℕ) → Outcome

-- Search h S T o: the search from the node S visits T nodes, itself included, and has the outcome o.
pub data Search (h : History) : List (ℕ × ℕ) → ℕ → Outcome → Type 0 where
  -- a node with a clash yields nothing
  clash : {S : List (ℕ × ℕ)} → Clash h S → Search h S 1 fails
  -- a complete node without a clash succeeds
  success : {S : List (ℕ × ℕ)} → ¬ Clash h S → Complete h S → Search h S 1 (succeeds S)
  -- any other node takes the first unordered pair; the node with the lower write first succeeds
  lower : {S : List (ℕ × ℕ)} {a b t : ℕ} {Q : List (ℕ × ℕ)} → ¬ Clash h S → FirstUnordered h S a b →
      Search h ((a, b) ∷ S) t (succeeds Q) → Search h S (1 + t) (succeeds Q)
  -- or it yields nothing, and the node with the higher write first decides
  higher : {S : List (ℕ × ℕ)} {a b t u : ℕ} {o : Outcome} → ¬ Clash h S → FirstUnordered h S a b →
      Search h ((a, b) ∷ S) t fails → Search h ((b, a) ∷ S) u o → Search h S (1 + t + u) o

-- No pair stands twice in a list.
pub data Distinct : List (ℕ × ℕ) → Type 0 where
  empty : Distinct []
  more : {q : ℕ × ℕ} {qs : List (ℕ × ℕ)} → ¬ Memᴰ q qs → Distinct qs → Distinct (q ∷ qs)

-- p counts the unordered pairs of a node.
pub record CountsUnordered (h : History) (S : List (ℕ × ℕ)) (p : ℕ) : Type 0 where
  pub pairs : List (ℕ × ℕ)
  pub once : Distinct pairs
  pub exactly : (a b : ℕ) → Memᴰ (a, b) pairs ↔ Unordered h S a b
  pub many : length pairs ≡ p
