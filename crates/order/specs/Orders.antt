-- Orders of all the events, serial orders, and orders that fit.
use Rattle.std.specs.Prelude.{◌≡◌, ℕ, suc, ◌<◌, ◌≤◌, cond, T, List, [], ◌∷◌, length, ◌==◌}
use mathlib.Core.List.{Memᴰ}
use Rattle.order.specs.History.{History, count, star_of, revision_of, Number, Write, FromStart, TakesFrom, TwoWrites}

-- How often a number stands in a list.
abbrev pub times : List ℕ → ℕ → ℕ
times [] i = 0
times (x ∷ xs) i = cond (x == i) (suc (times xs i)) (times xs i)

-- The place of a number in a list, from 0; a number that is not in it comes after all.
abbrev pub place : List ℕ → ℕ → ℕ
place [] i = 0
place (x ∷ xs) i = cond (x == i) 0 (suc (place xs i))

-- An order of n events: a list that has each of the numbers 1 to n once, and nothing else.
pub record Order (n : ℕ) (σ : List ℕ) : Type 0 where
  pub long : length σ ≡ n
  pub each : (i : ℕ) → 1 ≤ i → i ≤ n → times σ i ≡ 1
  pub only : (i : ℕ) → 1 ≤ times σ i → (1 ≤ i) × (i ≤ n)

-- a stands earlier than b.
abbrev pub Earlier : List ℕ → ℕ → ℕ → Type 0
Earlier σ a b = place σ a < place σ b

-- w is a write of the star of i that stands at or before i.
pub record Reaches (h : History) (σ : List ℕ) (i w : ℕ) : Type 0 where
  pub write : Write h w
  pub star : star_of h w ≡ star_of h i
  pub reached : place σ w ≤ place σ i

-- w is the latest of these writes.
pub record Latest (h : History) (σ : List ℕ) (i w : ℕ) : Type 0 where
  pub reaches : Reaches h σ i w
  pub last : (v : ℕ) → Reaches h σ i v → place σ v ≤ place σ w

-- An order is serial when every event's revision is that of the latest write of its star at or before it, or 0 where there is none.
pub record Serial (h : History) (σ : List ℕ) : Type 0 where
  pub latest : (i w : ℕ) → Number h i → Latest h σ i w → revision_of h i ≡ revision_of h w
  pub none : (i : ℕ) → Number h i → ((w : ℕ) → ¬ Reaches h σ i w) → revision_of h i ≡ 0

-- The same in other words: a read that takes from a write has it earlier, with no other write of its star between;
-- a read of revision 0 has no write of its star earlier.
pub record SerialByReads (h : History) (σ : List ℕ) : Type 0 where
  pub taken : (r w : ℕ) → TakesFrom h r w → Earlier σ w r
  pub between : (r w v : ℕ) → TakesFrom h r w → TwoWrites h w v → Earlier σ w v → ¬ Earlier σ v r
  pub start : (r v : ℕ) → FromStart h r → Write h v → star_of h v ≡ star_of h r → ¬ Earlier σ v r

-- An order keeps the rule when every kept pair stands in the order of its numbers.
abbrev pub KeepsRule : History → List ℕ → Type 0
KeepsRule h σ = (a b : ℕ) → T (h.kept a b) → Earlier σ a b

-- An order keeps a list of pairs when it has the first of each pair earlier than the second.
abbrev pub KeepsPairs : List (ℕ × ℕ) → List ℕ → Type 0
KeepsPairs S σ = (a b : ℕ) → Memᴰ (a, b) S → Earlier σ a b

-- A fitting order: a serial order of all the events that keeps the rule and every pair of S.
pub record Fitting (h : History) (S : List (ℕ × ℕ)) (σ : List ℕ) : Type 0 where
  pub order : Order (count h) σ
  pub serial : Serial h σ
  pub rule : KeepsRule h σ
  pub pairs : KeepsPairs S σ

-- A history is serializable, with the pairs of S, when there is a fitting order.
abbrev pub Serializable : History → List (ℕ × ℕ) → Type 0
Serializable h S = (σ : List ℕ) × Fitting h S σ

-- Two orders have the same order of writes for each star.
abbrev pub SameWrites : History → List ℕ → List ℕ → Type 0
SameWrites h σ τ = (a b : ℕ) → TwoWrites h a b → Earlier σ a b → Earlier τ a b
