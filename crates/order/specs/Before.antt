-- Saturation: which event is before which, as the rules force it.
use Rattle.std.specs.Prelude.{◌≡◌, ℕ, T, List}
use mathlib.Core.List.{Memᴰ}
use Rattle.order.specs.History.{History, star_of, Write, FromStart, TakesFrom, TwoWrites}

-- Before is the smallest transitive relation with six rules. S holds the pairs that stand: the stipulations, and what a
-- search has chosen.
pub data Before (h : History) (S : List (ℕ × ℕ)) : ℕ → ℕ → Type 0 where
  -- the first event of a kept pair is before the second
  kept : {a b : ℕ} → T (h.kept a b) → Before h S a b
  -- the first event of a pair that stands is before the second
  stands : {a b : ℕ} → Memᴰ (a, b) S → Before h S a b
  -- a write is before each read that takes from it
  taken : {w r : ℕ} → TakesFrom h r w → Before h S w r
  -- a read of revision 0 is before every write of its star
  start : {r w : ℕ} → FromStart h r → Write h w → star_of h w ≡ star_of h r → Before h S r w
  -- if a write is before a read of its star that takes from another write, it is before that write
  missed : {w w' r : ℕ} → TakesFrom h r w' → TwoWrites h w w' → Before h S w r → Before h S w w'
  -- if a write is before another write of its star, each read that takes from it is before that write
  passed : {w w' r : ℕ} → TakesFrom h r w → TwoWrites h w w' → Before h S w w' → Before h S r w'
  -- what is before something that is before a third is before the third
  chain : {a b c : ℕ} → Before h S a b → Before h S b c → Before h S a c

-- A clash is an event before itself.
abbrev pub Clash : History → List (ℕ × ℕ) → Type 0
Clash h S = (a : ℕ) × Before h S a a

-- The rules, said of any relation.
pub record HasRules (h : History) (S : List (ℕ × ℕ)) (R : ℕ → ℕ → Type 0) : Type 0 where
  pub kept : (a b : ℕ) → T (h.kept a b) → R a b
  pub stands : (a b : ℕ) → Memᴰ (a, b) S → R a b
  pub taken : (w r : ℕ) → TakesFrom h r w → R w r
  pub start : (r w : ℕ) → FromStart h r → Write h w → star_of h w ≡ star_of h r → R r w
  pub missed : (w w' r : ℕ) → TakesFrom h r w' → TwoWrites h w w' → R w r → R w w'
  pub passed : (w w' r : ℕ) → TakesFrom h r w → TwoWrites h w w' → R w w' → R r w'
  pub chain : (a b c : ℕ) → R a b → R b c → R a c
