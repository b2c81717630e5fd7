-- A closure that is filled with all that a record and the pairs that stand give outright, and what it says of the history.
use Rattle.std.proofs.Common.{◌≡◌, ℕ, suc, ◌-◌, ◌<◌, ◌≤◌, Bool, true, false, List, length, get_or, sym, ap, ◌∙◌, subst, arith}
use mathlib.Core.List.Memᴰ
use Rattle.std.proofs.lemmas.Bool.{true≢false}
use Rattle.order.specs.History.{PairsOfEvents, count}
use Rattle.order.specs.Before.{Before}
use Rattle.saturation.specs.Orders.{Transitive, Within}
use Rattle.saturation.specs.Nodes.{FactsOf}
use Rattle.saturation.specs.Recorded.{history_in}
use Rattle.saturation.specs.Rooting.{PairsUpTo}
use Rattle.saturation.specs.declared.record.Recorded.{Recorded}
use Rattle.saturation.specs.declared.saturate.Facts.{Facts}
use Rattle.saturation.proofs.Records.{record_well}
use Rattle.saturation.proofs.Bridges.{past, past_i, past_far}
use Rattle.saturation.proofs.Roots.{member_at, place_of, outright_e, outright_based}
use Rattle.closure.specs.Closures.{earlier, Raised, Ready, Finished, HasEvents, HasPairs, ExactHere}
use Rattle.closure.specs.declared.reach.Closure.{Closure}
use Rattle.closure.proofs.Raises.{ready_none, ready_raised}
use Rattle.closure.proofs.Closes.{exact_between}

-- the pair at a place is of numbers from 1 to n
pub pair_within : (n : ℕ) (S : List (ℕ × ℕ)) (k : ℕ) → PairsUpTo n S → k < length S
    → (1 ≤ (get_or S k (0, 0)).0) × ((get_or S k (0, 0)).0 ≤ n) × (1 ≤ (get_or S k (0, 0)).1) × ((get_or S k (0, 0)).1 ≤ n)
pair_within n S k inside l = inside (get_or S k (0, 0)).0 (get_or S k (0, 0)).1 (member_at S k l)

-- what has the pairs of S has the pair at a place
pub pair_linked : (n : ℕ) (S : List (ℕ × ℕ)) (k : ℕ) → PairsUpTo n S → k < length S → (Q : ℕ → ℕ → Bool) → HasPairs S Q → Q ((get_or S k (0, 0)).0 - 1) ((get_or S k (0, 0)).1 - 1) ≡ true
pair_linked n S k inside l Q met =
    let w = pair_within n S k inside l in
    let e : suc ((get_or S k (0, 0)).0 - 1) ≡ (get_or S k (0, 0)).0 = let a = w.0 in omega arith in
    let f : suc ((get_or S k (0, 0)).1 - 1) ≡ (get_or S k (0, 0)).1 = let b = w.2 in omega arith in
    met ((get_or S k (0, 0)).0 - 1) ((get_or S k (0, 0)).1 - 1) (Memᴰ.cast (λ i. (e i, f i)) (member_at S k l))

-- a relation with the pair at each place has the pairs of S
pub pairs_linked : (S : List (ℕ × ℕ)) (R : ℕ → ℕ → Bool) → ((k : ℕ) → k < length S → R ((get_or S k (0, 0)).0 - 1) ((get_or S k (0, 0)).1 - 1) ≡ true) → HasPairs S R
pairs_linked S R all x y m =
    let r = place_of S (suc x, suc y) m in
    let e : suc x - 1 ≡ x = omega arith in
    let f : suc y - 1 ≡ y = omega arith in
    let h : R (suc x - 1) (suc y - 1) ≡ true = subst (λ (p : ℕ × ℕ). R (p.0 - 1) (p.1 - 1) ≡ true) r.2 (all r.0 r.1) in
    ap (λ a. R a y) (sym e) ∙ ap (λ b. R (suc x - 1) b) (sym f) ∙ h

-- from a closure with no pair, through what the record gives and what stands
module _ {N W : ℕ} (r : Recorded N W) (S : List (ℕ × ℕ)) (b c d : Closure N W) (none : (x y : ℕ) → earlier b x y ≡ false)
    (more : Raised (HasEvents r) b c) (most : Raised (HasPairs S) c d) (f : Facts N W) where
  pub filled_ready : Ready f d
  filled_ready = ready_raised f (HasPairs S) c d most (ready_raised f (HasEvents r) b c more (ready_none f b none))

  module _ (inside : PairsOfEvents (history_in r) S) where
    abbrev Q : ℕ → ℕ → Bool
    Q = past (history_in r) S

    before : (x y : ℕ) → Before (history_in r) S (suc x) (suc y) → Q x y ≡ true
    before = past_i (history_in r) S (record_well r) inside

    far : Transitive Q
    far = past_far (history_in r) S (record_well r) inside

    within : Within (earlier d) Q
    within = most.least Q far (more.least Q far (λ x y k. absurd (true≢false (sym k ∙ none x y))) (λ x y k. before x y (outright_e r S x y k))) (λ x y m. before x y (Before.stands m))

    -- all that the rules force then is exactly before
    pub filled_exact : FactsOf (history_in r) f → b.count ≡ count (history_in r) → HasEvents r (earlier c) → HasPairs S (earlier d) → (e : Closure N W) → Finished f d e → ExactHere (history_in r) S e
    filled_exact facts size given stands e done =
        exact_between (history_in r) S (record_well r) inside f d e facts (most.events ∙ more.events ∙ size) within
        (outright_based r S (earlier d) (λ x y k. most.keeps x y (given x y k)) stands) done
