-- What a relation of events, numbered from 0, and the facts have to do with before, in which they are numbered from 1.
use Rattle.std.proofs.Common.{◌≡◌, ℕ, zero, suc, ◌≤◌, Bool, true, false, T, ◌↔◌, List, sym, ap, ◌∙◌, arith}
use mathlib.Core.List.{Memᴰ}
use Rattle.order.specs.History.{History, count, star_of, WellFormed, PairsOfEvents, Write, FromStart, TakesFrom, TwoWrites}
use Rattle.order.specs.Before.{Before, Clash, HasRules}
use Rattle.order.proofs.Tests.{is_true, true_is}
use Rattle.order.proofs.Smallest.{smallest}
use Rattle.order.proofs.Saturated.{before?, before_e, before_i}
use Rattle.saturation.specs.Orders.{Transitive, Within}
use Rattle.saturation.specs.Relations.{earlier, Idle}
use Rattle.saturation.specs.Laws.{Closed, Doomed}
use Rattle.saturation.specs.Nodes.{Exact, FactsOf}
use Rattle.saturation.specs.declared.relation.Relation.{Relation}
use Rattle.saturation.specs.declared.saturate.Facts.{Facts}

-- R has what the two rules of before force that look at the reads of a star.
pub record Ruled (h : History) (R : ℕ → ℕ → Bool) : Type 0 where
  pub missed : (w w' r : ℕ) → TakesFrom h (suc r) (suc w') → TwoWrites h (suc w) (suc w') → R w r ≡ true → R w w' ≡ true
  pub passed : (w w' r : ℕ) → TakesFrom h (suc r) (suc w) → TwoWrites h (suc w) (suc w') → R w w' ≡ true → R r w' ≡ true

-- R has the pairs that the history and S give outright.
pub record Based (h : History) (S : List (ℕ × ℕ)) (R : ℕ → ℕ → Bool) : Type 0 where
  pub kept : (x y : ℕ) → T (h.kept (suc x) (suc y)) → R x y ≡ true
  pub stands : (x y : ℕ) → Memᴰ (suc x, suc y) S → R x y ≡ true
  pub taken : (w r : ℕ) → TakesFrom h (suc r) (suc w) → R w r ≡ true
  pub start : (r w : ℕ) → FromStart h (suc r) → Write h (suc w) → star_of h (suc w) ≡ star_of h (suc r) → R r w ≡ true

-- A relation is closed under the facts of a history exactly when it has what the two rules force.
module _ {N W : ℕ} {h : History} {f : Facts N W} (facts : FactsOf h f) (R : ℕ → ℕ → Bool) where
  pub ruled_closed : Ruled h R → Closed f R
  ruled_closed r w = (
    λ x o k.
        let v = (facts.others w x).0 o in
        ap (λ z. R w z) (facts.from x v.0 v.1) ∙ r.missed w v.0 x v.1 v.2 k,
    λ q x m t k. r.passed w q x ((facts.takers w x).0 t) ((facts.mates w q).0 m) k,
  )

  pub closed_ruled : Closed f R → Ruled h R
  closed_ruled c = record {
    missed = λ w v x t two k. ap (λ z. R w z) (sym (facts.from x v t)) ∙ (c w).0 x ((facts.others w x).1 (v, t, two)) k;
    passed = λ w v x t two k. (c w).1 v x ((facts.mates w v).1 two) ((facts.takers w x).1 t) k;
  }

  pub closed_rules : Closed f R ↔ Ruled h R
  closed_rules = (closed_ruled, ruled_closed)

-- R, with the events numbered from 1.
abbrev pub numbered : (ℕ → ℕ → Bool) → ℕ → ℕ → Bool
numbered R zero b = false
numbered R (suc a) zero = false
numbered R (suc a) (suc b) = R a b

-- What holds of numbers that are successors holds of numbers from 1 on.
pub from_one : (P : ℕ → ℕ → Type 0) → ((x y : ℕ) → P (suc x) (suc y)) → (a b : ℕ) → 1 ≤ a → 1 ≤ b → P a b
from_one P p zero b l m = absurd (omega arith)
from_one P p (suc a) zero l m = absurd (omega arith)
from_one P p (suc a) (suc b) l m = p a b

numbered_far : (R : ℕ → ℕ → Bool) → Transitive R → (a b c : ℕ) → T (numbered R a b) → T (numbered R b c) → T (numbered R a c)
numbered_far R far zero b c k l = absurd k
numbered_far R far (suc a) zero c k l = absurd k
numbered_far R far (suc a) (suc b) zero k l = absurd l
numbered_far R far (suc a) (suc b) (suc c) k l = is_true (far a b c (true_is (R a b) k) (true_is (R b c) l))

-- A transitive relation with the pairs that are given outright and what the rules force has all that is before.
module _ {h : History} {S : List (ℕ × ℕ)} (well : WellFormed h) (inside : PairsOfEvents h S) (R : ℕ → ℕ → Bool) (far : Transitive R) (base : Based h S R) (rules : Ruled h R) where
  has_rules : HasRules h S (λ a b. T (numbered R a b))
  has_rules = record {
    kept = λ a b k. from_one (λ c d. T (h.kept c d) → T (numbered R c d)) (λ x y l. is_true (base.kept x y l)) a b (well.first a b k).low (well.second a b k).low k;
    stands = λ a b k. let n = inside a b k in from_one (λ c d. Memᴰ (c, d) S → T (numbered R c d)) (λ x y l. is_true (base.stands x y l)) a b n.0.low n.1.low k;
    taken = λ w r t. from_one (λ c d. TakesFrom h d c → T (numbered R c d)) (λ x y l. is_true (base.taken x y l)) w r t.write.number.low t.read.number.low t;
    start = λ r w s v e.
        from_one (λ c d. FromStart h c → Write h d → star_of h d ≡ star_of h c → T (numbered R c d)) (λ x y l m k. is_true (base.start x y l m k)) r w s.read.number.low v.number.low s v e;
    missed = λ w v r t two k.
        from_one (λ d r. TakesFrom h r d → TwoWrites h w d → T (numbered R w r) → T (numbered R w d))
        (λ d r. from_one (λ c _. TakesFrom h (suc r) (suc d) → TwoWrites h c (suc d) → T (numbered R c (suc r)) → T (numbered R c (suc d)))
        (λ c _ s p l. is_true (rules.missed c d r s p (true_is (R c r) l))) w 1 two.first.number.low (omega arith))
        v r two.second.number.low t.read.number.low t two k;
    passed = λ w v r t two k.
        from_one (λ d r. TakesFrom h r w → TwoWrites h w d → T (numbered R w d) → T (numbered R r d))
        (λ d r. from_one (λ c _. TakesFrom h (suc r) c → TwoWrites h c (suc d) → T (numbered R c (suc d)) → T (numbered R (suc r) (suc d)))
        (λ c _ s p l. is_true (rules.passed c d r s p (true_is (R c d) l))) w 1 two.first.number.low (omega arith))
        v r two.second.number.low t.read.number.low t two k;
    chain = numbered_far R far;
  }

  pub has_before : (x y : ℕ) → Before h S (suc x) (suc y) → R x y ≡ true
  has_before x y b = true_is (R x y) (smallest (numbered R) has_rules b)

-- Whether the event x is before the event y at the node S.
abbrev pub past : History → List (ℕ × ℕ) → ℕ → ℕ → Bool
past h S x y = before? h S (suc x) (suc y)

module _ (h : History) (S : List (ℕ × ℕ)) (well : WellFormed h) (inside : PairsOfEvents h S) where
  pub past_e : (x y : ℕ) → past h S x y ≡ true → Before h S (suc x) (suc y)
  past_e x y k = before_e h S (suc x) (suc y) (is_true k)

  pub past_i : (x y : ℕ) → Before h S (suc x) (suc y) → past h S x y ≡ true
  past_i x y b = true_is (past h S x y) (before_i h S well inside (suc x) (suc y) b)

  pub past_far : Transitive (past h S)
  past_far x y z k l = past_i x z (Before.chain (past_e x y k) (past_e y z l))

  pub past_ruled : Ruled h (past h S)
  past_ruled = record {
    missed = λ w v r t two k. past_i w v (Before.missed t two (past_e w r k));
    passed = λ w v r t two k. past_i r v (Before.passed t two (past_e w v k));
  }

  -- A relation between the pairs that are given outright and before, transitive and closed under the facts, is exactly before.
  pub exact_i : {N W T : ℕ} {f : Facts N W} → FactsOf h f → (o : Relation N W T) → o.count ≡ count h → Transitive (earlier o) → Within (earlier o) (past h S) → Based h S (earlier o) → Closed f (earlier o) → Idle o
      → Exact h S o
  exact_i facts o events far within base closed none = record {
    events = events;
    only = λ x y k. past_e x y (within x y k);
    all = has_before well inside (earlier o) far base (closed_ruled facts (earlier o) closed);
    idle = none;
  }

  -- Where every closed relation that has all of R has an event before itself, and R lies in before, there is a clash.
  pub doomed_clash : {N W : ℕ} {f : Facts N W} → FactsOf h f → (R : ℕ → ℕ → Bool) → Within R (past h S) → Doomed f R → Clash h S
  doomed_clash facts R within doom =
      let z = doom (past h S) past_far within (ruled_closed facts (past h S) past_ruled) in
      (suc z.0, past_e z.0 z.0 z.1)
