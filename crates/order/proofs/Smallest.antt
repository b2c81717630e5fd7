-- Before has the rules, and lies in every relation that has them.
use Rattle.std.proofs.Common.{ℕ, Bool, T, List}
use Rattle.order.specs.History.{History}
use Rattle.order.specs.Before.{Before, HasRules}
use Rattle.order.specs.Theorems.{BeforeIsSmallest}

pub has_rules : (h : History) (S : List (ℕ × ℕ)) → HasRules h S (Before h S)
has_rules h S = record {
  kept = λ a b k. Before.kept k;
  stands = λ a b m. Before.stands m;
  taken = λ w r t. Before.taken t;
  start = λ r w f v e. Before.start f v e;
  missed = λ w w' r t v b. Before.missed t v b;
  passed = λ w w' r t v b. Before.passed t v b;
  chain = λ a b c p q. Before.chain p q;
}

pub smallest : {h : History} {S : List (ℕ × ℕ)} {a b : ℕ} (R : ℕ → ℕ → Bool) → HasRules h S (λ c d. T (R c d)) → Before h S a b → T (R a b)
smallest R c (Before.kept k) = c.kept _ _ k
smallest R c (Before.stands m) = c.stands _ _ m
smallest R c (Before.taken t) = c.taken _ _ t
smallest R c (Before.start f w e) = c.start _ _ f w e
smallest R c (Before.missed t v b) = c.missed _ _ _ t v (smallest R c b)
smallest R c (Before.passed t v b) = c.passed _ _ _ t v (smallest R c b)
smallest R c (Before.chain p q) = c.chain _ _ _ (smallest R c p) (smallest R c q)

pub before_is_smallest_lem : BeforeIsSmallest
before_is_smallest_lem h S = (has_rules h S, λ R c a b p. smallest R c p)
