-- At a node with a saturation: clashes and unordered pairs are decided, and there is a first unordered pair or none.
use Rattle.std.proofs.Common.{◌≡◌, ℕ, ◌<◌, ◌≤◌, Bool, not, ◌&&◌, T, ltb, ◌⊎◌, List, sym, subst, inl, inr, arith, ltb→lt, lt→ltb, T_not}
use native.Mathlib.Decide.{dec_lt}
use lib.Dec.{not_T}
use Rattle.order.specs.History.{History, count, Number, WellFormed, PairsOfEvents, TwoWrites}
use Rattle.order.specs.Before.{Before, Clash}
use Rattle.order.specs.Search.{Unordered, FirstUnordered, Complete}
use Rattle.order.specs.Opening.{some_up_to}
use Rattle.order.proofs.Tests.{test, and_l, and_r, and_i}
use Rattle.order.proofs.Upto.{some_e, some_i, least}
use Rattle.order.proofs.Pairs.{has}
use Rattle.order.proofs.Decide.{two?, two_i, two_e}
use Rattle.order.proofs.Saturated.{Saturation, saturation, before_of, of_before, before_numbers}
use Rattle.order.proofs.Sound.{turned}

-- By the list R some event is before itself; the pair (a, b) is unordered; the event a has a partner in an unordered pair.
abbrev pub clash_in : History → List (ℕ × ℕ) → Bool
clash_in h R = some_up_to (count h) (λ a. has R a a)

abbrev pub open_in : History → List (ℕ × ℕ) → ℕ → ℕ → Bool
open_in h R a b = two? h a b && (ltb a b && (not (has R a b) && not (has R b a)))

abbrev pub some_open : History → List (ℕ × ℕ) → ℕ → Bool
some_open h R a = some_up_to (count h) (open_in h R a)

module _ (h : History) (S : List (ℕ × ℕ)) (well : WellFormed h) (inside : PairsOfEvents h S) (s : Saturation h S) where
  abbrev R : List (ℕ × ℕ)
  R = s.pairs

  pub clash_in_e : T (clash_in h R) → Clash h S
  clash_in_e t = let r = some_e (count h) (λ a. has R a a) t in (r.0, before_of s r.0 r.0 r.3)

  pub clash_in_i : Clash h S → T (clash_in h R)
  clash_in_i c =
      let n = (before_numbers h S well inside c.1).0 in
      some_i (count h) (λ a. has R a a) c.0 n.low n.high (of_before well inside s c.0 c.0 c.1)

  pub open_e : (a b : ℕ) → Number h a → Number h b → T (open_in h R a b) → Unordered h S a b
  open_e a b m n t =
      let x = and_r (two? h a b) (ltb a b && (not (has R a b) && not (has R b a))) t in
      let y = and_r (ltb a b) (not (has R a b) && not (has R b a)) x in
      record {
        writes = two_e h a b m n (and_l (two? h a b) (ltb a b && (not (has R a b) && not (has R b a))) t);
        lower = ltb→lt a b (and_l (ltb a b) (not (has R a b) && not (has R b a)) x);
        not_before = λ p. T_not (has R a b) (and_l (not (has R a b)) (not (has R b a)) y) (of_before well inside s a b p);
        not_after = λ p. T_not (has R b a) (and_r (not (has R a b)) (not (has R b a)) y) (of_before well inside s b a p);
      }

  pub open_i : (a b : ℕ) → Unordered h S a b → T (open_in h R a b)
  open_i a b u =
      and_i (two? h a b) (ltb a b && (not (has R a b) && not (has R b a))) (two_i h a b u.writes)
      (and_i (ltb a b) (not (has R a b) && not (has R b a)) (lt→ltb a b u.lower)
      (and_i (not (has R a b)) (not (has R b a))
      (not_T (has R a b) (λ t. u.not_before (before_of s a b t)))
      (not_T (has R b a) (λ t. u.not_after (before_of s b a t)))))

  some_open_i : (a b : ℕ) → Unordered h S a b → T (some_open h R a)
  some_open_i a b u = let n = u.writes.second.number in some_i (count h) (open_in h R a) b n.low n.high (open_i a b u)

  pub first_open : T (some_up_to (count h) (some_open h R)) → (a : ℕ) × (b : ℕ) × FirstUnordered h S a b
  first_open t =
      let x = least (count h) (some_open h R) t in
      let a = x.0 in
      let y = least (count h) (open_in h R a) x.3 in
      let b = y.0 in (
        a,
        b,
        record {
          unordered = open_e a b (record { low = x.1; high = x.2 }) (record { low = y.1; high = y.2 }) y.3;
          first = λ c d u. compared c d a b u x.4 y.4;
        },
      )
    where
      compared : (c d a b : ℕ) → Unordered h S c d → ((j : ℕ) → 1 ≤ j → j < a → T (some_open h R j) → ⊥) → ((j : ℕ) → 1 ≤ j → j < b → T (open_in h R a j) → ⊥) →
          (a < c) ⊎ ((a ≡ c) × (b ≤ d))
      compared c d a b u p q = elim (dec_lt a c) [
        | yes l ↦ inl l
        | no l ↦ inr (
            let g : ¬ (c < a) = λ k. p c u.writes.first.number.low k (some_open_i c d u) in
            let e : a ≡ c = omega arith in
            let i : ¬ (d < b) = λ k. q d u.writes.second.number.low k (subst (λ z. T (open_in h R z d)) (sym e) (open_i c d u)) in
            (e, omega arith))
      ]

  pub none_open : (T (some_up_to (count h) (some_open h R)) → ⊥) → Complete h S
  none_open q a b v = elim (dec_lt a b) [
    | yes l ↦ one a b v l
    | no l ↦ let k : ¬ (a ≡ b) = v.two in elim (one b a (turned v) (omega arith)) [ inl p ↦ inr p | inr p ↦ inl p ]
  ]
    where
      one : (a b : ℕ) → TwoWrites h a b → a < b → Before h S a b ⊎ Before h S b a
      one a b v l = elim (test (has R a b)) [
        | inl t ↦ inl (before_of s a b t)
        | inr m ↦ elim (test (has R b a)) [
          | inl t ↦ inr (before_of s b a t)
          | inr n ↦ absurd (q (
              let u : Unordered h S a b = record { writes = v; lower = l; not_before = λ p. m (of_before well inside s a b p); not_after = λ p. n (of_before well inside s b a p) } in
              let i = v.first.number in
              some_i (count h) (some_open h R) a i.low i.high (some_open_i a b u)))
        ]
      ]

-- Clash, decided.
pub clash? : History → List (ℕ × ℕ) → Bool
clash? h S = clash_in h (saturation h S).pairs

pub clash_e : (h : History) (S : List (ℕ × ℕ)) → WellFormed h → PairsOfEvents h S → T (clash? h S) → Clash h S
unfolding clash?
clash_e h S w i t = clash_in_e h S w i (saturation h S) t

pub clash_i : (h : History) (S : List (ℕ × ℕ)) → WellFormed h → PairsOfEvents h S → Clash h S → T (clash? h S)
unfolding clash?
clash_i h S w i c = clash_in_i h S w i (saturation h S) c
