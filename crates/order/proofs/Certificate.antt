-- A search that is written down, with a saturation at each node, and an order that is written down: the tests that they are right compute.
use Rattle.std.proofs.Common.{◌≡◌, ℕ, suc, ◌+◌, ◌<◌, ◌≤◌, Bool, true, not, ◌&&◌, ◌||◌, T, eqb, ltb, leb, ◌≢◌, ◌⊎◌, List, [], ◌∷◌, length, get_or, sym, subst, inl, inr, arith, eqb→eq, ltb→lt, lt→ltb, leb→le, T_not}
use mathlib.Core.List.Memᴰ
use mathlib.Core.List.{Memᴰ}
use Rattle.order.specs.History.{History, at, count, Number, WellFormed, PairsOfEvents}
use Rattle.order.specs.Orders.{times, place, Order}
use Rattle.order.specs.Before.{Clash}
use Rattle.order.specs.Search.{Search, Outcome, fails, succeeds, FirstUnordered, Complete}
use Rattle.order.specs.Opening.{some_up_to}
use Rattle.order.specs.Calls.{Preference, Placed, is_number}
use Rattle.order.specs.Theorems.{HistoriesAreWellFormed}
use Rattle.order.proofs.Tests.{or_elim, and_l, and_r, and_i, imp, imp_e, imp_i}
use Rattle.order.proofs.Upto.{every, every_e, every_i}
use Rattle.order.proofs.Pairs.{has}
use Rattle.order.proofs.Decide.{number_e}
use Rattle.order.proofs.Places.{times_member, place_at, in_order, number_at, at_place}
use Rattle.order.proofs.Saturated.{justified, Numbers, supported, supported_sound, Saturation, before_of, of_before, before_numbers}
use Rattle.order.proofs.Nodes.{clash_in, clash_in_i, open_in, open_e, open_i, some_open, none_open}

pub well_formed : HistoriesAreWellFormed
well_formed es keeps = record { first = λ a b t. grind arith; second = λ a b t. grind arith; lower = λ a b t. grind arith }

-- Every pair of numbers from 1 to n passes a test.
abbrev every_pair : ℕ → (ℕ → ℕ → Bool) → Bool
every_pair n f = every n (λ a. every n (f a))

every_pair_e : (h : History) (f : ℕ → ℕ → Bool) → T (every_pair (count h) f) → (a b : ℕ) → Number h a → Number h b → T (f a b)
every_pair_e h f t a b m n = every_e (count h) (f a) (every_e (count h) (λ x. every (count h) (f x)) t a m.low m.high) b n.low n.high

-- The pairs of a list are pairs of events.
abbrev pub event_pairs : History → List (ℕ × ℕ) → Bool
event_pairs h [] = true
event_pairs h (q ∷ qs) = Numbers h q.0 q.1 && event_pairs h qs

pub event_pairs_e : (h : History) (S : List (ℕ × ℕ)) → T (event_pairs h S) → PairsOfEvents h S
event_pairs_e h [] t a b m = absurd (Memᴰ.not-nil m)
event_pairs_e h (q ∷ qs) t a b m = go (event_pairs_e h qs (and_r (Numbers h q.0 q.1) (event_pairs h qs) t)) (Memᴰ.cases_cons m)
  where
    front : T (Numbers h q.0 q.1)
    front = and_l (Numbers h q.0 q.1) (event_pairs h qs) t

    go : PairsOfEvents h qs → (◌≡◌ {A = ℕ × ℕ} (a, b) q) ⊎ Memᴰ (a, b) qs → Number h a × Number h b
    go ih (inl e) = subst (λ (p : ℕ × ℕ). Number h p.0 × Number h p.1) (sym e)
        (number_e h q.0 (and_l (is_number h q.0) (is_number h q.1) front), number_e h q.1 (and_r (is_number h q.0) (is_number h q.1) front))
    go ih (inr k) = ih a b k

-- A node that has no clash, with its saturation R.
pub record Node (h : History) (S R : List (ℕ × ℕ)) : Type 0 where
  pub well : WellFormed h
  pub inside : T (event_pairs h S)
  pub supports : T (supported h S R)
  pub closed : T (every_pair (count h) (λ a b. imp (justified h S (has R) a b) (has R a b)))
  pub no_clash : T (not (clash_in h R))

-- No pair is unordered, by the list R; the first that is unordered is (a, b).
abbrev complete_in : History → List (ℕ × ℕ) → Bool
complete_in h R = not (some_up_to (count h) (some_open h R))

abbrev first_in : History → List (ℕ × ℕ) → ℕ → ℕ → Bool
first_in h R a b = Numbers h a b && (open_in h R a b && every_pair (count h) (λ c d. imp (open_in h R c d) (ltb a c || (eqb a c && leb b d))))

module _ (h : History) (S R : List (ℕ × ℕ)) (n : Node h S R) where
  inside : PairsOfEvents h S
  inside = event_pairs_e h S n.inside

  abbrev sat : Saturation h S
  sat = record {
    pairs = R;
    supports = n.supports;
    closed = λ a b x y. imp_e (justified h S (has R) a b) (has R a b) (every_pair_e h (λ a b. imp (justified h S (has R) a b) (has R a b)) n.closed a b x y);
  }

  calm : ¬ Clash h S
  calm c = T_not (clash_in h R) n.no_clash (clash_in_i h S n.well inside sat c)

  full : T (complete_in h R) → Complete h S
  full t = none_open h S n.well inside sat (T_not (some_up_to (count h) (some_open h R)) t)

  first_of : (a b : ℕ) → T (first_in h R a b) → FirstUnordered h S a b
  first_of a b t = record {
    unordered = open_e h S n.well inside sat a b (number_e h a (and_l (is_number h a) (is_number h b) front)) (number_e h b (and_r (is_number h a) (is_number h b) front))
        (and_l (open_in h R a b) rest back);
    first = λ c d u. says c d (imp_e (open_in h R c d) (ltb a c || (eqb a c && leb b d))
        (every_pair_e h (λ c d. imp (open_in h R c d) (ltb a c || (eqb a c && leb b d))) (and_r (open_in h R a b) rest back) c d u.writes.first.number u.writes.second.number)
        (open_i h S n.well inside sat c d u));
  }
    where
      rest : Bool
      rest = every_pair (count h) (λ c d. imp (open_in h R c d) (ltb a c || (eqb a c && leb b d)))

      front : T (Numbers h a b)
      front = and_l (Numbers h a b) (open_in h R a b && rest) t

      back : T (open_in h R a b && rest)
      back = and_r (Numbers h a b) (open_in h R a b && rest) t

      says : (c d : ℕ) → T (ltb a c || (eqb a c && leb b d)) → (a < c) ⊎ ((a ≡ c) × (b ≤ d))
      says c d x = or_elim (ltb a c) (eqb a c && leb b d) (λ y. inl (ltb→lt a c y))
          (λ y. inr (eqb→eq a c (and_l (eqb a c) (leb b d) y), leb→le b d (and_r (eqb a c) (leb b d) y))) x

-- A written search: at each node a list of pairs, and what comes of it.
pub data Tree : Type 0 where
  clashes : List (ℕ × ℕ) → ℕ → Tree
  succeeds_here : List (ℕ × ℕ) → Tree
  lower_first : List (ℕ × ℕ) → ℕ → ℕ → Tree → Tree
  then_higher : List (ℕ × ℕ) → ℕ → ℕ → Tree → Tree → Tree

abbrev pub nodes : Tree → ℕ
nodes (clashes R a) = 1
nodes (succeeds_here R) = 1
nodes (lower_first R a b x) = 1 + nodes x
nodes (then_higher R a b x y) = 1 + nodes x + nodes y

abbrev pub Checks : History → List (ℕ × ℕ) → Tree → Outcome → Type 0
Checks h S (clashes R a) o = T (supported h S R) × T (has R a a) × (o ≡ fails)
Checks h S (succeeds_here R) o = Node h S R × T (complete_in h R) × (o ≡ succeeds S)
Checks h S (lower_first R a b x) o = Node h S R × T (first_in h R a b) × ((Q : List (ℕ × ℕ)) × (o ≡ succeeds Q) × Checks h ((a, b) ∷ S) x (succeeds Q))
Checks h S (then_higher R a b x y) o = Node h S R × T (first_in h R a b) × Checks h ((a, b) ∷ S) x fails × Checks h ((b, a) ∷ S) y o

pub searched : (h : History) (S : List (ℕ × ℕ)) (x : Tree) (o : Outcome) → Checks h S x o → Search h S (nodes x) o
searched h S (clashes R a) o c = subst (λ z. Search h S 1 z) (sym c.2) (Search.clash (a, supported_sound h S R c.0 a a c.1))
searched h S (succeeds_here R) o c = subst (λ z. Search h S 1 z) (sym c.2) (Search.success (calm h S R c.0) (full h S R c.0 c.1))
searched h S (lower_first R a b x) o c =
    subst (λ z. Search h S (1 + nodes x) z) (sym c.2.1) (Search.lower (calm h S R c.0) (first_of h S R c.0 a b c.1) (searched h ((a, b) ∷ S) x (succeeds c.2.0) c.2.2))
searched h S (then_higher R a b x y) o c =
    Search.higher (calm h S R c.0) (first_of h S R c.0 a b c.1) (searched h ((a, b) ∷ S) x fails c.2) (searched h ((b, a) ∷ S) y o c.3)

-- Every member of a list is the number of an event.
abbrev pub listed : History → List ℕ → Bool
listed h [] = true
listed h (x ∷ xs) = is_number h x && listed h xs

listed_e : (h : History) (xs : List ℕ) → T (listed h xs) → (i : ℕ) → Memᴰ i xs → Number h i
listed_e h [] t i m = absurd (Memᴰ.not-nil m)
listed_e h (x ∷ xs) t i m = go (listed_e h xs (and_r (is_number h x) (listed h xs) t)) (Memᴰ.cases_cons m)
  where
    go : ((i : ℕ) → Memᴰ i xs → Number h i) → (i ≡ x) ⊎ Memᴰ i xs → Number h i
    go ih (inl e) = subst (λ z. Number h z) (sym e) (number_e h x (and_l (is_number h x) (listed h xs) t))
    go ih (inr k) = ih i k

-- The places are counted from 1 here: y is ready for the place k, and is not what stands there.
abbrev ready_in : History → List (ℕ × ℕ) → List ℕ → ℕ → ℕ → Bool
ready_in h R σ k y = every (count h) (λ a. imp (has R a y) (ltb (suc (place σ a)) k))

abbrev others_in : History → List (ℕ × ℕ) → List ℕ → ℕ → ℕ → Bool
others_in h R σ k y = leb k (place σ y) && ready_in h R σ k y

-- The order σ is placed at the node Q, whose saturation is R.
pub record Places (h : History) (Q R : List (ℕ × ℕ)) (f : Preference) (σ : List ℕ) : Type 0 where
  pub node : Node h Q R
  pub long : length σ ≡ count h
  pub each : T (every (count h) (λ i. eqb (times σ i) 1))
  pub only : T (listed h σ)
  pub keeps : T (every_pair (count h) (λ a b. imp (has R a b) (ltb (place σ a) (place σ b))))
  pub preferred : T (every_pair (count h) (λ k y. imp (others_in h R σ k y) (f.prefers (get_or (0 ∷ σ) k 0) (at h (get_or (0 ∷ σ) k 0)) y (at h y))))

pub placed : (h : History) (Q R : List (ℕ × ℕ)) (f : Preference) (σ : List ℕ) → Places h Q R f σ → Placed h Q f σ
placed h Q R f σ c = record {
  order = ord;
  ready = λ k l. record {
    number = number_at h σ ord k l;
    unplaced = omega (arith, at_place h σ ord k l);
    predecessors = λ a p. let n = before_numbers h Q c.node.well i p in
        omega (
          arith,
          at_place h σ ord k l,
          ltb→lt (place σ a) (place σ (get_or σ k 0)) (imp_e (has R a (get_or σ k 0)) (ltb (place σ a) (place σ (get_or σ k 0)))
              (every_pair_e h (λ a b. imp (has R a b) (ltb (place σ a) (place σ b))) c.keeps a (get_or σ k 0) n.0 n.1) (of_before c.node.well i z a (get_or σ k 0) p)),
        );
  };
  preferred = λ k y l d ne. imp_e (others_in h R σ (suc k) y) (f.prefers (get_or σ k 0) (at h (get_or σ k 0)) y (at h y))
      (every_pair_e h (λ k y. imp (others_in h R σ k y) (f.prefers (get_or (0 ∷ σ) k 0) (at h (get_or (0 ∷ σ) k 0)) y (at h y))) c.preferred (suc k) y
      (record { low = omega arith; high = l }) d.number)
      (and_i (leb (suc k) (place σ y)) (ready_in h R σ (suc k) y) (lt→ltb k (place σ y) (later k y d.number d.unplaced ne))
      (every_i (count h) (λ a. imp (has R a y) (ltb (suc (place σ a)) (suc k)))
      (λ a p q. imp_i (has R a y) (ltb (suc (place σ a)) (suc k)) (λ x. lt→ltb (suc (place σ a)) (suc k) (let w = d.predecessors a (before_of z a y x) in omega arith)))));
}
  where
    ord : Order (count h) σ
    ord = record {
      long = c.long;
      each = λ i l u. eqb→eq (times σ i) 1 (every_e (count h) (λ i. eqb (times σ i) 1) c.each i l u);
      only = λ i l. let n = listed_e h σ c.only i (times_member σ i l) in (n.low, n.high);
    }

    later : (k y : ℕ) → Number h y → k ≤ place σ y → y ≢ get_or σ k 0 → k < place σ y
    later k y n l ne =
        let d : place σ y ≢ k = λ e. ne (sym (subst (λ j. get_or σ j 0 ≡ y) e (place_at σ y (in_order h σ ord y n)))) in omega arith

    i : PairsOfEvents h Q
    i = inside h Q R c.node

    z : Saturation h Q
    z = sat h Q R c.node
