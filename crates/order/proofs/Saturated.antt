-- A list of pairs that is supported and closed has just the pairs that are before one another; there is such a list for
-- every well_formed history, so before is decided.
use Rattle.std.proofs.Common.{◌≡◌, ℕ, zero, suc, ◌≤◌, Bool, true, ◌&&◌, ◌||◌, T, eqb, ◌⊎◌, List, [], ◌∷◌, length, sym, subst, inl, inr, arith}
use mathlib.Core.List.{Memᴰ}
use Rattle.order.specs.History.{History, count, Number, WellFormed, PairsOfEvents}
use Rattle.order.specs.Before.{Before, HasRules}
use Rattle.order.specs.Opening.{some_up_to}
use Rattle.order.specs.Calls.{is_number}
use Rattle.order.proofs.Tests.{or_elim, or_l, or_r, and_l, and_r, and_i}
use Rattle.order.proofs.Upto.{some_e, some_i}
use Rattle.order.proofs.Pairs.{has, has_i, has_e, same_pair, take_out, find, grid, grid_has}
use Rattle.order.proofs.Decide.{number_e, number_i, takes?, takes_i, takes_e, start?, start_i, start_e, two?, two_i, two_e}
use Rattle.order.proofs.Smallest.{smallest}

-- One of the rules gives the pair (a, b), from the pairs of R; the last three by some third event.
abbrev missed? : History → (ℕ → ℕ → Bool) → ℕ → ℕ → ℕ → Bool
missed? h R a b r = takes? h r b && (two? h a b && R a r)

abbrev passed? : History → (ℕ → ℕ → Bool) → ℕ → ℕ → ℕ → Bool
passed? h R a b w = takes? h a w && (two? h w b && R w b)

abbrev chain? : (ℕ → ℕ → Bool) → ℕ → ℕ → ℕ → Bool
chain? R a b c = R a c && R c b

abbrev pub justified : History → List (ℕ × ℕ) → (ℕ → ℕ → Bool) → ℕ → ℕ → Bool
justified h S R a b =
    h.kept a b || (has S a b || (takes? h b a || (start? h a b ||
    (some_up_to (count h) (missed? h R a b) || (some_up_to (count h) (passed? h R a b) || some_up_to (count h) (chain? R a b))))))

abbrev pub Numbers : History → ℕ → ℕ → Bool
Numbers h a b = is_number h a && is_number h b

first_of : (h : History) (a b : ℕ) → T (Numbers h a b) → Number h a
first_of h a b t = number_e h a (and_l (is_number h a) (is_number h b) t)

second_of : (h : History) (a b : ℕ) → T (Numbers h a b) → Number h b
second_of h a b t = number_e h b (and_r (is_number h a) (is_number h b) t)

numbers_i : (h : History) (a b : ℕ) → Number h a → Number h b → T (Numbers h a b)
numbers_i h a b m n = and_i (is_number h a) (is_number h b) (number_i h a m) (number_i h b n)

num : {h : History} {i : ℕ} → 1 ≤ i → i ≤ count h → Number h i
num l u = record { low = l; high = u }

-- What is justified by pairs that are before one another is before.
module _ (h : History) (S : List (ℕ × ℕ)) (R : ℕ → ℕ → Bool) where
  from : (a b : ℕ) → Number h a → Number h b → ((c d : ℕ) → T (R c d) → Before h S c d) → T (justified h S R a b) → Before h S a b
  from a b m n ih =
      or_elim (h.kept a b) _ (λ x. Before.kept x) (
      or_elim (has S a b) _ (λ x. Before.stands (has_e S a b x)) (
      or_elim (takes? h b a) _ (λ x. Before.taken (takes_e h b a n m x)) (
      or_elim (start? h a b) _ (λ x. let s = start_e h a b m n x in Before.start s.0 s.1 s.2) (
      or_elim (some_up_to (count h) (missed? h R a b)) _ by_missed (
      or_elim (some_up_to (count h) (passed? h R a b)) _ by_passed by_chain)))))
    where
      by_missed : T (some_up_to (count h) (missed? h R a b)) → Before h S a b
      by_missed x =
          let s = some_e (count h) (missed? h R a b) x in
          let r = s.0 in
          let u = and_r (takes? h r b) (two? h a b && R a r) s.3 in
          Before.missed (takes_e h r b (num s.1 s.2) n (and_l (takes? h r b) (two? h a b && R a r) s.3))
          (two_e h a b m n (and_l (two? h a b) (R a r) u)) (ih a r (and_r (two? h a b) (R a r) u))

      by_passed : T (some_up_to (count h) (passed? h R a b)) → Before h S a b
      by_passed x =
          let s = some_e (count h) (passed? h R a b) x in
          let w = s.0 in
          let k = num {h = h} s.1 s.2 in
          let u = and_r (takes? h a w) (two? h w b && R w b) s.3 in
          Before.passed (takes_e h a w m k (and_l (takes? h a w) (two? h w b && R w b) s.3))
          (two_e h w b k n (and_l (two? h w b) (R w b) u)) (ih w b (and_r (two? h w b) (R w b) u))

      by_chain : T (some_up_to (count h) (chain? R a b)) → Before h S a b
      by_chain x =
          let s = some_e (count h) (chain? R a b) x in
          let c = s.0 in
          Before.chain (ih a c (and_l (R a c) (R c b) s.3)) (ih c b (and_r (R a c) (R c b) s.3))

-- Each pair is of events, and is justified by those that follow it in the list.
abbrev pub supported : History → List (ℕ × ℕ) → List (ℕ × ℕ) → Bool
supported h S [] = true
supported h S (q ∷ qs) = (Numbers h q.0 q.1 && justified h S (has qs) q.0 q.1) && supported h S qs

pub supported_sound : (h : History) (S R : List (ℕ × ℕ)) → T (supported h S R) → (a b : ℕ) → T (has R a b) → Before h S a b
supported_sound h S [] t a b m = absurd m
supported_sound h S (q ∷ qs) t a b m = go (supported_sound h S qs)
  where
    one : Bool
    one = Numbers h q.0 q.1 && justified h S (has qs) q.0 q.1

    front : T one
    front = and_l one (supported h S qs) t

    numbers : T (Numbers h q.0 q.1)
    numbers = and_l (Numbers h q.0 q.1) (justified h S (has qs) q.0 q.1) front

    go : (T (supported h S qs) → (a b : ℕ) → T (has qs a b) → Before h S a b) → Before h S a b
    go ih =
        let ih' = ih (and_r one (supported h S qs) t) in
        let k : Before h S q.0 q.1 = from h S (has qs) q.0 q.1 (first_of h q.0 q.1 numbers) (second_of h q.0 q.1 numbers) ih'
        (and_r (Numbers h q.0 q.1) (justified h S (has qs) q.0 q.1) front) in
        or_elim (eqb q.0 a && eqb q.1 b) (has qs a b)
        (λ s. subst (λ (p : ℕ × ℕ). Before h S p.0 p.1) (sym (same_pair q a b s)) k)
        (ih' a b) m

-- What is justified by R is in R.
abbrev pub Closed : History → List (ℕ × ℕ) → (ℕ → ℕ → Bool) → Type 0
Closed h S R = (a b : ℕ) → Number h a → Number h b → T (justified h S R a b) → T (R a b)

module _ (h : History) (S : List (ℕ × ℕ)) (well : WellFormed h) (inside : PairsOfEvents h S) where
  -- What is before something, or after it, is an event.
  pub before_numbers : {a b : ℕ} → Before h S a b → Number h a × Number h b
  before_numbers (Before.kept {a = a} {b = b} k) = (well.first a b k, well.second a b k)
  before_numbers (Before.stands m) = inside _ _ m
  before_numbers (Before.taken t) = (t.write.number, t.read.number)
  before_numbers (Before.start f w e) = (f.read.number, w.number)
  before_numbers (Before.missed t v b) = (v.first.number, v.second.number)
  before_numbers (Before.passed t v b) = (t.read.number, v.second.number)
  before_numbers (Before.chain b c) = ((before_numbers b).0, (before_numbers c).1)

  module _ (R : ℕ → ℕ → Bool) (closed : Closed h S R) where
    abbrev within : ℕ → ℕ → Bool
    within a b = Numbers h a b && R a b

    within_i : (a b : ℕ) → Number h a → Number h b → T (justified h S R a b) → T (within a b)
    within_i a b m n j = and_i (Numbers h a b) (R a b) (numbers_i h a b m n) (closed a b m n j)

    late : (a b : ℕ) → T (some_up_to (count h) (missed? h R a b) || (some_up_to (count h) (passed? h R a b) || some_up_to (count h) (chain? R a b))) → T (justified h S R a b)
    late a b t = or_r (h.kept a b) _ (or_r (has S a b) _ (or_r (takes? h b a) _ (or_r (start? h a b) _ t)))

    rules : HasRules h S (λ a b. T (within a b))
    rules = record {
      kept = λ a b k. within_i a b (well.first a b k) (well.second a b k) (or_l (h.kept a b) _ k);
      stands = λ a b m. let n = inside a b m in within_i a b n.0 n.1 (or_r (h.kept a b) _ (or_l (has S a b) _ (has_i S a b m)));
      taken = λ w r t. within_i w r t.write.number t.read.number
          (or_r (h.kept w r) _ (or_r (has S w r) _ (or_l (takes? h r w) _ (takes_i h r w t))));
      start = λ r w f v e. within_i r w f.read.number v.number
          (or_r (h.kept r w) _ (or_r (has S r w) _ (or_r (takes? h w r) _ (or_l (start? h r w) _ (start_i h r w f v e)))));
      missed = λ w w' r t v b. let n = t.read.number in
          within_i w w' v.first.number v.second.number (late w w' (or_l (some_up_to (count h) (missed? h R w w')) _
          (some_i (count h) (missed? h R w w') r n.low n.high
          (and_i (takes? h r w') _ (takes_i h r w' t) (and_i (two? h w w') _ (two_i h w w' v) (and_r (Numbers h w r) (R w r) b))))));
      passed = λ w w' r t v b. let n = t.write.number in
          within_i r w' t.read.number v.second.number (late r w' (or_r (some_up_to (count h) (missed? h R r w')) _ (or_l (some_up_to (count h) (passed? h R r w')) _
          (some_i (count h) (passed? h R r w') w n.low n.high
          (and_i (takes? h r w) _ (takes_i h r w t) (and_i (two? h w w') _ (two_i h w w' v) (and_r (Numbers h w w') (R w w') b)))))));
      chain = λ a c b p q.
          let m = and_l (Numbers h a c) (R a c) p in
          let n = and_l (Numbers h c b) (R c b) q in
          let k = second_of h a c m in
          within_i a b (first_of h a c m) (second_of h c b n) (late a b (or_r (some_up_to (count h) (missed? h R a b)) _ (or_r (some_up_to (count h) (passed? h R a b)) _
          (some_i (count h) (chain? R a b) c k.low k.high (and_i (R a c) _ (and_r (Numbers h a c) (R a c) p) (and_r (Numbers h c b) (R c b) q))))));
    }

    pub contained : (a b : ℕ) → Before h S a b → T (R a b)
    contained a b p = and_r (Numbers h a b) (R a b) (smallest within rules p)

-- A list that is supported and closed.
pub record Saturation (h : History) (S : List (ℕ × ℕ)) : Type 0 where
  pub pairs : List (ℕ × ℕ)
  pub supports : T (supported h S pairs)
  pub closed : Closed h S (has pairs)

-- Pairs of events are added while a rule gives a new one.
module _ (h : History) (S : List (ℕ × ℕ)) where
  abbrev news : List (ℕ × ℕ) → ℕ × ℕ → Bool
  news R q = Numbers h q.0 q.1 && justified h S (has R) q.0 q.1

  Covers : List (ℕ × ℕ) → List (ℕ × ℕ) → Type 0
  Covers U R = (a b : ℕ) → Number h a → Number h b → T (has R a b) ⊎ Memᴰ (a, b) U

  -- no member of U is news: R is closed
  rests : (U R : List (ℕ × ℕ)) → Covers U R → T (supported h S R) → ((q : ℕ × ℕ) → Memᴰ q U → T (news R q) → ⊥) → Saturation h S
  unfolding Covers
  rests U R c t none = record {
    pairs = R;
    supports = t;
    closed = λ a b m n j. elim (c a b m n) [
      | inl x ↦ x
      | inr y ↦ absurd (none (a, b) y (and_i (Numbers h a b) (justified h S (has R) a b) (numbers_i h a b m n) j))
    ];
  }

  covers_more : (U V R : List (ℕ × ℕ)) (q : ℕ × ℕ) → ((x : ℕ × ℕ) → Memᴰ x U → (x ≡ q) ⊎ Memᴰ x V) → Covers U R → Covers V (q ∷ R)
  unfolding Covers
  covers_more U V R q f c a b m n = elim (c a b m n) [
    | inl x ↦ inl (or_r (eqb q.0 a && eqb q.1 b) (has R a b) x)
    | inr y ↦ elim (f (a, b) y) [ inl d ↦ inl (has_i (q ∷ R) a b (Memᴰ.head d)) | inr k ↦ inr k ]
  ]

  saturate : (k : ℕ) (U R : List (ℕ × ℕ)) → length U ≤ k → Covers U R → T (supported h S R) → Saturation h S
  saturate zero U R l c t = rests U R c t (λ q m x. let r = take_out m in let z = r.1 in omega arith)
  saturate (suc k) U R l c t = go (find (news R) U) (saturate k)
    where
      go : ((q : ℕ × ℕ) × Memᴰ q U × T (news R q)) ⊎ ((q : ℕ × ℕ) → Memᴰ q U → T (news R q) → ⊥) →
          ((U R : List (ℕ × ℕ)) → length U ≤ k → Covers U R → T (supported h S R) → Saturation h S) → Saturation h S
      go (inl f) ih =
          let q = f.0 in
          let r = take_out f.1 in
          let z = r.1 in
          ih r.0 (q ∷ R) (omega arith) (covers_more U r.0 R q r.2 c) (and_i (news R q) (supported h S R) f.2 t)
      go (inr n) ih = rests U R c t n

  pub saturation : Saturation h S
  unfolding Covers
  saturation = saturate (length (grid (count h) (count h))) (grid (count h) (count h)) [] (omega arith)
      (λ a b m n. inr (grid_has (count h) (count h) a b m.low m.high n.low n.high)) tt

pub before_of : {h : History} {S : List (ℕ × ℕ)} (s : Saturation h S) (a b : ℕ) → T (has s.pairs a b) → Before h S a b
before_of {h} {S} s a b t = supported_sound h S s.pairs s.supports a b t

pub of_before : {h : History} {S : List (ℕ × ℕ)} → WellFormed h → PairsOfEvents h S → (s : Saturation h S) (a b : ℕ) → Before h S a b → T (has s.pairs a b)
of_before {h} {S} w i s a b p = contained h S w i (has s.pairs) s.closed a b p

-- Before, decided.
pub before? : History → List (ℕ × ℕ) → ℕ → ℕ → Bool
before? h S a b = has (saturation h S).pairs a b

pub before_e : (h : History) (S : List (ℕ × ℕ)) (a b : ℕ) → T (before? h S a b) → Before h S a b
unfolding before?
before_e h S a b t = before_of (saturation h S) a b t

pub before_i : (h : History) (S : List (ℕ × ℕ)) → WellFormed h → PairsOfEvents h S → (a b : ℕ) → Before h S a b → T (before? h S a b)
unfolding before?
before_i h S w i a b p = of_before w i (saturation h S) a b p
