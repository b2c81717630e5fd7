-- The order that places, again and again, the most preferred event whose predecessors are all placed: there is one, and only one.
use Rattle.std.proofs.Common.{◌≡◌, ℕ, zero, suc, ◌<◌, ◌≤◌, Bool, true, false, cond, not, ◌&&◌, T, eqb, ◌≢◌, ◌⊎◌, List, [], ◌∷◌, length, get_or, Some, sym, refl, ap, ◌∙◌, subst, inl, inr, arith, T_not, ext_get_or}
use mathlib.Core.List.Memᴰ
use mathlib.Core.List.{Memᴰ}
use native.Mathlib.Decide.{ℕ_discrete, dec_lt}
use lib.Dec.{not_T}
use Rattle.history.specs.Lists.{numbered}
use Rattle.history.proofs.Numbered.{numbered_in}
use Rattle.order.specs.History.{History, at, count, Number, WellFormed, PairsOfEvents}
use Rattle.order.specs.Orders.{times, place, Order}
use Rattle.order.specs.Before.{Before, Clash}
use Rattle.order.specs.Calls.{Preference, Preferred, Ready, Placed}
use Rattle.order.proofs.Tests.{test, is_true, true_is, and_l, and_r, and_i}
use Rattle.order.proofs.Places.{place_here, place_there, times_here, times_there, times_member, place_at, place_first, in_order, number_at, at_place}
use Rattle.order.proofs.Saturated.{before?, before_e, before_i, before_numbers}

-- A preference among the events of a history, by number.
module _ (h : History) (f : Preference) where
  named : (a : ℕ) → Number h a → numbered h.events a ≡ Some (at h a)
  named a n = numbered_in h.events a (record { kind = 0; session = 0; star = 0; revision = 0 }) (omega (arith, n.low)) n.high

  one_preferred : (a b : ℕ) → Number h a → Number h b → a ≢ b → Preferred f h a b ⊎ Preferred f h b a
  one_preferred a b m n ne = go (f.prefers b (at h b) a (at h a)) ((f.lawful h.events).one a b (at h a) (at h b) (named a m) (named b n) ne)
    where
      go : (v : Bool) → f.prefers a (at h a) b (at h b) ≡ not v → Preferred f h a b ⊎ T v
      go true e = inr tt
      go false e = inl (is_true e)

  more_preferred : (a b c : ℕ) → Number h a → Number h b → Number h c → Preferred f h a b → Preferred f h b c → Preferred f h a c
  more_preferred a b c m n o p q =
      is_true ((f.lawful h.events).chain a b c (at h a) (at h b) (at h c) (named a m) (named b n) (named c o)
      (true_is (f.prefers a (at h a) b (at h b)) p) (true_is (f.prefers b (at h b) c (at h c)) q))

  pub not_both : (a b : ℕ) → Number h a → Number h b → Preferred f h a b → Preferred f h b a → ⊥
  not_both a b m n p q = subst T ((f.lawful h.events).never a (at h a) (named a m)) (more_preferred a b a m n m p q)

  -- The most preferred member of a list that passes a test, or none passes.
  abbrev Most : (ℕ → Bool) → List ℕ → Type 0
  Most free xs = ((m : ℕ) × Memᴰ m xs × T (free m) × ((y : ℕ) → Memᴰ y xs → T (free y) → y ≢ m → Preferred f h m y)) ⊎ ((y : ℕ) → Memᴰ y xs → T (free y) → ⊥)

  most : (free : ℕ → Bool) (xs : List ℕ) → ((y : ℕ) → Memᴰ y xs → Number h y) → Most free xs
  most free [] events = inr (λ y m t. Memᴰ.not-nil m)
  most free (x ∷ xs) events = go (test (free x)) (most free xs (λ y m. events y (Memᴰ.tail m)))
    where
      go : T (free x) ⊎ (T (free x) → ⊥) → Most free xs → Most free (x ∷ xs)
      go (inl t) (inr q) = inl (x, Memᴰ.head refl, t, λ y k s ne. elim (Memᴰ.cases_cons k) [ inl e ↦ absurd (ne e) | inr j ↦ absurd (q y j s) ])
      go (inr n) (inr q) = inr (λ y k s. elim (Memᴰ.cases_cons k) [ inl e ↦ n (subst (λ z. T (free z)) e s) | inr j ↦ q y j s ])
      go (inr n) (inl r) = inl (
        r.0,
        Memᴰ.tail r.1,
        r.2,
        λ y k s ne. elim (Memᴰ.cases_cons k) [
          | inl e ↦ absurd (n (subst (λ z. T (free z)) e s))
          | inr j ↦ r.3 y j s ne
        ],
      )
      go (inl t) (inl r) = elim (ℕ_discrete x r.0) [
        | yes e ↦ inl (r.0, Memᴰ.tail r.1, r.2, λ y k s ne. elim (Memᴰ.cases_cons k) [ inl d ↦ absurd (ne (d ∙ e)) | inr j ↦ r.3 y j s ne ])
        | no d ↦ elim (one_preferred x r.0 (events x (Memᴰ.head refl)) (events r.0 (Memᴰ.tail r.1)) d) [
          | inl p ↦ inl (
            x,
            Memᴰ.head refl,
            t,
            λ y k s ne. elim (Memᴰ.cases_cons k) [
              | inl e ↦ absurd (ne e)
              | inr j ↦ elim (ℕ_discrete y r.0) [
                | yes e ↦ subst (λ z. Preferred f h x z) (sym e) p
                | no u ↦ more_preferred x r.0 y (events x (Memᴰ.head refl)) (events r.0 (Memᴰ.tail r.1)) (events y k) p (r.3 y j s u)
              ]
            ],
          )
          | inr p ↦ inl (
            r.0,
            Memᴰ.tail r.1,
            r.2,
            λ y k s ne. elim (Memᴰ.cases_cons k) [
              | inl e ↦ subst (λ z. Preferred f h r.0 z) (sym e) p
              | inr j ↦ r.3 y j s ne
            ],
          )
        ]
      ]

swap : (p q : Bool) (n : ℕ) → cond p (suc (cond q (suc n) n)) (cond q (suc n) n) ≡ cond q (suc (cond p (suc n) n)) (cond p (suc n) n)
swap true true n = refl
swap true false n = refl
swap false true n = refl
swap false false n = refl

-- A member of a list can be taken out, and the rest counted.
out : {m : ℕ} {xs : List ℕ} → Memᴰ m xs → (V : List ℕ) × (length xs ≡ suc (length V)) × ((i : ℕ) → times xs i ≡ times (m ∷ V) i)
out (Memᴰ.head {xs = xs} e) = (xs, refl, λ i. ap (λ z. times (z ∷ xs) i) (sym e))
out {m} (Memᴰ.tail {x = x} k) =
    let r = out k in
    (x ∷ r.0, ap suc r.1, λ i. ap (λ n. cond (eqb x i) (suc n) n) (r.2 i) ∙ swap (eqb x i) (eqb m i) (times r.0 i))

member_times : (xs : List ℕ) (i : ℕ) → Memᴰ i xs → 1 ≤ times xs i
member_times [] i m = absurd (Memᴰ.not-nil m)
member_times (x ∷ xs) i m = go (ℕ_discrete x i) (member_times xs i)
  where
    go : Dec (x ≡ i) → (Memᴰ i xs → 1 ≤ times xs i) → 1 ≤ times (x ∷ xs) i
    go (yes e) ih = rw (times_here x i xs e) (omega arith)
    go (no n) ih = rw (times_there x i xs n) (ih (elim (Memᴰ.cases_cons m) [ inl e ↦ absurd (n (sym e)) | inr k ↦ k ]))

-- A relation that is transitive and has no event before itself: events are placed one after the other.
module _ (h : History) (f : Preference) (R : ℕ → ℕ → Bool) (irr : (a : ℕ) → T (R a a) → ⊥) (tr : (a b c : ℕ) → T (R a b) → T (R b c) → T (R a c)) where
  -- No member of a list is before y.
  abbrev free : List ℕ → ℕ → Bool
  free [] y = true
  free (x ∷ xs) y = not (R x y) && free xs y

  free_e : (xs : List ℕ) (y : ℕ) → T (free xs y) → (a : ℕ) → Memᴰ a xs → T (R a y) → ⊥
  free_e [] y t a m s = Memᴰ.not-nil m
  free_e (x ∷ xs) y t a m s = go (Memᴰ.cases_cons m) (free_e xs y (and_r (not (R x y)) (free xs y) t) a)
    where
      go : (a ≡ x) ⊎ Memᴰ a xs → (Memᴰ a xs → T (R a y) → ⊥) → ⊥
      go (inl e) ih = T_not (R x y) (and_l (not (R x y)) (free xs y) t) (subst (λ z. T (R z y)) e s)
      go (inr k) ih = ih k s

  free_i : (xs : List ℕ) (y : ℕ) → ((a : ℕ) → Memᴰ a xs → T (R a y) → ⊥) → T (free xs y)
  free_i [] y q = tt
  free_i (x ∷ xs) y q = and_i (not (R x y)) (free xs y) (not_T (R x y) (q x (Memᴰ.head refl))) (free_i xs y (λ a m. q a (Memᴰ.tail m)))

  minimal : (x : ℕ) (xs : List ℕ) → (m : ℕ) × Memᴰ m (x ∷ xs) × ((a : ℕ) → Memᴰ a (x ∷ xs) → T (R a m) → ⊥)
  minimal x [] = (
    x,
    Memᴰ.head refl,
    λ a k t. elim (Memᴰ.cases_cons k) [
      | inl e ↦ irr x (subst (λ z. T (R z x)) e t)
      | inr j ↦ Memᴰ.not-nil j
    ],
  )
  minimal x (y ∷ ys) = go (minimal y ys)
    where
      go : (m : ℕ) × Memᴰ m (y ∷ ys) × ((a : ℕ) → Memᴰ a (y ∷ ys) → T (R a m) → ⊥) →
          (m : ℕ) × Memᴰ m (x ∷ (y ∷ ys)) × ((a : ℕ) → Memᴰ a (x ∷ (y ∷ ys)) → T (R a m) → ⊥)
      go r = elim (test (R x r.0)) [
        | inl u ↦ (
          x,
          Memᴰ.head refl,
          λ a k t. elim (Memᴰ.cases_cons k) [
            | inl e ↦ irr x (subst (λ z. T (R z x)) e t)
            | inr j ↦ r.2 a j (tr a x r.0 t u)
          ],
        )
        | inr n ↦ (
          r.0,
          Memᴰ.tail r.1,
          λ a k t. elim (Memᴰ.cases_cons k) [
            | inl e ↦ n (subst (λ z. T (R z r.0)) e t)
            | inr j ↦ r.2 a j t
          ],
        )
      ]

  next : (x : ℕ) (xs : List ℕ) → ((y : ℕ) → Memᴰ y (x ∷ xs) → Number h y) →
      (m : ℕ) × Memᴰ m (x ∷ xs) × T (free (x ∷ xs) m) × ((y : ℕ) → Memᴰ y (x ∷ xs) → T (free (x ∷ xs) y) → y ≢ m → Preferred f h m y)
  next x xs events = elim (most h f (free (x ∷ xs)) (x ∷ xs) events) [
    | inl r ↦ r
    | inr q ↦ let m = minimal x xs in absurd (q m.0 m.1 (free_i (x ∷ xs) m.0 m.2))
  ]

  -- An order of the members of xs, each placed when it is the most preferred that is free.
  record Line (xs σ : List ℕ) : Type 0 where
    same : (i : ℕ) → times σ i ≡ times xs i
    long : length σ ≡ length xs
    after : (k a : ℕ) → k < length σ → T (R a (get_or σ k 0)) → 1 ≤ times xs a → place σ a < k
    chosen : (k y : ℕ) → k < length σ → 1 ≤ times xs y → k ≤ place σ y → ((a : ℕ) → T (R a y) → 1 ≤ times xs a → place σ a < k) →
        y ≢ get_or σ k 0 → Preferred f h (get_or σ k 0) y

  module _ (xs : List ℕ) (once : (i : ℕ) → times xs i ≤ 1) (m : ℕ) (V : List ℕ) (low : T (free xs m))
      (top : (y : ℕ) → Memᴰ y xs → T (free xs y) → y ≢ m → Preferred f h m y)
      (len : length xs ≡ suc (length V)) (split : (i : ℕ) → times xs i ≡ times (m ∷ V) i) (σ : List ℕ) (r : Line V σ) where
    -- a member other than m is one of V, and m is none
    rest_e : (a : ℕ) → m ≢ a → 1 ≤ times xs a → 1 ≤ times V a
    rest_e a n p = rw (times_there m a V n) at (rw (split a) at p)

    rest_i : (a : ℕ) → 1 ≤ times V a → (m ≢ a) × (1 ≤ times xs a)
    rest_i a p = elim (ℕ_discrete m a) [
      | yes e ↦ let u = once a in let z : times xs a ≡ suc (times V a) = split a ∙ times_here m a V e in absurd (omega arith)
      | no n ↦ (n, rw (split a ∙ times_there m a V n) p)
    ]

    after_first : (k a : ℕ) → k < length (m ∷ σ) → T (R a (get_or (m ∷ σ) k 0)) → 1 ≤ times xs a → place (m ∷ σ) a < k
    after_first zero a l t p = absurd (free_e xs m low a (times_member xs a p) t)
    after_first (suc k) a l t p = elim (ℕ_discrete m a) [
      | yes e ↦ rw (place_here m a σ e) (omega arith)
      | no n ↦ let z = r.after k a (omega arith) t (rest_e a n p) in rw (place_there m a σ n) (omega arith)
    ]

    chosen_first : (k y : ℕ) → k < length (m ∷ σ) → 1 ≤ times xs y → k ≤ place (m ∷ σ) y → ((a : ℕ) → T (R a y) → 1 ≤ times xs a → place (m ∷ σ) a < k) →
        y ≢ get_or (m ∷ σ) k 0 → Preferred f h (get_or (m ∷ σ) k 0) y
    chosen_first zero y l p u ready ne =
        top y (times_member xs y p) (free_i xs y (λ a j t. let z = ready a t (member_times xs a j) in omega arith)) ne
    chosen_first (suc k) y l p u ready ne = elim (ℕ_discrete m y) [
      | yes e ↦ let z : suc k ≤ 0 = rw (place_here m y σ e) at u in absurd (omega arith)
      | no n ↦ let v : suc k ≤ suc (place σ y) = rw (place_there m y σ n) at u in
          r.chosen k y (omega arith) (rest_e y n p) (omega arith)
          (λ a t q. let s = rest_i a q in let w : suc (place σ a) < suc k = rw (place_there m a σ s.0) at (ready a t s.1) in omega arith) ne
    ]

    longer : Line xs (m ∷ σ)
    longer = record {
      same = λ i. ap (λ n. cond (eqb m i) (suc n) n) (r.same i) ∙ sym (split i);
      long = ap suc r.long ∙ sym len;
      after = after_first;
      chosen = chosen_first;
    }

  line : (k : ℕ) (xs : List ℕ) → length xs ≤ k → ((y : ℕ) → Memᴰ y xs → Number h y) → ((i : ℕ) → times xs i ≤ 1) → (σ : List ℕ) × Line xs σ
  line k [] l events once = ([], record { same = λ i. refl; long = refl; after = λ k a l t p. absurd (omega arith); chosen = λ k y l p u ready ne. absurd (omega arith) })
  line zero (x ∷ xs) l events once = absurd (omega arith)
  line (suc k) (x ∷ xs) l events once =
      let m = next x xs events in
      let r = out m.1 in
      let z = r.1 in
      let part : (i : ℕ) → 1 ≤ times r.0 i → 1 ≤ times (x ∷ xs) i = λ i p. elim (ℕ_discrete m.0 i) [
        | yes e ↦ let u = r.2 i ∙ times_here m.0 i r.0 e in rw u (omega arith)
        | no n ↦ rw (r.2 i ∙ times_there m.0 i r.0 n) p
      ] in
      let few : (i : ℕ) → times r.0 i ≤ 1 = λ i. let o = once i in elim (ℕ_discrete m.0 i) [
        | yes e ↦ let u = r.2 i ∙ times_here m.0 i r.0 e in omega arith
        | no n ↦ let u = r.2 i ∙ times_there m.0 i r.0 n in omega arith
      ] in
      let s = line k r.0 (omega arith) (λ y j. events y (times_member (x ∷ xs) y (part y (member_times r.0 y j)))) few in
      (m.0 ∷ s.0, longer (x ∷ xs) once m.0 r.0 m.2 m.3 r.1 r.2 s.0 s.1)

-- The numbers from 1 to n.
abbrev up_to : ℕ → List ℕ
up_to zero = []
up_to (suc n) = suc n ∷ up_to n

up_to_length : (n : ℕ) → length (up_to n) ≡ n
up_to_length zero = refl
up_to_length (suc n) = ap suc (up_to_length n)

up_to_none : (n i : ℕ) → n < i → times (up_to n) i ≡ 0
up_to_none zero i l = refl
up_to_none (suc n) i l = times_there (suc n) i (up_to n) (omega arith) ∙ up_to_none n i (omega arith)

up_to_once : (n i : ℕ) → 1 ≤ i → i ≤ n → times (up_to n) i ≡ 1
up_to_once zero i l u = absurd (omega arith)
up_to_once (suc n) i l u = go (ℕ_discrete (suc n) i) (up_to_once n i l)
  where
    go : Dec (suc n ≡ i) → (i ≤ n → times (up_to n) i ≡ 1) → times (suc n ∷ up_to n) i ≡ 1
    go (yes e) ih = times_here (suc n) i (up_to n) e ∙ ap suc (up_to_none n i (omega arith))
    go (no q) ih = times_there (suc n) i (up_to n) q ∙ ih (omega arith)

up_to_only : (n i : ℕ) → 1 ≤ times (up_to n) i → (1 ≤ i) × (i ≤ n)
up_to_only zero i l = absurd (omega arith)
up_to_only (suc n) i l = go (ℕ_discrete (suc n) i) (up_to_only n i)
  where
    go : Dec (suc n ≡ i) → (1 ≤ times (up_to n) i → (1 ≤ i) × (i ≤ n)) → (1 ≤ i) × (i ≤ suc n)
    go (yes e) ih = omega arith
    go (no q) ih = let r = ih (rw (times_there (suc n) i (up_to n) q) at l) in omega arith

up_to_most : (n i : ℕ) → times (up_to n) i ≤ 1
up_to_most n i = elim (dec_lt (times (up_to n) i) 1) [ yes l ↦ omega arith | no l ↦ let r = up_to_only n i (omega arith) in let z = up_to_once n i r.0 r.1 in omega arith ]

-- At a node without a clash there is an order that is placed so.
module _ (h : History) (Q : List (ℕ × ℕ)) (f : Preference) (well : WellFormed h) (inside : PairsOfEvents h Q) (calm : ¬ Clash h Q) where
  never : (a : ℕ) → T (before? h Q a a) → ⊥
  never a t = calm (a, before_e h Q a a t)

  chains : (a b c : ℕ) → T (before? h Q a b) → T (before? h Q b c) → T (before? h Q a c)
  chains a b c t u = before_i h Q well inside a c (Before.chain (before_e h Q a b t) (before_e h Q b c u))

  line_placed : (σ : List ℕ) → Line h f (before? h Q) never chains (up_to (count h)) σ → Placed h Q f σ
  line_placed σ l = record {
    order = ord;
    ready = λ k u. record {
      number = number_at h σ ord k u;
      unplaced = omega (arith, at_place h σ ord k u);
      predecessors = λ a p. l.after k a (omega (arith, long)) (before_i h Q well inside a (get_or σ k 0) p) (counted a (before_numbers h Q well inside p).0);
    };
    preferred = λ k y u d ne. l.chosen k y (omega (arith, long)) (counted y d.number) d.unplaced (λ a t p. d.predecessors a (before_e h Q a y t)) ne;
  }
    where
      ord : Order (count h) σ
      ord = record {
        long = l.long ∙ up_to_length (count h);
        each = λ i p q. l.same i ∙ up_to_once (count h) i p q;
        only = λ i p. up_to_only (count h) i (rw (l.same i) at p);
      }

      long : length σ ≡ count h
      long = ord.long

      counted : (y : ℕ) → Number h y → 1 ≤ times (up_to (count h)) y
      counted y m = omega (arith, up_to_once (count h) y m.low m.high)

  pub placing : (σ : List ℕ) × Placed h Q f σ
  placing =
      let l = line h f (before? h Q) never chains (length (up_to (count h))) (up_to (count h)) (omega arith)
      (λ y m. let r = up_to_only (count h) y (member_times (up_to (count h)) y m) in record { low = r.0; high = r.1 }) (up_to_most (count h)) in
      (l.0, line_placed l.0 l.1)

-- Where σ and τ agree on the first k places, what τ places next is ready in σ too.
module _ (h : History) (Q : List (ℕ × ℕ)) (σ τ : List ℕ) (o : Order (count h) σ) (p : Order (count h) τ) (k : ℕ) (l : k < count h)
    (agree : (j : ℕ) → j < k → get_or σ j 0 ≡ get_or τ j 0) where
  pub ready_there : ((a : ℕ) → Before h Q a (get_or τ k 0) → place τ a < k) → Ready h Q σ k (get_or τ k 0)
  ready_there behind = record { number = n; unplaced = omega (arith, late); predecessors = placed }
    where
      y : ℕ
      y = get_or τ k 0

      n : Number h y
      n = number_at h τ p k l

      lσ : length σ ≡ count h
      lσ = o.long

      lτ : length τ ≡ count h
      lτ = p.long

      at_k : place τ y ≡ k
      at_k = at_place h τ p k l

      late : ¬ (place σ y < k)
      late q = let z = place_first τ (place σ y) y (omega arith) (sym (agree (place σ y) q) ∙ place_at σ y (in_order h σ o y n)) in omega (arith, at_k)

      placed : (a : ℕ) → Before h Q a y → place σ a < k
      placed a b =
          let q : place τ a < k = behind a b in
          let z = place_first σ (place τ a) a (omega arith) (agree (place τ a) q ∙ place_at τ a (omega arith)) in
          omega arith

-- There is but one order that is placed so.
module _ (h : History) (Q : List (ℕ × ℕ)) (f : Preference) (σ τ : List ℕ) (s : Placed h Q f σ) (t : Placed h Q f τ) where
  same_next : (k : ℕ) → k < count h → ((j : ℕ) → j < k → get_or σ j 0 ≡ get_or τ j 0) → get_or σ k 0 ≡ get_or τ k 0
  same_next k l agree = elim (ℕ_discrete (get_or σ k 0) (get_or τ k 0)) [
    | yes e ↦ e
    | no ne ↦ absurd (not_both h f (get_or σ k 0) (get_or τ k 0) (number_at h σ s.order k l) (number_at h τ t.order k l)
        (s.preferred k (get_or τ k 0) l (ready_there h Q σ τ s.order t.order k l agree (t.ready k l).predecessors) (λ e. ne (sym e)))
        (t.preferred k (get_or σ k 0) l (ready_there h Q τ σ t.order s.order k l (λ j u. sym (agree j u)) (s.ready k l).predecessors) ne))
  ]

  same_below : (k : ℕ) → k ≤ count h → (j : ℕ) → j < k → get_or σ j 0 ≡ get_or τ j 0
  same_below zero l j u = absurd (omega arith)
  same_below (suc k) l j u = go (ℕ_discrete j k) (same_below k (omega arith))
    where
      go : Dec (j ≡ k) → ((j : ℕ) → j < k → get_or σ j 0 ≡ get_or τ j 0) → get_or σ j 0 ≡ get_or τ j 0
      go (yes e) ih = subst (λ z. get_or σ z 0 ≡ get_or τ z 0) (sym e) (same_next k (omega arith) ih)
      go (no n) ih = ih j (omega arith)

  pub placing_is_one : σ ≡ τ
  placing_is_one =
      let m = s.order.long in
      ext_get_or 0 σ τ (m ∙ sym t.order.long) (λ j u. same_below (count h) (omega arith) j (omega arith))
