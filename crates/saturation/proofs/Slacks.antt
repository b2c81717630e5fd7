use Rattle.std.proofs.Common.{◌≡◌, ℕ, zero, suc, ◌+◌, ◌*◌, ◌<◌, ◌≤◌, Bool, true, false, cond, not, ◌&&◌, eqb, sym, refl, ◌∙◌, inl, inr, suc-mul, arith}
use Rattle.std.proofs.lemmas.Bool.{cases_Bool, cases_eq, eq-eqb, ne_eqb, true≢false, and_parts, and_from, not-true, not_from_false, not_from_true, eqb-false, eqb-true, and_left, and_right}
use Rattle.sets.specs.Bits.{count}
use Rattle.saturation.specs.Orders.{Within, free, sum, slack}
use Rattle.sets.proofs.Counts.{count_le, count_lt, count_most}

count_split : (f g h : ℕ → Bool) (n : ℕ) → ((k : ℕ) → g k ≡ true → f k ≡ true) → ((k : ℕ) → k < n → h k ≡ true → (f k ≡ true) × (g k ≡ false)) → count g n + count h n ≤ count f n
count_split f g h zero a b = omega arith
count_split f g h (suc n) a b =
    let r = count_split f g h n a (λ k l. b k (omega arith)) in
    elim (cases_Bool (h n)) [
      | inl t ↦ let q = b n (omega arith) t in rw (t, q.0, q.1) (omega arith)
      | inr t ↦ elim (cases_Bool (g n)) [
        | inl s ↦ rw (t, s, a n s) (omega arith)
        | inr s ↦ elim (cases_Bool (f n)) [ inl p ↦ rw (t, s, p) (omega arith) | inr p ↦ rw (t, s, p) (omega arith) ]
      ]
    ]

sum_le : (f e g : ℕ → ℕ) (n : ℕ) → ((x : ℕ) → x < n → f x + e x ≤ g x) → sum f n + sum e n ≤ sum g n
sum_le f e g zero h = omega arith
sum_le f e g (suc n) h = let r = sum_le f e g n (λ x l. h x (omega arith)) in let q = h n (omega arith) in omega arith

-- one for each that is picked, and c once more at v
abbrev extra : (ℕ → Bool) → ℕ → ℕ → ℕ → ℕ
extra h v c x = cond (h x) 1 0 + cond (eqb x v) c 0

extra_low : (h : ℕ → Bool) (v c n : ℕ) → count h n ≤ sum (extra h v c) n
extra_low h v c zero = omega arith
extra_low h v c (suc n) = let r = extra_low h v c n in omega arith

extra_all : (h : ℕ → Bool) (v c n : ℕ) → v < n → count h n + c ≤ sum (extra h v c) n
extra_all h v c zero l = absurd (omega arith)
extra_all h v c (suc n) l =
    elim (cases_eq n v) [
      | inl e ↦ let r = extra_low h v c n in rw (eq-eqb n v e) (omega arith)
      | inr ne ↦ let r = extra_all h v c n (omega arith) in omega arith
    ]

pub free_back : (R : ℕ → ℕ → Bool) (x y : ℕ) → free R x y ≡ true → free R y x ≡ true
free_back R x y h =
    let p = and_parts (not (eqb x y)) (not (R x y) && not (R y x)) h in
    let q = and_parts (not (R x y)) (not (R y x)) p.1 in
    and_from (not (eqb y x)) (not (R y x) && not (R x y))
    (not_from_false (eqb y x) (ne_eqb y x (λ e. eqb-false x y (not-true (eqb x y) p.0) (sym e))))
    (and_from (not (R y x)) (not (R x y)) q.1 q.0)

pub free_not : (R : ℕ → ℕ → Bool) (x y : ℕ) → R x y ≡ true → free R x y ≡ false
free_not R x y h = and_right (not (eqb x y)) (not (R x y) && not (R y x)) (and_left (not (R x y)) (not (R y x)) (not_from_true (R x y) h))

pub not_free : (R : ℕ → ℕ → Bool) (x y : ℕ) → R x y ≡ true → free R y x ≡ false
not_free R x y h = and_right (not (eqb y x)) (not (R y x) && not (R x y)) (and_right (not (R y x)) (not (R x y)) (not_from_true (R x y) h))

pub free_from : (R : ℕ → ℕ → Bool) (x y : ℕ) → (x ≡ y → ⊥) → R x y ≡ false → R y x ≡ false → free R x y ≡ true
free_from R x y ne a b = and_from (not (eqb x y)) _ (not_from_false _ (ne_eqb x y ne)) (and_from (not (R x y)) (not (R y x)) (not_from_false _ a) (not_from_false _ b))

pub free_parts : (R : ℕ → ℕ → Bool) (x y : ℕ) → free R x y ≡ true → (x ≡ y → ⊥) × (R x y ≡ false) × (R y x ≡ false)
free_parts R x y h =
    let p = and_parts (not (eqb x y)) (not (R x y) && not (R y x)) h in
    let q = and_parts (not (R x y)) (not (R y x)) p.1 in
    (eqb-false x y (not-true (eqb x y) p.0), not-true (R x y) q.0, not-true (R y x) q.1)

-- what is free in the larger relation is free in the smaller one
pub free_less : (R S : ℕ → ℕ → Bool) → Within R S → (x y : ℕ) → free S x y ≡ true → free R x y ≡ true
free_less R S within x y h =
    let p = free_parts S x y h in
    free_from R x y p.0
    (elim (cases_Bool (R x y)) [ inl t ↦ absurd (true≢false (sym (within x y t) ∙ p.1)) | inr f ↦ f ])
    (elim (cases_Bool (R y x)) [ inl t ↦ absurd (true≢false (sym (within y x t) ∙ p.2)) | inr f ↦ f ])

-- the events of h, which were free with v, no longer are: twice as many ordered pairs less are free
pub slack_drop : (R S : ℕ → ℕ → Bool) (h : ℕ → Bool) (n v : ℕ) → v < n → h v ≡ false → Within R S
    → ((x : ℕ) → h x ≡ true → (free R x v ≡ true) × (free S x v ≡ false))
    → slack S n + (count h n + count h n) ≤ slack R n
unfolding slack
slack_drop R S h n v lv hv within row =
    let less = free_less R S within in
    let column : (x : ℕ) → h x ≡ true → (free R v x ≡ true) × (free S v x ≡ false)
    = λ x t. (
      free_back R x v (row x t).0,
      elim (cases_Bool (free S v x)) [ inl q ↦ absurd (true≢false (sym (free_back S v x q) ∙ (row x t).1)) | inr q ↦ q ],
    ) in
    let m = extra_all h v (count h n) n lv in
    let s = sum_le (λ x. count (free S x) n) (extra h v (count h n)) (λ x. count (free R x) n) n
    (λ x l. elim (cases_eq x v) [
      | inl e ↦ rw (e, hv, eq-eqb v v refl) (let q = count_split (free R v) (free S v) h n (less v) (λ k lk t. column k t) in omega arith)
      | inr ne ↦ rw (ne_eqb x v ne)
          (elim (cases_Bool (h x)) [
            | inl t ↦ rw t (let q = count_lt (free R x) (free S x) n v (less x) lv (row x t).0 (row x t).1 in omega arith)
            | inr t ↦ rw t (let q = count_le (free R x) (free S x) n (less x) in omega arith)
          ])
    ]) in
    omega arith

pub slack_le : (R S : ℕ → ℕ → Bool) (n : ℕ) → Within R S → slack S n ≤ slack R n
unfolding slack
slack_le R S n within =
    let s = sum_le (λ x. count (free S x) n) (λ _. 0) (λ x. count (free R x) n) n
    (λ x l. let q = count_le (free R x) (free S x) n (free_less R S within x) in omega arith) in
    omega arith

-- one pair is no longer free, in either order
pub slack_falls_two : (R S : ℕ → ℕ → Bool) (n u v : ℕ) → u < n → v < n → Within R S → free R u v ≡ true → S u v ≡ true → slack S n + 2 ≤ slack R n
slack_falls_two R S n u v lu lv within was now =
    let p = free_parts R u v was in
    let d = slack_drop R S (λ x. eqb x u) n v lv (ne_eqb v u (λ e. p.0 (sym e))) within
    (λ x t. let e = eqb-true x u t in (rw e was, rw e (free_not S u v now))) in
    let one = count_lt (λ x. eqb x u) (λ _. false) n u (λ k h. absurd (true≢false (sym h))) lu (eq-eqb u u refl) refl in
    omega arith

pub slack_falls : (R S : ℕ → ℕ → Bool) (n u v : ℕ) → u < n → v < n → Within R S → free R u v ≡ true → S u v ≡ true → slack S n < slack R n
slack_falls R S n u v lu lv within was now = let d = slack_falls_two R S n u v lu lv within was now in omega arith

sum_most : (f : ℕ → ℕ) (n m : ℕ) → ((x : ℕ) → x < n → f x + 1 ≤ m) → sum f n + n ≤ n * m
sum_most f zero m h = omega arith
sum_most f (suc n) m h =
    let r = sum_most f n m (λ x l. h x (omega arith)) in
    let q = h n (omega arith) in
    omega (arith, suc-mul n m)

-- no event is free with itself
pub slack_most : (R : ℕ → ℕ → Bool) (n : ℕ) → slack R n + n ≤ n * n
unfolding slack
slack_most R n =
    sum_most (λ x. count (free R x) n) n n
    (λ x l. let c : free R x x ≡ false = rw (eq-eqb x x refl) in
    let q = count_lt (λ k. true) (free R x) n x (λ k _. refl) l refl c in omega (arith, q, count_most (λ k. true) n))
