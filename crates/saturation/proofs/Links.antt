use Rattle.std.proofs.Common.{◌≡◌, ℕ, Bool, true, false, not, ◌&&◌, ◌||◌, eqb, ◌⊎◌, sym, refl, ◌∙◌, inl, inr}
use Rattle.std.proofs.lemmas.Bool.{cases_Bool, eq-eqb, eqb-true, true≢false, or_left, or_right, or_cases, and_parts, and_from}
use Rattle.saturation.specs.Orders.{Transitive, Within, Closure}

-- y is x, or after x
abbrev Reach : (ℕ → ℕ → Bool) → ℕ → ℕ → Type 0
Reach R x y = (x ≡ y) ⊎ (R x y ≡ true)

-- R, and the pairs that it makes with the pair of u and v
abbrev pub added : (ℕ → ℕ → Bool) → ℕ → ℕ → ℕ → ℕ → Bool
added R u v x y = R x y || ((eqb x u || R x u) && (eqb y v || R v y))

-- the events that come newly before v, and those that come newly after u
abbrev pub heads : (ℕ → ℕ → Bool) → ℕ → ℕ → ℕ → Bool
heads R u v x = (eqb x u || R x u) && not (R x v)

abbrev pub tails : (ℕ → ℕ → Bool) → ℕ → ℕ → ℕ → Bool
tails R u v y = (eqb y v || R v y) && not (R u y)

over : (R Q : ℕ → ℕ → Bool) → Within R Q → (x y : ℕ) → Reach R x y → Reach Q x y
over R Q within x y (inl e) = inl e
over R Q within x y (inr r) = inr (within x y r)

pub reach_u : (R : ℕ → ℕ → Bool) (x u : ℕ) → (eqb x u || R x u) ≡ true → Reach R x u
reach_u R x u h = elim (or_cases (eqb x u) (R x u) h) [ inl e ↦ inl (eqb-true x u e) | inr r ↦ inr r ]

pub reach_v : (R : ℕ → ℕ → Bool) (v y : ℕ) → (eqb y v || R v y) ≡ true → Reach R v y
reach_v R v y h = elim (or_cases (eqb y v) (R v y) h) [ inl e ↦ inl (sym (eqb-true y v e)) | inr r ↦ inr r ]

module _ (R : ℕ → ℕ → Bool) (chains : Transitive R) where
  then : (x y z : ℕ) → Reach R x y → R y z ≡ true → R x z ≡ true
  then x y z (inl e) r = rw e r
  then x y z (inr q) r = chains x y z q r

  pub after : (x y z : ℕ) → R x y ≡ true → Reach R y z → R x z ≡ true
  after x y z r (inl e) = rw e at r
  after x y z r (inr q) = chains x y z r q

  -- an event that is before v already has all that is after v
  pub by_heads : (u v x y : ℕ) → (R x y || (heads R u v x && (eqb y v || R v y))) ≡ added R u v x y
  by_heads u v x y =
      elim (cases_Bool (R x v)) [
        | inr n ↦ rw n (plain (R x y) (eqb x u || R x u) (eqb y v || R v y))
        | inl t ↦ elim (cases_Bool (R x y)) [
          | inl p ↦ rw p
          | inr p ↦
              let no-y : (eqb y v || R v y) ≡ false = elim (cases_Bool (eqb y v || R v y)) [ inl q ↦ absurd (true≢false (sym (after x v y t (reach_v R v y q)) ∙ p)) | inr q ↦ q ] in
              rw (p, no-y, t) (shut (eqb x u || R x u))
        ]
      ]
    where
      plain : (o a b : Bool) → (o || ((a && not false) && b)) ≡ (o || (a && b))
      plain o true b = refl
      plain o false b = refl

      shut : (a : Bool) → (false || ((a && not true) && false)) ≡ (false || (a && false))
      shut true = refl
      shut false = refl

  -- and an event that is after u already has all that is before u
  pub by_tails : (u v x y : ℕ) → (R x y || (tails R u v y && (eqb x u || R x u))) ≡ added R u v x y
  by_tails u v x y =
      elim (cases_Bool (R u y)) [
        | inr n ↦ rw n (plain (R x y) (eqb x u || R x u) (eqb y v || R v y))
        | inl t ↦ elim (cases_Bool (R x y)) [
          | inl p ↦ rw p
          | inr p ↦
              let no-x : (eqb x u || R x u) ≡ false = elim (cases_Bool (eqb x u || R x u)) [ inl q ↦ absurd (true≢false (sym (then x u y (reach_u R x u q) t) ∙ p)) | inr q ↦ q ] in
              rw (p, no-x, t) (shut (eqb y v || R v y))
        ]
      ]
    where
      plain : (o a b : Bool) → (o || ((b && not false) && a)) ≡ (o || (a && b))
      plain o true true = refl
      plain o true false = refl
      plain o false true = refl
      plain o false false = refl

      shut : (b : Bool) → (false || ((b && not true) && false)) ≡ (false || (false && b))
      shut true = refl
      shut false = refl

  module _ (u v : ℕ) where
    split : (x y : ℕ) → added R u v x y ≡ true → (R x y ≡ true) ⊎ (Reach R x u × Reach R v y)
    split x y h =
        elim (or_cases (R x y) ((eqb x u || R x u) && (eqb y v || R v y)) h) [
          | inl r ↦ inl r
          | inr b ↦ let p = and_parts (eqb x u || R x u) (eqb y v || R v y) b in inr (reach_u R x u p.0, reach_v R v y p.1)
        ]

    join : (x y : ℕ) → (R x y ≡ true) ⊎ (Reach R x u × Reach R v y) → added R u v x y ≡ true
    join x y (inl r) = or_left _ _ r
    join x y (inr (l, m)) =
        or_right _ _ (and_from (eqb x u || R x u) (eqb y v || R v y)
        (elim l [ inl e ↦ or_left _ _ (eq-eqb x u e) | inr r ↦ or_right _ _ r ])
        (elim m [ inl e ↦ or_left _ _ (eq-eqb y v (sym e)) | inr r ↦ or_right _ _ r ]))

    chain : (x y z : ℕ) → (R x y ≡ true) ⊎ (Reach R x u × Reach R v y) → (R y z ≡ true) ⊎ (Reach R y u × Reach R v z)
        → (R x z ≡ true) ⊎ (Reach R x u × Reach R v z)
    chain x y z (inl r) (inl q) = inl (chains x y z r q)
    chain x y z (inl r) (inr (l, m)) = inr (inr (after x y u r l), m)
    chain x y z (inr (l, m)) (inl q) = inr (l, inr (then v y z m q))
    chain x y z (inr (l, m)) (inr (l', m')) = inr (l, m')

  pub closure : (u v : ℕ) → Closure R u v (added R u v)
  closure u v = record {
    keeps = λ x y r. join u v x y (inl r);
    linked = join u v u v (inr (inl refl, inl refl));
    chains = λ x y z a b. join u v x z (chain u v x y z (split u v x y a) (split u v y z b));
    least = λ Q far within pair x y h.
        elim (split u v x y h) [
          | inl r ↦ within x y r
          | inr (l, m) ↦
              elim (over R Q within v y m) [
                | inl e ↦ elim (over R Q within x u l) [ inl d ↦ rw (d, ← e) pair | inr q ↦ far x u y q (rw e at pair) ]
                | inr k ↦ elim (over R Q within x u l) [ inl d ↦ rw d (far u v y pair k) | inr q ↦ far x u y q (far u v y pair k) ]
              ]
        ];
  }

  -- so it is the only smallest one
  pub closure_is : (u v : ℕ) (S : ℕ → ℕ → Bool) → Closure R u v S → (x y : ℕ) → S x y ≡ added R u v x y
  closure_is u v S c x y =
      let a = closure u v in
      both (S x y) (added R u v x y) (c.least (added R u v) a.chains a.keeps a.linked x y) (a.least S c.chains c.keeps c.linked x y)
    where
      both : (a b : Bool) → (a ≡ true → b ≡ true) → (b ≡ true → a ≡ true) → a ≡ b
      both true b h k = sym (h refl)
      both false true h k = k refl
      both false false h k = refl

-- the events that come newly before v
pub newly_heads : (R : ℕ → ℕ → Bool) (u v x : ℕ) → heads R u v x ≡ (added R u v x v && not (R x v))
newly_heads R u v x = newly (R x v) (eqb x u || R x u) (eqb v v || R v v) (or_left _ _ (eq-eqb v v refl))
  where
    newly : (r a b : Bool) → b ≡ true → (a && not r) ≡ ((r || (a && b)) && not r)
    newly true true b h = refl
    newly true false b h = refl
    newly false true b h = rw h
    newly false false b h = refl
