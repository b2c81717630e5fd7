-- The first bit of 1.
use Rattle.std.proofs.Common.{◌≡◌, ℕ, zero, suc, ◌+◌, ◌-◌, ◌<◌, ◌≤◌, eqb, Option, Some, None, sym, refl, ap, ◌∙◌, inl, inr, arith}
use Rattle.std.proofs.lemmas.Bool.{eq-eqb, ne_eqb, eqb-false, cond-true, cond-false, cases_Bool, cases_eq}
use Rattle.std.specs.Option.{MatchOption}
use Rattle.packed.specs.Reading.{first_one}

none_at : (f : ℕ → ℕ) (b k : ℕ) → ((i : ℕ) → b ≤ i → i < b + k → f i ≡ 1 → ⊥) → first_one f b k ≡ None
none_at f b zero apart = refl
none_at f b (suc k) apart =
    cond-false (eqb (f b) 1) _ _ (ne_eqb _ _ (apart b (omega arith) (omega arith))) ∙ none_at f (b + 1) k (λ i l h. apart i (omega arith) (omega arith))

some_at : (f : ℕ → ℕ) (b k i : ℕ) → b ≤ i → i < b + k → f i ≡ 1 → ((j : ℕ) → b ≤ j → j < i → f j ≡ 1 → ⊥) → first_one f b k ≡ Some i
some_at f b zero i l h is apart = absurd (omega arith)
some_at f b (suc k) i l h is apart =
    elim (cases_eq b i) [
      | inl e ↦ cond-true (eqb (f b) 1) _ _ (eq-eqb _ _ (ap f e ∙ is)) ∙ ap Some e
      | inr ne ↦
          cond-false (eqb (f b) 1) _ _ (ne_eqb _ _ (apart b (omega arith) (grind arith)))
          ∙ some_at f (b + 1) k i (grind arith) (omega arith) is (λ j m n. apart j (omega arith) n)
    ]

-- what a search from b up to e finds is the first bit of 1
pub first_found : (f : ℕ → ℕ) (b e : ℕ) (r : Option ℕ)
    → MatchOption r ((i : ℕ) → b ≤ i → i < e → f i ≡ 1 → ⊥) (λ i. (b ≤ i) × (i < e) × (f i ≡ 1) × ((j : ℕ) → b ≤ j → j < i → f j ≡ 1 → ⊥))
    → r ≡ first_one f b (e - b)
first_found f b e None apart = sym (none_at f b (e - b) (λ i l h. apart i l (omega arith)))
first_found f b e (Some i) m = sym (some_at f b (e - b) i m.0 (omega (arith, m.0, m.1)) m.2 m.3)

-- there is none where every bit is 0, and only there
pub none_zero : (f : ℕ → ℕ) → ((i : ℕ) → f i < 2) → (b k : ℕ) → first_one f b k ≡ None → (i : ℕ) → b ≤ i → i < b + k → f i ≡ 0
none_zero f s b zero none i l h = absurd (omega arith)
none_zero f s b (suc k) none i l h =
    elim (cases_Bool (eqb (f b) 1)) [
      | inl t ↦ absurd (let bad : Some b ≡ None = sym (cond-true _ _ _ t) ∙ none in let z : ◌≡◌ {A = ℕ} 0 1 = cc in omega arith)
      | inr t ↦
          let rest : first_one f (b + 1) k ≡ None = sym (cond-false _ _ _ t) ∙ none in
          let sb = s b in
          let here : f b ≡ 0 = below_two (f b) sb (eqb-false _ _ t) in
          elim (cases_eq i b) [
            | inl e ↦ ap f e ∙ here
            | inr ne ↦ none_zero f s (b + 1) k rest i (grind arith) (omega arith)
          ]
    ]
  where
    below_two : (n : ℕ) → n < 2 → (n ≡ 1 → ⊥) → n ≡ 0
    below_two n h ne = grind arith

pub zero_none : (f : ℕ → ℕ) (b k : ℕ) → ((i : ℕ) → b ≤ i → i < b + k → f i ≡ 0) → first_one f b k ≡ None
zero_none f b k z = none_at f b k (λ i l h is. omega (arith, z i l h, is))
