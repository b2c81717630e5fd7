-- The pairs of writes that a relation which is exactly before leaves unordered.
use Rattle.std.proofs.Common.{◌≡◌, ℕ, suc, ◌<◌, ◌≤◌, true, false, ◌⊎◌, List, sym, ap, ◌∙◌, subst, inl, inr, arith}
use Rattle.std.proofs.lemmas.Bool.{true≢false, cases_Bool, cases_order}
use Rattle.order.specs.History.{History, TwoWrites}
use Rattle.order.specs.Before.{Before}
use Rattle.order.specs.Search.{Unordered, FirstUnordered, Complete}
use Rattle.sets.specs.Rows.{in_rows}
use Rattle.saturation.specs.Ties.{mates_of}
use Rattle.saturation.specs.Orders.{free}
use Rattle.saturation.specs.Relations.{earlier}
use Rattle.saturation.specs.Nodes.{Exact, FactsOf}
use Rattle.saturation.specs.Adding.{OpenFrom}
use Rattle.saturation.specs.declared.relation.Relation.{Relation}
use Rattle.saturation.specs.declared.saturate.Facts.{Facts}
use Rattle.saturation.proofs.Slacks.{free_from, free_parts}
use Rattle.saturation.proofs.Bridges.{from_one}

module _ {N W T : ℕ} {f : Facts N W} (h : History) (S : List (ℕ × ℕ)) (facts : FactsOf h f) (o : Relation N W T) (exact : Exact h S o) where
  not_yet : (x y : ℕ) → (Before h S (suc x) (suc y) → ⊥) → earlier o x y ≡ false
  not_yet x y n = elim (cases_Bool (earlier o x y)) [ inl t ↦ absurd (n (exact.only x y t)) | inr t ↦ t ]

  -- the unordered pairs of the node are the free pairs of writes of one star
  pub unordered_e : (x y : ℕ) → Unordered h S (suc x) (suc y) → (x < y) × (in_rows (mates_of f.ties) x y ≡ true) × (free (earlier o) x y ≡ true)
  unordered_e x y u =
      let l : suc x < suc y = u.lower in (
        omega arith,
        (facts.mates x y).1 u.writes,
        free_from (earlier o) x y (λ e. omega arith) (not_yet x y u.not_before) (not_yet y x u.not_after),
      )

  pub unordered_i : (x y : ℕ) → x < y → in_rows (mates_of f.ties) x y ≡ true → free (earlier o) x y ≡ true → Unordered h S (suc x) (suc y)
  unordered_i x y l m k =
      let p = free_parts (earlier o) x y k in
      record {
        writes = (facts.mates x y).0 m;
        lower = omega arith;
        not_before = λ b. true≢false (sym (exact.all x y b) ∙ p.1);
        not_after = λ b. true≢false (sym (exact.all y x b) ∙ p.2);
      }

  -- the events from k to a have no such pair
  abbrev NoneUpTo : ℕ → ℕ → Type 0
  NoneUpTo k a = (x y : ℕ) → k ≤ x → x < a → x < y → in_rows (mates_of f.ties) x y ≡ true → free (earlier o) x y ≡ true → ⊥

  pub first_open : (k a b : ℕ) → a < b → in_rows (mates_of f.ties) a b ≡ true → free (earlier o) a b ≡ true → NoneUpTo k a
      → ((y : ℕ) → a < y → in_rows (mates_of f.ties) a y ≡ true → free (earlier o) a y ≡ true → b ≤ y) → OpenFrom h S k → FirstUnordered h S (suc a) (suc b)
  first_open k a b l m z none lowest from = record {
    unordered = unordered_i a b l m z;
    first = λ c d u.
        from_one (λ c d. Unordered h S c d → (suc a < c) ⊎ ((suc a ≡ c) × (suc b ≤ d)))
        (λ x y u.
        let q = unordered_e x y u in
        let lx = from (suc x) (suc y) u in
        elim (cases_order x a) [
          | inl e ↦ inr (ap suc (sym e), let g = lowest y (subst (λ w. w < y) e q.0) (subst (λ w. in_rows (mates_of f.ties) w y ≡ true) e q.1) (subst (λ w. free (earlier o) w y ≡ true) e q.2) in omega arith)
          | inr (inl s) ↦ absurd (none x y (omega arith) s q.0 q.1 q.2)
          | inr (inr s) ↦ inl (omega arith)
        ])
        c d u.writes.first.number.low u.writes.second.number.low u;
  }

  one_way_lem : (k x y : ℕ) → NoneUpTo k o.count → OpenFrom h S k → x < y → TwoWrites h (suc x) (suc y) → Before h S (suc x) (suc y) ⊎ Before h S (suc y) (suc x)
  one_way_lem k x y none from l two =
      let e = exact.events in
      let hi = two.first.number.high in
      elim (cases_Bool (earlier o x y)) [
        | inl t ↦ inl (exact.only x y t)
        | inr t ↦ elim (cases_Bool (earlier o y x)) [
          | inl s ↦ inr (exact.only y x s)
          | inr s ↦
              let z = free_from (earlier o) x y (λ d. omega arith) t s in
              let m = (facts.mates x y).1 two in
              let lx = from (suc x) (suc y) (unordered_i x y l m z) in
              absurd (none x y (omega arith) (omega arith) l m z)
        ]
      ]

  pub none_open : (k : ℕ) → NoneUpTo k o.count → OpenFrom h S k → Complete h S
  none_open k none from a b two =
      from_one (λ c d. TwoWrites h c d → Before h S c d ⊎ Before h S d c)
      (λ x y t.
      let ne = t.two in
      elim (cases_order x y) [
        | inl e ↦ absurd (ne (ap suc e))
        | inr (inl l) ↦ one_way_lem k x y none from l t
        | inr (inr l) ↦ elim (one_way_lem k y x none from l (record { first = t.second; second = t.first; star = sym t.star; two = λ e. ne (sym e) })) [ inl p ↦ inr p | inr p ↦ inl p ]
      ])
      a b two.first.number.low two.second.number.low two
