-- Every search comes to an end, and visits fewer than 2 ^ (p + 1) nodes where p pairs are unordered.
use Rattle.std.proofs.Common.{◌≡◌, ℕ, zero, suc, ◌+◌, ◌-◌, ◌^◌, ◌<◌, ◌≤◌, ◌⊎◌, List, ◌∷◌, length, sym, refl, ap, subst, inl, inr, arith, pow_pos}
use mathlib.Core.List.Memᴰ
use mathlib.Core.List.{Memᴰ}
use Rattle.order.specs.History.{History, count, Number, WellFormed, PairsOfEvents}
use Rattle.order.specs.Before.{Before, Clash}
use Rattle.order.specs.Search.{Search, Outcome, fails, succeeds, Unordered, FirstUnordered, CountsUnordered}
use Rattle.order.specs.Opening.{some_up_to}
use Rattle.order.specs.Theorems.{SearchEnds}
use Rattle.order.proofs.Tests.{test}
use Rattle.order.proofs.Pairs.{take_out, grid, grid_has}
use Rattle.order.proofs.Saturated.{saturation}
use Rattle.order.proofs.Nodes.{clash_in, clash_in_e, clash_in_i, some_open, first_open, none_open}
use Rattle.order.proofs.One.{one}

-- More pairs, more is before.
pub grows : {h : History} {S Q : List (ℕ × ℕ)} {a b : ℕ} → ((c d : ℕ) → Memᴰ (c, d) S → Memᴰ (c, d) Q) → Before h S a b → Before h Q a b
grows f (Before.kept k) = Before.kept k
grows f (Before.stands m) = Before.stands (f _ _ m)
grows f (Before.taken t) = Before.taken t
grows f (Before.start x v e) = Before.start x v e
grows f (Before.missed t v b) = Before.missed t v (grows f b)
grows f (Before.passed t v b) = Before.passed t v (grows f b)
grows f (Before.chain b c) = Before.chain (grows f b) (grows f c)

pub Holds : History → List (ℕ × ℕ) → List (ℕ × ℕ) → Type 0
Holds h S U = (a b : ℕ) → Unordered h S a b → Memᴰ (a, b) U

-- The child's unordered pairs are among the parent's, without the pair that is chosen, in either order.
child : {h : History} {S : List (ℕ × ℕ)} {a b x y : ℕ} {U V : List (ℕ × ℕ)} → Before h ((x, y) ∷ S) a b ⊎ Before h ((x, y) ∷ S) b a →
    ((q : ℕ × ℕ) → Memᴰ q U → (q ≡ (a, b)) ⊎ Memᴰ q V) → Holds h S U → Holds h ((x, y) ∷ S) V
unfolding Holds
child {h} {S} {a} {b} {x} {y} {U} {V} now f H c d u =
    let up : (m n : ℕ) → Before h S m n → Before h ((x, y) ∷ S) m n = λ m n p. grows (λ i j k. Memᴰ.tail k) p in
    let v : Unordered h S c d = record { writes = u.writes; lower = u.lower; not_before = λ p. u.not_before (up c d p); not_after = λ p. u.not_after (up d c p) } in
    elim (f (c, d) (H c d v)) [
      | inl e ↦ absurd (clear e now)
      | inr k ↦ k
    ]
  where
    clear : ◌≡◌ {A = ℕ × ℕ} (c, d) (a, b) → Before h ((x, y) ∷ S) a b ⊎ Before h ((x, y) ∷ S) b a → ⊥
    clear e (inl p) = u.not_before (subst (λ (q : ℕ × ℕ). Before h ((x, y) ∷ S) q.0 q.1) (sym e) p)
    clear e (inr p) = u.not_after (subst (λ (q : ℕ × ℕ). Before h ((x, y) ∷ S) q.1 q.0) (sym e) p)

two_pow : (k : ℕ) → 2 ≤ 2 ^ suc k
two_pow k = let p : 0 < 2 ^ k = pow_pos k in omega arith

pub bound : {h : History} {S : List (ℕ × ℕ)} {t : ℕ} {o : Outcome} (U : List (ℕ × ℕ)) → Holds h S U → Search h S t o → suc t ≤ 2 ^ suc (length U)
unfolding Holds
bound U H (Search.clash c) = two_pow (length U)
bound U H (Search.success n k) = two_pow (length U)
bound {h} U H (Search.lower {S = S} {a = a} {b = b} n f s) =
    let r = take_out (H a b f.unordered) in
    let i = bound r.0 (child {h = h} {S = S} {U = U} (inl (Before.stands (Memᴰ.head refl))) r.2 H) s in
    rw r.1 (omega arith)
bound {h} U H (Search.higher {S = S} {a = a} {b = b} n f s s') =
    let r = take_out (H a b f.unordered) in
    let i = bound r.0 (child {h = h} {S = S} {U = U} (inl (Before.stands (Memᴰ.head refl))) r.2 H) s in
    let j = bound r.0 (child {h = h} {S = S} {U = U} (inr (Before.stands (Memᴰ.head refl))) r.2 H) s' in
    rw r.1 (omega arith)

pub enough : {h : History} {S : List (ℕ × ℕ)} {t p : ℕ} {o : Outcome} → CountsUnordered h S p → Search h S t o → t ≤ 2 ^ (p + 1) - 1
unfolding Holds
enough {t = t} {p = p} c s =
    let i : suc t ≤ 2 ^ suc p = subst (λ n. suc t ≤ 2 ^ suc n) c.many (bound c.pairs (λ a b u. (c.exactly a b).1 u) s) in
    let e : p + 1 ≡ suc p = omega arith in
    rw e (omega arith)

pub inside_more : {h : History} {S : List (ℕ × ℕ)} {a b : ℕ} → PairsOfEvents h S → Number h a → Number h b → PairsOfEvents h ((a, b) ∷ S)
inside_more {h} {S} {a} {b} i m n c d k = elim (Memᴰ.cases_cons k) [
  | inl e ↦ (subst (λ x. Number h x) (sym (ap (λ (q : ℕ × ℕ). q.0) e)) m, subst (λ x. Number h x) (sym (ap (λ (q : ℕ × ℕ). q.1) e)) n)
  | inr j ↦ i c d j
]

abbrev Ends : History → List (ℕ × ℕ) → Type 0
Ends h S = (t : ℕ) × (o : Outcome) × Search h S t o

module _ (h : History) (well : WellFormed h) where
  -- A node's search from those of its children.
  node : (S : List (ℕ × ℕ)) → PairsOfEvents h S → ((a b : ℕ) → FirstUnordered h S a b → Ends h ((a, b) ∷ S) × Ends h ((b, a) ∷ S)) → Ends h S
  node S inside below =
      let s = saturation h S in
      elim (test (clash_in h s.pairs)) [
        | inl c ↦ (1, fails, Search.clash (clash_in_e h S well inside s c))
        | inr n ↦ elim (test (some_up_to (count h) (some_open h s.pairs))) [
          | inl t ↦ let f = first_open h S well inside s t in let r = below f.0 f.1 f.2 in
              both f.0 f.1 (λ c. n (clash_in_i h S well inside s c)) f.2 r.0.0 r.0.1 r.0.2 r.1
          | inr q ↦ (1, succeeds S, Search.success (λ c. n (clash_in_i h S well inside s c)) (none_open h S well inside s q))
        ]
      ]
    where
      both : (a b : ℕ) → ¬ Clash h S → FirstUnordered h S a b → (t : ℕ) (o : Outcome) → Search h ((a, b) ∷ S) t o → Ends h ((b, a) ∷ S) → Ends h S
      both a b n f t fails x r = (1 + t + r.0, r.1, Search.higher n f x r.2)
      both a b n f t (succeeds Q) x r = (1 + t, succeeds Q, Search.lower n f x)

  -- By the number of pairs that can still be unordered.
  ends_within : (k : ℕ) (S U : List (ℕ × ℕ)) → length U ≤ k → PairsOfEvents h S → Holds h S U → Ends h S
  unfolding Holds
  ends_within zero S U l inside H = node S inside (λ a b f. let r = take_out (H a b f.unordered) in let z = r.1 in absurd (omega arith))
  ends_within (suc k) S U l inside H = node S inside (λ a b f.
      let r = take_out (H a b f.unordered) in
      let z = r.1 in
      let m = f.unordered.writes.first.number in
      let n = f.unordered.writes.second.number in (
        ends_within k ((a, b) ∷ S) r.0 (omega arith) (inside_more inside m n) (child {h = h} {S = S} {U = U} (inl (Before.stands (Memᴰ.head refl))) r.2 H),
        ends_within k ((b, a) ∷ S) r.0 (omega arith) (inside_more inside n m) (child {h = h} {S = S} {U = U} (inr (Before.stands (Memᴰ.head refl))) r.2 H),
      ))

pub ends : (h : History) (S : List (ℕ × ℕ)) → WellFormed h → PairsOfEvents h S → Ends h S
unfolding Holds
ends h S well inside = ends_within h well (length (grid (count h) (count h))) S (grid (count h) (count h)) (omega arith) inside (λ a b u.
    let m = u.writes.first.number in
    let n = u.writes.second.number in
    grid_has (count h) (count h) a b m.low m.high n.low n.high)

pub search_ends_lem : SearchEnds
search_ends_lem h S well inside = let r = ends h S well inside in (r.0, r.1, r.2, λ u q s. one s r.2)
