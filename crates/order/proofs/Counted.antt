-- The unordered pairs of a node can be counted, and the count is one number.
use Rattle.std.proofs.Common.{◌≡◌, ℕ, zero, suc, ◌≤◌, Bool, true, false, cond, T, ◌⊎◌, List, [], ◌∷◌, ◌++◌, length, sym, refl, subst, inl, inr, arith}
use mathlib.Core.List.Memᴰ
use mathlib.Core.List.{Memᴰ}
use Rattle.order.specs.History.{History, count, WellFormed, PairsOfEvents}
use Rattle.order.specs.Search.{Distinct, CountsUnordered}
use Rattle.order.specs.Theorems.{SearchIsBounded}
use Rattle.order.proofs.Tests.{is_true}
use Rattle.order.proofs.Pairs.{row, row_of, grid, grid_has, grid_of, take_out}
use Rattle.order.proofs.Saturated.{saturation}
use Rattle.order.proofs.Nodes.{open_in, open_e, open_i}
use Rattle.order.proofs.Ends.{enough}

-- The members of a list that pass a test.
abbrev picked : (ℕ × ℕ → Bool) → List (ℕ × ℕ) → List (ℕ × ℕ)
picked f [] = []
picked f (q ∷ qs) = cond (f q) (q ∷ picked f qs) (picked f qs)

picked_e : (f : ℕ × ℕ → Bool) (U : List (ℕ × ℕ)) (q : ℕ × ℕ) → Memᴰ q (picked f U) → Memᴰ q U × T (f q)
picked_e f [] q m = absurd (Memᴰ.not-nil m)
picked_e f (x ∷ xs) q m = go (f x) refl (picked_e f xs q) m
  where
    go : (b : Bool) → f x ≡ b → (Memᴰ q (picked f xs) → Memᴰ q xs × T (f q)) → Memᴰ q (cond b (x ∷ picked f xs) (picked f xs)) → Memᴰ q (x ∷ xs) × T (f q)
    go true e ih k = elim (Memᴰ.cases_cons k) [
      | inl d ↦ (Memᴰ.head d, subst (λ z. T (f z)) (sym d) (is_true e))
      | inr j ↦ let r = ih j in (Memᴰ.tail r.0, r.1)
    ]
    go false e ih k = let r = ih k in (Memᴰ.tail r.0, r.1)

picked_i : (f : ℕ × ℕ → Bool) (U : List (ℕ × ℕ)) (q : ℕ × ℕ) → Memᴰ q U → T (f q) → Memᴰ q (picked f U)
picked_i f [] q m t = absurd (Memᴰ.not-nil m)
picked_i f (x ∷ xs) q m t = go (f x) refl (picked_i f xs q) (Memᴰ.cases_cons m)
  where
    go : (b : Bool) → f x ≡ b → (Memᴰ q xs → T (f q) → Memᴰ q (picked f xs)) → (q ≡ x) ⊎ Memᴰ q xs → Memᴰ q (cond b (x ∷ picked f xs) (picked f xs))
    go true e ih (inl d) = Memᴰ.head d
    go true e ih (inr j) = Memᴰ.tail (ih j t)
    go false e ih (inl d) = absurd (subst T e (subst (λ z. T (f z)) d t))
    go false e ih (inr j) = ih j t

picked_once : (f : ℕ × ℕ → Bool) (U : List (ℕ × ℕ)) → Distinct U → Distinct (picked f U)
picked_once f [] d = Distinct.empty
picked_once f (x ∷ xs) (Distinct.more n d) = go (f x) (picked_once f xs d)
  where
    go : (b : Bool) → Distinct (picked f xs) → Distinct (cond b (x ∷ picked f xs) (picked f xs))
    go true ih = Distinct.more (λ m. n (picked_e f xs x m).0) ih
    go false ih = ih

row_once : (a n : ℕ) → Distinct (row a n)
row_once a zero = Distinct.empty
row_once a (suc n) = Distinct.more (λ m. let r = (row_of a n (a, suc n) m).2 in omega arith) (row_once a n)

joined_once : (U V : List (ℕ × ℕ)) → Distinct U → Distinct V → ((q : ℕ × ℕ) → Memᴰ q U → Memᴰ q V → ⊥) → Distinct (U ++ V)
joined_once [] V d e f = e
joined_once (x ∷ xs) V (Distinct.more n d) e f =
    Distinct.more (λ m. elim (Memᴰ.append_cases xs m) [ inl j ↦ n j | inr j ↦ f x (Memᴰ.head refl) j ])
    (joined_once xs V d e (λ q a b. f q (Memᴰ.tail a) b))

grid_once : (m n : ℕ) → Distinct (grid m n)
grid_once zero n = Distinct.empty
grid_once (suc m) n = joined_once (row (suc m) n) (grid m n) (row_once (suc m) n) (grid_once m n)
    (λ q a b. let r = (row_of (suc m) n q a).0 in let s = (grid_of m n q b).1 in omega arith)

counted : (h : History) (S : List (ℕ × ℕ)) → WellFormed h → PairsOfEvents h S → (p : ℕ) × CountsUnordered h S p
counted h S well inside =
    let s = saturation h S in
    let f : ℕ × ℕ → Bool = λ q. open_in h s.pairs q.0 q.1 in
    let U = grid (count h) (count h) in (
      length (picked f U),
      record {
        pairs = picked f U;
        once = picked_once f U (grid_once (count h) (count h));
        many = refl;
        exactly = λ a b. (
          λ m. let r = picked_e f U (a, b) m in let n = grid_of (count h) (count h) (a, b) r.0 in
              open_e h S well inside s a b (record { low = n.0; high = n.1 }) (record { low = n.2; high = n.3 }) r.1,
          λ u. let m = u.writes.first.number in let n = u.writes.second.number in
              picked_i f U (a, b) (grid_has (count h) (count h) a b m.low m.high n.low n.high) (open_i h S well inside s a b u),
        );
      },
    )

-- a list without repetition is no longer than one that has its members
shorter : (U V : List (ℕ × ℕ)) → Distinct U → ((q : ℕ × ℕ) → Memᴰ q U → Memᴰ q V) → length U ≤ length V
shorter [] V d f = omega arith
shorter (x ∷ xs) V (Distinct.more n d) f =
    let r = take_out (f x (Memᴰ.head refl)) in
    let i = shorter xs r.0 d (λ q m. elim (r.2 q (f q (Memᴰ.tail m))) [ inl e ↦ absurd (n (subst (λ z. Memᴰ z xs) e m)) | inr k ↦ k ]) in
    let z = r.1 in omega arith

same_count : {h : History} {S : List (ℕ × ℕ)} {p q : ℕ} → CountsUnordered h S p → CountsUnordered h S q → p ≡ q
same_count c d =
    let x = shorter c.pairs d.pairs c.once (λ q m. (d.exactly q.0 q.1).1 ((c.exactly q.0 q.1).0 m)) in
    let y = shorter d.pairs c.pairs d.once (λ q m. (c.exactly q.0 q.1).1 ((d.exactly q.0 q.1).0 m)) in
    let m = c.many in let n = d.many in omega arith

pub search_is_bounded_lem : SearchIsBounded
search_is_bounded_lem h S well inside =
    let r = counted h S well inside in (r.0, r.1, λ q c. same_count c r.1, λ t o s. enough r.1 s)
