-- The search has one number of nodes and one end.
use Rattle.std.proofs.Common.{◌≡◌, ℕ, ◌+◌, List, ◌∷◌, sym, refl, ap, ap₂, subst₂, inl, inr, arith}
use Rattle.order.specs.History.{History}
use Rattle.order.specs.Search.{Search, Outcome, fails, succeeds, FirstUnordered, Complete}

pub same_first : {h : History} {S : List (ℕ × ℕ)} {a b c d : ℕ} → FirstUnordered h S a b → FirstUnordered h S c d → (a ≡ c) × (b ≡ d)
same_first {a = a} {b = b} {c = c} {d = d} f g =
    let x = f.first c d g.unordered in
    let y = g.first a b f.unordered in
    (omega arith, omega arith)

pub not_complete : {h : History} {S : List (ℕ × ℕ)} {a b : ℕ} → FirstUnordered h S a b → Complete h S → ⊥
not_complete {a = a} {b = b} f k =
    elim (k a b f.unordered.writes) [ inl p ↦ f.unordered.not_before p | inr p ↦ f.unordered.not_after p ]

pub no_mix : {Q : List (ℕ × ℕ)} → succeeds Q ≡ fails → ⊥
no_mix e = let z : ◌≡◌ {A = ℕ} 0 1 = cc in omega arith

pub same_lower : {h : History} {S : List (ℕ × ℕ)} {a b c d t : ℕ} {o : Outcome} → FirstUnordered h S a b → FirstUnordered h S c d →
    Search h ((c, d) ∷ S) t o → Search h ((a, b) ∷ S) t o
same_lower {h} {S} {t = t} {o = o} f g s =
    let e = same_first f g in subst₂ (λ (x y : ℕ). Search h ((x, y) ∷ S) t o) (sym e.0) (sym e.1) s

pub same_higher : {h : History} {S : List (ℕ × ℕ)} {a b c d t : ℕ} {o : Outcome} → FirstUnordered h S a b → FirstUnordered h S c d →
    Search h ((d, c) ∷ S) t o → Search h ((b, a) ∷ S) t o
same_higher {h} {S} {t = t} {o = o} f g s =
    let e = same_first f g in subst₂ (λ (x y : ℕ). Search h ((y, x) ∷ S) t o) (sym e.0) (sym e.1) s

pub one : {h : History} {S : List (ℕ × ℕ)} {t u : ℕ} {o o' : Outcome} → Search h S t o → Search h S u o' → (t ≡ u) × (o ≡ o')
one (Search.clash c) (Search.clash d) = (refl, refl)
one (Search.clash c) (Search.success n k) = absurd (n c)
one (Search.clash c) (Search.lower n f s) = absurd (n c)
one (Search.clash c) (Search.higher n f s s') = absurd (n c)
one (Search.success n k) (Search.clash d) = absurd (n d)
one (Search.success n k) (Search.success n' k') = (refl, refl)
one (Search.success n k) (Search.lower n' f s) = absurd (not_complete f k)
one (Search.success n k) (Search.higher n' f s s') = absurd (not_complete f k)
one (Search.lower n f s) (Search.clash d) = absurd (n d)
one (Search.lower n f s) (Search.success n' k) = absurd (not_complete f k)
one (Search.lower n f s) (Search.lower n' g r) =
    let e = one s (same_lower f g r) in (ap (λ x. 1 + x) e.0, e.1)
one (Search.lower n f s) (Search.higher n' g r r') = absurd (no_mix (one s (same_lower f g r)).1)
one (Search.higher n f s s') (Search.clash d) = absurd (n d)
one (Search.higher n f s s') (Search.success n' k) = absurd (not_complete f k)
one (Search.higher n f s s') (Search.lower n' g r) = absurd (no_mix (sym (one s (same_lower f g r)).1))
one (Search.higher n f s s') (Search.higher n' g r r') =
    let e = one s (same_lower f g r) in
    let e' = one s' (same_higher f g r') in
    (ap₂ (λ x y. 1 + x + y) e.0 e'.0, e'.1)
