-- A search that fails leaves no fitting order.
use Rattle.std.proofs.Common.{ℕ, ◌<◌, ◌≢◌, ◌⊎◌, List, ◌∷◌, sym, subst, inl, inr, ⊎_elim, arith}
use mathlib.Core.List.Memᴰ
use native.Mathlib.Decide.{dec_lt}
use Rattle.order.specs.History.{History, TwoWrites}
use Rattle.order.specs.Orders.{place, Fitting, Serializable}
use Rattle.order.specs.Search.{Search, fails}
use Rattle.order.specs.Opening.{Accepted}
use Rattle.order.proofs.Places.{apart}
use Rattle.order.proofs.Sound.{sound}

with_pair : {h : History} {S : List (ℕ × ℕ)} {σ : List ℕ} {a b : ℕ} → Fitting h S σ → place σ a < place σ b → Fitting h ((a, b) ∷ S) σ
with_pair {h} {S} {σ} {a} {b} fit p = record {
  order = fit.order;
  serial = fit.serial;
  rule = fit.rule;
  pairs = λ c d m. elim (Memᴰ.cases_cons m) [
    | inl e ↦ subst (λ (q : ℕ × ℕ). place σ q.0 < place σ q.1) (sym e) p
    | inr k ↦ fit.pairs c d k
  ];
}

either_way : {h : History} {S : List (ℕ × ℕ)} {σ : List ℕ} {a b : ℕ} → Fitting h S σ → TwoWrites h a b → (place σ a < place σ b) ⊎ (place σ b < place σ a)
either_way {h} {S} {σ} {a} {b} fit v =
    let n : place σ a ≢ place σ b = apart h σ fit.order a b v.first.number v.second.number v.two in
    elim (dec_lt (place σ a) (place σ b)) [ yes p ↦ inl p | no q ↦ inr (omega arith) ]

failed : {h : History} {S : List (ℕ × ℕ)} {t : ℕ} {σ : List ℕ} → Accepted h → Search h S t fails → Fitting h S σ → ⊥
failed {h} {S} {σ = σ} acc (Search.clash c) fit = let z = sound h S σ acc fit c.1 in omega arith
failed acc (Search.higher n f s s') fit =
    ⊎_elim (λ p. failed acc s (with_pair fit p)) (λ p. failed acc s' (with_pair fit p)) (either_way fit f.unordered.writes)

pub failure_leaves_none : {h : History} {S : List (ℕ × ℕ)} {t : ℕ} → Accepted h → Search h S t fails → ¬ Serializable h S
failure_leaves_none acc s f = failed acc s f.1
