-- The ledger's pairs are writes of one star, and so pairs of events.
use Rattle.std.proofs.Common.{◌≡◌, ℕ, zero, suc, ◌-◌, Bool, true, false, cond, not, ◌&&◌, T, eqb, ◌≢◌, ◌⊎◌, List, [], ◌∷◌, ◌++◌, length, take, sym, refl, subst, inl, inr, arith, eqb→eq}
use mathlib.Core.List.Memᴰ
use mathlib.Core.List.{Memᴰ}
use Rattle.order.specs.History.{History, at, star_of, PairsOfEvents, TwoWrites}
use Rattle.order.specs.Opening.{is_write}
use Rattle.order.specs.Calls.{Answer, refused, is_number, Call, stipulate, lift, judge, show, accepts, entered, entered_all, ledger, stipulate_answer, lift_answer}
use Rattle.order.proofs.Tests.{is_true, and_l, and_r}
use Rattle.order.proofs.Decide.{number_e}

-- What a refusal does not stop goes on to the rest.
not_refused : (b : Bool) (n : ℕ) (r : Answer) → T (accepts (cond b (refused n) r)) → (b ≡ false) × T (accepts r)
not_refused true n r t = absurd t
not_refused false n r t = (refl, t)

-- What stipulate accepts are two writes of one star.
pub accepted_writes : (h : History) (L : List (ℕ × ℕ)) (a b : ℕ) → T (accepts (stipulate_answer h L a b)) → TwoWrites h a b
accepted_writes h L a b t =
    let x = not_refused (not (is_number h a && is_number h b)) 21 _ t in
    let y = not_refused (not (is_write (at h a) && is_write (at h b))) 22 _ x.1 in
    let z = not_refused (not (eqb (star_of h a) (star_of h b))) 23 _ y.1 in
    let w = not_refused (eqb a b) 24 _ z.1 in
    let m = not_not (is_number h a && is_number h b) x.0 in
    let k = not_not (is_write (at h a) && is_write (at h b)) y.0 in
    record {
      first = record { number = number_e h a (and_l (is_number h a) (is_number h b) m); kind = eqb→eq (at h a).kind 1 (and_l (is_write (at h a)) (is_write (at h b)) k) };
      second = record { number = number_e h b (and_r (is_number h a) (is_number h b) m); kind = eqb→eq (at h b).kind 1 (and_r (is_write (at h a)) (is_write (at h b)) k) };
      star = eqb→eq (star_of h a) (star_of h b) (not_not (eqb (star_of h a) (star_of h b)) z.0);
      two = differ w.0;
    }
  where
    not_not : (b : Bool) → not b ≡ false → T b
    not_not true e = tt
    not_not false e = subst T e tt

    differ : eqb a b ≡ false → a ≢ b
    differ e d = grind arith

-- Every pair of a list is two writes of one star.
abbrev pub AllWrites : History → List (ℕ × ℕ) → Type 0
AllWrites h L = (a b : ℕ) → Memᴰ (a, b) L → TwoWrites h a b

member_take : {x : ℕ × ℕ} (n : ℕ) (L : List (ℕ × ℕ)) → Memᴰ x (take n L) → Memᴰ x L
member_take zero L m = absurd (Memᴰ.not-nil m)
member_take (suc n) [] m = m
member_take (suc n) (q ∷ qs) m = go (Memᴰ.cases_cons m) (member_take n qs)
  where
    go : {x : ℕ × ℕ} → (x ≡ q) ⊎ Memᴰ x (take n qs) → (Memᴰ x (take n qs) → Memᴰ x qs) → Memᴰ x (q ∷ qs)
    go (inl e) ih = Memᴰ.head e
    go (inr k) ih = Memᴰ.tail (ih k)

pub enters : (h : History) (L : List (ℕ × ℕ)) (c : Call) → AllWrites h L → AllWrites h (entered h L c)
enters h L (stipulate a b) r = go (accepts (stipulate_answer h L a b)) refl
  where
    go : (v : Bool) → accepts (stipulate_answer h L a b) ≡ v → AllWrites h (cond v (L ++ ((a, b) ∷ [])) L)
    go false e = r
    go true e = λ c d m. elim (Memᴰ.append_cases L m) [
      | inl k ↦ r c d k
      | inr k ↦ elim (Memᴰ.cases_cons k) [
        | inl p ↦ subst (λ (q : ℕ × ℕ). TwoWrites h q.0 q.1) (sym p) (accepted_writes h L a b (is_true e))
        | inr j ↦ absurd (Memᴰ.not-nil j)
      ]
    ]
enters h L lift r = go (accepts (lift_answer L))
  where
    go : (v : Bool) → AllWrites h (cond v (take (length L - 1) L) L)
    go true = λ a b m. r a b (member_take (length L - 1) L m)
    go false = r
enters h L (judge budget) r = r
enters h L (show f buffer) r = r

all_enter : (h : History) (L : List (ℕ × ℕ)) (cs : List Call) → AllWrites h L → AllWrites h (entered_all h L cs)
all_enter h L [] r = r
all_enter h L (c ∷ cs) r = all_enter h (entered h L c) cs (enters h L c r)

pub ledger_writes : (h : History) (cs : List Call) (a b : ℕ) → Memᴰ (a, b) (ledger h cs) → TwoWrites h a b
ledger_writes h cs = all_enter h [] cs (λ a b m. absurd (Memᴰ.not-nil m))

pub ledger_events : (h : History) (cs : List Call) → PairsOfEvents h (ledger h cs)
ledger_events h cs a b m = let w = ledger_writes h cs a b m in (w.first.number, w.second.number)
