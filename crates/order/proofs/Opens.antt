-- Opening accepts exactly the events of which the record says that they are accepted.
use Rattle.std.proofs.Common.{◌≡◌, ℕ, zero, suc, ◌-◌, ◌<◌, ◌≤◌, Bool, true, false, cond, not, ◌&&◌, T, eqb, leb, ◌≢◌, Some, None, Option, sym, refl, ap, ◌∙◌, subst, arith, le→leb, leb→le, T_not}
use native.Mathlib.Decide.{ℕ_discrete}
use lib.Dec.{not_T}
use Rattle.order.specs.History.{History, at, count, star_of, revision_of, Number, Read, Write, TakesFrom}
use Rattle.order.specs.Opening.{first_failing, some_up_to, is_read, is_write, writes_same, keeps_limits, writes_revision, writes_first, reads_written, Opening, accepted, fault, checked, opening, Accepted}
use Rattle.order.specs.Theorems.{OpeningAccepts}
use Rattle.order.proofs.Tests.{is_true, true_is, or_elim, or_l, or_r, and_l, and_r, and_i}
use Rattle.order.proofs.Upto.{some_e, some_i}

-- No number fails exactly when all pass.
pub none_fails : (passes : ℕ → Bool) (n : ℕ) → first_failing passes n ≡ None → (i : ℕ) → 1 ≤ i → i ≤ n → T (passes i)
none_fails passes zero e i l u = absurd (omega arith)
none_fails passes (suc n) e i l u = go (first_failing passes n) (none_fails passes n) (passes (suc n)) refl e
  where
    go : (o : Option ℕ) → (o ≡ None → (i : ℕ) → 1 ≤ i → i ≤ n → T (passes i)) → (b : Bool) → passes (suc n) ≡ b →
        ◌≡◌ {A = Option ℕ} (elim o [ Some j ↦ Some j | None ↦ cond b None (Some (suc n)) ]) None → T (passes i)
    go (Some j) ih b c e = absurd (let z : ◌≡◌ {A = ℕ} 0 1 = cc in omega arith)
    go None ih false c e = absurd (let z : ◌≡◌ {A = ℕ} 0 1 = cc in omega arith)
    go None ih true c e = elim (ℕ_discrete i (suc n)) [
      | yes s ↦ subst (λ k. T (passes k)) (sym s) (is_true c)
      | no q ↦ ih refl i l (omega arith)
    ]

pub all_pass : (passes : ℕ → Bool) (n : ℕ) → ((i : ℕ) → 1 ≤ i → i ≤ n → T (passes i)) → first_failing passes n ≡ None
all_pass passes zero f = refl
all_pass passes (suc n) f =
    rw (all_pass passes n (λ i l u. f i l (omega arith)), true_is (passes (suc n)) (f (suc n) (omega arith) (omega arith)))

passes_all : (number : ℕ) (passes : ℕ → Bool) (n : ℕ) (next : Opening) → checked number passes n next ≡ accepted →
    ((i : ℕ) → 1 ≤ i → i ≤ n → T (passes i)) × (next ≡ accepted)
passes_all number passes n next e = go (first_failing passes n) refl e
  where
    go : (o : Option ℕ) → first_failing passes n ≡ o → elim o [ Some i ↦ fault number i | None ↦ next ] ≡ accepted →
        ((i : ℕ) → 1 ≤ i → i ≤ n → T (passes i)) × (next ≡ accepted)
    go (Some i) d e = absurd (let z : ◌≡◌ {A = ℕ} 0 1 = cc in omega arith)
    go None d e = (none_fails passes n d, e)

passed_all : (number : ℕ) (passes : ℕ → Bool) (n : ℕ) (next : Opening) → ((i : ℕ) → 1 ≤ i → i ≤ n → T (passes i)) → checked number passes n next ≡ next
passed_all number passes n next f = rw (all_pass passes n f, checked)

-- What each check says of an event.
module _ (h : History) (i : ℕ) (n : Number h i) where
  kind_e : T (keeps_limits h.events i) → (at h i).kind ≤ 1
  kind_e t = grind arith

  session_e : T (keeps_limits h.events i) → (at h i).session ≤ 15
  session_e t = grind arith

  star_e : T (keeps_limits h.events i) → star_of h i ≤ 63
  star_e t = grind arith

  revision_e : T (keeps_limits h.events i) → revision_of h i ≤ 16383
  revision_e t = grind arith

  within_i : Accepted h → T (keeps_limits h.events i)
  within_i a = let k = a.kind i n in let s = a.session i n in let x = a.star i n in let r = a.revision i n in grind arith

  writes_e : T (writes_revision h.events i) → (at h i).kind ≡ 1 → revision_of h i ≢ 0
  writes_e t k z = T_not (is_write (at h i) && eqb (revision_of h i) 0) t (let b : T (is_write (at h i) && eqb (revision_of h i) 0) = grind arith in b)

  writes_i : Accepted h → T (writes_revision h.events i)
  writes_i a = not_T (is_write (at h i) && eqb (revision_of h i) 0) (λ t.
      let k : (at h i).kind ≡ 1 = grind arith in let z : revision_of h i ≡ 0 = grind arith in a.written i (record { number = n; kind = k }) z)

  same_e : (w : ℕ) → T (writes_same (at h i) (at h w)) → ((at h w).kind ≡ 1) × (star_of h w ≡ star_of h i) × (revision_of h w ≡ revision_of h i)
  same_e w t = grind arith

  same_i : (w : ℕ) → (at h w).kind ≡ 1 → star_of h w ≡ star_of h i → revision_of h w ≡ revision_of h i → T (writes_same (at h i) (at h w))
  same_i w k s r = grind arith

  first_e : T (writes_first h.events i) → Write h i → (v : ℕ) → v < i → Write h v → star_of h v ≡ star_of h i → revision_of h v ≡ revision_of h i → ⊥
  first_e t w v l x s r =
      let e : T (is_write (at h i)) = grind arith in
      T_not (is_write (at h i) && some_up_to (i - 1) (λ j. writes_same (at h i) (at h j))) t
      (and_i (is_write (at h i)) (some_up_to (i - 1) (λ j. writes_same (at h i) (at h j))) e
      (some_i (i - 1) (λ j. writes_same (at h i) (at h j)) v x.number.low (omega arith) (same_i v x.kind s r)))

  first_i : Accepted h → T (writes_first h.events i)
  first_i a = not_T (is_write (at h i) && some_up_to (i - 1) (λ j. writes_same (at h i) (at h j))) (λ t.
      let w = and_l (is_write (at h i)) (some_up_to (i - 1) (λ j. writes_same (at h i) (at h j))) t in
      let k : (at h i).kind ≡ 1 = grind arith in
      let r = some_e (i - 1) (λ j. writes_same (at h i) (at h j)) (and_r (is_write (at h i)) (some_up_to (i - 1) (λ j. writes_same (at h i) (at h j))) t) in
      let s = same_e r.0 r.3 in
      let m = n.high in
      let same = a.once r.0 i (record { number = record { low = r.1; high = omega arith }; kind = s.0 }) (record { number = n; kind = k }) s.1 s.2 in
      omega arith)

  reads_e : T (reads_written h.events i) → Read h i → revision_of h i ≢ 0 → (w : ℕ) × TakesFrom h i w
  reads_e t r z = or_elim (not (is_read (at h i) && not (eqb (revision_of h i) 0))) (some_up_to (count h) (λ w. writes_same (at h i) (at h w)))
      (λ b. absurd (T_not (is_read (at h i) && not (eqb (revision_of h i) 0)) b (let c : T (is_read (at h i) && not (eqb (revision_of h i) 0)) = grind arith in c)))
      (λ b. let s = some_e (count h) (λ w. writes_same (at h i) (at h w)) b in let e = same_e s.0 s.3 in
      (s.0, record { read = r; other = z; write = record { number = record { low = s.1; high = s.2 }; kind = e.0 }; star = e.1; revision = e.2 })) t

  reads_i : Accepted h → T (reads_written h.events i)
  reads_i a = elim (ℕ_discrete (at h i).kind 0) [
    | no q ↦ or_l (not (is_read (at h i) && not (eqb (revision_of h i) 0))) (some_up_to (count h) (λ w. writes_same (at h i) (at h w)))
        (let c : T (not (is_read (at h i) && not (eqb (revision_of h i) 0))) = grind arith in c)
    | yes k ↦ elim (ℕ_discrete (revision_of h i) 0) [
      | yes z ↦ or_l (not (is_read (at h i) && not (eqb (revision_of h i) 0))) (some_up_to (count h) (λ w. writes_same (at h i) (at h w)))
          (let c : T (not (is_read (at h i) && not (eqb (revision_of h i) 0))) = grind arith in c)
      | no z ↦ let f = a.found i (record { number = n; kind = k }) z in let m = f.1.write.number in
          or_r (not (is_read (at h i) && not (eqb (revision_of h i) 0))) (some_up_to (count h) (λ w. writes_same (at h i) (at h w)))
          (some_i (count h) (λ w. writes_same (at h i) (at h w)) f.0 m.low m.high (same_i f.0 f.1.write.kind f.1.star f.1.revision))
    ]
  ]

-- What is accepted is not too long, and goes on to the checks.
few_enough : (n : ℕ) (next : Opening) → cond (leb n 256) next (fault 11 257) ≡ accepted → (n ≤ 256) × (next ≡ accepted)
few_enough n next e = go (leb n 256) refl e
  where
    go : (b : Bool) → leb n 256 ≡ b → cond b next (fault 11 257) ≡ accepted → (n ≤ 256) × (next ≡ accepted)
    go true d e = (leb→le n 256 (is_true d), e)
    go false d e = absurd (let z : ◌≡◌ {A = ℕ} 0 1 = cc in omega arith)

module _ (h : History) where
  opens_e : opening h.events ≡ accepted → Accepted h
  opens_e e =
      let n = count h in
      let few = few_enough n _ e in
      let limits = passes_all 12 (keeps_limits h.events) n _ few.1 in
      let revisions = passes_all 13 (writes_revision h.events) n _ limits.1 in
      let firsts = passes_all 14 (writes_first h.events) n _ revisions.1 in
      let reads = passes_all 15 (reads_written h.events) n accepted firsts.1 in
      let before : (v w : ℕ) → Write h v → Write h w → star_of h v ≡ star_of h w → revision_of h v ≡ revision_of h w → ¬ (v < w) = λ v w x y s r l.
      let m = y.number in first_e h w m (firsts.0 w m.low m.high) y v l x s r in
      record {
        few = few.0;
        kind = λ i m. kind_e h i m (limits.0 i m.low m.high);
        session = λ i m. session_e h i m (limits.0 i m.low m.high);
        star = λ i m. star_e h i m (limits.0 i m.low m.high);
        revision = λ i m. revision_e h i m (limits.0 i m.low m.high);
        written = λ w x. let m = x.number in writes_e h w m (revisions.0 w m.low m.high) x.kind;
        once = λ v w x y s r. let p = before v w x y s r in let q = before w v y x (sym s) (sym r) in omega arith;
        found = λ r x z. let m = x.number in reads_e h r m (reads.0 r m.low m.high) x z;
      }

  opens_i : Accepted h → opening h.events ≡ accepted
  opens_i a =
      let n = count h in
      let number : (i : ℕ) → 1 ≤ i → i ≤ count h → Number h i = λ i l u. record { low = l; high = u } in
      ap (λ b. cond b (checked 12 (keeps_limits h.events) n (checked 13 (writes_revision h.events) n (checked 14 (writes_first h.events) n (checked 15 (reads_written h.events) n accepted)))) (fault 11 257)) (true_is (leb n 256) (le→leb n 256 a.few))
      ∙ passed_all 12 (keeps_limits h.events) n _ (λ i l u. within_i h i (number i l u) a)
      ∙ passed_all 13 (writes_revision h.events) n _ (λ i l u. writes_i h i (number i l u) a)
      ∙ passed_all 14 (writes_first h.events) n _ (λ i l u. first_i h i (number i l u) a)
      ∙ passed_all 15 (reads_written h.events) n accepted (λ i l u. reads_i h i (number i l u) a)

pub opening_accepts_lem : OpeningAccepts
opening_accepts_lem h = (opens_e h, opens_i h)
