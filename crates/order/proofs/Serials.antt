-- The two wordings of serial agree on accepted histories.
use Rattle.std.proofs.Common.{◌≡◌, ℕ, Bool, ◌&&◌, T, eqb, leb, ◌⊎◌, List, sym, refl, ap, ◌∙◌, subst, inl, inr, arith}
use native.Mathlib.Decide.{ℕ_discrete}
use Rattle.order.specs.History.{History, at, count, star_of, revision_of, Number, Read, Write, TakesFrom}
use Rattle.order.specs.Orders.{place, Order, Reaches, Latest, Serial, SerialByReads}
use Rattle.order.specs.Opening.{is_write, Accepted}
use Rattle.order.specs.Theorems.{SerialWordingsAgree}
use Rattle.order.proofs.Upto.{greatest}
use Rattle.order.proofs.Places.{apart, read_write}

module _ (h : History) (σ : List ℕ) (acc : Accepted h) (o : Order (count h) σ) where
  either_kind : (i : ℕ) → Number h i → Read h i ⊎ Write h i
  either_kind i n = let k = acc.kind i n in elim (ℕ_discrete (at h i).kind 0) [
    | yes e ↦ inl (record { number = n; kind = e })
    | no q ↦ inr (record { number = n; kind = omega arith })
  ]

  one_place : (a b : ℕ) → Number h a → Number h b → place σ a ≡ place σ b → a ≡ b
  one_place a b m n e = elim (ℕ_discrete a b) [ yes d ↦ d | no q ↦ absurd (apart h σ o a b m n q e) ]

  module _ (s : SerialByReads h σ) where
    to_latest : (i w : ℕ) → Number h i → Latest h σ i w → revision_of h i ≡ revision_of h w
    to_latest i w n l = elim (either_kind i n) [
      | inr x ↦ let p = l.last i (record { write = x; star = refl; reached = omega arith }) in let q = l.reaches.reached in
          ap (λ z. revision_of h z) (one_place i w n l.reaches.write.number (omega arith))
      | inl r ↦ let q = l.reaches.reached in let v = l.reaches.write in let ne = read_write h σ o i w r v in elim (ℕ_discrete (revision_of h i) 0) [
        | yes z ↦ absurd (s.start i w (record { read = r; revision = z }) v l.reaches.star (omega arith))
        | no z ↦ let f = acc.found i r z in let u = f.0 in let t = f.1 in
            elim (ℕ_discrete u w) [
              | yes e ↦ sym t.revision ∙ ap (λ x. revision_of h x) e
              | no d ↦ let a = s.taken i u t in let b = l.last u (record { write = t.write; star = t.star; reached = omega arith }) in
                  let c = apart h σ o u w t.write.number v.number d in
                  absurd (s.between i u w t (record { first = t.write; second = v; star = t.star ∙ sym l.reaches.star; two = d }) (omega arith) (omega arith))
            ]
      ]
    ]

    to_none : (i : ℕ) → Number h i → ((w : ℕ) → ¬ Reaches h σ i w) → revision_of h i ≡ 0
    to_none i n none = elim (either_kind i n) [
      | inr x ↦ absurd (none i (record { write = x; star = refl; reached = omega arith }))
      | inl r ↦ elim (ℕ_discrete (revision_of h i) 0) [
        | yes z ↦ z
        | no z ↦ let f = acc.found i r z in let a = s.taken i f.0 f.1 in
            absurd (none f.0 (record { write = f.1.write; star = f.1.star; reached = omega arith }))
      ]
    ]

    pub from_reads : Serial h σ
    from_reads = record { latest = to_latest; none = to_none }

  abbrev reaches? : ℕ → ℕ → Bool
  reaches? i w = is_write (at h w) && (eqb (star_of h w) (star_of h i) && leb (place σ w) (place σ i))

  reaches_e : (i w : ℕ) → Number h w → T (reaches? i w) → Reaches h σ i w
  reaches_e i w n t = grind arith

  reaches_i : (i w : ℕ) → Reaches h σ i w → T (reaches? i w)
  reaches_i i w r = grind arith

  latest_or_none : (i : ℕ) → ((w : ℕ) × Latest h σ i w) ⊎ ((w : ℕ) → ¬ Reaches h σ i w)
  latest_or_none i = elim (greatest (count h) (reaches? i) (place σ)) [
    | inl r ↦ inl (
      r.0,
      record {
        reaches = reaches_e i r.0 (record { low = r.1; high = r.2 }) r.3;
        last = λ v x. r.4 v x.write.number.low x.write.number.high (reaches_i i v x);
      },
    )
    | inr q ↦ inr (λ w x. q w x.write.number.low x.write.number.high (reaches_i i w x))
  ]

  module _ (s : Serial h σ) where
    -- the write that a read takes from is the latest one
    latest_is : (r w : ℕ) → TakesFrom h r w → Latest h σ r w
    latest_is r w t = elim (latest_or_none r) [
      | inr q ↦ absurd (t.other (s.none r t.read.number q))
      | inl u ↦ let x = u.1.reaches in
          let e = acc.once u.0 w x.write t.write (x.star ∙ sym t.star) (sym (s.latest r u.0 t.read.number u.1) ∙ sym t.revision) in
          subst (λ y. Latest h σ r y) e u.1
    ]

    pub to_reads : SerialByReads h σ
    to_reads = record {
      taken = λ r w t. let p = (latest_is r w t).reaches.reached in let n = read_write h σ o r w t.read t.write in omega arith;
      between = λ r w v t x p q. let z = (latest_is r w t).last v (record { write = x.second; star = sym x.star ∙ t.star; reached = omega arith }) in omega arith;
      start = λ r v f x e p. elim (latest_or_none r) [
        | inr q ↦ q v (record { write = x; star = e; reached = omega arith })
        | inl u ↦ acc.written u.0 u.1.reaches.write (sym (s.latest r u.0 f.read.number u.1) ∙ f.revision)
      ];
    }

pub serial_wordings_agree_lem : SerialWordingsAgree
serial_wordings_agree_lem h σ acc o = (λ s. to_reads h σ acc o s, λ s. from_reads h σ acc o s)
