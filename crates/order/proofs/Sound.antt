-- A fitting order has a earlier than b wherever a is before b.
use Rattle.std.proofs.Common.{ℕ, ◌<◌, ◌≢◌, List, sym, arith}
use Rattle.order.specs.History.{History, TwoWrites}
use Rattle.order.specs.Orders.{place, SerialByReads, Fitting}
use Rattle.order.specs.Before.{Before}
use Rattle.order.specs.Opening.{Accepted}
use Rattle.order.specs.Theorems.{FittingKeepsBefore}
use Rattle.order.proofs.Places.{apart, read_write}
use Rattle.order.proofs.Serials.{to_reads}

pub turned : {h : History} {a b : ℕ} → TwoWrites h a b → TwoWrites h b a
turned v = record { first = v.second; second = v.first; star = sym v.star; two = λ e. v.two (sym e) }

module _ (h : History) (S : List (ℕ × ℕ)) (σ : List ℕ) (acc : Accepted h) (fit : Fitting h S σ) where
  reads : SerialByReads h σ
  reads = to_reads h σ acc fit.order fit.serial

  pub sound : {a b : ℕ} → Before h S a b → place σ a < place σ b
  sound (Before.kept k) = fit.rule _ _ k
  sound (Before.stands m) = fit.pairs _ _ m
  sound (Before.taken t) = reads.taken _ _ t
  sound (Before.start {r = r} {w = w} f v e) =
      let k : ¬ (place σ w < place σ r) = reads.start r w f v e in
      let n : place σ r ≢ place σ w = read_write h σ fit.order r w f.read v in
      omega arith
  sound (Before.missed {w = w} {w' = w'} {r = r} t v b) =
      let i : place σ w < place σ r = sound b in
      let j : place σ w' < place σ r = reads.taken r w' t in
      let k : ¬ (place σ w' < place σ w) = λ q. reads.between r w' w t (turned v) q i in
      let n : place σ w ≢ place σ w' = apart h σ fit.order w w' v.first.number v.second.number v.two in
      omega arith
  sound (Before.passed {w = w} {w' = w'} {r = r} t v b) =
      let i : place σ w < place σ w' = sound b in
      let k : ¬ (place σ w' < place σ r) = λ q. reads.between r w w' t v i q in
      let n : place σ r ≢ place σ w' = read_write h σ fit.order r w' t.read v.second in
      omega arith
  sound (Before.chain b c) = let i = sound b in let j = sound c in omega arith

pub fitting_keeps_before_lem : FittingKeepsBefore
fitting_keeps_before_lem h S acc =
    (λ σ fit a b p. sound h S σ acc fit p, λ c f. let z = sound h S f.0 acc f.1 c.1 in omega arith)
