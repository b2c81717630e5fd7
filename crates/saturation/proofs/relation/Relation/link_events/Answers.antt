use Rattle.std.proofs.Common.{◌≡◌, ℕ, ◌+◌, ◌<◌, true, [], sym, ap, ◌∙◌, inl, inr, arith, rules}
use Rattle.std.proofs.lemmas.Bool.{cases_eq}
use Rattle.std.proofs.lemmas.Result.{MatchResult-from_err}
use Rattle.sets.specs.Sets.{has}
use Rattle.order.specs.History.{count}
use Rattle.saturation.specs.Recorded.{history_in}
use Rattle.saturation.specs.Rooting.{leads_in, Outright, RowOf}
use Rattle.saturation.proofs.Trails.{kept_same, kept_then}
use Rattle.saturation.proofs.Roots.{leads_below, gained_same, gained_then, gained_as, blocked_then}
use Rattle.saturation.proofs.relation.Relation.link_events.Goals as goal

pub loop-x-init : goal.loop-x-init
loop-x-init g c = (kept_same c.args.self.now, gained_same (Outright c.args.case.now 0) c.args.self.now (λ x y k. let l = k.0 in omega arith))

pub link_all-requires : goal.link_all-requires
link_all-requires g c =
    let e = c.loop-x.invariant.0.events in
    let lx : c.loop-x.x < c.loop-x.self.count = omega arith in
    let all : (y : ℕ) → has c.followers.result y ≡ true → y < c.loop-x.self.count
    = λ y h. let l = leads_below c.args.case.now [] c.loop-x.x y (sym (c.followers.ensures y) ∙ h) in omega arith in
    search rules

pub loop-x-preserved : goal.loop-x-preserved
loop-x-preserved g c =
    let r = c.args.case.now in
    let i : ℕ = c.loop-x.x in
    let y = c.in_ok-link_all.ensures.pairs in (
      kept_then c.args.self.now c.loop-x.self c.link_all.new.self c.loop-x.invariant.0 c.link_all.ensures.kept,
      gained_then (Outright r i) (RowOf i c.followers.result) (Outright r (i + 1)) c.args.self.now c.loop-x.self c.loop-x.invariant.1
          (λ u v k. (let l = k.0 in omega arith, k.1))
          (λ u v k. (let e = k.0 in omega arith, ap (λ z. leads_in r z v) k.0 ∙ sym (c.followers.ensures v) ∙ k.1))
          c.link_all.new.self y
          (λ u v k. elim (cases_eq u i) [
            | inl e ↦ inr (e, c.followers.ensures v ∙ ap (λ z. leads_in r z v) (sym e) ∙ k.1)
            | inr ne ↦ inl (let l = k.0 in omega arith, k.1)
          ]),
    )

pub returns-in_err-link_all : goal.returns-in_err-link_all
returns-in_err-link_all g c =
    let r = c.args.case.now in
    let i : ℕ = c.loop-x.x in
    let t = c.loop-x-test.true in
    record {
      kept = kept_then c.args.self.now c.loop-x.self c.link_all.new.self c.loop-x.invariant.0 c.link_all.ensures.kept;
      pairs = MatchResult-from_err _ _ _ c.from_residual.ensures.0
          (λ _. blocked_then (Outright r i) (RowOf i c.followers.result) (Outright r (count (history_in r))) c.args.self.now c.loop-x.self c.loop-x.invariant.1
          (λ u v k. (let l = k.0 in omega arith, k.1))
          (λ u v k. (let e = k.0 in omega arith, ap (λ z. leads_in r z v) k.0 ∙ sym (c.followers.ensures v) ∙ k.1))
          c.in_err-link_all.ensures.pairs);
    }

pub returns : goal.returns
returns g c = record {
  kept = c.loop-x.invariant.0;
  pairs = gained_as (Outright c.args.case.now c.loop-x.x) (Outright c.args.case.now (count (history_in c.args.case.now))) c.args.self.now c.loop-x.self
      (λ u v k. (let l = k.0 in omega arith, k.1)) (λ u v k. (let l = k.0 in omega arith, k.1)) c.loop-x.invariant.1;
}
