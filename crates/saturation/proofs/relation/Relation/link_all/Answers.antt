use Rattle.std.proofs.Common.{◌≡◌, true, false, not, ◌&&◌, sym, ap, ◌∙◌, inl, inr}
use Rattle.std.proofs.lemmas.Bool.{cases_eq, eq-eqb, ne_eqb, and_right, and_left, and_parts, not_from_true}
use Rattle.std.proofs.lemmas.Result.{MatchResult-from_err}
use Rattle.sets.specs.Sets.{has}
use Rattle.saturation.specs.Rooting.{RowOf}
use Rattle.sets.proofs.Counts.{pop_falls}
use Rattle.saturation.proofs.Trails.{kept_then, kept_link}
use Rattle.saturation.proofs.Roots.{Only, gained_link, gained_then, gained_as, blocked_link, blocked_then}
use Rattle.saturation.proofs.relation.Relation.link_all.Goals as goal

pub loop-y-smaller : goal.loop-y-smaller
loop-y-smaller g c = pop_falls c.loop-y.rest c.pop.new.self c.in-Some.y c.in-Some.ensures

pub loop-y-preserved : goal.loop-y-preserved
loop-y-preserved g c =
    let p = c.in-Some.ensures in
    let l = c.in_ok-link.ensures in (
      kept_then c.args.self.now c.loop-y.self c.link.new.self c.loop-y.invariant.0 l.kept,
      gained_then (λ u v. (u ≡ c.args.x) × (has c.args.listed.now v ≡ true) × (has c.loop-y.rest v ≡ false)) (Only c.args.x c.in-Some.y)
          (λ u v. (u ≡ c.args.x) × (has c.args.listed.now v ≡ true) × (has c.pop.new.self v ≡ false))
          c.args.self.now c.loop-y.self c.loop-y.invariant.1
          (λ u v k. (k.0, k.1, p.rest v ∙ and_right _ _ k.2))
          (λ u v k. (
            k.0,
            ap (λ z. has c.args.listed.now z) k.1 ∙ c.loop-y.invariant.2 c.in-Some.y p.was,
            p.rest v ∙ and_left _ _ (not_from_true _ (eq-eqb v c.in-Some.y k.1)),
          ))
          c.link.new.self (gained_link c.loop-y.self c.link.new.self c.args.x c.in-Some.y l)
          (λ u v k. elim (cases_eq v c.in-Some.y) [
            | inl e ↦ inr (k.0, e)
            | inr ne ↦ inl (k.0, k.1, ap (λ b. not b && has c.loop-y.rest v) (sym (ne_eqb v c.in-Some.y ne)) ∙ sym (p.rest v) ∙ k.2)
          ]),
      λ y h. c.loop-y.invariant.2 y (and_parts _ _ (sym (p.rest y) ∙ h)).1,
    )

pub returns-in_err-link : goal.returns-in_err-link
returns-in_err-link g c =
    let p = c.in-Some.ensures in
    let l = c.in_err-link.ensures in
    record {
      kept = kept_then c.args.self.now c.loop-y.self c.link.new.self c.loop-y.invariant.0 (kept_link c.loop-y.self c.link.new.self l.1);
      pairs = MatchResult-from_err _ _ _ c.from_residual.ensures.0
          (λ _. blocked_then (λ u v. (u ≡ c.args.x) × (has c.args.listed.now v ≡ true) × (has c.loop-y.rest v ≡ false)) (Only c.args.x c.in-Some.y) (RowOf c.args.x c.args.listed.now)
          c.args.self.now c.loop-y.self c.loop-y.invariant.1
          (λ u v k. (k.0, k.1))
          (λ u v k. (k.0, ap (λ z. has c.args.listed.now z) k.1 ∙ c.loop-y.invariant.2 c.in-Some.y p.was))
          (blocked_link c.loop-y.self c.args.x c.in-Some.y l.0));
    }

pub returns : goal.returns
returns g c = record {
  kept = c.loop-y.invariant.0;
  pairs = gained_as (λ u v. (u ≡ c.args.x) × (has c.args.listed.now v ≡ true) × (has c.loop-y.rest v ≡ false)) (RowOf c.args.x c.args.listed.now) c.args.self.now c.loop-y.self
      (λ u v k. (k.0, k.1)) (λ u v k. (k.0, k.1, c.in_default.ensures.0 v)) c.loop-y.invariant.1;
}
