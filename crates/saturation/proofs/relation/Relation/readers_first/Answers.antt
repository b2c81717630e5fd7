use Rattle.std.proofs.Common.{ℕ, ◌<◌, length, sym, ap, ◌∙◌, inl, inr, arith, rules}
use Rattle.std.proofs.lemmas.Bool.{true≢false, and_parts, and_from, cases_eq, ne_eqb}
use Rattle.std.proofs.lemmas.Result.{MatchResult-from_err}
use Rattle.saturation.specs.Relations.{earlier}
use Rattle.saturation.specs.Laws.{Fitting, Later}
use Rattle.sets.proofs.Counts.{pop_falls}
use Rattle.saturation.proofs.Parts.{in_part}
use Rattle.saturation.proofs.Trails.{kept_same, kept_then}
use Rattle.saturation.proofs.Steps.{forced_same, forced_then, doomed_then}
use Rattle.saturation.proofs.relation.Relation.readers_first.Goals as goal

pub loop-r-init : goal.loop-r-init
loop-r-init g c =
    let lw : c.args.w < length c.args.facts.now.ties = search rules in (
      kept_same c.args.self.now,
      forced_same c.args.facts.now c.args.self.now,
      λ x h. in_part (λ t. t.takers) c.args.facts.now.ties c.args.w _ lw x ∙ h,
      λ q x h k. inl (sym (in_part (λ t. t.takers) c.args.facts.now.ties c.args.w _ lw x) ∙ k),
    )

pub lead-requires : goal.lead-requires
lead-requires g c =
    let p = c.in-Some.ensures in
    let lm : c.args.w < length c.args.facts.now.ties = search rules in
    let k = c.loop-r.invariant.2 c.in-Some.r p.was in
    let e = c.loop-r.invariant.0.events in
    let fit : Fitting c.args.facts.now c.loop-r.self c.args.w = (c.requires.0 ∙ sym e, omega arith) in
    let listed : Later c.args.facts.now c.loop-r.self c.args.w c.intersection-later.result
    = λ q h.
    let b = and_parts _ _ (sym (c.intersection-later.ensures q) ∙ h) in
    (in_part (λ t. t.mates) c.args.facts.now.ties c.args.w _ lm q ∙ b.1, c.loop-r.invariant.1.grown.keeps c.args.w q (sym (c.successors.ensures q) ∙ b.0)) in
    search rules

pub loop-r-smaller : goal.loop-r-smaller
loop-r-smaller g c = pop_falls c.loop-r.takers c.pop.new.self c.in-Some.r c.in-Some.ensures

pub loop-r-preserved : goal.loop-r-preserved
loop-r-preserved g c =
    let f = c.args.facts.now in
    let r : ℕ = c.in-Some.r in
    let p = c.in-Some.ensures in
    let y = c.in_ok-lead.ensures.rule in (
      kept_then c.args.self.now c.loop-r.self c.lead.new.self c.loop-r.invariant.0 c.lead.ensures.kept,
      forced_then f c.args.self.now c.loop-r.self c.lead.new.self c.loop-r.invariant.1 y.0,
      λ x h. c.loop-r.invariant.2 x (and_parts _ _ (sym (p.rest x) ∙ h)).1,
      λ q x h k. elim (cases_eq x r) [
        | inl s ↦ inr (ap (λ z. earlier c.lead.new.self z q) s ∙ y.1 q h)
        | inr ne ↦ elim (c.loop-r.invariant.3 q x h k) [
          | inl o ↦ inl (p.rest x ∙ rw (ne_eqb x r ne) o)
          | inr o ↦ inr (y.0.grown.keeps x q o)
        ]
      ],
    )

pub returns-in_err-lead : goal.returns-in_err-lead
returns-in_err-lead g c = record {
  kept = kept_then c.args.self.now c.loop-r.self c.lead.new.self c.loop-r.invariant.0 c.lead.ensures.kept;
  rule = MatchResult-from_err _ _ _ c.from_residual.ensures.0
      (λ _. doomed_then c.args.facts.now (earlier c.args.self.now) (earlier c.loop-r.self) c.loop-r.invariant.1.grown c.in_err-lead.ensures.rule);
}

pub returns : goal.returns
returns g c = record {
  kept = c.loop-r.invariant.0;
  rule = (
    c.loop-r.invariant.1,
    λ q x m k h.
        let lw : c.args.w < length c.args.facts.now.ties = search rules in
        let l = c.intersection-later.ensures q ∙ and_from _ _ (c.successors.ensures q ∙ h) (sym (in_part (λ t. t.mates) c.args.facts.now.ties c.args.w _ lw q) ∙ m) in
        elim (c.loop-r.invariant.3 q x l k) [ inl o ↦ absurd (true≢false (sym o ∙ c.in_default.ensures.0 x)) | inr o ↦ o ],
  );
}
