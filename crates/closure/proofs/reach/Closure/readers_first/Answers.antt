use Rattle.std.proofs.Common.{ℕ, sym, ap, ◌∙◌, inl, inr, arith, rules}
use Rattle.std.proofs.lemmas.Bool.{true≢false, and_parts, and_from, cases_eq, ne_eqb}
use Rattle.saturation.specs.Laws.{Closed}
use Rattle.closure.specs.Closures.{earlier, Fits, After}
use Rattle.sets.proofs.Counts.{pop_falls}
use Rattle.closure.proofs.Raises.{raised_same, raised_then}
use Rattle.closure.proofs.reach.Closure.readers_first.Goals as goal

pub loop-r-init : goal.loop-r-init
loop-r-init g c =
    (raised_same (Closed c.args.facts.now) c.args.self.now, λ x h. sym (c.ties-2.ensures.takers x) ∙ h, λ q x h k. inl (c.ties-2.ensures.takers x ∙ k))

pub lead-requires : goal.lead-requires
lead-requires g c =
    let p = c.in-Some.ensures in
    let k = c.loop-r.invariant.1 c.in-Some.r p.was in
    let e = c.loop-r.invariant.0.events in
    let fit : Fits c.args.facts.now c.loop-r.self c.args.w = (c.requires.0 ∙ sym e, omega arith) in
    let listed : After c.args.facts.now c.loop-r.self c.args.w c.intersection-later.result
    = λ q h.
    let b = and_parts _ _ (sym (c.intersection-later.ensures q) ∙ h) in
    (sym (c.ties.ensures.mates q) ∙ b.1, c.loop-r.invariant.0.keeps c.args.w q (sym (c.successors.ensures q) ∙ b.0)) in
    search rules

pub loop-r-smaller : goal.loop-r-smaller
loop-r-smaller g c = pop_falls c.loop-r.takers c.pop.new.self c.in-Some.r c.in-Some.ensures

pub loop-r-preserved : goal.loop-r-preserved
loop-r-preserved g c =
    let r : ℕ = c.in-Some.r in
    let p = c.in-Some.ensures in
    let y = c.lead.ensures in (
      raised_then (Closed c.args.facts.now) c.args.self.now c.loop-r.self c.lead.new.self c.loop-r.invariant.0 y.raised,
      λ x h. c.loop-r.invariant.1 x (and_parts _ _ (sym (p.rest x) ∙ h)).1,
      λ q x h k. elim (cases_eq x r) [
        | inl s ↦ inr (ap (λ z. earlier c.lead.new.self z q) s ∙ y.rule q h)
        | inr ne ↦ elim (c.loop-r.invariant.2 q x h k) [
          | inl o ↦ inl (p.rest x ∙ rw (ne_eqb x r ne) o)
          | inr o ↦ inr (y.raised.keeps x q o)
        ]
      ],
    )

pub returns : goal.returns
returns g c = record {
  raised = c.loop-r.invariant.0;
  rule = λ q x m k h.
      let l = c.intersection-later.ensures q ∙ and_from _ _ (c.successors.ensures q ∙ h) (c.ties.ensures.mates q ∙ m) in
      elim (c.loop-r.invariant.2 q x l k) [ inl o ↦ absurd (true≢false (sym o ∙ c.in_default.ensures.0 x)) | inr o ↦ o ];
}
