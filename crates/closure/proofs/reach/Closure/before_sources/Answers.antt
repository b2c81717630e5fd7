use Rattle.std.proofs.Common.{ℕ, get_or, sym, ap, ◌∙◌, inl, inr, rules}
use Rattle.std.proofs.lemmas.Bool.{true≢false, and_parts, and_from, cases_eq, ne_eqb}
use Rattle.saturation.specs.Laws.{Closed}
use Rattle.closure.specs.Closures.{earlier}
use Rattle.sets.proofs.Counts.{pop_falls}
use Rattle.closure.proofs.Raises.{raised_same, raised_then, raised_link}
use Rattle.closure.proofs.reach.Closure.before_sources.Goals as goal
use Rattle.saturation.specs.Ties.{from_of}

pub loop-r-init : goal.loop-r-init
loop-r-init g c = (
  raised_same (Closed c.args.facts.now) c.args.self.now,
  λ x h. let b = and_parts _ _ (sym (c.intersection-reads.ensures x) ∙ h) in (sym (c.ties.ensures.others x) ∙ b.1, sym (c.successors.ensures x) ∙ b.0),
  λ x o r. inl (c.intersection-reads.ensures x ∙ and_from _ _ (c.successors.ensures x ∙ r) (c.ties.ensures.others x ∙ o)),
)

pub link-requires : goal.link-requires
link-requires g c =
    let p = c.in-Some.ensures in
    let m = c.loop-r.invariant.1 c.in-Some.r p.was in
    let lr = c.args.facts.now.reads c.args.w c.in-Some.r m.0 in
    let lf = c.args.facts.now.sources c.in-Some.r lr in
    let e = c.loop-r.invariant.0.events in
    search rules

pub loop-r-smaller : goal.loop-r-smaller
loop-r-smaller g c = pop_falls c.loop-r.reads c.pop.new.self c.in-Some.r c.in-Some.ensures

pub loop-r-preserved : goal.loop-r-preserved
loop-r-preserved g c =
    let f = c.args.facts.now in
    let w : ℕ = c.args.w in
    let r : ℕ = c.in-Some.r in
    let p = c.in-Some.ensures in
    let m = c.loop-r.invariant.1 c.in-Some.r p.was in
    let l = c.link.ensures in
    let a = c.loop-r.invariant.0 in
    let step = raised_link (Closed f) c.loop-r.self c.link.new.self w c.ties-in-Some.result.now.from (λ Q within met. ap (λ z. Q w z) c.ties-in-Some.ensures.from ∙ (met w).0 r m.0 (within w r (a.keeps w r m.1))) l in (
      raised_then (Closed f) c.args.self.now c.loop-r.self c.link.new.self a step,
      λ x h. c.loop-r.invariant.1 x (and_parts _ _ (sym (p.rest x) ∙ h)).1,
      λ x o q. elim (cases_eq x r) [
        | inl s ↦ inr (ap (λ k. earlier c.link.new.self w (get_or (from_of c.args.facts.now.ties) k 0)) s ∙ ap (λ z. earlier c.link.new.self w z) (sym c.ties-in-Some.ensures.from) ∙ l.closure.linked)
        | inr ne ↦ elim (c.loop-r.invariant.2 x o q) [
          | inl h ↦ inl (p.rest x ∙ rw (ne_eqb x r ne) h)
          | inr h ↦ inr (l.closure.keeps w (get_or (from_of c.args.facts.now.ties) x 0) h)
        ]
      ],
    )

pub returns : goal.returns
returns g c = record {
  raised = c.loop-r.invariant.0;
  rule = λ x o q. elim (c.loop-r.invariant.2 x o q) [ inl h ↦ absurd (true≢false (sym h ∙ c.in_default.ensures.0 x)) | inr h ↦ h ];
}
