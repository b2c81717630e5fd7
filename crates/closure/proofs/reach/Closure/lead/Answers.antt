use Rattle.std.proofs.Common.{ℕ, sym, ap, ◌∙◌, inl, inr, rules}
use Rattle.std.proofs.lemmas.Bool.{true≢false, and_parts, and_from, cases_eq, cases_Bool, ne_eqb, not_from_false}
use Rattle.sets.specs.Sets.{has}
use Rattle.saturation.specs.Laws.{Closed}
use Rattle.closure.specs.Closures.{earlier}
use Rattle.sets.proofs.Counts.{pop_falls}
use Rattle.closure.proofs.Raises.{raised_same, raised_then, raised_link}
use Rattle.closure.proofs.reach.Closure.lead.Goals as goal

pub successors-requires : goal.successors-requires
successors-requires g c =
    let l = c.args.facts.now.readers c.args.w c.args.r c.requires.inside.1 in
    search rules

pub loop-q-init : goal.loop-q-init
loop-q-init g c = (
  raised_same (Closed c.args.facts.now) c.args.self.now,
  λ q h. (and_parts _ _ (sym (c.difference-missing.ensures q) ∙ h)).0,
  λ q h. elim (cases_Bool (has c.successors.result q)) [
    | inl t ↦ inr (sym (c.successors.ensures q) ∙ t)
    | inr t ↦ inl (c.difference-missing.ensures q ∙ and_from _ _ h (not_from_false _ t))
  ],
)

pub link-requires : goal.link-requires
link-requires g c =
    let p = c.in-Some.ensures in
    let m = c.requires.listed c.in-Some.q (c.loop-q.invariant.1 c.in-Some.q p.was) in
    let lq = c.args.facts.now.writes c.args.w c.in-Some.q m.0 in
    let lr = c.args.facts.now.readers c.args.w c.args.r c.requires.inside.1 in
    let e = c.loop-q.invariant.0.events in
    let d = c.requires.inside.0.0 in
    search rules

pub loop-q-smaller : goal.loop-q-smaller
loop-q-smaller g c = pop_falls c.loop-q.missing c.pop.new.self c.in-Some.q c.in-Some.ensures

pub loop-q-preserved : goal.loop-q-preserved
loop-q-preserved g c =
    let f = c.args.facts.now in
    let w : ℕ = c.args.w in
    let r : ℕ = c.args.r in
    let q : ℕ = c.in-Some.q in
    let p = c.in-Some.ensures in
    let m = c.requires.listed c.in-Some.q (c.loop-q.invariant.1 c.in-Some.q p.was) in
    let l = c.link.ensures in
    let a = c.loop-q.invariant.0 in
    let step = raised_link (Closed f) c.loop-q.self c.link.new.self r q (λ Q within met. (met w).1 q r m.0 c.requires.inside.1 (within w q (a.keeps w q m.1))) l in (
      raised_then (Closed f) c.args.self.now c.loop-q.self c.link.new.self a step,
      λ x h. c.loop-q.invariant.1 x (and_parts _ _ (sym (p.rest x) ∙ h)).1,
      λ x h. elim (cases_eq x q) [
        | inl s ↦ inr (ap (λ k. earlier c.link.new.self r k) s ∙ l.closure.linked)
        | inr ne ↦ elim (c.loop-q.invariant.2 x h) [
          | inl k ↦ inl (p.rest x ∙ rw (ne_eqb x q ne) k)
          | inr k ↦ inr (l.closure.keeps r x k)
        ]
      ],
    )

pub returns : goal.returns
returns g c = record {
  raised = c.loop-q.invariant.0;
  rule = λ q h. elim (c.loop-q.invariant.2 q h) [ inl k ↦ absurd (true≢false (sym k ∙ c.in_default.ensures.0 q)) | inr k ↦ k ];
}
