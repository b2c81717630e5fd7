use Rattle.std.proofs.Common.{ℕ, sym, ap, ◌∙◌, inl, inr, rules}
use Rattle.std.proofs.lemmas.Bool.{true≢false, and_parts, and_from, cases_eq, cases_Bool, ne_eqb, not_from_false}
use Rattle.std.proofs.lemmas.Result.{MatchResult-from_err}
use Rattle.sets.specs.Sets.{has}
use Rattle.saturation.specs.Relations.{earlier}
use Rattle.sets.proofs.Counts.{pop_falls}
use Rattle.saturation.proofs.Trails.{kept_same, kept_then, kept_link}
use Rattle.saturation.proofs.Steps.{forced_same, forced_then, forced_link, doomed_then, doomed_link}
use Rattle.saturation.proofs.relation.Relation.lead.Goals as goal

pub successors-requires : goal.successors-requires
successors-requires g c =
    let l = c.args.facts.now.readers c.args.w c.args.r c.requires.inside.1 in
    search rules

pub loop-q-init : goal.loop-q-init
loop-q-init g c = (
  kept_same c.args.self.now,
  forced_same c.args.facts.now c.args.self.now,
  λ q h. (and_parts _ _ (sym (c.difference-missing.ensures q) ∙ h)).0,
  λ q h. elim (cases_Bool (has c.successors.result q)) [
    | inl t ↦ inr (sym (c.successors.ensures q) ∙ t)
    | inr t ↦ inl (c.difference-missing.ensures q ∙ and_from _ _ h (not_from_false _ t))
  ],
)

pub link-requires : goal.link-requires
link-requires g c =
    let p = c.in-Some.ensures in
    let m = c.requires.listed c.in-Some.q (c.loop-q.invariant.2 c.in-Some.q p.was) in
    let lq = c.args.facts.now.writes c.args.w c.in-Some.q m.0 in
    let lr = c.args.facts.now.readers c.args.w c.args.r c.requires.inside.1 in
    let e = c.loop-q.invariant.0.events in
    let d = c.requires.inside.0.0 in
    search rules

pub loop-q-smaller : goal.loop-q-smaller
loop-q-smaller g c = pop_falls c.loop-q.missing c.pop.new.self c.in-Some.q c.in-Some.ensures

pub loop-q-preserved : goal.loop-q-preserved
loop-q-preserved g c =
    let f = c.args.facts.now in
    let w : ℕ = c.args.w in
    let r : ℕ = c.args.r in
    let q : ℕ = c.in-Some.q in
    let p = c.in-Some.ensures in
    let m = c.requires.listed c.in-Some.q (c.loop-q.invariant.2 c.in-Some.q p.was) in
    let l = c.in_ok-link.ensures in
    let a = c.loop-q.invariant.1 in
    let step = forced_link f c.loop-q.self c.link.new.self r q (λ Q within met. (met w).1 q r m.0 c.requires.inside.1 (within w q (a.grown.keeps w q m.1))) l in (
      kept_then c.args.self.now c.loop-q.self c.link.new.self c.loop-q.invariant.0 l.kept,
      forced_then f c.args.self.now c.loop-q.self c.link.new.self a step,
      λ x h. c.loop-q.invariant.2 x (and_parts _ _ (sym (p.rest x) ∙ h)).1,
      λ x h. elim (cases_eq x q) [
        | inl s ↦ inr (ap (λ k. earlier c.link.new.self r k) s ∙ l.closure.linked)
        | inr ne ↦ elim (c.loop-q.invariant.3 x h) [
          | inl k ↦ inl (p.rest x ∙ rw (ne_eqb x q ne) k)
          | inr k ↦ inr (l.closure.keeps r x k)
        ]
      ],
    )

pub returns-in_err-link : goal.returns-in_err-link
returns-in_err-link g c =
    let f = c.args.facts.now in
    let w : ℕ = c.args.w in
    let r : ℕ = c.args.r in
    let q : ℕ = c.in-Some.q in
    let p = c.in-Some.ensures in
    let m = c.requires.listed c.in-Some.q (c.loop-q.invariant.2 c.in-Some.q p.was) in
    let a = c.loop-q.invariant.1 in
    let l = c.in_err-link.ensures in
    record {
      kept = kept_then c.args.self.now c.loop-q.self c.link.new.self c.loop-q.invariant.0 (kept_link c.loop-q.self c.link.new.self l.1);
      rule = MatchResult-from_err _ _ _ c.from_residual.ensures.0
          (λ _. doomed_then f (earlier c.args.self.now) (earlier c.loop-q.self) a.grown
          (doomed_link f c.loop-q.self r q (λ Q within met. (met w).1 q r m.0 c.requires.inside.1 (within w q (a.grown.keeps w q m.1))) l.0));
    }

pub returns : goal.returns
returns g c = record {
  kept = c.loop-q.invariant.0;
  rule = (c.loop-q.invariant.1, λ q h. elim (c.loop-q.invariant.3 q h) [ inl k ↦ absurd (true≢false (sym k ∙ c.in_default.ensures.0 q)) | inr k ↦ k ]);
}
