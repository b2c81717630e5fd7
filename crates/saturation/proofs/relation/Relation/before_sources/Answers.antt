use Rattle.std.proofs.Common.{ℕ, ◌<◌, length, get_or, sym, ap, ◌∙◌, inl, inr, arith, rules}
use Rattle.std.proofs.lemmas.Bool.{true≢false, and_parts, and_from, cases_eq, ne_eqb}
use Rattle.std.proofs.lemmas.Result.{MatchResult-from_err}
use Rattle.saturation.specs.Relations.{earlier, Linked, Cyclic}
use Rattle.sets.proofs.Counts.{pop_falls}
use Rattle.saturation.proofs.Parts.{in_part, from_at}
use Rattle.saturation.proofs.Trails.{kept_same, kept_then, kept_link}
use Rattle.saturation.proofs.Steps.{forced_same, forced_then, forced_link, doomed_then, doomed_link}
use Rattle.saturation.proofs.relation.Relation.before_sources.Goals as goal
use Rattle.saturation.specs.Ties.{from_of}

pub loop-r-init : goal.loop-r-init
loop-r-init g c =
    let lw : c.args.w < length c.args.facts.now.ties = search rules in (
      kept_same c.args.self.now,
      forced_same c.args.facts.now c.args.self.now,
      λ x h.
          let b = and_parts _ _ (sym (c.intersection-reads.ensures x) ∙ h) in
          (in_part (λ t. t.others) c.args.facts.now.ties c.args.w _ lw x ∙ b.1, sym (c.successors.ensures x) ∙ b.0),
      λ x o r. inl (c.intersection-reads.ensures x ∙ and_from _ _ (c.successors.ensures x ∙ r) (sym (in_part (λ t. t.others) c.args.facts.now.ties c.args.w _ lw x) ∙ o)),
    )

pub link-requires : goal.link-requires
link-requires g c =
    let p = c.in-Some.ensures in
    let m = c.loop-r.invariant.2 c.in-Some.r p.was in
    let lr = c.args.facts.now.reads c.args.w c.in-Some.r m.0 in
    let lf = c.args.facts.now.sources c.in-Some.r lr in
    let e = c.loop-r.invariant.0.events in
    let at = from_at c.args.facts.now.ties c.in-Some.r c.index-facts-r.result (omega arith) in
    search rules

pub loop-r-smaller : goal.loop-r-smaller
loop-r-smaller g c = pop_falls c.loop-r.reads c.pop.new.self c.in-Some.r c.in-Some.ensures

pub loop-r-preserved : goal.loop-r-preserved
loop-r-preserved g c =
    let f = c.args.facts.now in
    let w : ℕ = c.args.w in
    let r : ℕ = c.in-Some.r in
    let p = c.in-Some.ensures in
    let m = c.loop-r.invariant.2 c.in-Some.r p.was in
    let lr = f.reads w r m.0 in
    let l : Linked w (get_or (from_of f.ties) r 0) c.loop-r.self c.link.new.self = rw (from_at f.ties r c.index-facts-r.result (omega arith)) c.in_ok-link.ensures in
    let a = c.loop-r.invariant.1 in
    let step = forced_link f c.loop-r.self c.link.new.self w (get_or (from_of c.args.facts.now.ties) c.in-Some.r 0) (λ Q within met. (met w).0 r m.0 (within w r (a.grown.keeps w r m.1))) l in (
      kept_then c.args.self.now c.loop-r.self c.link.new.self c.loop-r.invariant.0 l.kept,
      forced_then f c.args.self.now c.loop-r.self c.link.new.self a step,
      λ x h. c.loop-r.invariant.2 x (and_parts _ _ (sym (p.rest x) ∙ h)).1,
      λ x o q. elim (cases_eq x r) [
        | inl s ↦ inr (ap (λ k. earlier c.link.new.self w (get_or (from_of c.args.facts.now.ties) k 0)) s ∙ l.closure.linked)
        | inr ne ↦ elim (c.loop-r.invariant.3 x o q) [
          | inl h ↦ inl (p.rest x ∙ rw (ne_eqb x r ne) h)
          | inr h ↦ inr (l.closure.keeps w (get_or (from_of c.args.facts.now.ties) x 0) h)
        ]
      ],
    )

pub returns-in_err-link : goal.returns-in_err-link
returns-in_err-link g c =
    let f = c.args.facts.now in
    let w : ℕ = c.args.w in
    let r : ℕ = c.in-Some.r in
    let p = c.in-Some.ensures in
    let m = c.loop-r.invariant.2 c.in-Some.r p.was in
    let a = c.loop-r.invariant.1 in
    let lr = f.reads w r m.0 in
    let l : Cyclic w (get_or (from_of f.ties) r 0) c.loop-r.self = rw (from_at f.ties r c.index-facts-r.result (omega arith)) c.in_err-link.ensures.0 in
    record {
      kept = kept_then c.args.self.now c.loop-r.self c.link.new.self c.loop-r.invariant.0 (kept_link c.loop-r.self c.link.new.self c.in_err-link.ensures.1);
      rule = MatchResult-from_err _ _ _ c.from_residual.ensures.0
          (λ _. doomed_then f (earlier c.args.self.now) (earlier c.loop-r.self) a.grown
          (doomed_link f c.loop-r.self w (get_or (from_of c.args.facts.now.ties) c.in-Some.r 0) (λ Q within met. (met w).0 r m.0 (within w r (a.grown.keeps w r m.1))) l));
    }

pub returns : goal.returns
returns g c = record {
  kept = c.loop-r.invariant.0;
  rule = (c.loop-r.invariant.1, λ x o q. elim (c.loop-r.invariant.3 x o q) [ inl h ↦ absurd (true≢false (sym h ∙ c.in_default.ensures.0 x)) | inr h ↦ h ]);
}
