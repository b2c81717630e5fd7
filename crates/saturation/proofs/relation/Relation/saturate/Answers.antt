use Rattle.std.proofs.Common.{ℕ, Bool, sym, ◌∙◌, subst, arith, rules}
use Rattle.std.proofs.lemmas.Result.{MatchResult-from_err}
use Rattle.saturation.specs.Relations.{earlier}
use Rattle.saturation.specs.Laws.{Fitting, Grown, Closed}
use Rattle.saturation.proofs.Trails.{kept_same, kept_then, unmoved_kept, unmoved_earlier}
use Rattle.saturation.proofs.Steps.{ready_step, ready_closed, grown_same, grown_then, doomed_then, less_left}
use Rattle.saturation.proofs.relation.Relation.saturate.Goals as goal

pub loop-w-init : goal.loop-w-init
loop-w-init g c = (kept_same c.args.self.now, c.requires.ready, grown_same c.args.facts.now (earlier c.args.self.now))

pub settle-requires : goal.settle-requires
settle-requires g c =
    let p = c.in-Some.ensures.next in
    let l = c.loop-w.self.listed c.in-Some.w p.was in
    let u = c.next_waiting.ensures.unmoved.events in
    let e = c.loop-w.invariant.0.events in
    let fit : Fitting c.args.facts.now c.next_waiting.new.self c.in-Some.w = (c.requires.events ∙ sym e ∙ sym u, omega arith) in
    search rules

pub loop-w-preserved : goal.loop-w-preserved
loop-w-preserved g c =
    let f = c.args.facts.now in
    let o = c.loop-w.self in
    let p = c.next_waiting.new.self in
    let q = c.settle.new.self in
    let u = c.next_waiting.ensures.unmoved in
    let y = c.in_ok-settle.ensures.rule in (
      kept_then c.args.self.now p q (kept_then c.args.self.now o p c.loop-w.invariant.0 (unmoved_kept o p u)) c.settle.ensures.kept,
      ready_step f o p q c.in-Some.w c.loop-w.invariant.1 u c.in-Some.ensures.next y.0 y.1,
      grown_then f (earlier c.args.self.now) (earlier p) (earlier q)
          (subst (λ (R : ℕ → ℕ → Bool). Grown f (earlier c.args.self.now) R) (sym (unmoved_earlier o p u)) c.loop-w.invariant.2) y.0.grown,
    )

pub loop-w-smaller : goal.loop-w-smaller
loop-w-smaller g c =
    let y = c.in_ok-settle.ensures.rule in
    less_left c.args.facts.now c.loop-w.self c.next_waiting.new.self c.settle.new.self c.in-Some.w c.next_waiting.ensures.unmoved c.in-Some.ensures.next y.0 c.settle.ensures.kept.events

pub returns-in_err-settle : goal.returns-in_err-settle
returns-in_err-settle g c =
    let f = c.args.facts.now in
    let o = c.loop-w.self in
    let p = c.next_waiting.new.self in
    let u = c.next_waiting.ensures.unmoved in
    record {
      kept = kept_then c.args.self.now p c.settle.new.self (kept_then c.args.self.now o p c.loop-w.invariant.0 (unmoved_kept o p u)) c.settle.ensures.kept;
      closed = MatchResult-from_err _ _ _ c.from_residual.ensures.0
          (λ _. doomed_then f (earlier c.args.self.now) (earlier p)
          (subst (λ (R : ℕ → ℕ → Bool). Grown f (earlier c.args.self.now) R) (sym (unmoved_earlier o p u)) c.loop-w.invariant.2)
          c.in_err-settle.ensures.rule);
    }

pub returns : goal.returns
returns g c =
    let f = c.args.facts.now in
    let o = c.loop-w.self in
    let p = c.next_waiting.new.self in
    let u = c.next_waiting.ensures.unmoved in
    let none = c.in_default.ensures.next in
    record {
      kept = kept_then c.args.self.now o p c.loop-w.invariant.0 (unmoved_kept o p u);
      closed = record {
        grown = subst (λ (R : ℕ → ℕ → Bool). Grown f (earlier c.args.self.now) R) (sym (unmoved_earlier o p u)) c.loop-w.invariant.2;
        closed = subst (λ (R : ℕ → ℕ → Bool). Closed f R) (sym (unmoved_earlier o p u)) (ready_closed f o none.0 c.loop-w.invariant.1);
        idle = none.1;
      };
    }
