use Rattle.std.proofs.Common.{ℕ, Bool, sym, refl, ◌∙◌, subst, arith, rules}
use Rattle.saturation.specs.Laws.{Grown, Closed}
use Rattle.closure.specs.Closures.{earlier, Fits, Finished}
use Rattle.saturation.proofs.Steps.{grown_same, grown_then}
use Rattle.closure.proofs.Raises.{still_earlier, ready_step, ready_closed, grown_of, less_left}
use Rattle.closure.proofs.Closes.{made_exact}
use Rattle.closure.proofs.reach.Closure.saturate.Goals as goal

pub loop-w-init : goal.loop-w-init
loop-w-init g c = (refl, c.requires.ready, grown_same c.args.facts.now (earlier c.args.self.now))

pub settle-requires : goal.settle-requires
settle-requires g c =
    let p = c.in-Some.ensures.next in
    let l = c.loop-w.self.listed c.in-Some.w p.was in
    let u = c.next_waiting.ensures.still.events in
    let e = c.loop-w.invariant.0 in
    let fit : Fits c.args.facts.now c.next_waiting.new.self c.in-Some.w = (c.requires.events ∙ sym e ∙ sym u, omega arith) in
    search rules

pub loop-w-preserved : goal.loop-w-preserved
loop-w-preserved g c =
    let f = c.args.facts.now in
    let o = c.loop-w.self in
    let p = c.next_waiting.new.self in
    let q = c.settle.new.self in
    let u = c.next_waiting.ensures.still in
    let y = c.settle.ensures in (
      y.raised.events ∙ u.events ∙ c.loop-w.invariant.0,
      ready_step f o p q c.in-Some.w c.loop-w.invariant.1 u c.in-Some.ensures.next y.raised y.rule,
      grown_then f (earlier c.args.self.now) (earlier p) (earlier q)
          (subst (λ (R : ℕ → ℕ → Bool). Grown f (earlier c.args.self.now) R) (sym (still_earlier o p u)) c.loop-w.invariant.2) (grown_of f p q y.raised),
    )

pub loop-w-smaller : goal.loop-w-smaller
loop-w-smaller g c =
    less_left c.args.facts.now c.loop-w.self c.next_waiting.new.self c.settle.new.self c.in-Some.w c.next_waiting.ensures.still c.in-Some.ensures.next c.settle.ensures.raised

pub returns : goal.returns
returns g c =
    let f = c.args.facts.now in
    let o = c.loop-w.self in
    let p = c.next_waiting.new.self in
    let u = c.next_waiting.ensures.still in
    let none = c.in_default.ensures.next in
    let done : Finished c.args.facts.now c.args.self.now c.next_waiting.new.self
    = record {
      grown = subst (λ (R : ℕ → ℕ → Bool). Grown f (earlier c.args.self.now) R) (sym (still_earlier o p u)) c.loop-w.invariant.2;
      closed = subst (λ (R : ℕ → ℕ → Bool). Closed f R) (sym (still_earlier o p u)) (ready_closed f o none.0 c.loop-w.invariant.1);
      idle = none.1;
      events = u.events ∙ c.loop-w.invariant.0;
    } in
    record { finished = done; exact = made_exact f c.args.self.now p c.requires.events done }
