use Rattle.std.proofs.Common.{◌≡◌, sym, ◌∙◌, rules}
use Rattle.std.proofs.lemmas.Bool.{true≢false}
use Rattle.std.proofs.lemmas.Result.{err_from_is_err_and}
use Rattle.saturation.specs.Laws.{Ready}
use Rattle.saturation.proofs.Trails.{kept_then, kept_link}
use Rattle.saturation.proofs.Steps.{after_ok, answered, closed_ready, ready_link}
use Rattle.saturation.proofs.Addings.{cyclic_clash, linked_clash, linked_exact, slack_added}
use Rattle.saturation.proofs.relation.Relation.add.Goals as goal

pub saturate-requires : goal.saturate-requires
saturate-requires g c =
    let f = c.args.facts.now in
    let o = c.args.self.now in
    let p = c.link.new.self in
    let l = c.in_ok-link.ensures in
    let ready : Ready f p = ready_link f o p c.args.u c.args.v (closed_ready f o c.requires.closed) l in
    let e : f.count ≡ p.count = c.requires.events ∙ sym l.kept.events in
    search rules

pub returns-in_err-link : goal.returns-in_err-link
returns-in_err-link g c =
    let o = c.args.self.now in
    let p = c.link.new.self in
    let l = c.in_err-link.ensures in
    let e = err_from_is_err_and c.from_residual.result c.from_residual.ensures.1 in
    rw e.1 (record {
      kept = kept_link o p l.1;
      closed = λ t. absurd (true≢false (sym t));
      idle = λ t. absurd (true≢false (sym t));
      fewer = λ t. absurd (true≢false (sym t));
      node = λ h S facts well inside exact. cyclic_clash h S facts well inside o exact c.args.u c.args.v c.requires.first c.requires.second l.0;
    })

pub returns : goal.returns
returns g c =
    let f = c.args.facts.now in
    let o = c.args.self.now in
    let p = c.link.new.self in
    let q = c.saturate.new.self in
    let l = c.in_ok-link.ensures in
    record {
      kept = kept_then o p q l.kept c.saturate.ensures.kept;
      closed = λ t. (after_ok _ _ t c.saturate.ensures.closed).closed;
      idle = λ t. (after_ok _ _ t c.saturate.ensures.closed).idle;
      fewer = λ t was. slack_added o p q c.args.u c.args.v c.requires.first c.requires.second l (after_ok _ _ t c.saturate.ensures.closed) was;
      node = λ h S facts well inside exact.
          answered c.saturate.result
          (λ s. linked_exact h S facts well inside o exact c.args.u c.args.v c.requires.first c.requires.second p q l s (c.saturate.ensures.kept.events ∙ l.kept.events))
          (linked_clash h S facts well inside o exact c.args.u c.args.v c.requires.first c.requires.second p l)
          c.saturate.ensures.closed;
    }
