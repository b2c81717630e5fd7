use Rattle.std.proofs.Common.{◌≡◌, true, IfNone, sym, subst}
use Rattle.std.specs.Option.{option_to_list}
use Rattle.order.specs.History.{count}
use Rattle.saturation.specs.Recorded.{history_in}
use Rattle.referee.specs.Meaning.{pairs_of}
use Rattle.referee.specs.Nodes.{AtNode}
use Rattle.referee.specs.Verdicts.{is_serial}
use Rattle.referee.proofs.Steps.{fewer_pairs}
use Rattle.referee.proofs.case.Case.lift.Goals as goal

pub invariant_of-self : goal.invariant_of-self
invariant_of-self c =
    let o = c.args.self.now in
    let p = c.pop.new.self in
    let same : p ≡ o.stipulations = subst (λ q. IfNone q (p ≡ o.stipulations)) c.in_err-pair.ensures.ok_part c.pop.ensures.empty in
    record {
      inside = fewer_pairs (count (history_in o.recorded)) (pairs_of o) p.items (option_to_list c.pop.result) c.pop.ensures.items o.inside;
      rows = o.rows;
      shown = subst (λ z. ∥ (is_serial o.state ≡ true → AtNode (history_in o.recorded) z.items o.node) ∥₁) (sym same) o.shown;
    }

pub invariant_of-self-2-clause-inside : goal.invariant_of-self-2-clause-inside
invariant_of-self-2-clause-inside c =
    let o = c.args.self.now in
    fewer_pairs (count (history_in o.recorded)) (pairs_of o) c.pop.new.self.items (option_to_list c.pop.result) c.pop.ensures.items o.inside
