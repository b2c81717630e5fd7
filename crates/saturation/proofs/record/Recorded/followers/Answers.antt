use Rattle.std.proofs.Common.{◌≡◌, ℕ, suc, ◌<◌, Bool, ◌&&◌, ◌||◌, length, get_or, sym, refl, ap, ◌∙◌, arith, rules}
use mathlib.Core.Bool.{or-false}
use Rattle.std.proofs.lemmas.Bool.{le-ltb, eq-eqb, ne_eqb, or_right}
use Rattle.history.specs.declared.event.Event.{Event}
use Rattle.order.specs.History.{at}
use Rattle.sets.specs.Sets.{has}
use Rattle.sets.specs.Rows.{in_rows}
use Rattle.saturation.specs.Recorded.{history_in}
use Rattle.saturation.specs.Rooting.{leads}
use Rattle.sets.specs.declared.set.EventSet.{EventSet}
use Rattle.sets.proofs.Backs.{in_get}
use Rattle.saturation.proofs.Turns.{one_beside}
use Rattle.saturation.proofs.Records.{zeros, event_at_lem}
use Rattle.saturation.proofs.record.Recorded.followers.Goals as goal
use Rattle.saturation.proofs.record.Recorded.followers.Goals.{then-comes_first, else-comes_first}

pub loop-y-init : goal.loop-y-init
loop-y-init g c y =
    let l : c.args.x < length c.args.self.now.kept = search rules in
    sym (in_get c.args.self.now.kept c.args.x c.index-self-x.result l y)
    ∙ sym (or-false (in_rows c.args.self.now.kept c.args.x y))
    ∙ ap (λ b. in_rows c.args.self.now.kept c.args.x y || (b && leads (at (history_in c.args.self.now) (suc c.args.x)) (at (history_in c.args.self.now) (suc y)))) (sym (le-ltb y 0 (omega arith)))

pub loop-y-preserved : goal.loop-y-preserved
loop-y-preserved g c =
    let A : ℕ → Bool = λ y. in_rows c.args.self.now.kept c.args.x y in
    let K : ℕ → Bool = λ y. leads (at (history_in c.args.self.now) (suc c.args.x)) (at (history_in c.args.self.now) (suc y)) in
    let i : ℕ = c.loop-y.y in
    let second : Event = get_or c.events-second-items.result.now i zeros in
    let here : K i ≡ leads c.event-first.result second
    = ap (λ (e : Event). leads e (at (history_in c.args.self.now) (suc i))) (sym c.event-first.ensures)
    ∙ ap (λ (e : Event). leads c.event-first.result e) (event_at_lem (history_in c.args.self.now).events i ∙ ap (λ l. get_or l i zeros) (sym c.events-second-items.ensures)) in
    one_beside (has c.loop-y.followers) K i A (has c.if-comes_first.followers) c.loop-y.invariant
    (λ y ne. elim c.if-comes_first.branch [
      | then-comes_first w ↦ ap (λ (s : EventSet g.row.W). has s y) w.followers-is ∙ w.insert.ensures y ∙ ap (λ b. b || has c.loop-y.followers y) (ne_eqb y i ne)
      | else-comes_first w ↦ ap (λ (s : EventSet g.row.W). has s y) w.followers-is
    ])
    (elim c.if-comes_first.branch [
      | then-comes_first w ↦
          ap (λ (s : EventSet g.row.W). has s c.loop-y.y) w.followers-is ∙ w.insert.ensures c.loop-y.y ∙ ap (λ b. b || has c.loop-y.followers c.loop-y.y) (eq-eqb i i refl)
          ∙ sym (or_right (A i) (K i) (here ∙ sym w.if-comes_first.ensures))
      | else-comes_first w ↦
          ap (λ (s : EventSet g.row.W). has s c.loop-y.y) w.followers-is ∙ c.loop-y.invariant c.loop-y.y ∙ ap (λ b. A i || (b && K i)) (le-ltb i i (omega arith))
          ∙ ap (λ b. A i || b) (sym (here ∙ sym w.if-comes_first.ensures))
    ])
