use Rattle.std.proofs.Common.{◌<◌, length, sym, ◌∙◌, arith}
use Rattle.sets.specs.Sets.{has}
use Rattle.sets.proofs.Backs.{in_get}
use Rattle.placing.proofs.is_ready.Goals as goal

pub returns-then-not-contains : goal.returns-then-not-contains
returns-then-not-contains g c =
    let l : c.args.x < length c.args.rows.now = omega arith in
    let row = in_get c.args.rows.now c.args.x c.index-rows-x.result l in (
      λ t. record {
        unplaced = sym {b = has c.args.placed.now c.args.x} c.if-not-contains.ensures;
        predecessors = λ y e. c.is_subset.ensures.0 t y (sym (row y) ∙ e);
      },
      λ r. c.is_subset.ensures.1 (λ y e. r.predecessors y (row y ∙ e)),
    )
