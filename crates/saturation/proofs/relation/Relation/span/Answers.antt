use Rattle.saturation.proofs.Joins.{sound}
use Rattle.saturation.proofs.relation.Relation.span.Goals as goal

pub returns : goal.returns
returns g c =
    let s = sound c.args.self.now in
    record {
      above = λ x. let a = c.insert.ensures x in let p = c.row-above.ensures x in let m = s.mirror x c.args.u in cc;
      below = λ y. let b = c.insert-2.ensures y in let p = c.row-below.ensures y in cc;
      heads = λ x.
          let h = c.difference-heads.ensures x in let a = c.insert.ensures x in let p = c.row-above.ensures x in let q = c.row.ensures x in
          let m = s.mirror x c.args.u in let k = s.mirror x c.args.v in cc;
      tails = λ y.
          let t = c.difference-tails.ensures y in let b = c.insert-2.ensures y in let p = c.row-below.ensures y in let q = c.row-2.ensures y in cc;
    }
