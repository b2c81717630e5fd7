use Rattle.std.proofs.Common.{◌<◌, length, rules}
use Rattle.sets.proofs.Backs.{in_get}
use Rattle.closure.proofs.reach.Closure.spread.Goals as goal

pub returns : goal.returns
returns g c =
    let o = c.args.self.now in
    let lu : c.args.u < length c.args.self.now.after = search rules in
    let lv : c.args.v < length c.args.self.now.after = search rules in
    let mu : c.args.u < length c.args.self.now.before = search rules in
    let mv : c.args.v < length c.args.self.now.before = search rules in
    record {
      above = λ x. let a = c.insert.ensures x in let p = in_get o.before c.args.u c.index-self-u.result mu x in let m = o.mirror x c.args.u in cc;
      below = λ y. let b = c.insert-2.ensures y in let p = in_get o.after c.args.v c.index-self-v.result lv y in cc;
      heads = λ x.
          let h = c.difference-heads.ensures x in let a = c.insert.ensures x in
          let p = in_get o.before c.args.u c.index-self-u.result mu x in
          let q = in_get o.before c.args.v c.index-self-v-2.result mv x in
          let m = o.mirror x c.args.u in let k = o.mirror x c.args.v in cc;
      tails = λ y.
          let t = c.difference-tails.ensures y in let b = c.insert-2.ensures y in
          let p = in_get o.after c.args.v c.index-self-v.result lv y in
          let q = in_get o.after c.args.u c.index-self-u-2.result lu y in cc;
    }
