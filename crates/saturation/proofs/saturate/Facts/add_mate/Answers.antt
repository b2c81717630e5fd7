use Rattle.std.proofs.Common.{refl, arith, length-set}
use Rattle.std.proofs.Math.Seq.{map-set_same}
use Rattle.saturation.specs.declared.saturate.Ties.{Ties}
use Rattle.saturation.proofs.Parts.{stays_below, put_part, put_part_below, stays_sourced}
use Rattle.saturation.proofs.saturate.Facts.add_mate.Goals as goal

pub invariant_of-self : goal.invariant_of-self
invariant_of-self g c = record {
  wide = c.args.self.now.wide;
  narrow = c.args.self.now.narrow;
  fits = c.args.self.now.fits;
  each = simp length-set c.args.self.now.each;
  reads = stays_below (λ (t : Ties g.row.W). t.others) c.args.self.now.ties c.args.w c.index-self-w.result c.args.self.now.count _ refl c.args.self.now.reads;
  writes = put_part_below (λ (t : Ties g.row.W). t.mates) c.args.self.now.ties c.args.w c.index-self-w.result (omega arith) c.args.self.now.count c.args.q _ c.insert.ensures (omega arith) c.args.self.now.writes;
  readers = stays_below (λ (t : Ties g.row.W). t.takers) c.args.self.now.ties c.args.w c.index-self-w.result c.args.self.now.count _ refl c.args.self.now.readers;
  sources = stays_sourced c.args.self.now.ties c.args.w c.index-self-w.result c.args.self.now.count _ refl c.args.self.now.sources;
}

pub returns : goal.returns
returns g c = record {
  mates = put_part (λ (t : Ties g.row.W). t.mates) c.args.self.now.ties c.args.w c.index-self-w.result (omega arith) c.args.q _ c.insert.ensures;
  rest = (map-set_same (λ (t : Ties g.row.W). t.others) c.args.self.now.ties c.args.w _ c.index-self-w.result refl, map-set_same (λ (t : Ties g.row.W). t.takers) c.args.self.now.ties c.args.w _ c.index-self-w.result refl);
  same = (map-set_same (λ (t : Ties g.row.W). t.from) c.args.self.now.ties c.args.w _ c.index-self-w.result refl, refl);
}
