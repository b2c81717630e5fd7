use Rattle.std.proofs.Common.{List, get_or, set, refl, ap, ◌∙◌, arith, length-set}
use Rattle.std.proofs.lemmas.List.{map-set}
use Rattle.std.proofs.Math.Seq.{map-set_same}
use Rattle.sets.specs.Rows.{in_rows}
use Rattle.saturation.specs.declared.saturate.Ties.{Ties}
use Rattle.saturation.proofs.Parts.{stays_below, put_part, put_part_below, stays_sourced, put_sourced}
use Rattle.saturation.proofs.saturate.Facts.add_taker.Goals as goal

pub invariant_of-self : goal.invariant_of-self
invariant_of-self g c = record {
  wide = c.args.self.now.wide;
  narrow = c.args.self.now.narrow;
  fits = c.args.self.now.fits;
  each = simp length-set c.args.self.now.each;
  reads = stays_below (λ (t : Ties g.row.W). t.others) c.args.self.now.ties c.args.w c.index-self-w.result c.args.self.now.count _ refl c.args.self.now.reads;
  writes = stays_below (λ (t : Ties g.row.W). t.mates) c.args.self.now.ties c.args.w c.index-self-w.result c.args.self.now.count _ refl c.args.self.now.writes;
  readers = put_part_below (λ (t : Ties g.row.W). t.takers) c.args.self.now.ties c.args.w c.index-self-w.result (omega arith) c.args.self.now.count c.args.r _ c.insert.ensures (omega arith) c.args.self.now.readers;
  sources = stays_sourced c.args.self.now.ties c.args.w c.index-self-w.result c.args.self.now.count _ refl c.args.self.now.sources;
}

pub invariant_of-self-2 : goal.invariant_of-self-2
invariant_of-self-2 g c =
    let o = c.args.self.now in
    let w = c.args.w in
    let r = c.args.r in
    let d = c.index-self-w.result in
    let us : List (Ties g.row.W) = set o.ties w (record (get_or o.ties w d) { takers = c.insert.new.self }) in
    let e = c.index-self-r.result in
    record {
      wide = o.wide;
      narrow = o.narrow;
      fits = o.fits;
      each = simp length-set o.each;
      reads = stays_below (λ (t : Ties g.row.W). t.others) us r e o.count _ refl (stays_below (λ (t : Ties g.row.W). t.others) o.ties w d o.count _ refl o.reads);
      writes = stays_below (λ (t : Ties g.row.W). t.mates) us r e o.count _ refl (stays_below (λ (t : Ties g.row.W). t.mates) o.ties w d o.count _ refl o.writes);
      readers = stays_below (λ (t : Ties g.row.W). t.takers) us r e o.count _ refl (put_part_below (λ (t : Ties g.row.W). t.takers) o.ties w d (omega arith) o.count r _ c.insert.ensures (omega arith) o.readers);
      sources = put_sourced us r o.count _ (omega arith) (stays_sourced o.ties w d o.count _ refl o.sources);
    }

pub returns : goal.returns
returns g c =
    let ts = c.args.self.now.ties in
    let w = c.args.w in
    let r = c.args.r in
    let d = c.index-self-w.result in
    let us : List (Ties g.row.W) = set ts w (record (get_or ts w d) { takers = c.insert.new.self }) in
    let e = c.index-self-r.result in
    let k = put_part (λ (t : Ties g.row.W). t.takers) ts w d (omega arith) r _ c.insert.ensures in
    record {
      takers = λ y z. ap (λ ss. in_rows ss y z) (map-set_same (λ (t : Ties g.row.W). t.takers) us r _ e refl) ∙ k y z;
      source = map-set (λ (t : Ties g.row.W). t.from) us r _ ∙ ap (λ fs. set fs r w) (map-set_same (λ (t : Ties g.row.W). t.from) ts w _ d refl);
      rest = (
        map-set_same (λ (t : Ties g.row.W). t.others) us r _ e refl ∙ map-set_same (λ (t : Ties g.row.W). t.others) ts w _ d refl,
        map-set_same (λ (t : Ties g.row.W). t.mates) us r _ e refl ∙ map-set_same (λ (t : Ties g.row.W). t.mates) ts w _ d refl,
      );
      same = refl;
    }
