use Rattle.std.proofs.Common.{sym, refl, ◌∙◌, arith}
use lib.ListN.{length-replicate}
use Rattle.std.proofs.lemmas.Bool.{true≢false}
use Rattle.saturation.specs.declared.saturate.Ties.{Ties}
use Rattle.saturation.proofs.Parts.{none_at, no_source}
use Rattle.saturation.proofs.saturate.Facts.new.Goals as goal

pub invariant_of-result : goal.invariant_of-result
invariant_of-result g c = record {
  wide = c.requires.1;
  narrow = c.requires.2;
  fits = c.requires.0;
  each = length-replicate g.row.N _;
  reads = λ w r h. absurd (true≢false (sym h ∙ none_at (λ (t : Ties g.row.W). t.others) g.row.N _ c.new.ensures w r));
  writes = λ w q h. absurd (true≢false (sym h ∙ none_at (λ (t : Ties g.row.W). t.mates) g.row.N _ c.new-2.ensures w q));
  readers = λ w r h. absurd (true≢false (sym h ∙ none_at (λ (t : Ties g.row.W). t.takers) g.row.N _ c.new-3.ensures w r));
  sources = λ r l. rw (no_source g.row.N (record { others = c.new.result; mates = c.new-2.result; takers = c.new-3.result; from = 0 }) refl r) (omega arith);
}

pub returns : goal.returns
returns g c = record {
  count = refl;
  blank = record {
    others = none_at (λ (t : Ties g.row.W). t.others) g.row.N _ c.new.ensures;
    mates = none_at (λ (t : Ties g.row.W). t.mates) g.row.N _ c.new-2.ensures;
    takers = none_at (λ (t : Ties g.row.W). t.takers) g.row.N _ c.new-3.ensures;
  };
}
