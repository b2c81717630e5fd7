use Rattle.std.proofs.Common.{◌≡◌, ℕ, ◌+◌, ◌*◌, ◌<◌, ◌≤◌, length, get_or, drop}
use Rattle.std.specs.Iterator.Adapters.{enumerate_source, enumerate_count}
use Rattle.history.specs.Events.{counted_left}
use Rattle.packed.specs.Bits.{bit_in}
use Rattle.packed.specs.Layout.{words, size}
use Rattle.packed.proofs.writing.put_all.Given as goal

abbrev pub invariant-loop-i : goal.invariant-loop-i
invariant-loop-i g l =
    let season = g.S.Source.season l.source in
    let es = g.S.Source.events l.source in
    let i = enumerate_count l.i-iterator in
    record {
      ahead : drop i es ≡ counted_left g.S.Source.events (enumerate_source l.i-iterator);
      inside : i ≤ length es;
      bits : (k : ℕ) → k < (i + 1) * 25 → bit_in 8 l.bytes k ≡ bit_in 25 (words season es) k;
      rest : (j : ℕ) → size (length es) ≤ j → get_or l.bytes j 0 ≡ get_or l.initial.bytes j 0;
    }
