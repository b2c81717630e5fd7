use Rattle.std.proofs.Common.{sym, rules}
use Rattle.closure.specs.Closures.{Ready}
use Rattle.closure.proofs.Rows.{built_from, pairs_of_events}
use Rattle.closure.proofs.reach.Closure.of_rows.Goals as goal

pub saturate-requires : goal.saturate-requires
saturate-requires g c =
    let e = sym c.filled-closure.ensures.events in
    let r : Ready c.args.facts.now c.filled-closure.result = c.filled-closure.ensures.ready in
    search rules

pub returns : goal.returns
returns g c h is =
    let f = c.args.facts.now in
    let inside = pairs_of_events h f c.args.kept.now c.args.starts.now c.args.pairs.now is c.requires.pairs in
    c.saturate.ensures.exact h c.args.pairs.now is.well is.facts inside
    (built_from h f c.args.kept.now c.args.starts.now c.args.pairs.now is c.filled-closure.result c.filled-closure.ensures)
