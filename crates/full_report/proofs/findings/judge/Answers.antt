use Rattle.std.proofs.Common.{sym, arith}
use Rattle.full_report.proofs.Finds.{run_finds, finds}
use Rattle.full_report.proofs.findings.judge.Goals as goal

pub unreachable-requires : goal.unreachable-requires
unreachable-requires c =
    let r = run_finds c.args.bytes.now c.in_ok-header.header (sym c.in_ok-header.ensures) c.in_ok-run.ensures (omega arith) _ in
    c.in_default.ensures.none r.0 r.1

pub returns : goal.returns
returns c =
    finds c.args.bytes.now c.in_ok-header.header (sym c.in_ok-header.ensures) c.in_ok-run.ensures (omega arith) _ c.in-Some.judgement c.in-Some.ensures.some
