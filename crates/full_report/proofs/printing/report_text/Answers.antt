use Rattle.std.proofs.Common.{arith}
use Rattle.full_report.specs.Reports.{ReportOf}
use Rattle.full_report.proofs.Found.{few, found_report, found_fits}
use Rattle.full_report.proofs.printing.report_text.Goals as goal

pub found_text-requires : goal.found_text-requires
found_text-requires c =
    let f = c.in-Ok.found in
    let t = c.in-Ok.ensures in
    record { few = few c.args.bytes.now f.header t.judged.header; room = found_fits c.args.bytes.now f (omega arith) (omega arith) t }

pub returns-in-Ok : goal.returns-in-Ok
returns-in-Ok c = rw c.found_text.ensures (found_report c.args.bytes.now c.in-Ok.found c.in-Ok.ensures)

pub returns-in-Err : goal.returns-in-Err
returns-in-Err c = rw c.fault_line.ensures (ReportOf.faulty c.in-Err.fault c.in-Err.ensures)
