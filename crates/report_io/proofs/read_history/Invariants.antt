use Rattle.std.proofs.Common.{◌-◌}
use Rattle.report_io.proofs.read_history.Given as goal

abbrev pub decreases-loop-got : goal.decreases-loop-got
decreases-loop-got l = 805 - l.got
