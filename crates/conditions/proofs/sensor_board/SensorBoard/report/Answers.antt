use Rattle.std.proofs.Common.{arith, rules}
use Rattle.std.proofs.lemmas.Bool.Decides.{nat_tests}
use Rattle.conditions.proofs.Reports.{report_out, report_true, report_false}
use Rattle.conditions.proofs.sensor_board.SensorBoard.report.Goals as goal

pub returns-then-condition-ge-CONDITION_COUNT : goal.returns-then-condition-ge-CONDITION_COUNT
returns-then-condition-ge-CONDITION_COUNT c = record { answer = grind (arith, nat_tests); after = search (rules, report_out) }

pub returns-then-holds : goal.returns-then-holds
returns-then-holds c = record { answer = grind (arith, nat_tests); after = search (rules, report_true) }

pub returns-else-holds : goal.returns-else-holds
returns-else-holds c = record { answer = grind (arith, nat_tests); after = search (rules, report_false) }
