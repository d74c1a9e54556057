use Rattle.std.proofs.Common.{◌∙◌, refl, ap, length, List, Bool}
use Rattle.aig_graph.specs.Marking.{has}
use Rattle.aig_graph.proofs.TableLaws.{whole-table, length-table}
use Rattle.clean.proofs.held.Held.new.Goals as goal

pub invariant_of-result : goal.invariant_of-result
invariant_of-result c = record { marked = whole-table 0 c.args.latches (has c.args.positions.now) c.in_ok-marks.marks.items c.in_ok-marks.marks.items refl c.in_ok-marks.ensures }

pub returns-clause-long : goal.returns-clause-long
returns-clause-long c = ap (λ (xs : List Bool). length xs) c.in_ok-marks.ensures ∙ length-table 0 c.args.latches (has c.args.positions.now)
