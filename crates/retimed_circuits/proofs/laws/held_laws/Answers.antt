use Rattle.retimed_circuits.proofs.CircuitLaws.{after-held}
use Rattle.retimed_circuits.proofs.HeldLaws.{cleaning-keeps, merging-keeps, moving-keeps}
use Rattle.retimed_circuits.proofs.laws.held_laws.Goals as goal

pub returns-clause-cleaning : goal.returns-clause-cleaning
returns-clause-cleaning c = λ held before d kept now graph netlist in_range cleans. cleaning-keeps held before d kept now (record { graph = graph; netlist = netlist }) in_range cleans

pub returns-clause-merging : goal.returns-clause-merging
returns-clause-merging c = λ held before reads d merged. merging-keeps held reads before d merged

pub returns-clause-moving : goal.returns-clause-moving
returns-clause-moving c = λ held before s netlist in_range. moving-keeps held before s netlist in_range

pub returns-clause-frames : goal.returns-clause-frames
returns-clause-frames c = λ bound choice held before n d kept now reports graph netlist in_range run.
    (after-held bound choice held before (record { graph = graph; netlist = netlist }) in_range n d kept now reports run).stay
