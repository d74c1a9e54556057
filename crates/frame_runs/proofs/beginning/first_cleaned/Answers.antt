use Rattle.std.proofs.Common.{ℕ, ◌<◌, length, subst, sym}
use Rattle.std.specs.List.{All}
use Rattle.std.specs.Result.{IfOk}
use Rattle.aig_graph.specs.Circuits.{Netlist}
use Rattle.cleaned_circuits.specs.Cleaned.{Cleans}
use Rattle.cleaned_circuits.specs.Held.{HeldAfter}
use Rattle.frame_runs.specs.Following.{ComesOn, HasComeTo}
use Rattle.frame_runs.proofs.beginning.first_cleaned.Goals as goal

pub clean-requires-clause-there : goal.clean-requires-clause-there
clean-requires-clause-there g c = c.requires.there

pub clean-requires-clause-in_range : goal.clean-requires-clause-in_range
clean-requires-clause-in_range g c = c.requires.in_range

pub clean-cleaned-requires-clause-there : goal.clean-cleaned-requires-clause-there
clean-cleaned-requires-clause-there g c = subst (HasComeTo g.F.RunFollower.has_come c.args.follower.now) (sym c.circuit-lent.ensures) c.requires.there

pub clean-cleaned-requires-clause-in_range : goal.clean-cleaned-requires-clause-in_range
clean-cleaned-requires-clause-in_range g c = subst (λ (d : Netlist). All (λ (j : ℕ). j < length d.aig.latches) c.args.keep.now) (sym c.circuit-lent.ensures) c.requires.in_range

pub returns-else-large-clause-cleaned : goal.returns-else-large-clause-cleaned
returns-else-large-clause-cleaned g c = subst (λ (d : Netlist). IfOk c.clean-cleaned.result (λ e. Cleans e.circuit c.args.keep.now d e.kept_free)) c.circuit-lent.ensures c.clean-cleaned.ensures.cleaned

pub returns-else-large-clause-held : goal.returns-else-large-clause-held
returns-else-large-clause-held g c = subst (λ (d : Netlist). IfOk c.clean-cleaned.result (λ e. HeldAfter e.circuit e.keep c.args.keep.now d)) c.circuit-lent.ensures c.clean-cleaned.ensures.held

pub returns-else-large-clause-comes : goal.returns-else-large-clause-comes
returns-else-large-clause-comes g c =
    let has_come = g.F.RunFollower.has_come in
    subst (λ (d : Netlist). IfOk c.clean-cleaned.result (λ e. ComesOn has_come c.args.follower.now c.clean-cleaned.new.self d e.circuit e.kept_free)) c.circuit-lent.ensures c.clean-cleaned.ensures.comes
