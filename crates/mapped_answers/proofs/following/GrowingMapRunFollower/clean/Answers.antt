use Rattle.std.proofs.Common.{ℕ, ◌<◌, length, subst, sym}
use Rattle.std.specs.List.{All}
use Rattle.aig_graph.specs.Circuits.{Netlist}
use Rattle.retiming_maps.specs.Mapping.{IsSomeMapTo}
use Rattle.mapped_answers.proofs.following.GrowingMapRunFollower.clean.Goals as goal

pub cleaned_along-cleaned-requires-clause-map : goal.cleaned_along-cleaned-requires-clause-map
cleaned_along-cleaned-requires-clause-map c = subst (λ (d : Netlist). IsSomeMapTo d c.args.self.now.parts) (sym c.circuit-lent.ensures) c.requires.there

pub cleaned_along-cleaned-requires-clause-in_range : goal.cleaned_along-cleaned-requires-clause-in_range
cleaned_along-cleaned-requires-clause-in_range c = subst (λ (d : Netlist). All (λ (j : ℕ). j < length d.aig.latches) c.args.keep.now) (sym c.circuit-lent.ensures) c.requires.in_range

pub returns-clause-cleaned : goal.returns-clause-cleaned
returns-clause-cleaned c = rw c.circuit-lent.ensures at c.in_ok-cleaned.ensures.cleaned

pub returns-clause-held : goal.returns-clause-held
returns-clause-held c = rw c.circuit-lent.ensures at c.in_ok-cleaned.ensures.held_after

pub returns-clause-comes : goal.returns-clause-comes
returns-clause-comes c =
    let is = rw c.circuit-lent.ensures at c.in_ok-cleaned.ensures.leads in
    λ b kept each come. is b kept come
