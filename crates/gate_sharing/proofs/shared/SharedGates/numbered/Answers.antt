use Rattle.std.proofs.Common.{arith, ap}
use Rattle.std.proofs.lemmas.Option.{slice_get_within}
use Rattle.aig_graph.specs.Gates.{Gates}
use Rattle.gate_sharing.proofs.SharedLaws.{both-at}
use Rattle.gate_sharing.proofs.shared.SharedGates.numbered.Goals as goal

pub returns-clause-is : goal.returns-clause-is
returns-clause-is c =
    let first = ap (λ (s : Gates). s.first) c.self-2.view_is in
    let there = c.in_ok-place.ensures.is in
    both-at c.place_of.new.self c.args.gate c.in_ok-place.place c.new.result there (slice_get_within _ _ _ there) (omega (arith, first, c.new.ensures))
