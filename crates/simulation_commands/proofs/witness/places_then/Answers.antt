use Rattle.std.proofs.Common.{Some, None, refl, subst}
use Rattle.std.proofs.lemmas.Result.{IfOk-weaker}
use Rattle.simulation_commands.specs.Verdicts.{AreLeftAfter}
use Rattle.simulation_commands.proofs.witness.places_then.Goals as goal

pub returns-in-Some : goal.returns-in-Some
returns-in-Some g c = record {
  first = Some c.in-Some.places;
  are_first = subst (AreLeftAfter c.args.merge 0 c.args.circuit.now c.args.free) c.in-Some.is c.requires;
  are = refl;
}

pub returns-in-None : goal.returns-in-None
returns-in-None g c = IfOk-weaker c.places_after.result _ _
    (λ places left. record { first = None; are_first = subst (AreLeftAfter c.args.merge 0 c.args.circuit.now c.args.free) c.in-None.is c.requires; are = left }) c.places_after.ensures
