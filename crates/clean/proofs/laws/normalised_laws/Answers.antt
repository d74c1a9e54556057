use Rattle.cleaned_circuits.proofs.PassLaws.{IsCircuit}
use Rattle.clean.proofs.CleanLaws.{clean-normalised}
use Rattle.clean.proofs.MovedLaws.{moved_normalised}
use Rattle.clean.proofs.PassLaws.{normalised-cleans, normalised-pass}
use Rattle.clean.proofs.laws.normalised_laws.Goals as goal

pub returns-clause-moved : goal.returns-clause-moved
returns-clause-moved c = moved_normalised

pub returns-clause-cleaned : goal.returns-clause-cleaned
returns-clause-cleaned c = λ held before graph netlist in_range normalised.
    let valid : IsCircuit before = record { graph = graph; netlist = netlist } in
    (normalised-pass held before valid in_range normalised, normalised-cleans held before valid in_range normalised)

pub returns-clause-normalised : goal.returns-clause-normalised
returns-clause-normalised c = λ held before kept graph netlist in_range pass. clean-normalised held before kept (record { graph = graph; netlist = netlist }) in_range pass

pub returns-clause-copies : goal.returns-clause-copies
returns-clause-copies c = λ held before first normalised. record {
  plain = λ k gate past there low. normalised.plain k gate there;
  pairs = λ i k gate past there other low. normalised.pairs i k gate there other;
}
