use Rattle.std.proofs.lemmas.Result.{IfOk-weaker}
use Rattle.cleaned_circuits.proofs.PassLaws.{IsCircuit}
use Rattle.retimed_circuits.specs.Frames.{CleansTo}
use Rattle.latch_merging.proofs.StartLaws.{given-start}
use Rattle.latch_merging.proofs.given.start_by.Goals as goal

pub clean-requires : goal.clean-requires
clean-requires c = c.requires

pub returns : goal.returns
returns c =
    let before = c.args.circuit.now in
    let cleaned = c.in_ok-cleaned.cleaned in
    let valid : IsCircuit before = record { graph = c.known.ensures.graph; netlist = c.known.ensures.netlist } in
    let cleans : CleansTo c.args.keep.now before cleaned.circuit cleaned.kept_free cleaned.keep = record { cleans = c.in_ok-cleaned.ensures.cleaned; held_after = c.in_ok-cleaned.ensures.held } in
    IfOk-weaker c.start_of_lines.result _ _ (λ given start. given-start c.args.keep.now before c.args.lines.now cleaned given valid c.requires.in_range cleans c.in_ok-cleaned.ensures.in_range start) c.start_of_lines.ensures
