use Rattle.std.proofs.lemmas.Result.{IfOk-weaker}
use Rattle.cleaned_circuits.proofs.PassLaws.{IsCircuit}
use Rattle.retimed_circuits.specs.Frames.{CleansTo}
use Rattle.latch_merging.proofs.StartLaws.{start-of}
use Rattle.latch_merging.proofs.start.merged_start.Goals as goal

pub clean-requires : goal.clean-requires
clean-requires c = c.requires

pub returns-clause-merges : goal.returns-clause-merges
returns-clause-merges c =
    let before = c.args.circuit.now in
    let cleaned = c.in_ok-cleaned.cleaned in
    let valid : IsCircuit before = record { graph = c.known.ensures.graph; netlist = c.known.ensures.netlist } in
    let cleans : CleansTo c.args.keep.now before cleaned.circuit cleaned.kept_free cleaned.keep = record { cleans = c.in_ok-cleaned.ensures.cleaned; held_after = c.in_ok-cleaned.ensures.held } in
    IfOk-weaker c.start_of.result _ _ (λ m start. (start-of c.args.keep.now before cleaned m valid c.requires.in_range cleans c.in_ok-cleaned.ensures.in_range start).merges) c.start_of.ensures

pub returns-clause-streams : goal.returns-clause-streams
returns-clause-streams c =
    let before = c.args.circuit.now in
    let cleaned = c.in_ok-cleaned.cleaned in
    let valid : IsCircuit before = record { graph = c.known.ensures.graph; netlist = c.known.ensures.netlist } in
    let cleans : CleansTo c.args.keep.now before cleaned.circuit cleaned.kept_free cleaned.keep = record { cleans = c.in_ok-cleaned.ensures.cleaned; held_after = c.in_ok-cleaned.ensures.held } in
    IfOk-weaker c.start_of.result _ _ (λ m start. (start-of c.args.keep.now before cleaned m valid c.requires.in_range cleans c.in_ok-cleaned.ensures.in_range start).streams) c.start_of.ensures

pub returns-clause-stay : goal.returns-clause-stay
returns-clause-stay c =
    let before = c.args.circuit.now in
    let cleaned = c.in_ok-cleaned.cleaned in
    let valid : IsCircuit before = record { graph = c.known.ensures.graph; netlist = c.known.ensures.netlist } in
    let cleans : CleansTo c.args.keep.now before cleaned.circuit cleaned.kept_free cleaned.keep = record { cleans = c.in_ok-cleaned.ensures.cleaned; held_after = c.in_ok-cleaned.ensures.held } in
    IfOk-weaker c.start_of.result _ _ (λ m start. (start-of c.args.keep.now before cleaned m valid c.requires.in_range cleans c.in_ok-cleaned.ensures.in_range start).stay) c.start_of.ensures

pub returns-clause-in_range : goal.returns-clause-in_range
returns-clause-in_range c =
    let before = c.args.circuit.now in
    let cleaned = c.in_ok-cleaned.cleaned in
    let valid : IsCircuit before = record { graph = c.known.ensures.graph; netlist = c.known.ensures.netlist } in
    let cleans : CleansTo c.args.keep.now before cleaned.circuit cleaned.kept_free cleaned.keep = record { cleans = c.in_ok-cleaned.ensures.cleaned; held_after = c.in_ok-cleaned.ensures.held } in
    IfOk-weaker c.start_of.result _ _ (λ m start. (start-of c.args.keep.now before cleaned m valid c.requires.in_range cleans c.in_ok-cleaned.ensures.in_range start).in_range) c.start_of.ensures
