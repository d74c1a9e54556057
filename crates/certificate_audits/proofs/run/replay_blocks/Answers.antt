use Rattle.std.proofs.Common.{ℕ, List, ◌<◌, length, sym, subst}
use Rattle.std.specs.List.{All}
use Rattle.std.proofs.lemmas.Result.{IfOk-weaker}
use Rattle.aig_graph.specs.Circuits.{Netlist}
use Rattle.retimed_circuits.specs.Frames.{CleansTo}
use Rattle.certificate_audits.specs.Replays.{IsReplay, Replays}
use Rattle.certificate_audits.proofs.run.replay_blocks.Goals as goal

pub clean-requires : goal.clean-requires
clean-requires c = record { in_range = c.requires }

pub replay_from-requires : goal.replay_from-requires
replay_from-requires c =
    let first = c.in_ok-first.first in
    let made = c.stage_of.result in
    let P : List ℕ → Netlist → Type 0 = λ held d. All (λ j. j < length d.aig.latches) held in
    subst (λ (e : Netlist). P made.keep e) (sym c.stage_of.ensures.circuit) (subst (λ (held : List ℕ). P held first.circuit) (sym c.stage_of.ensures.keep) c.in_ok-first.ensures.in_range)

pub returns : goal.returns
returns c =
    let held = c.args.keep.now in
    let before = c.args.circuit.now in
    let blocks = c.args.blocks.now in
    let first = c.in_ok-first.first in
    let made = c.stage_of.result in
    let Q : Netlist → List ℕ → Type 0 = λ d now. CleansTo held before d first.kept_free now in
    let cleans : Q first.circuit first.keep = record { cleans = c.in_ok-first.ensures.cleaned; held_after = c.in_ok-first.ensures.held } in
    IfOk-weaker c.replay_from.result (Replays c.args.bound made.keep made.circuit blocks) (IsReplay c.args.bound held before blocks)
    (λ replay replays. record {
      first = made.circuit;
      kept = first.kept_free;
      now = made.keep;
      cleaned = subst (λ (d : Netlist). Q d made.keep) (sym c.stage_of.ensures.circuit) (subst (Q first.circuit) (sym c.stage_of.ensures.keep) cleans);
      replays = replays;
    })
    c.replay_from.ensures
