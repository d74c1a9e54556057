use Rattle.std.proofs.Common.{ℕ, List, ◌<◌, length, sym, subst}
use Rattle.std.specs.List.{All}
use Rattle.aig_graph.specs.Circuits.{Netlist}
use Rattle.aig_graph.specs.Move.{move_of}
use Rattle.rebuild.proofs.HeldLaws.{moved_held-below}
use Rattle.retimed_circuits.specs.Frames.{CleansTo, held_over, moved_over}
use Rattle.certificate_audits.proofs.moving.next_stage.Goals as goal

pub clean-cleaned-requires : goal.clean-cleaned-requires
clean-cleaned-requires c =
    let stage = c.args.stage.now in
    let gates = c.args.block.now.gates in
    let P : List ℕ → Netlist → Type 0 = λ held d. All (λ j. j < length d.aig.latches) held in
    record {
      in_range = subst (λ (held : List ℕ). P held c.in_ok-after.after.circuit) (sym c.in_ok-after.ensures.keep)
          (subst (P (held_over stage.keep stage.circuit gates)) (sym c.in_ok-after.ensures.circuit) (moved_held-below (move_of stage.circuit stage.keep gates) c.requires.in_range));
    }

pub returns-in-Ok-clause-next : goal.returns-in-Ok-clause-next
returns-in-Ok-clause-next c =
    let stage = c.args.stage.now in
    let gates = c.args.block.now.gates in
    let after = c.in_ok-after.after in
    let found = c.in-Ok.found in
    let made = c.stage_of.result in
    let P : List ℕ → Netlist → Type 0 = λ held d. CleansTo held d found.circuit found.kept_free found.keep in
    let Q : Netlist → List ℕ → Type 0 = λ e now. CleansTo (held_over stage.keep stage.circuit gates) (moved_over stage.keep stage.circuit gates) e found.kept_free now in
    let cleans : P after.keep after.circuit = record { cleans = c.in-Ok.ensures.cleaned; held_after = c.in-Ok.ensures.held } in
    let over : Q found.circuit found.keep = subst (λ (held : List ℕ). P held (moved_over stage.keep stage.circuit gates)) c.in_ok-after.ensures.keep (subst (P after.keep) c.in_ok-after.ensures.circuit cleans) in
    record {
      kept = found.kept_free;
      cleaned = subst (λ (e : Netlist). Q e made.keep) (sym c.stage_of.ensures.circuit) (subst (Q found.circuit) (sym c.stage_of.ensures.keep) over);
    }

pub returns-in-Ok-clause-in_range : goal.returns-in-Ok-clause-in_range
returns-in-Ok-clause-in_range c =
    let found = c.in-Ok.found in
    let made = c.stage_of.result in
    let P : List ℕ → Netlist → Type 0 = λ held d. All (λ j. j < length d.aig.latches) held in
    subst (λ (e : Netlist). P made.keep e) (sym c.stage_of.ensures.circuit) (subst (λ (held : List ℕ). P held found.circuit) (sym c.stage_of.ensures.keep) c.in-Ok.ensures.in_range)
