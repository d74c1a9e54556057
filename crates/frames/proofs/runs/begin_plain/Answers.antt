use Rattle.std.proofs.Common.{◌≡◌, ◌∙◌, Result, Err, ap, refl, subst}
use Rattle.std.proofs.lemmas.List.FromFn.{length-range_with_len}
use Rattle.aig_graph.specs.Circuits.{IsNetlist, Netlist}
use Rattle.aig_graph.specs.declared.keep.Keep.{Keep}
use Rattle.aig_graph.specs.Graph.{IsGraph, free_latches}
use Rattle.aig_graph.specs.Laws.{all_free}
use Rattle.frame_runs.specs.declared.follower.NoFollower.{NoFollower}
use Rattle.frame_runs.specs.declared.run.Run.{Run}
use Rattle.retimed_circuits.specs.declared.report.Retimed.{Retimed}
use Rattle.frame_runs.specs.declared.errors.RetimeError.{RetimeError}
use Rattle.frame_runs.specs.declared.errors.RetimeError.TheVariants.{NoSuchName}
use Rattle.frame_runs.specs.Given.{circuit_of}
use Rattle.frame_runs.specs.Named.{AreLatchesBy, IsFirstMissingBy, IsFirstNoLatchBy, NoneMissingBy, kept_by}
use Rattle.frame_runs.proofs.HoldLaws.{at-latch, never-latch, never-name}
use Rattle.frames.proofs.runs.begin_plain.Goals as goal

pub begin-requires-clause-there : goal.begin-requires-clause-there
begin-requires-clause-there c =
    let d = circuit_of c.args.given in (d, all_free d.aig, record { places = length-range_with_len 0 (free_latches d.aig); come = tt })

pub begin-requires-clause-keep : goal.begin-requires-clause-keep
begin-requires-clause-keep c = c.in-Ok.ensures.keep ∙ ap (kept_by c.args.options.now) c.circuit-lent.ensures

pub returns-in_ok-begun-in-Ok-clause-begun : goal.returns-in_ok-begun-in-Ok-clause-begun
returns-in_ok-begun-in-Ok-clause-begun c =
    let d = circuit_of c.args.given in
    record {
      graph = subst (λ (e : Netlist). IsGraph e.aig) c.circuit-lent.ensures c.known.ensures.graph;
      netlist = subst IsNetlist c.circuit-lent.ensures c.known.ensures.netlist;
      starts = c.in_ok-begun-in-Ok.ensures d (all_free d.aig) (record { places = length-range_with_len 0 (free_latches d.aig); come = tt });
    }

pub returns-in_ok-begun-in-Ok-clause-latches : goal.returns-in_ok-begun-in-Ok-clause-latches
returns-in_ok-begun-in-Ok-clause-latches c = subst (AreLatchesBy c.args.options.now) c.circuit-lent.ensures c.in-Ok.ensures.latches

pub returns-in_ok-begun-in-Ok-clause-none_missing : goal.returns-in_ok-begun-in-Ok-clause-none_missing
returns-in_ok-begun-in-Ok-clause-none_missing c = subst (NoneMissingBy c.args.options.now) c.circuit-lent.ensures c.in-Ok.ensures.none_missing

pub returns-in-Err-clause-no_latch : goal.returns-in-Err-clause-no_latch
returns-in-Err-clause-no_latch c =
    at-latch {T = Run Retimed NoFollower} (Err c.in-Err.error) c.in-Err.error (IsFirstNoLatchBy c.args.options.now (circuit_of c.args.given)) refl
    (λ place is. subst (λ (d : Netlist). IsFirstNoLatchBy c.args.options.now d place) c.circuit-lent.ensures (c.in-Err.ensures.no_latch place (ap (λ (x : RetimeError). Err x) is)))

pub returns-in-Err-clause-missing : goal.returns-in-Err-clause-missing
returns-in-Err-clause-missing c = λ place is.
    let same : ◌≡◌ {A = Result Keep RetimeError} (Err c.in-Err.error) (Err (NoSuchName place)) = cc in
    subst (λ (d : Netlist). IsFirstMissingBy c.args.options.now d place) c.circuit-lent.ensures (c.in-Err.ensures.missing place same)

pub returns-in_err-begun-in-Ok-clause-no_latch : goal.returns-in_err-begun-in-Ok-clause-no_latch
returns-in_err-begun-in-Ok-clause-no_latch c =
    never-latch c.from_residual.result c.in_err-begun-in-Ok.field-0.0 (IsFirstNoLatchBy c.args.options.now (circuit_of c.args.given)) c.from_residual.ensures.1

pub returns-in_err-begun-in-Ok-clause-missing : goal.returns-in_err-begun-in-Ok-clause-missing
returns-in_err-begun-in-Ok-clause-missing c =
    never-name c.from_residual.result c.in_err-begun-in-Ok.field-0.0 (IsFirstMissingBy c.args.options.now (circuit_of c.args.given)) c.from_residual.ensures.1
