-- A further round that merges no latch, and one that merges some.
use Rattle.std.proofs.Common.{ℕ, ◌<◌, ◌≡◌, ◌∙◌, true, false, [], List, Option, Some, None, length, ap, sym, subst}
use Rattle.std.specs.List.{All}
use Rattle.std.proofs.lemmas.List.FromFn.{length-range_with_len}
use Rattle.aig_graph.specs.Circuits.{Netlist}
use Rattle.aig_graph.specs.Graph.{free_latches}
use Rattle.aig_graph.specs.Laws.{all_free, composed}
use Rattle.aig_graph.proofs.StreamLaws.{composed-every}
use Rattle.clean.specs.Normalised.{IsNormalised}
use Rattle.cleaned_circuits.proofs.PassLaws.{IsCircuit}
use Rattle.retimed_circuits.specs.declared.report.Retimed.{Retimed}
use Rattle.retimed_circuits.specs.Frames.{AfterFrames}
use Rattle.frame_runs.specs.Beginning.{IsMergedReady, IsRunBegun, StartsFrom}
use Rattle.frame_runs.specs.Bounds.{bound_in}
use Rattle.frame_runs.specs.Merging.{ReadCircuit}
use Rattle.frame_runs.specs.Named.{holding_in, kept_by}
use Rattle.frame_runs.specs.declared.options.Options.{Options}
use Rattle.frame_runs.specs.declared.run.Run.{Run}
use Rattle.merging_rounds.specs.Asking.{AreRoundOptions}
use Rattle.merging_rounds.specs.Following.{AreRoundsFollowed}
use Rattle.merging_rounds.specs.Rounds.{MergesNone, MergesSome}
use Rattle.merging_rounds.specs.declared.rounds.Rounds.{Rounds}
use Rattle.merging_rounds.proofs.HeldLaws.{HeldInOrder}
use Rattle.merging_rounds.proofs.NormalisedLaws.{runs-normalised}
use Rattle.merging_rounds.proofs.StepLaws.{circuit-read, held-again, held-there}
use Rattle.merging_rounds.proofs.UnmergedLaws.{unmerged-start, unmoved-end}

module _ {F : Type 0} (has_come : F → Netlist → Netlist → List ℕ → Type 0) (asked : Options) (b c : Netlist) (before : List ℕ) (valid : IsCircuit c) (normalised : IsNormalised (kept_by asked c) c)
    (in_range : All (λ j. j < length c.aig.latches) (kept_by asked c)) where
  -- a run that merged no latch of a normalised circuit has come to that circuit
  unmerged-there : (read : ReadCircuit) (run : Run Retimed F) → read.merged ≡ [] → length before ≡ free_latches c.aig → IsMergedReady has_come asked b before c read run → has_come run.follower b c before
  unmerged-there read run none many ready =
      let held : List ℕ = kept_by asked c in
      let free : ℕ = free_latches c.aig in
      let all : List ℕ = all_free c.aig in
      let r : Retimed = run.retimed in
      let kept : List ℕ = ready.followed.underway.kept in
      let same = unmerged-start held c valid normalised in_range ready.start read.kept_free ready.held read.merged none ready.is.merges in
      let P : Netlist → List ℕ → Type 0 = λ d js. AfterFrames run.bound asked.choice js d 0 r.circuit kept run.keep r.frames in
      let frames : P c held = subst (P c) (sym same.held) (subst (λ (d : Netlist). P d ready.held) (sym same.circuit) ready.followed.underway.frames) in
      let end = unmoved-end held c valid normalised in_range run.bound asked.choice r.circuit kept run.keep r.frames frames in
      let whole : r.kept_free ≡ all = ready.followed.underway.reported.0 ∙ ap (λ (js : List ℕ). composed js kept) (sym same.free)
      ∙ ap (composed all) (sym end.free) ∙ composed-every all free (length-range_with_len 0 free) in
      let Q : Netlist → List ℕ → Type 0 = λ d js. has_come run.follower b d (composed before js) in
      let here : Q c all = subst (Q c) whole (subst (λ (d : Netlist). Q d r.kept_free) (sym end.circuit) ready.followed.come) in
      subst (λ (js : List ℕ). has_come run.follower b c js) (composed-every before free many) here

  nothing-from : (read : Option ReadCircuit) (run : Run Retimed F) → asked.merge ≡ true → MergesNone run.retimed → length before ≡ free_latches c.aig → StartsFrom has_come asked b before c read run
      → has_come run.follower b c before
  nothing-from None run merges none many starts = absurd (unasked starts.unasked)
    where
      unasked : asked.merge ≡ false → ⊥
      unasked e = absurd (cc)
  nothing-from (Some read) run merges none many starts = unmerged-there read run (none read.merged starts.followed.underway.reported.2) many starts

  -- a follower is where it was if the run merged nothing
  pub nothing-there : (run : Run Retimed F) → asked.merge ≡ true → MergesNone run.retimed → IsRunBegun has_come asked b before c run → has_come run.follower b c before
  nothing-there run merges none begun = nothing-from begun.read run merges none begun.places begun.starts

-- a run that merged a latch reports it when it ends
pub merges-some : (begun end : Retimed) → MergesSome begun → end.merged ≡ begun.merged → MergesSome end
merges-some begun end some merged = record { lines = some.lines; merged = merged ∙ some.merged; some = some.some }

module _ {F : Type 0} (has_come : F → Netlist → Netlist → List ℕ → Type 0) (options : Options) (c : Netlist) where
  -- rounds are as they were after one that merged nothing
  pub nothing-again : (runs : List Retimed) (state : Run Rounds F) (left : ℕ) (asked : Options) (run : Run Retimed F) → AreRoundsFollowed has_come options c runs state
      → AreRoundOptions options state.bound state.keep left asked → MergesNone run.retimed → IsRunBegun has_come asked c state.retimed.kept_free state.retimed.circuit run
      → AreRoundsFollowed has_come options c runs (record { retimed = state.retimed; keep = state.keep; follower = run.follower; bound = state.bound })
  nothing-again runs state left asked run is are none begun =
      let r : Rounds = state.retimed in
      let now : List ℕ = state.keep in
      let there : HeldInOrder (kept_by options c) c now r.circuit = held-there has_come options c runs state is in
      let same : now ≡ kept_by asked r.circuit = held-again has_come options c runs state left asked is are in
      let normalised : IsNormalised now r.circuit =
      runs-normalised options.merge (bound_in options c) options.choice c (holding_in options) options.max_frames options.certify (circuit-read has_come options c runs state is) runs r.circuit r.kept_free now is.is.after in
      record {
        graph = is.graph;
        netlist = is.netlist;
        bound_is = is.bound_is;
        is = is.is;
        given = is.given;
        levels = is.levels;
        come = nothing-there has_come asked c r.circuit r.kept_free there.stand.circuit (subst (λ (js : List ℕ). IsNormalised js r.circuit) same normalised)
            (subst (λ (js : List ℕ). All (λ j. j < length r.circuit.aig.latches) js) same there.stand.in_range) run are.merges none begun;
      }
