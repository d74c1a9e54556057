-- Rounds, one run after another.
use Rattle.std.proofs.Common.{ℕ, ◌+◌, ◌-◌, ◌<◌, ◌≤◌, ◌≡◌, ◌∙◌, Bool, true, List, [], ◌∷◌, ◌++◌, Option, Some, None, length, refl, arith, ap, sym, subst, append-nil}
use Rattle.std.proofs.lemmas.List.{length-append, map-append}
use Rattle.std.proofs.lemmas.Grind.{flat_map-append}
use Rattle.aig_graph.specs.Circuits.{Netlist}
use Rattle.aig_graph.specs.Keep.{Holding, held_of}
use Rattle.aig_graph.specs.Laws.{composed}
use Rattle.aig_graph.specs.Streams.{SameStreams}
use Rattle.aig_graph.specs.declared.choice.Choice.{Choice}
use Rattle.aig_graph.proofs.PositionLaws.{held_of-names}
use Rattle.aig_graph.proofs.StreamLaws.{same_streams-transitive}
use Rattle.certificate_files.specs.declared.file.CertPart.{CertPart}
use Rattle.cleaned_circuits.proofs.PassLaws.{IsCircuit}
use Rattle.retimed_circuits.specs.declared.report.FrameReport.{FrameReport}
use Rattle.retimed_circuits.specs.declared.report.Retimed.{Retimed}
use Rattle.retimed_circuits.specs.Frames.{NoneHelps}
use Rattle.retimed_circuits.specs.Names.{StayHeld}
use Rattle.retimed_circuits.specs.RetimingLevels.{KeepsLevels}
use Rattle.retimed_circuits.proofs.MergedRunLaws.{read-latches}
use Rattle.retimed_circuits.proofs.RetimingLevelLaws.{retiming-levels}
use Rattle.frame_runs.specs.Retiming.{IsRetimedTo}
use Rattle.merging_rounds.specs.declared.rounds.Rounds.{Rounds}
use Rattle.merging_rounds.specs.Rounds.{AfterRuns, IsRetimedInRounds, MergesSome, again, at_positions, first, frames_of, part_of}
use Rattle.merging_rounds.proofs.HeldLaws.{HeldInOrder, held_of-own, in-order-then, run-in-order}
use Rattle.merging_rounds.proofs.RunLaws.{run-last, run-streams, run-within}

module _ (merge : Bool) (bound : Option ℕ) (choice : Choice) (c : Netlist) (holding : Holding) (max_frames : ℕ) (certify : Bool) where
  -- the held latches of what a circuit was retimed to stand at their positions in a further run
  again-in-order : (d : Netlist) (now later : List ℕ) (left : ℕ) (run : Retimed) → HeldInOrder (held_of holding c) c now d → IsRetimedTo true bound choice d (at_positions now) left certify run later
      → HeldInOrder now d later run.circuit
  again-in-order d now later left run so_far is =
      let held : held_of (at_positions now) d ≡ now = held_of-own now d so_far.rising so_far.stand.in_range in
      subst (λ (js : List ℕ). HeldInOrder js d later run.circuit) held (run-in-order true bound choice d (at_positions now) left certify run later so_far.stand.circuit is)

  -- runs keep the latches that are asked to be held
  pub runs-in-order : IsCircuit c → (runs : List Retimed) (d : Netlist) (kept now : List ℕ) → AfterRuns merge bound choice c holding max_frames certify runs d kept now → HeldInOrder (held_of holding c) c now d
  runs-in-order valid _ _ _ _ (first run now is) = run-in-order merge bound choice c holding max_frames certify run now valid is
  runs-in-order valid _ _ _ _ (again runs d kept now later run before asked some is) =
      let so_far : HeldInOrder (held_of holding c) c now d = runs-in-order valid runs d kept now before in
      in-order-then (held_of holding c) now later c d run.circuit so_far (again-in-order d now later (max_frames - length (frames_of runs)) run so_far is)

  -- they keep the bound
  pub runs-levels : IsCircuit c → (runs : List Retimed) (d : Netlist) (kept now : List ℕ) → AfterRuns merge bound choice c holding max_frames certify runs d kept now → KeepsLevels bound c d
  runs-levels valid _ _ _ _ (first run now is) = retiming-levels merge bound choice c holding max_frames certify run valid.graph valid.netlist is.retimed
  runs-levels valid _ _ _ _ (again runs d kept now later run before asked some is) =
      let there : IsCircuit d = (runs-in-order valid runs d kept now before).stand.circuit in
      let more : KeepsLevels bound d run.circuit = retiming-levels true bound choice d (at_positions now) (max_frames - length (frames_of runs)) certify run there.graph there.netlist is.retimed in
      levels-then bound c d run.circuit (runs-levels valid runs d kept now before) more
    where
      levels-then : (most : Option ℕ) (a b e : Netlist) → KeepsLevels most a b → KeepsLevels most b e → KeepsLevels most a e
      levels-then None a b e p q = tt
      levels-then (Some most) a b e p q = omega (arith, p, q)

  -- the first run of a retiming
  pub one-round : (run : Retimed) (r : Rounds) (now : List ℕ) → IsCircuit c → IsRetimedTo merge bound choice c holding max_frames certify run now → r.circuit ≡ run.circuit → r.kept_free ≡ run.kept_free
      → r.read_latches ≡ run.read_latches → r.frames ≡ run.frames → r.parts ≡ part_of run ∷ [] → IsRetimedInRounds merge bound choice c holding max_frames certify (run ∷ []) r now
  one-round run r now valid is circuit kept latches frames parts =
      let held : List ℕ = held_of holding c in
      let stays : StayHeld held c now run.circuit = (run-in-order merge bound choice c holding max_frames certify run now valid is).stand.stay in
      let P : Netlist → List ℕ → Type 0 = λ d places. AfterRuns merge bound choice c holding max_frames certify (run ∷ []) d places now × SameStreams c d places in
      let both : P r.circuit r.kept_free =
      subst (λ (d : Netlist). P d r.kept_free) (sym circuit) (subst (P run.circuit) (sym kept) (first run now is, run-streams merge bound choice c holding max_frames certify run now is)) in
      let there : StayHeld held c now r.circuit = subst (StayHeld held c now) (sym circuit) stays in
      record {
        after = both.0;
        read_latches = latches ∙ read-latches merge bound choice c holding max_frames certify run is.retimed;
        frames = frames ∙ sym (append-nil run.frames);
        parts = parts;
        within = subst (λ (xs : List FrameReport). length xs ≤ max_frames) (sym frames) (run-within merge bound choice c holding max_frames certify run now is);
        last = λ fewer. subst (NoneHelps bound choice now) (sym circuit)
            (run-last merge bound choice c holding max_frames certify run now is (subst (λ (xs : List FrameReport). length xs < max_frames) frames fewer));
        one = λ unasked. refl;
        streams = both.1;
        stays = there;
        held = there.named holding.names (held_of-names holding c valid.netlist);
      }

  -- a further run
  pub next-round : (runs : List Retimed) (r s : Rounds) (now later : List ℕ) (run : Retimed) → IsCircuit c → IsRetimedInRounds merge bound choice c holding max_frames certify runs r now
      → merge ≡ true → MergesSome run → IsRetimedTo true bound choice r.circuit (at_positions now) (max_frames - length r.frames) certify run later
      → s.circuit ≡ run.circuit → s.kept_free ≡ composed r.kept_free run.kept_free → s.read_latches ≡ r.read_latches → s.frames ≡ r.frames ++ run.frames → s.parts ≡ r.parts ++ part_of run ∷ []
      → IsRetimedInRounds merge bound choice c holding max_frames certify (runs ++ run ∷ []) s later
  next-round runs r s now later run valid before asked some is circuit kept latches frames parts =
      let held : List ℕ = held_of holding c in
      let left : ℕ = max_frames - length r.frames in
      let so_far : HeldInOrder held c now r.circuit = runs-in-order valid runs r.circuit r.kept_free now before.after in
      let stays : StayHeld held c later run.circuit =
      (in-order-then held now later c r.circuit run.circuit so_far (again-in-order r.circuit now later left run so_far is)).stand.stay in
      let next : IsRetimedTo true bound choice r.circuit (at_positions now) (max_frames - length (frames_of runs)) certify run later =
      subst (λ (xs : List FrameReport). IsRetimedTo true bound choice r.circuit (at_positions now) (max_frames - length xs) certify run later) before.frames is in
      let more : List ℕ = composed r.kept_free run.kept_free in
      let streams : SameStreams c run.circuit more =
      same_streams-transitive c r.circuit run.circuit r.kept_free run.kept_free before.streams (run-streams true bound choice r.circuit (at_positions now) left certify run later is) in
      let P : Netlist → List ℕ → Type 0 = λ d places. AfterRuns merge bound choice c holding max_frames certify (runs ++ run ∷ []) d places later × SameStreams c d places in
      let both : P s.circuit s.kept_free =
      subst (λ (d : Netlist). P d s.kept_free) (sym circuit) (subst (P run.circuit) (sym kept) (again runs r.circuit r.kept_free now later run before.after asked some next, streams)) in
      let there : StayHeld held c later s.circuit = subst (StayHeld held c later) (sym circuit) stays in
      let few : length run.frames ≤ left = run-within true bound choice r.circuit (at_positions now) left certify run later is in
      let many : length s.frames ≡ length r.frames + length run.frames = ap (λ (xs : List FrameReport). length xs) frames ∙ length-append r.frames run.frames in
      record {
        after = both.0;
        read_latches = latches ∙ before.read_latches;
        frames = frames ∙ ap (λ (xs : List FrameReport). xs ++ run.frames) before.frames ∙ ap (λ (xs : List FrameReport). frames_of runs ++ xs) (sym (append-nil run.frames))
            ∙ sym (flat_map-append (λ (x : Retimed). x.frames) runs (run ∷ []));
        parts = parts ∙ ap (λ (xs : List CertPart). xs ++ part_of run ∷ []) before.parts ∙ sym (map-append part_of runs (run ∷ []));
        within = omega (arith, many, few, before.within);
        last = λ fewer. subst (NoneHelps bound choice later) (sym circuit)
            (run-last true bound choice r.circuit (at_positions now) left certify run later is (omega (arith, many, fewer)));
        one = λ unasked. absurd (cc);
        streams = both.1;
        stays = there;
        held = there.named holding.names (held_of-names holding c valid.netlist);
      }
