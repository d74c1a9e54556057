-- From round to round.
use Rattle.std.proofs.Common.{ℕ, ◌-◌, ◌<◌, ◌≡◌, ◌∙◌, true, List, [], ◌∷◌, ◌++◌, Bool, Option, Some, None, length, map, max, refl, arith, ap, sym, subst}
use Rattle.std.specs.List.{All}
use Rattle.std.specs.Option.{option_map}
use Rattle.std.proofs.lemmas.Option.{same_Some}
use Rattle.aig_graph.specs.Circuits.{Netlist}
use Rattle.aig_graph.specs.Graph.{free_latches}
use Rattle.aig_graph.specs.Keep.{Holding, held_of}
use Rattle.aig_graph.specs.Laws.{composed}
use Rattle.aig_graph.specs.declared.choice.Choice.{Choice}
use Rattle.certificate_files.specs.declared.file.CertPart.{CertPart}
use Rattle.certificates.specs.declared.merged.MergedLatch.{MergedLatch}
use Rattle.clean.proofs.CleaningLaws.{composed-all}
use Rattle.cleaned_circuits.proofs.PassLaws.{IsCircuit}
use Rattle.path_levels.specs.Levels.{levels}
use Rattle.retimed_circuits.specs.declared.report.FrameReport.{FrameReport}
use Rattle.retimed_circuits.specs.declared.report.Retimed.{Retimed}
use Rattle.retimed_circuits.specs.RetimingLevels.{KeepsLevels}
use Rattle.frame_runs.specs.Bounds.{bound_in, levels_named}
use Rattle.frame_runs.specs.Following.{HasComeFrom, IsRetimedFollowed}
use Rattle.frame_runs.specs.Named.{holding_in, kept_by}
use Rattle.frame_runs.specs.Retiming.{IsRetimedHeld, IsRetimedTo}
use Rattle.frame_runs.specs.declared.options.Options.{Options}
use Rattle.frame_runs.specs.declared.run.Run.{Run}
use Rattle.merging_rounds.specs.Asking.{AreRoundOptions, Guesses, IsInRounds}
use Rattle.merging_rounds.specs.Following.{AreRoundsFollowed, IsFirstRun}
use Rattle.merging_rounds.specs.Joining.{IsJoined}
use Rattle.merging_rounds.specs.Rounds.{MergesSome, at_positions, part_of}
use Rattle.merging_rounds.specs.Steps.{IsReportOf}
use Rattle.merging_rounds.specs.declared.joining.Report.{Report}
use Rattle.merging_rounds.specs.declared.rounds.Rounds.{Rounds}
use Rattle.merging_rounds.proofs.HeldLaws.{HeldInOrder, held_of-own}
use Rattle.merging_rounds.proofs.RoundLaws.{next-round, one-round, runs-in-order, runs-levels}
use Rattle.merging_rounds.proofs.RunLaws.{run-streams}

-- what the options make of a circuit is what they ask for
pub held-to : (options : Options) (c : Netlist) (r : Retimed) (now : List ℕ) → IsRetimedHeld options c r now
    → IsRetimedTo options.merge (bound_in options c) options.choice c (holding_in options) options.max_frames options.certify r now
held-to options c r now is = record { retimed = is.retimed; held = is.held }

-- a bound that a circuit's levels set is the bound of what keeps it
fits : (named bound : Option ℕ) (c d : Netlist) → bound ≡ option_map (λ (most : ℕ). max most (levels c)) named → KeepsLevels bound c d → option_map (λ (most : ℕ). max most (levels d)) bound ≡ bound
fits named None c d is keeps = refl
fits None (Some most) c d is keeps = absurd (cc)
fits (Some given) (Some most) c d is keeps =
    let same : most ≡ max given (levels c) = same_Some most (max given (levels c)) is in
    let high : max most (levels d) ≡ most = omega (arith, same, keeps) in
    ap (λ (n : ℕ). Some n) high

-- there are lines or none
none-given : (classes : Option (List MergedLatch)) (lines : List MergedLatch) → classes ≡ None → classes ≡ Some lines → ⊥
none-given classes lines none some = absurd (cc)

-- the places of a further run's free latches are among those of the rounds before it
pub places-among : (asked : Options) (c : Netlist) (before : List ℕ) (run : Retimed) (now : List ℕ) → length before ≡ free_latches c.aig → IsRetimedHeld asked c run now
    → All (λ place. place < length before) run.kept_free
places-among asked c before run now many is = λ k d h.
    let streams = run-streams asked.merge (bound_in asked c) asked.choice c (holding_in asked) asked.max_frames asked.certify run now (held-to asked c run now is) in
    let low = streams.places.below k d h in
    omega (arith, low, many)

module _ {F : Type 0} (has_come : F → Netlist → Netlist → List ℕ → Type 0) (options : Options) (c : Netlist) where
  -- the circuit that was read
  pub circuit-read : (runs : List Retimed) (state : Run Rounds F) → AreRoundsFollowed has_come options c runs state → IsCircuit c
  circuit-read runs state is = record { graph = is.graph; netlist = is.netlist }

  -- the held latches of the circuit that rounds have come to
  pub held-there : (runs : List Retimed) (state : Run Rounds F) → AreRoundsFollowed has_come options c runs state → HeldInOrder (kept_by options c) c state.keep state.retimed.circuit
  held-there runs state is =
      let r : Rounds = state.retimed in
      runs-in-order options.merge (bound_in options c) options.choice c (holding_in options) options.max_frames options.certify (circuit-read runs state is) runs r.circuit r.kept_free state.keep is.is.after

  -- the follower has come there
  pub come-there : (runs : List Retimed) (state : Run Rounds F) → AreRoundsFollowed has_come options c runs state → HasComeFrom has_come state.follower c state.retimed.kept_free state.retimed.circuit
  come-there runs state is = record { places = is.is.streams.places.each; come = is.come }

  -- the options of a further round hold the latches that are held there
  pub held-again : (runs : List Retimed) (state : Run Rounds F) (left : ℕ) (asked : Options) → AreRoundsFollowed has_come options c runs state → AreRoundOptions options state.bound state.keep left asked
      → state.keep ≡ kept_by asked state.retimed.circuit
  held-again runs state left asked is are =
      let d : Netlist = state.retimed.circuit in
      let there : HeldInOrder (kept_by options c) c state.keep d = held-there runs state is in
      sym (ap (λ (h : Holding). held_of h d) are.holding ∙ held_of-own state.keep d there.rising there.stand.in_range)

  -- and their bound is the bound of the rounds
  bound-again : (runs : List Retimed) (state : Run Rounds F) (left : ℕ) (asked : Options) → AreRoundsFollowed has_come options c runs state → AreRoundOptions options state.bound state.keep left asked
      → bound_in asked state.retimed.circuit ≡ bound_in options c
  bound-again runs state left asked is are =
      let d : Netlist = state.retimed.circuit in
      ap (λ (named : Option ℕ). option_map (λ (n : ℕ). max n (levels d)) named) are.bound_is ∙ fits (levels_named options.bound) state.bound c d is.bound_is is.levels ∙ is.bound_is

  -- what a further round makes of the circuit
  run-asked : (runs : List Retimed) (state : Run Rounds F) (left : ℕ) (asked : Options) (run : Retimed) (later : List ℕ) → AreRoundsFollowed has_come options c runs state
      → AreRoundOptions options state.bound state.keep left asked → IsRetimedHeld asked state.retimed.circuit run later
      → IsRetimedTo true (bound_in options c) options.choice state.retimed.circuit (at_positions state.keep) left options.certify run later
  run-asked runs state left asked run later is are made =
      let d : Netlist = state.retimed.circuit in
      let now : List ℕ = state.keep in
      let P : Bool → Option ℕ → Choice → Holding → ℕ → Bool → Type 0 = λ merge b choice holding frames certify. IsRetimedTo merge b choice d holding frames certify run later in
      let merged : P true (bound_in asked d) asked.choice (holding_in asked) asked.max_frames asked.certify =
      subst (λ (merge : Bool). P merge (bound_in asked d) asked.choice (holding_in asked) asked.max_frames asked.certify) are.merges (held-to asked d run later made) in
      let bounded : P true (bound_in options c) asked.choice (holding_in asked) asked.max_frames asked.certify =
      subst (λ (b : Option ℕ). P true b asked.choice (holding_in asked) asked.max_frames asked.certify) (bound-again runs state left asked is are) merged in
      let chosen : P true (bound_in options c) options.choice (holding_in asked) asked.max_frames asked.certify =
      subst (λ (choice : Choice). P true (bound_in options c) choice (holding_in asked) asked.max_frames asked.certify) are.choice bounded in
      let holds : P true (bound_in options c) options.choice (at_positions now) asked.max_frames asked.certify =
      subst (λ (holding : Holding). P true (bound_in options c) options.choice holding asked.max_frames asked.certify) are.holding chosen in
      subst (λ (certify : Bool). P true (bound_in options c) options.choice (at_positions now) left certify) are.certify
      (subst (λ (frames : ℕ). P true (bound_in options c) options.choice (at_positions now) frames asked.certify) are.frames holds)

  -- a first run is a first round
  pub first-followed : (run : Run Retimed F) (r : Rounds) → IsFirstRun has_come options c run → r.circuit ≡ run.retimed.circuit → r.kept_free ≡ run.retimed.kept_free → r.read_latches ≡ run.retimed.read_latches
      → r.frames ≡ run.retimed.frames → r.parts ≡ part_of run.retimed ∷ []
      → AreRoundsFollowed has_come options c (run.retimed ∷ []) (record { retimed = r; keep = run.keep; follower = run.follower; bound = run.bound })
  first-followed run r first circuit kept latches frames parts =
      let followed = first.followed in
      let now : List ℕ = run.keep in
      let one : Retimed = run.retimed in
      let valid : IsCircuit c = record { graph = first.graph; netlist = first.netlist } in
      let made = held-to options c one now followed.held in
      let is : IsInRounds options c (one ∷ []) r now =
      one-round options.merge (bound_in options c) options.choice c (holding_in options) options.max_frames options.certify one r now valid made circuit kept latches frames parts in
      let streams = run-streams options.merge (bound_in options c) options.choice c (holding_in options) options.max_frames options.certify one now made in
      let P : Netlist → List ℕ → Type 0 = λ d places. has_come run.follower c d places in
      let come : P one.circuit one.kept_free = subst (P one.circuit) (composed-all (free_latches c.aig) one.kept_free streams.places.below) followed.come in
      let kept_levels : KeepsLevels (bound_in options c) c r.circuit =
      runs-levels options.merge (bound_in options c) options.choice c (holding_in options) options.max_frames options.certify valid (one ∷ []) r.circuit r.kept_free now is.after in
      record {
        graph = valid.graph;
        netlist = valid.netlist;
        bound_is = first.bound_is;
        is = is;
        given = λ merges lines some.
            ap (λ (xs : List CertPart). map (λ (part : CertPart). part.merged) xs) parts ∙ ap (λ (m : Option (List MergedLatch)). m ∷ []) (followed.held.given merges lines some);
        levels = subst (λ (b : Option ℕ). KeepsLevels b c r.circuit) (sym first.bound_is) kept_levels;
        come = subst (λ (d : Netlist). P d r.kept_free) (sym circuit) (subst (P one.circuit) (sym kept) come);
      }

  -- a further run is a further round
  pub next-followed : (runs : List Retimed) (state next : Run Rounds F) (asked : Options) (report : Report) (run : Retimed) → AreRoundsFollowed has_come options c runs state → Guesses options → MergesSome run
      → AreRoundOptions options state.bound state.keep (options.max_frames - length state.retimed.frames) asked → next.bound ≡ bound_in asked state.retimed.circuit
      → IsRetimedFollowed has_come asked c state.retimed.kept_free state.retimed.circuit run next.keep next.follower → IsReportOf state.retimed report → IsJoined report run next.retimed
      → AreRoundsFollowed has_come options c (runs ++ run ∷ []) next
  next-followed runs state next asked report run so_far guesses some are bounded followed of is_joined =
      let r : Rounds = state.retimed in
      let s : Rounds = next.retimed in
      let later : List ℕ = next.keep in
      let valid : IsCircuit c = circuit-read runs state so_far in
      let left : ℕ = options.max_frames - length r.frames in
      let same : next.bound ≡ bound_in options c = bounded ∙ bound-again runs state left asked so_far are in
      let one = run-asked runs state left asked run later so_far are followed.held in
      let kept_is = is_joined.kept_free ∙ ap (λ (places : List ℕ). composed places run.kept_free) of.kept_free in
      let is : IsInRounds options c (runs ++ run ∷ []) s later =
      next-round options.merge (bound_in options c) options.choice c (holding_in options) options.max_frames options.certify runs r s state.keep later run valid so_far.is guesses.merges some one is_joined.circuit kept_is
      (is_joined.read_latches ∙ of.read_latches) (is_joined.frames ∙ ap (λ (xs : List FrameReport). xs ++ run.frames) of.frames)
      (is_joined.parts ∙ ap (λ (xs : List CertPart). xs ++ part_of run ∷ []) of.parts) in
      let P : Netlist → List ℕ → Type 0 = λ d places. has_come next.follower c d places in
      let kept_levels : KeepsLevels (bound_in options c) c s.circuit =
      runs-levels options.merge (bound_in options c) options.choice c (holding_in options) options.max_frames options.certify valid (runs ++ run ∷ []) s.circuit s.kept_free later is.after in
      record {
        graph = so_far.graph;
        netlist = so_far.netlist;
        bound_is = same;
        is = is;
        given = λ merges lines given. absurd (none-given options.classes lines guesses.none_given given);
        levels = subst (λ (b : Option ℕ). KeepsLevels b c s.circuit) (sym same) kept_levels;
        come = subst (λ (d : Netlist). P d s.kept_free) (sym is_joined.circuit) (subst (P run.circuit) (sym kept_is) followed.come);
      }
