-- What the frames of a run rest on.
use Rattle.std.proofs.Common.{ℕ, ◌≡◌, ◌<◌, ◌≤◌, ◌++◌, suc, refl, List, [], ◌∷◌, length, get_or, arith, ap, sym, ◌∙◌, subst, Result, Ok, Err, Option, Some, None}
use Rattle.std.specs.Result.{IfOk}
use Rattle.std.specs.List.{All}
use Rattle.std.proofs.lemmas.List.{length-map}
use Rattle.std.proofs.lemmas.List.FromFn.{length-range_with_len}
use Rattle.aig_graph.specs.declared.literal.TheConstants.{MAX_VARIABLES}
use Rattle.aig_graph.specs.declared.memory.NoMemory.{NoMemory}
use Rattle.aig_graph.specs.Graph.{Graph, IsGraph, variables_end, free_latches}
use Rattle.aig_graph.specs.Circuits.{Netlist, IsNetlist}
use Rattle.aig_graph.specs.Closed.{IsClosedSet}
use Rattle.aig_graph.specs.Laws.{all_free, composed}
use Rattle.aig_graph.specs.Move.{move_of}
use Rattle.aig_graph.specs.Streams.{SameStreams}
use Rattle.aig_graph.proofs.StreamLaws.{same_streams-reflexive, same_streams-transitive}
use Rattle.certificates.specs.declared.certificate.Certificate.{Certificate}
use Rattle.chosen_cuts.specs.declared.records.Records.{Records}
use Rattle.clean.specs.declared.cleaning.Cleaned.{Cleaned}
use Rattle.clean.proofs.CleaningLaws.{composed-all, composed-then}
use Rattle.cleaned_circuits.proofs.HeldLaws.{held_after-in_range}
use Rattle.cleaned_circuits.proofs.PassLaws.{IsCircuit}
use Rattle.aig_graph.specs.Counting.{places}
use Rattle.aig_graph.specs.Marking.{has}
use Rattle.aig_graph.proofs.MemberLaws.{places-members}
use Rattle.aig_graph.proofs.PlacesLaws.{length-places, count-bound}
use Rattle.rebuild.specs.Moved.{moved_of}
use Rattle.rebuild.proofs.MovedLaws.{members-below}
use Rattle.retimed_circuits.specs.declared.report.FrameReport.{FrameReport}
use Rattle.retimed_circuits.specs.declared.report.Retimed.{Retimed}
use Rattle.retimed_circuits.specs.Names.{StayHeld}
use Rattle.retimed_circuits.specs.Frames.{AfterFrames, CleansTo, cleaned, frame, held_over, moved_over}
use Rattle.retimed_circuits.proofs.HeldLaws.{cleaning-keeps, moving-keeps}
use Rattle.retimed_circuits.proofs.RunLaws.{after-length}
use Rattle.retimed_circuits.proofs.StayLaws.{stays-same, stays-then}
use Rattle.clean.specs.Normalised.{IsNormalised}
use Rattle.clean.proofs.FrameLaws.{cleans-normalised, normalised-cleaned}
use Rattle.frame_runs.specs.declared.frame.Frame.{Frame}
use Rattle.frame_runs.specs.declared.options.Options.{Options}
use Rattle.frame_runs.specs.Found.{IsAfterMove, Moves}
use Rattle.frame_runs.specs.Retiming.{IsCleanedBy, IsMovedBy, IsRetimedAsIs, KeepsStreamsAndHeld}
use Rattle.frame_runs.specs.Merging.{ReadCircuit}
use Rattle.frame_runs.specs.Underway.{IsReportedOf, IsUnderway, IsWholeRun}
use Rattle.frame_runs.proofs.CertificateLaws.{certified}

-- a moved circuit is the circuit after the move, with its streams
pub after-moving : (c : Netlist) (held s : List ℕ) (r : Result Netlist NoMemory) → IfOk r (λ d. d ≡ moved_of (move_of c held s)) → IfOk r (λ d. SameStreams c d (all_free c.aig))
    → IfOk r (IsAfterMove c held s)
after-moving c held s (Ok d) value streams = record { value = value; streams = streams }
after-moving c held s (Err e) value streams = tt

-- a closed set has no more members than the graph has variables
pub closed-length : (g : Graph) (held s : List ℕ) → IsGraph g → IsClosedSet g held s → length s ≤ MAX_VARIABLES
closed-length g held s valid set =
    let same : places (has s) (variables_end g) ≡ s = places-members s (variables_end g) set.rising (members-below g held s set) in
    let long : length (places (has s) (variables_end g)) ≡ length s = ap (λ (xs : List ℕ). length xs) same in
    omega (arith, long, length-places (has s) (variables_end g), count-bound (has s) (variables_end g), valid.small)

-- every free latch stays, and then some of them
pub streams-through : (c d e : Netlist) (kept : List ℕ) → SameStreams c d (all_free c.aig) → SameStreams d e kept → SameStreams c e kept
streams-through c d e kept first second =
    let free : ℕ = free_latches c.aig in
    let below : All (λ place. place < free) kept = λ k a h.
    let here : get_or kept k a < free_latches d.aig = second.places.below k a h in
    omega (arith, here, first.places.each, length-range_with_len 0 free) in
    subst (λ (places : List ℕ). SameStreams c e places) (composed-all free kept below) (same_streams-transitive c d e (all_free c.aig) kept first second)

-- cleaning keeps the held latches, and leaves nothing to clean
cleaned-keeps : (held : List ℕ) (c d : Netlist) (left now : List ℕ) → IsCircuit c → All (λ j. j < length c.aig.latches) held → CleansTo held c d left now → SameStreams c d left → KeepsStreamsAndHeld held c d left now
cleaned-keeps held c d left now valid in_range cleans streams = record {
  streams = streams;
  stays = cleaning-keeps held c d left now valid in_range cleans;
  in_range = held_after-in_range d now held c cleans.held_after in_range;
  normalised = cleans-normalised d now held c cleans.held_after valid in_range;
}

-- a result of cleaning
pub cleaned-by : (held : List ℕ) (c : Netlist) (d : Cleaned) → IsCircuit c → All (λ j. j < length c.aig.latches) held → CleansTo held c d.circuit d.kept_free d.keep
    → SameStreams c d.circuit d.kept_free → IsCleanedBy held c d
cleaned-by held c d valid in_range cleans streams = record { cleaned = cleans; keeps = cleaned-keeps held c d.circuit d.kept_free d.keep valid in_range cleans streams }

-- a normalised circuit is its own cleaning, and so is a result that is that circuit with all its
-- free latches and held ones
pub own-cleaned : (held : List ℕ) (c : Netlist) (d : Cleaned) → d.circuit ≡ c → d.keep ≡ held → d.kept_free ≡ all_free c.aig → IsCircuit c → All (λ j. j < length c.aig.latches) held
    → IsNormalised held c → IsCleanedBy held c d
own-cleaned held c d circuit keep free valid in_range normalised =
    let P : Netlist → List ℕ → List ℕ → Type 0 = λ e js now. CleansTo held c e js now × KeepsStreamsAndHeld held c e js now in
    let already = normalised-cleaned held c valid in_range normalised in
    let own : P c (all_free c.aig) held = (
      record { cleans = already.cleans; held_after = already.held_after },
      record { streams = same_streams-reflexive c; stays = stays-same held held c c refl refl; in_range = in_range; normalised = normalised },
    ) in
    let both = subst (λ (e : Netlist). P e d.kept_free d.keep) (sym circuit) (subst (λ (js : List ℕ). P c js d.keep) (sym free) (subst (P c (all_free c.aig)) (sym keep) own)) in
    record { cleaned = both.0; keeps = both.1 }

-- a moved circuit, cleaned
pub moved-by : (held : List ℕ) (c after : Netlist) (set there : List ℕ) (d : Cleaned) → IsNetlist c → All (λ j. j < length c.aig.latches) held → after ≡ moved_over held c set → there ≡ held_over held c set
    → SameStreams c after (all_free c.aig) → IsCleanedBy there after d → IsMovedBy held c set d
moved-by held c after set there d netlist in_range same stand streams is =
    let C : List ℕ → Netlist → Type 0 = λ js e. CleansTo js e d.circuit d.kept_free d.keep × StayHeld js e d.keep d.circuit in
    let both : C (held_over held c set) (moved_over held c set) =
    subst (λ (e : Netlist). C (held_over held c set) e) same (subst (λ (js : List ℕ). C js after) stand (is.cleaned, is.keeps.stays)) in
    record {
      cleaned = both.0;
      keeps = record {
        streams = streams-through c after d.circuit d.kept_free streams is.keeps.streams;
        stays = stays-then held (held_over held c set) d.keep c (moved_over held c set) d.circuit (moving-keeps held c set netlist in_range) both.1;
        in_range = is.keeps.in_range;
        normalised = is.keeps.normalised;
      };
    }

-- a cleaned circuit is what no frame makes
pub underway-first : (options : Options) (bound : Option ℕ) (c : Netlist) (held : List ℕ) (d : Cleaned) (r : Retimed) (now : List ℕ) → IsCleanedBy held c d
    → r.circuit ≡ d.circuit → r.kept_free ≡ d.kept_free → now ≡ d.keep → r.read_latches ≡ length c.aig.latches → r.merged ≡ None → r.frames ≡ [] → IsUnderway options bound c None held 0 r now
underway-first options bound c held d r now is circuit free keep latches unmerged none =
    let s : Retimed = record { circuit = d.circuit; kept_free = d.kept_free; read_latches = length c.aig.latches; merged = None; frames = []; certificates = r.certificates } in
    let same : r ≡ s = λ i. record { circuit = circuit i; kept_free = free i; read_latches = latches i; merged = unmerged i; frames = none i; certificates = r.certificates } in
    let first : IsUnderway options bound c None held 0 s d.keep = record { kept = d.kept_free; reported = (refl, refl, refl); frames = cleaned d.circuit d.kept_free d.keep is.cleaned; keeps = is.keeps } in
    subst (λ (x : Retimed). IsUnderway options bound c None held 0 x now) (sym same) (subst (IsUnderway options bound c None held 0 s) (sym keep) first)

-- as many places are reported as the run's circuit has free latches
pub many-reported : (options : Options) (bound : Option ℕ) (c : Netlist) (read : Option ReadCircuit) (held : List ℕ) (n : ℕ) (r : Retimed) (now : List ℕ) → IsUnderway options bound c read held n r now
    → length r.kept_free ≡ free_latches r.circuit.aig
many-reported options bound c None held n r now is = ap (λ (xs : List ℕ). length xs) is.reported.0 ∙ is.keeps.streams.places.each
many-reported options bound c (Some read) held n r now is =
    ap (λ (xs : List ℕ). length xs) is.reported.0 ∙ length-map is.kept (λ (place : ℕ). get_or read.kept_free place 0) ∙ is.keeps.streams.places.each

-- what is reported stays so as a frame keeps these free latches
reported-more : (read : Option ReadCircuit) (c : Netlist) (kept left : List ℕ) (r : Retimed) (after : Netlist) (frames : List FrameReport) (certs : List Certificate) → All (λ place. place < length kept) left
    → IsReportedOf read c kept r
    → IsReportedOf read c (composed kept left) (record { circuit = after; kept_free = composed r.kept_free left; read_latches = r.read_latches; merged = r.merged; frames = frames; certificates = certs })
reported-more None c kept left r after frames certs below is = (ap (λ (xs : List ℕ). composed xs left) is.0, is.1, is.2)
reported-more (Some read) c kept left r after frames certs below is = (ap (λ (xs : List ℕ). composed xs left) is.0 ∙ sym (composed-then read.kept_free kept left below), is.1, is.2)

-- whatever certificates the next state has
pub one-more : (options : Options) (bound : Option ℕ) (c : Netlist) (read : Option ReadCircuit) (held : List ℕ) (n : ℕ) (r : Retimed) (now : List ℕ) (taken : Frame) (certs : List Certificate)
    → IsUnderway options bound c read held n r now → Moves options bound now r.circuit taken → IsUnderway options bound c read held (suc n)
    (record { circuit = taken.cleaned.circuit; kept_free = composed r.kept_free taken.cleaned.kept_free; read_latches = r.read_latches; merged = r.merged; frames = r.frames ++ taken.report ∷ []; certificates = certs })
    taken.cleaned.keep
one-more options bound c read held n r now taken certs before moves = record {
  kept = composed before.kept taken.cleaned.kept_free;
  reported = reported-more read c before.kept taken.cleaned.kept_free r taken.cleaned.circuit (r.frames ++ taken.report ∷ []) certs
      (λ k a h. omega (arith, moves.keeps.streams.places.below k a h, before.keeps.streams.places.each)) before.reported;
  frames = frame n r.circuit taken.cleaned.circuit before.kept taken.cleaned.kept_free now taken.cleaned.keep r.frames taken.report before.frames moves.moves;
  keeps = record {
    streams = same_streams-transitive c r.circuit taken.cleaned.circuit before.kept taken.cleaned.kept_free before.keeps.streams moves.keeps.streams;
    stays = stays-then held now taken.cleaned.keep c r.circuit taken.cleaned.circuit before.keeps.stays moves.keeps.stays;
    in_range = moves.keeps.in_range;
    normalised = moves.keeps.normalised;
  };
}

-- a run that ended, with the certificates that were collected
abbrev pub with_certificates : Retimed → Records → Retimed
with_certificates r records =
    record { circuit = r.circuit; kept_free = r.kept_free; read_latches = r.read_latches; merged = r.merged; frames = r.frames; certificates = records.certificates.items }

-- the same, reported of the circuit c that its frames began with
abbrev pub reported_as_is : Netlist → List ℕ → Retimed → Records → Retimed
reported_as_is c kept r records =
    record { circuit = r.circuit; kept_free = kept; read_latches = length c.aig.latches; merged = None; frames = r.frames; certificates = records.certificates.items }

-- a run ends at the limit of frames, or if none counts less; it has the certificates that were
-- collected
pub ended : (options : Options) (bound : Option ℕ) (c : Netlist) (read : Option ReadCircuit) (held : List ℕ) (records : Records) (r : Retimed) (now : List ℕ)
    → (run : IsWholeRun options bound c read held records r now) → (is : IsRetimedAsIs options bound c held (reported_as_is c run.underway.kept r records)) × (now ≡ is.now)
ended options bound c read held records r now run =
    let kept : List ℕ = run.underway.kept in
    let s : Retimed = reported_as_is c kept r records in
    let choice = options.choice in
    let taken : AfterFrames bound choice held c run.taken r.circuit kept now r.frames = run.underway.frames in
    let long : length r.frames ≡ run.taken = after-length bound choice held c run.taken r.circuit kept now r.frames taken in (
      record {
        now = now;
        frames = subst (λ (m : ℕ). AfterFrames bound choice held c m r.circuit kept now r.frames) (sym long) taken;
        within = omega (arith, long, run.within);
        last = λ less. run.last (omega (arith, long, less));
        read_latches = refl;
        none_merged = refl;
        streams = run.underway.keeps.streams;
        certified = certified options bound c held run.looked s now records run.collected refl run.taken taken
            (λ limit. run.limited (sym long ∙ limit) ∙ sym long) (λ less. run.ended (omega (arith, long, less)) ∙ ap suc (sym long));
        stay = run.underway.keeps.stays.stay;
      },
      refl,
    )
