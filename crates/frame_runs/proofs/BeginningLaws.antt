-- What frames start from, and what comes of it.
use Rattle.std.proofs.Common.{ℕ, ◌≡◌, ◌<◌, ◌∙◌, true, false, ap, arith, get_or, List, Option, Some, None, length, refl, sym, subst}
use Rattle.std.specs.List.{All}
use Rattle.std.proofs.lemmas.List.{length-map}
use Rattle.aig_graph.specs.Circuits.{Netlist}
use Rattle.aig_graph.specs.Graph.{free_latches}
use Rattle.aig_graph.specs.Laws.{composed}
use Rattle.aig_graph.specs.Streams.{SameStreams}
use Rattle.aig_graph.proofs.PositionLaws.{held_of-names}
use Rattle.clean.proofs.CleaningLaws.{composed-then}
use Rattle.cleaned_circuits.proofs.PassLaws.{IsCircuit}
use Rattle.latch_merging.specs.declared.start.MergedStart.{MergedStart}
use Rattle.retimed_circuits.specs.declared.report.Retimed.{Retimed}
use Rattle.retimed_circuits.specs.Frames.{AfterFrames}
use Rattle.retimed_circuits.specs.Merging.{MergesIn}
use Rattle.retimed_circuits.specs.Names.{Covers, StayHeld}
use Rattle.retimed_circuits.specs.Retiming.{since_merged}
use Rattle.frame_runs.specs.declared.options.Options.{Options}
use Rattle.frame_runs.specs.declared.run.Run.{Run}
use Rattle.chosen_cuts.specs.declared.records.Records.{Records}
use Rattle.frame_runs.specs.Beginning.{IsRunBegun, IsCleanedRun, IsMergedFrom, StartsFrom, read_before}
use Rattle.frame_runs.specs.Bounds.{bound_in}
use Rattle.frame_runs.specs.Following.{ComesOn, EndsFollowed, HasComeFrom, IsFollowed, IsReady, IsRetimedFollowed}
use Rattle.frame_runs.specs.Merging.{AreGivenLines, IsRunStart, ReadCircuit, reported_of_read}
use Rattle.frame_runs.specs.Named.{holding_in, kept_by, names_in}
use Rattle.frame_runs.specs.Retiming.{IsRetimedHeld, KeepsStreamsAndHeld}
use Rattle.frame_runs.specs.Underway.{IsReportedOf}
use Rattle.frame_runs.proofs.FrameLaws.{ended, reported_as_is, with_certificates}
use Rattle.frame_runs.proofs.MergedLaws.{as-it-is, merged-retimed}

-- a circuit that is cleaned alone
pub plain-begun : {F : Type 0} (has_come : F → Netlist → Netlist → List ℕ → Type 0) (options : Options) (bound : Option ℕ) (b : Netlist) (before : List ℕ) (c : Netlist) (held : List ℕ) (old : F) (run : Run Retimed F)
    → IsCircuit c → options.merge ≡ false → held ≡ kept_by options c → bound ≡ bound_in options c → run.bound ≡ bound → HasComeFrom has_come old b before c
    → IsCleanedRun has_come options bound c held old run.follower run.retimed run.keep → IsRunBegun has_come options b before c run
plain-begun has_come options bound b before c held old run valid unasked keep right same there cleaned =
    let here = subst (λ (js : List ℕ). IsCleanedRun has_come options bound c js old run.follower run.retimed run.keep) keep cleaned in
    let is = subst (λ (x : Option ℕ). IsCleanedRun has_come options x c (kept_by options c) old run.follower run.retimed run.keep) (sym same) here in
    record {
      names = held_of-names (holding_in options) c valid.netlist;
      bound_is = same ∙ right;
      places = there.places;
      read = None;
      starts = record { unasked = unasked; followed = record { underway = is.underway; come = is.comes b before there.places there.come } };
    }

-- the places of the free latches of a merged circuit that is cleaned are among its own
pub merged-below : {F : Type 0} (has_come : F → Netlist → Netlist → List ℕ → Type 0) (options : Options) (bound : Option ℕ) (m : MergedStart) (old : F) (run : Run Retimed F) → length m.kept_free ≡ free_latches m.circuit.aig
    → IsCleanedRun has_come options bound m.circuit m.keep old run.follower run.retimed run.keep → All (λ place. place < length m.kept_free) run.retimed.kept_free
merged-below has_come options bound m old run places is =
    let below : All (λ place. place < length m.kept_free) is.underway.kept = λ k a h. omega (arith, is.underway.keeps.streams.places.below k a h, places) in
    subst (λ (kept : List ℕ). All (λ place. place < length m.kept_free) kept) (sym is.underway.reported.0) below

-- a merged circuit that is cleaned, reported of the circuit that was merged
pub merged-reported : {F : Type 0} (has_come : F → Netlist → Netlist → List ℕ → Type 0) (options : Options) (bound : Option ℕ) (m : MergedStart) (latches : ℕ) (old : F) (run end : Run Retimed F)
    → IsCleanedRun has_come options bound m.circuit m.keep old run.follower run.retimed run.keep → run.bound ≡ bound → end.retimed ≡ since_merged latches m.kept_free m.merged run.retimed → end.keep ≡ run.keep
    → end.follower ≡ run.follower → end.bound ≡ run.bound → IsMergedFrom has_come options m latches old end × (end.bound ≡ bound)
merged-reported {F = F} has_come options bound m latches old run end is right reported stand same equal =
    let kept : List ℕ = is.underway.kept in
    let c : Netlist = m.circuit in
    let held : List ℕ = m.keep in
    let read : ReadCircuit = read_before m latches in
    let r : Retimed = run.retimed in
    let P : Option ℕ → Retimed → List ℕ → F → Type 0 = λ b x now f. IsReportedOf (Some read) c kept x × AfterFrames b options.choice held c 0 x.circuit kept now x.frames × KeepsStreamsAndHeld held c x.circuit kept now
    × ComesOn has_come old f c x.circuit kept in
    let comes : ComesOn has_come old run.follower c r.circuit kept = subst (λ (js : List ℕ). ComesOn has_come old run.follower c r.circuit js) is.underway.reported.0 is.comes in
    let whole : Retimed = since_merged latches m.kept_free m.merged r in
    let first : P bound whole run.keep run.follower = ((ap (composed m.kept_free) is.underway.reported.0, refl, refl), is.underway.frames, is.underway.keeps, comes) in
    let bounds : end.bound ≡ bound = equal ∙ right in
    let all = subst (λ (b : Option ℕ). P b end.retimed end.keep end.follower) (sym bounds) (subst (λ (x : Retimed). P bound x end.keep end.follower) (sym reported)
    (subst (λ (js : List ℕ). P bound whole js end.follower) (sym stand) (subst (λ f. P bound whole run.keep f) (sym same) first))) in
    (record { underway = record { kept = kept; reported = all.0; frames = all.1; keeps = all.2 }; comes = all.3 }, bounds)

-- what a merged circuit is cleaned to is what the circuit that was read is cleaned, merged and
-- cleaned to
pub merged-begun : {F : Type 0} (has_come : F → Netlist → Netlist → List ℕ → Type 0) (options : Options) (bound : Option ℕ) (b : Netlist) (before : List ℕ) (c : Netlist) (held : List ℕ) (old mid : F)
    (m : MergedStart) (run : Run Retimed F) → IsCircuit c → options.merge ≡ true → held ≡ kept_by options c → bound ≡ bound_in options c → run.bound ≡ bound
    → HasComeFrom has_come old b before c → MergesIn held c m.circuit m.kept_free m.keep m.merged → SameStreams c m.circuit m.kept_free → StayHeld held c m.keep m.circuit → AreGivenLines options m.merged
    → ComesOn has_come old mid c m.circuit m.kept_free → IsMergedFrom has_come options m (length c.aig.latches) mid run → IsRunBegun has_come options b before c run
merged-begun has_come options bound b before c held old mid m run valid asked keep right same there so streams stand given comes from =
    let M : List ℕ → Type 0 = λ js. MergesIn js c m.circuit m.kept_free m.keep m.merged × StayHeld js c m.keep m.circuit in
    let both = subst M keep (so, stand) in
    let kept : List ℕ = from.underway.kept in
    let more : List ℕ = composed before m.kept_free in
    let many : length more ≡ length m.kept_free = length-map m.kept_free (λ (place : ℕ). get_or before place 0) in
    let reported : ReadCircuit = read_before m (length c.aig.latches) in
    let is : IsRunStart options c m.circuit m.keep reported =
    record { latches = refl; merges = both.0; streams = streams; stays = both.1; given = given } in
    let below : All (λ place. place < length m.kept_free) kept = λ k a h. omega (arith, from.underway.keeps.streams.places.below k a h, streams.places.each) in
    let come : has_come run.follower b run.retimed.circuit (composed more kept) = from.comes b more (many ∙ streams.places.each) (comes b before there.places there.come) in
    let places : composed more kept ≡ composed before run.retimed.kept_free = sym (composed-then before m.kept_free kept below) ∙ ap (composed before) (sym from.underway.reported.0) in
    record {
      names = held_of-names (holding_in options) c valid.netlist;
      bound_is = same ∙ right;
      places = there.places;
      read = Some reported;
      starts = record { asked = asked; start = m.circuit; held = m.keep; is = is; followed = record { underway = from.underway; come = subst (has_come run.follower b run.retimed.circuit) places come } };
    }

ready-from : {F : Type 0} (has_come : F → Netlist → Netlist → List ℕ → Type 0) (options : Options) (b : Netlist) (before : List ℕ) (c : Netlist) (read : Option ReadCircuit) (run : Run Retimed F) → StartsFrom has_come options b before c read run → IsReady has_come options b run
ready-from has_come options b before c None run is = record { start = c; read = None; held = kept_by options c; before = before; followed = is.followed }
ready-from has_come options b before c (Some read) run is = record { start = is.start; read = Some read; held = is.held; before = before; followed = is.followed }

-- what was begun is ready for frames
pub begun-ready : {F : Type 0} (has_come : F → Netlist → Netlist → List ℕ → Type 0) (options : Options) (b : Netlist) (before : List ℕ) (c : Netlist) (run : Run Retimed F) → IsRunBegun has_come options b before c run → IsReady has_come options b run
begun-ready has_come options b before c run is = ready-from has_come options b before c is.read run is.starts

-- the frames of what was begun, taken to their end
abbrev pub Ends : {F : Type 0} → (F → Netlist → Netlist → List ℕ → Type 0) → Options → Netlist → Run Retimed F → Records → Run Retimed F → Type 0
Ends has_come options b run records end =
    (d : Netlist) (read : Option ReadCircuit) (held before : List ℕ) → IsFollowed has_come options b d read held before 0 run → EndsFollowed has_come options b d read held before records end

finished-from : {F : Type 0} (has_come : F → Netlist → Netlist → List ℕ → Type 0) (options : Options) (b : Netlist) (before : List ℕ) (c : Netlist) (read : Option ReadCircuit) (run end : Run Retimed F) (records : Records) → Covers (names_in options) (kept_by options c) c
    → end.bound ≡ bound_in options c → Ends has_come options b run records end → StartsFrom has_come options b before c read run
    → IsRetimedFollowed has_come options b before c (with_certificates end.retimed records) end.keep end.follower
finished-from has_come options b before c None run end records names right ends is =
    let last = ends c None (kept_by options c) before is.followed in
    let done = ended options end.bound c None (kept_by options c) records end.retimed end.keep last.run in
    let r : Retimed = end.retimed in
    let reported = last.run.underway.reported in
    let s : Retimed = reported_as_is c last.run.underway.kept r records in
    let same : with_certificates r records ≡ s = λ i. record { circuit = r.circuit; kept_free = reported.0 i; read_latches = reported.1 i; merged = reported.2 i; frames = r.frames; certificates = records.certificates.items } in
    record {
      held = subst (λ (x : Retimed). IsRetimedHeld options c x end.keep) (sym same) (as-it-is options end.bound c s end.keep names is.unasked right done.0 done.1 last.run.underway.keeps.stays);
      come = last.come;
    }
finished-from has_come options b before c (Some read) run end records names right ends is =
    let last = ends is.start (Some read) is.held before is.followed in
    let done = ended options end.bound is.start (Some read) is.held records end.retimed end.keep last.run in
    let r : Retimed = end.retimed in
    let reported = last.run.underway.reported in
    let s : Retimed = reported_as_is is.start last.run.underway.kept r records in
    let same : with_certificates r records ≡ reported_of_read read s = λ i. record { circuit = r.circuit; kept_free = reported.0 i; read_latches = reported.1 i; merged = reported.2 i; frames = r.frames; certificates = records.certificates.items } in
    record {
      held = merged-retimed options end.bound c is.start is.held read (with_certificates r records) s end.keep names is.asked right is.is done.0 done.1 last.run.underway.keeps.stays same;
      come = last.come;
    }

-- what it is retimed to is what is asked for
pub finished : {F : Type 0} (has_come : F → Netlist → Netlist → List ℕ → Type 0) (options : Options) (b : Netlist) (before : List ℕ) (c : Netlist) (run end : Run Retimed F) (records : Records) → end.bound ≡ run.bound → Ends has_come options b run records end
    → IsRunBegun has_come options b before c run → IsRetimedFollowed has_come options b before c (with_certificates end.retimed records) end.keep end.follower
finished has_come options b before c run end records same ends is = finished-from has_come options b before c is.read run end records is.names (same ∙ is.bound_is) ends is.starts

merged-from : {F : Type 0} (has_come : F → Netlist → Netlist → List ℕ → Type 0) (options : Options) (b : Netlist) (before : List ℕ) (c : Netlist) (read : Option ReadCircuit) (run end : Run Retimed F) (records : Records) → Ends has_come options b run records end
    → StartsFrom has_come options b before c read run → end.retimed.merged ≡ run.retimed.merged
merged-from has_come options b before c None run end records ends is = (ends c None (kept_by options c) before is.followed).run.underway.reported.2 ∙ sym is.followed.underway.reported.2
merged-from has_come options b before c (Some read) run end records ends is = (ends is.start (Some read) is.held before is.followed).run.underway.reported.2 ∙ sym is.followed.underway.reported.2

-- and the same latches were merged
pub merged-same : {F : Type 0} (has_come : F → Netlist → Netlist → List ℕ → Type 0) (options : Options) (b : Netlist) (before : List ℕ) (c : Netlist) (run end : Run Retimed F) (records : Records) → Ends has_come options b run records end → IsRunBegun has_come options b before c run
    → end.retimed.merged ≡ run.retimed.merged
merged-same has_come options b before c run end records ends is = merged-from has_come options b before c is.read run end records ends is.starts
