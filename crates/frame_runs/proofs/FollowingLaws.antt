-- What follows a frame follows the frame's move and its cleaning.
use Rattle.std.proofs.Common.{ℕ, List, ◌≡◌, ◌∙◌, ◌++◌, ◌∷◌, ◌<◌, [], Option, None, Some, Result, Ok, Err, ap, arith, get_or, length, suc, sym, subst, zero-add}
use Rattle.std.specs.Result.{IfOk}
use Rattle.std.specs.List.{All, range_with_len}
use Rattle.std.proofs.lemmas.List.{length-map}
use Rattle.std.proofs.lemmas.List.FromFn.{length-range_with_len}
use Rattle.aig_graph.specs.Circuits.{IsNetlist, Netlist}
use Rattle.aig_graph.specs.Graph.{free_latches}
use Rattle.aig_graph.specs.Laws.{all_free, composed}
use Rattle.aig_graph.specs.Streams.{SameStreams}
use Rattle.clean.specs.declared.cleaning.Cleaned.{Cleaned}
use Rattle.clean.proofs.CleaningLaws.{composed-then}
use Rattle.cleaned_circuits.specs.Cleaned.{Cleans}
use Rattle.cleaned_circuits.specs.Held.{HeldAfter}
use Rattle.cleaned_circuits.proofs.PassLaws.{IsCircuit, cleans-streams}
use Rattle.retimed_circuits.specs.declared.report.FrameReport.{FrameReport}
use Rattle.retimed_circuits.specs.declared.report.Retimed.{Retimed}
use Rattle.retimed_circuits.specs.Frames.{AfterFrames, frame, held_over, moved_over}
use Rattle.retimed_circuits.proofs.RunLaws.{SameEnd, after-one}
use Rattle.frame_runs.specs.declared.frame.Frame.{Frame}
use Rattle.frame_runs.specs.declared.options.Options.{Options}
use Rattle.frame_runs.specs.Following.{ComesOn, ComesWhole, IsCleanedFollowed, IsMovedFollowed}
use Rattle.frame_runs.specs.Found.{Moves}
use Rattle.frame_runs.specs.Merging.{ReadCircuit}
use Rattle.frame_runs.specs.Underway.{IsReportedOf, IsUnderway}
use Rattle.clean.specs.Normalised.{IsNormalised}
use Rattle.aig_graph.specs.Tables.{table}
use Rattle.aig_graph.proofs.TableLaws.{table-from}
use Rattle.frame_runs.proofs.FrameLaws.{cleaned-by, many-reported, moved-by, own-cleaned}

-- all of what is kept
composed-whole : (n : ℕ) (kept : List ℕ) → length kept ≡ n → composed kept (range_with_len 0 n) ≡ kept
unfolding table
composed-whole n kept many = sym (table-from 0 n (λ i. get_or kept i 0) kept 0 many (λ k less. ap (λ (i : ℕ). get_or kept i 0) (sym (zero-add k))))

-- as many free latches if all stay
as-many : (c d : Netlist) → SameStreams c d (all_free c.aig) → free_latches c.aig ≡ free_latches d.aig
as-many c d streams = sym (length-range_with_len 0 (free_latches c.aig)) ∙ streams.places.each

-- a cleaning that is followed keeps what a cleaning keeps
cleaned-followed : {F : Type 0} (has_come : F → Netlist → Netlist → List ℕ → Type 0) (held : List ℕ) (c : Netlist) (old new : F) (d : Cleaned) → IsCircuit c → All (λ j. j < length c.aig.latches) held
    → Cleans d.circuit held c d.kept_free → HeldAfter d.circuit d.keep held c → ComesOn has_come old new c d.circuit d.kept_free → IsCleanedFollowed has_come held c old new d
cleaned-followed has_come held c old new d valid in_range cleans stand comes = record {
  cleaned = cleaned-by held c d valid in_range (record { cleans = cleans; held_after = stand }) (cleans-streams d.circuit held c d.kept_free cleans valid);
  comes = comes;
}

-- a result of a cleaning that is followed
pub cleaned-result : {F E : Type 0} (has_come : F → Netlist → Netlist → List ℕ → Type 0) (held : List ℕ) (c : Netlist) (old new : F) (r : Result Cleaned E) → IsCircuit c → All (λ j. j < length c.aig.latches) held
    → IfOk r (λ d. Cleans d.circuit held c d.kept_free) → IfOk r (λ d. HeldAfter d.circuit d.keep held c) → IfOk r (λ d. ComesOn has_come old new c d.circuit d.kept_free)
    → IfOk r (IsCleanedFollowed has_come held c old new)
cleaned-result has_come held c old new (Ok d) valid in_range cleans stand comes = cleaned-followed has_come held c old new d valid in_range cleans stand comes
cleaned-result has_come held c old new (Err e) valid in_range cleans stand comes = tt

-- who follows to a circuit that is its own cleaning is there
pub own-followed : {F E : Type 0} (has_come : F → Netlist → Netlist → List ℕ → Type 0) (held : List ℕ) (c : Netlist) (f : F) (r : Result Cleaned E) → IfOk r (λ d. d.circuit ≡ c) → IfOk r (λ d. d.keep ≡ held)
    → IfOk r (λ d. d.kept_free ≡ all_free c.aig) → IsCircuit c → All (λ j. j < length c.aig.latches) held → IsNormalised held c → IfOk r (IsCleanedFollowed has_come held c f f)
own-followed has_come held c f (Ok d) circuit keep places valid in_range normalised = record {
  cleaned = own-cleaned held c d circuit keep places valid in_range normalised;
  comes = λ b k each come.
      let P : Netlist → List ℕ → Type 0 = λ e js. has_come f b e (composed k js) in
      let own : P c (all_free c.aig) = subst (λ (js : List ℕ). has_come f b c js) (sym (composed-whole (free_latches c.aig) k each)) come in
      subst (λ (e : Netlist). P e d.kept_free) (sym circuit) (subst (P c) (sym places) own);
}
own-followed has_come held c f (Err e) circuit keep places valid in_range normalised = tt

-- a moved circuit, cleaned, if the move and the cleaning were followed
pub moved-followed : {F E : Type 0} (has_come : F → Netlist → Netlist → List ℕ → Type 0) (held : List ℕ) (c after : Netlist) (set there : List ℕ) (old mid new : F) (r : Result Cleaned E)
    → IsNetlist c → All (λ j. j < length c.aig.latches) held → after ≡ moved_over held c set → there ≡ held_over held c set → SameStreams c after (all_free c.aig) → ComesWhole has_come old mid c after
    → IfOk r (IsCleanedFollowed has_come there after mid new) → IfOk r (IsMovedFollowed has_come held c set old new)
moved-followed has_come held c after set there old mid new (Ok d) netlist in_range same stand streams whole is = record {
  moved = moved-by held c after set there d netlist in_range same stand streams is.cleaned;
  comes = λ b k each come. is.comes b k (each ∙ as-many c after streams) (whole b k come);
}
moved-followed has_come held c after set there old mid new (Err e) netlist in_range same stand streams whole is = tt

-- places among those that are reported are as many as the run's circuit has free latches
pub many-kept : (options : Options) (bound : Option ℕ) (d : Netlist) (read : Option ReadCircuit) (held before : List ℕ) (n : ℕ) (r : Retimed) (now : List ℕ) → IsUnderway options bound d read held n r now
    → length (composed before r.kept_free) ≡ free_latches r.circuit.aig
many-kept options bound d read held before n r now underway = length-map r.kept_free (λ place. get_or before place 0) ∙ many-reported options bound d read held n r now underway

-- what is reported after a frame that leaves these free latches
left-reported : (read : Option ReadCircuit) (c : Netlist) (kept later left : List ℕ) (r after : Retimed) → All (λ place. place < length kept) left → later ≡ composed kept left → IsReportedOf read c kept r
    → IsReportedOf read c later after → after.kept_free ≡ composed r.kept_free left
left-reported None c kept later left r after below same is next = next.0 ∙ same ∙ ap (λ (xs : List ℕ). composed xs left) (sym is.0)
left-reported (Some read) c kept later left r after below same is next =
    next.0 ∙ ap (composed read.kept_free) same ∙ composed-then read.kept_free kept left below ∙ ap (λ (xs : List ℕ). composed xs left) (sym is.0)

-- who follows a frame has come to what it makes
pub one-taken : {F : Type 0} (has_come : F → Netlist → Netlist → List ℕ → Type 0) (options : Options) (bound : Option ℕ) (b d : Netlist) (read : Option ReadCircuit) (held from : List ℕ) (n : ℕ) (r after : Retimed) (now later : List ℕ) (taken : Frame) (f : F)
    → IsUnderway options bound d read held n r now → Moves options bound now r.circuit taken → IsUnderway options bound d read held (suc n) after later
    → has_come f b taken.cleaned.circuit (composed (composed from r.kept_free) taken.cleaned.kept_free) → has_come f b after.circuit (composed from after.kept_free)
one-taken has_come options bound b d read held from n r after now later taken f before moves underway come =
    let choice = options.choice in
    let left : List ℕ = taken.cleaned.kept_free in
    let keep : List ℕ = taken.cleaned.keep in
    let places : List ℕ = composed before.kept left in
    let reports : List FrameReport = r.frames ++ taken.report ∷ [] in
    let made : AfterFrames bound choice held d (suc n) taken.cleaned.circuit places keep reports =
    frame n r.circuit taken.cleaned.circuit before.kept left now keep r.frames taken.report before.frames moves.moves in
    let same : SameEnd taken.cleaned.circuit after.circuit places underway.kept keep later reports after.frames =
    after-one bound choice held d (suc n) taken.cleaned.circuit places keep reports made after.circuit underway.kept later after.frames underway.frames in
    let many : length r.kept_free ≡ free_latches r.circuit.aig = many-reported options bound d read held n r now before in
    let below : All (λ place. place < length r.kept_free) left = λ k a h. omega (arith, moves.keeps.streams.places.below k a h, many) in
    let among : All (λ place. place < length before.kept) left = λ k a h. omega (arith, moves.keeps.streams.places.below k a h, before.keeps.streams.places.each) in
    let whole : after.kept_free ≡ composed r.kept_free left = left-reported read d before.kept underway.kept left r after among (sym same.free) before.reported underway.reported in
    let P : Netlist → List ℕ → Type 0 = λ e js. has_come f b e js in
    let one : P taken.cleaned.circuit (composed from (composed r.kept_free left)) = subst (P taken.cleaned.circuit) (sym (composed-then from r.kept_free left below)) come in
    subst (λ (e : Netlist). P e (composed from after.kept_free)) same.circuit (subst (λ (js : List ℕ). P taken.cleaned.circuit (composed from js)) (sym whole) one)
