-- Runs that merge latches before the first frame.
use Rattle.std.proofs.Common.{ℕ, Bool, true, false, List, Option, Some, None, ◌≡◌, ◌∙◌, ap, sym, subst}
use Rattle.std.proofs.lemmas.Bool.{true≢false}
use Rattle.aig_graph.specs.Circuits.{Netlist}
use Rattle.aig_graph.specs.Laws.{composed}
use Rattle.aig_graph.specs.Streams.{SameStreams}
use Rattle.aig_graph.proofs.StreamLaws.{same_streams-transitive}
use Rattle.retimed_circuits.specs.declared.report.Retimed.{Retimed}
use Rattle.retimed_circuits.specs.Names.{Covers, StayHeld, held_latches, latches_at}
use Rattle.retimed_circuits.specs.Retiming.{since_merged}
use Rattle.retimed_circuits.proofs.StayLaws.{stays-then}
use Rattle.certificates.specs.declared.merged.MergedLatch.{MergedLatch}
use Rattle.frame_runs.specs.declared.options.Options.{Options}
use Rattle.frame_runs.specs.Bounds.{bound_in}
use Rattle.frame_runs.specs.Merging.{AreGivenLines, IsRunStart, ReadCircuit, reported_of_read}
use Rattle.frame_runs.specs.Named.{holding_in, kept_by, names_in}
use Rattle.frame_runs.specs.Retiming.{IsRetimedAsIs, IsRetimedHeld, IsRetimedTo}

same-lines : (a b : List MergedLatch) → ◌≡◌ {A = Option (List MergedLatch)} (Some a) (Some b) → a ≡ b
same-lines a b e = cc

-- the lines that the options have are those that are given
pub given-some : (options : Options) (lines merged : List MergedLatch) → options.classes ≡ Some lines → merged ≡ lines → AreGivenLines options merged
given-some options lines merged is same given by = same ∙ same-lines lines given (sym is ∙ by)

-- if they have none, nothing is given
pub given-none : (options : Options) (merged : List MergedLatch) → options.classes ≡ None → AreGivenLines options merged
given-none options merged is given by = absurd (cc)

-- what the options ask for, with merging or without, under the bound that they have
abbrev IsSo : Options → Netlist → Retimed → List ℕ → Bool → Option ℕ → Type 0
IsSo options c r now merge most = IsRetimedTo merge most options.choice c (holding_in options) options.max_frames options.certify r now

-- it retimed, reported of the circuit that was read
pub merged-retimed : (options : Options) (bound : Option ℕ) (c start : Netlist) (held : List ℕ) (read : ReadCircuit) (r s : Retimed) (now : List ℕ) → Covers (names_in options) (kept_by options c) c
    → options.merge ≡ true → bound ≡ bound_in options c → IsRunStart options c start held read → (retimed : IsRetimedAsIs options bound start held s) → now ≡ retimed.now → StayHeld held start now s.circuit
    → r ≡ reported_of_read read s → IsRetimedHeld options c r now
merged-retimed options bound c start held read r s now covers asked most is-start retimed ends stays same =
    let kept = read.kept_free in
    let streams : SameStreams c s.circuit (composed kept s.kept_free) = same_streams-transitive c start s.circuit kept s.kept_free is-start.streams retimed.streams in
    let P : Retimed → Type 0 = λ x. SameStreams c x.circuit x.kept_free in
    let L : Retimed → Type 0 = λ x. latches_at retimed.now x.circuit ≡ latches_at (kept_by options c) c in
    let through = stays-then (kept_by options c) held now c start s.circuit is-start.stays stays in
    let Q : Bool → Option ℕ → Type 0 = IsSo options c r now in
    let merged : Q true bound = record {
      retimed = record {
        start = start;
        kept = kept;
        start_held = held;
        lines = read.merged;
        merges = is-start.merges;
        from_start = s;
        retimed = retimed;
        whole = same ∙ ap (λ (n : ℕ). since_merged n kept read.merged s) is-start.latches;
        streams = subst P (sym same) streams;
        stay = subst L (sym same) (retimed.stay ∙ is-start.stays.stay);
        held = ap (λ (x : Retimed). held_latches (names_in options) x.circuit) same ∙ through.named (names_in options) covers;
      };
      held = ends;
    } in
    let is : Q options.merge (bound_in options c) = subst (Q options.merge) most (subst (λ (merge : Bool). Q merge bound) (sym asked) merged) in
    record { retimed = is.retimed; held = is.held; given = λ merge given by. ap (λ (x : Retimed). x.merged) same ∙ ap (λ (lines : List MergedLatch). Some lines) (is-start.given given by) }

-- by options that ask for no merging, what is retimed without merging is retimed as the options say
pub as-it-is : (options : Options) (bound : Option ℕ) (c : Netlist) (r : Retimed) (now : List ℕ) → Covers (names_in options) (kept_by options c) c → options.merge ≡ false → bound ≡ bound_in options c
    → (retimed : IsRetimedAsIs options bound c (kept_by options c) r) → now ≡ retimed.now → StayHeld (kept_by options c) c now r.circuit → IsRetimedHeld options c r now
as-it-is options bound c r now covers unasked same retimed ends stays =
    let Q : Bool → Option ℕ → Type 0 = IsSo options c r now in
    let plain : Q false bound = record { retimed = record { run = retimed; held = stays.named (names_in options) covers }; held = ends } in
    let is : Q options.merge (bound_in options c) = subst (Q options.merge) same (subst (λ (merge : Bool). Q merge bound) (sym unasked) plain) in
    record { retimed = is.retimed; held = is.held; given = λ merge given by. absurd (true≢false (sym merge ∙ unasked)) }
