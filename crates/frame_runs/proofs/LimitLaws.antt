-- Cleaning, merging and moving keep the number of properties and make no new name.
use Rattle.std.proofs.Common.{ℕ, Bool, true, false, ◌+◌, ◌≡◌, List, Option, length, map, ap, sym, subst, arith}
use Rattle.std.specs.List.{sum}
use Rattle.std.proofs.lemmas.List.{length-map}
use Rattle.std.proofs.lemmas.List.Elements.{All-from_recursion, recursion_from_All}
use Rattle.aig_graph.specs.declared.properties.Symbol.{Symbol}
use Rattle.aig_graph.specs.Graph.{first_latch}
use Rattle.aig_graph.specs.Circuits.{Netlist}
use Rattle.aig_graph.specs.Move.{move_of}
use Rattle.cleaned_circuits.specs.Merged.{merged_of}
use Rattle.cleaned_circuits.specs.Trimmed.{trimmed_symbols, new_position}
use Rattle.cleaned_circuits.specs.Cleaned.{IsPass, Cleans, unchanged, after_pass}
use Rattle.aig_graph.specs.Counting.{count_below}
use Rattle.rebuild.specs.Moved.{is_latched, moved_symbols, stays}
use Rattle.aig_graph.specs.Streams.{SameShape}
use Rattle.ascii_file.specs.Laws.{all_names, IsWithinLimits}
use Rattle.certificates.specs.declared.merged.MergedLatch.{MergedLatch}
use Rattle.aig_graph.specs.declared.choice.Choice.{Choice}
use Rattle.retimed_circuits.specs.declared.report.FrameReport.{FrameReport}
use Rattle.aig_graph.specs.Keep.{Holding, held_of}
use Rattle.retimed_circuits.specs.Frames.{AfterFrames, held_over, moved_over, cleaned, frame}
use Rattle.retimed_circuits.specs.declared.report.Retimed.{Retimed}
use Rattle.retimed_circuits.specs.Merging.{MergesIn}
use Rattle.frame_runs.specs.Limits.{StaysWithin}
use Rattle.ascii_file.proofs.OneLineLaws.{IsOneLine, HasOneLineNames, picked, with_latches}

pass-names : (held : List ℕ) (c d : Netlist) (kept still_held : List ℕ) → IsPass held c d kept still_held → HasOneLineNames c → HasOneLineNames d
unfolding trimmed_symbols
pass-names held c d kept still_held pass all =
    let g = (merged_of held c).aig in
    let stays_here = λ (x : Symbol). pass.reached (first_latch g + x.position) in
    subst HasOneLineNames (sym pass.circuit) (with_latches c.symbols _ all (picked (λ x. new_position g pass.reached x.position) stays_here c.symbols.latches))

cleans-names : (d : Netlist) (held : List ℕ) (c : Netlist) (kept : List ℕ) → Cleans d held c kept → HasOneLineNames c → HasOneLineNames d
cleans-names d _ _ _ (unchanged held c kept pass same) all = subst HasOneLineNames (sym same) all
cleans-names d _ _ _ (after_pass held c e first second still_held pass differs rest) all = cleans-names d still_held e second rest (pass-names held c e first still_held pass all)

moved-names : (held : List ℕ) (c : Netlist) (set : List ℕ) → HasOneLineNames c → HasOneLineNames (moved_over held c set)
unfolding moved_symbols
moved-names held c set all =
    let m = move_of c held set in
    with_latches c.symbols _ all (picked (λ x. count_below (is_latched m) (first_latch c.aig + x.position)) (stays m) c.symbols.latches)

after-names : (bound : Option ℕ) (choice : Choice) (held : List ℕ) (c : Netlist) (n : ℕ) (d : Netlist) (kept now : List ℕ) (reports : List FrameReport) → AfterFrames bound choice held c n d kept now reports → HasOneLineNames c → HasOneLineNames d
after-names bound choice held c _ _ _ _ _ (cleaned d kept now cleans) all = cleans-names d held c kept cleans.cleans all
after-names bound choice held c _ _ _ _ _ (frame n d e kept left now later reports report run last) all =
    cleans-names e (held_over now d last.set) (moved_over now d last.set) left last.cleaned.cleans (moved-names now d last.set (after-names bound choice held c n d kept now reports run all))

-- a circuit of as many properties, whose names are of one line each
pub within-by : (c d : Netlist) → SameShape c d → HasOneLineNames d → IsWithinLimits c → IsWithinLimits d
within-by c d shape names within =
    let sizes : sum (map length d.props.justice) ≡ sum (map length c.props.justice) = ap sum shape.justice in
    let same : length (map length d.props.justice) ≡ length (map length c.props.justice) = ap (λ (ns : List ℕ). length ns) shape.justice in
    record {
      outputs = omega (arith, shape.outputs, within.outputs);
      bad = omega (arith, shape.bad, within.bad);
      constraints = omega (arith, shape.constraints, within.constraints);
      justice = omega (arith, same, within.justice, length-map d.props.justice (λ (lits : List ℕ). length lits), length-map c.props.justice (λ (lits : List ℕ). length lits));
      justice_literals = omega (arith, sizes, within.justice_literals);
      fairness = omega (arith, shape.fairness, within.fairness);
      names = All-from_recursion IsOneLine (all_names d.symbols) names;
    }

merged-names : (held : List ℕ) (c d : Netlist) (kept now : List ℕ) (lines : List MergedLatch) → MergesIn held c d kept now lines → HasOneLineNames c → HasOneLineNames d
merged-names held c d kept now lines merges all =
    subst HasOneLineNames (sym merges.merged.circuit) (cleans-names merges.clean held c kept merges.cleaned.cleans all)

-- what a circuit within the limits of a header is retimed to is within them
pub stays-within : (merge : Bool) (bound : Option ℕ) (choice : Choice) (c : Netlist) (holding : Holding) (max_frames : ℕ) (certify : Bool) → StaysWithin merge bound choice c holding max_frames certify
stays-within false bound choice c holding max_frames certify r retimed within =
    let all = recursion_from_All IsOneLine (all_names c.symbols) within.names in
    let run = retimed.run in
    within-by c r.circuit run.streams.shape (after-names bound choice (held_of holding c) c (length r.frames) r.circuit r.kept_free run.now r.frames run.frames all) within
stays-within true bound choice c holding max_frames certify r retimed within =
    let all = recursion_from_All IsOneLine (all_names c.symbols) within.names in
    let s = retimed.from_start in
    let started : HasOneLineNames retimed.start = merged-names (held_of holding c) c retimed.start retimed.kept retimed.start_held retimed.lines retimed.merges all in
    let ended : HasOneLineNames s.circuit = after-names bound choice retimed.start_held retimed.start (length s.frames) s.circuit s.kept_free retimed.retimed.now s.frames retimed.retimed.frames started in
    within-by c r.circuit retimed.streams.shape (subst HasOneLineNames (sym (ap (λ (x : Retimed). x.circuit) retimed.whole)) ended) within
