-- Parts of a file, one after another.
use Rattle.std.proofs.Common.{ℕ, ◌+◌, ◌<◌, ◌≤◌, ◌≡◌, ◌∙◌, List, [], ◌∷◌, ◌++◌, Option, Some, None, length, drop, get_or, refl, arith, ap, sym, subst, append-nil, append_assoc}
use Rattle.std.specs.List.{All}
use Rattle.std.specs.Option.{IfSome}
use Rattle.std.proofs.lemmas.List.{drop_all, drop_more}
use Rattle.aig_graph.specs.Circuits.{Netlist}
use Rattle.aig_graph.specs.Laws.{all_free}
use Rattle.aig_graph.proofs.StreamLaws.{same_streams-reflexive}
use Rattle.certificate_files.specs.declared.file.CertPart.{CertPart}
use Rattle.certificates.specs.declared.certificate.Certificate.{Certificate}
use Rattle.certificates.specs.declared.merged.MergedLatch.{MergedLatch}
use Rattle.cleaned_circuits.proofs.HeldLaws.{held_after-in_range}
use Rattle.cleaned_circuits.proofs.MergedLaws.{length-replaced_latches}
use Rattle.cleaned_circuits.proofs.PassLaws.{IsCircuit}
use Rattle.aig_graph.specs.Move.{move_of}
use Rattle.merged_circuits.specs.Readings.{substitutes_by}
use Rattle.rebuild.proofs.HeldLaws.{moved_held-below}
use Rattle.retimed_circuits.specs.Frames.{held_over, moved_over}
use Rattle.retimed_circuits.specs.RetimingLevels.{KeepsLevels}
use Rattle.certificate_audits.specs.declared.moving.Stage.{Stage}
use Rattle.certificate_audits.specs.declared.outcome.Audit.{Audit}
use Rattle.certificate_audits.specs.declared.outcome.End.{End}
use Rattle.certificate_audits.specs.declared.outcome.End.TheVariants.{Misread, NotShown}
use Rattle.certificate_audits.specs.declared.outcome.Replay.{Replay}
use Rattle.certificate_audits.specs.Laws.{HasStreamsOf}
use Rattle.certificate_audits.specs.Parts.{IsPartReplay, IsReplayBy, IsStageInRange, PartsLaw, PartsLevelLaw, ReplaysParts, judged, no_more, not_judged}
use Rattle.certificate_audits.specs.Replays.{EndIn, IsGivenReplay, IsGuessedReplay, IsLast, IsMergedReplay, IsReplay, after_move, at_end, misread, not_shown, refused_by, replayed}
use Rattle.certificate_audits.specs.Replays as replays
use Rattle.certificate_audits.proofs.LevelLaws.{merged-replay-levels, replay-levels}
use Rattle.certificate_audits.proofs.ReplayLaws.{Follows, follows-then, merged-replay-follows, replay-follows}

-- ---- the held latches of what blocks end in

end-in-range : (bound : Option ℕ) (held : List ℕ) (c : Netlist) (blocks : List Certificate) (e : Netlist) (later : List ℕ) → All (λ j. j < length c.aig.latches) held → EndIn bound held c blocks e later
    → All (λ j. j < length e.aig.latches) later
end-in-range bound _ _ _ _ _ in_range (replays.no_more held c) = in_range
end-in-range bound _ _ _ _ _ in_range (at_end held c block none) = in_range
end-in-range bound _ _ _ _ _ in_range (after_move held now later c d e block rest taken next more) =
    let over : All (λ j. j < length (moved_over held c block.gates).aig.latches) (held_over held c block.gates) = moved_held-below (move_of c held block.gates) in_range in
    end-in-range bound now d rest e later (held_after-in_range d now (held_over held c block.gates) (moved_over held c block.gates) next.cleaned.held_after over) more

last-in-range : (bound : Option ℕ) (held : List ℕ) (c : Netlist) (blocks : List Certificate) (end : End) (last : Option Stage) → All (λ j. j < length c.aig.latches) held → IsLast bound held c blocks end last
    → IfSome last IsStageInRange
last-in-range bound held c blocks end None in_range is = tt
last-in-range bound held c blocks end (Some s) in_range is = end-in-range bound held c blocks s.circuit s.keep in_range is

-- of a replay
pub replay-in-range : (bound : Option ℕ) (held : List ℕ) (c : Netlist) (blocks : List Certificate) (replay : Replay) → All (λ j. j < length c.aig.latches) held → IsReplay bound held c blocks replay
    → IfSome replay.last IsStageInRange
replay-in-range bound held c blocks replay in_range is =
    last-in-range bound is.now is.first blocks replay.audit.end replay.last (held_after-in_range is.first is.now held c is.cleaned.held_after in_range) is.replays.last

merged-in-range : (bound : Option ℕ) (held : List ℕ) (c : Netlist) (lines : List MergedLatch) (blocks : List Certificate) (replay : Replay) → All (λ j. j < length c.aig.latches) held
    → IsMergedReplay bound held c lines blocks replay → IfSome replay.last IsStageInRange
merged-in-range bound held c lines blocks replay in_range is =
    let clean : Netlist = is.merges.clean in
    let there : All (λ j. j < length clean.aig.latches) is.start_held = held_after-in_range clean is.start_held held c is.merges.cleaned.held_after in_range in
    let many : length is.start.aig.latches ≡ length clean.aig.latches =
    ap (λ (x : Netlist). length x.aig.latches) is.merges.merged.circuit ∙ length-replaced_latches (substitutes_by clean.aig is.merges.reads) clean.aig in
    replay-in-range bound is.start_held is.start blocks replay (subst (λ (n : ℕ). All (λ j. j < n) is.start_held) (sym many) there) is.of_start

none-at : (end : End) (replay : Replay) (P : Stage → Type 0) → replay ≡ refused_by end → IfSome replay.last P
none-at end replay P same = subst (λ (x : Replay). IfSome x.last P) (sym same) tt

-- of a replay by lines that were guessed
pub guessed-in-range : (bound : Option ℕ) (held : List ℕ) (c : Netlist) (blocks : List Certificate) (replay : Replay) → All (λ j. j < length c.aig.latches) held → IsGuessedReplay bound held c blocks replay
    → IfSome replay.last IsStageInRange
guessed-in-range bound held c blocks replay in_range is = merged-in-range bound held c is.lines blocks replay in_range is.is

-- of one by given lines
pub given-in-range : (bound : Option ℕ) (held : List ℕ) (c : Netlist) (lines : List MergedLatch) (blocks : List Certificate) (replay : Replay) → All (λ j. j < length c.aig.latches) held
    → IsGivenReplay bound held c lines blocks replay → IfSome replay.last IsStageInRange
given-in-range bound held c lines blocks replay in_range (replayed is) = merged-in-range bound held c lines blocks replay in_range is
given-in-range bound held c lines blocks replay in_range (misread latch same) = none-at (Misread latch) replay IsStageInRange same
given-in-range bound held c lines blocks replay in_range (not_shown latch same) = none-at (NotShown latch) replay IsStageInRange same

-- of a part
pub part-in-range : (bound : Option ℕ) (held : List ℕ) (c : Netlist) (merged : Option (List MergedLatch)) (blocks : List Certificate) (replay : Replay) → All (λ j. j < length c.aig.latches) held
    → IsReplayBy merged bound held c blocks replay → IfSome replay.last IsStageInRange
part-in-range bound held c None blocks replay in_range is = replay-in-range bound held c blocks replay in_range is
part-in-range bound held c (Some lines) blocks replay in_range is = given-in-range bound held c lines blocks replay in_range is

-- ---- what parts end in

given-follows : (bound : Option ℕ) (held : List ℕ) (c : Netlist) (lines : List MergedLatch) (blocks : List Certificate) (replay : Replay) → IsCircuit c → IsGivenReplay bound held c lines blocks replay
    → IfSome replay.last (λ s. Follows c s.circuit)
given-follows bound held c lines blocks replay valid (replayed is) = merged-replay-follows bound held c lines blocks replay valid is
given-follows bound held c lines blocks replay valid (misread latch same) = none-at (Misread latch) replay (λ s. Follows c s.circuit) same
given-follows bound held c lines blocks replay valid (not_shown latch same) = none-at (NotShown latch) replay (λ s. Follows c s.circuit) same

part-follows : (bound : Option ℕ) (held : List ℕ) (c : Netlist) (merged : Option (List MergedLatch)) (blocks : List Certificate) (replay : Replay) → IsCircuit c → IsReplayBy merged bound held c blocks replay
    → IfSome replay.last (λ s. Follows c s.circuit)
part-follows bound held c None blocks replay valid is = replay-follows bound held c blocks replay valid is
part-follows bound held c (Some lines) blocks replay valid is = given-follows bound held c lines blocks replay valid is

given-levels : (bound : Option ℕ) (held : List ℕ) (c : Netlist) (lines : List MergedLatch) (blocks : List Certificate) (replay : Replay) → IsCircuit c → IsGivenReplay bound held c lines blocks replay
    → IfSome replay.last (λ s. KeepsLevels bound c s.circuit)
given-levels bound held c lines blocks replay valid (replayed is) = merged-replay-levels bound held c lines blocks replay valid.graph valid.netlist is
given-levels bound held c lines blocks replay valid (misread latch same) = none-at (Misread latch) replay (λ s. KeepsLevels bound c s.circuit) same
given-levels bound held c lines blocks replay valid (not_shown latch same) = none-at (NotShown latch) replay (λ s. KeepsLevels bound c s.circuit) same

part-levels : (bound : Option ℕ) (held : List ℕ) (c : Netlist) (merged : Option (List MergedLatch)) (blocks : List Certificate) (replay : Replay) → IsCircuit c → IsReplayBy merged bound held c blocks replay
    → IfSome replay.last (λ s. KeepsLevels bound c s.circuit)
part-levels bound held c None blocks replay valid is = replay-levels bound held c blocks replay valid.graph valid.netlist is
part-levels bound held c (Some lines) blocks replay valid is = given-levels bound held c lines blocks replay valid is

-- no path gets longer than the bound from circuit to circuit
pub levels-then : (bound : Option ℕ) (a b c : Netlist) → KeepsLevels bound a b → KeepsLevels bound b c → KeepsLevels bound a c
levels-then None a b c p q = tt
levels-then (Some most) a b c p q = omega (arith, p, q)

-- d follows c, and keeps the bound
record Keeps (bound : Option ℕ) (c d : Netlist) : Type 0 where
  follows : Follows c d
  levels : KeepsLevels bound c d

parts-keep : (bound : Option ℕ) (c : Netlist) (from : Option Stage) (parts : List CertPart) (audits : List Audit) (last : Option Stage) → IfSome from (λ s. Keeps bound c s.circuit) → ReplaysParts bound from parts audits last
    → IfSome last (λ s. Keeps bound c s.circuit)
parts-keep bound c _ _ _ _ keeps (no_more last) = keeps
parts-keep bound c _ _ _ _ keeps (not_judged parts) = tt
parts-keep bound c _ _ _ _ keeps (judged s part parts replay audits last is more) = parts-keep bound c replay.last parts audits last (both replay.last (part-follows bound s.keep s.circuit part.merged part.blocks replay keeps.follows.circuit is)
    (part-levels bound s.keep s.circuit part.merged part.blocks replay keeps.follows.circuit is)) more
  where
    both : (end : Option Stage) → IfSome end (λ e. Follows s.circuit e.circuit) → IfSome end (λ e. KeepsLevels bound s.circuit e.circuit) → IfSome end (λ e. Keeps bound c e.circuit)
    both None follows levels = tt
    both (Some e) follows levels = record {
      follows = follows-then c s.circuit e.circuit keeps.follows follows;
      levels = levels-then bound c s.circuit e.circuit keeps.levels levels;
    }

itself : (bound : Option ℕ) (c : Netlist) → KeepsLevels bound c c
itself None c = tt
itself (Some most) c = omega arith

kept-from : (bound : Option ℕ) (s : Stage) (parts : List CertPart) (audits : List Audit) (last : Option Stage) → IsCircuit s.circuit → ReplaysParts bound (Some s) parts audits last
    → IfSome last (λ e. Keeps bound s.circuit e.circuit)
kept-from bound s parts audits last valid is =
    let start : Follows s.circuit s.circuit = record { circuit = valid; streams = (all_free s.circuit.aig, same_streams-reflexive s.circuit) } in
    parts-keep bound s.circuit (Some s) parts audits last (record { follows = start; levels = itself bound s.circuit }) is

streams-kept : (bound : Option ℕ) (c : Netlist) (last : Option Stage) → IfSome last (λ e. Keeps bound c e.circuit) → IfSome last (λ e. HasStreamsOf c e.circuit)
streams-kept bound c None keeps = tt
streams-kept bound c (Some e) keeps = keeps.follows.streams

levels-kept : (bound : Option ℕ) (c : Netlist) (last : Option Stage) → IfSome last (λ e. Keeps bound c e.circuit) → IfSome last (λ e. KeepsLevels bound c e.circuit)
levels-kept bound c None keeps = tt
levels-kept bound c (Some e) keeps = keeps.levels

-- what parts end in has the streams of the circuit
pub parts-streams : (bound : Option ℕ) (s : Stage) (parts : List CertPart) → PartsLaw bound s parts
parts-streams bound s parts audits last graph netlist is =
    streams-kept bound s.circuit last (kept-from bound s parts audits last (record { graph = graph; netlist = netlist }) is)

-- and keeps the bound
pub parts-levels : (bound : Option ℕ) (s : Stage) (parts : List CertPart) → PartsLevelLaw bound s parts
parts-levels bound s parts audits last graph netlist is =
    levels-kept bound s.circuit last (kept-from bound s parts audits last (record { graph = graph; netlist = netlist }) is)

-- ---- part after part

-- Some parts were judged, with these audits, and have come to this. Whatever comes of the others
-- comes of all.
pub record HaveComeTo (bound : Option ℕ) (first : Option Stage) (parts : List CertPart) (k : ℕ) (audits : List Audit) (now : Option Stage) : Type 0 where
  -- with the audits of the others, these are those of all
  pub onward : (more : List Audit) (last : Option Stage) → ReplaysParts bound now (drop k parts) more last → ReplaysParts bound first parts (audits ++ more) last
  -- the held latches are in range
  pub in_range : IfSome now IsStageInRange

-- before the first part
pub none-judged : (bound : Option ℕ) (first : Option Stage) (parts : List CertPart) (audits : List Audit) → audits ≡ [] → IfSome first IsStageInRange → HaveComeTo bound first parts 0 audits first
none-judged bound first parts audits none in_range = record {
  onward = λ more last rest. subst (λ (xs : List Audit). ReplaysParts bound first parts (xs ++ more) last) (sym none) rest;
  in_range = in_range;
}

-- one part more
pub one-judged : (bound : Option ℕ) (first : Option Stage) (parts : List CertPart) (k : ℕ) (audits all : List Audit) (s : Stage) (part : CertPart) (replay : Replay) → k < length parts → part ≡ get_or parts k part
    → all ≡ audits ++ replay.audit ∷ [] → HaveComeTo bound first parts k audits (Some s) → IsPartReplay bound s.keep s.circuit part replay → HaveComeTo bound first parts (k + 1) all replay.last
one-judged bound first parts k audits all s part replay within there whole before is = record {
  onward = λ more last rest.
      let here : drop k parts ≡ part ∷ drop (k + 1) parts = drop_more parts k part within ∙ ap (λ (x : CertPart). x ∷ drop (k + 1) parts) (sym there) in
      let next : ReplaysParts bound (Some s) (drop k parts) (replay.audit ∷ more) last =
      subst (λ (xs : List CertPart). ReplaysParts bound (Some s) xs (replay.audit ∷ more) last) (sym here) (judged s part (drop (k + 1) parts) replay more last is rest) in
      let same : audits ++ replay.audit ∷ more ≡ all ++ more = sym (append_assoc audits (replay.audit ∷ []) more) ∙ ap (λ (xs : List Audit). xs ++ more) (sym whole) in
      subst (λ (xs : List Audit). ReplaysParts bound first parts xs last) same (before.onward (replay.audit ∷ more) last next);
  in_range = part-in-range bound s.keep s.circuit part.merged part.blocks replay before.in_range is;
}

-- what isn't a circuit is none
pub none-there : (last : Option Stage) → ((s : Stage) → last ≡ Some s → ⊥) → last ≡ None
none-there None other = refl
none-there (Some s) other = absurd (other s refl)

-- all that is judged, if something speaks against a part
pub ends-early : (bound : Option ℕ) (first now : Option Stage) (parts : List CertPart) (k : ℕ) (audits : List Audit) → now ≡ None → HaveComeTo bound first parts k audits now → ReplaysParts bound first parts audits None
ends-early bound first now parts k audits none before =
    let rest : ReplaysParts bound now (drop k parts) [] None = subst (λ (x : Option Stage). ReplaysParts bound x (drop k parts) [] None) (sym none) (not_judged (drop k parts)) in
    subst (λ (xs : List Audit). ReplaysParts bound first parts xs None) (append-nil audits) (before.onward [] None rest)

-- all parts
pub all-judged : (bound : Option ℕ) (first now : Option Stage) (parts : List CertPart) (k : ℕ) (audits : List Audit) → length parts ≤ k → HaveComeTo bound first parts k audits now → ReplaysParts bound first parts audits now
all-judged bound first now parts k audits past before =
    let rest : ReplaysParts bound now (drop k parts) [] now = subst (λ (xs : List CertPart). ReplaysParts bound now xs [] now) (sym (drop_all k parts past)) (no_more now) in
    subst (λ (xs : List Audit). ReplaysParts bound first parts xs now) (append-nil audits) (before.onward [] now rest)
