-- What an audit shows.
use Rattle.std.specs.Prelude.{ℕ, ◌≡◌, ◌<◌, ◌≤◌, List, [], ◌∷◌, length, Option, Some, IfSome}
use Rattle.aig_graph.specs.Graph.{IsGraph, known_latches}
use Rattle.aig_graph.specs.Circuits.{IsNetlist, Netlist}
use Rattle.aig_graph.specs.Streams.{SameStreams}
use Rattle.aig_graph.specs.Border.{IsLeast, border_size}
use Rattle.aig_graph.specs.Closed.{IsClosedSet}
use Rattle.aig_graph.specs.Move.{move_of}
use Rattle.certificates.specs.declared.certificate.Certificate.{Certificate}
use Rattle.certificates.specs.declared.merged.MergedLatch.{MergedLatch}
use Rattle.path_levels.specs.Bounded.{bounded}
use Rattle.retimed_circuits.specs.Frames.{CleansTo}
use Rattle.retimed_circuits.specs.RetimingLevels.{KeepsLevels}
use Rattle.certificate_audits.specs.declared.outcome.Audit.{Audit}
use Rattle.certificate_audits.specs.declared.outcome.End.TheVariants.{Certified}
use Rattle.certificate_audits.specs.declared.outcome.Replay.{Replay}
use Rattle.certificate_audits.specs.Audits.{IsAudit, IsNext, MoveKeepsBound}
use Rattle.certificate_audits.specs.Replays.{IsMergedReplay, IsReplay}

-- d is c or, under a bound, c bounded, of which the closed sets are those of c whose gates arrive
-- within the bound
pub data IsSearched (held : List ℕ) (c : Netlist) : Option ℕ → Netlist → Type 0 where
  itself : (bound : Option ℕ) → IsSearched held c bound c
  narrowed : (bound : ℕ) → IsSearched held c (Some bound) (bounded bound held c)

-- the block's gates are a least set of d, which is c or c bounded, and its count is what they count
-- in d
pub record IsLeastIn (bound : Option ℕ) (held : List ℕ) (c d : Netlist) (block : Certificate) : Type 0 where
  pub searched : IsSearched held c bound d
  pub least : IsLeast d held block.gates
  pub counted : block.count ≡ border_size (move_of d held block.gates)

-- no closed set of d counts less than c has known latches
abbrev pub NoneSmallerIn : List ℕ → Netlist → Netlist → Type 0
NoneSmallerIn held c d = (s : List ℕ) → IsClosedSet d.aig held s → known_latches c.aig ≤ border_size (move_of d held s)

-- c's latches move over the blocks' sets, one after another. Each is least, saves latches and keeps
-- the bound, but for the last one: there, none saves latches.
pub data AreLeast (bound : Option ℕ) : List ℕ → Netlist → List Certificate → Type 0 where
  last : (held : List ℕ) (c d : Netlist) (block : Certificate) → IsLeastIn bound held c d block → NoneSmallerIn held c d → AreLeast bound held c (block ∷ [])
  move : (held now : List ℕ) (c d e : Netlist) (block : Certificate) (rest : List Certificate) → IsLeastIn bound held c d block → block.count < known_latches c.aig → MoveKeepsBound bound held c block → IsNext held c block e now
      → AreLeast bound now e rest → AreLeast bound held c (block ∷ rest)

-- what blocks show of a circuit whose audit ends certified
pub record IsCertified (bound : Option ℕ) (held : List ℕ) (c : Netlist) (blocks : List Certificate) (audit : Audit) : Type 0 where
  pub all_confirmed : audit.confirmed ≡ length blocks
  pub first : Netlist
  pub kept : List ℕ
  pub now : List ℕ
  pub cleaned : CleansTo held c first kept now
  pub least : AreLeast bound now first blocks

-- what an audit that ends certified shows
abbrev pub CertifiedLaw : Option ℕ → List ℕ → Netlist → List Certificate → Type 0
CertifiedLaw bound held c blocks = (audit : Audit) → IsAudit bound held c blocks audit → audit.end ≡ Certified → IsCertified bound held c blocks audit

-- there is one audit
abbrev pub AuditLaw : Option ℕ → List ℕ → Netlist → List Certificate → Type 0
AuditLaw bound held c blocks = (a b : Audit) → IsAudit bound held c blocks a → IsAudit bound held c blocks b → a ≡ b

-- if it ends certified, so does that of what c is merged to
abbrev pub MergedCertifiedLaw : Option ℕ → List ℕ → Netlist → List MergedLatch → List Certificate → Type 0
MergedCertifiedLaw bound held c lines blocks = (replay : Replay) (is : IsMergedReplay bound held c lines blocks replay) → replay.audit.end ≡ Certified → IsCertified bound is.start_held is.start blocks replay.audit

-- there is one audit after merging by these lines
abbrev pub MergedAuditLaw : Option ℕ → List ℕ → Netlist → List MergedLatch → List Certificate → Type 0
MergedAuditLaw bound held c lines blocks = (a b : Replay) → IsMergedReplay bound held c lines blocks a → IsMergedReplay bound held c lines blocks b → a.audit ≡ b.audit

-- d has the values of all properties of c, step by step, by some of c's free latches
abbrev pub HasStreamsOf : Netlist → Netlist → Type 0
HasStreamsOf c d = (kept : List ℕ) × SameStreams c d kept

-- what the blocks end in has c's streams
abbrev pub ReplayLaw : Option ℕ → List ℕ → Netlist → List Certificate → Type 0
ReplayLaw bound held c blocks = (replay : Replay) → IsGraph c.aig → IsNetlist c → IsReplay bound held c blocks replay → IfSome replay.last (λ s. HasStreamsOf c s.circuit)

-- also if latches were merged first
abbrev pub MergedReplayLaw : Option ℕ → List ℕ → Netlist → List MergedLatch → List Certificate → Type 0
MergedReplayLaw bound held c lines blocks = (replay : Replay) → IsGraph c.aig → IsNetlist c → IsMergedReplay bound held c lines blocks replay → IfSome replay.last (λ s. HasStreamsOf c s.circuit)

-- what the blocks end in has no path longer than the bound, but for those that c has
abbrev pub ReplayLevelLaw : Option ℕ → List ℕ → Netlist → List Certificate → Type 0
ReplayLevelLaw bound held c blocks = (replay : Replay) → IsGraph c.aig → IsNetlist c → IsReplay bound held c blocks replay → IfSome replay.last (λ s. KeepsLevels bound c s.circuit)

-- also if latches were merged first
abbrev pub MergedReplayLevelLaw : Option ℕ → List ℕ → Netlist → List MergedLatch → List Certificate → Type 0
MergedReplayLevelLaw bound held c lines blocks = (replay : Replay) → IsGraph c.aig → IsNetlist c → IsMergedReplay bound held c lines blocks replay → IfSome replay.last (λ s. KeepsLevels bound c s.circuit)
