-- The circuits that blocks end in.
use Rattle.std.specs.Prelude.{ℕ, ◌≡◌, false, List, [], ◌∷◌, Option, None, MatchOption}
use Rattle.aig_graph.specs.Circuits.{Netlist}
use Rattle.certificates.specs.declared.certificate.Certificate.{Certificate}
use Rattle.certificates.specs.declared.merged.MergedLatch.{MergedLatch}
use Rattle.retimed_circuits.specs.Frames.{CleansTo}
use Rattle.retimed_circuits.specs.Merging.{MergesIn}
use Rattle.certificate_audits.specs.declared.outcome.End.{End}
use Rattle.certificate_audits.specs.declared.outcome.End.TheVariants.{Misread, NotShown}
use Rattle.certificate_audits.specs.declared.moving.Stage.{Stage}
use Rattle.certificate_audits.specs.declared.outcome.Replay.{Replay}
use Rattle.certificate_audits.specs.Audits.{Audits, IsNext, IsMoveTaken, SavesNone}
use Rattle.certificate_audits.specs.Ends.{is_accepted}

-- The last circuit is what c becomes by the blocks, one after another, and then come the positions
-- of its held latches. The latches move over the set of a block that saves latches and keeps the
-- bound, and the circuit is cleaned. A last block that saves none moves nothing.
pub data EndIn (bound : Option ℕ) : List ℕ → Netlist → List Certificate → Netlist → List ℕ → Type 0 where
  no_more : (held : List ℕ) (c : Netlist) → EndIn bound held c [] c held
  at_end : (held : List ℕ) (c : Netlist) (block : Certificate) → SavesNone bound held c block → EndIn bound held c (block ∷ []) c held
  after_move : (held now later : List ℕ) (c d e : Netlist) (block : Certificate) (rest : List Certificate) → IsMoveTaken bound held c block → IsNext held c block d now → EndIn bound now d rest e later
      → EndIn bound held c (block ∷ rest) e later

-- the circuit that the blocks end in exists if and only if nothing speaks against a block
abbrev pub IsLast : Option ℕ → List ℕ → Netlist → List Certificate → End → Option Stage → Type 0
IsLast bound held c blocks end last = MatchOption last (is_accepted end ≡ false) (λ s. EndIn bound held c blocks s.circuit s.keep)

-- the audit of blocks, the first of which is for this circuit, and what they end in
pub record Replays (bound : Option ℕ) (held : List ℕ) (c : Netlist) (blocks : List Certificate) (replay : Replay) : Type 0 where
  pub audits : Audits bound held c blocks replay.audit.confirmed replay.audit.end
  pub last : IsLast bound held c blocks replay.audit.end replay.last

-- the replay of blocks, the first of which is for c cleaned
pub record IsReplay (bound : Option ℕ) (held : List ℕ) (c : Netlist) (blocks : List Certificate) (replay : Replay) : Type 0 where
  pub first : Netlist
  pub kept : List ℕ
  pub now : List ℕ
  pub cleaned : CleansTo held c first kept now
  pub replays : Replays bound now first blocks replay

-- the replay of blocks of a circuit whose latches were merged first by these lines: that of what c
-- is merged to
pub record IsMergedReplay (bound : Option ℕ) (held : List ℕ) (c : Netlist) (lines : List MergedLatch) (blocks : List Certificate) (replay : Replay) : Type 0 where
  pub start : Netlist
  pub kept : List ℕ
  pub start_held : List ℕ
  pub merges : MergesIn held c start kept start_held lines
  pub of_start : IsReplay bound start_held start blocks replay

-- by some lines
pub record IsGuessedReplay (bound : Option ℕ) (held : List ℕ) (c : Netlist) (blocks : List Certificate) (replay : Replay) : Type 0 where
  pub lines : List MergedLatch
  pub is : IsMergedReplay bound held c lines blocks replay

-- the replay that ends so since a merged latch is refused: no block is judged
abbrev pub refused_by : End → Replay
refused_by end = record { audit = record { confirmed = 0; end = end }; last = None }

-- the replay of what the lines of a file merge c to; or a latch is refused, and nothing is claimed
pub data IsGivenReplay (bound : Option ℕ) (held : List ℕ) (c : Netlist) (lines : List MergedLatch) (blocks : List Certificate) (replay : Replay) : Type 0 where
  replayed : IsMergedReplay bound held c lines blocks replay → IsGivenReplay bound held c lines blocks replay
  misread : (latch : ℕ) → replay ≡ refused_by (Misread latch) → IsGivenReplay bound held c lines blocks replay
  not_shown : (latch : ℕ) → replay ≡ refused_by (NotShown latch) → IsGivenReplay bound held c lines blocks replay
