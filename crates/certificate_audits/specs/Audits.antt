-- Audits: each block is judged for the circuit that the blocks before it make, under a bound on
-- path length or none.
use Rattle.std.specs.Prelude.{ℕ, suc, ◌≡◌, ◌<◌, ◌≤◌, ◌≢◌, ⊤, List, [], ◌∷◌, Option, Some, None}
use Rattle.aig_graph.specs.Graph.{known_latches}
use Rattle.aig_graph.specs.Circuits.{Netlist}
use Rattle.aig_graph.specs.Closed.{IsClosedSet}
use Rattle.certificates.specs.declared.certificate.Certificate.{Certificate}
use Rattle.certificates.specs.declared.verdict.Objection.{Objection}
use Rattle.certificates.specs.declared.verdict.Verdict.{Verdict}
use Rattle.certificates.specs.declared.verdict.Verdict.TheVariants.{Yes, No}
use Rattle.certificates.specs.Verdicts.{IsVerdict}
use Rattle.path_levels.specs.Bounded.{bounded}
use Rattle.retimed_circuits.specs.Frames.{CleansTo, count_over, held_over, moved_over}
use Rattle.retimed_circuits.specs.Certified.{PassesWithin}
use Rattle.path_levels.specs.Levels.{levels}
use Rattle.certificate_audits.specs.declared.outcome.Audit.{Audit}
use Rattle.certificate_audits.specs.declared.outcome.BlockObjection.{BlockObjection}
use Rattle.certificate_audits.specs.declared.outcome.BlockObjection.TheVariants.{Fails, TooLong}
use Rattle.certificate_audits.specs.declared.outcome.End.{End}
use Rattle.certificate_audits.specs.declared.outcome.End.TheVariants.{NoBlocks, Certified, Open, BlocksFollow, Objected}

-- the block fails a test for c, and one for c bounded
pub record FailsWithin (bound : ℕ) (held : List ℕ) (c : Netlist) (block : Certificate) (objection : Objection) : Type 0 where
  pub whole : IsVerdict c held block (No objection)
  pub other : Objection
  pub bounded_too : IsVerdict (bounded bound held c) held block (No other)

-- The verdict on a block for c. It passes if it does for c or, under a bound, for c bounded. What
-- speaks against it is what does so for c.
abbrev pub IsVerdictBy : Option ℕ → List ℕ → Netlist → Certificate → Verdict → Type 0
IsVerdictBy None held c block verdict = IsVerdict c held block verdict
IsVerdictBy (Some bound) held c block Yes = PassesWithin bound held c block
IsVerdictBy (Some bound) held c block (No objection) = FailsWithin bound held c block objection

-- the block is confirmed: so its set is closed in c, and its count is what that counts
pub record IsConfirmed (bound : Option ℕ) (held : List ℕ) (c : Netlist) (block : Certificate) : Type 0 where
  pub passes : IsVerdictBy bound held c block Yes
  pub closed : IsClosedSet c.aig held block.gates
  pub counted : block.count ≡ count_over held c block.gates

-- the block is confirmed, and counts less than c has known latches
pub record Saves (bound : Option ℕ) (held : List ℕ) (c : Netlist) (block : Certificate) : Type 0 where
  pub confirmed : IsConfirmed bound held c block
  pub fewer : block.count < known_latches c.aig

-- the block is confirmed, and doesn't count less
pub record SavesNone (bound : Option ℕ) (held : List ℕ) (c : Netlist) (block : Certificate) : Type 0 where
  pub confirmed : IsConfirmed bound held c block
  pub no_fewer : known_latches c.aig ≤ block.count

-- under a bound, the move over the block's gates makes no path longer than that
abbrev pub MoveKeepsBound : Option ℕ → List ℕ → Netlist → Certificate → Type 0
MoveKeepsBound None held c block = ⊤
MoveKeepsBound (Some most) held c block = levels (moved_over held c block.gates) ≤ most

-- it makes one that is longer
abbrev pub MoveBreaksBound : Option ℕ → List ℕ → Netlist → Certificate → Type 0
MoveBreaksBound None held c block = ⊥
MoveBreaksBound (Some most) held c block = most < levels (moved_over held c block.gates)

-- the block saves latches, and its move keeps the bound
pub record IsMoveTaken (bound : Option ℕ) (held : List ℕ) (c : Netlist) (block : Certificate) : Type 0 where
  pub saves : Saves bound held c block
  pub keeps : MoveKeepsBound bound held c block

-- the block saves latches, and its move breaks the bound
pub record IsMoveTooLong (bound : Option ℕ) (held : List ℕ) (c : Netlist) (block : Certificate) : Type 0 where
  pub saves : Saves bound held c block
  pub longer : MoveBreaksBound bound held c block

-- this speaks against the block
abbrev pub Objects : Option ℕ → List ℕ → Netlist → Certificate → BlockObjection → Type 0
Objects bound held c block (Fails objection) = IsVerdictBy bound held c block (No objection)
Objects bound held c block TooLong = IsMoveTooLong bound held c block

-- d is c with its latches moved over the block's gates, and cleaned; the held latches stand at now
-- in d
pub record IsNext (held : List ℕ) (c : Netlist) (block : Certificate) (d : Netlist) (now : List ℕ) : Type 0 where
  pub kept : List ℕ
  pub cleaned : CleansTo (held_over held c block.gates) (moved_over held c block.gates) d kept now

-- the number of blocks that are confirmed one after another, and how that ends; the first block is
-- for this circuit with these latches held
pub data Audits (bound : Option ℕ) : List ℕ → Netlist → List Certificate → ℕ → End → Type 0 where
  no_blocks : (held : List ℕ) (c : Netlist) → Audits bound held c [] 0 NoBlocks
  objected : (held : List ℕ) (c : Netlist) (block : Certificate) (rest : List Certificate) (objection : BlockObjection) → Objects bound held c block objection
      → Audits bound held c (block ∷ rest) 0 (Objected objection)
  open_end : (held : List ℕ) (c : Netlist) (block : Certificate) → IsMoveTaken bound held c block → Audits bound held c (block ∷ []) 1 Open
  certified_end : (held : List ℕ) (c : Netlist) (block : Certificate) → SavesNone bound held c block → Audits bound held c (block ∷ []) 1 Certified
  past_end : (held : List ℕ) (c : Netlist) (block : Certificate) (rest : List Certificate) → SavesNone bound held c block → rest ≢ [] → Audits bound held c (block ∷ rest) 1 BlocksFollow
  goes_on : (held now : List ℕ) (c d : Netlist) (block : Certificate) (rest : List Certificate) (n : ℕ) (end : End) → IsMoveTaken bound held c block → rest ≢ []
      → IsNext held c block d now → Audits bound now d rest n end → Audits bound held c (block ∷ rest) (suc n) end

-- the audit of blocks; the first is for c cleaned, with these latches held
pub record IsAudit (bound : Option ℕ) (held : List ℕ) (c : Netlist) (blocks : List Certificate) (audit : Audit) : Type 0 where
  pub first : Netlist
  pub kept : List ℕ
  pub now : List ℕ
  pub cleaned : CleansTo held c first kept now
  pub audits : Audits bound now first blocks audit.confirmed audit.end
