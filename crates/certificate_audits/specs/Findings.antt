-- What one block shows of its circuit.
use Rattle.std.specs.Prelude.{ℕ, ◌≡◌, ◌≢◌, false, List, [], Option, MatchOption}
use Rattle.aig_graph.specs.Circuits.{Netlist}
use Rattle.certificates.specs.declared.certificate.Certificate.{Certificate}
use Rattle.certificate_audits.specs.declared.judging.Finding.{Finding}
use Rattle.certificate_audits.specs.declared.judging.Finding.TheVariants.{Objected, Fewer, NotFewer}
use Rattle.certificate_audits.specs.declared.outcome.End.{End}
use Rattle.certificate_audits.specs.declared.outcome.End.TheVariants as ends
use Rattle.certificate_audits.specs.declared.moving.Stage.{Stage}
use Rattle.certificate_audits.specs.Audits.{IsNext, IsMoveTaken, Objects, SavesNone}
use Rattle.certificate_audits.specs.Ends.{is_accepted}

-- what an audit says of a block: an objection, or, if there is none, whether it leaves fewer
-- latches
abbrev pub IsFinding : Option ℕ → List ℕ → Netlist → Certificate → Finding → Type 0
IsFinding bound held c block (Objected objection) = Objects bound held c block objection
IsFinding bound held c block Fewer = IsMoveTaken bound held c block
IsFinding bound held c block NotFewer = SavesNone bound held c block

-- the audit doesn't end with the block: its move is taken, and others follow
pub record GoesOn (bound : Option ℕ) (held : List ℕ) (c : Netlist) (block : Certificate) (rest : List Certificate) : Type 0 where
  pub taken : IsMoveTaken bound held c block
  pub follows : rest ≢ []

-- the audit ends in this way with the block, which the others follow; n is 1 if it is confirmed,
-- else 0
abbrev pub EndsWith : Option ℕ → List ℕ → Netlist → Certificate → List Certificate → ℕ → End → Type 0
EndsWith bound held c block rest n ends.NoBlocks = ⊥
EndsWith bound held c block rest n (ends.Objected objection) = (n ≡ 0) × Objects bound held c block objection
EndsWith bound held c block rest n ends.Open = (n ≡ 1) × IsMoveTaken bound held c block × (rest ≡ [])
EndsWith bound held c block rest n ends.Certified = (n ≡ 1) × SavesNone bound held c block × (rest ≡ [])
EndsWith bound held c block rest n ends.BlocksFollow = (n ≡ 1) × SavesNone bound held c block × (rest ≢ [])
EndsWith bound held c block rest n (ends.Misread latch) = ⊥
EndsWith bound held c block rest n (ends.NotShown latch) = ⊥

-- what the blocks end in, if the audit ends in this way with this block of c: after a last move, or
-- at c itself
abbrev pub IsEndOf : List ℕ → Netlist → Certificate → End → Stage → Type 0
IsEndOf held c block ends.NoBlocks s = (s.circuit ≡ c) × (s.keep ≡ held)
IsEndOf held c block ends.Certified s = (s.circuit ≡ c) × (s.keep ≡ held)
IsEndOf held c block ends.Open s = IsNext held c block s.circuit s.keep
IsEndOf held c block ends.BlocksFollow s = ⊥
IsEndOf held c block (ends.Objected objection) s = ⊥
IsEndOf held c block (ends.Misread latch) s = ⊥
IsEndOf held c block (ends.NotShown latch) s = ⊥

-- what the blocks end in, or none if something speaks against the block
abbrev pub IsLastOf : List ℕ → Netlist → Certificate → End → Option Stage → Type 0
IsLastOf held c block end last = MatchOption last (is_accepted end ≡ false) (IsEndOf held c block end)
