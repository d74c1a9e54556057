-- What becomes of a witness if step by step the properties of two circuits have equal values.
use Rattle.std.specs.Prelude.{ℕ, ◌≡◌, ◌↔◌, Bool, true, false, List, Some, slice_get}
use Rattle.aig_graph.specs.Graph.{Graph}
use Rattle.aig_graph.specs.Circuits.{Netlist}
use Rattle.aig_graph.specs.Value.{Inputs, Choice}
use Rattle.aig_graph.specs.Streams.{SameStreams, chosen}
use Rattle.witnesses.specs.declared.witness.Digit.{Digit}
use Rattle.witnesses.specs.declared.witness.Digit.TheVariants.{Zero, One, Either}
use Rattle.witnesses.specs.declared.witness.Witness.{Witness}
use Rattle.witnesses.specs.Carrying.{free_digits, carried}
use Rattle.witnesses.specs.Reaching.{ReachesBadState}

-- a value that a digit stands for
abbrev pub Allows : Digit → Bool → Type 0
Allows Zero b = b ≡ false
Allows One b = b ≡ true
Allows Either b = Unit {0}

-- the values of a step that a row of digits stands for
abbrev pub AllowsRow : List Digit → (ℕ → Bool) → Type 0
AllowsRow row values = (i : ℕ) (digit : Digit) → slice_get row i ≡ Some digit → Allows digit (values i)

-- inputs and a choice for the free latches that a witness stands for
pub record Agrees (g : Graph) (w : Witness) (x : Inputs) (f : Choice) : Type 0 where
  pub inputs : (t : ℕ) (row : List Digit) → slice_get w.inputs t ≡ Some row → AllowsRow row (x t)
  pub choice : AllowsRow (free_digits g.latches w.latches) f

-- whatever it stands for, bad state n is reached at step t
abbrev pub ShowsBadState : Netlist → Witness → ℕ → ℕ → Type 0
ShowsBadState c w n t = (x : Inputs) (f : Choice) → Agrees c.aig w x f → ReachesBadState c x f n t

-- each bad state is reached at equal steps
abbrev pub ReachesAlike : Netlist → Netlist → List ℕ → Type 0
ReachesAlike c d kept = SameStreams c d kept → (x : Inputs) (f : Choice) (n t : ℕ) → ReachesBadState d x (chosen kept f) n t ↔ ReachesBadState c x f n t

-- a witness of d, carried back, is one of c
abbrev pub IsCarriedBack : Netlist → Netlist → List ℕ → Witness → Type 0
IsCarriedBack c d kept w = SameStreams c d kept → (n t : ℕ) → ShowsBadState d w n t → ShowsBadState c (carried c.aig d.aig kept w) n t
