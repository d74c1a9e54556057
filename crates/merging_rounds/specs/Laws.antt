-- Laws of rounds.
use Rattle.std.specs.Prelude.{ℕ, ◌≡◌, Bool, List, length, Option, Some, slice_get}
use Rattle.aig_graph.specs.Circuits.{IsNetlist, Netlist}
use Rattle.aig_graph.specs.Graph.{IsGraph}
use Rattle.aig_graph.specs.Keep.{Holding}
use Rattle.aig_graph.specs.declared.choice.Choice.{Choice}
use Rattle.ascii_file.specs.Laws.{IsWithinLimits}
use Rattle.certificate_files.specs.declared.file.CertPart.{CertPart}
use Rattle.retimed_circuits.specs.declared.report.Retimed.{Retimed}
use Rattle.retimed_circuits.specs.Certified.{SameButRoutes}
use Rattle.retimed_circuits.specs.RetimingLevels.{KeepsLevels}
use Rattle.merging_rounds.specs.Rounds.{IsRetimedInRounds, merged_in}
use Rattle.merging_rounds.specs.declared.rounds.Rounds.{Rounds}

-- one part, whether certificates are wanted or not; if they are of both or of none, one but for
-- their routes
pub record IsSamePart (certify other : Bool) (a b : CertPart) : Type 0 where
  pub merged : a.merged ≡ b.merged
  pub blocks : certify ≡ other → SameButRoutes a.blocks b.blocks

-- so of rounds, part by part
pub record AreSameRounds (certify other : Bool) (r s : Rounds) : Type 0 where
  pub circuit : r.circuit ≡ s.circuit
  pub free : r.kept_free ≡ s.kept_free
  pub latches : r.read_latches ≡ s.read_latches
  pub frames : r.frames ≡ s.frames
  pub many : length r.parts ≡ length s.parts
  pub parts : (i : ℕ) (a b : CertPart) → slice_get r.parts i ≡ Some a → slice_get s.parts i ≡ Some b → IsSamePart certify other a b

-- What a circuit is retimed to in rounds is one, and so are its certificates but for their routes.
-- It depends on what is asked for alone. If latches are merged, it depends on which are in each
-- round, and what they read as.
abbrev pub AreDetermined : Bool → Option ℕ → Choice → Netlist → Holding → ℕ → Type 0
AreDetermined merge bound choice c holding max_frames = (certify other : Bool) (runs others : List Retimed) (r s : Rounds) (now later : List ℕ)
    → IsRetimedInRounds merge bound choice c holding max_frames certify runs r now → IsRetimedInRounds merge bound choice c holding max_frames other others s later
    → merged_in r ≡ merged_in s → AreSameRounds certify other r s

-- it keeps the bound that it was retimed under
abbrev pub RoundsKeepLevels : Bool → Option ℕ → Choice → Netlist → Holding → ℕ → Type 0
RoundsKeepLevels merge bound choice c holding max_frames = (certify : Bool) (runs : List Retimed) (r : Rounds) (now : List ℕ)
    → IsGraph c.aig → IsNetlist c → IsRetimedInRounds merge bound choice c holding max_frames certify runs r now → KeepsLevels bound c r.circuit

-- and stays within the limits of a header
abbrev pub RoundsStayWithin : Bool → Option ℕ → Choice → Netlist → Holding → ℕ → Type 0
RoundsStayWithin merge bound choice c holding max_frames = (certify : Bool) (runs : List Retimed) (r : Rounds) (now : List ℕ)
    → IsRetimedInRounds merge bound choice c holding max_frames certify runs r now → IsWithinLimits c → IsWithinLimits r.circuit
