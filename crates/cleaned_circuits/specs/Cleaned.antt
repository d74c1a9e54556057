-- Passes, until one changes nothing.
use Rattle.std.specs.Prelude.{ℕ, ◌≡◌, ◌≢◌, Bool, List, map}
use Rattle.aig_graph.specs.Circuits.{Netlist}
use Rattle.aig_graph.specs.Laws.{composed}
use Rattle.cleaned_circuits.specs.Merged.{merged_of}
use Rattle.cleaned_circuits.specs.Reached.{AreReached}
use Rattle.cleaned_circuits.specs.Trimmed.{trimmed_of, kept_free, new_position}

-- d is c after a pass. Of the latches that stay, kept has the places of the free ones among c's,
-- and still_held the new positions of the held ones.
pub record IsPass (held : List ℕ) (c d : Netlist) (kept still_held : List ℕ) : Type 0 where
  pub reached : ℕ → Bool
  pub are_reached : AreReached (merged_of held c).aig (merged_of held c).props held reached
  pub circuit : d ≡ trimmed_of (merged_of held c) reached
  pub free : kept ≡ kept_free (merged_of held c).aig reached
  pub positions : still_held ≡ map (new_position (merged_of held c).aig reached) held

-- d is the first of c and what passes make of it that a pass leaves unchanged
pub data Cleans (d : Netlist) : List ℕ → Netlist → List ℕ → Type 0 where
  unchanged : (held : List ℕ) (c : Netlist) (kept : List ℕ) → IsPass held c c kept held → d ≡ c → Cleans d held c kept
  after_pass : (held : List ℕ) (c e : Netlist) (first second still_held : List ℕ) → IsPass held c e first still_held → e ≢ c
      → Cleans d still_held e second → Cleans d held c (composed first second)
