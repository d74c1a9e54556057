-- A pass, by what it leaves, and after others.
use Rattle.std.specs.Prelude.{ℕ, ◌≡◌, Bool, List, map}
use Rattle.aig_graph.specs.Circuits.{Netlist}
use Rattle.aig_graph.specs.Laws.{composed}
use Rattle.cleaned_circuits.specs.Cleaned.{IsPass}
use Rattle.cleaned_circuits.specs.Trimmed.{trimmed_of, kept_free, new_position}

-- e is d after a pass; if kept has the places of d's free latches in an earlier circuit, both has
-- those of e's there
pub record IsPassAfter (held : List ℕ) (d e : Netlist) (kept both still_held : List ℕ) : Type 0 where
  pub second : List ℕ
  pub pass : IsPass held d e second still_held
  pub places : both ≡ composed kept second

-- e is d without what isn't reached here; kept and still_held are as after a pass
pub record IsTrimOf (held : List ℕ) (d e : Netlist) (kept still_held : List ℕ) (reached : ℕ → Bool) : Type 0 where
  pub circuit : e ≡ trimmed_of d reached
  pub free : kept ≡ kept_free d.aig reached
  pub positions : still_held ≡ map (new_position d.aig reached) held
