-- How long paths may get, as a number of the circuit that was read.
use Rattle.std.specs.Prelude.{ℕ, max, Option, Some, None, option_map}
use Rattle.aig_graph.specs.Circuits.{Netlist}
use Rattle.path_levels.specs.Levels.{levels}
use Rattle.frame_runs.specs.declared.bound.PathBound.{PathBound}
use Rattle.frame_runs.specs.declared.bound.PathBound.TheVariants as bounds
use Rattle.frame_runs.specs.declared.options.Options.{Options}

-- how many gates a path may get in any circuit: no bound, the number named, or 0
abbrev pub levels_named : PathBound → Option ℕ
levels_named bounds.None = None
levels_named (bounds.Levels most) = Some most
levels_named bounds.NoLonger = Some 0

-- the bound for c as it was read: no path gets more gates than are named, or than the longest path
-- of c has
abbrev pub bound_for : PathBound → Netlist → Option ℕ
bound_for bound c = option_map (λ most. max most (levels c)) (levels_named bound)

-- the bound of the options in levels of the circuit, if there is one
abbrev pub bound_in : Options → Netlist → Option ℕ
bound_in options c = bound_for options.bound c
