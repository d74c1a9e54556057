-- How two circuits and a map of states go together.
use Rattle.aig_graph.specs.Circuits.{Netlist}
use Rattle.aig_graph.specs.Streams.{SameShape}
use Rattle.map_checks.specs.Answers.{AreFitting, IsMap}
use Rattle.map_commands.specs.declared.fitting.Fit.{Fit}
use Rattle.map_commands.specs.declared.fitting.Fit.TheVariants.{Fits, NotAMap, ShapesDiffer}

-- c and d have one shape, and m hasn't their latches
abbrev pub IsMisfit : Netlist → Netlist → Netlist → Type 0
IsMisfit c d m = SameShape c d × (AreFitting c d m → ⊥)

-- an answer holds of them; of what isn't a map anything follows
abbrev pub IsFitOf : Netlist → Netlist → Netlist → Fit → Type 0
IsFitOf c d m Fits = IsMap m × AreFitting c d m
IsFitOf c d m ShapesDiffer = IsMap m × (SameShape c d → ⊥)
IsFitOf c d m NotAMap = IsMap m → IsMisfit c d m
