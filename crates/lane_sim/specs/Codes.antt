-- The numbers of the faults; the names and offsets of those of a text.
use Rattle.std.specs.Prelude.{ℕ, List, Option, Some, None, codes}
use Rattle.lane_sim.specs.declared.fault.StimError.{StimError}
use Rattle.lane_sim.specs.declared.fault.StimError.TheVariants.{BadLine, Width, TooMany, NoMemory}
use Rattle.lane_sim.specs.declared.fault.SimError.{SimError}
use Rattle.lane_sim.specs.declared.fault.SimError.TheVariants.{Shape}
use Rattle.lane_sim.specs.declared.fault.SimError.TheVariants as sim

-- the number of a fault of a stimulus
abbrev pub stim_error_code : StimError → ℕ
stim_error_code (BadLine at) = 1
stim_error_code (Width at) = 2
stim_error_code (TooMany at) = 3
stim_error_code NoMemory = 4

-- the name of a fault
abbrev pub name_of : StimError → List ℕ
name_of (BadLine at) = codes "BadLine"
name_of (Width at) = codes "Width"
name_of (TooMany at) = codes "TooMany"
name_of NoMemory = codes "NoMemory"

-- the offset of what is at fault, if it has one
abbrev pub offset_of : StimError → Option ℕ
offset_of (BadLine at) = Some at
offset_of (Width at) = Some at
offset_of (TooMany at) = Some at
offset_of NoMemory = None

-- the number of an error of simulating
abbrev pub sim_error_code : SimError → ℕ
sim_error_code Shape = 1
sim_error_code sim.NoMemory = 2
