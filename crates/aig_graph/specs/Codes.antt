-- The numbers of the faults.
use Rattle.std.specs.Prelude.{ℕ}
use Rattle.aig_graph.specs.declared.build.BuildError.{BuildError}
use Rattle.aig_graph.specs.declared.build.BuildError.TheVariants.{NoMemory, TooLarge}

-- the number of an error of the builder
abbrev pub build_error_code : BuildError → ℕ
build_error_code NoMemory = 1
build_error_code TooLarge = 2
