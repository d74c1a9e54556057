-- Whether the name of a symbol has begun.
use Rattle.std.specs.Prelude.{Bool, true, false}
use Rattle.ascii_file.specs.declared.parts.begun.Begun.{Begun}
use Rattle.ascii_file.specs.declared.parts.begun.Begun.TheVariants.{Name}

abbrev pub is_named : Begun → Bool
is_named (Name kind position) = true
is_named begun = false
