-- How a binary file's header counts its variables.
use Rattle.std.specs.Prelude.{◌+◌, ◌==◌, Bool, not}
use Rattle.ascii_file.specs.declared.header.Header.{Header}

-- inputs, latches and gates are more or fewer than the greatest variable
abbrev pub is_miscounted : Header → Bool
is_miscounted h = not (h.inputs + h.latches + h.gates == h.greatest)
