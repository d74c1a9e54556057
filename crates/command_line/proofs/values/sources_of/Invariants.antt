use Rattle.std.proofs.Common.{◌≡◌, map, take}
use Rattle.counted_io.specs.Streams.{source_of}
use Rattle.command_line.proofs.values.sources_of.Given as goal

abbrev pub invariant-loop-path : goal.invariant-loop-path
invariant-loop-path l = l.sources.items ≡ map source_of (take l.path-index l.paths)
