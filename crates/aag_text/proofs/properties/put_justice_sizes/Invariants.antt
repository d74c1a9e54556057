use Rattle.std.proofs.Common.{take, length, List, ℕ, [], ◌∷◌}
use Rattle.std.specs.List.{flat_map}
use Rattle.counted_io.specs.Line.{line}
use Rattle.counted_io.specs.Buffered.{Puts}
use Rattle.aag_text.proofs.properties.put_justice_sizes.Given as goal

abbrev pub invariant-loop-lits : goal.invariant-loop-lits
invariant-loop-lits g l = Puts g.W.CountedWrite.output l.fn.out l.out (flat_map (λ (lits : List ℕ). line (length lits ∷ [])) (take l.lits-index l.justice))
