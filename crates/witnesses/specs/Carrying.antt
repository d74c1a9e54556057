-- The witness for a circuit, from one for the circuit that it was retimed to.
use Rattle.std.specs.Prelude.{ℕ, zero, suc, ◌==◌, Bool, false, List, [], ◌∷◌, drop, if◌then◌else◌}
use Rattle.std.specs.List.{slice_index_or}
use Rattle.aig_graph.specs.declared.graph.Latch.{Latch}
use Rattle.aig_graph.specs.declared.graph.Reset.{Reset}
use Rattle.aig_graph.specs.declared.graph.Reset.TheVariants as reset
use Rattle.aig_graph.specs.Graph.{Graph, is_free, free_latches}
use Rattle.witnesses.specs.declared.witness.Digit.{Digit}
use Rattle.witnesses.specs.declared.witness.Digit.TheVariants.{Zero, One, Either}
use Rattle.witnesses.specs.declared.witness.Witness.{Witness}

-- the values of the free latches among all latches, in order
unfoldable pub free_digits : List Latch → List Digit → List Digit
free_digits [] digits = []
free_digits (latch ∷ latches) [] = []
free_digits (latch ∷ latches) (digit ∷ digits) = if is_free latch then digit ∷ free_digits latches digits else free_digits latches digits

abbrev pub first_of : List Digit → Digit
first_of digits = slice_index_or digits 0 Either

-- whether the place is the first of these
abbrev pub is_first : List ℕ → ℕ → Bool
is_first [] place = false
is_first (k ∷ kept) place = k == place

-- Values for count free latches, which have the places from place on. Those at the kept places have
-- these, in order, and all others either.
unfoldable pub spread : ℕ → ℕ → List ℕ → List Digit → List Digit
spread zero place kept digits = []
spread (suc count) place kept digits =
    if is_first kept place then first_of digits ∷ spread count (suc place) (drop 1 kept) (drop 1 digits) else Either ∷ spread count (suc place) kept digits

-- what a latch with a reset holds at step 0: that, or the first of these values
abbrev pub opened : Reset → List Digit → Digit
opened reset.Zero free = Zero
opened reset.One free = One
opened reset.Free free = first_of free

-- what latches hold at step 0: the known ones their resets, the free ones these values, in order
unfoldable pub opening_digits : List Latch → List Digit → List Digit
opening_digits [] free = []
opening_digits (latch ∷ latches) free = opened latch.reset free ∷ opening_digits latches (if is_free latch then drop 1 free else free)

-- what c's latches hold at step 0, if those of its free latches at the kept places hold these
-- values
abbrev pub carried_digits : Graph → List ℕ → List Digit → List Digit
carried_digits c kept free = opening_digits c.latches (spread (free_latches c) 0 kept free)

-- a witness of d as one of c, if d's free latches are those at the kept places among c's
abbrev pub carried : Graph → Graph → List ℕ → Witness → Witness
carried c d kept w = record {
  properties = w.properties;
  latches = carried_digits c kept (free_digits d.latches w.latches);
  inputs = w.inputs;
}
