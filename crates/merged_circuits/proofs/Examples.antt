-- Readings of small circuits, and what the circuits are where latches read so.
use Rattle.std.proofs.Common.{ℕ, ◌≡◌, List, [], ◌∷◌, Bool, true, false, not, ◌&&◌, map, refl, ap, sym, ◌∙◌}
use Rattle.aig_graph.specs.declared.graph.Reset.TheVariants.{Zero, One}
use Rattle.aig_graph.specs.Gates.{AreEqualIn, gates_of}
use Rattle.aig_graph.specs.Graph.{Graph}
use Rattle.aig_graph.specs.Tables.{table}
use Rattle.cleaned_circuits.specs.Merged.{merge_gates, substitutes_after, replaced_graph}
use Rattle.merged_circuits.specs.Counts.{counts_of}
use Rattle.merged_circuits.specs.Lines.{merged_lines}
use Rattle.merged_circuits.specs.Readings.{leaves, own_reading, substitutes_by, signature}

-- the signature of each latch by a reading
abbrev all_signatures : Graph → List ℕ → List ℕ
all_signatures g reads = map (signature (substitutes_by g reads)) g.latches

-- the graph, if latches read so
abbrev merged_by : Graph → List ℕ → Graph
merged_by g reads = replaced_graph (substitutes_by g reads) g

-- two latches that are 1 until the input was once 0
once : Graph
once = record {
  inputs = 1;
  latches = record { next = 8; reset = One } ∷ record { next = 10; reset = One } ∷ [];
  gates = record { rhs0 = 4; rhs1 = 2 } ∷ record { rhs0 = 6; rhs1 = 2 } ∷ [];
}

-- the second reads as the first, and has its signature
once-signature : all_signatures once (4 ∷ 4 ∷ []) ≡ 9 ∷ 9 ∷ []
unfolding once leaves table merge_gates substitutes_after
once-signature = refl

once-merged : merged_by once (4 ∷ 4 ∷ [])
    ≡ record {
      inputs = 1;
      latches = record { next = 8; reset = One } ∷ record { next = 8; reset = One } ∷ [];
      gates = record { rhs0 = 4; rhs1 = 2 } ∷ record { rhs0 = 4; rhs1 = 2 } ∷ [];
    }
unfolding once leaves table merge_gates substitutes_after replaced_graph
once-merged = refl

-- the second is the complement of the first
complements : Graph
complements = record {
  inputs = 1;
  latches = record { next = 8; reset = One } ∷ record { next = 11; reset = Zero } ∷ [];
  gates = record { rhs0 = 4; rhs1 = 2 } ∷ record { rhs0 = 7; rhs1 = 2 } ∷ [];
}

complements-signature : all_signatures complements (4 ∷ 5 ∷ []) ≡ 9 ∷ 9 ∷ []
unfolding complements leaves table merge_gates substitutes_after
complements-signature = refl

-- constant behind a gate
behind : Graph
behind = record { inputs = 1; latches = record { next = 6; reset = Zero } ∷ []; gates = record { rhs0 = 4; rhs1 = 2 } ∷ [] }

behind-signature : all_signatures behind (0 ∷ []) ≡ 0 ∷ []
unfolding behind leaves table merge_gates substitutes_after
behind-signature = refl

-- constant by each other
each_other : Graph
each_other = record { inputs = 0; latches = record { next = 4; reset = Zero } ∷ record { next = 2; reset = Zero } ∷ []; gates = [] }

each_other-signature : all_signatures each_other (0 ∷ 0 ∷ []) ≡ 0 ∷ 0 ∷ []
unfolding each_other leaves table merge_gates substitutes_after
each_other-signature = refl

-- two that take turns: each is the other's complement, and isn't constant
turns : Graph
turns = record { inputs = 0; latches = record { next = 4; reset = Zero } ∷ record { next = 2; reset = One } ∷ []; gates = [] }

turns-constant : all_signatures turns (0 ∷ 1 ∷ []) ≡ 1 ∷ 1 ∷ []
unfolding turns leaves table merge_gates substitutes_after
turns-constant = refl

turns-signature : all_signatures turns (2 ∷ 3 ∷ []) ≡ 3 ∷ 3 ∷ []
unfolding turns leaves table merge_gates substitutes_after
turns-signature = refl

turns-merged : merged_by turns (2 ∷ 3 ∷ []) ≡ record { inputs = 0; latches = record { next = 3; reset = Zero } ∷ record { next = 2; reset = One } ∷ []; gates = [] }
unfolding turns leaves table merge_gates substitutes_after replaced_graph
turns-merged = refl

-- two registers with one enable: each holds by reading itself, so cleaning sees no twins
one_enable : Graph
one_enable = record {
  inputs = 2;
  latches = record { next = 14; reset = Zero } ∷ record { next = 18; reset = Zero } ∷ [];
  gates = record { rhs0 = 4; rhs1 = 2 } ∷ record { rhs0 = 6; rhs1 = 3 } ∷ record { rhs0 = 13; rhs1 = 11 } ∷ record { rhs0 = 8; rhs1 = 3 } ∷ record { rhs0 = 17; rhs1 = 11 } ∷ [];
}

one_enable-signature : all_signatures one_enable (6 ∷ 6 ∷ []) ≡ 14 ∷ 14 ∷ []
unfolding one_enable leaves table merge_gates substitutes_after
one_enable-signature = refl

-- a & !(a & !b), and a & b: their signatures are two gates that are always equal
built : Graph
built = record {
  inputs = 2;
  latches = record { next = 12; reset = Zero } ∷ record { next = 14; reset = Zero } ∷ [];
  gates = record { rhs0 = 5; rhs1 = 2 } ∷ record { rhs0 = 11; rhs1 = 2 } ∷ record { rhs0 = 4; rhs1 = 2 } ∷ [];
}

built-signature : all_signatures built (6 ∷ 6 ∷ []) ≡ 12 ∷ 14 ∷ []
unfolding built leaves table merge_gates substitutes_after
built-signature = refl

built-lines : merged_lines built (6 ∷ 6 ∷ []) ≡ record { latch = 4; reads = 6 } ∷ []
unfolding built merged_lines table
built-lines = refl

one_conjunction : (a b : Bool) → (not (not b && a) && a) ≡ (b && a)
one_conjunction true true = refl
one_conjunction true false = refl
one_conjunction false true = refl
one_conjunction false false = refl

-- so the second may read as the first
built-alike : AreEqualIn (gates_of (merged_by built (6 ∷ 6 ∷ []))) 12 14
unfolding built leaves table merge_gates substitutes_after replaced_graph
built-alike values respects =
    let inner : values 10 ≡ (not (values 4) && values 2) = respects.gates 0 (record { rhs0 = 5; rhs1 = 2 }) refl ∙ ap (λ (b : Bool). b && values 2) (respects.negation 2) in
    respects.gates 1 (record { rhs0 = 11; rhs1 = 2 }) refl ∙ ap (λ (b : Bool). b && values 2) (respects.negation 5 ∙ ap not inner)
    ∙ one_conjunction (values 2) (values 4) ∙ sym (respects.gates 2 (record { rhs0 = 4; rhs1 = 2 }) refl)

-- the second is told the complement and starts at 1, so it reads as the complement
opposite : Graph
opposite = record built { latches = record { next = 12; reset = Zero } ∷ record { next = 15; reset = One } ∷ [] }

opposite-signature : all_signatures opposite (6 ∷ 7 ∷ []) ≡ 12 ∷ 14 ∷ []
unfolding opposite built leaves table merge_gates substitutes_after
opposite-signature = refl

opposite-lines : merged_lines opposite (6 ∷ 7 ∷ []) ≡ record { latch = 4; reads = 7 } ∷ []
unfolding opposite built merged_lines table
opposite-lines = refl

-- (a & b) & (!a & c) is never 1
never : Graph
never = record {
  inputs = 3;
  latches = record { next = 14; reset = Zero } ∷ [];
  gates = record { rhs0 = 4; rhs1 = 2 } ∷ record { rhs0 = 6; rhs1 = 3 } ∷ record { rhs0 = 12; rhs1 = 10 } ∷ [];
}

never-signature : all_signatures never (0 ∷ []) ≡ 14 ∷ []
unfolding never leaves table merge_gates substitutes_after
never-signature = refl

-- a register that is told a if !a & b, and holds otherwise: if it reads as 0, it is told !a & a & b
holds : Graph
holds = record {
  inputs = 2;
  latches = record { next = 15; reset = Zero } ∷ [];
  gates = record { rhs0 = 4; rhs1 = 3 } ∷ record { rhs0 = 8; rhs1 = 2 } ∷ record { rhs0 = 9; rhs1 = 6 } ∷ record { rhs0 = 13; rhs1 = 11 } ∷ [];
}

holds-signature : all_signatures holds (0 ∷ []) ≡ 10 ∷ []
unfolding holds leaves table merge_gates substitutes_after
holds-signature = refl

holds-lines : merged_lines holds (0 ∷ []) ≡ record { latch = 3; reads = 0 } ∷ []
unfolding holds merged_lines table
holds-lines = refl

holds-counts : counts_of (merged_lines holds (0 ∷ [])) ≡ record { merged = 1; constant = 1 }
unfolding holds merged_lines table
holds-counts = refl

-- if each reads as itself, there is no line
built-own : merged_lines built (own_reading built) ≡ []
unfolding built own_reading merged_lines table
built-own = refl
