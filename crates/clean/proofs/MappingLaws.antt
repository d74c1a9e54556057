-- Graphs and properties that are mapped part by part.
use Rattle.std.proofs.Common.{ℕ, ◌+◌, ◌*◌, ◌<◌, ◌≡◌, List, length, map, slice_get, Some, get_or, refl, arith, ap, sym, ◌∙◌, subst}
use Rattle.std.proofs.lemmas.Option.{slice_get_read, slice_get_within}
use Rattle.aig_graph.specs.declared.graph.Gate.{Gate}
use Rattle.aig_graph.specs.declared.graph.Latch.{Latch}
use Rattle.aig_graph.specs.declared.properties.Props.{Props}
use Rattle.aig_graph.specs.Graph.{Graph, IsGraph, IsGateAt, IsLiteralOf, variable, variables_end, first_gate, first_latch}
use Rattle.aig_graph.specs.Circuits.{ArePropsOf}
use Rattle.aig_graph.specs.Mapped.{OfProps}
use Rattle.aig_graph.specs.Value.{signed_as}
use Rattle.cleaned_circuits.specs.Latches.{latch_substitute}
use Rattle.cleaned_circuits.specs.Merged.{replaced, replaced_latch, replaced_gate, replaced_graph, substitutes_of}
use Rattle.aig_graph.proofs.KindLaws.{element}
use Rattle.aig_graph.proofs.PropsLaws.{of_literals, literals_within}
use Rattle.cleaned_circuits.proofs.OwnLaws.{leaf-latch, substitutes-leaf}
use Rattle.cleaned_circuits.proofs.SubstituteLaws.{length-substitutes_of}

-- graphs of equal inputs, latches and gates are one
pub graph-is : (inputs : ℕ) (latches other_latches : List Latch) (gates other_gates : List Gate) (n : ℕ) → n ≡ inputs → latches ≡ other_latches → gates ≡ other_gates
    → ◌≡◌ {A = Graph} (record { inputs = n; latches = latches; gates = gates }) (record { inputs = inputs; latches = other_latches; gates = other_gates })
graph-is inputs latches other_latches gates other_gates n one two three =
    let first : ℕ → Graph = λ m. record { inputs = m; latches = latches; gates = gates } in
    let second : List Latch → Graph = λ ls. record { inputs = inputs; latches = ls; gates = gates } in
    let third : List Gate → Graph = λ gs. record { inputs = inputs; latches = other_latches; gates = gs } in
    ap first one ∙ ap second two ∙ ap third three

-- the inputs, with latches and gates reading what stands for what they read, are the replaced graph
pub replaced-is : (substitutes : List ℕ) (g : Graph) (n : ℕ) (latches : List Latch) (gates : List Gate) → n ≡ g.inputs → latches ≡ map (replaced_latch substitutes) g.latches → gates ≡ map (replaced_gate substitutes) g.gates
    → ◌≡◌ {A = Graph} (record { inputs = n; latches = latches; gates = gates }) (replaced_graph substitutes g)
unfolding replaced_graph
replaced-is substitutes g n latches gates one two three = graph-is g.inputs latches (map (replaced_latch substitutes) g.latches) gates (map (replaced_gate substitutes) g.gates) n one two three

-- the literals of properties, within a table by variable
pub props-within : (g : Graph) (p : Props) (n : ℕ) → ArePropsOf g p → n ≡ variables_end g → OfProps (λ lit. variable lit < n) p
props-within g p n props long =
    let P : ℕ → Type 0 = λ m. OfProps (λ lit. variable lit < m) p in
    subst P (sym long) (of_literals (λ lit. IsLiteralOf g lit) p (literals_within g p props))

-- there is an entry of what stands for each variable
pub substitutes-long : (g : Graph) (held substitutes : List ℕ) → substitutes ≡ substitutes_of g held → length substitutes ≡ variables_end g
substitutes-long g held substitutes is = ap (λ (xs : List ℕ). length xs) is ∙ length-substitutes_of g held

-- what stands for the literal of a latch is what stands for the latch
pub latch-entry : (g : Graph) (held substitutes : List ℕ) (j own : ℕ) → substitutes ≡ substitutes_of g held → j < length g.latches → own ≡ 2 * (first_latch g + j)
    → replaced substitutes own ≡ latch_substitute g held j (slice_get g.latches j)
latch-entry g held substitutes j own is within same =
    let latch = element g.latches j within in
    let place : variable own ≡ first_latch g + j = omega (arith, same) in
    let entry : get_or substitutes (variable own) 0 ≡ latch_substitute g held j (slice_get g.latches j) =
    ap (λ (xs : List ℕ). get_or xs (variable own) 0) is
    ∙ ap (λ (v : ℕ). get_or (substitutes_of g held) v 0) place
    ∙ substitutes-leaf g held (first_latch g + j) (omega (arith, within))
    ∙ leaf-latch g held j latch.0 latch.1
    ∙ ap (latch_substitute g held j) (sym latch.1) in
    let unsigned : (base : ℕ) → signed_as own base ≡ base = λ base. omega (arith, same) in
    unsigned (get_or substitutes (variable own) 0) ∙ entry

-- what a loop over the gates reads is within the table
pub gate-within : (g : Graph) (items : List Gate) (k n : ℕ) (gate : Gate) → IsGraph g → items ≡ g.gates → k < length items → gate ≡ get_or items k gate → n ≡ variables_end g
    → (variable gate.rhs0 < n) × (variable gate.rhs1 < n)
gate-within g items k n gate valid same h read long =
    let there : slice_get g.gates k ≡ Some gate = ap (λ (xs : List Gate). slice_get xs k) (sym same) ∙ slice_get_read items (length items) k gate refl h read in
    let at : IsGateAt (first_gate g + k) gate = valid.gates k gate there in
    let within : k < length g.gates = slice_get_within g.gates k gate there in
    (omega arith, omega arith)

-- what a loop over the gates reads
pub gate-there : (g : Graph) (items : List Gate) (k : ℕ) (gate : Gate) → items ≡ g.gates → k < length items → gate ≡ get_or items k gate → slice_get g.gates k ≡ Some gate
gate-there g items k gate same h read = ap (λ (xs : List Gate). slice_get xs k) (sym same) ∙ slice_get_read items (length items) k gate refl h read

-- a latch that a loop over the latches reads is the graph's at that place
pub latch-there : (g : Graph) (items : List Latch) (k : ℕ) (latch : Latch) → items ≡ g.latches → k < length items → latch ≡ get_or items k latch → slice_get g.latches k ≡ Some latch
latch-there g items k latch same h read = ap (λ (xs : List Latch). slice_get xs k) (sym same) ∙ slice_get_read items (length items) k latch refl h read
