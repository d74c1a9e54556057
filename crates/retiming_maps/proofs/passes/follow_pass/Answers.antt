use Rattle.std.proofs.Common.{ℕ, ◌+◌, ◌≡◌, ◌∙◌, Bool, List, arith, ap, sym, subst, length, get_or, slice_get}
use Rattle.std.specs.List.{All}
use Rattle.aig_graph.specs.Circuits.{AreLiteralsOf, Netlist}
use Rattle.aig_graph.specs.Graph.{Graph, first_latch}
use Rattle.cleaned_circuits.specs.Latches.{latch_substitute}
use Rattle.aig_graph.specs.Tables.{table}
use Rattle.aig_graph.proofs.TableLaws.{length-table}
use Rattle.map_circuits.specs.Constraining.{AddsSubstitutes, IsSubstitute}
use Rattle.map_circuits.specs.Stepping.{ArePassed}
use Rattle.retiming_maps.proofs.SubstitutesLaws.{all-substitutes, latch_substitutes}
use Rattle.retiming_maps.proofs.StepLaws.{pass-map}
use Rattle.retiming_maps.proofs.passes.follow_pass.Goals as goal

pub add_constraints-requires-clause-graph : goal.add_constraints-requires-clause-graph
add_constraints-requires-clause-graph c = c.requires.map.2.graph

pub add_constraints-requires-clause-constraints : goal.add_constraints-requires-clause-constraints
add_constraints-requires-clause-constraints c = c.requires.map.2.constraints_within

pub add_constraints-requires-clause-functions : goal.add_constraints-requires-clause-functions
add_constraints-requires-clause-functions c =
    subst (λ (lits : List ℕ). AreLiteralsOf c.args.parts.now.gates lits) (sym c.as_slice-functions.ensures) c.requires.map.2.functions_within

pub add_constraints-requires-clause-substitutes : goal.add_constraints-requires-clause-substitutes
add_constraints-requires-clause-substitutes c =
    let d : Graph = c.args.circuit.now.aig in
    let held : List ℕ = c.args.held.now in
    let functions : List ℕ = c.args.parts.now.functions in
    let P : ℕ → List ℕ → List ℕ → Type 0 = λ first lits substitutes. All (λ substitute. IsSubstitute first lits substitute) substitutes in
    let start : c.first_latch-first.result ≡ first_latch d = c.first_latch-first.ensures.value ∙ ap first_latch c.aig.ensures.value in
    let listed : c.as_slice-substitutes.result.now ≡ latch_substitutes d held = c.as_slice-substitutes.ensures.value ∙ c.requires.traced.substitutes in
    subst (λ (n : ℕ). P n c.as_slice-functions.result.now c.as_slice-substitutes.result.now) (sym start)
    (subst (λ (lits : List ℕ). P (first_latch d) lits c.as_slice-substitutes.result.now) (sym c.as_slice-functions.ensures)
    (subst (λ (substitutes : List ℕ). P (first_latch d) functions substitutes) (sym listed) (all-substitutes d held functions c.requires.map.2.many)))

pub add_constraints-requires-clause-long : goal.add_constraints-requires-clause-long
add_constraints-requires-clause-long c =
    let d : Graph = c.args.circuit.now.aig in
    let held : List ℕ = c.args.held.now in
    let listed : c.as_slice-substitutes.result.now ≡ latch_substitutes d held = c.as_slice-substitutes.ensures.value ∙ c.requires.traced.substitutes in
    omega (
      arith,
      ap (λ (xs : List ℕ). length xs) listed,
      length-table 0 (length d.latches) (λ j. latch_substitute d held j (slice_get d.latches j)),
      ap (λ (xs : List ℕ). length xs) c.as_slice-functions.ensures,
      c.requires.map.2.many,
    )

pub follow_pass-requires : goal.follow_pass-requires
follow_pass-requires c =
    let d : Graph = c.args.circuit.now.aig in
    let filled : c.as_slice-stays.result.now ≡ table 0 (length d.latches) (λ j. c.requires.traced.pass.reached (first_latch d + j)) = c.as_slice-stays.ensures.value ∙ c.requires.traced.stays in
    omega (
      arith,
      ap (λ (xs : List Bool). length xs) filled,
      length-table 0 (length d.latches) (λ j. c.requires.traced.pass.reached (first_latch d + j)),
      c.requires.map.2.many,
    )

pub returns : goal.returns
returns c = λ b k p.
    let d : Netlist = c.args.circuit.now in
    let held : List ℕ = c.args.held.now in
    let g : Graph = c.args.parts.now.gates in
    let h : Graph = c.add_constraints.new.gates in
    let functions : List ℕ = c.args.parts.now.functions in
    let old : List ℕ = c.args.parts.now.constraints.items in
    let constraints : List ℕ = c.add_constraints.new.constraints.items in
    let traced = c.requires.traced in
    let r : ℕ → Bool = traced.pass.reached in
    let same : c.as_slice-functions.result.now ≡ functions = c.as_slice-functions.ensures in
    let start : c.first_latch-first.result ≡ first_latch d.aig = c.first_latch-first.ensures.value ∙ ap first_latch c.aig.ensures.value in
    let listed : c.as_slice-substitutes.result.now ≡ latch_substitutes d.aig held = c.as_slice-substitutes.ensures.value ∙ traced.substitutes in
    let filled : c.as_slice-stays.result.now ≡ table 0 (length d.aig.latches) (λ j. r (first_latch d.aig + j)) = c.as_slice-stays.ensures.value ∙ traced.stays in
    let P : ℕ → List ℕ → List ℕ → Type 0 = λ first lits substitutes. AddsSubstitutes g first lits substitutes (length substitutes) h old constraints in
    let adds : P (first_latch d.aig) functions (latch_substitutes d.aig held) =
    subst (λ (substitutes : List ℕ). P (first_latch d.aig) functions substitutes) listed
    (subst (λ (lits : List ℕ). P (first_latch d.aig) lits c.as_slice-substitutes.result.now) same
    (subst (λ (n : ℕ). P n c.as_slice-functions.result.now c.as_slice-substitutes.result.now) start c.in_ok-add_constraints.ensures)) in
    let new : List ℕ = c.follow_pass.new.self in
    let within : AreLiteralsOf h functions = λ j a less. adds.extends.literals (get_or functions j a) (p.functions_within j a less) in
    let passed : ArePassed h functions d.aig r new = c.follow_pass.ensures h d.aig r within filled in
    pass-map b d c.args.pass.now.circuit held k c.args.pass.now.kept_free.items c.args.pass.now.held.items g h functions new old constraints
    (record { graph = c.aig.ensures.graph; netlist = c.aig.ensures.netlist }) traced.pass p adds passed
