-- The shared literals of the parts of a step have the parts' values.
use Rattle.std.proofs.Common.{ℕ, ◌+◌, ◌<◌, ◌≡◌, suc, zero, Bool, true, not, List, ◌∷◌, ◌++◌, length, map, replicate, refl, arith, ap, ap₂, ◌∙◌, length-append}
use Rattle.std.specs.List.{All}
use Rattle.std.proofs.lemmas.List.{length-map, length-replicate, map-append}
use Rattle.aig_graph.specs.Circuits.{ArePropsOf, IsNetlist, Netlist}
use Rattle.aig_graph.specs.Gates.{Gates}
use Rattle.aig_graph.specs.Graph.{Graph, IsGraph, IsLiteralOf, variable, variables_end}
use Rattle.aig_graph.specs.declared.properties.Props.{Props}
use Rattle.aig_graph.specs.Streams.{property_literals}
use Rattle.aig_graph.proofs.PropsLaws.{to_literals}
use Rattle.aig_graph.proofs.ShapeLaws.{as-many}
use Rattle.state_maps.specs.States.{Digits, State}
use Rattle.state_maps.specs.MapCircuits.{is_kept}
use Rattle.map_checks.specs.Answers.{AreFitting}
use Rattle.gate_sharing.specs.Copies.{Copy, copy_of}
use Rattle.gate_sharing.specs.Equal.{Equal}
use Rattle.map_checks.specs.Images.{AreComparedCopies, Views, in_first, in_map_later, in_second_mapped, nexts_of}
use Rattle.map_checks.specs.Parts.{ArePairs, given, given_literals, parts, wanted, wanted_literals}
use Rattle.map_checks.proofs.ImageLaws.{copied-list, nexts-within}

-- the literals of all properties are of the graph
pub properties-within : (g : Graph) (p : Props) → ArePropsOf g p → All (λ lit. variable lit < variables_end g) (property_literals p)
properties-within g p are = to_literals (λ lit. IsLiteralOf g lit) p (record { outputs = are.outputs; bad = are.bad; constraints = are.constraints; justice = are.justice; fairness = are.fairness })

-- literals of 1 have the value 1
ones-many : (values : ℕ → Bool) → values 1 ≡ true → (n : ℕ) → map values (replicate n 1) ≡ replicate n true
ones-many values one zero = refl
ones-many values one (suc n) = ap₂ (λ (b : Bool) bs. b ∷ bs) one (ones-many values one n)

module _ (c d m : Netlist) (before later after : Copy) where
  -- what a step gives has a literal for each part
  pub given-many : length (given_literals d m later after) ≡ parts d m
  given-many =
      let ls : List ℕ = map (copy_of later) m.props.constraints in
      let bs : List ℕ = map (copy_of later) m.props.outputs in
      let ps : List ℕ = map (copy_of after) (property_literals d.props) in
      omega (arith, length-append (ls ++ bs) ps, length-append ls bs, length-map m.props.constraints (copy_of later), length-map m.props.outputs (copy_of later), length-map (property_literals d.props) (copy_of after))

  -- and so has what it must be
  pub wanted-many : AreFitting c d m → length (wanted_literals c d m before after) ≡ parts d m
  wanted-many fitting =
      let ones : List ℕ = replicate (length m.props.constraints) 1 in
      let ns : List ℕ = map (copy_of after) (nexts_of d.aig.latches) in
      let ps : List ℕ = map (copy_of before) (property_literals c.props) in
      omega (
        arith,
        length-append (ones ++ ns) ps,
        length-append ones ns,
        length-replicate {A = ℕ} (length m.props.constraints) 1,
        length-map (nexts_of d.aig.latches) (copy_of after),
        length-map d.aig.latches (λ latch. latch.next),
        fitting.outputs,
        length-map (property_literals c.props) (copy_of before),
        as-many c d fitting.shape,
      )

  module _ (k : Gates) (e f : Equal) (fitting : AreFitting c d m) (first : IsNetlist c) (second : IsNetlist d) (second_graph : IsGraph d.aig) (map_is : IsNetlist m) (sides : AreComparedCopies k e f c d m before later after) where
    module _ (values : ℕ → Bool) (x : Digits) (s : State) (views : Views k e c.aig x s values) (kept : is_kept m s) where
      given-values : map values (given_literals d m later after) ≡ given c d m x s
      given-values =
          let all = sides.follows values x s views kept in
          let ls : List ℕ = map (copy_of later) m.props.constraints in
          let bs : List ℕ = map (copy_of later) m.props.outputs in
          let ps : List ℕ = map (copy_of after) (property_literals d.props) in
          map-append values (ls ++ bs) ps
          ∙ ap₂ (λ (us : List Bool) vs. us ++ vs)
          (map-append values ls bs
          ∙ ap₂ (λ (us : List Bool) vs. us ++ vs) (copied-list later (variables_end m.aig) values (in_map_later c m x s) all.1 m.props.constraints map_is.props.constraints)
          (copied-list later (variables_end m.aig) values (in_map_later c m x s) all.1 m.props.outputs map_is.props.outputs))
          (copied-list after (variables_end d.aig) values (in_second_mapped d m x s) all.2 (property_literals d.props) (properties-within d.aig d.props second.props))

      wanted-values : map values (wanted_literals c d m before after) ≡ wanted c d m x s
      wanted-values =
          let all = sides.follows values x s views kept in
          let n : ℕ = length m.props.constraints in
          let ns : List ℕ = map (copy_of after) (nexts_of d.aig.latches) in
          let ps : List ℕ = map (copy_of before) (property_literals c.props) in
          map-append values (replicate n 1 ++ ns) ps
          ∙ ap₂ (λ (us : List Bool) vs. us ++ vs)
          (map-append values (replicate n 1) ns
          ∙ ap₂ (λ (us : List Bool) vs. us ++ vs) (ones-many values (views.respects.negation 0 ∙ ap not views.respects.constant) n)
          (copied-list after (variables_end d.aig) values (in_second_mapped d m x s) all.2 (nexts_of d.aig.latches) (nexts-within d.aig second_graph)))
          (copied-list before (variables_end c.aig) values (in_first c x s) all.0 (property_literals c.props) (properties-within c.aig c.props first.props))

    -- the literals of the copies that are compared are those of the parts
    pub are-pairs : (lits others : List ℕ) → lits ≡ given_literals d m later after → others ≡ wanted_literals c d m before after → ArePairs k e f c d m lits others
    are-pairs lits others one two = record {
      long = ap length one ∙ given-many;
      as_long = ap length two ∙ wanted-many fitting;
      right = sides.right;
      lits_are = λ values x s views kept. ap (map values) one ∙ given-values values x s views kept;
      others_are = λ values x s views kept. ap (map values) two ∙ wanted-values values x s views kept;
    }
