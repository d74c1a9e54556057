-- What is shown of the parts of a step, and that a step of the first circuit is one of the second
-- if all are.
use Rattle.std.proofs.Common.{ℕ, ◌+◌, ◌*◌, ◌<◌, ◌≡◌, suc, zero, Bool, true, false, List, [], ◌∷◌, ◌++◌, length, map, replicate, get_or, slice_get, refl, arith, ap, sym, ◌∙◌, subst, length-append}
use Rattle.std.specs.List.{All}
use Rattle.std.proofs.lemmas.List.{ext_get_or, get_or-map, length-map, length-replicate}
use Rattle.std.proofs.lemmas.List.Elements.{All-nil, All-replicate}
use Rattle.std.proofs.lemmas.Option.{none-some}
use Rattle.aig_graph.specs.declared.graph.Latch.{Latch}
use Rattle.aig_graph.specs.Circuits.{Netlist}
use Rattle.aig_graph.specs.Graph.{Graph, IsGraph, IsGateAt, first_gate}
use Rattle.aig_graph.specs.Streams.{property_literals}
use Rattle.aig_graph.proofs.ShapeLaws.{as-many}
use Rattle.aig_graph.specs.Value.{next_value, value_within}
use Rattle.state_maps.specs.States.{Digits, SameReads, State, after_step}
use Rattle.state_maps.specs.MapCircuits.{is_kept, mapped}
use Rattle.state_maps.proofs.WithinLaws.{within_laws}
use Rattle.aig_graph.proofs.ListLaws.{from_map}
use Rattle.aig_graph.specs.Gates.{AreGates, Gates}
use Rattle.gate_sharing.specs.Equal.{Equal}
use Rattle.map_checks.specs.Images.{Views, in_first, in_map_later, in_second_mapped, nexts_of}
use Rattle.map_checks.specs.Answers.{AreFitting, KeepsStates}
use Rattle.map_checks.specs.Parts.{AreMarkedEqual, ArePairs, AreShownWhere, AssumesCase, IsMarked, IsShownWhere, given, parts, wanted}
use Rattle.map_checks.proofs.ImageLaws.{latch-value}
use Rattle.map_checks.proofs.MarkLaws.{marked-within}
use Rattle.map_checks.proofs.ReadLaws.{append-parts, reads-of}
use Rattle.aig_graph.proofs.StreamLaws.{funext}

-- a latch that reads the constant
abbrev pub loose : Latch → Latch
loose latch = record latch { next = 0 }

-- the shared gates over the inputs and latches of c, as a graph
abbrev pub graph_of : Graph → Gates → Graph
graph_of c k = record { inputs = c.inputs; latches = map loose c.latches; gates = k.gates }

module _ (c : Graph) (k : Gates) (are : AreGates k) (after : k.first ≡ first_gate c) where
  many : length (map loose c.latches) ≡ length c.latches
  many = length-map c.latches loose

  -- the shared gates over the inputs and latches of a circuit are a graph
  pub IsGraph-graph_of : IsGraph (graph_of c k)
  IsGraph-graph_of = record {
    small = omega (arith, are.small, after, many);
    latches = λ j latch e.
        let from = from_map loose c.latches j latch e in
        let next : latch.next ≡ 0 = ap (λ (l : Latch). l.next) from.2 in
        omega (arith, next);
    gates = λ j gate e.
        let place : k.first + j ≡ first_gate (graph_of c k) + j = omega (arith, after, many) in
        let P : ℕ → Type 0 = λ n. IsGateAt n gate in
        subst P place (are.gates j gate e);
  }

  -- values that respect the gates, from any state
  pub views-there : (e : Equal) → e.substitutes ≡ [] → (x : Digits) (s : State) → Views k e c x s (value_within (graph_of c k) x s)
  views-there e none x s =
      let laws = within_laws (graph_of c k) IsGraph-graph_of x s in
      record {
        respects = record {
          constant = laws.constant;
          negation = laws.negation;
          gates = λ j gate e.
              let place : 2 * (k.first + j) ≡ 2 * (first_gate (graph_of c k) + j) = omega (arith, after, many) in
              ap (value_within (graph_of c k) x s) place ∙ laws.gate j gate e;
        };
        right = λ place substitute found. absurd (none-some substitute (sym (ap (λ (xs : List ℕ). slice_get xs place) none) ∙ found));
        inputs = laws.input;
        latches = λ j less. latch-value (graph_of c k) IsGraph-graph_of x s j (omega (arith, less, many));
      }

-- what the latches hold a step later, as a list
nexts-read : (latches : List Latch) (own : ℕ → Bool) (j : ℕ) → get_or (map own (nexts_of latches)) j false ≡ next_value own (slice_get latches j)
nexts-read [] own j = refl
nexts-read (latch ∷ latches) own zero = refl
nexts-read (latch ∷ latches) own (suc j) = nexts-read latches own j

-- what a case shows: equal literals among the gates are parts that are what they must be
module _ (k : Gates) (e f h : Equal) (c d m : Netlist) (are : AreGates k) (place : k.first ≡ first_gate c.aig) (none : e.substitutes ≡ []) (lits others case : List ℕ) (pairs : ArePairs k f h c d m lits others)
    (assumes : AssumesCase k c case e f) (marks : List Bool) (long : length marks ≡ length lits) (equal : AreMarkedEqual k h lits others marks) where
  shown-where : (part : ℕ) → IsMarked marks part → IsShownWhere c d m case part
  shown-where part marked x s kept ones =
      let values : ℕ → Bool = value_within (graph_of c.aig k) x s in
      let begun : Views k e c.aig x s values = views-there c.aig k are place e none x s in
      let views : Views k f c.aig x s values = record { respects = begun.respects; right = assumes values x s begun ones; inputs = begun.inputs; latches = begun.latches } in
      let within : part < length lits = omega (arith, marked-within marks part marked, long) in
      ap (λ (bs : List Bool). get_or bs part false) (sym (pairs.lits_are values x s views kept))
      ∙ get_or-map values lits part 0 false within
      ∙ equal part marked values begun.respects (pairs.right values x s views kept)
      ∙ sym (get_or-map values others part 0 false (omega (arith, within, pairs.long, pairs.as_long)))
      ∙ ap (λ (bs : List Bool). get_or bs part false) (pairs.others_are values x s views kept)

  -- the marked parts are shown where the case holds
  pub are-shown : AreShownWhere c d m case marks
  are-shown = record { long = long ∙ pairs.long; shown = shown-where }

-- where all parts are shown the map keeps states
module _ (c d m : Netlist) (fitting : AreFitting c d m) (all : (part : ℕ) → part < parts d m → IsShownWhere c d m [] part) where
  module _ (x : Digits) (s : State) (holds : is_kept m s) where
    abbrev kept_later : List Bool
    kept_later = map (in_map_later c m x s) m.props.constraints

    abbrev held_later : List Bool
    held_later = map (in_map_later c m x s) m.props.outputs

    abbrev nexts_later : List Bool
    nexts_later = map (in_second_mapped d m x s) (nexts_of d.aig.latches)

    abbrev ones : List Bool
    ones = replicate (length m.props.constraints) true

    kept-long : length kept_later ≡ length ones
    kept-long = length-map m.props.constraints (in_map_later c m x s) ∙ sym (length-replicate (length m.props.constraints) true)

    held-long : length held_later ≡ length nexts_later
    held-long =
        omega (arith, length-map m.props.outputs (in_map_later c m x s), length-map (nexts_of d.aig.latches) (in_second_mapped d m x s), length-map d.aig.latches (λ latch. latch.next), fitting.outputs)

    both-long : length (kept_later ++ held_later) ≡ length (ones ++ nexts_later)
    both-long = omega (arith, length-append kept_later held_later, length-append ones nexts_later, kept-long, held-long)

    given-long : length (given c d m x s) ≡ parts d m
    given-long =
        omega (
          arith,
          length-append (kept_later ++ held_later) (map (in_second_mapped d m x s) (property_literals d.props)),
          length-append kept_later held_later,
          length-map m.props.constraints (in_map_later c m x s),
          length-map m.props.outputs (in_map_later c m x s),
          length-map (property_literals d.props) (in_second_mapped d m x s),
        )

    wanted-long : length (wanted c d m x s) ≡ length (given c d m x s)
    wanted-long =
        omega (
          arith,
          length-append (ones ++ nexts_later) (map (in_first c x s) (property_literals c.props)),
          length-append (kept_later ++ held_later) (map (in_second_mapped d m x s) (property_literals d.props)),
          both-long,
          length-map (property_literals c.props) (in_first c x s),
          length-map (property_literals d.props) (in_second_mapped d m x s),
          as-many c d fitting.shape,
        )

    same : given c d m x s ≡ wanted c d m x s
    same = ext_get_or false (given c d m x s) (wanted c d m x s) (sym wanted-long) (λ part less. all part (omega (arith, less, given-long)) x s holds (All-nil (λ lit. in_first c x s lit ≡ true)))

    split : (kept_later ++ held_later ≡ ones ++ nexts_later) × (map (in_second_mapped d m x s) (property_literals d.props) ≡ map (in_first c x s) (property_literals c.props))
    split = append-parts (kept_later ++ held_later) (ones ++ nexts_later) (map (in_second_mapped d m x s) (property_literals d.props)) (map (in_first c x s) (property_literals c.props)) both-long same

    front : (kept_later ≡ ones) × (held_later ≡ nexts_later)
    front = append-parts kept_later ones held_later nexts_later kept-long split.0

    keeps-at : is_kept m (after_step c.aig x s)
    keeps-at = subst (λ (bs : List Bool). All (λ b. b ≡ true) bs) (sym front.0) (All-replicate (λ b. b ≡ true) (length m.props.constraints) true refl)

    steps-at : (j : ℕ) → mapped m (after_step c.aig x s) j ≡ after_step d.aig x (mapped m s) j
    steps-at j = ap (λ (bs : List Bool). get_or bs j false) front.1 ∙ nexts-read d.aig.latches (in_second_mapped d m x s) j

    reads-at : SameReads c d x s (mapped m s)
    reads-at = reads-of c d x s (mapped m s) fitting.shape split.1

  -- where every part is shown, each step of the first circuit is one of the second through the map
  pub keeps-states : KeepsStates c d m
  keeps-states = record {
    keeps = keeps-at;
    steps = λ x s holds. funext _ _ (steps-at x s holds);
    reads = reads-at;
  }
