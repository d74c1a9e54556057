-- What is compared says what is asked.
use Rattle.std.proofs.Common.{ℕ, ◌<◌, ◌≡◌, ◌↔◌, Bool, true, false, List, length, map, get_or, arith, ap, sym, ◌∙◌}
use Rattle.std.proofs.lemmas.List.{ext_get_or, length-map}
use Rattle.aig_graph.specs.Circuits.{Netlist}
use Rattle.aig_graph.specs.Graph.{Graph, IsLiteralOf}
use Rattle.aig_graph.specs.Streams.{property_literals}
use Rattle.aig_graph.specs.Value.{value_within}
use Rattle.aig_graph.proofs.ShapeLaws.{as-many}
use Rattle.state_maps.specs.States.{Digits, State, after_step}
use Rattle.state_maps.specs.MapCircuits.{is_kept, mapped}
use Rattle.map_miters.specs.declared.questions.Compared.{Compared}
use Rattle.map_miters.specs.declared.questions.Sides.{Sides}
use Rattle.map_circuits.specs.Growing.{Extends}
use Rattle.map_circuits.proofs.GrowingLaws.{extends-transitive}
use Rattle.map_miters.specs.Asking.{AreComparable, AreCompared, AreSides, WhereKept, asked_digits, asked_state}
use Rattle.map_miters.specs.Comparing.{AreEqualIn, FailsBut, SaysThat}
use Rattle.map_miters.specs.Holding.{IsImage, IsStep}
use Rattle.map_miters.specs.Questions.{AreStepFailures, IsAskable, Keeps, Reads, Steps}
use Rattle.map_miters.proofs.ComparingLaws.{fails-grow, fails-same}
use Rattle.map_miters.proofs.HoldingLaws.{image-grows, step-grows}

-- what fails, by literals of a larger graph, in terms of those of a smaller one
pub where-kept : (g h i k : Graph) (sides : Sides) (wanted lit : ℕ) (holds : Digits → State → Type 0) → Extends g h → IsLiteralOf g sides.image.kept → SaysThat h wanted holds
    → FailsBut i lit (λ z u. value_within h z u sides.image.kept ≡ true → value_within h z u wanted ≡ true) → Extends i k → FailsBut k lit (WhereKept g sides holds)
where-kept g h i k sides wanted lit holds more kept says fails grows =
    fails-grow i k lit (WhereKept g sides holds) grows (fails-same i lit (λ z u. value_within h z u sides.image.kept ≡ true → value_within h z u wanted ≡ true) (WhereKept g sides holds)
    (λ z u.
    let same = more.values z u sides.image.kept kept in
    (λ f e. (says.is z u).0 (f (same ∙ e)), λ f e. (says.is z u).1 (f (sym same ∙ e)))) fails)

-- that a literal is 1 is what it says
pub says-itself : (g h : Graph) (lit : ℕ) → Extends g h → IsLiteralOf g lit → SaysThat h lit (λ z u. value_within g z u lit ≡ true)
says-itself g h lit more within = record {
  within = more.literals lit within;
  is = λ z u. let same = more.values z u lit within in (λ e. sym same ∙ e, λ e. same ∙ e);
}

-- the four parts, in the graph that they are in together
pub sides-are : (h1 h2 h3 h4 : Graph) (c d m : Netlist) (sides : Sides) → Extends h1 h2 → Extends h2 h3 → Extends h3 h4 → IsStep h1 c asked_digits (asked_state c.aig) sides.before
    → IsImage h2 m (asked_state c.aig) sides.image → IsImage h3 m (λ z u. after_step c.aig z (asked_state c.aig z u)) sides.later
    → IsStep h4 d asked_digits (λ z u. mapped m (asked_state c.aig z u)) sides.after → AreSides h4 c d m sides
sides-are h1 h2 h3 h4 c d m sides one two three before image later after = record {
  before = step-grows h1 h4 c asked_digits (asked_state c.aig) sides.before (extends-transitive h1 h2 h4 one (extends-transitive h2 h3 h4 two three)) before;
  image = image-grows h2 h4 m (asked_state c.aig) sides.image (extends-transitive h2 h3 h4 two three) image;
  later = image-grows h3 h4 m (λ z u. after_step c.aig z (asked_state c.aig z u)) sides.later three later;
  after = after;
}

-- a condition of what holds is one of what is equal
where-same : (g : Graph) (sides : Sides) (z : Digits) (u : State) (holds : Digits → State → Type 0) (kept wanted : Type 0) → (value_within g z u sides.image.kept ≡ true) ↔ kept → holds z u ↔ wanted
    → WhereKept g sides holds z u ↔ (kept → wanted)
where-same g sides z u holds kept wanted given same = (λ says k. same.0 (says (given.1 k)), λ says e. same.1 (says (given.0 e)))

module _ (g : Graph) (c d m : Netlist) (sides : Sides) (askable : IsAskable c d m) (are : AreSides g c d m sides) where
  -- what is compared of the sides are literals of the graph, as many on both sides, if the circuits
  -- can be asked
  pub comparable : AreComparable g sides
  comparable = record {
    image = are.image.within;
    later = are.later.within;
    nexts_long = are.later.many ∙ askable.outputs ∙ sym are.after.many_nexts;
    props_long = are.after.many_props ∙ as-many c d askable.shape ∙ sym are.before.many_props;
    outputs = are.later.outputs.within;
    nexts = are.after.nexts.within;
    props = are.after.props.within;
    first_props = are.before.props.within;
  }

  module _ (z : Digits) (u : State) where
    abbrev s : State
    s = asked_state c.aig z u

    nexts-same : AreEqualIn g sides.later.outputs.items sides.after.nexts.items z u
        ↔ ((j : ℕ) → j < length d.aig.latches → mapped m (after_step c.aig z s) j ≡ after_step d.aig z (mapped m s) j)
    nexts-same = (
      λ equal j less.
          let short : j < length sides.later.outputs.items = omega (arith, less, are.later.many, askable.outputs) in
          sym (are.later.outputs.values z u j short) ∙ equal j short ∙ are.after.nexts.values z u j (omega (arith, less, are.after.many_nexts)),
      λ same k less.
          let short : k < length d.aig.latches = omega (arith, less, are.later.many, askable.outputs) in
          are.later.outputs.values z u k less ∙ same k short ∙ sym (are.after.nexts.values z u k (omega (arith, short, are.after.many_nexts))),
    )

    props-same : AreEqualIn g sides.after.props.items sides.before.props.items z u
        ↔ (map (value_within d.aig z (mapped m s)) (property_literals d.props) ≡ map (value_within c.aig z s) (property_literals c.props))
    props-same =
        let D : List Bool = map (value_within d.aig z (mapped m s)) (property_literals d.props) in
        let C : List Bool = map (value_within c.aig z s) (property_literals c.props) in
        let many_d : length D ≡ length (property_literals d.props) = length-map (property_literals d.props) (value_within d.aig z (mapped m s)) in
        let many_c : length C ≡ length (property_literals c.props) = length-map (property_literals c.props) (value_within c.aig z s) in
        let as_many = as-many c d askable.shape in (
          λ equal. ext_get_or false D C (many_d ∙ as_many ∙ sym many_c) (λ k less.
              let short : k < length sides.after.props.items = omega (arith, less, many_d, are.after.many_props) in
              sym (are.after.props.values z u k short) ∙ equal k short ∙ are.before.props.values z u k (omega (arith, less, many_d, as_many, are.before.many_props))),
          λ same k less.
              are.after.props.values z u k less ∙ ap (λ (bs : List Bool). get_or bs k false) same
              ∙ sym (are.before.props.values z u k (omega (arith, less, are.after.many_props, as_many, are.before.many_props))),
        )

  -- literals that are 0 just if the sides compare well are 0 if and only if the map keeps, steps
  -- and reads
  pub step-failures : (h : Graph) (found : Compared) → AreCompared g h sides found → AreStepFailures h c d m (asked_state c.aig) found
  step-failures h found p = record {
    keep = fails-same h found.keep (WhereKept g sides (λ z u. value_within g z u sides.later.kept ≡ true)) (λ z u. Keeps c m z (asked_state c.aig z u))
        (λ z u. where-same g sides z u (λ z u. value_within g z u sides.later.kept ≡ true) (is_kept m (s z u)) (is_kept m (after_step c.aig z (s z u))) (are.image.kept z u) (are.later.kept z u)) p.keep;
    next = fails-same h found.next (WhereKept g sides (AreEqualIn g sides.later.outputs.items sides.after.nexts.items)) (λ z u. Steps c d m z (asked_state c.aig z u))
        (λ z u. where-same g sides z u (AreEqualIn g sides.later.outputs.items sides.after.nexts.items) (is_kept m (s z u))
        ((j : ℕ) → j < length d.aig.latches → mapped m (after_step c.aig z (s z u)) j ≡ after_step d.aig z (mapped m (s z u)) j) (are.image.kept z u) (nexts-same z u)) p.next;
    read = fails-same h found.read (WhereKept g sides (AreEqualIn g sides.after.props.items sides.before.props.items)) (λ z u. Reads c d m z (asked_state c.aig z u))
        (λ z u. where-same g sides z u (AreEqualIn g sides.after.props.items sides.before.props.items) (is_kept m (s z u))
        (map (value_within d.aig z (mapped m (s z u))) (property_literals d.props) ≡ map (value_within c.aig z (s z u)) (property_literals c.props)) (are.image.kept z u) (props-same z u)) p.read;
  }
