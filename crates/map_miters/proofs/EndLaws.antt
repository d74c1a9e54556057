-- The graph of both circuits once its latches go on, and the circuit that it is.
use Rattle.std.proofs.Common.{ℕ, ◌+◌, ◌-◌, ◌/◌, ◌%◌, ◌<◌, ◌≡◌, ◌≢◌, ◌↔◌, Bool, true, false, not, List, [], ◌∷◌, ◌++◌, length, map, get_or, refl, arith, ap, sym, ◌∙◌, subst}
use Rattle.std.specs.List.{All}
use Rattle.std.proofs.lemmas.List.{get_or_append_left, get_or-append_right, length-append}
use Rattle.std.proofs.lemmas.List.Elements.{All-append, All-cons, All-nil}
use Rattle.aig_graph.specs.declared.graph.Latch.{Latch}
use Rattle.aig_graph.specs.declared.graph.Reset.{Reset}
use Rattle.aig_graph.specs.declared.properties.Props.{Props}
use Rattle.aig_graph.specs.Circuits.{AreLiteralsOf, IsNetlist, Netlist}
use Rattle.aig_graph.specs.Graph.{Graph, IsGraph, IsLiteralOf}
use Rattle.aig_graph.specs.Value.{next_value, value_within}
use Rattle.aig_graph.proofs.KindLaws.{element}
use Rattle.aig_graph.proofs.HoldingLaws.{no-names}
use Rattle.state_maps.specs.States.{Digits, State, after_step}
use Rattle.state_maps.proofs.WithinLaws.{within_laws}
use Rattle.map_circuits.specs.Growing.{Extends}
use Rattle.map_circuits.proofs.GrowingLaws.{negated-value}
use Rattle.witness_circuits.specs.Witnesses.{bad_states}
use Rattle.witness_circuits.specs.Latches.{with_nexts}
use Rattle.witness_circuits.proofs.AgreeLaws.{AreAlike, literal-alike, literals-alike}
use Rattle.witness_circuits.proofs.LatchLaws.{length-with_nexts, next-read}
use Rattle.map_miters.specs.Comparing.{SaysThat}
use Rattle.map_miters.specs.declared.products.Built.{Built}
use Rattle.map_miters.specs.declared.products.Wanted.{Wanted}
use Rattle.map_miters.specs.declared.goals.Goal.{Goal}
use Rattle.map_miters.specs.declared.sides.Sides.{Sides}
use Rattle.map_miters.specs.Built.{AreProductProps, IsBuilt, IsFilled, netlist_of}
use Rattle.map_miters.specs.Products.{IsProduct, good_of, product_resets, second_state, start_resets}
use Rattle.map_miters.specs.Sides.{AreSides, IsBegun, product_nexts, start_nexts}
use Rattle.map_miters.specs.Ties.{AreConstraints, HasLatches}
use Rattle.map_miters.proofs.LeafLaws.{length-resets}

flip-false : (a b : Bool) → a ≡ not b → (a ≡ false) ↔ (b ≡ true)
flip-false a true e = (λ _. refl, λ _. e)
flip-false a false e = (λ f. absurd (cc), λ f. absurd (cc))

-- properties with one bad state, which is the negation of what says that a state is good, and these
-- constraints
pub props-are : (g h : Graph) (wanted : Wanted) (c d m : Netlist) (good bad : ℕ) (constraints : List ℕ) (p : Props) → Extends g h → SaysThat g good (good_of wanted.goal c d m)
    → bad / 2 ≡ good / 2 → bad % 2 ≢ good % 2 → AreConstraints h c d m wanted.tied constraints
    → p ≡ record { outputs = []; bad = bad ∷ []; constraints = constraints; justice = []; fairness = [] } → AreProductProps h wanted c d m p
props-are g h wanted c d m good bad constraints p more says same sign are is =
    let P : Props → Type 0 = λ q. AreProductProps h wanted c d m q in
    let within : IsLiteralOf h good = more.literals good says.within in
    let of_bad : IsLiteralOf h bad = omega (arith, within, same) in
    subst P (sym is) (record {
      within = record {
        outputs = λ k x less. absurd (omega (arith, less));
        bad = All-cons (λ l. IsLiteralOf h l) bad [] of_bad (All-nil (λ l. IsLiteralOf h l));
        constraints = are.within;
        justice = λ k x less. absurd (omega (arith, less));
        fairness = λ k x less. absurd (omega (arith, less));
      };
      allowed = are.says;
      good = λ z u.
          let flip = flip-false (value_within h z u bad) (value_within h z u good) (negated-value h more.graph z u good bad same sign) in
          let grown : value_within h z u good ≡ value_within g z u good = more.values z u good says.within in (
            λ all. (says.is z u).0 (sym grown ∙ flip.0 (all 0 false (omega arith))),
            λ holds. All-cons (λ (b : Bool). b ≡ false) (value_within h z u bad) [] (flip.1 (grown ∙ (says.is z u).1 holds)) (All-nil (λ (b : Bool). b ≡ false)),
          );
    })

-- as many next literals as there are latches
pub nexts-long : (h g : Graph) (c d : Netlist) (sides : Sides) (tied : Bool) → AreSides g c d sides → HasLatches c.aig d.aig tied h → length (product_nexts sides tied) ≡ length h.latches
nexts-long h g c d sides tied are has =
    let A : List ℕ = sides.first.nexts.items in
    let B : List ℕ = sides.second.nexts.items in
    omega (arith, length-append (A ++ B) (start_nexts tied), length-append A B, are.first.many_nexts, are.second.many_nexts, as-long tied, length-resets c.aig d.aig tied, has.latches)
  where
    as-long : (b : Bool) → length (start_nexts b) ≡ length (start_resets b)
    as-long true = refl
    as-long false = refl

-- they are literals of the graph
pub nexts-within : (h : Graph) (c d : Netlist) (sides : Sides) (tied : Bool) → AreSides h c d sides → AreLiteralsOf h (product_nexts sides tied)
nexts-within h c d sides tied are =
    let P : ℕ → Type 0 = λ l. IsLiteralOf h l in
    All-append P (sides.first.nexts.items ++ sides.second.nexts.items) (start_nexts tied) (All-append P sides.first.nexts.items sides.second.nexts.items are.first.nexts.within are.second.nexts.within) (start tied)
  where
    start : (b : Bool) → AreLiteralsOf h (start_nexts b)
    start true = All-cons (λ l. IsLiteralOf h l) 1 [] (omega arith) (All-nil (λ l. IsLiteralOf h l))
    start false = All-nil (λ l. IsLiteralOf h l)

resets-with_nexts : (nexts : List ℕ) (latches : List Latch) → map (λ (l : Latch). l.reset) (with_nexts nexts latches) ≡ map (λ (l : Latch). l.reset) latches
resets-with_nexts [] latches = refl
resets-with_nexts (next ∷ nexts) [] = refl
resets-with_nexts (next ∷ nexts) (latch ∷ latches) = ap (λ (rs : List Reset). latch.reset ∷ rs) (resets-with_nexts nexts latches)

resets-begun : (resets : List Reset) → map (λ (l : Latch). l.reset) (map (λ (r : Reset). record { next = 0; reset = r }) resets) ≡ resets
resets-begun [] = refl
resets-begun (reset ∷ resets) = ap (λ (rs : List Reset). reset ∷ rs) (resets-begun resets)

module _ (g h : Graph) (wanted : Wanted) (c d m : Netlist) (sides : Sides) (props : Props) (begun : IsBegun c.aig d.aig wanted.tied g) (more : Extends g h)
    (are : AreSides h c d sides) (says : AreProductProps h wanted c d m props) (has : HasLatches c.aig d.aig wanted.tied h) where
  abbrev nexts : List ℕ
  nexts = product_nexts sides wanted.tied

  abbrev ended : Graph
  ended = record h { latches = with_nexts nexts h.latches }

  long : length nexts ≡ length h.latches
  long = nexts-long h h c d sides wanted.tied are has

  as-long : length (with_nexts nexts h.latches) ≡ length h.latches
  as-long = length-with_nexts nexts h.latches (omega (arith, long))

  alike : AreAlike h ended
  alike = record { inputs = refl; latches = as-long; gates = refl }

  module _ (last : IsGraph ended) where
    ended-value : (z : Digits) (u : State) (lit : ℕ) → IsLiteralOf h lit → value_within ended z u lit ≡ value_within h z u lit
    ended-value z u lit within = literal-alike h ended more.graph last alike z z u u (record { inputs = λ i less. refl; latches = λ j less. refl }) lit within

    ended-values : (z : Digits) (u : State) (lits : List ℕ) → AreLiteralsOf h lits → map (value_within ended z u) lits ≡ map (value_within h z u) lits
    ended-values z u lits within = literals-alike h ended more.graph last alike z z u u (record { inputs = λ i less. refl; latches = λ j less. refl }) lits within

    within-ended : (lits : List ℕ) → AreLiteralsOf h lits → AreLiteralsOf ended lits
    within-ended lits within k x less = omega (arith, within k x less, as-long)

    ended-after : (z : Digits) (u : State) (j : ℕ) → j < length nexts → after_step ended z u j ≡ value_within h z u (get_or nexts j 0)
    ended-after z u j less =
        let there = element h.latches j (omega (arith, less, long)) in
        ap (next_value (value_within ended z u)) (next-read nexts h.latches j there.0 less there.1)
        ∙ ended-value z u (get_or nexts j 0) (nexts-within h c d sides wanted.tied are j 0 less)

    abbrev A : List ℕ
    A = sides.first.nexts.items

    abbrev B : List ℕ
    B = sides.second.nexts.items

    abbrev C : List ℕ
    C = start_nexts wanted.tied

    both : length (A ++ B) ≡ length c.aig.latches + length d.aig.latches
    both = omega (arith, length-append A B, are.first.many_nexts, are.second.many_nexts)

    all : length nexts ≡ length c.aig.latches + length d.aig.latches + length C
    all = omega (arith, length-append (A ++ B) C, both)

    first-goes : (z : Digits) (u : State) (j : ℕ) → j < length c.aig.latches → after_step ended z u j ≡ after_step c.aig z u j
    first-goes z u j less =
        let short : j < length A = omega (arith, less, are.first.many_nexts) in
        let read : get_or nexts j 0 ≡ get_or A j 0 = get_or_append_left (A ++ B) C 0 j (omega (arith, less, both)) ∙ get_or_append_left A B 0 j short in
        ended-after z u j (omega (arith, less, all)) ∙ ap (value_within h z u) read ∙ are.first.nexts.values z u j short

    second-goes : (z : Digits) (u : State) (j : ℕ) → j < length d.aig.latches → after_step ended z u (length c.aig.latches + j) ≡ after_step d.aig z (second_state c.aig u) j
    second-goes z u j less =
        let n : ℕ = length c.aig.latches in
        let short : j < length B = omega (arith, less, are.second.many_nexts) in
        let place : length c.aig.latches + j - length c.aig.latches ≡ j = omega arith in
        let read : get_or nexts (n + j) 0 ≡ get_or B j 0 =
        get_or_append_left (A ++ B) C 0 (n + j) (omega (arith, less, both)) ∙ get_or-append_right A B n (n + j) 0 are.first.many_nexts (omega arith) ∙ ap (λ (k : ℕ). get_or B k 0) place in
        ended-after z u (n + j) (omega (arith, less, all)) ∙ ap (value_within h z u) read ∙ are.second.nexts.values z u j short

    start-goes : wanted.tied ≡ true → (z : Digits) (u : State) → after_step ended z u (length c.aig.latches + length d.aig.latches) ≡ true
    start-goes told z u =
        let n : ℕ = length c.aig.latches + length d.aig.latches in
        let one : length C ≡ 1 = ap (λ (b : Bool). length (start_nexts b)) told in
        let place : length c.aig.latches + length d.aig.latches - (length c.aig.latches + length d.aig.latches) ≡ 0 = omega arith in
        let read : get_or nexts n 0 ≡ 1 =
        get_or-append_right (A ++ B) C n n 0 both (omega arith) ∙ ap (λ (k : ℕ). get_or C k 0) place ∙ ap (λ (b : Bool). get_or (start_nexts b) 0 0) told in
        ended-after z u n (omega (arith, one, all)) ∙ ap (value_within h z u) read
        ∙ (within_laws h more.graph z u).negation 0 ∙ ap not (within_laws h more.graph z u).constant

    resets : map (λ (l : Latch). l.reset) ended.latches ≡ product_resets c.aig d.aig wanted.tied
    resets =
        let of : List Latch → List Reset = λ ls. map (λ (l : Latch). l.reset) ls in
        resets-with_nexts nexts h.latches ∙ ap of more.latches ∙ ap (λ (b : Graph). of b.latches) begun ∙ resets-begun (product_resets c.aig d.aig wanted.tied)

    -- the graph whose latches have their next literals has both circuits side by side, and its
    -- properties
    pub is-filled : IsFilled ended wanted c d m props
    is-filled = record {
      beside = record { inputs = has.inputs; resets = resets; first = first-goes; second = second-goes; started = start-goes };
      props = record {
        within = record {
          outputs = within-ended props.outputs says.within.outputs;
          bad = within-ended props.bad says.within.bad;
          constraints = within-ended props.constraints says.within.constraints;
          justice = λ k x less. within-ended (get_or props.justice k x) (says.within.justice k x less);
          fairness = within-ended props.fairness says.within.fairness;
        };
        allowed = λ z u.
            let All1 : List Bool → Type 0 = λ bs. All (λ b. b ≡ true) bs in
            let same = ended-values z u props.constraints says.within.constraints in
            (λ h. (says.allowed z u).0 (subst All1 same h), λ starts. subst All1 (sym same) ((says.allowed z u).1 starts));
        good = λ z u.
            let All0 : List Bool → Type 0 = λ bs. All (λ b. b ≡ false) bs in
            let same = ended-values z u (bad_states props) (bad-within props.bad says.within.bad) in
            (λ h. (says.good z u).0 (subst All0 same h), λ good. subst All0 (sym same) ((says.good z u).1 good));
      };
    }
      where
        bad-within : (bad : List ℕ) → AreLiteralsOf h bad → AreLiteralsOf h (bad_states (record props { bad = bad }))
        bad-within [] within = says.within.outputs
        bad-within (x ∷ bad) within = within

module _ (goal : Goal) (c d m : Netlist) (b : Built) (built : IsBuilt goal c d m b) where
  -- what is built is a netlist
  pub built-netlist : IsNetlist (netlist_of b)
  built-netlist = record {
    props = built.filled.props.within;
    symbols = record {
      inputs = no-names b.gates.inputs;
      latches = no-names (length b.gates.latches);
      outputs = no-names (length b.props.outputs);
      bad = no-names (length b.props.bad);
      constraints = no-names (length b.props.constraints);
      justice = no-names (length b.props.justice);
      fairness = no-names (length b.props.fairness);
    };
  }

  -- it is the product machine
  pub is-product : IsProduct goal c d m (netlist_of b)
  is-product = record {
    tied = built.tied;
    ties = built.ties;
    beside = built.filled.beside;
    names = refl;
    allowed = built.filled.props.allowed;
    good = built.filled.props.good;
  }
