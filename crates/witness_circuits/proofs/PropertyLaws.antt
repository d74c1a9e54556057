-- What the constraints and the bad state say.
use Rattle.std.proofs.Common.{ℕ, ◌+◌, ◌<◌, ◌≡◌, ◌↔◌, Bool, true, false, not, List, [], ◌∷◌, ◌++◌, length, map, get_or, refl, arith, ap, sym, ◌∙◌, subst}
use Rattle.std.specs.List.{All}
use Rattle.std.proofs.Math.Bool.{not-not}
use Rattle.std.proofs.lemmas.List.{get_or_append_left, get_or-append-add, get_or-map, length-append, length-map}
use Rattle.std.proofs.lemmas.List.Elements.{All-append, All-head, All-map, All-nil, All-cons}
use Rattle.aig_graph.proofs.ListLaws.{map-map, map-same}
use Rattle.aig_graph.specs.declared.properties.Props.{Props}
use Rattle.aig_graph.specs.declared.graph.Latch.{Latch}
use Rattle.aig_graph.specs.Circuits.{AreLiteralsOf, IsNetlist, Netlist}
use Rattle.aig_graph.specs.Graph.{Graph, IsGraph, IsLiteralOf, variable, variables_end}
use Rattle.aig_graph.specs.Value.{value_within}
use Rattle.aig_graph.proofs.GraphLaws.{all_from_slice_get}
use Rattle.aig_graph.proofs.SignLaws.{signed-odd, value_signed_as, variable-signed_as}
use Rattle.state_maps.specs.States.{Digits, IsAllowed, State}
use Rattle.state_maps.specs.MapCircuits.{is_kept}
use Rattle.state_maps.proofs.WithinLaws.{within_laws}
use Rattle.witness_circuits.specs.declared.sharing.Sharing.{Sharing}
use Rattle.witness_circuits.specs.Witnesses.{IsGood, bad_states}
use Rattle.map_circuits.specs.Instances.{AreAll, substitute}
use Rattle.map_circuits.proofs.InstanceLaws.{substitute-within}
use Rattle.map_circuits.specs.Growing.{Extends}
use Rattle.witness_circuits.specs.declared.parts.Parts.{Parts}
use Rattle.witness_circuits.specs.Literals.{negated}
use Rattle.witness_circuits.specs.Lifting.{in_witness, witness_digits, witness_state}
use Rattle.witness_circuits.specs.Parts.{AreLiftedProps, AreParts, IsView, demands, substitutes}
use Rattle.witness_circuits.proofs.CarrierLaws.{bad-within}
use Rattle.witness_circuits.proofs.ViewLaws.{view-grows}

-- what holds of a joined list holds of both
all-both : {A : Type 0} (P : A → Type 0) (xs ys : List A) → All P (xs ++ ys) → All P xs × All P ys
all-both P xs ys all = (
  λ k d less. subst P (get_or_append_left xs ys d k less) (all k d (omega (arith, less, length-append xs ys))),
  λ k d less. subst P (get_or-append-add xs ys k d) (all (length xs + k) d (omega (arith, less, length-append xs ys))),
)

-- what holds of a mapped list
all-mapped : {A B : Type 0} (P : B → Type 0) (f : A → B) (xs : List A) → All P (map f xs) → All (λ x. P (f x)) xs
all-mapped P f xs all k d less = subst P (get_or-map f xs k d (f d) less) (all k (f d) (omega (arith, less, length-map xs f)))

all-not : (f : ℕ → Bool) (xs : List ℕ) → All (λ b. b ≡ true) (map (λ x. not (f x)) xs) ↔ All (λ b. b ≡ false) (map f xs)
all-not f xs = (
  λ all. All-map (λ b. b ≡ false) f xs (λ k d less. turned (f (get_or xs k d)) (all-mapped (λ b. b ≡ true) (λ x. not (f x)) xs all k d less)),
  λ all. All-map (λ b. b ≡ true) (λ x. not (f x)) xs (λ k d less. ap not (all-mapped (λ b. b ≡ false) f xs all k d less)),
)
  where
    turned : (b : Bool) → not b ≡ true → b ≡ false
    turned b h = sym (not-not b) ∙ ap not h

-- a negated literal has the other value
pub negated-is : (h : Graph) → IsGraph h → (z : Digits) (u : State) (lit : ℕ) → value_within h z u (negated lit) ≡ not (value_within h z u lit)
negated-is h valid z u lit = value_signed_as (value_within h z u) (within_laws h valid z u).negation 1 lit ∙ signed-odd 1 (value_within h z u lit) refl

-- the values of what stands for literals
module _ (h g : Graph) (own : Digits → State → ℕ → Bool) (literals : List ℕ) (view : IsView h g own literals) where
  -- what stands for the literals of a list has their values
  pub substitutes-values : (z : Digits) (u : State) (lits : List ℕ) → AreLiteralsOf g lits → map (value_within h z u) (map (substitute literals) lits) ≡ map (own z u) lits
  substitutes-values z u lits within =
      map-map (value_within h z u) (substitute literals) lits
      ∙ map-same (λ lit. IsLiteralOf g lit) (λ lit. value_within h z u (substitute literals lit)) (own z u) (λ lit less. view.values z u lit less) lits within

  negations-values : IsGraph h → (z : Digits) (u : State) (lits : List ℕ) → AreLiteralsOf g lits
      → map (value_within h z u) (map (λ lit. negated (substitute literals lit)) lits) ≡ map (λ lit. not (own z u lit)) lits
  negations-values valid z u lits within =
      map-map (value_within h z u) (λ lit. negated (substitute literals lit)) lits
      ∙ map-same (λ lit. IsLiteralOf g lit) (λ lit. value_within h z u (negated (substitute literals lit))) (λ lit. not (own z u lit))
      (λ lit less. negated-is h valid z u (substitute literals lit) ∙ ap not (view.values z u lit less)) lits within

  -- what stands for literals of one graph are literals of the other
  pub substitutes-within : (lits : List ℕ) → AreLiteralsOf g lits → AreLiteralsOf h (map (substitute literals) lits)
  substitutes-within lits within =
      All-map (λ l. IsLiteralOf h l) (substitute literals) lits (λ k d less. substitute-within h literals (get_or lits k d) view.within (omega (arith, within k d less, view.many)))

  -- the negations of what stands for literals of one graph are literals of the other
  pub negations-within : (lits : List ℕ) → AreLiteralsOf g lits → AreLiteralsOf h (map (λ lit. negated (substitute literals lit)) lits)
  negations-within lits within =
      All-map (λ l. IsLiteralOf h l) (λ lit. negated (substitute literals lit)) lits (λ k d less.
      let here : IsLiteralOf h (substitute literals (get_or lits k d)) = substitute-within h literals (get_or lits k d) view.within (omega (arith, within k d less, view.many)) in
      omega (arith, here, variable-signed_as 1 (substitute literals (get_or lits k d))))

  -- the variables of a graph's literals lie below the number of literals that stand for its
  -- variables
  pub all-within : (n : ℕ) (lits : List ℕ) → n ≡ length literals → AreLiteralsOf g lits → All (λ lit. variable lit < n) lits
  all-within n lits same within k d less = omega (arith, within k d less, view.many, same)

module _ (h : Graph) (c m w : Netlist) (k : Sharing) (p : Parts) (valid : IsGraph h) (parts : AreParts h c m w k p) (one : IsNetlist c) (two : IsNetlist m) (three : IsNetlist w) where
  abbrev wd : Digits → Digits
  wd z = witness_digits c k z

  abbrev ws : State → State
  ws u = witness_state c m k u

  ones : (xs ys : List Bool) → xs ≡ ys → All (λ b. b ≡ true) xs ↔ All (λ b. b ≡ true) ys
  ones xs ys same = (λ all. subst (λ (bs : List Bool). All (λ b. b ≡ true) bs) same all, λ all. subst (λ (bs : List Bool). All (λ b. b ≡ true) bs) (sym same) all)

  -- the lifted constraints are 1 just if the circuit's are
  pub constraints-say : (z : Digits) (u : State) → All (λ b. b ≡ true) (map (value_within h z u) (substitutes p.first c.props.constraints)) ↔ IsAllowed c z u
  constraints-say z u =
      ones (map (value_within h z u) (map (substitute p.first) c.props.constraints)) (map (value_within c.aig z u) c.props.constraints)
      (substitutes-values h c.aig (λ z u. value_within c.aig z u) p.first parts.first z u c.props.constraints one.props.constraints)

  abbrev of-map : List ℕ
  of-map = map (substitute p.map) m.props.constraints

  abbrev of-witness : List ℕ
  of-witness = map (substitute p.witness) w.props.constraints

  abbrev no-bad : List ℕ
  no-bad = map (λ lit. negated (substitute p.witness lit)) (bad_states w.props)

  -- the literals of what a good state has to be are literals of the graph
  pub demands-within : AreLiteralsOf h (demands m w p)
  demands-within = All-append (λ l. IsLiteralOf h l) (of-map ++ of-witness) no-bad
      (All-append (λ l. IsLiteralOf h l) of-map of-witness
      (substitutes-within h m.aig (λ z u. value_within m.aig u (λ j. false)) p.map parts.map m.props.constraints two.props.constraints)
      (substitutes-within h w.aig (in_witness c m w k) p.witness parts.witness w.props.constraints three.props.constraints))
      (negations-within h w.aig (in_witness c m w k) p.witness parts.witness (bad_states w.props) (bad-within w three))

  -- the literals of the demands are 1 just if the map's and the witness's constraints are and the
  -- witness is good
  pub demands-say : (z : Digits) (u : State) → All (λ l. value_within h z u l ≡ true) (demands m w p) ↔ (is_kept m u × IsAllowed w (wd z) (ws u) × IsGood w (wd z) (ws u))
  demands-say z u =
      let V : ℕ → Bool = value_within h z u in
      let of_m = ones (map V of-map) (map (value_within m.aig u (λ j. false)) m.props.constraints)
      (substitutes-values h m.aig (λ z u. value_within m.aig u (λ j. false)) p.map parts.map z u m.props.constraints two.props.constraints) in
      let of_w = ones (map V of-witness) (map (in_witness c m w k z u) w.props.constraints)
      (substitutes-values h w.aig (in_witness c m w k) p.witness parts.witness z u w.props.constraints three.props.constraints) in
      let of_bad = ones (map V no-bad) (map (λ lit. not (in_witness c m w k z u lit)) (bad_states w.props))
      (negations-values h w.aig (in_witness c m w k) p.witness parts.witness valid z u (bad_states w.props) (bad-within w three)) in
      let turned = all-not (in_witness c m w k z u) (bad_states w.props) in (
        λ all.
            let outer = all-both (λ l. V l ≡ true) (of-map ++ of-witness) no-bad all in
            let inner = all-both (λ l. V l ≡ true) of-map of-witness outer.0 in
            (of_m.0 (All-map (λ b. b ≡ true) V of-map inner.0), of_w.0 (All-map (λ b. b ≡ true) V of-witness inner.1), turned.0 (of_bad.0 (All-map (λ b. b ≡ true) V no-bad outer.1))),
        λ says. All-append (λ l. V l ≡ true) (of-map ++ of-witness) no-bad
            (All-append (λ l. V l ≡ true) of-map of-witness (all-mapped (λ b. b ≡ true) V of-map (of_m.1 says.0)) (all-mapped (λ b. b ≡ true) V of-witness (of_w.1 says.1)))
            (all-mapped (λ b. b ≡ true) V no-bad (of_bad.1 (turned.1 says.2))),
      )

  -- the properties: a bad state if what is demanded fails, and the constraints
  pub lifted-props : (good bad : ℕ) (constraints : List ℕ) (props : Props) → AreAll h (demands m w p) good → bad ≡ negated good → constraints ≡ substitutes p.first c.props.constraints
      → props ≡ record { outputs = []; bad = bad ∷ []; constraints = constraints; justice = []; fairness = [] } → AreLiftedProps h c m w k props
  lifted-props good bad constraints props all turned filled made =
      let P : Props → Type 0 = λ ps. AreLiftedProps h c m w k ps in
      let Q : ℕ → List ℕ → Type 0 = λ b cs. AreLiftedProps h c m w k (record { outputs = []; bad = b ∷ []; constraints = cs; justice = []; fairness = [] }) in
      subst P (sym made) (subst (λ (b : ℕ). Q b constraints) (sym turned) (subst (λ (cs : List ℕ). Q (negated good) cs) (sym filled) (record {
        within = record {
          outputs = All-nil (λ l. IsLiteralOf h l);
          bad = All-cons (λ l. IsLiteralOf h l) (negated good) [] (omega (arith, all.within, variable-signed_as 1 good)) (All-nil (λ l. IsLiteralOf h l));
          constraints = constraints-within;
          justice = All-nil (λ lits. AreLiteralsOf h lits);
          fairness = All-nil (λ l. IsLiteralOf h l);
        };
        outputs = refl;
        justice = refl;
        fairness = refl;
        allowed = constraints-say;
        good = λ z u.
            let V : ℕ → Bool = value_within h z u in
            let is : V (negated good) ≡ not (V good) = negated-is h valid z u good in
            let both = all.is z u in
            let says = demands-say z u in (
              λ safe.
                  let here : V (negated good) ≡ false = All-head (λ b. b ≡ false) (V (negated good)) [] safe in
                  let yes_good : V good ≡ true = sym (not-not (V good)) ∙ ap not (sym is ∙ here) in
                  says.0 (both.0 yes_good),
              λ parts.
                  let yes_good : V good ≡ true = both.1 (says.1 parts) in
                  All-cons (λ b. b ≡ false) (V (negated good)) [] (is ∙ ap not yes_good) (All-nil (λ b. b ≡ false)),
            );
      })))
    where
      constraints-within : AreLiteralsOf h (substitutes p.first c.props.constraints)
      constraints-within = substitutes-within h c.aig (λ z u. value_within c.aig z u) p.first parts.first c.props.constraints one.props.constraints

-- the three circuits remain parts of a graph as the graph grows
pub parts-grow : (h i : Graph) (c m w : Netlist) (k : Sharing) (p : Parts) → Extends h i → AreParts h c m w k p → AreParts i c m w k p
parts-grow h i c m w k p more parts = record {
  first = view-grows h i c.aig (λ z u. value_within c.aig z u) p.first more parts.first;
  map = view-grows h i m.aig (λ z u. value_within m.aig u (λ j. false)) p.map more parts.map;
  witness = view-grows h i w.aig (in_witness c m w k) p.witness more parts.witness;
}

-- the variables of a graph's literals lie below the number of its variables, wherever these
-- literals and that number are read
pub literals-below : (g : Graph) (n : ℕ) (lits now : List ℕ) → n ≡ variables_end g → now ≡ lits → AreLiteralsOf g lits → All (λ lit. variable lit < n) now
literals-below g n lits now many same within =
    subst (λ (ls : List ℕ). All (λ lit. variable lit < n) ls) (sym same) (subst (λ (m : ℕ). All (λ lit. variable lit < m) lits) (sym many) within)

-- the next literals of its latches too
pub nexts-below : (g : Graph) (n : ℕ) (now : List Latch) → n ≡ variables_end g → now ≡ g.latches → IsGraph g → All (λ latch. variable latch.next < n) now
nexts-below g n now many same valid =
    subst (λ (ls : List Latch). All (λ latch. variable latch.next < n) ls) (sym same)
    (subst (λ (m : ℕ). All (λ latch. variable latch.next < m) g.latches) (sym many) (all_from_slice_get (λ (latch : Latch). variable latch.next < variables_end g) g.latches valid.latches))
