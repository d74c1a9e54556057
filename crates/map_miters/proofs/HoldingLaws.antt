-- What lists of literals hold.
use Rattle.std.proofs.Common.{ℕ, ◌<◌, ◌≡◌, ◌↔◌, Bool, true, false, not, List, [], ◌∷◌, length, map, get_or, slice_get, Some, refl, arith, ap, sym, ◌∙◌, subst}
use Rattle.std.specs.List.{All}
use Rattle.std.proofs.lemmas.List.{get_or-map, get_or_default, length-map}
use Rattle.std.proofs.lemmas.List.Elements.{All-map}
use Rattle.std.proofs.lemmas.Option.{get_or_from_slice_get}
use Rattle.aig_graph.specs.declared.graph.Latch.{Latch}
use Rattle.aig_graph.specs.declared.graph.Reset.{Reset}
use Rattle.aig_graph.specs.declared.graph.Reset.TheVariants.{Zero, One, Free}
use Rattle.aig_graph.specs.Circuits.{AreLiteralsOf, IsNetlist, Netlist}
use Rattle.aig_graph.specs.Graph.{Graph, IsGraph, IsLiteralOf, variable, variables_end}
use Rattle.aig_graph.specs.Streams.{property_literals}
use Rattle.aig_graph.specs.Value.{next_value, opening, value_within, opening_literal}
use Rattle.aig_graph.proofs.KindLaws.{element}
use Rattle.state_maps.specs.States.{Digits, State, after_step}
use Rattle.state_maps.specs.MapCircuits.{mapped}
use Rattle.state_maps.proofs.WithinLaws.{within_laws}
use Rattle.map_circuits.specs.Growing.{Extends}
use Rattle.map_circuits.specs.Instances.{AreAll, substitute}
use Rattle.witness_circuits.specs.Parts.{IsView}
use Rattle.witness_circuits.proofs.ViewLaws.{view-grows}
use Rattle.witness_circuits.proofs.PropertyLaws.{substitutes-values, substitutes-within}
use Rattle.map_miters.specs.declared.images.Image.{Image}
use Rattle.map_miters.specs.declared.steps.Step.{Step}
use Rattle.map_miters.specs.Holding.{AreResets, Held, HoldAs, IsImage, IsStep, read_in, reset_at}

-- literals go on to hold what they do as the graph grows
pub holds-grow : (g h : Graph) (lits : List ℕ) (x : Held) → Extends g h → HoldAs g lits x → HoldAs h lits x
holds-grow g h lits x more p = record {
  within = λ k d less. more.literals (get_or lits k d) (p.within k d less);
  values = λ z u k less. more.values z u (get_or lits k 0) (p.within k 0 less) ∙ p.values z u k less;
}

-- any literals hold their values, and none hold whatever is asked
pub holds-itself : (h : Graph) (lits : List ℕ) → AreLiteralsOf h lits → HoldAs h lits (λ z u. λ k. value_within h z u (get_or lits k 0))
holds-itself h lits within = record { within = within; values = λ z u k less. refl }

-- an empty list of literals holds whatever is asked
pub holds-none : (h : Graph) (lits : List ℕ) (x : Held) → lits ≡ [] → HoldAs h lits x
holds-none h lits x none = subst (λ (ls : List ℕ). HoldAs h ls x) (sym none) (record {
  within = λ k d less. absurd (omega (arith, less));
  values = λ z u k less. absurd (omega (arith, less));
})

-- literals of a graph of n variables are below that
pub below-end : (g : Graph) (lits given : List ℕ) (n : ℕ) → lits ≡ given → AreLiteralsOf g given → n ≡ variables_end g → All (λ lit. variable lit < n) lits
below-end g lits given n same within long =
    subst (λ (ls : List ℕ). All (λ lit. variable lit < n) ls) (sym same) (λ k d less. omega (arith, within k d less, long))

-- literals of what the map gives for a state stay such literals as the graph grows
pub image-grows : (g h : Graph) (m : Netlist) (s : Held) (image : Image) → Extends g h → IsImage g m s image → IsImage h m s image
image-grows g h m s image more p = record {
  within = more.literals image.kept p.within;
  kept = λ z u.
      let same = more.values z u image.kept p.within in
      (λ e. (p.kept z u).0 (sym same ∙ e), λ has. same ∙ (p.kept z u).1 has);
  many = p.many;
  outputs = holds-grow g h image.outputs.items (λ z u. mapped m (s z u)) more p.outputs;
}

-- literals of a step of a circuit from a state stay such literals as the graph grows
pub step-grows : (g h : Graph) (c : Netlist) (x s : Held) (step : Step) → Extends g h → IsStep g c x s step → IsStep h c x s step
step-grows g h c x s step more p = record {
  many_nexts = p.many_nexts;
  nexts = holds-grow g h step.nexts.items (λ z u. after_step c.aig (x z u) (s z u)) more p.nexts;
  many_props = p.many_props;
  props = holds-grow g h step.props.items (λ z u. read_in c (x z u) (s z u)) more p.props;
}

-- what stands for literals of a graph holds their values
module _ (h g : Graph) (own : Digits → State → ℕ → Bool) (part : List ℕ) (view : IsView h g own part) where
  -- the literals of h that stand for literals of g hold the values of those, entry by entry
  pub substitutes-hold : (lits : List ℕ) → AreLiteralsOf g lits → HoldAs h (map (substitute part) lits) (λ z u. λ k. get_or (map (own z u) lits) k false)
  substitutes-hold lits within = record {
    within = substitutes-within h g own part view lits within;
    values = λ z u k less.
        sym (get_or-map (value_within h z u) (map (substitute part) lits) k 0 false less)
        ∙ ap (λ (bs : List Bool). get_or bs k false) (substitutes-values h g own part view z u lits within);
  }

  -- a literal that says that all of them are 1
  pub all-says : (lits : List ℕ) (lit : ℕ) → AreLiteralsOf g lits → AreAll h (map (substitute part) lits) lit → (z : Digits) (u : State)
      → (value_within h z u lit ≡ true) ↔ All (λ b. b ≡ true) (map (own z u) lits)
  all-says lits lit within all z u =
      let V : ℕ → Bool = value_within h z u in
      let same : map V (map (substitute part) lits) ≡ map (own z u) lits = substitutes-values h g own part view z u lits within in
      let Ones : List Bool → Type 0 = λ bs. All (λ b. b ≡ true) bs in (
        λ e. subst Ones same (All-map (λ b. b ≡ true) V (map (substitute part) lits) ((all.is z u).0 e)),
        λ ones. (all.is z u).1 (each V (map (substitute part) lits) (subst Ones (sym same) ones)),
      )
    where
      each : (V : ℕ → Bool) (xs : List ℕ) → All (λ b. b ≡ true) (map V xs) → All (λ l. V l ≡ true) xs
      each V xs ones k d less = sym (get_or-map V xs k d (V d) less) ∙ ones k (V d) (omega (arith, less, length-map xs V))

-- the map over a state
pub image-is : (g h : Graph) (m : Netlist) (s : Held) (part : List ℕ) (image : Image) → IsNetlist m → Extends g h → IsView g m.aig (λ z u. value_within m.aig (s z u) (λ j. false)) part
    → image.outputs.items ≡ map (substitute part) m.props.outputs → AreAll h (map (substitute part) m.props.constraints) image.kept → IsImage h m s image
image-is g h m s part image net more view outputs all =
    let own : Digits → State → ℕ → Bool = λ z u. value_within m.aig (s z u) (λ j. false) in
    let here : IsView h m.aig own part = view-grows g h m.aig own part more view in
    record {
      within = all.within;
      kept = all-says h m.aig own part here m.props.constraints image.kept net.props.constraints all;
      many = ap length outputs ∙ length-map m.props.outputs (substitute part);
      outputs = subst (λ (ls : List ℕ). HoldAs h ls (λ z u. mapped m (s z u))) (sym outputs) (substitutes-hold h m.aig own part here m.props.outputs net.props.outputs);
    }

-- a step of a circuit from a state
module _ (h : Graph) (c : Netlist) (x s : Held) (part : List ℕ) (valid : IsGraph c.aig) (view : IsView h c.aig (λ z u. value_within c.aig (x z u) (s z u)) part) where
  abbrev next_of : Latch → ℕ
  next_of latch = substitute part latch.next

  next-read : (k : ℕ) (latch : Latch) (d : ℕ) → slice_get c.aig.latches k ≡ Some latch → k < length c.aig.latches → get_or (map next_of c.aig.latches) k d ≡ next_of latch
  next-read k latch d there less = get_or-map next_of c.aig.latches k latch d less ∙ ap next_of (get_or_from_slice_get c.aig.latches k latch latch there)

  -- what stands for the latches' next literals holds what the latches hold after the step
  pub nexts-hold : HoldAs h (map next_of c.aig.latches) (λ z u. after_step c.aig (x z u) (s z u))
  nexts-hold = record {
    within = λ k d less.
        let short : k < length c.aig.latches = omega (arith, less, length-map c.aig.latches next_of) in
        let own = element c.aig.latches k short in
        let all : AreLiteralsOf h (map (substitute part) (own.0.next ∷ [])) =
        substitutes-within h c.aig (λ z u. value_within c.aig (x z u) (s z u)) part view (own.0.next ∷ []) (one own.0.next (valid.latches k own.0 own.1)) in
        subst (λ (l : ℕ). IsLiteralOf h l) (sym (next-read k own.0 d own.1 short)) (all 0 0 (omega arith));
    values = λ z u k less.
        let short : k < length c.aig.latches = omega (arith, less, length-map c.aig.latches next_of) in
        let own = element c.aig.latches k short in
        ap (value_within h z u) (next-read k own.0 0 own.1 short)
        ∙ view.values z u own.0.next (valid.latches k own.0 own.1)
        ∙ sym (ap (next_value (value_within c.aig (x z u) (s z u))) own.1);
  }
    where
      one : (lit : ℕ) → IsLiteralOf c.aig lit → AreLiteralsOf c.aig (lit ∷ [])
      one lit within k d less = let at : k ≡ 0 = omega (arith, less) in subst (λ (n : ℕ). IsLiteralOf c.aig (get_or (lit ∷ []) n d)) (sym at) within

  -- what stands for the latches' next literals and for the properties' literals is a step of the
  -- circuit from the state
  pub step-is : (step : Step) → AreLiteralsOf c.aig (property_literals c.props) → step.nexts.items ≡ map next_of c.aig.latches
      → step.props.items ≡ map (substitute part) (property_literals c.props) → IsStep h c x s step
  step-is step net nexts props = record {
    many_nexts = ap length nexts ∙ length-map c.aig.latches next_of;
    nexts = subst (λ (ls : List ℕ). HoldAs h ls (λ z u. after_step c.aig (x z u) (s z u))) (sym nexts) nexts-hold;
    many_props = ap length props ∙ length-map (property_literals c.props) (substitute part);
    props = subst (λ (ls : List ℕ). HoldAs h ls (λ z u. read_in c (x z u) (s z u))) (sym props)
        (substitutes-hold h c.aig (λ z u. value_within c.aig (x z u) (s z u)) part view (property_literals c.props) net);
  }

-- what latches hold at step 0
opening-value : (h : Graph) → IsGraph h → (z : Digits) (u : State) (r : Reset) (own : ℕ) (b : Bool) → value_within h z u own ≡ b → value_within h z u (opening_literal r own) ≡ opening r b
opening-value h valid z u Zero own b e = (within_laws h valid z u).constant
opening-value h valid z u One own b e = (within_laws h valid z u).negation 0 ∙ ap not (within_laws h valid z u).constant
opening-value h valid z u Free own b e = e

opening-within : (h : Graph) (r : Reset) (own : ℕ) → IsLiteralOf h own → IsLiteralOf h (opening_literal r own)
opening-within h Zero own within = omega arith
opening-within h One own within = omega arith
opening-within h Free own within = within

-- the literals of resets hold what the latches hold at step 0, if the latches' own literals hold a
-- state
pub resets-hold : (h : Graph) → IsGraph h → (latches : List Latch) (own lits : List ℕ) (s : Held) → length own ≡ length latches → AreResets latches own lits → HoldAs h own s
    → HoldAs h lits (λ z u. λ j. reset_at (s z u j) (slice_get latches j))
resets-hold h valid latches own lits s long resets p = record {
  within = λ k d less.
      let short : k < length latches = omega (arith, less, resets.many) in
      let latch = element latches k short in
      let read : get_or lits k d ≡ opening_literal latch.0.reset (get_or own k 0) = get_or_default lits k d 0 less ∙ resets.each k latch.0 latch.1 in
      subst (λ (l : ℕ). IsLiteralOf h l) (sym read) (opening-within h latch.0.reset (get_or own k 0) (p.within k 0 (omega (arith, short, long))));
  values = λ z u k less.
      let short : k < length latches = omega (arith, less, resets.many) in
      let latch = element latches k short in
      ap (value_within h z u) (resets.each k latch.0 latch.1)
      ∙ opening-value h valid z u latch.0.reset (get_or own k 0) (s z u k) (p.values z u k (omega (arith, short, long)))
      ∙ sym (ap (reset_at (s z u k)) latch.1);
}
