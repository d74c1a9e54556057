-- Property literals that are mapped.
use Rattle.std.proofs.Common.{ℕ, ◌+◌, ◌≡◌, List, [], ◌∷◌, ◌++◌, length, map, refl, arith, ap, sym, ◌∙◌, subst, length-append}
use Rattle.std.specs.List.{All, flat_map}
use Rattle.std.proofs.lemmas.List.{map-append, get_or_append_left, get_or-append-add, length-map}
use Rattle.std.proofs.lemmas.List.Elements.{All-nil, All-cons, All-head, All-tail, All-append, All-map, All-weaker}
use Rattle.aig_graph.specs.declared.properties.Props.{Props}
use Rattle.aig_graph.specs.Graph.{Graph, IsLiteralOf}
use Rattle.aig_graph.specs.Circuits.{AreLiteralsOf, ArePropsOf, IsNetlist, Netlist}
use Rattle.aig_graph.specs.Streams.{property_literals, SameShape}
use Rattle.aig_graph.specs.Mapped.{OfProps, mapped_props}

All-left : {A : Type 0} (P : A → Type 0) (xs ys : List A) → All P (xs ++ ys) → All P xs
All-left P xs ys all = λ k d h. subst P (get_or_append_left xs ys d k h) (all k d (omega (arith, length-append xs ys)))

All-right : {A : Type 0} (P : A → Type 0) (xs ys : List A) → All P (xs ++ ys) → All P ys
All-right P xs ys all = λ k d h. subst P (get_or-append-add xs ys k d) (all (length xs + k) d (omega (arith, length-append xs ys)))

flat-all : {A : Type 0} (P : A → Type 0) (xss : List (List A)) → All (λ xs. All P xs) xss → All P (flat_map (λ xs. xs) xss)
flat-all P [] all = All-nil P
flat-all {A} P (xs ∷ xss) all =
    All-append P xs (flat_map (λ (ys : List A). ys) xss) (All-head (λ (ys : List A). All P ys) xs xss all) (flat-all P xss (All-tail (λ (ys : List A). All P ys) xs xss all))

each-flat : {A : Type 0} (P : A → Type 0) (xss : List (List A)) → All P (flat_map (λ xs. xs) xss) → All (λ xs. All P xs) xss
each-flat {A} P [] all = All-nil (λ (ys : List A). All P ys)
each-flat {A} P (xs ∷ xss) all =
    All-cons (λ (ys : List A). All P ys) xs xss (All-left P xs (flat_map (λ (ys : List A). ys) xss) all) (each-flat P xss (All-right P xs (flat_map (λ (ys : List A). ys) xss) all))

-- lists that are mapped one by one and joined are the joined list mapped
pub flat-map_map : {A B : Type 0} (f : A → B) (xss : List (List A)) → flat_map (λ ys. ys) (map (map f) xss) ≡ map f (flat_map (λ xs. xs) xss)
flat-map_map f [] = refl
flat-map_map {A} {B} f (xs ∷ xss) = ap (λ (ys : List B). map f xs ++ ys) (flat-map_map f xss) ∙ sym (map-append f xs (flat_map (λ (ys : List A). ys) xss))

-- lists that are mapped one by one keep their lengths
pub map_lengths : {A B : Type 0} (f : A → B) (xss : List (List A)) → map length (map (map f) xss) ≡ map length xss
map_lengths f [] = refl
map_lengths f (xs ∷ xss) = let one : length (map f xs) ≡ length xs = length-map xs f in let rest : map length (map (map f) xss) ≡ map length xss = map_lengths f xss in cc

-- what holds of all literals of properties holds of those of each kind
pub of_literals : (P : ℕ → Type 0) (p : Props) → All P (property_literals p) → OfProps P p
of_literals P p all =
    let flat = flat_map (λ (lits : List ℕ). lits) p.justice in
    let four = All-left P (p.outputs ++ p.bad ++ p.constraints ++ flat) p.fairness all in
    let three = All-left P (p.outputs ++ p.bad ++ p.constraints) flat four in
    let two = All-left P (p.outputs ++ p.bad) p.constraints three in
    record {
      outputs = All-left P p.outputs p.bad two;
      bad = All-right P p.outputs p.bad two;
      constraints = All-right P (p.outputs ++ p.bad) p.constraints three;
      justice = each-flat P p.justice (All-right P (p.outputs ++ p.bad ++ p.constraints) flat four);
      fairness = All-right P (p.outputs ++ p.bad ++ p.constraints ++ flat) p.fairness all;
    }

-- what holds of the literals of each kind holds of all literals of properties
pub to_literals : (P : ℕ → Type 0) (p : Props) → OfProps P p → All P (property_literals p)
to_literals P p of_p =
    let flat = flat_map (λ (lits : List ℕ). lits) p.justice in
    All-append P (p.outputs ++ p.bad ++ p.constraints ++ flat) p.fairness
    (All-append P (p.outputs ++ p.bad ++ p.constraints) flat
    (All-append P (p.outputs ++ p.bad) p.constraints (All-append P p.outputs p.bad of_p.outputs of_p.bad) of_p.constraints)
    (flat-all P p.justice of_p.justice))
    of_p.fairness

-- the literals of mapped properties are the mapped literals
pub mapped-literals : (f : ℕ → ℕ) (p : Props) → property_literals (mapped_props f p) ≡ map f (property_literals p)
unfolding mapped_props
mapped-literals f p =
    let flat = flat_map (λ (lits : List ℕ). lits) p.justice in
    let e = flat-map_map f p.justice in
    let e1 = map-append f p.outputs p.bad in
    let e2 = map-append f (p.outputs ++ p.bad) p.constraints in
    let e3 = map-append f (p.outputs ++ p.bad ++ p.constraints) flat in
    let e4 = map-append f (p.outputs ++ p.bad ++ p.constraints ++ flat) p.fairness in
    cc

-- what is mapped kind by kind
pub mapped-is : (f : ℕ → ℕ) (p : Props) (outputs bad constraints : List ℕ) (justice : List (List ℕ)) (fairness : List ℕ) → outputs ≡ map f p.outputs → bad ≡ map f p.bad → constraints ≡ map f p.constraints
    → justice ≡ map (map f) p.justice → fairness ≡ map f p.fairness
    → ◌≡◌ {A = Props} (record { outputs = outputs; bad = bad; constraints = constraints; justice = justice; fairness = fairness }) (mapped_props f p)
unfolding mapped_props
mapped-is f p outputs bad constraints justice fairness one two three four five =
    let first : List ℕ → Props = λ xs. record { outputs = xs; bad = bad; constraints = constraints; justice = justice; fairness = fairness } in
    let second : List ℕ → Props = λ xs. record { outputs = map f p.outputs; bad = xs; constraints = constraints; justice = justice; fairness = fairness } in
    let third : List ℕ → Props = λ xs. record { outputs = map f p.outputs; bad = map f p.bad; constraints = xs; justice = justice; fairness = fairness } in
    let fourth : List (List ℕ) → Props = λ xss. record { outputs = map f p.outputs; bad = map f p.bad; constraints = map f p.constraints; justice = xss; fairness = fairness } in
    let fifth : List ℕ → Props = λ xs. record { outputs = map f p.outputs; bad = map f p.bad; constraints = map f p.constraints; justice = map (map f) p.justice; fairness = xs } in
    ap first one ∙ ap second two ∙ ap third three ∙ ap fourth four ∙ ap fifth five

-- a circuit with equal inputs in number and mapped properties has this shape
pub mapped-shape : (f : ℕ → ℕ) (c d : Netlist) → d.aig.inputs ≡ c.aig.inputs → d.props ≡ mapped_props f c.props → SameShape c d
unfolding mapped_props
mapped-shape f c d inputs props = record {
  inputs = inputs;
  outputs = ap (λ (p : Props). length p.outputs) props ∙ length-map c.props.outputs f;
  bad = ap (λ (p : Props). length p.bad) props ∙ length-map c.props.bad f;
  constraints = ap (λ (p : Props). length p.constraints) props ∙ length-map c.props.constraints f;
  justice = ap (λ (p : Props). map length p.justice) props ∙ map_lengths f c.props.justice;
  fairness = ap (λ (p : Props). length p.fairness) props ∙ length-map c.props.fairness f;
}

-- properties whose literals of each kind are the graph's have only literals of the graph
pub literals_within : (g : Graph) (p : Props) → ArePropsOf g p → All (λ lit. IsLiteralOf g lit) (property_literals p)
literals_within g p props =
    to_literals (λ lit. IsLiteralOf g lit) p (record { outputs = props.outputs; bad = props.bad; constraints = props.constraints; justice = props.justice; fairness = props.fairness })

-- the property literals of a circuit are literals of its graph
pub properties-within : (c : Netlist) → IsNetlist c → AreLiteralsOf c.aig (property_literals c.props)
properties-within c net = literals_within c.aig c.props net.props

-- if f takes each property literal to one of d
pub mapped-props : (f : ℕ → ℕ) (P : ℕ → Type 0) (g : Graph) (p : Props) → All P (property_literals p) → ((lit : ℕ) → P lit → IsLiteralOf g (f lit)) → ArePropsOf g (mapped_props f p)
unfolding mapped_props
mapped-props f P g p all each =
    let Q : ℕ → Type 0 = λ lit. IsLiteralOf g lit in
    let parts = of_literals P p all in
    let mapped = λ (lits : List ℕ) (every : All P lits). All-map Q f lits (All-weaker P (λ lit. Q (f lit)) each lits every) in
    record {
      outputs = mapped p.outputs parts.outputs;
      bad = mapped p.bad parts.bad;
      constraints = mapped p.constraints parts.constraints;
      justice = All-map (λ (lits : List ℕ). All Q lits) (map f) p.justice
          (All-weaker (λ (lits : List ℕ). All P lits) (λ (lits : List ℕ). All Q (map f lits)) mapped p.justice parts.justice);
      fairness = mapped p.fairness parts.fairness;
    }
