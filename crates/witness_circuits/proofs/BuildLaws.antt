-- The graph of a lifted witness, from the one without gates to the one whose latches go on.
use Rattle.std.proofs.Common.{ℕ, ◌+◌, ◌<◌, ◌≡◌, Bool, true, false, List, [], ◌∷◌, ◌++◌, length, map, take, slice_get, Some, None, refl, arith, ap, sym, ◌∙◌, subst}
use Rattle.std.specs.List.{All}
use Rattle.std.proofs.Math.Seq.{take-length}
use Rattle.std.proofs.lemmas.List.{length-append, length-map}
use Rattle.std.proofs.lemmas.List.Elements.{All-append, All-map, All-nil}
use Rattle.std.proofs.lemmas.Option.{get_or_from_slice_get, none-some, slice_get_within}
use Rattle.aig_graph.proofs.ListLaws.{from_map, slice_get-map_some}
use Rattle.aig_graph.proofs.PlacesLaws.{slice_get-append_left, slice_get-append_right}
use Rattle.aig_graph.specs.declared.graph.Latch.{Latch}
use Rattle.aig_graph.specs.declared.graph.Reset.{Reset}
use Rattle.aig_graph.specs.declared.literal.TheConstants.{MAX_VARIABLES}
use Rattle.aig_graph.specs.declared.properties.Props.{Props}
use Rattle.aig_graph.specs.Building.{without_gates}
use Rattle.aig_graph.specs.Circuits.{AreLiteralsOf, Netlist}
use Rattle.aig_graph.specs.Graph.{Graph, IsGraph, IsLiteralOf}
use Rattle.aig_graph.specs.Value.{value_within}
use Rattle.aig_graph.proofs.GraphLaws.{all_from_slice_get}
use Rattle.state_maps.specs.States.{Digits, State}
use Rattle.witness_circuits.specs.declared.sharing.Sharing.{Sharing}
use Rattle.witness_circuits.specs.Joining.{own_at, own_count}
use Rattle.witness_circuits.specs.Witnesses.{bad_or, bad_states}
use Rattle.map_circuits.specs.Instances.{substitute}
use Rattle.map_circuits.proofs.InstanceLaws.{substitute-within}
use Rattle.witness_circuits.specs.declared.parts.Parts.{Parts}
use Rattle.witness_circuits.specs.Built.{IsFilled}
use Rattle.witness_circuits.specs.Latches.{AreOwn, with_nexts}
use Rattle.witness_circuits.specs.Lifting.{GoesAs, in_circuit, in_witness}
use Rattle.witness_circuits.specs.Parts.{AreLiftedProps, AreParts, both_nexts, both_resets}
use Rattle.witness_circuits.proofs.AgreeLaws.{AreAlike, literal-alike, literals-alike}
use Rattle.witness_circuits.proofs.LatchLaws.{length-with_nexts, next-read}

-- inputs, and latches with any resets and the constant as next literal, are a graph if they are few
-- enough
pub begun-graph : (inputs : ℕ) (resets : List Reset) → inputs + length resets < MAX_VARIABLES → IsGraph (without_gates inputs resets)
begun-graph inputs resets room = record {
  small = omega (arith, room, length-map resets (λ (r : Reset). new r));
  latches = λ k latch there.
      let from = from_map new resets k latch there in
      let is : latch.next ≡ 0 = ap (λ (l : Latch). l.next) from.2 in
      omega (arith, is);
  gates = λ k gate there. absurd (none-some gate there);
}
  where
    new : Reset → Latch
    new r = record { next = 0; reset = r }

-- what stands for the latches of two lists, one after the other
module _ {A : Type 0} (f g : Latch → A) (first own : List Latch) where
  both-first : (j : ℕ) (latch : Latch) → slice_get first j ≡ Some latch → slice_get (map f first ++ map g own) j ≡ Some (f latch)
  both-first j latch there = slice_get-append_left (map f first) (map g own) j (f latch) (slice_get-map_some f first j latch there)

  both-own : (q : ℕ) (latch : Latch) → slice_get own q ≡ Some latch → slice_get (map f first ++ map g own) (length first + q) ≡ Some (g latch)
  both-own q latch there =
      let at : length first + q ≡ length (map f first) + q = omega (arith, length-map first f) in
      ap (slice_get (map f first ++ map g own)) at ∙ slice_get-append_right (map f first) (map g own) q ∙ slice_get-map_some g own q latch there

  length-both : length (map f first ++ map g own) ≡ length first + length own
  length-both = omega (arith, length-append (map f first) (map g own), length-map first f, length-map own g)

-- there are as many resets as latches of the circuit and of the witness's own together
pub length-both_resets : (first own : List Latch) → length (both_resets first own) ≡ length first + length own
length-both_resets first own = length-both (λ l. l.reset) (λ l. l.reset) first own

module _ (g h : Graph) (c m w : Netlist) (k : Sharing) (p : Parts) (own : List Latch) (props : Props) (one : IsGraph c.aig) (three : IsGraph w.aig)
    (long : length k.latches ≡ length w.aig.latches) (mine : AreOwn k.latches w.aig.latches (length k.latches) own)
    (inputs : h.inputs ≡ c.aig.inputs + own_count k.inputs) (latches : h.latches ≡ (without_gates g.inputs (both_resets c.aig.latches own)).latches)
    (graph : IsGraph h) (parts : AreParts h c m w k p) (says : AreLiftedProps h c m w k props) where
  abbrev nexts : List ℕ
  nexts = both_nexts p c.aig.latches own

  abbrev ended : Graph
  ended = record h { latches = with_nexts nexts h.latches }

  many-own : length own ≡ own_count k.latches
  many-own = mine.many ∙ ap own_count (take-length k.latches)

  many-latches : length h.latches ≡ length c.aig.latches + length own
  many-latches = ap length latches ∙ length-map (both_resets c.aig.latches own) (λ (r : Reset). record { next = 0; reset = r }) ∙ length-both_resets c.aig.latches own

  many-nexts : length nexts ≡ length c.aig.latches + length own
  many-nexts = length-both (λ l. substitute p.first l.next) (λ l. substitute p.witness l.next) c.aig.latches own

  -- there are as many next literals as latches
  pub nexts-long : length nexts ≡ length h.latches
  nexts-long = omega (arith, many-nexts, many-latches)

  -- a latch of the ended graph
  ended-latch : (j : ℕ) (reset : Reset) (next : ℕ) → slice_get (both_resets c.aig.latches own) j ≡ Some reset → slice_get nexts j ≡ Some next → slice_get ended.latches j ≡ Some (record { next = next; reset = reset })
  ended-latch j reset next of_reset of_next =
      let new : Reset → Latch = λ r. record { next = 0; reset = r } in
      let there : slice_get h.latches j ≡ Some (new reset) = ap (λ (ls : List Latch). slice_get ls j) latches ∙ slice_get-map_some new (both_resets c.aig.latches own) j reset of_reset in
      let short : j < length nexts = slice_get_within nexts j next of_next in
      next-read nexts h.latches j (new reset) short there
      ∙ ap (λ (n : ℕ). Some (record { next = n; reset = reset })) (get_or_from_slice_get nexts j next 0 of_next)

  -- the next literals are literals of the graph
  pub nexts-within : AreLiteralsOf h nexts
  nexts-within = All-append (λ l. IsLiteralOf h l) (map (λ l. substitute p.first l.next) c.aig.latches) (map (λ l. substitute p.witness l.next) own)
      (All-map (λ l. IsLiteralOf h l) (λ (l : Latch). substitute p.first l.next) c.aig.latches (all_from_slice_get (λ (l : Latch). IsLiteralOf h (substitute p.first l.next)) c.aig.latches (λ j latch there.
      substitute-within h p.first latch.next parts.first.within (omega (arith, one.latches j latch there, parts.first.many)))))
      (All-map (λ l. IsLiteralOf h l) (λ (l : Latch). substitute p.witness l.next) own own-within)
    where
      own-within : All (λ (l : Latch). IsLiteralOf h (substitute p.witness l.next)) own
      own-within = all_from_slice_get (λ (l : Latch). IsLiteralOf h (substitute p.witness l.next)) own (λ q latch there.
          let from = mine.from q latch there in
          substitute-within h p.witness latch.next parts.witness.within (omega (arith, three.latches from.0 latch from.1, parts.witness.many)))

  -- ---- the ended graph has the values of the one before
  alike : AreAlike h ended
  alike = record { inputs = refl; latches = length-with_nexts nexts h.latches (omega (arith, nexts-long)); gates = refl }

  module _ (last : IsGraph ended) where
    ended-value : (z : Digits) (u : State) (lit : ℕ) → IsLiteralOf h lit → value_within ended z u lit ≡ value_within h z u lit
    ended-value z u lit within = literal-alike h ended graph last alike z z u u (record { inputs = λ i less. refl; latches = λ j less. refl }) lit within

    ended-values : (z : Digits) (u : State) (lits : List ℕ) → AreLiteralsOf h lits → map (value_within ended z u) lits ≡ map (value_within h z u) lits
    ended-values z u lits within = literals-alike h ended graph last alike z z u u (record { inputs = λ i less. refl; latches = λ j less. refl }) lits within

    goes-first : (j : ℕ) (latch : Latch) → slice_get c.aig.latches j ≡ Some latch → GoesAs ended j latch (in_circuit c)
    goes-first j latch there =
        let next : ℕ = substitute p.first latch.next in
        let within : IsLiteralOf c.aig latch.next = one.latches j latch there in
        record {
          is = record { next = next; reset = latch.reset };
          there = ended-latch j latch.reset next (both-first (λ l. l.reset) (λ l. l.reset) c.aig.latches own j latch there)
              (both-first (λ l. substitute p.first l.next) (λ l. substitute p.witness l.next) c.aig.latches own j latch there);
          reset = refl;
          next = λ z u. ended-value z u next (substitute-within h p.first latch.next parts.first.within (omega (arith, within, parts.first.many))) ∙ parts.first.values z u latch.next within;
        }

    goes-own : (j : ℕ) (latch : Latch) → slice_get k.latches j ≡ Some None → slice_get w.aig.latches j ≡ Some latch
        → GoesAs ended (own_at (length c.aig.latches) k.latches j) latch (in_witness c m w k)
    goes-own j latch e there =
        let q : ℕ = own_count (take j k.latches) in
        let here : slice_get own q ≡ Some latch = mine.each j latch (slice_get_within k.latches j None e) e there in
        let next : ℕ = substitute p.witness latch.next in
        let within : IsLiteralOf w.aig latch.next = three.latches j latch there in
        record {
          is = record { next = next; reset = latch.reset };
          there = ended-latch (length c.aig.latches + q) latch.reset next (both-own (λ l. l.reset) (λ l. l.reset) c.aig.latches own q latch here)
              (both-own (λ l. substitute p.first l.next) (λ l. substitute p.witness l.next) c.aig.latches own q latch here);
          reset = refl;
          next = λ z u. ended-value z u next (substitute-within h p.witness latch.next parts.witness.within (omega (arith, within, parts.witness.many))) ∙ parts.witness.values z u latch.next within;
        }

    stays : (lits : List ℕ) → AreLiteralsOf h lits → AreLiteralsOf ended lits
    stays lits within i d less = let more : length (with_nexts nexts h.latches) ≡ length h.latches = alike.latches in omega (arith, within i d less, more)

    ended-props : AreLiftedProps ended c m w k props
    ended-props =
        let bads : AreLiteralsOf h (bad_states props) = bad-among props.bad says.within.bad in
        record {
          within = record {
            outputs = stays props.outputs says.within.outputs;
            bad = stays props.bad says.within.bad;
            constraints = stays props.constraints says.within.constraints;
            justice = subst (λ (lists : List (List ℕ)). All (λ lits. AreLiteralsOf ended lits) lists) (sym says.justice) (All-nil (λ lits. AreLiteralsOf ended lits));
            fairness = stays props.fairness says.within.fairness;
          };
          outputs = says.outputs;
          justice = says.justice;
          fairness = says.fairness;
          allowed = λ z u.
              let same = ended-values z u props.constraints says.within.constraints in (
                λ all. (says.allowed z u).0 (subst (λ (bs : List Bool). All (λ b. b ≡ true) bs) same all),
                λ parts. subst (λ (bs : List Bool). All (λ b. b ≡ true) bs) (sym same) ((says.allowed z u).1 parts),
              );
          good = λ z u.
              let same = ended-values z u (bad_states props) bads in (
                λ all. (says.good z u).0 (subst (λ (bs : List Bool). All (λ b. b ≡ false) bs) same all),
                λ parts. subst (λ (bs : List Bool). All (λ b. b ≡ false) bs) (sym same) ((says.good z u).1 parts),
              );
        }
      where
        bad-among : (bad : List ℕ) → AreLiteralsOf h bad → AreLiteralsOf h (bad_or bad props.outputs)
        bad-among [] within = says.within.outputs
        bad-among (lit ∷ lits) within = within

    -- the graph with these next literals and properties is filled
    pub is-filled : IsFilled ended c m w k props
    is-filled = record {
      places = record {
        inputs = inputs;
        latches = let more : length (with_nexts nexts h.latches) ≡ length h.latches = alike.latches in omega (arith, more, many-latches, many-own);
      };
      first = goes-first;
      own = goes-own;
      props = ended-props;
    }
