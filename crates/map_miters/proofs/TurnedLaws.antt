-- A map that is put together the other way round.
use Rattle.std.proofs.Common.{ℕ, ◌+◌, ◌*◌, ◌<◌, ◌≤◌, ◌≡◌, true, false, List, [], ◌∷◌, length, arith, ap, sym, ◌∙◌, subst}
use Rattle.std.proofs.lemmas.List.{get_or-map}
use Rattle.std.proofs.lemmas.List.Elements.{All-cons, All-head, All-nil}
use Rattle.aig_graph.specs.Tables.{table}
use Rattle.aig_graph.proofs.TableLaws.{length-table, table-at}
use Rattle.aig_graph.specs.declared.properties.Props.{Props}
use Rattle.aig_graph.specs.Circuits.{AreLiteralsOf, IsNetlist, Netlist, no_symbols}
use Rattle.aig_graph.specs.Graph.{Graph, IsGraph, IsLiteralOf}
use Rattle.aig_graph.specs.Value.{value_within}
use Rattle.aig_graph.proofs.HoldingLaws.{no-names}
use Rattle.witness_circuits.proofs.ViewLaws.{input-value, table-within}
use Rattle.map_miters.specs.Holding.{HoldAs}
use Rattle.map_miters.specs.Turned.{IsTurned, IsTurnedIn}

-- literals of inputs, from a place on, hold what these inputs are
pub inputs-hold : (h : Graph) → IsGraph h → (before n : ℕ) → before + n ≤ h.inputs → HoldAs h (table 0 n (λ j. 2 * (1 + before + j))) (λ z u. λ j. z (before + j))
inputs-hold h valid before n fits = record {
  within = table-within h (1 + before) n (omega (arith, fits));
  values = λ z u k less.
      let short : k < n = omega (arith, less, length-table 0 n (λ j. 2 * (1 + before + j))) in
      let at : 2 * (1 + before + (0 + k)) ≡ 2 * (1 + (before + k)) = omega arith in
      ap (value_within h z u) (table-at 0 n (λ j. 2 * (1 + before + j)) k 0 short ∙ at) ∙ input-value h valid z u (before + k) (omega (arith, short, fits));
}

-- held, of the first inputs
pub first-hold : (h : Graph) → IsGraph h → (n : ℕ) → n ≤ h.inputs → HoldAs h (table 0 n (λ j. 2 * (1 + j))) (λ z u. z)
first-hold h valid n fits = record {
  within = table-within h 1 n (omega (arith, fits));
  values = λ z u k less.
      let short : k < n = omega (arith, less, length-table 0 n (λ j. 2 * (1 + j))) in
      let at : 2 * (1 + (0 + k)) ≡ 2 * (1 + k) = omega arith in
      ap (value_within h z u) (table-at 0 n (λ j. 2 * (1 + j)) k 0 short ∙ at) ∙ input-value h valid z u k (omega (arith, short, fits));
}

module _ (h : Graph) (c d m : Netlist) (p : Props) (t : IsTurnedIn h c d m p) where
  abbrev n : ℕ
  n = length c.aig.latches

  abbrev nd : ℕ
  nd = length d.aig.latches

  abbrev outputs : List ℕ
  outputs = table 0 nd (λ j. 2 * (1 + n + j))

  abbrev made : Props
  made = record { outputs = outputs; bad = []; constraints = t.holds ∷ []; justice = []; fairness = [] }

  -- it is a netlist
  pub turned-netlist : IsNetlist (record { aig = h; props = p; symbols = no_symbols })
  turned-netlist = subst (λ (ps : Props). IsNetlist (record { aig = h; props = ps; symbols = no_symbols })) (sym t.props) (record {
    props = record {
      outputs = (inputs-hold h t.graph n nd (omega (arith, t.inputs))).within;
      bad = All-nil (λ l. IsLiteralOf h l);
      constraints = All-cons (λ l. IsLiteralOf h l) t.holds [] t.says.within (All-nil (λ l. IsLiteralOf h l));
      justice = All-nil (λ lits. AreLiteralsOf h lits);
      fairness = All-nil (λ l. IsLiteralOf h l);
    };
    symbols = record {
      inputs = no-names h.inputs;
      latches = no-names (length h.latches);
      outputs = no-names (length outputs);
      bad = no-names 0;
      constraints = no-names 1;
      justice = no-names 0;
      fairness = no-names 0;
    };
  })

  -- it is the map turned round
  pub is-turned : IsTurned c d m (record { aig = h; props = p; symbols = no_symbols })
  is-turned = subst (λ (ps : Props). IsTurned c d m (record { aig = h; props = ps; symbols = no_symbols })) (sym t.props) (record {
    inputs = t.inputs;
    latches = t.latches;
    outputs = length-table 0 nd (λ j. 2 * (1 + n + j));
    gives = λ s j less.
        get_or-map (value_within h s (λ i. false)) outputs j 0 false (omega (arith, less, length-table 0 nd (λ j. 2 * (1 + n + j))))
        ∙ (inputs-hold h t.graph n nd (omega (arith, t.inputs))).values s (λ i. false) j (omega (arith, less, length-table 0 nd (λ j. 2 * (1 + n + j))));
    kept = λ s. (
      λ all. (t.says.is s (λ i. false)).0 (All-head (λ b. b ≡ true) (value_within h s (λ i. false) t.holds) [] all),
      λ gives. All-cons (λ b. b ≡ true) (value_within h s (λ i. false) t.holds) [] ((t.says.is s (λ i. false)).1 gives) (All-nil (λ b. b ≡ true)),
    );
  })

-- the literals of the leaves, by the circuits whose graphs they were made of
pub leaves-first : (c : Netlist) (g : Graph) (lits : List ℕ) → g ≡ c.aig → lits ≡ table 0 (length g.latches) (λ j. 2 * (1 + j)) → lits ≡ table 0 (length c.aig.latches) (λ j. 2 * (1 + j))
leaves-first c g lits same is = subst (λ (h : Graph). lits ≡ table 0 (length h.latches) (λ j. 2 * (1 + j))) same is

-- so those of the second
pub leaves-second : (c d : Netlist) (g h : Graph) (lits : List ℕ) → g ≡ c.aig → h ≡ d.aig → lits ≡ table 0 (length h.latches) (λ j. 2 * (1 + length g.latches + j))
    → lits ≡ table 0 (length d.aig.latches) (λ j. 2 * (1 + length c.aig.latches + j))
leaves-second c d g h lits one two is =
    subst (λ (i : Graph). lits ≡ table 0 (length d.aig.latches) (λ j. 2 * (1 + length i.latches + j))) one
    (subst (λ (i : Graph). lits ≡ table 0 (length i.latches) (λ j. 2 * (1 + length g.latches + j))) two is)
