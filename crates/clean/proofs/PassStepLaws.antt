-- A pass, from the merged graph and the reached set.
use Rattle.std.proofs.Common.{ℕ, ◌<◌, ◌≡◌, Bool, List, length, get_or, arith, ap, sym, ◌∙◌, subst}
use Rattle.std.specs.List.{All}
use Rattle.aig_graph.specs.declared.properties.Props.{Props}
use Rattle.aig_graph.specs.declared.properties.Symbols.{Symbols}
use Rattle.aig_graph.specs.Graph.{Graph, IsGraph, IsLiteralOf}
use Rattle.aig_graph.specs.Circuits.{Netlist, IsNetlist}
use Rattle.aig_graph.specs.Mapped.{OfProps}
use Rattle.cleaned_circuits.specs.Merged.{merged_of, substitutes_of}
use Rattle.cleaned_circuits.specs.Reached.{AreReached}
use Rattle.cleaned_circuits.specs.Trimmed.{trimmed_graph, trimmed_of}
use Rattle.aig_graph.proofs.PropsLaws.{of_literals, literals_within}
use Rattle.cleaned_circuits.proofs.MergedLaws.{IsGraph-merged, IsNetlist-merged, length-replaced_latches}
use Rattle.cleaned_circuits.proofs.TrimmedLaws.{IsGraph-trimmed}
use Rattle.cleaned_circuits.proofs.TrimmedNameLaws.{IsNetlist-trimmed}
use Rattle.clean.specs.Sweep.{Front, is_marked}

abbrev netlist_of : Graph → Props → Symbols → Netlist
netlist_of g p names = record { aig = g; props = p; symbols = names }

-- equal graphs, symbols and marks give one trimmed circuit
pub same-trimmed : (g h : Graph) (p : Props) (old new : Symbols) (r t : Front) → g ≡ h → old ≡ new → r ≡ t
    → trimmed_of (record { aig = g; props = p; symbols = old }) (is_marked r) ≡ trimmed_of (record { aig = h; props = p; symbols = new }) (is_marked t)
same-trimmed g h p old new r t one two three =
    ap (λ (a : Graph). trimmed_of (record { aig = a; props = p; symbols = old }) (is_marked r)) one
    ∙ ap (λ (n : Symbols). trimmed_of (record { aig = h; props = p; symbols = n }) (is_marked r)) two
    ∙ ap (λ (f : Front). trimmed_of (record { aig = h; props = p; symbols = new }) (is_marked f)) three

-- equal graphs and marks give one trimmed graph
pub same-graph : (g h : Graph) (r t : Front) → g ≡ h → r ≡ t → trimmed_graph g (is_marked r) ≡ trimmed_graph h (is_marked t)
same-graph g h r t one two = ap (λ (a : Graph). trimmed_graph a (is_marked r)) one ∙ ap (λ (f : Front). trimmed_graph h (is_marked f)) two

module _ (c : Netlist) (held : List ℕ) (graph : IsGraph c.aig) (netlist : IsNetlist c) (g : Graph) (p : Props) (aig : g ≡ (merged_of held c).aig) (props : p ≡ (merged_of held c).props) where
  -- the merged graph is one
  pub merged-graph : IsGraph g
  merged-graph = subst (λ (h : Graph). IsGraph h) (sym aig) (IsGraph-merged c.aig held graph)

  -- the merged graph and properties with the circuit's symbols are the merged circuit
  pub whole : ◌≡◌ {A = Netlist} (record { aig = g; props = p; symbols = c.symbols }) (merged_of held c)
  whole =
      let first : Graph → Netlist = λ h. record { aig = h; props = p; symbols = c.symbols } in
      let second : Props → Netlist = λ q. record { aig = (merged_of held c).aig; props = q; symbols = c.symbols } in
      ap first aig ∙ ap second props

  -- the merged graph and properties with the circuit's symbols are a circuit
  pub merged-netlist : IsNetlist (record { aig = g; props = p; symbols = c.symbols })
  merged-netlist = subst (λ (d : Netlist). IsNetlist d) (sym whole) (IsNetlist-merged held c graph netlist)

  -- the merged properties are literals of the merged graph
  pub merged-props : OfProps (λ lit. IsLiteralOf g lit) p
  merged-props = of_literals (λ lit. IsLiteralOf g lit) p (literals_within g p merged-netlist.props)

  -- the merged graph has as many latches as the circuit
  pub merged-latches : length g.latches ≡ length c.aig.latches
  merged-latches = ap (λ (h : Graph). length h.latches) aig ∙ length-replaced_latches (substitutes_of c.aig held) c.aig

  -- positions of the circuit's latches are positions of the merged graph's
  pub merged-range : All (λ j. j < length c.aig.latches) held → All (λ j. j < length g.latches) held
  merged-range in_range = λ k d h. let here : get_or held k d < length c.aig.latches = in_range k d h in omega (arith, merged-latches)

  -- the names of latches are at positions of the merged graph's latches
  pub merged-names : All (λ name. name.position < length g.latches) c.symbols.latches
  merged-names = merged-netlist.symbols.latches.below

  module _ (s : ℕ → Bool) (reached : AreReached g p held s) where
    -- trimmed to what is reached the merged graph is a graph
    pub pass-graph : IsGraph (trimmed_graph g s)
    pass-graph = IsGraph-trimmed (netlist_of g p c.symbols) held s merged-graph reached.holds

    -- trimmed to what is reached the merged circuit is a circuit
    pub pass-netlist : IsNetlist (trimmed_of (record { aig = g; props = p; symbols = c.symbols }) s)
    pass-netlist = IsNetlist-trimmed (netlist_of g p c.symbols) held s merged-graph merged-netlist reached.holds

    -- what is reached in the merged graph is what is reached in the merged circuit
    pub pass-reached : AreReached (merged_of held c).aig (merged_of held c).props held s
    pass-reached = subst (λ (q : Props). AreReached (merged_of held c).aig q held s) props (subst (λ (h : Graph). AreReached h p held s) aig reached)

-- a circuit of equal parts is that circuit
pub of-parts : (c : Netlist) (g : Graph) (p : Props) (names : Symbols) → g ≡ c.aig → p ≡ c.props → names ≡ c.symbols → ◌≡◌ {A = Netlist} (netlist_of g p names) c
of-parts c g p names one two three =
    ap (λ (h : Graph). netlist_of h p names) one ∙ ap (λ (q : Props). netlist_of c.aig q names) two ∙ ap (λ (ns : Symbols). netlist_of c.aig c.props ns) three
