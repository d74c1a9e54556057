-- The circuit of contents of which no section is short.
use Rattle.std.proofs.Common.{ℕ, ◌+◌, ◌*◌, ◌<◌, ◌≤◌, ◌≡◌, List, length, get_or, All, Ok, Err, refl, sym, ap, subst, ◌∙◌, arith}
use Rattle.std.proofs.lemmas.Bool.{cond-true}
use Rattle.std.proofs.lemmas.Option.{slice_get_within, get_or_from_slice_get}
use Rattle.aig_graph.specs.declared.graph.Latch.{Latch}
use Rattle.aig_graph.specs.Graph.{variable, variables_end, IsGateAt, IsGraph}
use Rattle.aig_graph.specs.declared.properties.Symbols.{Symbols as SymbolTable}
use Rattle.aig_graph.specs.Circuits.{AreLiteralsOf, IsNetlist}
use Rattle.file_words.specs.declared.fault.ReadError.TheVariants.{Truncated}
use Rattle.ascii_file.specs.declared.header.Header.{Header}
use Rattle.ascii_file.specs.declared.raw.Section.TheVariants.{Symbols}
use Rattle.ascii_file.specs.Raw.{Raw}
use Rattle.ascii_file.specs.Reading.{is_symbols}
use Rattle.binary_file.specs.Files.{IsWithin}
use Rattle.binary_file.specs.Items.{next_section}
use Rattle.binary_file.specs.Reading.{circuit_of}
use Rattle.ascii_file.proofs.PartLaws.{netlist}
use Rattle.binary_file.specs.Contents.{Contents, contents_of, IsAt, section_to_fill, netlist_of_contents}
use Rattle.binary_file.specs.Kept.{IsKept}
use Rattle.binary_file.specs.Taking.{circuit_at_end}
use Rattle.binary_file.proofs.ContentsLaws.{section_is, are_full}

-- there are as many variables as the header says
record AreAll (c : Contents) : Type 0 where
  latches : length c.latches ≡ c.header.latches
  gates : length c.gates ≡ c.header.gates
  end : variables_end (netlist_of_contents c).aig ≡ c.header.greatest + 1

are_all : (c : Contents) → IsKept c → section_to_fill c ≡ Symbols → AreAll c
are_all c kept here =
    let full = are_full c here in
    let least_latches = full.latches in
    let least_gates = full.gates in
    let most_latches = kept.counted.latches in
    let most_gates = kept.counted.gates in
    let total = kept.within.total in
    record { latches = omega (arith, least_latches, most_latches); gates = omega (arith, least_gates, most_gates); end = omega (arith, least_latches, most_latches, least_gates, most_gates, total) }

in_range : (c : Contents) → IsKept c → section_to_fill c ≡ Symbols → (lit : ℕ) → lit ≤ 2 * c.header.greatest + 1 → variable lit < variables_end (netlist_of_contents c).aig
in_range c kept here lit within = let end = (are_all c kept here).end in omega (arith, within, end)

-- contents of which all sections are full make a graph
pub graph_kept : (c : Contents) → IsKept c → section_to_fill c ≡ Symbols → IsGraph (netlist_of_contents c).aig
graph_kept c kept here =
    let all = are_all c kept here in
    let end = all.end in
    let most = kept.within.greatest in
    record {
      small = omega (arith, end, most);
      latches = λ k latch there. in_range c kept here latch.next
          (subst (λ (l : Latch). l.next ≤ 2 * c.header.greatest + 1) (get_or_from_slice_get c.latches k latch latch there) (kept.in_range.latches k latch (slice_get_within c.latches k latch there)));
      gates = λ k gate there. subst (λ (n : ℕ). IsGateAt (1 + c.header.inputs + n + k) gate) (sym all.latches) (kept.in_range.gates k gate there);
    }

literals_of : (c : Contents) → IsKept c → section_to_fill c ≡ Symbols → (lits : List ℕ) → All (IsWithin c.header) lits → AreLiteralsOf (netlist_of_contents c).aig lits
literals_of c kept here lits within = λ k d less. in_range c kept here (get_or lits k d) (within k d less)

-- contents of which all sections are full make a circuit
pub netlist_kept : (c : Contents) → IsKept c → section_to_fill c ≡ Symbols → IsNetlist (netlist_of_contents c)
netlist_kept c kept here =
    let full = are_full c here in
    let all = are_all c kept here in
    let least_safety = full.safety in
    let least_sizes = full.sizes in
    let least_liveness = full.liveness in
    let most_safety = kept.counted.safety in
    let most_sizes = kept.counted.sizes in
    let most_liveness = kept.counted.liveness in
    subst (λ (names : SymbolTable). IsNetlist (record { aig = (netlist_of_contents c).aig; props = (netlist_of_contents c).props; symbols = names })) (sym kept.named.names)
    (netlist c.header (netlist_of_contents c).aig kept.named.symbols c.properties (record {
      inputs = refl;
      latches = all.latches;
      safety = omega (arith, least_safety, most_safety);
      sizes = omega (arith, least_sizes, most_sizes);
      liveness = omega (arith, least_liveness, most_liveness);
      safety_literals = literals_of c kept here c.properties.safety kept.in_range.safety;
      liveness_literals = literals_of c kept here c.properties.liveness kept.in_range.liveness;
      below = kept.named.below;
      apart = kept.named.apart;
    }))

netlist_is : (h : Header) (raw : Raw) → netlist_of_contents (contents_of h raw) ≡ circuit_of h raw
unfolding circuit_of
netlist_is h raw = refl

-- what the end of the input gives if no item is missing
pub ended : (c : Contents) (h : Header) (raw : Raw) (end : ℕ) → IsAt c h raw → section_to_fill c ≡ Symbols → Ok (netlist_of_contents c) ≡ circuit_at_end end h raw
ended c h raw end is here =
    ap (λ (d : Contents). Ok (netlist_of_contents d)) is ∙ ap Ok (netlist_is h raw)
    ∙ sym (cond-true (is_symbols (next_section h raw)) (Ok (circuit_of h raw)) (Err (Truncated end)) (ap is_symbols (sym (section_is c h raw is) ∙ here)))
