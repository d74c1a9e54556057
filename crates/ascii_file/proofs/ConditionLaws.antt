-- The conditions on a raw circuit, section by section, are those under which its items follow.
use Rattle.std.proofs.Common.{ℕ, ◌^◌, ◌<◌, ◌≤◌, ◌≡◌, List, [], ◌∷◌, ◌++◌, map, AllPairs, false, subst, append_assoc, append-nil, arith}
use Rattle.std.specs.List.{AllByRecursion, list_any, sum}
use Rattle.std.proofs.lemmas.List.{map_push}
use Rattle.std.proofs.lemmas.List.Elements.{All-from_recursion, recursion_from_All}
use Rattle.aig_graph.specs.Graph.{variable}
use Rattle.ascii_file.specs.declared.header.Header.{Header}
use Rattle.ascii_file.specs.declared.raw.RawLatch.{RawLatch}
use Rattle.ascii_file.specs.declared.raw.RawGate.{RawGate}
use Rattle.ascii_file.specs.Raw.{Raw, RawSymbol, defined, count_of}
use Rattle.ascii_file.specs.Items.{InputItem, LatchItem, SafetyItem, SizeItem, LivenessItem, GateItem, SymbolItem}
use Rattle.ascii_file.specs.Reading.{is_of_same}
use Rattle.ascii_file.specs.Files.{IsDefinable, IsInRange, DefinesApart, HasReset, NamesApart}
use Rattle.ascii_file.proofs.CheckLaws.{AreWithin, Defines}
use Rattle.ascii_file.proofs.SectionLaws.{AllFit}
use Rattle.ascii_file.proofs.StateLaws.{at_inputs, at_latches, at_safety, at_sizes, at_liveness, at_gates, at_symbols}
use Rattle.ascii_file.proofs.DistinctItemLaws.{follow_each, each_follows, follow_both, follow_first, follow_second, sizes_follow, sizes_from, pairs_follow, pairs_from, AreApart, AreNewTo, AreApart-nil, apart_and_new, apart_front, new_where_apart, definitions_follow, definitions_from}

-- the conditions on the items of a file
pub record AreRight (h : Header) (raw : Raw) : Type 0 where
  -- no literal is past the greatest variable
  pub in_range : IsInRange h raw
  -- each line that defines, defines a variable of its own
  pub apart : DefinesApart raw
  -- each latch's reset is 0, 1 or its own literal
  pub resets : AllByRecursion HasReset raw.latches
  -- the sizes of justice properties come to at most 2^24
  pub sizes : sum raw.sizes ≤ 2 ^ 24
  -- each symbol names a thing of its own
  pub names : NamesApart h raw

-- each item of each section fits
pub record AllFitted (h : Header) (raw : Raw) : Type 0 where
  -- each input fits after those before it
  pub inputs : AllFit h InputItem at_inputs [] raw.inputs
  -- each latch fits after the inputs and the latches before it
  pub latches : AllFit h LatchItem (at_latches raw.inputs) [] raw.latches
  -- each output, bad state and constraint fits
  pub safety : AllFit h SafetyItem (at_safety raw.inputs raw.latches) [] raw.safety
  -- each size of a justice property fits after those before it
  pub sizes : AllFit h SizeItem (at_sizes raw.inputs raw.latches raw.safety) [] raw.sizes
  -- each literal of justice and fairness fits
  pub liveness : AllFit h LivenessItem (at_liveness raw.inputs raw.latches raw.safety raw.sizes) [] raw.liveness
  -- each gate fits after all that is defined before it
  pub gates : AllFit h GateItem (at_gates raw.inputs raw.latches raw.safety raw.sizes raw.liveness) [] raw.gates
  -- each symbol fits after those before it
  pub symbols : AllFit h SymbolItem (at_symbols raw.inputs raw.latches raw.safety raw.sizes raw.liveness raw.gates) [] raw.symbols

-- ---- one more definition

input_grows : (xs : List ℕ) (x : ℕ) → defined (at_inputs (xs ++ x ∷ [])) ≡ defined (at_inputs xs) ++ variable x ∷ []
input_grows xs x = simp (append-nil, map_push)

latch_grows : (inputs : List ℕ) (xs : List RawLatch) (x : RawLatch) → defined (at_latches inputs (xs ++ x ∷ [])) ≡ defined (at_latches inputs xs) ++ variable x.current ∷ []
latch_grows inputs xs x = simp (append-nil, map_push, append_assoc)

gate_grows : (inputs : List ℕ) (latches : List RawLatch) (safety sizes liveness : List ℕ) (xs : List RawGate) (x : RawGate)
    → defined (at_gates inputs latches safety sizes liveness (xs ++ x ∷ [])) ≡ defined (at_gates inputs latches safety sizes liveness xs) ++ variable x.lhs ∷ []
gate_grows inputs latches safety sizes liveness xs x = simp (map_push, append_assoc)

abbrev input_variables : Raw → List ℕ
input_variables raw = map variable raw.inputs

abbrev latch_variables : Raw → List ℕ
latch_variables raw = map (λ (latch : RawLatch). variable latch.current) raw.latches

abbrev gate_variables : Raw → List ℕ
gate_variables raw = map (λ (gate : RawGate). variable gate.lhs) raw.gates

-- a literal within the range, and a symbol of a thing that is there
abbrev IsWithin : Header → ℕ → Type 0
IsWithin h lit = AreWithin h (lit ∷ [])

abbrev IsBelow : Header → RawSymbol → Type 0
IsBelow h symbol = symbol.position < count_of h symbol.kind

-- under the conditions each item fits
pub all_fitted : (h : Header) (raw : Raw) → AreRight h raw → AllFitted h raw
all_fitted h raw right =
    let range = right.in_range in
    let apart = right.apart in
    let inputs_latches : AreApart (input_variables raw ++ latch_variables raw) = apart_front (input_variables raw ++ latch_variables raw) (gate_variables raw) apart.apart in
    let inputs : AreApart (input_variables raw) = apart_front (input_variables raw) (latch_variables raw) inputs_latches in
    record {
      inputs = definitions_follow h ℕ (λ lit. lit) (λ lit. []) at_inputs input_grows raw.inputs [] (record {
        within = recursion_from_All (λ lit. AreWithin h (lit ∷ [])) raw.inputs (λ k d less. (range.inputs k d less, tt));
        definable = recursion_from_All IsDefinable raw.inputs apart.inputs;
        new = new_where_apart (input_variables raw) [] inputs;
      });
      latches = follow_both (λ zs latch. Defines h (at_latches raw.inputs zs) latch.current (latch.next ∷ [])) (λ zs latch. HasReset latch) raw.latches []
          (definitions_follow h RawLatch (λ latch. latch.current) (λ latch. latch.next ∷ []) (at_latches raw.inputs) (latch_grows raw.inputs) raw.latches [] (record {
            within = recursion_from_All (λ latch. AreWithin h (latch.current ∷ latch.next ∷ [])) raw.latches (λ k d less. let two = range.latches k d less in (two.0, (two.1, tt)));
            definable = recursion_from_All (λ latch. IsDefinable latch.current) raw.latches apart.latches;
            new = subst (λ (vs : List ℕ). AreNewTo vs (latch_variables raw)) (simp append-nil) (new_where_apart (latch_variables raw) (input_variables raw) inputs_latches);
          }))
          (follow_each HasReset raw.latches [] right.resets);
      safety = follow_each (IsWithin h) raw.safety [] (recursion_from_All (IsWithin h) raw.safety (λ k d less. (range.safety k d less, tt)));
      sizes = sizes_follow (2 ^ 24) raw.sizes [] right.sizes;
      liveness = follow_each (IsWithin h) raw.liveness [] (recursion_from_All (IsWithin h) raw.liveness (λ k d less. (range.liveness k d less, tt)));
      gates = definitions_follow h RawGate (λ gate. gate.lhs) (λ gate. gate.rhs0 ∷ gate.rhs1 ∷ []) (at_gates raw.inputs raw.latches raw.safety raw.sizes raw.liveness)
          (gate_grows raw.inputs raw.latches raw.safety raw.sizes raw.liveness) raw.gates [] (record {
            within = recursion_from_All (λ gate. AreWithin h (gate.lhs ∷ gate.rhs0 ∷ gate.rhs1 ∷ [])) raw.gates
                (λ k d less. let three = range.gates k d less in (three.0, (three.1, (three.2, tt))));
            definable = recursion_from_All (λ gate. IsDefinable gate.lhs) raw.gates apart.gates;
            new = subst (λ (vs : List ℕ). AreNewTo vs (gate_variables raw)) (simp append-nil) (new_where_apart (gate_variables raw) (input_variables raw ++ latch_variables raw) apart.apart);
          });
      symbols = follow_both (λ zs symbol. IsBelow h symbol) (λ zs symbol. list_any (is_of_same symbol) zs ≡ false) raw.symbols []
          (follow_each (IsBelow h) raw.symbols [] (recursion_from_All (IsBelow h) raw.symbols right.names.below))
          (pairs_follow RawSymbol is_of_same raw.symbols [] right.names.apart);
    }

pairs-nil : AllPairs (λ (symbol other : RawSymbol). is_of_same other symbol ≡ false) []
pairs-nil i j d less within = absurd (omega arith)

-- what holds if each item fits
pub are_right : (h : Header) (raw : Raw) → AllFitted h raw → AreRight h raw
are_right h raw fitted =
    let inputs = definitions_from h ℕ (λ lit. lit) (λ lit. []) at_inputs input_grows raw.inputs [] fitted.inputs in
    let latches = definitions_from h RawLatch (λ latch. latch.current) (λ latch. latch.next ∷ []) (at_latches raw.inputs) (latch_grows raw.inputs) raw.latches []
    (follow_first (λ zs latch. Defines h (at_latches raw.inputs zs) latch.current (latch.next ∷ [])) (λ zs latch. HasReset latch) raw.latches [] fitted.latches) in
    let gates = definitions_from h RawGate (λ gate. gate.lhs) (λ gate. gate.rhs0 ∷ gate.rhs1 ∷ []) (at_gates raw.inputs raw.latches raw.safety raw.sizes raw.liveness)
    (gate_grows raw.inputs raw.latches raw.safety raw.sizes raw.liveness) raw.gates [] fitted.gates in
    let input_range = All-from_recursion (λ lit. AreWithin h (lit ∷ [])) raw.inputs inputs.within in
    let latch_range = All-from_recursion (λ latch. AreWithin h (latch.current ∷ latch.next ∷ [])) raw.latches latches.within in
    let safety_range = All-from_recursion (IsWithin h) raw.safety (each_follows (IsWithin h) raw.safety [] fitted.safety) in
    let liveness_range = All-from_recursion (IsWithin h) raw.liveness (each_follows (IsWithin h) raw.liveness [] fitted.liveness) in
    let gate_range = All-from_recursion (λ gate. AreWithin h (gate.lhs ∷ gate.rhs0 ∷ gate.rhs1 ∷ [])) raw.gates gates.within in
    let new_latches : AreNewTo (input_variables raw) (latch_variables raw) = subst (λ (vs : List ℕ). AreNewTo vs (latch_variables raw)) (simp append-nil) latches.new in
    let new_gates : AreNewTo (input_variables raw ++ latch_variables raw) (gate_variables raw) = subst (λ (vs : List ℕ). AreNewTo vs (gate_variables raw)) (simp append-nil) gates.new in
    record {
      in_range = record {
        inputs = λ k d less. (input_range k d less).0;
        latches = λ k d less. let two = latch_range k d less in (two.0, two.1.0);
        safety = λ k d less. (safety_range k d less).0;
        liveness = λ k d less. (liveness_range k d less).0;
        gates = λ k d less. let three = gate_range k d less in (three.0, three.1.0, three.1.1.0);
      };
      apart = record {
        inputs = All-from_recursion IsDefinable raw.inputs inputs.definable;
        latches = All-from_recursion (λ latch. IsDefinable latch.current) raw.latches latches.definable;
        gates = All-from_recursion (λ gate. IsDefinable gate.lhs) raw.gates gates.definable;
        apart = apart_and_new (gate_variables raw) (input_variables raw ++ latch_variables raw)
            (apart_and_new (latch_variables raw) (input_variables raw) (apart_and_new (input_variables raw) [] AreApart-nil inputs.new) new_latches) new_gates;
      };
      resets = each_follows HasReset raw.latches []
          (follow_second (λ zs latch. Defines h (at_latches raw.inputs zs) latch.current (latch.next ∷ [])) (λ zs latch. HasReset latch) raw.latches [] fitted.latches);
      sizes = sizes_from (2 ^ 24) raw.sizes [] (omega arith) fitted.sizes;
      names = record {
        below = All-from_recursion (IsBelow h) raw.symbols
            (each_follows (IsBelow h) raw.symbols [] (follow_first (λ zs symbol. IsBelow h symbol) (λ zs symbol. list_any (is_of_same symbol) zs ≡ false) raw.symbols [] fitted.symbols));
        apart = pairs_from RawSymbol is_of_same raw.symbols [] pairs-nil
            (follow_second (λ zs symbol. IsBelow h symbol) (λ zs symbol. list_any (is_of_same symbol) zs ≡ false) raw.symbols [] fitted.symbols);
      };
    }
