-- The graph of the questions, with their names, is a miter.
use Rattle.std.proofs.Common.{ℕ, suc, zero, ◌+◌, ◌*◌, ◌<◌, ◌≡◌, ◌↔◌, false, List, [], ◌∷◌, length, get_or, refl, arith, ap, sym, ◌∙◌, subst}
use Rattle.std.proofs.lemmas.List.Elements.{All-cons, All-nil}
use Rattle.aig_graph.specs.Tables.{table}
use Rattle.aig_graph.proofs.TableLaws.{length-table, table-at}
use Rattle.aig_graph.specs.declared.properties.Symbol.{Symbol}
use Rattle.aig_graph.specs.Building.{without_gates}
use Rattle.aig_graph.specs.Circuits.{AreLiteralsOf, AreNamesBelow, IsNetlist, Netlist, no_symbols}
use Rattle.aig_graph.specs.Graph.{Graph, IsGraph, IsLiteralOf}
use Rattle.aig_graph.specs.Value.{value_within}
use Rattle.aig_graph.proofs.HoldingLaws.{no-names}
use Rattle.state_maps.specs.States.{Digits, State}
use Rattle.witness_circuits.proofs.ViewLaws.{input-value, table-within}
use Rattle.map_miters.specs.declared.leaves.Leaves.{Leaves}
use Rattle.map_miters.specs.Asking.{AreLeaves, asked_digits, asked_state}
use Rattle.map_miters.specs.Comparing.{FailsBut}
use Rattle.map_miters.specs.Holding.{HoldAs}
use Rattle.map_miters.specs.Miters.{AsksIn, IsMiter, failure_list, miter_with, question_names}
use Rattle.map_circuits.specs.Growing.{Extends}
use Rattle.map_miters.proofs.HoldingLaws.{holds-grow}

-- inputs from a variable on hold their digits
inputs-hold : (h : Graph) → IsGraph h → (first n : ℕ) → first + n ≡ h.inputs → HoldAs h (table 0 n (λ k. 2 * (1 + first + k))) (λ z u. λ k. z (first + k))
inputs-hold h valid first n wide = record {
  within = table-within h (1 + first) n (omega (arith, wide));
  values = λ z u k less.
      let short : k < n = omega (arith, less, length-table 0 n (λ j. 2 * (1 + first + j))) in
      let at : 2 * (1 + first + (0 + k)) ≡ 2 * (1 + (first + k)) = omega arith in
      ap (value_within h z u) (table-at 0 n (λ j. 2 * (1 + first + j)) k 0 short ∙ at) ∙ input-value h valid z u (first + k) (omega (arith, short, wide));
}

-- the leaves of a graph of inputs alone
pub leaves-hold : (h c : Graph) (leaves : Leaves) → IsGraph h → h ≡ without_gates (c.inputs + length c.latches) [] → leaves.inputs.items ≡ table 0 c.inputs (λ i. 2 * (1 + i))
    → leaves.latches.items ≡ table 0 (length c.latches) (λ j. 2 * (1 + c.inputs + j)) → AreLeaves h c leaves
leaves-hold h c leaves valid begun inputs latches =
    let wide : h.inputs ≡ c.inputs + length c.latches = ap (λ (g : Graph). g.inputs) begun in
    record {
      wide = ap length inputs ∙ length-table 0 c.inputs (λ i. 2 * (1 + i));
      inputs = subst (λ (ls : List ℕ). HoldAs h ls asked_digits) (sym inputs) (record {
        within = table-within h 1 c.inputs (omega (arith, wide));
        values = λ z u k less.
            let short : k < c.inputs = omega (arith, less, length-table 0 c.inputs (λ i. 2 * (1 + i))) in
            let at : 2 * (1 + (0 + k)) ≡ 2 * (1 + k) = omega arith in
            ap (value_within h z u) (table-at 0 c.inputs (λ i. 2 * (1 + i)) k 0 short ∙ at) ∙ input-value h valid z u k (omega (arith, short, wide));
      });
      long = ap length latches ∙ length-table 0 (length c.latches) (λ j. 2 * (1 + c.inputs + j));
      latches = subst (λ (ls : List ℕ). HoldAs h ls (asked_state c)) (sym latches) (inputs-hold h valid c.inputs (length c.latches) (sym wide));
    }

-- the leaves' literals stay those of the inputs and of what the latches hold as the graph grows
pub leaves-grow : (g h c : Graph) (leaves : Leaves) → Extends g h → AreLeaves g c leaves → AreLeaves h c leaves
leaves-grow g h c leaves more p = record {
  wide = p.wide;
  inputs = holds-grow g h leaves.inputs.items asked_digits more p.inputs;
  long = p.long;
  latches = holds-grow g h leaves.latches.items (asked_state c) more p.latches;
}

names-below : AreNamesBelow 4 question_names
names-below = record {
  rising = λ k less. rise k less;
  below = λ k d less. low k d less;
}
  where
    positions : List ℕ
    positions = 0 ∷ 1 ∷ 2 ∷ 3 ∷ []

    rise : (k : ℕ) → k + 1 < 4 → get_or positions k 0 < get_or positions (k + 1) 0
    rise zero h = omega arith
    rise (suc zero) h = omega arith
    rise (suc (suc zero)) h = omega arith
    rise (suc (suc (suc k))) h = absurd (omega (arith, h))

    low : (k : ℕ) (d : Symbol) → k < 4 → (get_or question_names k d).position < 4
    low zero d h = omega arith
    low (suc zero) d h = omega arith
    low (suc (suc zero)) d h = omega arith
    low (suc (suc (suc zero))) d h = omega arith
    low (suc (suc (suc (suc k)))) d h = absurd (omega (arith, h))

module _ (g : Graph) (c d m : Netlist) (outputs : List ℕ) (asked : AsksIn g c d m outputs) where
  abbrev made : Netlist
  made = miter_with g outputs (record no_symbols { outputs = question_names })

  four : length outputs ≡ 4
  four = ap length asked.are

  within : AreLiteralsOf g outputs
  within =
      let P : ℕ → Type 0 = λ l. IsLiteralOf g l in
      subst (λ (ls : List ℕ). AreLiteralsOf g ls) (sym asked.are)
      (All-cons P asked.failures.reset (asked.failures.keep ∷ asked.failures.next ∷ asked.failures.read ∷ []) asked.fail.reset.within
      (All-cons P asked.failures.keep (asked.failures.next ∷ asked.failures.read ∷ []) asked.fail.keep.within
      (All-cons P asked.failures.next (asked.failures.read ∷ []) asked.fail.next.within (All-cons P asked.failures.read [] asked.fail.read.within (All-nil P)))))

  -- the graph of the questions, with their outputs and names, is a netlist
  pub miter-netlist : IsNetlist made
  miter-netlist = record {
    props = record {
      outputs = within;
      bad = λ k a less. absurd (omega (arith, less));
      constraints = λ k a less. absurd (omega (arith, less));
      justice = λ k a less. absurd (omega (arith, less));
      fairness = λ k a less. absurd (omega (arith, less));
    };
    symbols = record {
      inputs = no-names g.inputs;
      latches = no-names (length g.latches);
      outputs = subst (λ (n : ℕ). AreNamesBelow n question_names) (sym four) names-below;
      bad = no-names 0;
      constraints = no-names 0;
      justice = no-names 0;
      fairness = no-names 0;
    };
  }

  -- the output at a place
  output-is : (holds : Digits → State → Type 0) (k lit : ℕ) → get_or (failure_list asked.failures) k 0 ≡ lit → FailsBut g lit holds → (z : Digits)
      → (value_within g z (λ j. false) (get_or outputs k 0) ≡ false) ↔ holds z (λ j. false)
  output-is holds k lit at p z =
      let same : value_within g z (λ j. false) (get_or outputs k 0) ≡ value_within g z (λ j. false) lit =
      ap (λ (ls : List ℕ). value_within g z (λ j. false) (get_or ls k 0)) asked.are ∙ ap (value_within g z (λ j. false)) at in
      (λ e. (p.is z (λ j. false)).0 (sym same ∙ e), λ has. same ∙ (p.is z (λ j. false)).1 has)

  -- the graph of the questions, with their outputs and names, is a miter of the map
  pub is-miter : IsMiter c d m made
  is-miter = record {
    inputs = asked.inputs;
    latches = asked.latches;
    outputs = four;
    names = refl;
    reset = output-is _ 0 asked.failures.reset refl asked.fail.reset;
    keep = output-is _ 1 asked.failures.keep refl asked.fail.keep;
    next = output-is _ 2 asked.failures.next refl asked.fail.next;
    read = output-is _ 3 asked.failures.read refl asked.fail.read;
  }
