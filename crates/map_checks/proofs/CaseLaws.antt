-- Cases: what both values of a literal show is shown, and what all cases show that are left.
use Rattle.std.proofs.Common.{◌⊎◌, inl, inr, ℕ, ◌/◌, ◌%◌, ◌≡◌, ◌≢◌, Bool, true, false, not, List, [], ◌∷◌, ◌++◌, length, replicate, Some, refl, ap, ◌∙◌, subst}
use Rattle.std.specs.List.{All}
use Rattle.std.proofs.lemmas.List.{length-replicate}
use Rattle.std.proofs.lemmas.List.Elements.{All-cons, All-head, All-nil, All-pop, All-push}
use Rattle.aig_graph.specs.Circuits.{Netlist}
use Rattle.aig_graph.specs.Graph.{IsGraph}
use Rattle.state_maps.proofs.WithinLaws.{within_laws}
use Rattle.map_checks.specs.Images.{in_first}
use Rattle.map_checks.specs.Parts.{AreShownWhere, IsMarked, IsShownWhere, IsTree, parts}
use Rattle.map_checks.proofs.FactLaws.{negated-literal}

true-or-false : (b : Bool) → (b ≡ true) ⊎ (b ≡ false)
true-or-false true = inl refl
true-or-false false = inr refl

module _ (c d m : Netlist) where
  -- what is shown where a literal is 1, and where its negation is, is shown
  both-shown : IsGraph c.aig → (lit other : ℕ) → other / 2 ≡ lit / 2 → other % 2 ≢ lit % 2 → (lits : List ℕ) (part : ℕ) → IsShownWhere c d m (other ∷ lits) part → IsShownWhere c d m (lit ∷ lits) part
      → IsShownWhere c d m lits part
  both-shown valid lit other same sign lits part first second x s kept ones =
      let P : ℕ → Type 0 = λ l. in_first c x s l ≡ true in
      elim (true-or-false (in_first c x s lit)) [
        | inl is ↦ second x s kept (All-cons P lit lits is ones)
        | inr is ↦ first x s kept (All-cons P other lits (negated-literal (in_first c x s) (within_laws c.aig valid x s).negation lit other same sign ∙ ap not is) ones)
      ]

  -- one case of no variable
  pub tree-begun : (pending : List (List ℕ)) (marks : List Bool) (count : ℕ) → count ≡ parts d m → pending ≡ [] ∷ [] → marks ≡ replicate count true → IsTree c d m pending marks
  tree-begun pending marks count many begun all = record {
    long = ap length all ∙ length-replicate count true ∙ many;
    covers = λ part marked shown. All-head (λ lits. IsShownWhere c d m lits part) [] [] (subst (λ (cases : List (List ℕ)). All (λ lits. IsShownWhere c d m lits part) cases) begun shown);
  }

  -- a case split by a literal
  pub tree-split : IsGraph c.aig → (rest pending : List (List ℕ)) (case : List ℕ) (marks : List Bool) (lit other : ℕ) → other / 2 ≡ lit / 2 → other % 2 ≢ lit % 2
      → pending ≡ rest ++ (other ∷ case) ∷ [] ++ (lit ∷ case) ∷ [] → IsTree c d m (rest ++ case ∷ []) marks → IsTree c d m pending marks
  tree-split valid rest pending case marks lit other same sign split tree = record {
    long = tree.long;
    covers = λ part marked shown.
        let P : List ℕ → Type 0 = λ lits. IsShownWhere c d m lits part in
        let all : All P (rest ++ (other ∷ case) ∷ [] ++ (lit ∷ case) ∷ []) = subst (λ (cases : List (List ℕ)). All P cases) split shown in
        let last = All-pop P (rest ++ (other ∷ case) ∷ [] ++ (lit ∷ case) ∷ []) (rest ++ (other ∷ case) ∷ []) (Some (lit ∷ case)) refl all in
        let before = All-pop P (rest ++ (other ∷ case) ∷ []) rest (Some (other ∷ case)) refl last.0 in
        tree.covers part marked (All-push P rest case before.0 (both-shown valid lit other same sign case part before.1 last.1));
  }

  -- a case that was answered
  pub tree-narrow : (rest : List (List ℕ)) (case : List ℕ) (old new marks : List Bool) → length new ≡ length old
      → ((part : ℕ) → IsMarked new part → (IsMarked old part) × (IsMarked marks part)) → AreShownWhere c d m case marks → IsTree c d m (rest ++ case ∷ []) old → IsTree c d m rest new
  tree-narrow rest case old new marks long both are tree = record {
    long = long ∙ tree.long;
    covers = λ part marked shown.
        let P : List ℕ → Type 0 = λ lits. IsShownWhere c d m lits part in
        let here = both part marked in
        tree.covers part here.0 (All-push P rest case shown (are.shown part here.1));
  }

  -- no case that is left
  pub tree-ended : (old new marks : List Bool) → length new ≡ length old → ((part : ℕ) → IsMarked new part → (IsMarked old part) ⊎ (IsMarked marks part))
      → IsTree c d m [] marks → AreShownWhere c d m [] old → AreShownWhere c d m [] new
  tree-ended old new marks long either tree are = record {
    long = long ∙ are.long;
    shown = λ part marked. elim (either part marked) [
      | inl before ↦ are.shown part before
      | inr now ↦ tree.covers part now (All-nil (λ lits. IsShownWhere c d m lits part))
    ];
  }
