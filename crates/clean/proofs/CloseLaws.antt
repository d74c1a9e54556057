-- Gates that close up at the front of their table, each by the literals that replace its own.
use Rattle.std.proofs.Common.{ℕ, ◌+◌, ◌<◌, ◌≤◌, ◌≡◌, suc, Bool, true, false, cond, List, [], ◌∷◌, length, map, take, get_or, slice_set, refl, arith, ap, sym, ◌∙◌}
use Rattle.std.specs.List.{All}
use Rattle.std.proofs.lemmas.List.{get_or_default, get_or-set_other, length-set, take_more_set}
use Rattle.std.proofs.lemmas.List.Elements.{All-cons, All-head, All-tail}
use Rattle.aig_graph.specs.declared.graph.Gate.{Gate}
use Rattle.aig_graph.specs.Graph.{Graph, IsGraph, variable, variables_end, first_gate}
use Rattle.aig_graph.proofs.ListLaws.{map-same}
use Rattle.cleaned_circuits.specs.Merged.{replaced_gate}
use Rattle.cleaned_circuits.specs.Reached.{stays}
use Rattle.cleaned_circuits.specs.Trimmed.{picked, renumbered_gate}
use Rattle.cleaned_circuits.proofs.TrimmedLaws.{stays-past}
use Rattle.clean.specs.Kept.{no_gate}
use Rattle.clean.specs.Substitutions.{new_literals}
use Rattle.clean.proofs.MappingLaws.{gate-within}
use Rattle.clean.proofs.TrimLaws.{gate-new, picked-more, picked-nil, picked-skip}

-- two tests that agree from n on pick the same
pub picked-same : {A : Type 0} (p q : ℕ → Bool) (n : ℕ) (xs : List A) → ((v : ℕ) → n ≤ v → p v ≡ q v) → picked p n xs ≡ picked q n xs
unfolding picked
picked-same p q n [] same = refl
picked-same {A} p q n (x ∷ xs) same =
    let rest : picked p (suc n) xs ≡ picked q (suc n) xs = picked-same p q (suc n) xs (λ v from. same v (omega (arith, from))) in
    ap (λ (ys : List A). cond (p n) (x ∷ ys) ys) rest ∙ ap (λ (b : Bool). cond b (x ∷ picked q (suc n) xs) (picked q (suc n) xs)) (same n (omega arith))

-- what holds of an element and of others holds of the others with it or without it
with_or_without : {A : Type 0} (P : A → Type 0) (b : Bool) (x : A) (xs : List A) → P x → All P xs → All P (cond b (x ∷ xs) xs)
with_or_without P true x xs here rest = All-cons P x xs here rest
with_or_without P false x xs here rest = rest

-- what holds of all holds of those that are picked
pub picked-All : {A : Type 0} (P : A → Type 0) (p : ℕ → Bool) (n : ℕ) (xs : List A) → All P xs → All P (picked p n xs)
unfolding picked
picked-All P p n [] all = all
picked-All P p n (x ∷ xs) all = with_or_without P (p n) x (picked p (suc n) xs) (All-head P x xs all) (picked-All P p (suc n) xs (All-tail P x xs all))

-- Of the gates that were read the first n were looked at. Those that pass stand in front, by other
-- literals, and those from n on are as they were.
pub record IsClosing (literals : List ℕ) (p : ℕ → Bool) (first : ℕ) (read now : List Gate) (kept n : ℕ) : Type 0 where
  -- no more stand in front than were looked at
  pub few : kept ≤ n
  -- the table keeps its length
  pub long : length now ≡ length read
  -- those in front are the ones that pass, over their new literals
  pub front : take kept now ≡ map (replaced_gate literals) (picked p first (take n read))
  -- those from n on are as they were
  pub left : (i : ℕ) → n ≤ i → get_or now i no_gate ≡ get_or read i no_gate

module _ (literals : List ℕ) (p : ℕ → Bool) (first : ℕ) (read : List Gate) where
  -- before the first gate
  pub closing-none : IsClosing literals p first read read 0 0
  closing-none = record {
    few = omega arith;
    long = refl;
    front = picked-nil p (replaced_gate literals) first (take 0 read) refl;
    left = λ i from. refl;
  }

  module _ (now : List Gate) (kept n : ℕ) (closing : IsClosing literals p first read now kept n) (within : n < length read) (gate : Gate) (is : gate ≡ get_or now n gate) where
    -- the gate at n is still the one that was read
    pub read-at : gate ≡ get_or read n gate
    read-at =
        let inside : n < length now = omega (arith, closing.long, within) in
        is ∙ sym (get_or_default now n no_gate gate inside) ∙ closing.left n (omega arith) ∙ get_or_default read n no_gate gate within

    -- a gate that passes goes to the front
    pub closing-kept : (after : List Gate) (pair : Gate) → p (first + n) ≡ true → pair ≡ replaced_gate literals gate → after ≡ slice_set now kept pair → IsClosing literals p first read after (kept + 1) (n + 1)
    closing-kept after pair passes same put =
        let inside : kept < length now = omega (arith, closing.few, closing.long, within) in
        record {
          few = omega (arith, closing.few);
          long = ap (λ (xs : List Gate). length xs) put ∙ length-set now kept pair ∙ closing.long;
          front = picked-more p (replaced_gate literals) first n read gate within read-at (take kept now) (take (kept + 1) after) pair passes closing.front
              (ap (λ (xs : List Gate). take (kept + 1) xs) put ∙ take_more_set now kept pair inside) same;
          left = λ i from.
              ap (λ (xs : List Gate). get_or xs i no_gate) put ∙ get_or-set_other now kept i pair no_gate (λ at. omega (arith, at, from, closing.few)) ∙ closing.left i (omega (arith, from));
        }

    -- a gate that doesn't pass is left
    pub closing-left : p (first + n) ≡ false → IsClosing literals p first read now kept (n + 1)
    closing-left fails = record {
      few = omega (arith, closing.few);
      long = closing.long;
      front = picked-skip p (replaced_gate literals) first n read gate within read-at (take kept now) fails closing.front;
      left = λ i from. closing.left i (omega (arith, from));
    }

-- the gates that are picked by marks, by the new literals, are those that stay, renumbered
pub closed-is : (g : Graph) (s : ℕ → Bool) (literals : List ℕ) (first : ℕ) (gates : List Gate) → literals ≡ new_literals g s → first ≡ first_gate g → gates ≡ g.gates
    → All (λ gate. (variable gate.rhs0 < variables_end g) × (variable gate.rhs1 < variables_end g)) gates
    → map (replaced_gate literals) (picked s first gates) ≡ map (renumbered_gate g s) (picked (stays g s) (first_gate g) g.gates)
closed-is g s literals first gates new starts same all =
    let P : Gate → Type 0 = λ gate. (variable gate.rhs0 < variables_end g) × (variable gate.rhs1 < variables_end g) in
    let Q : List Gate → Type 0 = λ xs. All P xs in
    map-same P (replaced_gate literals) (renumbered_gate g s) (λ gate inside. gate-new g s literals 0 gate new inside) (picked s first gates) (picked-All P s first gates all)
    ∙ ap (λ (n : ℕ). map (renumbered_gate g s) (picked s n gates)) starts
    ∙ ap (λ (xs : List Gate). map (renumbered_gate g s) (picked s (first_gate g) xs)) same
    ∙ ap (λ (xs : List Gate). map (renumbered_gate g s) xs) (picked-same s (stays g s) (first_gate g) g.gates (λ v from. sym (stays-past g s v (omega (arith, from)))))

-- the fan-ins of a graph's gates are within a table by variable
pub gates-within : (g : Graph) (gates : List Gate) → IsGraph g → gates ≡ g.gates → All (λ gate. (variable gate.rhs0 < variables_end g) × (variable gate.rhs1 < variables_end g)) gates
gates-within g gates valid same = λ k d h. gate-within g gates k (variables_end g) (get_or gates k d) valid same h (get_or-again gates k d h) refl
  where
    get_or-again : (xs : List Gate) (k : ℕ) (d : Gate) → k < length xs → get_or xs k d ≡ get_or xs k (get_or xs k d)
    get_or-again xs k d h = get_or_default xs k d (get_or xs k d) h
