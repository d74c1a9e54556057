-- The gates are merged one after another.
use Rattle.std.proofs.Common.{ℕ, ◌+◌, ◌<◌, ◌≤◌, ◌≡◌, List, [], ◌∷◌, drop, length, get_or, refl, ap, sym, ◌∙◌}
use Rattle.std.proofs.lemmas.List.{at_drop_more, at_drop_all}
use Rattle.aig_graph.specs.declared.graph.Gate.{Gate}
use Rattle.cleaned_circuits.specs.Merged.{Merging, merge_gate, merge_gates}

merge-none : (m : Merging) → merge_gates [] m ≡ m
unfolding merge_gates
merge-none m = refl

merge-one : (gate : Gate) (gates : List Gate) (m : Merging) → merge_gates (gate ∷ gates) m ≡ merge_gates gates (merge_gate m gate)
unfolding merge_gates
merge-one gate gates m = refl

-- with one more gate merged, merging the others gives what it gave before
pub merge-more : (gates : List Gate) (i : ℕ) (gate : Gate) (m n whole : Merging) → i < length gates → gate ≡ get_or gates i gate
    → merge_gates (drop i gates) m ≡ whole → n ≡ merge_gate m gate → merge_gates (drop (i + 1) gates) n ≡ whole
merge-more gates i gate m n whole h read told step =
    let here : merge_gates (drop i gates) m ≡ merge_gates (get_or gates i gate ∷ drop (i + 1) gates) m = at_drop_more (λ (rest : List Gate). merge_gates rest m) gates i gate h in
    let next : merge_gates (get_or gates i gate ∷ drop (i + 1) gates) m ≡ merge_gates (drop (i + 1) gates) (merge_gate m (get_or gates i gate)) = merge-one (get_or gates i gate) (drop (i + 1) gates) m in
    ap (merge_gates (drop (i + 1) gates)) (step ∙ ap (merge_gate m) read) ∙ sym next ∙ sym here ∙ told

-- past the last gate all are merged
pub merge-end : (gates : List Gate) (i : ℕ) (m whole : Merging) → length gates ≤ i → merge_gates (drop i gates) m ≡ whole → m ≡ whole
merge-end gates i m whole h told =
    sym (at_drop_all (λ (rest : List Gate). merge_gates rest m) gates i h ∙ merge-none m) ∙ told
