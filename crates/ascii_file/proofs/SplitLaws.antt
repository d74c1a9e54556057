-- Lists that are parted by their lengths.
use Rattle.std.proofs.Common.{ℕ, ◌+◌, ◌-◌, ◌<◌, ◌≤◌, ◌≡◌, List, [], ◌∷◌, ◌++◌, length, take, drop, get_or, refl, sym, ap, subst, ◌∙◌, append_assoc, arith}
use Rattle.std.specs.List.{sum}
use Rattle.std.proofs.lemmas.List.{length-drop, drop_more}
use Rattle.std.proofs.lemmas.List.Sums.{sum_by-drop_more}
use Rattle.ascii_file.specs.declared.header.Header.{Header}
use Rattle.ascii_file.specs.Meaning.{split_by, props_of}

-- one list more is split off
pub split_more : (sizes : List ℕ) (i : ℕ) (rest others lits : List ℕ) (before after whole : List (List ℕ)) → i < length sizes → before ++ split_by (drop i sizes) rest ≡ whole
    → lits ≡ take (get_or sizes i 0) rest → others ≡ drop (get_or sizes i 0) rest → after ≡ before ++ lits ∷ [] → after ++ split_by (drop (i + 1) sizes) others ≡ whole
split_more sizes i rest others lits before after whole less is first back more =
    rw (more, first, back) (append_assoc before (take (get_or sizes i 0) rest ∷ []) (split_by (drop (i + 1) sizes) (drop (get_or sizes i 0) rest))
    ∙ ap (λ (ns : List ℕ). before ++ split_by ns rest) (sym (drop_more sizes i 0 less)) ∙ is)

-- if a list is long enough for the sizes left, it is so, without the next part, for the sizes after
-- it
pub sum_more : (sizes : List ℕ) (i : ℕ) (rest others : List ℕ) → i < length sizes → sum (drop i sizes) ≤ length rest → others ≡ drop (get_or sizes i 0) rest → sum (drop (i + 1) sizes) ≤ length others
sum_more sizes i rest others less fits back =
    let split = sum_by-drop_more (λ (n : ℕ). n) sizes i 0 less in
    subst (λ (ns : List ℕ). sum (drop (i + 1) sizes) ≤ length ns) (sym back) (omega (arith, split, fits, length-drop (get_or sizes i 0) rest))

-- lists that are parted by the header's numbers and the sizes are the circuit's properties
pub props_are : (h : Header) (safety sizes liveness outputs bad constraints : List ℕ) (justice : List (List ℕ)) (fairness : List ℕ) → length liveness ≡ sum sizes + h.fairness
    → outputs ≡ take h.outputs safety → bad ≡ take h.bad (drop h.outputs safety) → constraints ≡ drop (h.outputs + h.bad) safety → justice ≡ split_by sizes liveness
    → fairness ≡ drop (length liveness - h.fairness) liveness → record { outputs = outputs; bad = bad; constraints = constraints; justice = justice; fairness = fairness } ≡ props_of h safety sizes liveness
unfolding props_of
props_are h safety sizes liveness outputs bad constraints justice fairness counted o b d j f =
    let at : length liveness - h.fairness ≡ sum sizes = omega (arith, counted) in
    rw (o, b, d, j, f, at) refl
