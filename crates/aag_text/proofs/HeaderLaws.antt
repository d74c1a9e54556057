-- Counts without their last zeros.
use Rattle.std.proofs.Common.{ℕ, ◌+◌, ◌<◌, ◌≡◌, ◌≢◌, false, ◌==◌, ◌&&◌, List, [], ◌∷◌, ◌++◌, length, take, get_or, refl, arith, ap, sym, ◌∙◌, suc, rules}
use Rattle.std.proofs.Math.Bool.{and-false}
use Rattle.std.proofs.lemmas.List.{take_more}
use Rattle.std.specs.List.{list_all}
use Rattle.aig_graph.specs.Circuits.{Netlist}
use Rattle.file_words.specs.Text.{header_row, without_last_zeros}
use Rattle.aag_text.specs.Header.{header_counts}

list_all-zero : (ns : List ℕ) → list_all (λ m. m == 0) (ns ++ 0 ∷ []) ≡ list_all (λ m. m == 0) ns
list_all-zero [] = refl
list_all-zero (n ∷ ns) = ap (λ b. (n == 0) && b) (list_all-zero ns)

-- the test for zero fails on any other number
pub not_zero : (n : ℕ) → n ≢ 0 → (n == 0) ≡ false
not_zero n h = search rules

list_all-other : (ns : List ℕ) (n : ℕ) → n ≢ 0 → list_all (λ m. m == 0) (ns ++ n ∷ []) ≡ false
list_all-other [] n h = rw (not_zero n h) refl
list_all-other (m ∷ ns) n h = ap (λ b. (m == 0) && b) (list_all-other ns n h) ∙ and-false (m == 0)

without-zero : (ns : List ℕ) → without_last_zeros (ns ++ 0 ∷ []) ≡ without_last_zeros ns
without-zero [] = refl
without-zero (n ∷ ns) = rw (list_all-zero ns, without-zero ns) refl

without-other : (ns : List ℕ) (n : ℕ) → n ≢ 0 → without_last_zeros (ns ++ n ∷ []) ≡ ns ++ n ∷ []
without-other [] n h = rw (list_all-other [] n h) refl
without-other (m ∷ ns) n h = rw (list_all-other (m ∷ ns) n h) (ap (λ xs. m ∷ xs) (without-other ns n h))

-- a count that is 0 is not used
pub used-zero : (ns : List ℕ) (used k : ℕ) → k < length ns → take used ns ≡ without_last_zeros (take k ns) → get_or ns k 0 ≡ 0
    → take used ns ≡ without_last_zeros (take (k + 1) ns)
used-zero ns used k h before zero_here =
    before ∙ sym (ap without_last_zeros (take_more ns k 0 h ∙ ap (λ n. take k ns ++ n ∷ []) zero_here) ∙ without-zero (take k ns))

-- a count that isn't 0 is used, with those before it
pub used-other : (ns : List ℕ) (k : ℕ) → k < length ns → get_or ns k 0 ≢ 0 → take (k + 1) ns ≡ without_last_zeros (take (k + 1) ns)
used-other ns k h other =
    take_more ns k 0 h ∙ sym (ap without_last_zeros (take_more ns k 0 h) ∙ without-other (take k ns) (get_or ns k 0) other)

take-five : (a b c d e : ℕ) (ns : List ℕ) (k : ℕ) → take (5 + k) (a ∷ b ∷ c ∷ d ∷ e ∷ ns) ≡ a ∷ b ∷ c ∷ d ∷ e ∷ take k ns
take-five a b c d e ns k = let five : 5 + k ≡ suc (suc (suc (suc (suc k)))) = omega arith in rw five refl

-- the used counts of a circuit are its header
pub header_row-used : (c : Netlist) (k : ℕ)
    → take k (length c.props.bad ∷ length c.props.constraints ∷ length c.props.justice ∷ length c.props.fairness ∷ [])
    ≡ without_last_zeros (length c.props.bad ∷ length c.props.constraints ∷ length c.props.justice ∷ length c.props.fairness ∷ [])
    → take (5 + k) (header_counts c) ≡ header_row c
header_row-used c k used =
    take-five _ _ _ _ _ _ k ∙ ap (λ ns. get_or (header_counts c) 0 0 ∷ c.aig.inputs ∷ length c.aig.latches ∷ length c.props.outputs ∷ length c.aig.gates ∷ ns) used
