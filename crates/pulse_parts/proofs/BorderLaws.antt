-- The borders of equal parts, and parts that are appended one by one.
use Rattle.std.proofs.Common.{◌≡◌, ℕ, ◌+◌, ◌<◌, List, [], ◌∷◌, ◌++◌, length, arith, refl, sym, ◌∙◌, subst}
use Rattle.std.proofs.Math.Nat.{mul-div_cancel_left}
use Rattle.pulse_parts.specs.Parts.{IsParted}
use Rattle.pulse_parts.specs.Start.{border_of, AreShares, IsShare}

-- the last worker's share ends with the last node
pub border_last : (n w : ℕ) → 0 < w → border_of n w w ≡ n
border_last n w some = mul-div_cancel_left n {n = w} some

-- one more part at the end of a cut
pub cut_append : {P : Type 0} (fits : P → Type 0) (first end : P → ℕ) (m u : ℕ) (ps : List P) (p : P) → IsParted fits first end m u ps → first p ≡ m → fits p → IsParted fits first end (end p) u (ps ++ p ∷ [])
cut_append {P} fits first end m u [] p cut e fit = (e ∙ sym cut, (fit, refl))
cut_append {P} fits first end m u (q ∷ ps) p cut e fit = (cut.0, (cut.1.0, cut_append fits first end m (end q) ps p cut.1.1 e fit))

-- parts that fit end to end, and so fit in another way too, are end to end in that way
pub cut_weaker : {P : Type 0} (fits also : P → Type 0) (first end : P → ℕ) (n u : ℕ) (ps : List P) → ((p : P) → fits p → also p) → IsParted fits first end n u ps → IsParted also first end n u ps
cut_weaker {P} fits also first end n u [] to cut = cut
cut_weaker {P} fits also first end n u (p ∷ ps) to cut = (cut.0, (to p cut.1.0, cut_weaker fits also first end n (end p) ps to cut.1.1))

-- parts end to end, with one more that begins where they end, are end to end up to that one's end
pub cut_pushed : {P : Type 0} (fits : P → Type 0) (first end : P → ℕ) (m n : ℕ) (ps qs : List P) (p : P) → qs ≡ ps ++ p ∷ [] → IsParted fits first end m 0 ps → first p ≡ m → end p ≡ n → fits p → IsParted fits first end n 0 qs
cut_pushed {P} fits first end m n ps qs p e cut ef ee fit =
    subst (λ (x : List P). IsParted fits first end n 0 x) (sym e) (subst (λ (k : ℕ). IsParted fits first end k 0 (ps ++ p ∷ [])) ee (cut_append fits first end m 0 ps p cut ef fit))

-- one more share at the end of the first ones
pub shares_append : {P : Type 0} (worker first end : P → ℕ) (n w k m : ℕ) (ps : List P) (p : P) → AreShares worker first end n w k ps → m ≡ k + length ps → IsShare worker first end n w m p → AreShares worker first end n w k (ps ++ p ∷ [])
shares_append {P} worker first end n w k m [] p shares e share = (subst (λ (x : ℕ). IsShare worker first end n w x p) (omega (arith, e)) share, shares)
shares_append {P} worker first end n w k m (q ∷ ps) p shares e share = (shares.0, shares_append worker first end n w (k + 1) m ps p shares.1 (omega (arith, e)) share)

-- the shares of the first workers, with the next worker's at their end, are the shares of one
-- worker more
pub shares_pushed : {P : Type 0} (worker first end : P → ℕ) (n w m : ℕ) (ps qs : List P) (p : P) → qs ≡ ps ++ p ∷ [] → AreShares worker first end n w 0 ps → length ps ≡ m → IsShare worker first end n w m p → AreShares worker first end n w 0 qs
shares_pushed {P} worker first end n w m ps qs p e shares len share =
    subst (λ (x : List P). AreShares worker first end n w 0 x) (sym e) (shares_append worker first end n w 0 m ps p shares (omega (arith, len)) share)
