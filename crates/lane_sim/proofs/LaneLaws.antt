-- Laws of lanes, from those of the bits of words.
use Rattle.std.proofs.Common.{ℕ, ◌-◌, ◌*◌, ◌/◌, ◌%◌, ◌<◌, ◌≡◌, ◌≢◌, ◌^◌, ◌==◌, ◌&&◌, ◌||◌, Bool, true, false, not, min, suc, zero, w64, bit_and, bit_or, arith, refl, sym, ap, ap₂, ◌∙◌, get_or, set, List, length, replicate, get_or-set_same, get_or-set_other, ne_eqb, nat_eq, nat_lt, length-set, subst}
use Rattle.std.proofs.Math.Bool.{and-false, and-true}
use Rattle.std.specs.Int.{bit_at, bit_not}
use Rattle.std.proofs.lemmas.Nat.{and_le_l, or_lt}
use Rattle.std.proofs.lemmas.Nat.Bits.{bit_at_and, bit_at_ones, bit_at_not, bit_at-lt, bit_at-zero, shr_and_one, bit_at_set_same, bit_at_set_other}
use Rattle.std.proofs.lemmas.Simd.{get_or-replicate, length-replicate}
use Rattle.std.proofs.lemmas.List.{get_or_past}
use Rattle.std.specs.Int.Bits.{or_zero_r}
use mir.Val.{bool_byte}
use Rattle.std.proofs.lemmas.List.{set-get_or}
use Rattle.std.proofs.lemmas.Bool.{eqb-true, eqb-false, eq-eqb, ltb-true, ltb-false}
use Rattle.lane_sim.specs.Words.{negated_if, and_words, signed_if}
use Rattle.lane_sim.specs.Lanes.{AreLanes, lane}

one_of_not : (x : ℕ) → x < 2 → (1 - x == 1) ≡ not (x == 1)
one_of_not zero h = refl
one_of_not (suc zero) h = refl
one_of_not (suc (suc x)) h = absurd (omega arith)

one_of_min : (x y : ℕ) → x < 2 → y < 2 → (min x y == 1) ≡ ((x == 1) && (y == 1))
one_of_min zero zero h l = refl
one_of_min zero (suc zero) h l = refl
one_of_min zero (suc (suc y)) h l = absurd (omega arith)
one_of_min (suc zero) zero h l = refl
one_of_min (suc zero) (suc zero) h l = refl
one_of_min (suc zero) (suc (suc y)) h l = absurd (omega arith)
one_of_min (suc (suc x)) y h l = absurd (omega arith)

negated_bit : (negated : Bool) (word i : ℕ) → word < 2 ^ 64 → i < 64 → (bit_at (negated_if negated word) i == 1) ≡ signed_if negated (bit_at word i == 1)
negated_bit true word i small within = ap (λ x. x == 1) (bit_at_not w64 word i small within) ∙ one_of_not (bit_at word i) (bit_at-lt word i)
negated_bit false word i small within = refl

and_bit : (neg_a neg_b : Bool) (a b i : ℕ) → a < 2 ^ 64 → b < 2 ^ 64 → i < 64
    → (bit_at (and_words neg_a neg_b a b) i == 1) ≡ (signed_if neg_a (bit_at a i == 1) && signed_if neg_b (bit_at b i == 1))
and_bit neg_a neg_b a b i small_a small_b within =
    ap (λ x. x == 1) (bit_at_and (negated_if neg_a a) (negated_if neg_b b) i)
    ∙ one_of_min (bit_at (negated_if neg_a a) i) (bit_at (negated_if neg_b b) i) (bit_at-lt (negated_if neg_a a) i) (bit_at-lt (negated_if neg_b b) i)
    ∙ ap₂ (λ p q. p && q) (negated_bit neg_a a i small_a within) (negated_bit neg_b b i small_b within)

-- in words of zeros each lane is 0
pub lane-none : (k : ℕ) → k < 256 → lane (replicate 4 0) k ≡ false
unfolding lane
lane-none k h =
    let word : get_or (replicate 4 0) (k / 64) 0 ≡ 0 = get_or-replicate 4 (k / 64) 0 0 (omega arith) in
    ap (λ w. bit_at w (k % 64) == 1) word ∙ ap (λ x. x == 1) (bit_at-zero (k % 64))

-- in words of ones each lane is 1
pub lane-all : (k : ℕ) → k < 256 → lane (replicate 4 18446744073709551615) k ≡ true
unfolding lane
lane-all k h =
    let word : get_or (replicate 4 18446744073709551615) (k / 64) 0 ≡ 18446744073709551615 = get_or-replicate 4 (k / 64) 18446744073709551615 0 (omega arith) in
    ap (λ w. bit_at w (k % 64) == 1) word ∙ ap (λ x. x == 1) (bit_at_ones 64 (k % 64) (omega arith))

-- the bit that is read from a word by shifting is the lane's
pub lane-get : (words : List ℕ) (k : ℕ) → nat_eq (bit_and (get_or words (k / 64) 0 / 2 ^ (k % 64)) 1) 1 ≡ lane words k
unfolding lane
lane-get words k = ap (λ x. nat_eq x 1) (shr_and_one (get_or words (k / 64) 0) (k % 64))

-- a lane of the AND of words, each perhaps negated, is the AND of their lanes
pub lane-and : (neg_a neg_b : Bool) (out a b : List ℕ) (k : ℕ) → k < 256
    → get_or out (k / 64) 0 ≡ and_words neg_a neg_b (get_or a (k / 64) 0) (get_or b (k / 64) 0)
    → get_or a (k / 64) 0 < 2 ^ 64 → get_or b (k / 64) 0 < 2 ^ 64
    → lane out k ≡ (signed_if neg_a (lane a k) && signed_if neg_b (lane b k))
unfolding lane
lane-and neg_a neg_b out a b k h word small_a small_b =
    ap (λ w. bit_at w (k % 64) == 1) word ∙ and_bit neg_a neg_b (get_or a (k / 64) 0) (get_or b (k / 64) 0) (k % 64) small_a small_b (omega arith)

-- a word with one bit set
abbrev pub with_bit : ℕ → ℕ → ℕ
with_bit word i = bit_or word (1 * 2 ^ i % 18446744073709551616)

with-same_word : (word i j : ℕ) → i < 64 → j < 64 → (bit_at (with_bit word i) j == 1) ≡ ((j == i) || (bit_at word j == 1))
with-same_word word i j low within =
    elim (j == i) as (λ b. (j == i) ≡ b → (bit_at (with_bit word i) j == 1) ≡ (b || (bit_at word j == 1))) [
      | true ↦ λ e. let same : j ≡ i = eqb-true j i e in
          ap (λ x. bit_at (with_bit word i) x == 1) same ∙ ap (λ x. x == 1) (bit_at_set_same w64 word i low)
      | false ↦ λ e. let other : j ≢ i = eqb-false j i e in ap (λ x. x == 1) (bit_at_set_other w64 word i low j other)
    ] refl

-- within a word, lanes are apart by their bits
places : (k p : ℕ) → k / 64 ≡ p / 64 → (k % 64 == p % 64) ≡ (k == p)
places k p same =
    elim (k == p) as (λ b. (k == p) ≡ b → (k % 64 == p % 64) ≡ b) [
      | true ↦ λ e. let h : k ≡ p = eqb-true k p e in eq-eqb (k % 64) (p % 64) (ap (λ q. q % 64) h)
      | false ↦ λ e. let h : k ≢ p = eqb-false k p e in ne_eqb (k % 64) (p % 64) (omega arith)
    ] refl

lane-with_one : (words : List ℕ) (p k : ℕ) → length words ≡ 4 → p < 256 → k < 256
    → lane (set words (p / 64) (with_bit (get_or words (p / 64) 0) (p % 64))) k ≡ ((k == p) || lane words k)
unfolding lane
lane-with_one words p k four inside within =
    elim (k / 64 == p / 64) as (λ b. (k / 64 == p / 64) ≡ b → lane (set words (p / 64) (with_bit (get_or words (p / 64) 0) (p % 64))) k ≡ ((k == p) || lane words k)) [
      | true ↦ λ e. let same : k / 64 ≡ p / 64 = eqb-true (k / 64) (p / 64) e in
          ap (λ w. bit_at w (k % 64) == 1) (ap (λ q. get_or (set words (p / 64) (with_bit (get_or words (p / 64) 0) (p % 64))) q 0) same ∙ get_or-set_same words (p / 64) (with_bit (get_or words (p / 64) 0) (p % 64)) 0 (omega arith))
          ∙ with-same_word (get_or words (p / 64) 0) (p % 64) (k % 64) (omega arith) (omega arith)
          ∙ ap₂ (λ a q. a || (bit_at (get_or words q 0) (k % 64) == 1)) (places k p same) (sym same)
      | false ↦ λ e. let other : k / 64 ≢ p / 64 = eqb-false (k / 64) (p / 64) e in
          ap (λ w. bit_at w (k % 64) == 1) (get_or-set_other words (p / 64) (k / 64) (with_bit (get_or words (p / 64) 0) (p % 64)) 0 other)
          ∙ ap (λ a. a || lane words k) (sym (ne_eqb k p (λ h. other (ap (λ q. q / 64) h))))
    ] refl

-- a word with one bit set, if the value is true
abbrev pub with_value : ℕ → Bool → ℕ → ℕ
with_value word value i = bit_or word (bool_byte value * 2 ^ i % 18446744073709551616)

with-false : (word i : ℕ) → with_value word false i ≡ word
with-false word i = let none : 0 * 2 ^ i % 18446744073709551616 ≡ 0 = omega arith in ap (bit_or word) none ∙ or_zero_r word

-- words with one lane's bit set to a value that is 1 have it in that lane alone, beside what they
-- had
pub lane-with : (words : List ℕ) (p k : ℕ) (value : Bool) → length words ≡ 4 → p < 256 → k < 256
    → lane (set words (p / 64) (with_value (get_or words (p / 64) 0) value (p % 64))) k ≡ (((k == p) && value) || lane words k)
lane-with words p k true four inside within =
    lane-with_one words p k four inside within ∙ ap (λ b. b || lane words k) (sym (and-true (k == p)))
lane-with words p k false four inside within =
    ap (λ w. lane (set words (p / 64) w) k) (with-false (get_or words (p / 64) 0) (p % 64))
    ∙ ap (λ ws. lane ws k) (set-get_or words (p / 64) 0)
    ∙ ap (λ b. b || lane words k) (sym (and-false (k == p)))

-- ---- the words of lanes stay words of lanes

and_words-lt : (neg_a neg_b : Bool) (a b : ℕ) → a < 2 ^ 64 → and_words neg_a neg_b a b < 2 ^ 64
and_words-lt true neg_b a b small = let h = and_le_l (bit_not w64 a) (negated_if neg_b b) in omega (arith, h)
and_words-lt false neg_b a b small = let h = and_le_l a (negated_if neg_b b) in omega (arith, h)

-- words are small if those in range are
small_everywhere : (words : List ℕ) → ((i : ℕ) → i < length words → get_or words i 0 < 2 ^ 64) → (i : ℕ) → get_or words i 0 < 2 ^ 64
small_everywhere words small i =
    elim (nat_lt i (length words)) as (λ b. nat_lt i (length words) ≡ b → get_or words i 0 < 2 ^ 64) [
      | true ↦ λ e. small i (ltb-true i (length words) e)
      | false ↦ λ e. let past : get_or words i 0 ≡ 0 = get_or_past words i 0 (ltb-false i (length words) e) in omega (arith, past)
    ] refl

-- four words of 64 bits that are equal are words of lanes
pub AreLanes-replicate : (word : ℕ) → word < 2 ^ 64 → AreLanes (replicate 4 word)
AreLanes-replicate word small = record {
  four = length-replicate 4 word;
  fit = small_everywhere (replicate 4 word) (λ i h.
      let in_four : length (replicate 4 word) ≡ 4 = length-replicate 4 word in
      let same : get_or (replicate 4 word) i 0 ≡ word = get_or-replicate 4 i word 0 (omega arith) in omega arith);
}

-- the AND of words of lanes, each perhaps negated, are words of lanes
pub AreLanes-and : (neg_a neg_b : Bool) (out a b : List ℕ) → length out ≡ 4 → AreLanes a
    → ((i : ℕ) → i < length out → get_or out i 0 ≡ and_words neg_a neg_b (get_or a i 0) (get_or b i 0)) → AreLanes out
AreLanes-and neg_a neg_b out a b four lanes each = record {
  four = four;
  fit = small_everywhere out (λ i h. let e = each i h in let l = and_words-lt neg_a neg_b (get_or a i 0) (get_or b i 0) (lanes.fit i) in omega arith);
}

AreLanes-with_one : (words : List ℕ) (q i : ℕ) → q < 4 → AreLanes words → AreLanes (set words q (with_bit (get_or words q 0) i))
AreLanes-with_one words q i within lanes = record {
  four = length-set words q (with_bit (get_or words q 0) i) ∙ lanes.four;
  fit = λ k. elim (k == q) as (λ b. (k == q) ≡ b → get_or (set words q (with_bit (get_or words q 0) i)) k 0 < 2 ^ 64) [
    | true ↦ λ e.
        let same : k ≡ q = eqb-true k q e in
        let here : get_or (set words q (with_bit (get_or words q 0) i)) k 0 ≡ with_bit (get_or words q 0) i = ap (λ j. get_or (set words q (with_bit (get_or words q 0) i)) j 0) same ∙ get_or-set_same words q (with_bit (get_or words q 0) i) 0 (omega (arith, lanes.four)) in
        let small = or_lt 64 (get_or words q 0) (1 * 2 ^ i % 18446744073709551616) (lanes.fit q) (omega arith) in omega arith
    | false ↦ λ e. let other : get_or (set words q (with_bit (get_or words q 0) i)) k 0 ≡ get_or words k 0 = get_or-set_other words q k (with_bit (get_or words q 0) i) 0 (eqb-false k q e) in
        let h = lanes.fit k in omega arith
  ] refl;
}

-- words of lanes with one bit set, or none, are words of lanes
pub AreLanes-with : (words : List ℕ) (q i : ℕ) (value : Bool) → q < 4 → AreLanes words → AreLanes (set words q (with_value (get_or words q 0) value i))
AreLanes-with words q i true within lanes = AreLanes-with_one words q i within lanes
AreLanes-with words q i false within lanes =
    subst AreLanes (sym (ap (set words q) (with-false (get_or words q 0) i) ∙ set-get_or words q 0)) lanes
