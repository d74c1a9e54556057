-- Laws of words and of their bits.
use Rattle.std.proofs.Common.{ℕ, ◌+◌, ◌-◌, ◌<◌, ◌≤◌, ◌≡◌, ◌^◌, Bool, true, false, cond, w64, bit_and, arith, refl, sym, ap₂, ◌∙◌, get_or, List, length, replicate}
use Rattle.std.specs.Int.{bit_not}
use Rattle.std.specs.Int.RustNames.{bit_xor}
use Rattle.std.specs.Int.Bits.{xor_zero_r}
use Rattle.std.specs.Simd.Lanes.{chunk, zip2}
use Rattle.std.proofs.lemmas.Nat.{xor_lt}
use Rattle.std.proofs.lemmas.Nat.Bits.{bit_at_xor, bit_at_ones, bit_at_not, same_from_bits_below}
use Rattle.std.proofs.lemmas.Simd.{get_or-zip2, get_or-chunk, length-zip2, length-chunk, length-replicate, get_or-replicate}
use Rattle.std.proofs.Common.{nat_lt, subst}
use Rattle.std.proofs.lemmas.Bool.{ltb-true, ltb-false}
use Rattle.lane_sim.specs.Words.{negated_if, and_words}

xor_ones : (x : ℕ) → x < 2 ^ 64 → bit_xor x (2 ^ 64 - 1) ≡ bit_not w64 x
xor_ones x small =
    same_from_bits_below 64 (bit_xor x (2 ^ 64 - 1)) (bit_not w64 x) (xor_lt 64 x (2 ^ 64 - 1) small (omega arith)) (omega arith) (λ i within.
    rw (bit_at_xor x (2 ^ 64 - 1) i, bit_at_ones 64 i within, bit_at_not w64 x i small within) (omega arith))

-- XOR with all ones negates
pub xor_flip : (negated : Bool) (x : ℕ) → x < 2 ^ 64 → bit_xor x (cond negated 18446744073709551615 0) ≡ negated_if negated x
xor_flip true x small = xor_ones x small
xor_flip false x small = xor_zero_r x

-- the AND of words XORed with ones if they are to be negated is that of the words, each perhaps
-- negated
pub and_flips : (neg_a neg_b : Bool) (a b : ℕ) → a < 2 ^ 64 → b < 2 ^ 64
    → bit_and (bit_xor a (cond neg_a 18446744073709551615 0)) (bit_xor b (cond neg_b 18446744073709551615 0)) ≡ and_words neg_a neg_b a b
and_flips neg_a neg_b a b small_a small_b = ap₂ bit_and (xor_flip neg_a a small_a) (xor_flip neg_b b small_b)

-- a lane of four words, each XORed with one word
xor_lane : (xs : List ℕ) (at flip j : ℕ) → at + 4 ≤ length xs → j < 4
    → get_or (zip2 bit_xor (chunk at 4 xs) (replicate 4 flip)) j 0 ≡ bit_xor (get_or xs (at + j) 0) flip
xor_lane xs at flip j room within =
    let loaded : length (chunk at 4 xs) ≡ 4 = length-chunk at 4 xs room in
    let splat : length (replicate 4 flip) ≡ 4 = length-replicate 4 flip in
    get_or-zip2 bit_xor (chunk at 4 xs) (replicate 4 flip) j 0 0 0 (omega arith) (omega arith)
    ∙ ap₂ bit_xor (get_or-chunk at 4 xs j 0 within) (get_or-replicate 4 j flip 0 within)

xor_length : (xs : List ℕ) (at flip : ℕ) → at + 4 ≤ length xs → length (zip2 bit_xor (chunk at 4 xs) (replicate 4 flip)) ≡ 4
xor_length xs at flip room =
    length-zip2 bit_xor (chunk at 4 xs) (replicate 4 flip) (length-chunk at 4 xs room ∙ sym (length-replicate 4 flip))
    ∙ length-chunk at 4 xs room

-- the AND of two of those
abbrev pub and_vectors : List ℕ → List ℕ → ℕ → ℕ → ℕ → List ℕ
and_vectors xs ys at p q = zip2 bit_and (zip2 bit_xor (chunk at 4 xs) (replicate 4 p)) (zip2 bit_xor (chunk at 4 ys) (replicate 4 q))

-- each word of the AND of four words is the AND of the two words there, each XORed with its own
pub and_vectors-lane : (xs ys : List ℕ) (at p q j : ℕ) → at + 4 ≤ length xs → at + 4 ≤ length ys → j < 4
    → get_or (and_vectors xs ys at p q) j 0 ≡ bit_and (bit_xor (get_or xs (at + j) 0) p) (bit_xor (get_or ys (at + j) 0) q)
and_vectors-lane xs ys at p q j room_x room_y within =
    let xs_long = xor_length xs at p room_x in
    let ys_long = xor_length ys at q room_y in
    get_or-zip2 bit_and (zip2 bit_xor (chunk at 4 xs) (replicate 4 p)) (zip2 bit_xor (chunk at 4 ys) (replicate 4 q)) j 0 0 0 (omega arith) (omega arith)
    ∙ ap₂ bit_and (xor_lane xs at p j room_x within) (xor_lane ys at q j room_y within)

-- the AND of four words is four words
pub and_vectors-length : (xs ys : List ℕ) (at p q : ℕ) → at + 4 ≤ length xs → at + 4 ≤ length ys → length (and_vectors xs ys at p q) ≡ 4
and_vectors-length xs ys at p q room_x room_y =
    length-zip2 bit_and _ _ (xor_length xs at p room_x ∙ sym (xor_length ys at q room_y)) ∙ xor_length xs at p room_x

-- what holds of the places below one, and of the four from it on
pub four_more : (P : ℕ → Type 0) (at : ℕ) → ((k : ℕ) → k < at → P k) → ((j : ℕ) → j < 4 → P (at + j)) → (k : ℕ) → k < at + 4 → P k
four_more P at before each k h =
    elim (nat_lt k at) as (λ b. nat_lt k at ≡ b → P k) [
      | true ↦ λ e. before k (ltb-true k at e)
      | false ↦ λ e.
          let after : at ≤ k = ltb-false k at e in
          let place : at + (k - at) ≡ k = omega arith in
          subst P place (each (k - at) (omega arith))
    ] refl
