-- Deltas in pieces.
use Rattle.std.proofs.Common.{ℕ, ◌+◌, ◌-◌, ◌*◌, ◌%◌, ◌<◌, ◌≤◌, ◌≡◌, List, [], ◌∷◌, ◌++◌, length, take, drop, get_or, Option, Some, None, Result, Ok, Err, refl, arith, cond, nat_eq, nat_lt, ◌&&◌, inl, inr, ap, sym, subst, ◌∙◌}
use Rattle.std.proofs.lemmas.Bool.{cond-true, cond-false, lt-ltb, le-ltb, eq-eqb, ne_eqb, cases_lt, and_from}
use Rattle.std.proofs.lemmas.List.{length_push, length-append, take_rest}
use Rattle.file_words.specs.declared.fault.ReadError.{ReadError}
use Rattle.file_words.specs.declared.fault.ReadError.TheVariants.{BadDelta}
use Rattle.file_words.specs.Answering.{◌>>=◌}
use Rattle.binary_file.specs.Deltas.{is_delta, delta_value}
use Rattle.binary_file.specs.declared.deltas.decode.DeltaError.{DeltaError}
use Rattle.binary_file.specs.declared.deltas.decode.DeltaError.TheVariants.{TooLong}
use Rattle.binary_file.specs.Reading.{State, feed}
use Rattle.binary_file.proofs.StepLaws.{delta_fed}
use Rattle.binary_file.specs.Cutting.{BeginsWithDelta, AreDeltaStates, IsDeltaTaken}

-- ---- deltas that are whole

-- bytes of which the first is below 128 begin with the delta of that byte
pub one_byte : (bytes : List ℕ) (number : ℕ) → 5 ≤ length bytes → get_or bytes 0 0 < 128 → number ≡ get_or bytes 0 0 % 128 → BeginsWithDelta bytes number (drop 1 bytes)
unfolding is_delta delta_value
one_byte [] number enough small e = absurd (omega (arith, enough))
one_byte (b ∷ bytes) number enough small e = record {
  delta = b ∷ [];
  parts = refl;
  form = lt-ltb b 128 small;
  few = omega arith;
  value = omega (arith, e, small);
}

-- bytes of which the second is the first below 128 begin with the delta of these two
pub two_bytes : (bytes : List ℕ) (number : ℕ) → 5 ≤ length bytes → 128 ≤ get_or bytes 0 0 → get_or bytes 1 0 < 128 → number ≡ get_or bytes 0 0 % 128 + 128 * (get_or bytes 1 0 % 128) → BeginsWithDelta bytes number (drop 2 bytes)
unfolding is_delta delta_value
two_bytes [] number enough high0 small e = absurd (omega (arith, enough))
two_bytes (b ∷ []) number enough high0 small e = absurd (omega (arith, enough))
two_bytes (b ∷ d ∷ bytes) number enough high0 small e = record {
  delta = b ∷ d ∷ [];
  parts = refl;
  form = and_from (nat_lt 127 b) (nat_lt d 128) (lt-ltb 127 b (omega (arith, high0))) (lt-ltb d 128 small);
  few = omega arith;
  value = omega (arith, e, small);
}

-- bytes of which the third is the first below 128 begin with the delta of these three
pub three_bytes : (bytes : List ℕ) (number : ℕ) → 5 ≤ length bytes → 128 ≤ get_or bytes 0 0 → 128 ≤ get_or bytes 1 0 → get_or bytes 2 0 < 128 → number ≡ get_or bytes 0 0 % 128 + 128 * (get_or bytes 1 0 % 128 + 128 * (get_or bytes 2 0 % 128)) → BeginsWithDelta bytes number (drop 3 bytes)
unfolding is_delta delta_value
three_bytes [] number enough high0 high1 small e = absurd (omega (arith, enough))
three_bytes (b ∷ []) number enough high0 high1 small e = absurd (omega (arith, enough))
three_bytes (b ∷ d ∷ []) number enough high0 high1 small e = absurd (omega (arith, enough))
three_bytes (b ∷ d ∷ f ∷ bytes) number enough high0 high1 small e = record {
  delta = b ∷ d ∷ f ∷ [];
  parts = refl;
  form = and_from (nat_lt 127 b) (nat_lt 127 d && nat_lt f 128) (lt-ltb 127 b (omega (arith, high0))) (and_from (nat_lt 127 d) (nat_lt f 128) (lt-ltb 127 d (omega (arith, high1))) (lt-ltb f 128 small));
  few = omega arith;
  value = omega (arith, e, small);
}

-- bytes of which the fourth is the first below 128 begin with the delta of these four
pub four_bytes : (bytes : List ℕ) (number : ℕ) → 5 ≤ length bytes → 128 ≤ get_or bytes 0 0 → 128 ≤ get_or bytes 1 0 → 128 ≤ get_or bytes 2 0 → get_or bytes 3 0 < 128 → number ≡ get_or bytes 0 0 % 128 + 128 * (get_or bytes 1 0 % 128 + 128 * (get_or bytes 2 0 % 128 + 128 * (get_or bytes 3 0 % 128))) → BeginsWithDelta bytes number (drop 4 bytes)
unfolding is_delta delta_value
four_bytes [] number enough high0 high1 high2 small e = absurd (omega (arith, enough))
four_bytes (b ∷ []) number enough high0 high1 high2 small e = absurd (omega (arith, enough))
four_bytes (b ∷ d ∷ []) number enough high0 high1 high2 small e = absurd (omega (arith, enough))
four_bytes (b ∷ d ∷ f ∷ []) number enough high0 high1 high2 small e = absurd (omega (arith, enough))
four_bytes (b ∷ d ∷ f ∷ g ∷ bytes) number enough high0 high1 high2 small e = record {
  delta = b ∷ d ∷ f ∷ g ∷ [];
  parts = refl;
  form = and_from (nat_lt 127 b) (nat_lt 127 d && (nat_lt 127 f && nat_lt g 128)) (lt-ltb 127 b (omega (arith, high0))) (and_from (nat_lt 127 d) (nat_lt 127 f && nat_lt g 128) (lt-ltb 127 d (omega (arith, high1))) (and_from (nat_lt 127 f) (nat_lt g 128) (lt-ltb 127 f (omega (arith, high2))) (lt-ltb g 128 small)));
  few = omega arith;
  value = omega (arith, e, small);
}

-- bytes of which the fifth is the first below 128 begin with the delta of these five
pub five_bytes : (bytes : List ℕ) (number : ℕ) → 5 ≤ length bytes → 128 ≤ get_or bytes 0 0 → 128 ≤ get_or bytes 1 0 → 128 ≤ get_or bytes 2 0 → 128 ≤ get_or bytes 3 0 → get_or bytes 4 0 < 128 → number ≡ get_or bytes 0 0 % 128 + 128 * (get_or bytes 1 0 % 128 + 128 * (get_or bytes 2 0 % 128 + 128 * (get_or bytes 3 0 % 128 + 128 * (get_or bytes 4 0 % 128)))) → BeginsWithDelta bytes number (drop 5 bytes)
unfolding is_delta delta_value
five_bytes [] number enough high0 high1 high2 high3 small e = absurd (omega (arith, enough))
five_bytes (b ∷ []) number enough high0 high1 high2 high3 small e = absurd (omega (arith, enough))
five_bytes (b ∷ d ∷ []) number enough high0 high1 high2 high3 small e = absurd (omega (arith, enough))
five_bytes (b ∷ d ∷ f ∷ []) number enough high0 high1 high2 high3 small e = absurd (omega (arith, enough))
five_bytes (b ∷ d ∷ f ∷ g ∷ []) number enough high0 high1 high2 high3 small e = absurd (omega (arith, enough))
five_bytes (b ∷ d ∷ f ∷ g ∷ k ∷ bytes) number enough high0 high1 high2 high3 small e = record {
  delta = b ∷ d ∷ f ∷ g ∷ k ∷ [];
  parts = refl;
  form = and_from (nat_lt 127 b) (nat_lt 127 d && (nat_lt 127 f && (nat_lt 127 g && nat_lt k 128))) (lt-ltb 127 b (omega (arith, high0))) (and_from (nat_lt 127 d) (nat_lt 127 f && (nat_lt 127 g && nat_lt k 128)) (lt-ltb 127 d (omega (arith, high1))) (and_from (nat_lt 127 f) (nat_lt 127 g && nat_lt k 128) (lt-ltb 127 f (omega (arith, high2))) (and_from (nat_lt 127 g) (nat_lt k 128) (lt-ltb 127 g (omega (arith, high3))) (lt-ltb k 128 small))));
  few = omega arith;
  value = omega (arith, e, small);
}

-- ---- deltas that have begun

module _ (at : ℕ) (state : List ℕ → State) (end_delta : List ℕ → Result State ReadError) (are : AreDeltaStates at state end_delta) where
  last_byte : (old left : List ℕ) (b : ℕ) → b < 128 → feed (state old) (b ∷ left) ≡ (end_delta (old ++ b ∷ []) >>= λ s. feed s left)
  unfolding feed
  last_byte old left b small =
      ap (λ (r : Result State ReadError). r >>= λ s. feed s left) (are old b ∙ cond-true (nat_lt b 128) (end_delta (old ++ b ∷ [])) (cond (nat_eq (length old) 4) (Err (BadDelta at)) (Ok (state (old ++ b ∷ [])))) (lt-ltb b 128 small))

  goes_on : (old left : List ℕ) (b : ℕ) → 128 ≤ b → feed (state old) (b ∷ left) ≡ (cond (nat_eq (length old) 4) (Err (BadDelta at)) (Ok (state (old ++ b ∷ []))) >>= λ s. feed s left)
  unfolding feed
  goes_on old left b high =
      ap (λ (r : Result State ReadError). r >>= λ s. feed s left) (are old b ∙ cond-false (nat_lt b 128) (end_delta (old ++ b ∷ [])) (cond (nat_eq (length old) 4) (Err (BadDelta at)) (Ok (state (old ++ b ∷ [])))) (le-ltb b 128 high))

  -- a fifth byte of a delta with the top bit set is a fault at the delta's offset
  pub fifth_byte : (old left : List ℕ) (b : ℕ) → 128 ≤ b → length old ≡ 4 → feed (state old) (b ∷ left) ≡ Err (BadDelta at)
  fifth_byte old left b high four = goes_on old left b high ∙ ap (λ (r : Result State ReadError). r >>= λ s. feed s left) (cond-true (nat_eq (length old) 4) (Err (BadDelta at)) (Ok (state (old ++ b ∷ []))) (eq-eqb (length old) 4 four))

  -- a byte below 128 ends a delta, whose number it gives
  pub taken_last : (old left : List ℕ) (b : ℕ) → b < 128 → IsDeltaTaken state end_delta old [] (b ∷ left) (Some (delta_value (old ++ b ∷ []))) left
  taken_last old left b small = (old ++ b ∷ [], refl, last_byte old left b small, omega (arith, length_push old b))

  -- a byte with the top bit set goes on with a delta of fewer than four bytes before it
  pub taken_more : (old left : List ℕ) (b : ℕ) → 128 ≤ b → length old < 4 → IsDeltaTaken state end_delta old (old ++ b ∷ []) (b ∷ left) None left
  taken_more old left b high few = (
    goes_on old left b high
        ∙ ap (λ (r : Result State ReadError). r >>= λ s. feed s left) (cond-false (nat_eq (length old) 4) (Err (BadDelta at)) (Ok (state (old ++ b ∷ []))) (ne_eqb (length old) 4 (λ e. absurd (omega (arith, e, few))))),
    omega (arith, length_push old b),
  )

  -- a delta that the bytes begin with is taken if none has begun
  pub whole_taken : (piece left : List ℕ) (number : ℕ) → BeginsWithDelta piece number left → IsDeltaTaken state end_delta [] [] piece (Some number) left
  whole_taken piece left number begins = (
    begins.delta,
    begins.value,
    ap (λ (bytes : List ℕ). feed (state []) bytes) begins.parts ∙ delta_fed at state end_delta are begins.delta [] left begins.form (let few = begins.few in omega (arith, few)),
    omega (arith, ap length begins.parts, length-append begins.delta left),
  )

-- what a byte makes of a delta that has begun
pub record Pushed (old new : List ℕ) (b : ℕ) (result : Result (Option ℕ) DeltaError) : Type 0 where
  -- at most four bytes had come before
  pub few : length old ≤ 4
  -- a byte below 128 ends the delta, and gives its number
  pub last : b < 128 → (result ≡ Ok (Some (delta_value (old ++ b ∷ [])))) × (new ≡ [])
  -- a byte with the top bit set is kept if fewer than four had come
  pub more : 128 ≤ b → length old < 4 → (result ≡ Ok None) × (new ≡ old ++ b ∷ [])
  -- a byte with the top bit set is a fault if four had come
  pub too_long : 128 ≤ b → length old ≡ 4 → (result ≡ Err TooLong) × (new ≡ old)

-- what a byte makes of a delta without a fault is what reading makes of it
pub taken_where_pushed : (at : ℕ) (state : List ℕ → State) (end_delta : List ℕ → Result State ReadError) → AreDeltaStates at state end_delta
    → (old new piece left : List ℕ) (b : ℕ) (number : Option ℕ) → piece ≡ b ∷ left → Pushed old new b (Ok number) → IsDeltaTaken state end_delta old new piece number left
taken_where_pushed at state end_delta are old new piece left b number parts pushed =
    subst (λ (bytes : List ℕ). IsDeltaTaken state end_delta old new bytes number left) (sym parts) (elim (cases_lt b 128) [
      | inl small ↦
          let is = pushed.last small in
          subst (λ (n : Option ℕ). IsDeltaTaken state end_delta old new (b ∷ left) n left) (sym (same_number _ _ is.0)) (subst (λ (n : List ℕ). IsDeltaTaken state end_delta old n (b ∷ left) (Some (delta_value (old ++ b ∷ []))) left) (sym is.1) (taken_last at state end_delta are old left b small))
      | inr high ↦ elim (cases_lt (length old) 4) [
        | inl few ↦
            let is = pushed.more high few in
            subst (λ (n : Option ℕ). IsDeltaTaken state end_delta old new (b ∷ left) n left) (sym (same_number _ _ is.0)) (subst (λ (n : List ℕ). IsDeltaTaken state end_delta old n (b ∷ left) None left) (sym is.1) (taken_more at state end_delta are old left b high few))
        | inr four ↦ absurd (no_error _ (pushed.too_long high (full (length old) four pushed.few)).0)
      ]
    ])
  where
    full : (n : ℕ) → 4 ≤ n → n ≤ 4 → n ≡ 4
    full n least most = omega (arith, least, most)

    same_number : (m n : Option ℕ) → ◌≡◌ {A = Result (Option ℕ) DeltaError} (Ok m) (Ok n) → m ≡ n
    same_number m n e = cc

    no_error : (m : Option ℕ) → ◌≡◌ {A = Result (Option ℕ) DeltaError} (Ok m) (Err TooLong) → ⊥
    no_error m e = cc

-- a fault that a byte makes of a delta is the one that reading gives
pub refused_where_pushed : (at : ℕ) (state : List ℕ → State) (end_delta : List ℕ → Result State ReadError) → AreDeltaStates at state end_delta
    → (old new piece left : List ℕ) (b : ℕ) (fault : DeltaError) → piece ≡ b ∷ left → Pushed old new b (Err fault) → feed (state old) piece ≡ Err (BadDelta at)
refused_where_pushed at state end_delta are old new piece left b fault parts pushed =
    ap (λ (bytes : List ℕ). feed (state old) bytes) parts ∙ elim (cases_lt b 128) [
      | inl small ↦ absurd (no_number _ (pushed.last small).0)
      | inr high ↦ elim (cases_lt (length old) 4) [
        | inl few ↦ absurd (no_number _ (pushed.more high few).0)
        | inr four ↦ fifth_byte at state end_delta are old left b high (full (length old) four pushed.few)
      ]
    ]
  where
    full : (n : ℕ) → 4 ≤ n → n ≤ 4 → n ≡ 4
    full n least most = omega (arith, least, most)

    no_number : (n : Option ℕ) → ◌≡◌ {A = Result (Option ℕ) DeltaError} (Err fault) (Ok n) → ⊥
    no_number n e = cc

-- a piece that isn't empty is its first byte and the rest
pub first_and_rest : (piece : List ℕ) → 0 < length piece → piece ≡ get_or piece 0 0 ∷ take (length piece - 1) (drop 1 piece)
first_and_rest [] some = absurd (omega (arith, some))
first_and_rest (b ∷ piece) some = ap (λ (bytes : List ℕ). b ∷ bytes) (sym (take_rest (b ∷ piece) 1))
