-- Words as they are drawn, and what is made of them.
use Rattle.std.proofs.Common.{ℕ, suc, ◌+◌, ◌/◌, ◌%◌, ◌^◌, ◌≡◌, ◌≢◌, ◌++◌, ◌∷◌, [], Bool, List, nat_eq, bit_and, arith, refl, sym, ap, ap₂, ◌∙◌}
use Rattle.std.proofs.lemmas.List.FromFn.{map-range_with_len_more}
use Rattle.std.proofs.lemmas.Nat.Bits.{shr_and_one}
use Rattle.rand_xoshiro.specs.SplitMix64.{mix_u64}
use Rattle.lane_sim.specs.declared.stimulus.InputSequence.{InputSequence}
use Rattle.simulation_commands.specs.Random.{random_digit, digits, random_sequence, random_steps, random_stimulus, state_after, word}

state-start : (seed : ℕ) → state_after seed 0 ≡ seed
unfolding state_after
state-start seed = refl

state-next : (seed k : ℕ) → state_after seed (k + 1) ≡ (mix_u64 (state_after seed k)).1
unfolding state_after
state-next seed k = let next : k + 1 ≡ suc k = omega arith in ap (state_after seed) next

-- a word that is drawn if k were, and the state after it
pub word-drawn : (seed k old new result : ℕ) → old ≡ state_after seed k → (result, new) ≡ mix_u64 old → result ≡ word seed k
unfolding word
word-drawn seed k old new result before drawn = ap (λ (p : ℕ × ℕ). p.0) drawn ∙ ap (λ (s : ℕ). (mix_u64 s).0) before

-- the state that drawing one word leaves is the state after one word more
pub state-drawn : (seed k old new result : ℕ) → old ≡ state_after seed k → (result, new) ≡ mix_u64 old → new ≡ state_after seed (k + 1)
state-drawn seed k old new result before drawn = ap (λ (p : ℕ × ℕ). p.1) drawn ∙ ap (λ (s : ℕ). (mix_u64 s).1) before ∙ sym (state-next seed k)

-- a generator that is made of a seed
pub seeded : (seed state : ℕ) → state ≡ seed → state ≡ state_after seed 0
seeded seed state same = same ∙ sym (state-start seed)

-- ---- digits

-- The number of words drawn is that of begun ones below a place. The one at hand is that of the
-- place, unless it is the first of one.
pub record HasDrawn (seed place state held : ℕ) : Type 0 where
  -- the state is that after the words which begin below the place
  pub drawn : state ≡ state_after seed ((place + 63) / 64)
  -- within a word the one at hand is the word of the place
  pub at : place % 64 ≢ 0 → held ≡ word seed (place / 64)

-- at place 0 no word was drawn, and the state is the seed
pub drawn-start : (seed state held : ℕ) → state ≡ seed → HasDrawn seed 0 state held
drawn-start seed state held same = record { drawn = seeded seed state same; at = λ more. absurd (more refl) }

-- at the first place of a word, before it is drawn
pub drawn-before : (seed place state held : ℕ) → place % 64 ≡ 0 → HasDrawn seed place state held → state ≡ state_after seed (place / 64)
drawn-before seed place state held first h = let same : (place + 63) / 64 ≡ place / 64 = omega arith in h.drawn ∙ ap (state_after seed) same

-- the word of a place is at hand
pub record IsAtHand (seed place state held : ℕ) : Type 0 where
  -- the state is that after the word of the place
  pub drawn : state ≡ state_after seed (place / 64 + 1)
  -- the word at hand is that of the place
  pub at : held ≡ word seed (place / 64)

-- within a word the word of the place is at hand
pub at_hand-same : (seed place state held : ℕ) → place % 64 ≢ 0 → HasDrawn seed place state held → IsAtHand seed place state held
at_hand-same seed place state held within h =
    let same : (place + 63) / 64 ≡ place / 64 + 1 = omega arith in
    record { drawn = h.drawn ∙ ap (state_after seed) same; at = h.at within }

-- if the word of a place is at hand, the words that begin below the next place were drawn
pub drawn-more : (seed place state held : ℕ) → IsAtHand seed place state held → HasDrawn seed (place + 1) state held
drawn-more seed place state held h =
    let all : place / 64 + 1 ≡ (place + 1 + 63) / 64 = omega arith in
    record {
      drawn = h.drawn ∙ ap (state_after seed) all;
      at = λ within. let same : place / 64 ≡ (place + 1) / 64 = omega (arith, within) in h.at ∙ ap (word seed) same;
    }

-- one more digit
pub digits-more : (seed place held : ℕ) (old new : List Bool) → held ≡ word seed (place / 64) → old ≡ digits seed place
    → new ≡ old ++ nat_eq (bit_and (held / 2 ^ (place % 64)) 1) 1 ∷ [] → new ≡ digits seed (place + 1)
digits-more seed place held old new at before pushed =
    let bit : nat_eq (bit_and (held / 2 ^ (place % 64)) 1) 1 ≡ random_digit seed place =
    ap (λ x. nat_eq x 1) (shr_and_one held (place % 64)) ∙ ap (λ (w : ℕ). nat_eq (w / 2 ^ (place % 64) % 2) 1) at in
    pushed ∙ ap₂ (λ (xs : List Bool) (x : Bool). xs ++ x ∷ []) before bit ∙ sym (map-range_with_len_more (random_digit seed) 0 place place (omega arith))

-- ---- steps and sequences

-- random steps with a row of the next word's digits are one step more
pub steps-more : (inputs n seed w : ℕ) (old new : List (List Bool)) (row : List Bool) → old ≡ random_steps inputs n seed → w ≡ word seed (n + 1) → row ≡ digits w inputs
    → new ≡ old ++ row ∷ [] → new ≡ random_steps inputs (n + 1) seed
steps-more inputs n seed w old new row before drawn is pushed =
    pushed ∙ ap₂ (λ (xs : List (List Bool)) (x : List Bool). xs ++ x ∷ []) before (is ∙ ap (λ (v : ℕ). digits v inputs) drawn)
    ∙ sym (map-range_with_len_more (λ (t : ℕ). digits (word seed (t + 1)) inputs) 0 n n (omega arith))

abbrev made_of : List Bool → List (List Bool) → InputSequence
made_of choice steps = record { choice = choice; steps = steps }

-- the first word's digits as the choice, and the random steps, are the random sequence
pub sequence-made : (inputs free count seed w : ℕ) (choice : List Bool) (steps : List (List Bool)) → w ≡ word seed 0 → choice ≡ digits w free → steps ≡ random_steps inputs count seed
    → ◌≡◌ {A = InputSequence} record { choice = choice; steps = steps } (random_sequence inputs free count seed)
sequence-made inputs free count seed w choice steps drawn chosen are = ap₂ made_of (chosen ∙ ap (λ (v : ℕ). digits v free) drawn) are

-- the random stimulus of no sequences is empty
pub stimulus-none : (inputs free steps seed : ℕ) → [] ≡ random_stimulus inputs free 0 steps seed
unfolding random_stimulus
stimulus-none inputs free steps seed = refl

-- a random stimulus with the random sequence of the next word is one sequence longer
pub stimulus-more : (inputs free steps seed n w : ℕ) (old new : List InputSequence) (next : InputSequence) → old ≡ random_stimulus inputs free n steps seed → w ≡ word seed n
    → next ≡ random_sequence inputs free steps w → new ≡ old ++ next ∷ [] → new ≡ random_stimulus inputs free (n + 1) steps seed
unfolding random_stimulus
stimulus-more inputs free steps seed n w old new next before drawn is pushed =
    pushed ∙ ap₂ (λ (xs : List InputSequence) (x : InputSequence). xs ++ x ∷ []) before (is ∙ ap (random_sequence inputs free steps) drawn)
    ∙ sym (map-range_with_len_more (λ (k : ℕ). random_sequence inputs free steps (word seed k)) 0 n n (omega arith))
