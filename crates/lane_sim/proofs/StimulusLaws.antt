-- One more step of a stimulus.
use Rattle.std.proofs.Common.{ℕ, ◌+◌, ◌≡◌, ◌++◌, ◌∷◌, [], Bool, List, length, Ok, refl, arith, sym, ap, ◌∙◌, ne_eqb}
use Rattle.std.proofs.lemmas.Bool.{eq-eqb, cond-true, cond-false}
use Rattle.std.proofs.lemmas.List.{length_push}
use Rattle.lane_sim.specs.declared.stimulus.InputSequence.{InputSequence}
use Rattle.lane_sim.specs.Stimuli.{continued, step, values_of}

continued-last : (before : List InputSequence) (s : InputSequence) (row : List Bool)
    → continued (before ++ s ∷ []) row ≡ before ++ record { choice = s.choice; steps = s.steps ++ row ∷ [] } ∷ []
unfolding continued
continued-last [] s row = refl
continued-last (r ∷ []) s row = refl
continued-last (r ∷ q ∷ before) s row = ap (λ more. r ∷ more) (continued-last (q ∷ before) s row)

-- a step of the last sequence
pub step_added : (inputs at : ℕ) (old before : List InputSequence) (s : InputSequence) (digits : List ℕ) (new : List InputSequence)
    → old ≡ before ++ s ∷ [] → length digits ≡ inputs → new ≡ before ++ record { choice = s.choice; steps = s.steps ++ values_of digits ∷ [] } ∷ []
    → step inputs at old digits ≡ Ok new
step_added inputs at old before s digits new was wide now =
    cond-false _ _ _ (ne_eqb (length old) 0 (λ none. let l : length old ≡ length before + 1 = ap length was ∙ length_push before s in absurd (omega arith)))
    ∙ cond-true _ _ _ (eq-eqb (length digits) inputs wide)
    ∙ ap Ok (ap (λ sequences. continued sequences (values_of digits)) was ∙ continued-last before s (values_of digits) ∙ sym now)
