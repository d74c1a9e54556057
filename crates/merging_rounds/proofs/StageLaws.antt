-- The stages of runs, one run after another.
use Rattle.std.proofs.Common.{ℕ, ◌+◌, ◌-◌, ◌≡◌, ◌∙◌, Bool, true, false, List, [], ◌∷◌, ◌++◌, length, refl, arith, ap, sym, subst, append-nil, append_assoc}
use Rattle.std.proofs.lemmas.List.{length-append}
use Rattle.std.proofs.lemmas.Grind.{flat_map-append}
use Rattle.retimed_circuits.specs.declared.report.Retimed.{Retimed}
use Rattle.frame_runs.specs.Stages.{Cleaning, Notification, Notifies, looks_of, stages_of}
use Rattle.frame_runs.proofs.StageLaws.{notifies-nothing, notifies-then}
use Rattle.merging_rounds.specs.Following.{last_cleaning, later_stages, looks_of_runs}
use Rattle.merging_rounds.specs.Rounds.{frames_of}

-- the frames of runs and of others after them
pub many-frames : (runs more : List Retimed) → length (frames_of (runs ++ more)) ≡ length (frames_of runs) + length (frames_of more)
many-frames runs more =
    let split = flat_map-append (λ (x : Retimed). x.frames) runs more in
    ap (λ (xs : List _). length xs) split ∙ length-append (frames_of runs) (frames_of more)

later-none : (limit : ℕ) → later_stages limit [] ≡ []
unfolding later_stages
later-none limit = refl

-- the stages of one run more
later-more : (limit : ℕ) (runs : List Retimed) (run : Retimed) → later_stages limit (runs ++ run ∷ []) ≡ later_stages limit runs ++ stages_of (limit - length (frames_of runs)) run
unfolding later_stages
later-more limit [] run =
    let none : limit ≡ limit - length (frames_of []) = omega arith in
    append-nil (stages_of limit run) ∙ ap (λ (n : ℕ). stages_of n run) none
later-more limit (x ∷ runs) run =
    let left : ℕ = limit - length x.frames in
    let many : length (frames_of (x ∷ runs)) ≡ length x.frames + length (frames_of runs) = length-append x.frames (frames_of runs) in
    let same : left - length (frames_of runs) ≡ limit - length (frames_of (x ∷ runs)) = omega (arith, many) in
    ap (λ (xs : List Notification). stages_of limit x ++ xs) (later-more left runs run)
    ∙ sym (append_assoc (stages_of limit x) (later_stages left runs) (stages_of (left - length (frames_of runs)) run))
    ∙ ap (λ (n : ℕ). (stages_of limit x ++ later_stages left runs) ++ stages_of n run) same

module _ {W : Type 0} (was_notified : W → List Notification → Type 0) where
  -- a cleaning at the end that isn't there
  without : (a b : W) (xs : List Notification) → Notifies was_notified a b (xs ++ last_cleaning false) → Notifies was_notified a b xs
  without a b xs = subst (Notifies was_notified a b) (append-nil xs)

  with-none : (a b : W) (xs : List Notification) → Notifies was_notified a b xs → Notifies was_notified a b (xs ++ last_cleaning false)
  with-none a b xs = subst (Notifies was_notified a b) (sym (append-nil xs))

  -- before a further run nothing more was notified
  pub notified-none : (a : W) (limit : ℕ) → Notifies was_notified a a (later_stages limit [] ++ last_cleaning false)
  notified-none a limit = with-none a a (later_stages limit []) (subst (Notifies was_notified a a) (sym (later-none limit)) (notifies-nothing was_notified a))

  -- after one its stages are
  pub notified-more : (a b c : W) (limit : ℕ) (runs more : List Retimed) (run : Retimed) → Notifies was_notified a b (later_stages (limit - length (frames_of runs)) more ++ last_cleaning false)
      → Notifies was_notified b c (stages_of (limit - length (frames_of (runs ++ more))) run)
      → Notifies was_notified a c (later_stages (limit - length (frames_of runs)) (more ++ run ∷ []) ++ last_cleaning false)
  notified-more a b c limit runs more run first next =
      let left : ℕ = limit - length (frames_of runs) in
      let all : length (frames_of (runs ++ more)) ≡ length (frames_of runs) + length (frames_of more) = many-frames runs more in
      let same : limit - length (frames_of (runs ++ more)) ≡ left - length (frames_of more) = omega (arith, all) in
      let last = subst (λ (n : ℕ). Notifies was_notified b c (stages_of n run)) same next in
      with-none a c (later_stages left (more ++ run ∷ [])) (subst (Notifies was_notified a c) (sym (later-more left more run))
      (notifies-then was_notified a b c (later_stages left more) (stages_of (left - length (frames_of more)) run) (without a b (later_stages left more) first) last))

  -- after one that found nothing a cleaning is
  pub notified-last : (a b c : W) (limit : ℕ) (more : List Retimed) → Notifies was_notified a b (later_stages limit more ++ last_cleaning false) → Notifies was_notified b c (Cleaning ∷ [])
      → Notifies was_notified a c (later_stages limit more ++ last_cleaning true)
  notified-last a b c limit more first next = notifies-then was_notified a b c (later_stages limit more) (Cleaning ∷ []) (without a b (later_stages limit more) first) next

  -- the stages of a first run, and those of the others
  pub notified-all : (a b c : W) (limit : ℕ) (run : Retimed) (more : List Retimed) (nothing : Bool) → Notifies was_notified a b (looks_of limit run)
      → Notifies was_notified b c (later_stages (limit - length (frames_of (run ∷ []))) more ++ last_cleaning nothing) → Notifies was_notified a c (looks_of_runs limit (run ∷ more) ++ last_cleaning nothing)
  notified-all a b c limit run more nothing first next =
      let same : length (frames_of (run ∷ [])) ≡ length run.frames = ap (λ (xs : List _). length xs) (append-nil run.frames) in
      let later : List Notification = later_stages (limit - length run.frames) more in
      let rest = subst (λ (n : ℕ). Notifies was_notified b c (later_stages (limit - n) more ++ last_cleaning nothing)) same next in
      subst (Notifies was_notified a c) (sym (append_assoc (looks_of limit run) later (last_cleaning nothing)))
      (notifies-then was_notified a b c (looks_of limit run) (later ++ last_cleaning nothing) first rest)
