-- The laps of a run, one after another.
use Rattle.std.proofs.Common.{ℕ, ◌+◌, ◌<◌, ◌≤◌, ◌≡◌, ◌++◌, List, [], ◌∷◌, drop, length, get_or, slice_get, Option, Some, None, option_copied, refl, ap, append_assoc, append-nil, subst, sym, ◌∙◌}
use Rattle.std.specs.Borrow.{Bor}
use Rattle.std.specs.Option.{option_to_list}
use Rattle.std.proofs.lemmas.List.{at_drop_more, at_drop_all}
use Rattle.json_reports.specs.declared.times.FrameTimes.{FrameTimes}
use Rattle.command_endings.specs.declared.progress.laps.Lap.{Lap}
use Rattle.command_endings.specs.declared.progress.laps.Part.{Part}
use Rattle.command_endings.specs.declared.progress.laps.Part.TheVariants.{Moving}
use Rattle.command_endings.specs.progress.Laps.{look_of, frames_in, moving_first, moving_of, time_of, total_in}

-- an empty list, and a list of one and more
total-none : (part : Part) → total_in part [] ≡ 0
unfolding total_in
total-none part = refl

total-step : (part : Part) (lap : Lap) (laps : List Lap) → total_in part (lap ∷ laps) ≡ time_of part lap + total_in part laps
unfolding total_in
total-step part lap laps = refl

frames-none : frames_in [] ≡ []
unfolding frames_in
frames-none = refl

frames-step : (lap : Lap) (laps : List Lap) → frames_in (lap ∷ laps) ≡ option_to_list (look_of lap laps) ++ frames_in laps
unfolding frames_in
frames-step lap laps = refl

-- the lap at a place, and those after it
module _ (laps : List Lap) (i : ℕ) (none : Lap) (within : i < length laps) where
  -- the time of a part in the laps from a place on is that of the lap there, and of those after it
  pub total-more : (part : Part) → total_in part (drop i laps) ≡ time_of part (get_or laps i none) + total_in part (drop (i + 1) laps)
  total-more part = at_drop_more (total_in part) laps i none within ∙ total-step part (get_or laps i none) (drop (i + 1) laps)

  -- the times so far, with those of a look at this lap, are those of all frames with what later
  -- laps have
  pub frame-more : (done more : List FrameTimes) (times : Option FrameTimes) → done ++ frames_in (drop i laps) ≡ frames_in laps → more ≡ done ++ option_to_list times
      → times ≡ look_of (get_or laps i none) (drop (i + 1) laps) → more ++ frames_in (drop (i + 1) laps) ≡ frames_in laps
  frame-more done more times so_far added is =
      let lap = get_or laps i none in
      let rest = drop (i + 1) laps in
      ap (λ (frames : List FrameTimes). frames ++ frames_in rest) (added ∙ ap (λ (o : Option FrameTimes). done ++ option_to_list o) is)
      ∙ append_assoc done (option_to_list (look_of lap rest)) (frames_in rest)
      ∙ ap (λ (frames : List FrameTimes). done ++ frames) (sym (at_drop_more frames_in laps i none within ∙ frames-step lap rest)) ∙ so_far

-- past the last one
pub total-end : (part : Part) (laps : List Lap) (i : ℕ) → length laps ≤ i → total_in part (drop i laps) ≡ 0
total-end part laps i past = at_drop_all (total_in part) laps i past ∙ total-none part

-- past the last lap the times so far are those of all frames
pub frames-end : (done : List FrameTimes) (laps : List Lap) (i : ℕ) → length laps ≤ i → done ++ frames_in (drop i laps) ≡ frames_in laps → done ≡ frames_in laps
frames-end done laps i past so_far =
    sym (ap (λ (frames : List FrameTimes). done ++ frames) (at_drop_all frames_in laps i past ∙ frames-none) ∙ append-nil done) ∙ so_far

-- the first part, if there is one
pub moving-some : (laps : List Lap) (first : Option (Bor Lap)) (lap : Bor Lap) → first ≡ Some lap → option_copied first ≡ slice_get laps 0 → time_of Moving lap.now ≡ moving_first laps
moving-some laps first lap is value = ap moving_of (subst (λ (o : Option (Bor Lap)). option_copied o ≡ slice_get laps 0) is value)

-- where there is no lap, latches moved for no time
pub moving-none : (laps : List Lap) (first : Option (Bor Lap)) → first ≡ None → option_copied first ≡ slice_get laps 0 → 0 ≡ moving_first laps
moving-none laps first is value = ap moving_of (subst (λ (o : Option (Bor Lap)). option_copied o ≡ slice_get laps 0) is value)
