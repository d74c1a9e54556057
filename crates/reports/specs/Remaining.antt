-- The text of the reasons why latches don't move.
use Rattle.std.specs.Prelude.{ℕ, ◌-◌, Bool, true, false, List, [], ◌∷◌, ◌++◌, Option, Some, None, is_some, unwrap_or, decimal, codes}
use Rattle.reports.specs.declared.remaining_counts.Remaining.{Remaining}

-- the number of latches that nothing holds
abbrev pub movable : Remaining → ℕ
movable r = r.counts.latches - r.held_back.free - r.held_back.held - r.held_back.read_elsewhere - unwrap_or r.held_back.too_long 0

-- how many latches a gate on too long a path reads, under a bound
abbrev pub too_long_text : Option ℕ → List ℕ
too_long_text None = []
too_long_text (Some count) = codes ", read by a gate on too long a path " ++ decimal count

-- what their number follows; if no set of gates leaves fewer latches, moving them gains nothing
abbrev pub movable_lead : Bool → List ℕ
movable_lead true = codes ", could move without gain "
movable_lead false = codes ", could move "

-- how many latches stay, and for what: the numbers add up to all
abbrev pub staying_text : Remaining → List ℕ
staying_text r =
    codes "latches that stay: free " ++ decimal r.held_back.free ++ codes ", held " ++ decimal r.held_back.held ++ codes ", read elsewhere " ++ decimal r.held_back.read_elsewhere
    ++ too_long_text r.held_back.too_long ++ movable_lead r.is_least ++ decimal (movable r) ++ 10 ∷ []

-- why the frames ended, by whether no set of gates leaves fewer latches, and whether sets have to
-- be within a bound
abbrev pub end_text : Bool → Bool → List ℕ
end_text true true = codes ", no set of gates within the bound leaves fewer\n"
end_text true false = codes ", no set of gates leaves fewer\n"
end_text false is_bounded = codes ", the limit of frames is reached\n"

-- what a terminal is told: how many latches stay and for what, and why the frames ended
abbrev pub remaining_text : Remaining → List ℕ
remaining_text r = staying_text r ++ codes "passable gates " ++ decimal r.held_back.passable ++ end_text r.is_least (is_some r.held_back.too_long)
