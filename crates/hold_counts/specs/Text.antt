-- The line of registers that hold.
use Rattle.std.specs.Prelude.{List, ℕ, Bool, true, false, not, [], ◌++◌, ◌==◌, decimal, codes}
use Rattle.hold_counts.specs.declared.counting.Holding.{Holding}

-- how many registers hold, and in how many classes
abbrev pub line_of : Holding → List ℕ
line_of h = codes "latches that hold " ++ decimal h.latches ++ codes ", classes of these " ++ decimal h.classes ++ codes ": try enables\n"

-- the line, if there is one
abbrev pub text_if : Bool → Holding → List ℕ
text_if true h = line_of h
text_if false h = []

-- the line, if a register holds
abbrev pub holding_text : Holding → List ℕ
holding_text h = text_if (not (h.latches == 0)) h
