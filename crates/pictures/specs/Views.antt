-- What the tables of a view say of each variable.
use Rattle.std.specs.Prelude.{ℕ, ◌-◌, Bool, true, false, nat_le, get_or, Some, None, if◌then◌else◌}
use Rattle.aig_graph.specs.Marking.{mark_at}
use Rattle.pictures.specs.declared.look.Look.{Look}
use Rattle.pictures.specs.declared.look.View.{View}

-- how a variable looks that is neither a latch nor a gate
abbrev pub plain : Look
plain = record { held = false; fixed = true; inside = false; border = false }

-- how a variable looks; a table has no entry for an input
unfoldable pub look_in : View → ℕ → Look
look_in view v = if nat_le view.first v then get_or view.looks.items (v - view.first) plain else plain

-- whether a variable is drawn: all are, or those that are marked
unfoldable pub drawn_in : View → ℕ → Bool
drawn_in view v = elim view.drawn [ None ↦ true | Some marks ↦ mark_at 0 marks v ]
