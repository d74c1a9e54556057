-- How each variable of a circuit looks.
use Rattle.std.specs.Prelude.{ℕ, ◌≡◌, ◌||◌, ◌&&◌, Bool, true, false, not, List, Option, Some, None, option_map}
use Rattle.aig_graph.specs.Marking.{mark_at}
use Rattle.aig_graph.specs.Tables.{table}
use Rattle.aig_graph.specs.Graph.{Graph, first_latch, latches_and_gates, variables_end, latch_at, is_known}
use Rattle.aig_graph.specs.Circuits.{Netlist}
use Rattle.aig_graph.specs.Closed.{is_held}
use Rattle.aig_graph.specs.Move.{move_of}
use Rattle.aig_graph.specs.Border.{is_gate_in, in_border}
use Rattle.frame_net.specs.Passable.{is_passable}
use Rattle.frame_net.specs.declared.pass_set.PassSet.{PassSet}
use Rattle.pictures.specs.Views.{drawn_in}
use Rattle.pictures.specs.declared.look.Look.{Look}
use Rattle.pictures.specs.declared.look.View.{View}

-- whether the variable is in the set that is shown, or in its border; if none is shown, in neither
abbrev pub is_inside : Netlist → Option (List ℕ) → ℕ → Bool
is_inside c None v = false
is_inside c (Some s) v = is_gate_in c.aig s v

abbrev pub is_border : Netlist → List ℕ → Option (List ℕ) → ℕ → Bool
is_border c held None v = false
is_border c held (Some s) v = in_border (move_of c held s) v

-- whether a variable is a held latch, no passable gate, a gate of the set, and in its border
unfoldable pub look_of : Netlist → List ℕ → Option (List ℕ) → ℕ → Look
look_of c held set v = record {
  held = is_held c.aig held v;
  fixed = not (is_passable c.aig held v);
  inside = is_inside c set v;
  border = is_border c held set v;
}

-- a look for each latch and gate
abbrev pub looks_by : Graph → (ℕ → Look) → List Look
looks_by g look = table (first_latch g) (latches_and_gates g) look

-- marks by variable of what is in the middle, if there is one
abbrev pub centre_marks : Netlist → Option (ℕ → Bool) → Option (List Bool)
centre_marks c centre = option_map (table 0 (variables_end c.aig)) centre

-- a circuit's looks with held latches and a set, the variables shown, and those in the middle
pub record IsViewOf (c : Netlist) (held : List ℕ) (set : Option (List ℕ)) (shown : ℕ → Bool) (centre : Option (ℕ → Bool)) (view : View) : Type 0 where
  pub first : view.first ≡ first_latch c.aig
  pub looks : view.looks.items ≡ looks_by c.aig (look_of c held set)
  pub draws : (v : ℕ) → drawn_in view v ≡ shown v
  pub middle : view.centre ≡ centre_marks c centre

-- every variable is shown
abbrev pub everything : ℕ → Bool
everything v = true

-- ---- by the tables of passable gates, and of what is read from outside the set

unfoldable pub look_alone : Graph → List ℕ → PassSet → ℕ → Look
look_alone g held pass v = record { held = is_held g held v; fixed = not (mark_at pass.first pass.marks.items v); inside = false; border = false }

-- how a variable looks: held or not, passable or not, in the set or not, in its border or not
unfoldable pub look_with : Graph → List ℕ → PassSet → List ℕ → List Bool → ℕ → Look
look_with g held pass s read v = record {
  held = is_held g held v;
  fixed = not (mark_at pass.first pass.marks.items v);
  inside = is_gate_in g s v;
  border = (is_known (latch_at g v) || is_gate_in g s v) && (is_held g held v || mark_at (first_latch g) read v);
}
