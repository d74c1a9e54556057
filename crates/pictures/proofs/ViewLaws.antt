-- The picture by the tables of a view is the picture of the circuit.
use Rattle.std.proofs.Common.{ℕ, ◌+◌, ◌-◌, ◌<◌, ◌≤◌, ◌≡◌, ◌⊎◌, ◌||◌, ◌&&◌, nat_le, Bool, true, false, not, List, length, get_or, Option, Some, None, is_some, inl, inr, cond, refl, ap, ap₂, sym, ◌∙◌, arith}
use Rattle.std.proofs.lemmas.Bool.{cases_lt, le-leb, lt-leb, and_right}
use Rattle.std.proofs.lemmas.List.{get_or_past}
use Rattle.aig_graph.specs.Marking.{has, mark_at}
use Rattle.aig_graph.proofs.TableLaws.{table-at, length-table}
use Rattle.aig_graph.specs.declared.graph.Gate.{Gate}
use Rattle.aig_graph.specs.declared.graph.Latch.{Latch}
use Rattle.aig_graph.specs.Graph.{Graph, first_latch, latches_and_gates, variables_end, latch_at, gate_at, is_known}
use Rattle.aig_graph.specs.Circuits.{Netlist}
use Rattle.aig_graph.specs.Closed.{is_held}
use Rattle.aig_graph.specs.Border.{is_read, in_border}
use Rattle.aig_graph.proofs.FoldingLaws.{gate_at-before}
use Rattle.aig_graph.proofs.KindLaws.{latch_at-before, latch_at-gates, gate_place}
use Rattle.frame_net.proofs.PassableLaws.{gate_cases, passable-no_gate}
use Rattle.pictures.specs.Looks.{look_of, looks_by, IsViewOf}
use Rattle.pictures.specs.Pictures.{dot_text, picture}
use Rattle.pictures.specs.Views.{look_in, drawn_in, plain}
use Rattle.pictures.specs.declared.look.Look.{Look}
use Rattle.pictures.specs.declared.look.View.{View}
use Rattle.aig_graph.proofs.StreamLaws.{funext}

-- what is neither a latch nor a gate
no_latch : (g : Graph) (held : List ℕ) (v : ℕ) → latch_at g v ≡ None → is_held g held v ≡ false
no_latch g held v none = ap (λ (o : Option Latch). has held (v - first_latch g) && is_some o) none ∙ and_right (has held (v - first_latch g)) false refl

abbrev look_by : Bool → Bool → Bool → Bool → Look
look_by h f i b = record { held = h; fixed = f; inside = i; border = b }

no_look : (c : Netlist) (held : List ℕ) (set : Option (List ℕ)) (v : ℕ) → latch_at c.aig v ≡ None → gate_at c.aig v ≡ None → look_of c held set v ≡ plain
unfolding look_of in_border
no_look c held None v latch gate =
    ap₂ (λ (h p : Bool). look_by h (not p) false false) (no_latch c.aig held v latch) (passable-no_gate c.aig held v gate)
no_look c held (Some s) v latch gate =
    ap₂ (λ (h p : Bool). look_by h (not p) (is_some (gate_at c.aig v) && has s v)
    ((is_known (latch_at c.aig v) || (is_some (gate_at c.aig v) && has s v)) && (is_held c.aig held v || is_read c s v))) (no_latch c.aig held v latch) (passable-no_gate c.aig held v gate)
    ∙ ap₂ (λ (l : Option Latch) (o : Option Gate). look_by false true (is_some o && has s v)
    ((is_known l || (is_some o && has s v)) && (is_held c.aig held v || is_read c s v))) latch gate

no_gate-past : (g : Graph) (v : ℕ) → variables_end g ≤ v → gate_at g v ≡ None
no_gate-past g v h = elim (gate_cases g v) [
  | inl none ↦ none
  | inr some ↦ absurd (omega (arith, h, (gate_place g v some.0 some.1).below))
]

no_look-outside : (c : Netlist) (held : List ℕ) (set : Option (List ℕ)) (v : ℕ) → (v < first_latch c.aig) ⊎ (variables_end c.aig ≤ v) → look_of c held set v ≡ plain
no_look-outside c held set v (inl early) = no_look c held set v (latch_at-before c.aig v early) (gate_at-before c.aig v (omega (arith, early)))
no_look-outside c held set v (inr late) = no_look c held set v (latch_at-gates c.aig v (omega (arith, late))) (no_gate-past c.aig v late)

module _ (c : Netlist) (held : List ℕ) (set : Option (List ℕ)) (first : ℕ) (looks : List Look) (same : first ≡ first_latch c.aig)
    (filled : looks ≡ looks_by c.aig (look_of c held set)) where
  long : length looks ≡ latches_and_gates c.aig
  long = ap length filled ∙ length-table (first_latch c.aig) (latches_and_gates c.aig) (look_of c held set)

  entry_is : (v : ℕ) → first_latch c.aig ≤ v → get_or looks (v - first) plain ≡ look_of c held set v
  entry_is v low = elim (cases_lt v (variables_end c.aig)) [
    | inl lt ↦ (
        let here : first_latch c.aig + (v - first) ≡ v = omega (arith, same, low) in
        ap (λ (xs : List Look). get_or xs (v - first) plain) filled
        ∙ table-at (first_latch c.aig) (latches_and_gates c.aig) (look_of c held set) (v - first) plain (omega (arith, same, low, lt)) ∙ ap (look_of c held set) here)
    | inr ge ↦ get_or_past looks (v - first) plain (omega (arith, same, long, ge)) ∙ sym (no_look-outside c held set v (inr ge))
  ]

  look_is : (v : ℕ) → cond (nat_le first v) (get_or looks (v - first) plain) plain ≡ look_of c held set v
  look_is v = elim (cases_lt v (first_latch c.aig)) [
    | inl early ↦ ap (λ (b : Bool). cond b (get_or looks (v - first) plain) plain) (lt-leb first v (omega (arith, same, early))) ∙ sym (no_look-outside c held set v (inl early))
    | inr low ↦ ap (λ (b : Bool). cond b (get_or looks (v - first) plain) plain) (le-leb first v (omega (arith, same, low))) ∙ entry_is v low
  ]

module _ (c : Netlist) (held : List ℕ) (set : Option (List ℕ)) (shown : ℕ → Bool) (centre : Option (ℕ → Bool)) (view : View) (is : IsViewOf c held set shown centre view) where
  looks_are : (v : ℕ) → look_in view v ≡ look_of c held set v
  unfolding look_in
  looks_are v = look_is c held set view.first view.looks.items is.first is.looks v

  -- the text made with a view's looks and marks is the picture
  pub picture_is : dot_text (look_in view) (drawn_in view) view.centre c ≡ picture c held set shown centre
  picture_is =
      ap₂ (λ (look : ℕ → Look) (drawn : ℕ → Bool). dot_text look drawn view.centre c)
      (funext (look_in view) (look_of c held set) looks_are) (funext (drawn_in view) shown is.draws)
      ∙ ap (λ (marks : Option (List Bool)). dot_text (look_of c held set) shown marks c) is.middle

-- a view that names no variables
pub all_drawn : (view : View) → view.drawn ≡ None → (v : ℕ) → drawn_in view v ≡ true
unfolding drawn_in
all_drawn view none v = ap (λ (o : Option (List Bool)). elim o [ None ↦ true | Some marks ↦ mark_at 0 marks v ]) none

-- a view of marked variables
pub marked_drawn : (view : View) (marks : List Bool) → view.drawn ≡ Some marks → (v : ℕ) → drawn_in view v ≡ mark_at 0 marks v
unfolding drawn_in
marked_drawn view marks some v = ap (λ (o : Option (List Bool)). elim o [ None ↦ true | Some ms ↦ mark_at 0 ms v ]) some
