-- What is closed and chosen in a bounded circuit is what is closed and chosen within the bound.
use Rattle.std.proofs.Common.{ℕ, ◌≤◌, ◌≡◌, ◌∙◌, inl, inr, Bool, true, false, List, Some, refl, sym, ap, subst, arith}
use Rattle.std.specs.Prelude.{◌↔◌}
use Rattle.std.specs.List.{Contains}
use Rattle.std.proofs.lemmas.Bool.{cases_Bool}
use Rattle.std.proofs.lemmas.Option.{none-some}
use Rattle.aig_graph.specs.declared.graph.Gate.{Gate}
use Rattle.aig_graph.specs.declared.choice.Choice.{Choice}
use Rattle.aig_graph.specs.declared.choice.Choice.TheVariants.{Greatest, Smallest}
use Rattle.aig_graph.specs.Graph.{Graph, IsGraph, variable}
use Rattle.aig_graph.specs.Circuits.{Netlist}
use Rattle.aig_graph.specs.Closed.{IsClosed, IsClosedSet, MayMoveOrIn, RestsOn}
use Rattle.aig_graph.specs.Move.{move_of}
use Rattle.aig_graph.specs.Border.{border_size, IsLeast}
use Rattle.aig_graph.specs.Chosen.{IsChosen}
use Rattle.aig_graph.proofs.FoldingLaws.{gate_at-before}
use Rattle.aig_graph.proofs.KindLaws.{latch_at-before}
use Rattle.aig_graph.proofs.ClosedLaws.{closed-from_rests, rests-from_closed, movable-latch}
use Rattle.aig_graph.proofs.SearchLaws.{has_iff_contains}
use Rattle.frame_net.proofs.PassableLaws.{passable-means}
use Rattle.path_levels.specs.Arrivals.{IsClosedWithin, IsLeastWithin, IsChosenWithin}
use Rattle.path_levels.specs.Bounded.{is_barred, gate_left, with_barred, bounded, NoneBarred, BoundedLaws}
use Rattle.path_levels.proofs.BarringLaws.{variables-left, gate_at-left, gate_at-before_barring, graph-left, netlist-left}
use Rattle.path_levels.proofs.BarredBorderLaws.{border-left}
use Rattle.path_levels.proofs.UnbarredLaws.{early-unbarred, unbarred-early, passable-left}

-- no member of the set is barred
abbrev Apart : (ℕ → Bool) → List ℕ → Type 0
Apart test s = (v : ℕ) → Contains s v → test v ≡ false

module _ (test : ℕ → Bool) (c : Netlist) (held : List ℕ) (valid : IsGraph c.aig) (s : List ℕ) where
  -- neither a latch nor a gate is the constant
  constant-apart : IsClosed (with_barred test c).aig held s → MayMoveOrIn (with_barred test c).aig held s 0 → ⊥
  constant-apart closed (inl movable) =
      let latch = movable-latch c.aig held 0 movable in
      absurd (none-some latch.0 (sym (latch_at-before c.aig 0 (omega arith)) ∙ latch.1))
  constant-apart closed (inr member) =
      let pass = closed.passable 0 member in
      absurd (none-some pass.0 (sym (gate_at-before (with_barred test c).aig 0 (omega arith)) ∙ pass.1))

  -- a member of a set that is closed with barred gates is none of them, and reads what it read
  -- without them
  rests-before : IsClosed (with_barred test c).aig held s → (v : ℕ) → Contains s v → (test v ≡ false) × RestsOn c.aig held s v
  unfolding RestsOn
  rests-before closed v member =
      let rest = rests-from_closed (with_barred test c).aig held (graph-left test c.aig valid) s closed v member in
      let was = gate_at-before_barring test c.aig v rest.0 rest.1 in
      elim (cases_Bool (test v)) [
        | inl barred ↦ (
            let constant : rest.0 ≡ gate_left true was.0 = was.2 ∙ ap (λ (b : Bool). gate_left b was.0) barred in
            absurd (constant-apart closed (subst (λ (x : Gate). MayMoveOrIn (with_barred test c).aig held s (variable x.rhs0)) constant rest.2)))
        | inr free ↦ (
            let same : rest.0 ≡ was.0 = was.2 ∙ ap (λ (b : Bool). gate_left b was.0) free in (
              free,
              (
                was.0,
                was.1,
                subst (λ (x : Gate). MayMoveOrIn c.aig held s (variable x.rhs0)) same rest.2,
                subst (λ (x : Gate). MayMoveOrIn c.aig held s (variable x.rhs1)) same rest.3,
              ),
            ))
      ]

  rests-after : IsClosed c.aig held s → Apart test s → (v : ℕ) → Contains s v → RestsOn (with_barred test c).aig held s v
  unfolding RestsOn
  rests-after closed apart v member =
      let rest = rests-from_closed c.aig held valid s closed v member in
      (rest.0, gate_at-left test c.aig v rest.0 rest.1 ∙ ap (λ (b : Bool). Some (gate_left b rest.0)) (apart v member), rest.2, rest.3)

  -- a set is closed with barred gates if and only if it is closed and none of its members is barred
  closed-before : IsClosedSet (with_barred test c).aig held s → IsClosedSet c.aig held s × Apart test s
  closed-before set = (
    record { rising = set.rising; closed = closed-from_rests c.aig held valid s (λ v member. (rests-before set.closed v member).1) },
    (λ v member. (rests-before set.closed v member).0),
  )

  closed-after : IsClosedSet c.aig held s → Apart test s → IsClosedSet (with_barred test c).aig held s
  closed-after set apart = record {
    rising = set.rising;
    closed = closed-from_rests (with_barred test c).aig held (graph-left test c.aig valid) s (rests-after set.closed apart);
  }

module _ (bound : ℕ) (g : Graph) (held : List ℕ) where
  -- of a closed set all gates arrive within the bound if and only if none is barred
  within-apart : (s : List ℕ) → IsClosedSet g held s → Apart (is_barred bound g held) s → IsClosedWithin bound g held s
  within-apart s set apart = record { closed = set; within = λ v member. early-unbarred bound g held v ((passable-means g held v).1 (set.closed.passable v member)) (apart v member) }

  apart-within : (s : List ℕ) → IsClosedWithin bound g held s → Apart (is_barred bound g held) s
  apart-within s set = λ v member. unbarred-early bound g held v (set.within v member)

module _ (bound : ℕ) (held : List ℕ) (c d : Netlist)
    (closed : (s : List ℕ) → IsClosedSet d.aig held s ↔ IsClosedWithin bound c.aig held s)
    (border : (s : List ℕ) → IsClosedWithin bound c.aig held s → border_size (move_of d held s) ≡ border_size (move_of c held s)) where
  least-there : (s : List ℕ) → IsLeast d held s → IsLeastWithin bound c held s
  least-there s it =
      let set : IsClosedWithin bound c.aig held s = (closed s).0 it.closed in
      record {
        closed = set;
        least = λ r other. let less : border_size (move_of d held s) ≤ border_size (move_of d held r) = it.least r ((closed r).1 other) in
            omega (arith, less, border s set, border r other);
      }

  least-back : (s : List ℕ) → IsLeastWithin bound c held s → IsLeast d held s
  least-back s it = record {
    closed = (closed s).1 it.closed;
    least = λ r other. let within : IsClosedWithin bound c.aig held r = (closed r).0 other in
        let less : border_size (move_of c held s) ≤ border_size (move_of c held r) = it.least r within in
        omega (arith, less, border s it.closed, border r within);
  }

  -- a circuit whose closed sets are those of another within a bound, with equal borders, has its
  -- sets chosen
  pub chosen-same : (choice : Choice) (s : List ℕ) → IsChosen choice d held s ↔ IsChosenWithin bound choice c held s
  chosen-same Greatest s = (
    (λ it. record { least = least-there s it.least; holds = λ r other v member. it.holds r (least-back r other) v member }),
    (λ it. record { least = least-back s it.least; holds = λ r other v member. it.holds r (least-there r other) v member }),
  )
  chosen-same Smallest s = (
    (λ it. record { least = least-there s it.least; within = λ r other v member. it.within r (least-back r other) v member }),
    (λ it. record { least = least-back s it.least; within = λ r other v member. it.within r (least-there r other) v member }),
  )

module _ (bound : ℕ) (held : List ℕ) (c : Netlist) (valid : IsGraph c.aig) where
  closed-within : (s : List ℕ) → IsClosedSet (bounded bound held c).aig held s ↔ IsClosedWithin bound c.aig held s
  unfolding bounded
  closed-within s = (
    (λ set. let before = closed-before (is_barred bound c.aig held) c held valid s set in within-apart bound c.aig held s before.0 before.1),
    (λ set. closed-after (is_barred bound c.aig held) c held valid s set.closed (apart-within bound c.aig held s set)),
  )

  border-within : (s : List ℕ) → IsClosedWithin bound c.aig held s → border_size (move_of (bounded bound held c) held s) ≡ border_size (move_of c held s)
  unfolding bounded
  border-within s set = border-left (is_barred bound c.aig held) c held s (λ v member. apart-within bound c.aig held s set v ((has_iff_contains s v).0 member))

  closed-unbarred : NoneBarred bound c.aig held → (s : List ℕ) → IsClosedSet c.aig held s ↔ IsClosedWithin bound c.aig held s
  closed-unbarred none s = ((λ set. within-apart bound c.aig held s set (λ v member. none v)), (λ set. set.closed))

-- the law of a bounded circuit
pub bounded-law : BoundedLaws
unfolding bounded
bounded-law bound held c valid netlist = record {
  graph = graph-left (is_barred bound c.aig held) c.aig valid;
  netlist = netlist-left (is_barred bound c.aig held) c valid netlist;
  variables = variables-left (is_barred bound c.aig held) c.aig;
  known = refl;
  passable = passable-left bound c.aig held valid;
  closed = closed-within bound held c valid;
  border = border-within bound held c valid;
  chosen = chosen-same bound held c (bounded bound held c) (closed-within bound held c valid) (border-within bound held c valid);
  unbarred = λ none. chosen-same bound held c c (closed-unbarred bound held c valid none) (λ s set. refl);
}
