-- What the map gives at step 0.
use Rattle.std.proofs.Common.{ℕ, ◌/◌, ◌%◌, ◌<◌, ◌≡◌, ◌≢◌, ◌↔◌, Bool, true, false, IsTrue, not, ◌&&◌, List, length, slice_get, arith, ap, sym, ◌∙◌, subst}
use Rattle.std.proofs.Math.Bool.{not-not}
use Rattle.std.proofs.lemmas.Option.{slice_get_within}
use Rattle.std.proofs.lemmas.Bool.{both_ways, and_parts}
use Rattle.aig_graph.specs.declared.graph.Latch.{Latch}
use Rattle.aig_graph.specs.Circuits.{Netlist}
use Rattle.aig_graph.specs.Graph.{Graph, IsGraph}
use Rattle.aig_graph.specs.Value.{value_within}
use Rattle.aig_graph.proofs.KindLaws.{element}
use Rattle.state_maps.specs.States.{Digits, State}
use Rattle.state_maps.specs.MapCircuits.{FreeStay, mapped}
use Rattle.state_maps.proofs.WithinLaws.{within_laws}
use Rattle.map_circuits.specs.Growing.{Extends, IsConjunction}
use Rattle.map_circuits.proofs.GrowingLaws.{negated-value}
use Rattle.map_miters.specs.declared.images.Image.{Image}
use Rattle.map_miters.specs.Comparing.{AreEqualIn, FailsBut, SaysThat}
use Rattle.map_miters.specs.declared.leaves.Leaves.{Leaves}
use Rattle.map_miters.specs.Asking.{AreLeaves, asked_state}
use Rattle.map_miters.specs.Holding.{AreResets, Held, HoldAs, IsImage, reset_at, reset_state}
use Rattle.map_miters.proofs.HoldingLaws.{resets-hold}
use Rattle.map_miters.specs.Questions.{Begins, IsFirst}

-- outputs that are what latches hold at step 0 are a first state
firsts-say : (h d : Graph) (outputs firsts : List ℕ) (t : Held) → length outputs ≡ length d.latches → length firsts ≡ length d.latches → HoldAs h outputs t
    → HoldAs h firsts (λ z u. λ j. reset_at (t z u j) (slice_get d.latches j)) → (z : Digits) (u : State) → AreEqualIn h outputs firsts z u ↔ IsFirst d (t z u)
firsts-say h d outputs firsts t many long held first z u = (
  λ equal j latch there.
      let short : j < length d.latches = slice_get_within d.latches j latch there in
      sym (ap (reset_at (t z u j)) there) ∙ sym (first.values z u j (omega (arith, short, long))) ∙ sym (equal j (omega (arith, short, many)))
      ∙ held.values z u j (omega (arith, short, many)),
  λ is k less.
      let short : k < length d.latches = omega (arith, less, many) in
      let latch = element d.latches k short in
      held.values z u k less ∙ sym (is k latch.0 latch.1) ∙ sym (ap (reset_at (t z u k)) latch.1) ∙ sym (first.values z u k (omega (arith, short, long))),
)

-- what the latches hold at step 0, by the leaves
pub starts-hold : (g c : Graph) (leaves : Leaves) (latches : List Latch) (own lits : List ℕ) → IsGraph g → AreLeaves g c leaves → latches ≡ c.latches → own ≡ leaves.latches.items
    → AreResets latches own lits → HoldAs g lits (λ z u. reset_state c (asked_state c z u))
starts-hold g c leaves latches own lits valid p of_latches of_own resets =
    let here : AreResets c.latches leaves.latches.items lits =
    subst (λ (ls : List Latch). AreResets ls leaves.latches.items lits) of_latches (subst (λ (ls : List ℕ). AreResets latches ls lits) of_own resets) in
    resets-hold g valid c.latches leaves.latches.items lits (asked_state c) p.long here p.latches

-- what the latches of the second circuit hold at step 0, by what the map gives
pub firsts-hold : (g : Graph) (d m : Netlist) (t : Held) (image : Image) (latches : List Latch) (own lits : List ℕ) → IsGraph g → IsImage g m t image → length m.props.outputs ≡ length d.aig.latches
    → latches ≡ d.aig.latches → own ≡ image.outputs.items → AreResets latches own lits → HoldAs g lits (λ z u. λ j. reset_at (mapped m (t z u) j) (slice_get d.aig.latches j))
firsts-hold g d m t image latches own lits valid p many of_latches of_own resets =
    let here : AreResets d.aig.latches image.outputs.items lits =
    subst (λ (ls : List Latch). AreResets ls image.outputs.items lits) of_latches (subst (λ (ls : List ℕ). AreResets latches ls lits) of_own resets) in
    resets-hold g valid d.aig.latches image.outputs.items lits (λ z u. mapped m (t z u)) (p.many ∙ many) here p.outputs

module _ (c d m : Netlist) (s : Held) where
  -- if the free latches stay, the negation of what says the rest
  pub begins-says : (h1 h2 h3 : Graph) (image : Image) (firsts : List ℕ) (equal begins other : ℕ) → length m.props.outputs ≡ length d.aig.latches → length firsts ≡ length d.aig.latches
      → IsImage h1 m (λ z u. reset_state c.aig (s z u)) image
      → HoldAs h1 firsts (λ z u. λ j. reset_at (mapped m (reset_state c.aig (s z u)) j) (slice_get d.aig.latches j))
      → SaysThat h2 equal (AreEqualIn h1 image.outputs.items firsts) → Extends h1 h2 → Extends h2 h3 → IsConjunction h3 image.kept equal begins
      → other / 2 ≡ begins / 2 → other % 2 ≢ begins % 2 → FreeStay c d m → FailsBut h3 other (λ z u. Begins c d m (s z u))
  begins-says h1 h2 h3 image firsts equal begins other many long is held says one two conjunction same sign stay = record {
    within = omega (arith, conjunction.within, same);
    is = λ z u.
        let t : Held = λ z u. mapped m (reset_state c.aig (s z u)) in
        let first = firsts-say h1 d.aig image.outputs.items firsts t (is.many ∙ many) long is.outputs held z u in
        let turned : value_within h3 z u other ≡ not (value_within h3 z u begins) = negated-value h3 two.graph z u begins other same sign in
        let kept : value_within h3 z u image.kept ≡ value_within h1 z u image.kept =
        two.values z u image.kept (one.literals image.kept is.within) ∙ one.values z u image.kept is.within in
        let same_equal : value_within h3 z u equal ≡ value_within h2 z u equal = two.values z u equal says.within in (
          λ e.
              let yes : value_within h3 z u begins ≡ true = sym (not-not (value_within h3 z u begins)) ∙ ap not (sym turned ∙ e) in
              let parts = and_parts (value_within h3 z u image.kept) (value_within h3 z u equal) (sym (conjunction.is z u) ∙ yes) in
              record {
                free = stay;
                kept = (is.kept z u).0 (sym kept ∙ parts.0);
                first = first.0 ((says.is z u).0 (sym same_equal ∙ parts.1));
              },
          λ has.
              let left : value_within h3 z u image.kept ≡ true = kept ∙ (is.kept z u).1 has.kept in
              let right : value_within h3 z u equal ≡ true = same_equal ∙ (says.is z u).1 (first.1 has.first) in
              let yes : value_within h3 z u begins ≡ true = conjunction.is z u ∙ ap (λ (b : Bool). b && value_within h3 z u equal) left ∙ right in
              turned ∙ ap not yes,
        );
  }

  -- it stays, by the tests
  pub stays : (b : Bool) → IsTrue b ↔ FreeStay c d m → b ≡ true → FreeStay c d m
  stays b is holds = is.0 holds

  -- if the answer of the tests is false, the free latches don't stay
  pub stays-not : (b : Bool) → IsTrue b ↔ FreeStay c d m → b ≡ false → FreeStay c d m → ⊥
  stays-not b is fails stay = both_ways b fails (is.1 stay)

  -- if they don't, the constant 1
  pub never-begins : (h : Graph) → IsGraph h → (lit : ℕ) → lit ≡ 1 → (FreeStay c d m → ⊥) → FailsBut h lit (λ z u. Begins c d m (s z u))
  never-begins h valid lit one fails = record {
    within = omega (arith, one);
    is = λ z u.
        let value : value_within h z u lit ≡ true = ap (value_within h z u) one ∙ (within_laws h valid z u).negation 0 ∙ ap not (within_laws h valid z u).constant in
        (λ e. absurd (both_ways (value_within h z u lit) e value), λ has. absurd (fails has.free));
  }
