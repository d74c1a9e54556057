-- Every retiming has a state map.
use Rattle.std.proofs.Common.{ℕ, ◌+◌, ◌<◌, ◌≤◌, ◌≡◌, suc, zero, map, Bool, true, false, ◌&&◌, Option, Some, slice_get, get_or, List, [], ◌∷◌, refl, arith, ap, sym, ◌∙◌, subst, zero-add}
use Rattle.std.specs.List.{All, range_with_len}
use Rattle.std.specs.Bool.{IsTrue}
use Rattle.std.proofs.lemmas.Bool.{and_from, and_parts}
use Rattle.std.proofs.lemmas.Option.{none-some, same_Some}
use Rattle.std.proofs.lemmas.List.FromFn.{get_or-range_with_len}
use Rattle.aig_graph.specs.declared.graph.Latch.{Latch}
use Rattle.aig_graph.specs.declared.literal.TheConstants.{MAX_VARIABLES}
use Rattle.aig_graph.specs.Circuits.{Netlist}
use Rattle.aig_graph.specs.Closed.{IsClosedSet}
use Rattle.aig_graph.specs.Graph.{Graph, IsGraph, free_latches, variables_end}
use Rattle.aig_graph.specs.Laws.{all_free, composed}
use Rattle.aig_graph.specs.Move.{Move, move_of}
use Rattle.aig_graph.specs.Streams.{AreKept, SameStreams}
use Rattle.aig_graph.specs.Value.{value_within}
use Rattle.aig_graph.proofs.GraphLaws.{room}
use Rattle.aig_graph.specs.declared.choice.Choice.{Choice}
use Rattle.cleaned_circuits.specs.Cleaned.{IsPass, Cleans, unchanged, after_pass}
use Rattle.cleaned_circuits.specs.Latches.{latch_substitute}
use Rattle.cleaned_circuits.specs.Merged.{merged_of}
use Rattle.cleaned_circuits.proofs.LatchLaws.{stands_for, by_constant, by_itself, by_earlier}
use Rattle.cleaned_circuits.proofs.PassLaws.{IsCircuit, IsCircuit-pass, IsCircuit-cleans, cleans-streams}
use Rattle.rebuild.specs.Moved.{moved_graph, moved_of}
use Rattle.rebuild.proofs.FreeLaws.{moved-free, moved-room}
use Rattle.retimed_circuits.specs.declared.report.FrameReport.{FrameReport}
use Rattle.retimed_circuits.proofs.CircuitLaws.{moved-circuit}
use Rattle.retimed_circuits.proofs.FoundLaws.{found-closed}
use Rattle.retimed_circuits.specs.Frames.{AfterFrames, IsFrame, cleaned, count_over, frame, held_over}
use Rattle.aig_graph.proofs.ListLaws.{map-same}
use Rattle.state_maps.specs.States.{Digits, IsStateMap, State}
use Rattle.state_maps.specs.CleanedStates.{SubstitutesHold, trimmed_state}
use Rattle.state_maps.specs.MovedStates.{moved_state}
use Rattle.state_maps.specs.RetimedStates.{HasStateMap, RetimingMaps, agrees, substitute_right}
use Rattle.state_maps.proofs.MapLaws.{maps-compose, moving-maps}
use Rattle.state_maps.proofs.PassStepLaws.{cleaning-maps, constant-within}
use Rattle.state_maps.proofs.WithinLaws.{within_laws}

-- bits that agree are equal
pub agrees-is : (a b : Bool) → agrees a b ≡ true → a ≡ b
agrees-is true b e = sym e
agrees-is false true e = absurd (cc)
agrees-is false false e = refl

-- equal bits agree
pub is-agrees : (a b : Bool) → a ≡ b → agrees a b ≡ true
is-agrees true true e = refl
is-agrees true false e = absurd (cc)
is-agrees false true e = absurd (cc)
is-agrees false false e = refl

-- what stands for the latches, as a test
module _ (g : Graph) (held : List ℕ) (s : State) where
  abbrev substitute : ℕ → Latch → Bool
  substitute j latch = value_within g (λ i. false) s (latch_substitute g held j (Some latch))

  from-test : (n : ℕ) (latches : List Latch) → substitute_right g held s n latches ≡ true → (k : ℕ) (latch : Latch) → slice_get latches k ≡ Some latch → substitute (n + k) latch ≡ s (n + k)
  unfolding substitute_right
  from-test n [] e k latch there = absurd (none-some latch there)
  from-test n (l ∷ ls) e zero latch there =
      let here : n + 0 ≡ n = omega arith in
      let parts = and_parts (agrees (substitute n l) (s n)) (substitute_right g held s (suc n) ls) e in
      let same : l ≡ latch = same_Some l latch there in
      ap (λ (j : ℕ). substitute j latch) here ∙ ap (substitute n) (sym same) ∙ agrees-is (substitute n l) (s n) parts.0 ∙ ap s (sym here)
  from-test n (l ∷ ls) e (suc k) latch there =
      let place : suc n + k ≡ n + suc k = omega arith in
      let parts = and_parts (agrees (substitute n l) (s n)) (substitute_right g held s (suc n) ls) e in
      subst (λ (j : ℕ). substitute j latch ≡ s j) place (from-test (suc n) ls parts.1 k latch there)

  to-test : (n : ℕ) (latches : List Latch) → ((k : ℕ) (latch : Latch) → slice_get latches k ≡ Some latch → substitute (n + k) latch ≡ s (n + k)) → substitute_right g held s n latches ≡ true
  unfolding substitute_right
  to-test n [] each = refl
  to-test n (l ∷ ls) each =
      let here : n + 0 ≡ n = omega arith in
      and_from (agrees (substitute n l) (s n)) (substitute_right g held s (suc n) ls)
      (is-agrees (substitute n l) (s n) (subst (λ (j : ℕ). substitute j l ≡ s j) here (each 0 l refl)))
      (to-test (suc n) ls (λ k latch there. let place : n + suc k ≡ suc n + k = omega arith in subst (λ (j : ℕ). substitute j latch ≡ s j) place (each (suc k) latch there)))

  -- a literal that stands for a latch has its value whatever comes in
  pub substitute-steady : IsGraph g → (x : Digits) (j : ℕ) (latch : Latch) → slice_get g.latches j ≡ Some latch → value_within g x s (latch_substitute g held j (Some latch)) ≡ substitute j latch
  substitute-steady valid x j latch there =
      let one = within_laws g valid x s in
      let two = within_laws g valid (λ i. false) s in
      elim (stands_for g held j latch) [
        | by_constant constant_latch e ↦ ap (value_within g x s) e ∙ constant-within g x (λ i. false) s s valid latch.reset ∙ sym (ap (value_within g (λ i. false) s) e)
        | by_itself moving e ↦ ap (value_within g x s) e ∙ one.latch j latch there ∙ sym (two.latch j latch there) ∙ sym (ap (value_within g (λ i. false) s) e)
        | by_earlier i less first duplicate known apart e ↦ ap (value_within g x s) e ∙ one.latch i duplicate.other duplicate.there ∙ sym (two.latch i duplicate.other duplicate.there) ∙ sym (ap (value_within g (λ i. false) s) e)
      ]

  -- if the test of all latches passes, what stands for each latch is what the latch holds
  pub test-holds : IsGraph g → substitute_right g held s 0 g.latches ≡ true → SubstitutesHold g held s
  test-holds valid e x j latch there =
      let place : 0 + j ≡ j = omega arith in
      substitute-steady valid x j latch there ∙ subst (λ (k : ℕ). substitute k latch ≡ s k) place (from-test 0 g.latches e j latch there)

  -- if what stands for each latch is what the latch holds, the test of all latches passes
  pub holds-test : SubstitutesHold g held s → substitute_right g held s 0 g.latches ≡ true
  holds-test holds = to-test 0 g.latches (λ k latch there. let place : k ≡ 0 + k = omega arith in subst (λ (j : ℕ). substitute j latch ≡ s j) place (holds (λ i. false) k latch there))

-- a map depends on any test that is equivalent
pub restated : (c d : Netlist) (kept : List ℕ) (holds other : State → Type 0) (to : State → State) → ((s : State) → holds s → other s) → ((s : State) → other s → holds s)
    → IsStateMap c d kept holds to → IsStateMap c d kept other to
restated c d kept holds other to there back p = record {
  holds_first = λ f. there _ (p.holds_first f);
  first = p.first;
  keeps = λ x s h. there _ (p.keeps x s (back s h));
  steps = λ x s h. p.steps x s (back s h);
  reads = λ x s h. p.reads x s (back s h);
}

pass-has : (held : List ℕ) (c d : Netlist) (kept still_held : List ℕ) → IsCircuit c → IsPass held c d kept still_held → HasStateMap c d kept
pass-has held c d kept still_held valid pass = (
  λ s. substitute_right c.aig held s 0 c.aig.latches,
  trimmed_state (merged_of held c).aig pass.reached,
  restated c d kept (SubstitutesHold c.aig held) (λ s. IsTrue (substitute_right c.aig held s 0 c.aig.latches)) (trimmed_state (merged_of held c).aig pass.reached)
      (λ s h. holds-test c.aig held s h) (λ s h. test-holds c.aig held s valid.graph h) (cleaning-maps held c d kept still_held valid.graph valid.netlist pass),
)

compose-has : (c d e : Netlist) (kept left : List ℕ) → IsGraph e.aig → AreKept d e left → HasStateMap c d kept → HasStateMap d e left → HasStateMap c e (composed kept left)
compose-has c d e kept left valid places p q = (
  λ s. p.0 s && q.0 (p.1 s),
  λ s. q.1 (p.1 s),
  restated c e (composed kept left) (λ s. IsTrue (p.0 s) × IsTrue (q.0 (p.1 s))) (λ s. IsTrue (p.0 s && q.0 (p.1 s))) (λ s. q.1 (p.1 s))
      (λ s both. and_from (p.0 s) (q.0 (p.1 s)) both.0 both.1) (λ s h. and_parts (p.0 s) (q.0 (p.1 s)) h)
      (maps-compose c d e kept left (λ s. IsTrue (p.0 s)) (λ s. IsTrue (q.0 s)) p.1 q.1 valid places p.2 q.2),
)

-- what a circuit is cleaned to has a map of its states
pub cleans-has : (d : Netlist) (held : List ℕ) (c : Netlist) (kept : List ℕ) → Cleans d held c kept → IsCircuit c → HasStateMap c d kept
cleans-has d _ _ _ (unchanged held c kept pass same) valid = let P : Netlist → Type 0 = λ e. HasStateMap c e kept in subst P (sym same) (pass-has held c c kept held valid pass)
cleans-has d _ _ _ (after_pass held c e first second still_held pass other rest) valid =
    let whole : IsCircuit e = IsCircuit-pass held c e first still_held valid pass in
    let left : IsCircuit d = IsCircuit-cleans d still_held e second rest whole in
    let streams : SameStreams e d second = cleans-streams d still_held e second rest whole in
    compose-has c e d first second left.graph streams.places (pass-has held c e first still_held valid pass) (cleans-has d still_held e second rest whole)

-- if all free latches stay, those that are left are equal
composed-same : (n : ℕ) (left : List ℕ) → All (λ place. place < n) left → composed (range_with_len 0 n) left ≡ left
composed-same n left below =
    map-same (λ place. place < n) (λ place. get_or (range_with_len 0 n) place 0) (λ place. place) (λ place h. get_or-range_with_len 0 n place 0 h ∙ zero-add place) left below ∙ map-own left
  where
    map-own : (xs : List ℕ) → map (λ x. x) xs ≡ xs
    map-own [] = refl
    map-own (x ∷ xs) = ap (λ (ys : List ℕ). x ∷ ys) (map-own xs)

module _ (bound : Option ℕ) (choice : Choice) where
  record Framed (d e : Netlist) (left : List ℕ) : Type 0 where
    circuit : IsCircuit e
    places : AreKept d e left
    has : HasStateMap d e left

  frame-has : (held : List ℕ) (d e : Netlist) (left now : List ℕ) (report : FrameReport) → IsCircuit d → IsFrame bound choice held d e left now report → Framed d e left
  frame-has held d e left now report valid f =
      let m : Move = move_of d held f.set in
      let there : List ℕ = held_over held d f.set in
      let set : IsClosedSet d.aig held f.set = found-closed bound choice held d f.set f.helps.found in
      let small : variables_end (moved_graph m) ≤ MAX_VARIABLES = moved-room m set (room d.aig (count_over held d f.set) valid.graph (omega (arith, f.helps.fewer))) in
      let moved : IsCircuit (moved_of m) = moved-circuit held d f.set valid set f.helps.fewer in
      let over : HasStateMap d (moved_of m) (all_free d.aig) =
      (λ s. true, moved_state m, restated d (moved_of m) (all_free d.aig) (λ s. Unit {0}) (λ s. IsTrue true) (moved_state m) (λ s h. refl) (λ s h. tt) (moving-maps m valid.graph valid.netlist set small)) in
      let streams : SameStreams (moved_of m) e left = cleans-streams e there (moved_of m) left f.cleaned.cleans moved in
      let last : IsCircuit e = IsCircuit-cleans e there (moved_of m) left f.cleaned.cleans moved in
      let below : All (λ place. place < free_latches d.aig) left = λ k a h.
      let here : get_or left k a < free_latches (moved_of m).aig = streams.places.below k a h in
      omega (arith, here, moved-free m set) in
      let P : List ℕ → Type 0 = λ places. HasStateMap d e places in
      record {
        circuit = last;
        places = record { rising = streams.places.rising; below = below; each = streams.places.each };
        has = subst P (composed-same (free_latches d.aig) left below)
            (compose-has d (moved_of m) e (all_free d.aig) left last.graph streams.places over (cleans-has e there (moved_of m) left f.cleaned.cleans moved));
      }

  record Retimed (c d : Netlist) (kept : List ℕ) : Type 0 where
    circuit : IsCircuit d
    has : HasStateMap c d kept

  frames-have : (held : List ℕ) (c : Netlist) → IsCircuit c → (n : ℕ) (d : Netlist) (kept now : List ℕ) (reports : List FrameReport) → AfterFrames bound choice held c n d kept now reports → Retimed c d kept
  frames-have held c valid _ _ _ _ _ (cleaned d kept now cleans) = record { circuit = IsCircuit-cleans d held c kept cleans.cleans valid; has = cleans-has d held c kept cleans.cleans valid }
  frames-have held c valid _ _ _ _ _ (frame n d e kept left now later reports report before f) =
      let so_far : Retimed c d kept = frames-have held c valid n d kept now reports before in
      let one : Framed d e left = frame-has now d e left later report so_far.circuit f in
      record { circuit = one.circuit; has = compose-has c d e kept left one.circuit.graph one.places so_far.has one.has }

-- so has what a circuit is retimed to
pub retiming-maps : (bound : Option ℕ) (choice : Choice) (held : List ℕ) (c : Netlist) (n : ℕ) (d : Netlist) (kept now : List ℕ) (reports : List FrameReport) → RetimingMaps bound choice held c n d kept now reports
retiming-maps bound choice held c n d kept now reports valid netlist frames = (frames-have bound choice held c (record { graph = valid; netlist = netlist }) n d kept now reports frames).has
