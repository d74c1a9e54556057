-- What is shown of a block's sequences is what the trace of all has.
use Rattle.std.proofs.Common.{ℕ, ◌+◌, ◌*◌, ◌/◌, ◌%◌, ◌<◌, ◌≤◌, ◌≡◌, ◌≢◌, Bool, ◌++◌, ◌∷◌, [], zero, suc, true, false, cond, nat_lt, min, List, Option, None, length, map, drop, get_or, get_or-set_other, get_or-set_same, slice_get, refl, arith, ap, sym, ◌∙◌, subst}
use Rattle.std.specs.List.{flat_map, range_with_len, slice_set}
use Rattle.std.proofs.lemmas.Bool.{ltb-true, ltb-false}
use Rattle.std.proofs.lemmas.List.{get_or-map, get_or_default, length-drop, length-map, length-set, length-take}
use Rattle.std.proofs.lemmas.List.Concat.{flat_map-append}
use Rattle.std.proofs.lemmas.List.FromFn.{length-range_with_len}
use Rattle.std.proofs.lemmas.Simd.{get_or-chunk}
use Rattle.counted_io.specs.Buffered.{Puts}
use Rattle.counted_io.specs.Output.{Output}
use Rattle.counted_io.specs.declared.buffered.Buffered.{Buffered}
use Rattle.counted_io.proofs.BufferedLaws.{puts-then}
use Rattle.aig_graph.specs.Circuits.{Netlist}
use Rattle.aig_graph.specs.Streams.{property_literals}
use Rattle.lane_sim.specs.declared.stimulus.InputSequence.{InputSequence}
use Rattle.lane_sim.specs.Blocks.{block_of, in_lane}
use Rattle.lane_sim.specs.Traces.{at_place, row_of, trace, value_in}
use Rattle.lane_sim.proofs.DifferenceLaws.{at_no_step, at_step}
use Rattle.lane_sim.specs.Steps.{AreAt, AreFor}
use Rattle.lane_sim.specs.declared.steps.State.{State}
use Rattle.lane_sim.specs.declared.steps.Values.{Values}
use Rattle.aig_graph.specs.Graph.{Graph}
use Rattle.reports.specs.declared.waves.moment.Moment.{Moment}
use Rattle.reports.specs.declared.waves.room.WaveRoom.{WaveRoom}
use Rattle.reports.specs.waves.Moments.{HasStates, shown_of, trace_of}

-- the sequence of a number, in its lane of its block
pub in_part : (sequences : List InputSequence) (s : ℕ) → in_lane (block_of sequences (s / 256)) (s % 256) ≡ in_lane sequences s
in_part sequences s =
    let empty : InputSequence = record { choice = []; steps = [] } in
    let place : 256 * (s / 256) + s % 256 ≡ s = omega arith in
    get_or-chunk (256 * (s / 256)) 256 sequences (s % 256) empty (omega arith) ∙ ap (λ (n : ℕ). get_or sequences n empty) place

-- what is shown of a sequence stands in the trace
pub shown-at_place : (c : Netlist) (sequences : List InputSequence) (literals : List ℕ) (s t p : ℕ) → s < length sequences → literals ≡ property_literals c.props
    → shown_of c.aig (in_lane sequences s) literals t p ≡ at_place (trace c sequences) s t p
shown-at_place c sequences literals s t p inside are =
    let run : InputSequence = in_lane sequences s in
    let row : List ℕ → Option Bool = λ lits. slice_get (map (value_in c.aig run t) lits) p in
    elim (nat_lt t (length run.steps)) as (λ b. nat_lt t (length run.steps) ≡ b → cond b (row literals) None ≡ at_place (trace c sequences) s t p) [
      | true ↦ λ e. ap row are ∙ sym (at_step c sequences s t p inside (ltb-true t (length run.steps) e))
      | false ↦ λ e. sym (at_no_step c sequences s t p inside (ltb-false t (length run.steps) e))
    ] refl

-- there are as many sequences in the trace
pub trace-length : (c : Netlist) (sequences : List InputSequence) → length (trace c sequences) ≡ length sequences
unfolding trace
trace-length c sequences = length-map sequences (λ s. map (row_of c s) (range_with_len 0 (length s.steps)))

-- and each has its steps
pub trace-steps : (c : Netlist) (sequences : List InputSequence) (s : ℕ) (run : InputSequence) → s < length sequences → run ≡ get_or sequences s run
    → length (get_or (trace c sequences) s []) ≡ length run.steps
unfolding trace
trace-steps c sequences s run inside is =
    ap length (get_or-map (λ r. map (row_of c r) (range_with_len 0 (length r.steps))) sequences s run [] inside)
    ∙ length-map (range_with_len 0 (length (get_or sequences s run).steps)) (row_of c (get_or sequences s run)) ∙ length-range_with_len 0 (length (get_or sequences s run).steps)
    ∙ ap (λ (r : InputSequence). length r.steps) (sym is)

-- how many sequences a block has
pub block-length : (sequences : List InputSequence) (b : ℕ) → 256 * b ≤ length sequences → min (256 * b) (length sequences) + length (block_of sequences b) ≡ min (256 * (b + 1)) (length sequences)
block-length sequences b within = omega (arith, within, length-take 256 (drop (256 * b) sequences), length-drop (256 * b) sequences)

-- numbers, and those after them
pub range-then : (first m n : ℕ) → range_with_len first (m + n) ≡ range_with_len first m ++ range_with_len (first + m) n
range-then first zero n = let none : 0 + n ≡ n = omega arith in let here : first ≡ first + 0 = omega arith in ap (range_with_len first) none ∙ ap (λ (k : ℕ). range_with_len k n) here
range-then first (suc m) n =
    let more : suc m + n ≡ suc (m + n) = omega arith in
    let shift : first + 1 + m ≡ first + suc m = omega arith in
    ap (range_with_len first) more ∙ ap (λ ks. first ∷ ks) (range-then (first + 1) m n ∙ ap (λ (k : ℕ). range_with_len (first + 1) m ++ range_with_len k n) shift)

-- a value that is looked for in the lane of a sequence stands in the trace
pub shown-is : (m : Moment) (values : Values) (s t p : ℕ) (run : InputSequence) (result : Option Bool) → m.literals.now ≡ property_literals m.circuit.now.props
    → s < length m.sequences.now → run ≡ get_or m.sequences.now s run
    → ((g : Graph) (sequences : List InputSequence) → AreAt g sequences values t → in_lane sequences (s % 256) ≡ run → result ≡ shown_of g run m.literals.now t p)
    → AreAt m.circuit.now.aig (block_of m.sequences.now (s / 256)) values t → result ≡ at_place (trace_of m) s t p
shown-is m values s t p run result literals inside is found at =
    let sequences = m.sequences.now in
    let same : run ≡ in_lane sequences s = is ∙ get_or_default sequences s run (record { choice = []; steps = [] }) inside in
    found m.circuit.now.aig (block_of sequences (s / 256)) at (in_part sequences s ∙ sym same)
    ∙ ap (λ (r : InputSequence). shown_of m.circuit.now.aig r m.literals.now t p) same
    ∙ shown-at_place m.circuit.now sequences m.literals.now s t p inside literals

-- one block more has come to its state
pub one-more_block : (c : Netlist) (sequences : List InputSequence) (Done Waiting : ℕ → State → Type 0) (n : ℕ) (old new : WaveRoom) (state : State) → HasStates c sequences Done Waiting n old
    → n < length old.states.items → new.literals.items ≡ old.literals.items → new.states.items ≡ slice_set old.states.items n state → AreFor c.aig new.before → AreFor c.aig new.values
    → Done n state → HasStates c sequences Done Waiting (n + 1) new
one-more_block c sequences Done Waiting n old new state held inside literals states before values come =
    let xs = old.states.items in
    let long : length new.states.items ≡ length xs = ap length states ∙ length-set xs n state in
    record {
      literals = literals ∙ held.literals;
      before = before;
      values = values;
      many = long ∙ held.many;
      done = λ b d below within.
          let P : List State → Type 0 = λ ys. Done b (get_or ys b d) in
          subst P (sym states) (elim (nat_lt b n) as (λ x. nat_lt b n ≡ x → P (slice_set xs n state)) [
            | true ↦ λ e.
                let earlier : b < n = ltb-true b n e in
                let apart : b ≢ n = omega (arith, earlier) in
                subst (Done b) (sym (get_or-set_other xs n b state d apart)) (held.done b d earlier (omega (arith, within, long)))
            | false ↦ λ e.
                let here : n ≡ b = omega (arith, ltb-false b n e, below) in
                subst (λ (k : ℕ). Done k (get_or (slice_set xs n state) k d)) here (subst (Done n) (sym (get_or-set_same xs n state d inside)) come)
          ] refl);
      waiting = λ b d above within.
          let apart : b ≢ n = omega (arith, above) in
          subst (λ ys. Waiting b (get_or ys b d)) (sym states)
          (subst (Waiting b) (sym (get_or-set_other xs n b state d apart)) (held.waiting b d (omega (arith, above)) (omega (arith, within, long))));
    }

-- all blocks have come to their states
pub all-blocks : (c : Netlist) (sequences : List InputSequence) (Done Waiting Next : ℕ → State → Type 0) (n : ℕ) (room : WaveRoom) → length room.states.items ≤ n
    → HasStates c sequences Done Waiting n room → HasStates c sequences Next Done 0 room
all-blocks c sequences Done Waiting Next n room all held = record {
  literals = held.literals;
  before = held.before;
  values = held.values;
  many = held.many;
  done = λ b d none within. absurd (omega (arith, none));
  waiting = λ b d above within. held.done b d (omega (arith, all, within)) within;
}

-- past the last block there is no sequence
pub all-sequences : (n b : ℕ) → n / 256 + min 1 (n % 256) ≤ b → min (256 * b) n ≡ n
all-sequences n b past = omega (arith, past)

module _ {W : Type 0} {output : W → Output} where
  -- the text of a block's sequences after that of those before
  pub puts-block : {b c d : Buffered W} (f : ℕ → List ℕ) (sequences : List InputSequence) (k : ℕ) → 256 * k < length sequences
      → Puts output b c (flat_map f (range_with_len 0 (min (256 * k) (length sequences))))
      → Puts output c d (flat_map f (range_with_len (256 * k) (length (block_of sequences k))))
      → Puts output b d (flat_map f (range_with_len 0 (min (256 * (k + 1)) (length sequences))))
  puts-block {b} {c} {d} f sequences k inside before text =
      let first : ℕ = min (256 * k) (length sequences) in
      let start : 256 * k ≡ 0 + first = omega (arith, inside) in
      let size : ℕ = length (block_of sequences k) in
      let joined : flat_map f (range_with_len 0 first) ++ flat_map f (range_with_len (0 + first) size) ≡ flat_map f (range_with_len 0 (min (256 * (k + 1)) (length sequences))) =
      sym (flat_map-append f (range_with_len 0 first) (range_with_len (0 + first) size)) ∙ ap (flat_map f) (sym (range-then 0 first size))
      ∙ ap (λ (n : ℕ). flat_map f (range_with_len 0 n)) (block-length sequences k (omega (arith, inside))) in
      subst (λ (xs : List ℕ). Puts output b d xs) joined (puts-then before (subst (λ (n : ℕ). Puts output c d (flat_map f (range_with_len n size))) start text))
