-- The functions of free latches are inputs: at the start, after a pass, a move and a merging, and
-- so in the finished map.
use Rattle.std.proofs.Common.{inl, inr, ℕ, suc, ◌+◌, ◌-◌, ◌*◌, ◌<◌, ◌≡◌, ◌==◌, Bool, true, false, Option, Some, None, slice_get, List, length, get_or, arith, ap, sym, ◌∙◌, subst, zero-add}
use Rattle.std.proofs.Math.Dec.{eqb-suc-zero}
use Rattle.std.proofs.lemmas.Bool.{cond-false}
use Rattle.std.proofs.lemmas.List.{get_or-map, length-map}
use Rattle.std.proofs.lemmas.List.FromFn.{get_or-range_with_len}
use Rattle.std.proofs.lemmas.List.Kept.{AllPairs-from_increasing}
use Rattle.std.proofs.lemmas.Option.{slice_get_within}
use Rattle.aig_graph.specs.declared.graph.Latch.{Latch}
use Rattle.aig_graph.specs.Circuits.{Netlist}
use Rattle.aig_graph.specs.Closed.{IsClosedSet}
use Rattle.aig_graph.specs.Graph.{Graph, first_latch, free_before, free_latches, is_free, is_free_latch, latch_at, variable, variables_end}
use Rattle.aig_graph.specs.Laws.{all_free, composed}
use Rattle.aig_graph.specs.Move.{Move}
use Rattle.aig_graph.specs.Streams.{AreKept, SameStreams}
use Rattle.aig_graph.specs.Value.{reset_to}
use Rattle.aig_graph.proofs.KindLaws.{LatchPlace, element, latch_place}
use Rattle.cleaned_circuits.specs.Cleaned.{IsPass}
use Rattle.cleaned_circuits.specs.Merged.{merged_of, replaced_circuit, replaced_graph, replaced_latch, substitutes_of}
use Rattle.cleaned_circuits.specs.Trimmed.{kept_free, trimmed_graph, trimmed_of}
use Rattle.cleaned_circuits.proofs.KeptFreeLaws.{free-rank, kept_free-at}
use Rattle.cleaned_circuits.proofs.MergedLaws.{length-replaced_latches, replaced-free_before, replaced-latch}
use Rattle.cleaned_circuits.proofs.TrimmedLaws.{LatchFrom, latch_from}
use Rattle.merged_circuits.specs.Readings.{IsReading, ReadsAs, as_constant, as_first, as_itself, own_literal, read, substitutes_by}
use Rattle.merged_circuits.proofs.ValueLaws.{may-known}
use Rattle.rebuild.specs.Moved.{is_latched, latch_for, moved_graph, moved_of}
use Rattle.rebuild.specs.Moved.{latch_from as latch_by}
use Rattle.rebuild.specs.Starting.{start_value}
use Rattle.rebuild.proofs.BorderLaws.{latched-cases}
use Rattle.rebuild.proofs.FreeLaws.{moved-free_at}
use Rattle.rebuild.proofs.MovedLaws.{latch_source}
use Rattle.aig_graph.specs.Counting.{count_below, places}
use Rattle.aig_graph.specs.Tables.{table}
use Rattle.aig_graph.proofs.PlacesLaws.{Ranks, at_rank}
use Rattle.aig_graph.proofs.TableLaws.{table-at}
use Rattle.state_maps.specs.MapCircuits.{FreeStay, IsFreeInput}
use Rattle.state_maps.proofs.FreeLaws.{all-free, free-fewer, free-order, free-within, rising-free}
use Rattle.state_maps.proofs.PassStepLaws.{new-rank}
use Rattle.map_circuits.specs.Constraining.{substitute_function}
use Rattle.map_circuits.specs.Following.{entry_of, literal_at}
use Rattle.map_circuits.specs.Stepping.{AreMoved, ArePassed}
use Rattle.map_circuits.specs.Steps.{read_functions}
use Rattle.retiming_maps.specs.Mapping.{AreFreeInputs, IsInputAt}

-- each free latch has its place among all
all-places : (g : Graph) (j : ℕ) → is_free_latch (slice_get g.latches j) ≡ true → get_or (all_free g) (free_before g j) 0 ≡ free_before g j
all-places g j free =
    let counted : free_before g j < free_latches g = free-fewer g j (length g.latches) free (free-within g.latches j free) (omega arith) in
    get_or-range_with_len 0 (free_latches g) (free_before g j) 0 counted ∙ zero-add (free_before g j)

-- a circuit's latches are the inputs that stand for them
pub free-start : (c : Netlist) → AreFreeInputs c c (all_free c.aig) (table 0 (length c.aig.latches) (λ j. 2 * (1 + j)))
free-start c j free =
    let short : j < length c.aig.latches = free-within c.aig.latches j free in
    let place : 2 * (1 + (0 + j)) ≡ 2 * (1 + j) = omega arith in
    record {
      input = record { place = j; is = table-at 0 (length c.aig.latches) (λ k. 2 * (1 + k)) j 0 short ∙ place; free = free };
      at = sym (all-places c.aig j free);
    }

-- latch k of e is a free latch of d, with its function; second has its place among d's
record ComesFrom (d e : Graph) (second functions new : List ℕ) (k : ℕ) : Type 0 where
  from : ℕ
  free : is_free_latch (slice_get d.latches from) ≡ true
  own : get_or new k 0 ≡ get_or functions from 0
  at : get_or second (free_before e k) 0 ≡ free_before d from

free-then : (c d e : Netlist) (kept second functions new : List ℕ) → length second ≡ free_latches e.aig
    → ((k : ℕ) → is_free_latch (slice_get e.aig.latches k) ≡ true → ComesFrom d.aig e.aig second functions new k) → AreFreeInputs c d kept functions → AreFreeInputs c e (composed kept second) new
free-then c d e kept second functions new long comes p k free =
    let was : ComesFrom d.aig e.aig second functions new k = comes k free in
    let before : IsInputAt c.aig (get_or kept (free_before d.aig was.from) 0) (get_or functions was.from 0) = p was.from was.free in
    let counted : free_before e.aig k < free_latches e.aig = free-fewer e.aig k (length e.aig.latches) free (free-within e.aig.latches k free) (omega arith) in
    record {
      input = record { place = before.input.place; is = was.own ∙ before.input.is; free = before.input.free };
      at = before.at ∙ sym (get_or-map (λ i. get_or kept i 0) second (free_before e.aig k) 0 0 (omega (arith, counted, long)) ∙ ap (λ (i : ℕ). get_or kept i 0) was.at);
    }

-- places among places are places
pub kept-then : (c d e : Netlist) (first second : List ℕ) → AreKept c d first → AreKept d e second → AreKept c e (composed first second)
kept-then c d e first second p q = record {
  rising = λ k less.
      let short : k + 1 < length second = omega (arith, less, long) in
      let inside : get_or second (k + 1) 0 < length first = omega (arith, q.below (k + 1) 0 short, p.each) in
      let rises : get_or first (get_or second k 0) 0 < get_or first (get_or second (k + 1) 0) 0 =
      AllPairs-from_increasing first p.rising (get_or second k 0) (get_or second (k + 1) 0) 0 (q.rising k short) inside in
      omega (arith, rises, at k 0 (omega (arith, short)), at (k + 1) 0 short);
  below = λ k a less.
      let short : k < length second = omega (arith, less, long) in
      let inside : get_or second k 0 < length first = omega (arith, q.below k 0 short, p.each) in
      omega (arith, at k a short, p.below (get_or second k 0) 0 inside);
  each = long ∙ q.each;
}
  where
    long : length (composed first second) ≡ length second
    long = length-map second (λ i. get_or first i 0)

    at : (k a : ℕ) → k < length second → get_or (composed first second) k a ≡ get_or first (get_or second k 0) 0
    at k a less = get_or-map (λ i. get_or first i 0) second k 0 a less

-- ---- a pass
-- a latch of a trimmed graph that is free was a free one of the graph, at this place
record WasFree (g : Graph) (r : ℕ → Bool) (k : ℕ) : Type 0 where
  from : ℕ
  free : is_free_latch (slice_get g.latches from) ≡ true
  listed : slice_get (places (λ j. r (first_latch g + j)) (length g.latches)) k ≡ Some from
  at : get_or (kept_free g r) (free_before (trimmed_graph g r) k) 0 ≡ free_before g from

was_free : (g : Graph) (r : ℕ → Bool) (k : ℕ) → is_free_latch (slice_get (trimmed_graph g r).latches k) ≡ true → WasFree g r k
was_free g r k free =
    let there = element (trimmed_graph g r).latches k (free-within (trimmed_graph g r).latches k free) in
    let was : LatchFrom g r k there.0 = latch_from g r k there.0 there.1 in
    let old_free : is_free was.old ≡ true = ap is_free (sym was.is) ∙ ap is_free_latch (sym there.1) ∙ free in
    let short : was.place < length g.latches = slice_get_within g.latches was.place was.old was.there in
    let remains : ℕ → Bool = λ j. r (first_latch g + j) in
    let rank : count_below remains was.place ≡ k = omega (arith, was.rank, new-rank g r was.place) in
    record {
      from = was.place;
      free = ap is_free_latch was.there ∙ old_free;
      listed = ap (slice_get (places remains (length g.latches))) (sym rank) ∙ at_rank remains (length g.latches) was.place short was.reached;
      at = ap (λ (n : ℕ). get_or (kept_free g r) n 0) (free-rank g r was.place k (omega (arith, short)) was.rank) ∙ kept_free-at g r was.place was.old was.there old_free was.reached;
    }

-- a merged circuit has the latches that stay where the circuit has them
pub pass-places : (d : Netlist) (held : List ℕ) (r : ℕ → Bool)
    → places (λ j. r (first_latch (merged_of held d).aig + j)) (length (merged_of held d).aig.latches) ≡ places (λ j. r (first_latch d.aig + j)) (length d.aig.latches)
unfolding replaced_graph
pass-places d held r = ap (places (λ j. r (first_latch d.aig + j))) (length-map d.aig.latches (replaced_latch (substitutes_of d.aig held)))

-- what is free of a replaced graph is free of the graph
replaced-free : (substitutes : List ℕ) (g : Graph) (j : ℕ) → is_free_latch (slice_get (replaced_graph substitutes g).latches j) ≡ true → is_free_latch (slice_get g.latches j) ≡ true
replaced-free substitutes g j free =
    let short : j < length g.latches = omega (arith, free-within (replaced_graph substitutes g).latches j free, length-replaced_latches substitutes g) in
    let there = element g.latches j short in
    ap is_free_latch there.1 ∙ sym (ap is_free_latch (replaced-latch substitutes g j there.0 there.1)) ∙ free

-- a pass leaves free latches their functions
pub free-passed : (c d e : Netlist) (held kept second still : List ℕ) (g : Graph) (functions new : List ℕ) (pass : IsPass held d e second still) → SameStreams d e second
    → ArePassed g functions d.aig pass.reached new → AreFreeInputs c d kept functions → AreFreeInputs c e (composed kept second) new
free-passed c d e held kept second still g functions new pass streams passed = free-then c d e kept second functions new streams.places.each comes
  where
    m : Netlist
    m = merged_of held d

    r : ℕ → Bool
    r = pass.reached

    here : (k : ℕ) → is_free_latch (slice_get (trimmed_of m r).aig.latches k) ≡ true → ComesFrom d.aig (trimmed_of m r).aig (kept_free m.aig r) functions new k
    here k free =
        let was : WasFree m.aig r k = was_free m.aig r k free in
        record {
          from = was.from;
          free = replaced-free (substitutes_of d.aig held) d.aig was.from was.free;
          own = passed.own k was.from (ap (λ (js : List ℕ). slice_get js k) (sym (pass-places d held r)) ∙ was.listed);
          at = was.at ∙ replaced-free_before (substitutes_of d.aig held) d.aig was.from;
        }

    comes : (k : ℕ) → is_free_latch (slice_get e.aig.latches k) ≡ true → ComesFrom d.aig e.aig second functions new k
    comes = subst (λ (n : Netlist). (k : ℕ) → is_free_latch (slice_get n.aig.latches k) ≡ true → ComesFrom d.aig n.aig second functions new k) (sym pass.circuit)
        (subst (λ (js : List ℕ). (k : ℕ) → is_free_latch (slice_get (trimmed_of m r).aig.latches k) ≡ true → ComesFrom d.aig (trimmed_of m r).aig js functions new k) (sym pass.free) here)

-- ---- a move
-- a latch of a moved circuit that is free stands for a free latch
stands-free : (m : Move) (v : ℕ) → is_latched m v ≡ true → is_free (latch_for m v) ≡ true → (latch : Latch) × (latch_at m.circuit.aig v ≡ Some latch) × (is_free latch ≡ true)
stands-free m v kept free = elim (latched-cases m v kept) [
  | inl old ↦ (old.0, old.1, sym (ap (λ (o : Option Latch). is_free (latch_by m v o)) old.1) ∙ free)
  | inr new ↦ absurd (known (start_value m.circuit.aig v) (latch_by m v None).next (sym (ap (λ (o : Option Latch). is_free (latch_by m v o)) new.0) ∙ free))
]
  where
    known : (b : Bool) (next : ℕ) → is_free (record { next = next; reset = reset_to b }) ≡ true → ⊥
    known true next e = absurd (cc)
    known false next e = absurd (cc)

-- a move leaves free latches their functions
pub free-moved : (c : Netlist) (m : Move) (kept : List ℕ) (g h : Graph) (functions new : List ℕ) → IsClosedSet m.circuit.aig m.held m.set → AreKept m.circuit (moved_of m) (all_free m.circuit.aig)
    → AreMoved g functions m h new → AreFreeInputs c m.circuit kept functions → AreFreeInputs c (moved_of m) (composed kept (all_free m.circuit.aig)) new
free-moved c m kept g h functions new set free_places moved = free-then c m.circuit (moved_of m) kept (all_free m.circuit.aig) functions new free_places.each comes
  where
    comes : (k : ℕ) → is_free_latch (slice_get (moved_graph m).latches k) ≡ true → ComesFrom m.circuit.aig (moved_graph m) (all_free m.circuit.aig) functions new k
    comes k free =
        let end : ℕ = variables_end m.circuit.aig in
        let there = element (moved_graph m).latches k (free-within (moved_graph m).latches k free) in
        let source = latch_source m k there.0 there.1 in
        let v : ℕ = source.0 in
        let ranks : Ranks (is_latched m) end k v = source.1 in
        let stands = stands-free m v ranks.passes (ap is_free (sym source.2) ∙ ap is_free_latch (sym there.1) ∙ free) in
        let place : LatchPlace m.circuit.aig v stands.0 = latch_place m.circuit.aig v stands.0 stands.1 in
        let j : ℕ = v - first_latch m.circuit.aig in
        let old_free : is_free_latch (slice_get m.circuit.aig.latches j) ≡ true = ap is_free_latch place.there ∙ stands.2 in
        let at : v ≡ first_latch m.circuit.aig + j = omega (arith, place.from) in
        let listed : slice_get (places (is_latched m) end) k ≡ Some v = ap (slice_get (places (is_latched m) end)) (sym ranks.rank) ∙ at_rank (is_latched m) end v ranks.below ranks.passes in
        let before : free_before (moved_graph m) k ≡ free_before m.circuit.aig j =
        ap (free_before (moved_graph m)) (sym ranks.rank ∙ ap (count_below (is_latched m)) at) ∙ moved-free_at m set j (omega (arith, place.from, place.below)) in
        record {
          from = j;
          free = old_free;
          own = moved.own k v listed place.below;
          at = ap (λ (n : ℕ). get_or (all_free m.circuit.aig) n 0) before ∙ all-places m.circuit.aig j old_free;
        }

-- ---- a merging
-- a free latch reads as itself
reads-itself : (g : Graph) (held reads : List ℕ) (j : ℕ) (latch : Latch) → is_free latch ≡ true → ReadsAs g held reads j latch (read reads j) → read reads j ≡ own_literal g j
reads-itself g held reads j latch free (as_itself is) = is
reads-itself g held reads j latch free (as_constant may is) = let none : is_free latch ≡ false = may-known held j latch may in let clash : false ≡ true = sym none ∙ free in absurd (cc)
reads-itself g held reads j latch free (as_first i first less there may also own is) = let none : is_free latch ≡ false = may-known held j latch may in let clash : false ≡ true = sym none ∙ free in absurd (cc)

-- the function of a latch's own literal is the latch's
own-function : (g : Graph) (functions : List ℕ) (j : ℕ) → substitute_function (first_latch g) functions (own_literal g j) ≡ get_or functions j 0
own-function g functions j =
    let own : ℕ = own_literal g j in
    let first : ℕ = first_latch g in
    let past : variable own ≡ suc (g.inputs + j) = omega arith in
    let other : (variable own == 0) ≡ false = ap (λ (n : ℕ). n == 0) past ∙ eqb-suc-zero (g.inputs + j) in
    let place : variable own - first ≡ j = omega arith in
    let even : literal_at first functions own ≡ entry_of first functions (variable own) = omega arith in
    cond-false {A = ℕ} (variable own == 0) own (literal_at first functions own) other ∙ even ∙ ap (λ (k : ℕ). get_or functions k 0) place

-- a merging leaves free latches their functions
pub free-merged : (b d e : Netlist) (held kept reads functions : List ℕ) → IsReading d.aig held reads → e ≡ replaced_circuit (substitutes_by d.aig reads) d → length reads ≡ length d.aig.latches
    → AreFreeInputs b d kept functions → AreFreeInputs b e kept (read_functions (first_latch d.aig) functions reads)
free-merged b d e held kept reads functions reading is long p = subst (λ (n : Netlist). AreFreeInputs b n kept (read_functions (first_latch d.aig) functions reads)) (sym is) here
  where
    merged : Netlist
    merged = replaced_circuit (substitutes_by d.aig reads) d

    here : AreFreeInputs b merged kept (read_functions (first_latch d.aig) functions reads)
    here j free =
        let was : is_free_latch (slice_get d.aig.latches j) ≡ true = replaced-free (substitutes_by d.aig reads) d.aig j free in
        let short : j < length d.aig.latches = free-within d.aig.latches j was in
        let there = element d.aig.latches j short in
        let itself : read reads j ≡ own_literal d.aig j = reads-itself d.aig held reads j there.0 (ap is_free_latch (sym there.1) ∙ was) (reading.each j there.0 there.1) in
        let same : get_or (read_functions (first_latch d.aig) functions reads) j 0 ≡ get_or functions j 0 =
        get_or-map (substitute_function (first_latch d.aig) functions) reads j 0 0 (omega (arith, short, long))
        ∙ ap (substitute_function (first_latch d.aig) functions) itself ∙ own-function d.aig functions j in
        let before : IsInputAt b.aig (get_or kept (free_before d.aig j) 0) (get_or functions j 0) = p j was in
        record {
          input = record { place = before.input.place; is = same ∙ before.input.is; free = before.input.free };
          at = before.at ∙ ap (λ (n : ℕ). get_or kept n 0) (sym (replaced-free_before (substitutes_by d.aig reads) d.aig j));
        }

-- ---- the end
-- where the functions of free latches are inputs at rising places, free latches stay
pub free-stay : (c d m : Netlist) (kept : List ℕ) → AreKept c d kept → length m.props.outputs ≡ length d.aig.latches → AreFreeInputs c d kept m.props.outputs → FreeStay c d m
free-stay c d m kept are long p = record {
  are = all-free (IsFreeInput c.aig) d.aig.latches m.props.outputs long (λ j free. (p j free).input);
  rising = rising-free d.aig.latches m.props.outputs long (λ i j less one two.
      let first : IsInputAt c.aig (get_or kept (free_before d.aig i) 0) (get_or m.props.outputs i 0) = p i one in
      let second : IsInputAt c.aig (get_or kept (free_before d.aig j) 0) (get_or m.props.outputs j 0) = p j two in
      let short : j < length d.aig.latches = free-within d.aig.latches j two in
      let fewer : free_before d.aig i < free_before d.aig j = free-fewer d.aig i j one less (omega (arith, short)) in
      let inside : free_before d.aig j < length kept = omega (arith, free-fewer d.aig j (length d.aig.latches) two short (omega arith), are.each) in
      let rises : get_or kept (free_before d.aig i) 0 < get_or kept (free_before d.aig j) 0 = AllPairs-from_increasing kept are.rising (free_before d.aig i) (free_before d.aig j) 0 fewer inside in
      let place : first.input.place < second.input.place = free-order c.aig first.input.place second.input.place
      (omega (arith, free-within c.aig.latches first.input.place first.input.free)) (omega (arith, free-within c.aig.latches second.input.place second.input.free)) (omega (arith, first.at, second.at, rises)) in
      omega (arith, first.input.is, second.input.is, place));
}
