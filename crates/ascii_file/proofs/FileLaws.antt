-- Bytes are read if and only if they are a file, and as the circuit of its raw circuit.
use Rattle.std.proofs.Common.{ℕ, ◌+◌, ◌-◌, ◌^◌, ◌<◌, ◌≤◌, ◌≡◌, ◌⊎◌, inl, inr, List, [], ◌∷◌, ◌++◌, length, get_or, All, Option, Some, None, IfSome, Result, Ok, Err, Bool, true, false, cond, ◌&&◌, nat_eq, refl, sym, ap, subst, ◌∙◌, Contains, arith}
use Rattle.std.specs.List.{AllZip}
use Rattle.std.specs.Option.{option_map}
use Rattle.std.proofs.lemmas.Bool.{cond-true, ltb-false, le-ltb, and_from, eqb-true, eq-eqb, or_cases, or_left, or_right}
use Rattle.std.proofs.lemmas.List.{get_or_default, length-map}
use Rattle.std.proofs.lemmas.List.Elements.{All-map, All-from_recursion, recursion_from_All}
use Rattle.std.proofs.lemmas.List.Folds.{Any-from_list_any, list_any_at}
use Rattle.std.proofs.lemmas.List.Quantifiers.{position-Some}
use Rattle.std.proofs.lemmas.List.Sums.{AllPass-from_list_all, list_all-from_AllPass}
use Rattle.aig_graph.specs.Marking.{has}
use Rattle.aig_graph.specs.Graph.{variable}
use Rattle.aig_graph.specs.Circuits.{Netlist}
use Rattle.ascii_file.specs.declared.order.reads.Reads.{Reads}
use Rattle.ascii_file.specs.order.Order.{IsOrder, ReadsBelow, AreReadsInFile, ordered}
use Rattle.ascii_file.specs.order.Cycles.{HasCycle}
use Rattle.ascii_file.proofs.GateOrderLaws.{ordered_law}
use Rattle.ascii_file.proofs.CycleLaws.{exists_law}
use Rattle.file_words.specs.declared.fault.ReadError.{ReadError}
use Rattle.file_words.specs.declared.fault.ReadError.TheVariants.{Undefined, Truncated}
use Rattle.file_words.specs.Lines.{lines}
use Rattle.file_words.specs.Answering.{◌>>=◌}
use Rattle.ascii_file.specs.declared.header.Header.{Header}
use Rattle.ascii_file.specs.declared.raw.RawGate.{RawGate}
use Rattle.ascii_file.specs.Raw.{Raw, nothing_yet, defined, read_literals}
use Rattle.ascii_file.specs.Headers.{header_of, IsHeaderWithin}
use Rattle.ascii_file.specs.Items.{items_of, begins_comment}
use Rattle.ascii_file.specs.Meaning.{gate_place, gate_reads, with_gates_at, in_order, circuit_of}
use Rattle.ascii_file.specs.Reading.{unless, header_checks, checked_header, read_header, read_line, State, AtHeader, InItems, InComment, is_complete, take_lines, is_known_among, is_resolved, circuit_in_order, resolve, finish, read_bytes}
use Rattle.ascii_file.specs.Files.{Spells, IsComment, Lines, IsKnownAmong, IsAsciiFile}
use Rattle.ascii_file.specs.Laws.{IsCircuitOf, ReadingLaw}
use Rattle.ascii_file.proofs.CheckLaws.{unless_ok, unless_passes, same_ok}
use Rattle.ascii_file.proofs.StepLaws.{bind_ok}
use Rattle.ascii_file.proofs.SectionLaws.{with_items, offset_after, items_taken, comment_taken, Ends, WasRead, lines_were_read}
use Rattle.ascii_file.proofs.ConditionLaws.{AreRight, all_fitted, are_right}
use Rattle.ascii_file.proofs.OrderLaws.{full_where_counted, complete_where_full, items_follow, items_grown, AreItems, are_items}
use Rattle.ascii_file.proofs.FaultLaws.{fault_of_bytes}

-- ---- the header

header_passes : (h : Header) → IsHeaderWithin h → unless (header_checks h) (Ok h) ≡ Ok h
header_passes h within =
    unless_passes (header_checks h) (Ok h) (
      le-ltb (2 ^ 28 - 1) h.greatest (omega (arith, within.greatest)),
      (
        le-ltb (2 ^ 24) h.outputs within.outputs,
        (
          le-ltb (2 ^ 24) h.bad within.bad,
          (
            le-ltb (2 ^ 24) h.constraints within.constraints,
            (le-ltb (2 ^ 24) h.justice within.justice, (le-ltb (2 ^ 24) h.fairness within.fairness, (le-ltb h.greatest (h.inputs + h.latches + h.gates) within.total, tt))),
          ),
        ),
      ),
    )

header_within : (h found : Header) → unless (header_checks h) (Ok h) ≡ Ok found → IsHeaderWithin h × (h ≡ found)
header_within h found e =
    let checked = unless_ok (header_checks h) (Ok h) found e in
    let p = checked.0 in
    let greatest : h.greatest ≤ 2 ^ 28 - 1 = ltb-false (2 ^ 28 - 1) h.greatest p.0 in (
      record {
        greatest = omega (arith, greatest);
        outputs = ltb-false (2 ^ 24) h.outputs p.1.0;
        bad = ltb-false (2 ^ 24) h.bad p.1.1.0;
        constraints = ltb-false (2 ^ 24) h.constraints p.1.1.1.0;
        justice = ltb-false (2 ^ 24) h.justice p.1.1.1.1.0;
        fairness = ltb-false (2 ^ 24) h.fairness p.1.1.1.1.1.0;
        total = ltb-false h.greatest (h.inputs + h.latches + h.gates) p.1.1.1.1.1.1.0;
      },
      same_ok h found checked.1,
    )

header_read : (line : List ℕ) (h : Header) → header_of line ≡ Some h → IsHeaderWithin h → read_header line ≡ Ok h
unfolding read_header
header_read line h spelt within = ap checked_header spelt ∙ header_passes h within

header_was_read : (line : List ℕ) (h : Header) → read_header line ≡ Ok h → (header_of line ≡ Some h) × IsHeaderWithin h
unfolding read_header
header_was_read line h e = by_case (header_of line) refl e
  where
    by_case : (found : Option Header) → header_of line ≡ found → checked_header found ≡ Ok h → (header_of line ≡ Some h) × IsHeaderWithin h
    by_case None is e = absurd cc
    by_case (Some g) is e = let checked = header_within g h e in (is ∙ ap (λ (x : Header). Some x) checked.1, subst IsHeaderWithin checked.1 checked.0)

-- ---- the lines after the items

-- if the items are complete, the end of the file gives what they resolve to
record ReadToEnd (h : Header) (raw : Raw) (at : ℕ) (last : List (List ℕ)) : Type 0 where
  state : State
  read : take_lines (InItems h raw at) last ≡ Ok state
  finished : (end : ℕ) → finish end state ≡ resolve h raw
  is_either : (state ≡ InItems h raw at) ⊎ (state ≡ InComment h raw)

read_to_end : (h : Header) (raw : Raw) (at : ℕ) (last : List (List ℕ)) → is_complete h raw ≡ true → IsComment last → ReadToEnd h raw at last
unfolding take_lines
read_to_end h raw at [] complete comment = record { state = InItems h raw at; read = refl; finished = λ end. cond-true (is_complete h raw) (resolve h raw) (Err (Truncated end)) complete; is_either = inl refl }
read_to_end h raw at (line ∷ rest) complete comment = record {
  state = InComment h raw;
  read = ap (λ (r : Result State ReadError). r >>= λ next. take_lines next rest)
      (cond-true (is_complete h raw && begins_comment line) (Ok (InComment h raw)) (read_line h raw at line >>= λ more. Ok (InItems h more (at + length line + 1))) (and_from (is_complete h raw) (begins_comment line) complete comment))
      ∙ comment_taken h raw rest;
  finished = λ end. refl;
  is_either = inr refl;
}

-- ---- what is read is defined

contains_where_has : (vs : List ℕ) (v : ℕ) → has vs v ≡ true → Contains vs v
contains_where_has vs v e =
    let found = Any-from_list_any (λ w. nat_eq w v) vs e in
    (found.0, found.2, get_or_default vs found.0 v found.1 found.2 ∙ found.3 ∙ eqb-true found.1 v found.4)

has_where_contains : (vs : List ℕ) (v : ℕ) → Contains vs v → has vs v ≡ true
has_where_contains vs v member = list_any_at (λ w. nat_eq w v) vs member.0 v member.1 (eq-eqb (get_or vs member.0 v) v member.2)

known_where_true : (vs : List ℕ) (lit : ℕ) → is_known_among vs lit ≡ true → IsKnownAmong vs lit
known_where_true vs lit e = elim (or_cases (nat_eq (variable lit) 0) (has vs (variable lit)) e) [
  | inl constant ↦ inl (eqb-true (variable lit) 0 constant)
  | inr member ↦ inr (contains_where_has vs (variable lit) member)
]

true_where_known : (vs : List ℕ) (lit : ℕ) → IsKnownAmong vs lit → is_known_among vs lit ≡ true
true_where_known vs lit (inl constant) = or_left (nat_eq (variable lit) 0) (has vs (variable lit)) (eq-eqb (variable lit) 0 constant)
true_where_known vs lit (inr member) = or_right (nat_eq (variable lit) 0) (has vs (variable lit)) (has_where_contains vs (variable lit) member)

resolved_where_true : (raw : Raw) → is_resolved raw ≡ true → All (IsKnownAmong (defined raw)) (read_literals raw)
unfolding is_resolved
resolved_where_true raw e k d less = known_where_true (defined raw) (get_or (read_literals raw) k d) (AllPass-from_list_all (is_known_among (defined raw)) (read_literals raw) e k d less)

true_where_resolved : (raw : Raw) → All (IsKnownAmong (defined raw)) (read_literals raw) → is_resolved raw ≡ true
unfolding is_resolved
true_where_resolved raw all = list_all-from_AllPass (is_known_among (defined raw)) (read_literals raw) (λ k d less. true_where_known (defined raw) (get_or (read_literals raw) k d) (all k d less))

-- ---- the order of the gates

place-below : (raw : Raw) (lit : ℕ) → IfSome (gate_place raw lit) (λ g. g < length raw.gates)
place-below raw lit = by_case (gate_place raw lit) refl
  where
    by_case : (found : Option ℕ) → gate_place raw lit ≡ found → IfSome found (λ g. g < length raw.gates)
    by_case None is = tt
    by_case (Some g) is = (position-Some (λ (gate : RawGate). nat_eq (variable gate.lhs) (variable lit)) raw.gates g (record { lhs = 0; rhs0 = 0; rhs1 = 0 }) is).0

-- the gates of a raw circuit read only gates of it
pub in_file : (raw : Raw) → AreReadsInFile (gate_reads raw)
in_file raw =
    let reads : RawGate → Reads = λ (gate : RawGate). record { first = gate_place raw gate.rhs0; second = gate_place raw gate.rhs1 } in
    let below : (k : ℕ) (gate : RawGate) → ReadsBelow (length raw.gates) (reads gate) = λ k gate. record { first = place-below raw gate.rhs0; second = place-below raw gate.rhs1 } in
    subst (λ (n : ℕ). All (ReadsBelow n) (gate_reads raw)) (sym (length-map raw.gates reads)) (All-map (ReadsBelow (length raw.gates)) reads raw.gates (λ k d less. below k (get_or raw.gates k d)))

-- what an order gives
with_order : (h : Header) (raw : Raw) (order : List ℕ) → IsOrder (gate_reads raw) order → circuit_in_order h (in_order raw) ≡ Ok (circuit_of h (with_gates_at raw order))
with_order h raw order is = ap (λ (found : Option (List ℕ)). circuit_in_order h (option_map (with_gates_at raw) found)) ((ordered_law (gate_reads raw) order).1 is)

-- what is given comes of an order
from_order : (h : Header) (raw : Raw) (c : Netlist) → circuit_in_order h (in_order raw) ≡ Ok c → IsCircuitOf h raw c × ¬ HasCycle (gate_reads raw)
from_order h raw c e = by_case (ordered (gate_reads raw)) refl e
  where
    by_case : (found : Option (List ℕ)) → ordered (gate_reads raw) ≡ found → circuit_in_order h (option_map (with_gates_at raw) found) ≡ Ok c → IsCircuitOf h raw c × ¬ HasCycle (gate_reads raw)
    by_case None is e = absurd cc
    by_case (Some order) is e =
        let is_order = (ordered_law (gate_reads raw) order).0 is in (
          record { order = order; is_order = is_order; circuit = sym (same_ok (circuit_of h (with_gates_at raw order)) c e) },
          (exists_law (gate_reads raw) (in_file raw)).0 (order, is_order),
        )

resolve_ok : (h : Header) (raw : Raw) (c : Netlist) → resolve h raw ≡ Ok c → (is_resolved raw ≡ true) × (circuit_in_order h (in_order raw) ≡ Ok c)
resolve_ok h raw c e = by_test (is_resolved raw) e
  where
    by_test : (test : Bool) → cond test (circuit_in_order h (in_order raw)) (Err Undefined) ≡ Ok c → (test ≡ true) × (circuit_in_order h (in_order raw) ≡ Ok c)
    by_test true e = (refl, e)
    by_test false e = absurd cc

-- ---- a file is read

right : (bytes : List ℕ) (h : Header) (raw : Raw) → IsAsciiFile bytes h raw → AreRight h raw
right bytes h raw file = record { in_range = file.in_range; apart = file.apart; resets = recursion_from_All _ raw.latches file.resets; sizes = file.sizes; names = file.names }

-- how the lines of a file end
record FileRead (bytes : List ℕ) (h : Header) (raw : Raw) : Type 0 where
  at : ℕ
  last : List (List ℕ)
  end : ReadToEnd h raw at last
  read : take_lines AtHeader (lines bytes) ≡ Ok end.state

file_read : (bytes : List ℕ) (h : Header) (raw : Raw) → IsAsciiFile bytes h raw → FileRead bytes h raw
unfolding take_lines
file_read bytes h raw file =
    let spelt : Lines bytes h raw = file.spelt in
    let start = length spelt.first + 1 in
    let at = offset_after start spelt.middle in
    let complete : is_complete h raw ≡ true = complete_where_full h raw (full_where_counted h raw file.counted) in
    let end = read_to_end h raw at spelt.last complete spelt.comment in
    record {
      at = at;
      last = spelt.last;
      end = end;
      read = ap (take_lines AtHeader) spelt.all
          ∙ ap (λ (r : Result Header ReadError). (r >>= λ g. Ok (InItems g nothing_yet start)) >>= λ next. take_lines next (spelt.middle ++ spelt.last)) (header_read spelt.first h spelt.header file.within)
          ∙ items_taken h (items_of raw) nothing_yet start spelt.middle spelt.last spelt.items (items_follow h raw file.counted (all_fitted h raw (right bytes h raw file)))
          ∙ ap (λ (r : Raw). take_lines (InItems h r at) spelt.last) (items_grown h raw file.counted) ∙ end.read;
    }

read_bytes-of_file : (bytes : List ℕ) (h : Header) (raw : Raw) → IsAsciiFile bytes h raw → (c : Netlist) × IsCircuitOf h raw c × (read_bytes bytes ≡ Ok c)
unfolding read_bytes
read_bytes-of_file bytes h raw file =
    let read = file_read bytes h raw file in
    let found = (exists_law (gate_reads raw) (in_file raw)).1 file.acyclic in (
      circuit_of h (with_gates_at raw found.0),
      record { order = found.0; is_order = found.1; circuit = refl },
      ap (λ (r : Result State ReadError). r >>= finish (length bytes)) read.read ∙ read.end.finished (length bytes)
          ∙ cond-true (is_resolved raw) (circuit_in_order h (in_order raw)) (Err Undefined) (true_where_resolved raw file.resolved)
          ∙ with_order h raw found.0 found.1,
    )

-- the raw circuit of a state
raw_in : State → Raw
raw_in AtHeader = nothing_yet
raw_in (InItems h raw at) = raw
raw_in (InComment h raw) = raw

end_raw : (h : Header) (raw : Raw) (at : ℕ) (last : List (List ℕ)) (end : ReadToEnd h raw at last) → raw_in end.state ≡ raw
unfolding raw_in
end_raw h raw at last end = by_case end.is_either
  where
    by_case : (end.state ≡ InItems h raw at) ⊎ (end.state ≡ InComment h raw) → raw_in end.state ≡ raw
    by_case (inl is) = ap raw_in is
    by_case (inr is) = ap raw_in is

one_raw : (bytes : List ℕ) (h h' : Header) (raw raw' : Raw) → IsAsciiFile bytes h raw → IsAsciiFile bytes h' raw' → raw ≡ raw'
one_raw bytes h h' raw raw' file file' =
    let one = file_read bytes h raw file in
    let other = file_read bytes h' raw' file' in
    sym (end_raw h raw one.at one.last one.end) ∙ ap raw_in (same_ok one.end.state other.end.state (sym one.read ∙ other.read)) ∙ end_raw h' raw' other.at other.last other.end

-- ---- what is read is a file

-- the items are complete if the end gives a circuit
record EndRead (h : Header) (raw : Raw) (last : List (List ℕ)) (c : Netlist) : Type 0 where
  complete : is_complete h raw ≡ true
  comment : IsComment last
  resolves : resolve h raw ≡ Ok c

end_was_read : (h : Header) (raw : Raw) (last : List (List ℕ)) (state : State) (end : ℕ) (c : Netlist) → Ends h raw last state → finish end state ≡ Ok c → EndRead h raw last c
end_was_read h raw last state end c (inl (none, at, is)) e = by_test (is_complete h raw) refl (ap (finish end) (sym is) ∙ e)
  where
    by_test : (test : Bool) → is_complete h raw ≡ test → cond test (resolve h raw) (Err (Truncated end)) ≡ Ok c → EndRead h raw last c
    by_test true complete e = record { complete = complete; comment = subst IsComment (sym none) tt; resolves = e }
    by_test false complete e = absurd cc
end_was_read h raw last state end c (inr (comment, complete, is)) e = record { complete = complete; comment = comment; resolves = ap (finish end) (sym is) ∙ e }

-- a file of these items
module _ (bytes : List ℕ) (c : Netlist) (h : Header) (first : List ℕ) (rest : List (List ℕ)) (state : State) (are_lines : lines bytes ≡ first ∷ rest) (header : header_of first ≡ Some h) (within : IsHeaderWithin h)
    (was : WasRead h nothing_yet rest state) (finished : finish (length bytes) state ≡ Ok c) where
  file_of_items : (raw : Raw) × IsAsciiFile bytes h raw × IsCircuitOf h raw c
  file_of_items =
      let end = end_was_read h (with_items nothing_yet was.items) was.last state (length bytes) c was.ends finished in
      let items : AreItems h was.items = are_items h was.items was.follow end.complete in
      let raw = items.raw in
      let grown : with_items nothing_yet was.items ≡ raw = ap (with_items nothing_yet) items.are ∙ items_grown h raw items.counted in
      let resolves = resolve_ok h raw c (ap (resolve h) (sym grown) ∙ end.resolves) in
      let given = from_order h raw c resolves.1 in
      let right : AreRight h raw = are_right h raw items.fitted in (
        raw,
        record {
          spelt = record {
            first = first;
            middle = was.middle;
            last = was.last;
            all = are_lines ∙ ap (λ (ls : List (List ℕ)). first ∷ ls) was.parts;
            header = header;
            items = subst (AllZip Spells was.middle) items.are was.spelt;
            comment = end.comment;
          };
          within = within;
          counted = items.counted;
          in_range = right.in_range;
          apart = right.apart;
          resets = All-from_recursion _ raw.latches right.resets;
          sizes = right.sizes;
          names = right.names;
          resolved = resolved_where_true raw resolves.0;
          acyclic = given.1;
        },
        given.0,
      )

file_of_lines : (bytes : List ℕ) (c : Netlist) (ls : List (List ℕ)) (state : State) → lines bytes ≡ ls → take_lines AtHeader ls ≡ Ok state → finish (length bytes) state ≡ Ok c
    → (h : Header) × (raw : Raw) × IsAsciiFile bytes h raw × IsCircuitOf h raw c
unfolding take_lines
file_of_lines bytes c [] state are read finished = absurd (no_header (ap (finish (length bytes)) (same_ok AtHeader state read) ∙ finished))
  where
    no_header : finish (length bytes) AtHeader ≡ Ok c → ⊥
    no_header e = cc
file_of_lines bytes c (first ∷ rest) state are read finished =
    let step = bind_ok (read_header first >>= λ h. Ok (InItems h nothing_yet (length first + 1))) (λ next. take_lines next rest) state read in
    let header = bind_ok (read_header first) (λ h. Ok (InItems h nothing_yet (length first + 1))) step.0 step.1 in
    let spelt = header_was_read first header.0 header.1 in
    let next : step.0 ≡ InItems header.0 nothing_yet (length first + 1) = sym (same_ok (InItems header.0 nothing_yet (length first + 1)) step.0 header.2) in
    let was = lines_were_read header.0 rest nothing_yet (length first + 1) state (ap (λ (s : State). take_lines s rest) (sym next) ∙ step.2) in
    let file = file_of_items bytes c header.0 first rest state are spelt.0 spelt.1 was finished in
    (header.0, file.0, file.1, file.2)

file_of_read_bytes : (bytes : List ℕ) (c : Netlist) → read_bytes bytes ≡ Ok c → (h : Header) × (raw : Raw) × IsAsciiFile bytes h raw × IsCircuitOf h raw c
unfolding read_bytes
file_of_read_bytes bytes c e =
    let step = bind_ok (take_lines AtHeader (lines bytes)) (finish (length bytes)) c e in
    file_of_lines bytes c (lines bytes) step.0 refl step.1 step.2

-- Bytes are read as a circuit if and only if they are an ASCII file of a raw circuit. Otherwise
-- there is a fault of the bytes.
pub the_reading_law : (bytes : List ℕ) → ReadingLaw bytes
the_reading_law bytes = record { file = read_bytes-of_file bytes; read = file_of_read_bytes bytes; one = one_raw bytes; fault = λ e was. record { read = was; of_bytes = fault_of_bytes bytes e was } }
