-- The circuit of a raw circuit, part by part.
use Rattle.std.proofs.Common.{ℕ, suc, zero, ◌+◌, ◌<◌, ◌≡◌, ◌≢◌, List, [], ◌∷◌, ◌++◌, length, map, get_or, Bool, true, false, not, cond, nat_lt, ◌==◌, ◌&&◌, Option, Some, None, Result, Ok, Err, position, refl, sym, ap, ap₂, ◌∙◌, length-append, arith}
use Rattle.std.specs.List.{list_all, flat_map, position_or_len}
use Rattle.std.specs.Option.{option_map}
use Rattle.std.proofs.lemmas.Bool.{cond-true}
use Rattle.std.proofs.lemmas.List.{length-map, get_or-map}
use Rattle.std.proofs.lemmas.List.Folds.{list_all-append, list_all-map}
use Rattle.std.proofs.lemmas.Simd.{map-map}
use Rattle.aig_graph.specs.declared.graph.Gate.{Gate}
use Rattle.aig_graph.specs.declared.graph.Latch.{Latch}
use Rattle.aig_graph.specs.declared.properties.Symbols.{Symbols}
use Rattle.aig_graph.specs.Graph.{variable}
use Rattle.aig_graph.specs.Building.{gate_of}
use Rattle.aig_graph.specs.Circuits.{Netlist}
use Rattle.ascii_file.specs.declared.order.reads.Reads.{Reads}
use Rattle.ascii_file.specs.order.Order.{IsOrder, ordered}
use Rattle.file_words.specs.declared.fault.ReadError.{ReadError}
use Rattle.file_words.specs.declared.fault.ReadError.TheVariants.{Undefined, Cycle, NoMemory}
use Rattle.file_words.specs.Answering.{◌>>=◌, Fails}
use Rattle.ascii_file.specs.declared.parts.places.Places.{Places}
use Rattle.ascii_file.specs.parts.Places.{place_of}
use Rattle.ascii_file.specs.declared.header.Header.{Header}
use Rattle.ascii_file.specs.declared.raw.RawGate.{RawGate}
use Rattle.ascii_file.specs.declared.raw.RawLatch.{RawLatch}
use Rattle.ascii_file.specs.Raw.{Raw, defined}
use Rattle.ascii_file.specs.Files.{DefinesApart}
use Rattle.ascii_file.specs.Meaning as meaning
use Rattle.ascii_file.specs.Meaning.{gate_place, gate_reads, with_gates_at, in_order, literal_in, reset_of, props_of, symbols_of, circuit_of}
use Rattle.ascii_file.specs.Reading.{is_known_among, is_resolved, circuit_in_order, resolve}
use Rattle.file_words.proofs.AnsweringLaws.{Fails-same, Fails-err, Fails-ok}
use Rattle.aag_text.specs.Numbering.{is_placed, placed, if_known, placed_lists, PlacedLists}
use Rattle.aag_text.specs.Arranging.{AreRanks, gate_read, reads_of_gate, moved, moved_latch, moved_gate, no_gate, order_or_cycle}
use Rattle.aag_text.specs.Resolving.{arranged}
use Rattle.aag_text.proofs.GraphLaws.{distinct, ranked}
use Rattle.aag_text.proofs.PositionLaws.{IsReordered}
use Rattle.aag_text.proofs.MeaningLaws.{known_same, number_same, read_same, moved_same}

-- ---- what two tests together pass

-- if two tests pass together, the first does
pub both_left : (a b : Bool) → (a && b) ≡ true → a ≡ true
both_left true b e = refl
both_left false b e = e

-- if two tests pass together, the second does
pub both_right : (a b : Bool) → (a && b) ≡ true → b ≡ true
both_right true b e = e
both_right false b e = absurd (cc)

-- ---- lists

map_known : {X Y : Type 0} (known : X → Bool) (f g : X → Y) → ((x : X) → known x ≡ true → f x ≡ g x) → (xs : List X) → list_all known xs ≡ true → map f xs ≡ map g xs
map_known known f g same [] all = refl
map_known known f g same (x ∷ xs) all = ap₂ (λ y ys. y ∷ ys) (same x (both_left (known x) (list_all known xs) all)) (map_known known f g same xs (both_right (known x) (list_all known xs) all))

map_at : {X Y : Type 0} (f g : X → Y) (xs : List X) → ((k : ℕ) (d : X) → k < length xs → f (get_or xs k d) ≡ g (get_or xs k d)) → map f xs ≡ map g xs
map_at f g [] same = refl
map_at f g (x ∷ xs) same = ap₂ (λ y ys. y ∷ ys) (same 0 x (omega arith)) (map_at f g xs (λ k d less. same (suc k) d (omega (arith, less))))

-- if all elements of a list are known, the one at each place is
pub known_at : {X : Type 0} (known : X → Bool) (xs : List X) → list_all known xs ≡ true → (k : ℕ) (d : X) → k < length xs → known (get_or xs k d) ≡ true
known_at known [] all k d less = absurd (omega (arith, less))
known_at known (x ∷ xs) all zero d less = both_left (known x) (list_all known xs) all
known_at known (x ∷ xs) all (suc k) d less = known_at known xs (both_right (known x) (list_all known xs) all) k d (omega (arith, less))

place_mapped : {X : Type 0} (f : X → ℕ) (xs : List X) (v : ℕ) → position_or_len (λ x. f x == v) xs ≡ position_or_len (λ w. w == v) (map f xs)
place_mapped f [] v = refl
place_mapped f (x ∷ xs) v = ap (λ (n : ℕ). cond (not (f x == v)) (1 + n) 0) (place_mapped f xs v)

position_mapped : {X : Type 0} (f : X → ℕ) (xs : List X) (v : ℕ) → position (λ x. f x == v) xs ≡ position (λ w. w == v) (map f xs)
position_mapped f xs v = ap₂ (λ (n m : ℕ). cond (nat_lt n m) (Some n) None) (place_mapped f xs v) (sym (length-map xs f))

-- ---- all that is read

abbrev chain : (ℕ → Bool) → (ℕ → ℕ) → List RawLatch → List ℕ → List ℕ → List RawGate → Result PlacedLists ReadError
chain known number latches safety liveness gates =
    if_known (list_all (λ (latch : RawLatch). known latch.next) latches) (map (λ (latch : RawLatch). record { next = number latch.next; reset = reset_of latch.reset }) latches)
    >>= λ l. if_known (list_all known safety) (map number safety) >>= λ s. if_known (list_all known liveness) (map number liveness)
    >>= λ v. if_known (list_all (λ (gate : RawGate). known gate.rhs0 && known gate.rhs1) gates) (map (λ (gate : RawGate). record { rhs0 = number gate.rhs0; rhs1 = number gate.rhs1 }) gates)
    >>= λ g. Ok (record { latches = l; safety = s; liveness = v; gates = g })

abbrev pub as_placed : List Latch → List ℕ → List ℕ → List Gate → PlacedLists
as_placed latches safety liveness gates = record { latches = latches; safety = safety; liveness = liveness; gates = gates }

-- four parts that are known one after another are known if all four tests pass together
pub by_parts : (a b c d : Bool) (ls : List Latch) (ss vs : List ℕ) (gs : List Gate)
    → (if_known a ls >>= λ l. if_known b ss >>= λ s. if_known c vs >>= λ v. if_known d gs >>= λ g. Ok (as_placed l s v g))
    ≡ if_known (((a && b) && c) && d) (as_placed ls ss vs gs)
by_parts true true true true ls ss vs gs = refl
by_parts true true true false ls ss vs gs = refl
by_parts true true false d ls ss vs gs = refl
by_parts true false c d ls ss vs gs = refl
by_parts false b c d ls ss vs gs = refl

flat_known : (known : ℕ → Bool) (gates : List RawGate) → list_all known (flat_map (λ (gate : RawGate). gate.rhs0 ∷ gate.rhs1 ∷ []) gates) ≡ list_all (λ (gate : RawGate). known gate.rhs0 && known gate.rhs1) gates
flat_known known [] = refl
flat_known known (gate ∷ gates) =
    regroup (known gate.rhs0) (known gate.rhs1) (list_all known (flat_map (λ (gate : RawGate). gate.rhs0 ∷ gate.rhs1 ∷ []) gates)) ∙ ap (λ (b : Bool). (known gate.rhs0 && known gate.rhs1) && b) (flat_known known gates)
  where
    regroup : (a b c : Bool) → (a && (b && c)) ≡ ((a && b) && c)
    regroup true b c = refl
    regroup false b c = refl

abbrev latches_known : Raw → Bool
latches_known raw = list_all (λ (latch : RawLatch). is_known_among (defined raw) latch.next) raw.latches

abbrev gates_known : Raw → Bool
gates_known raw = list_all (λ (gate : RawGate). is_known_among (defined raw) gate.rhs0 && is_known_among (defined raw) gate.rhs1) raw.gates

resolved_parts : (raw : Raw) → is_resolved raw ≡ (((latches_known raw && list_all (is_known_among (defined raw)) raw.safety) && list_all (is_known_among (defined raw)) raw.liveness) && gates_known raw)
unfolding is_resolved
resolved_parts raw =
    let nexts = map (λ (latch : RawLatch). latch.next) raw.latches in
    list_all-append (is_known_among (defined raw)) (nexts ++ raw.safety ++ raw.liveness) (flat_map (λ (gate : RawGate). gate.rhs0 ∷ gate.rhs1 ∷ []) raw.gates)
    ∙ ap₂ (λ (a b : Bool). a && b)
    (list_all-append (is_known_among (defined raw)) (nexts ++ raw.safety) raw.liveness
    ∙ ap (λ (a : Bool). a && list_all (is_known_among (defined raw)) raw.liveness)
    (list_all-append (is_known_among (defined raw)) nexts raw.safety ∙ ap (λ (a : Bool). a && list_all (is_known_among (defined raw)) raw.safety) (list_all-map (is_known_among (defined raw)) (λ (latch : RawLatch). latch.next) raw.latches)))
    (flat_known (is_known_among (defined raw)) raw.gates)

-- the lists by positions
abbrev pub by_position : Raw → PlacedLists
by_position raw = record {
  latches = map (λ (latch : RawLatch). record { next = literal_in (defined raw) latch.next; reset = reset_of latch.reset }) raw.latches;
  safety = map (literal_in (defined raw)) raw.safety;
  liveness = map (literal_in (defined raw)) raw.liveness;
  gates = map (λ (gate : RawGate). record { rhs0 = literal_in (defined raw) gate.rhs0; rhs1 = literal_in (defined raw) gate.rhs1 }) raw.gates;
}

-- the lists of a raw circuit by places are those by positions, if all that it reads is defined
pub placed_is : (raw : Raw) (places : Places) (count : ℕ) → count ≡ length (defined raw) → ((v : ℕ) → place_of places v ≡ position (λ w. w == v) (defined raw))
    → placed_lists places count raw.latches raw.safety raw.liveness raw.gates ≡ if_known (is_resolved raw) (by_position raw)
placed_is raw places count same are =
    let functions : chain (is_placed places count) (placed places) raw.latches raw.safety raw.liveness raw.gates ≡ chain (is_known_among (defined raw)) (literal_in (defined raw)) raw.latches raw.safety raw.liveness raw.gates
    = ap₂ (λ (known : ℕ → Bool) (number : ℕ → ℕ). chain known number raw.latches raw.safety raw.liveness raw.gates)
    (λ i. λ lit. known_same places (defined raw) are count same lit i) (λ i. λ lit. number_same places (defined raw) are lit i) in
    functions
    ∙ by_parts (latches_known raw) (list_all (is_known_among (defined raw)) raw.safety) (list_all (is_known_among (defined raw)) raw.liveness) (gates_known raw)
    (by_position raw).latches (by_position raw).safety (by_position raw).liveness (by_position raw).gates
    ∙ ap (λ (b : Bool). if_known b (by_position raw)) (sym (resolved_parts raw))

-- what isn't known fails both
unknown_fails : {A B : Type 0} (e : ReadError) (known : Bool) (x : A) (read : Result B ReadError) → Fails NoMemory e (if_known known x) → Fails NoMemory e (cond known read (Err Undefined))
unknown_fails e true x read fails = Fails-ok e x read fails
unknown_fails e false x read fails = Fails-err e Undefined (Err Undefined) (Err Undefined) refl refl fails

-- a fault of the lists by places is that of the raw circuit
pub placing_fails : (h : Header) (raw : Raw) (e : ReadError) (read : Result PlacedLists ReadError) → read ≡ if_known (is_resolved raw) (by_position raw) → Fails NoMemory e read → Fails NoMemory e (resolve h raw)
placing_fails h raw e read is fails = unknown_fails e (is_resolved raw) (by_position raw) (circuit_in_order h (in_order raw)) (Fails-same e read (if_known (is_resolved raw) (by_position raw)) is fails)

-- what is known passes the test, and is the value
pub known_value : {A : Type 0} (known : Bool) (x y : A) → if_known known x ≡ Ok y → (known ≡ true) × (x ≡ y)
known_value true x y e = (refl, cc)
known_value false x y e = absurd (cc)

-- ---- a raw circuit of which all is known, and whose variables are apart

abbrev front_of : Raw → List ℕ
front_of raw = map variable raw.inputs ++ map (λ (latch : RawLatch). variable latch.current) raw.latches

abbrev back_of : Raw → List ℕ
back_of raw = map (λ (gate : RawGate). variable gate.lhs) raw.gates

-- a raw circuit defines as many variables as it has inputs, latches and gates
pub length-defined : (raw : Raw) → length (defined raw) ≡ length raw.inputs + length raw.latches + length raw.gates
length-defined raw =
    omega (
      arith,
      length-append (map variable raw.inputs ++ map (λ (latch : RawLatch). variable latch.current) raw.latches) (map (λ (gate : RawGate). variable gate.lhs) raw.gates),
      length-append (map variable raw.inputs) (map (λ (latch : RawLatch). variable latch.current) raw.latches),
      length-map raw.inputs variable,
      length-map raw.latches (λ (latch : RawLatch). variable latch.current),
      length-map raw.gates (λ (gate : RawGate). variable gate.lhs),
    )

length-front : (raw : Raw) → length (front_of raw) ≡ length raw.inputs + length raw.latches
length-front raw =
    omega (
      arith,
      length-append (map variable raw.inputs) (map (λ (latch : RawLatch). variable latch.current) raw.latches),
      length-map raw.inputs variable,
      length-map raw.latches (λ (latch : RawLatch). variable latch.current),
    )

record AllKnown (raw : Raw) : Type 0 where
  latches : latches_known raw ≡ true
  safety : list_all (is_known_among (defined raw)) raw.safety ≡ true
  liveness : list_all (is_known_among (defined raw)) raw.liveness ≡ true
  gates : gates_known raw ≡ true

all_known : (raw : Raw) → is_resolved raw ≡ true → AllKnown raw
all_known raw resolved =
    let all = sym (resolved_parts raw) ∙ resolved in
    let three = both_left _ (gates_known raw) all in
    let two = both_left _ (list_all (is_known_among (defined raw)) raw.liveness) three in
    record {
      latches = both_left (latches_known raw) (list_all (is_known_among (defined raw)) raw.safety) two;
      safety = both_right (latches_known raw) (list_all (is_known_among (defined raw)) raw.safety) two;
      liveness = both_right (latches_known raw && list_all (is_known_among (defined raw)) raw.safety) (list_all (is_known_among (defined raw)) raw.liveness) three;
      gates = both_right ((latches_known raw && list_all (is_known_among (defined raw)) raw.safety) && list_all (is_known_among (defined raw)) raw.liveness) (gates_known raw) all;
    }

module _ (raw : Raw) (apart : DefinesApart raw) (resolved : is_resolved raw ≡ true) (first : ℕ) (from : first ≡ 1 + length raw.inputs + length raw.latches) where
  first_is : first ≡ 1 + length (front_of raw)
  first_is = omega (arith, from, length-front raw)

  no_constant : (j : ℕ) → j < length (back_of raw) → get_or (back_of raw) j 0 ≢ 0
  no_constant j less same =
      let short : j < length raw.gates = omega (arith, less, length-map raw.gates (λ (gate : RawGate). variable gate.lhs)) in
      let definable = apart.gates j meaning.no_gate short in
      let is : get_or (back_of raw) j 0 ≡ variable (get_or raw.gates j meaning.no_gate).lhs = get_or-map (λ (gate : RawGate). variable gate.lhs) raw.gates j meaning.no_gate 0 short in
      omega (arith, definable.1, is, same)

  literal_read : (lit : ℕ) → is_known_among (defined raw) lit ≡ true → gate_read first (literal_in (defined raw) lit) ≡ gate_place raw lit
  literal_read lit known =
      read_same (front_of raw) (back_of raw) apart.apart no_constant first lit first_is known ∙ sym (position_mapped (λ (gate : RawGate). variable gate.lhs) raw.gates (variable lit))

  -- the gates read what they read in the file
  pub reads_are : map (reads_of_gate first) (by_position raw).gates ≡ gate_reads raw
  reads_are =
      map-map (reads_of_gate first) (λ (gate : RawGate). record { rhs0 = literal_in (defined raw) gate.rhs0; rhs1 = literal_in (defined raw) gate.rhs1 }) raw.gates
      ∙ map_known (λ (gate : RawGate). is_known_among (defined raw) gate.rhs0 && is_known_among (defined raw) gate.rhs1)
      (λ (gate : RawGate). record { first = gate_read first (literal_in (defined raw) gate.rhs0); second = gate_read first (literal_in (defined raw) gate.rhs1) })
      (λ (gate : RawGate). record { first = gate_place raw gate.rhs0; second = gate_place raw gate.rhs1 })
      (λ gate known. ap₂ (λ (a b : Option ℕ). record { first = a; second = b }) (literal_read gate.rhs0 (both_left _ _ known)) (literal_read gate.rhs1 (both_right _ _ known)))
      raw.gates (all_known raw resolved).gates

  -- ---- in an order of the gates

  module _ (order ranks : List ℕ) (is : IsOrder (map (reads_of_gate first) (by_position raw).gates) order) (are : AreRanks order ranks) where
    many_reads : length (map (reads_of_gate first) (by_position raw).gates) ≡ length raw.gates
    many_reads = length-map (by_position raw).gates (reads_of_gate first) ∙ length-map raw.gates (λ (gate : RawGate). record { rhs0 = literal_in (defined raw) gate.rhs0; rhs1 = literal_in (defined raw) gate.rhs1 })

    order_short : (k d : ℕ) → k < length order → get_or order k d < length raw.gates
    order_short k d less = let below = (distinct (map (reads_of_gate first) (by_position raw).gates) order is).below k d less in omega (arith, below, is.as_many, many_reads)

    reordered : IsReordered (front_of raw) (back_of raw) (map (λ (gate : RawGate). variable gate.lhs) (map (λ k. get_or raw.gates k meaning.no_gate) order)) order ranks
    reordered = record {
      apart = apart.apart;
      order_many = omega (arith, is.as_many, many_reads, length-map raw.gates (λ (gate : RawGate). variable gate.lhs));
      order_below = λ j less. let short = order_short j 0 less in omega (arith, short, length-map raw.gates (λ (gate : RawGate). variable gate.lhs));
      alone = (distinct (map (reads_of_gate first) (by_position raw).gates) order is).alone;
      ranked = λ g less. ranked (map (reads_of_gate first) (by_position raw).gates) order ranks is are g (omega (arith, less, many_reads, length-map raw.gates (λ (gate : RawGate). variable gate.lhs)));
      again_many = length-map (map (λ k. get_or raw.gates k meaning.no_gate) order) (λ (gate : RawGate). variable gate.lhs) ∙ length-map order (λ k. get_or raw.gates k meaning.no_gate);
      again_at = λ j less.
          get_or-map (λ (gate : RawGate). variable gate.lhs) (map (λ k. get_or raw.gates k meaning.no_gate) order) j meaning.no_gate 0 (omega (arith, less, length-map order (λ k. get_or raw.gates k meaning.no_gate)))
          ∙ ap (λ (gate : RawGate). variable gate.lhs) (get_or-map (λ k. get_or raw.gates k meaning.no_gate) order j 0 meaning.no_gate less)
          ∙ sym (get_or-map (λ (gate : RawGate). variable gate.lhs) raw.gates (get_or order j 0) meaning.no_gate 0 (order_short j 0 less));
    }

    literal_moved : (lit : ℕ) → is_known_among (defined raw) lit ≡ true → moved first ranks (literal_in (defined raw) lit) ≡ literal_in (defined (with_gates_at raw order)) lit
    literal_moved lit known = moved_same (front_of raw) (back_of raw) (map (λ (gate : RawGate). variable gate.lhs) (map (λ k. get_or raw.gates k meaning.no_gate) order)) order ranks reordered first lit first_is known

    -- known literals by positions, moved by the ranks, are the literals once the gates stand in
    -- order
    pub literals_moved : (lits : List ℕ) → list_all (is_known_among (defined raw)) lits ≡ true → map (moved first ranks) (map (literal_in (defined raw)) lits) ≡ map (literal_in (defined (with_gates_at raw order))) lits
    literals_moved lits known =
        map-map (moved first ranks) (literal_in (defined raw)) lits
        ∙ map_known (is_known_among (defined raw)) (λ lit. moved first ranks (literal_in (defined raw) lit)) (literal_in (defined (with_gates_at raw order))) literal_moved lits known

    -- latches by positions, moved by the ranks, are the latches once the gates stand in order
    pub latches_moved : map (moved_latch first ranks) (by_position raw).latches
        ≡ map (λ (latch : RawLatch). record { next = literal_in (defined (with_gates_at raw order)) latch.next; reset = reset_of latch.reset }) raw.latches
    latches_moved =
        map-map (moved_latch first ranks) (λ (latch : RawLatch). record { next = literal_in (defined raw) latch.next; reset = reset_of latch.reset }) raw.latches
        ∙ map_known (λ (latch : RawLatch). is_known_among (defined raw) latch.next) (λ (latch : RawLatch). record { next = moved first ranks (literal_in (defined raw) latch.next); reset = reset_of latch.reset })
        (λ (latch : RawLatch). record { next = literal_in (defined (with_gates_at raw order)) latch.next; reset = reset_of latch.reset })
        (λ latch known. ap (λ (n : ℕ). record { next = n; reset = reset_of latch.reset }) (literal_moved latch.next known)) raw.latches (all_known raw resolved).latches

    -- gates by positions, moved by the ranks and in order, are the gates once they stand in order
    pub gates_moved : map (λ g. moved_gate first ranks (get_or (by_position raw).gates g no_gate)) order
        ≡ map (λ (gate : RawGate). gate_of (literal_in (defined (with_gates_at raw order)) gate.rhs0) (literal_in (defined (with_gates_at raw order)) gate.rhs1)) (map (λ k. get_or raw.gates k meaning.no_gate) order)
    gates_moved =
        map_at (λ g. moved_gate first ranks (get_or (by_position raw).gates g no_gate))
        (λ k. gate_of (literal_in (defined (with_gates_at raw order)) (get_or raw.gates k meaning.no_gate).rhs0) (literal_in (defined (with_gates_at raw order)) (get_or raw.gates k meaning.no_gate).rhs1)) order
        (λ k d less.
        let short = order_short k d less in
        let known = known_at (λ (gate : RawGate). is_known_among (defined raw) gate.rhs0 && is_known_among (defined raw) gate.rhs1) raw.gates (all_known raw resolved).gates (get_or order k d) meaning.no_gate short in
        let is_gate : get_or (by_position raw).gates (get_or order k d) no_gate
        ≡ record { rhs0 = literal_in (defined raw) (get_or raw.gates (get_or order k d) meaning.no_gate).rhs0; rhs1 = literal_in (defined raw) (get_or raw.gates (get_or order k d) meaning.no_gate).rhs1 }
        = get_or-map (λ (gate : RawGate). record { rhs0 = literal_in (defined raw) gate.rhs0; rhs1 = literal_in (defined raw) gate.rhs1 }) raw.gates (get_or order k d) meaning.no_gate no_gate short in
        ap (moved_gate first ranks) is_gate
        ∙ ap₂ gate_of (literal_moved (get_or raw.gates (get_or order k d) meaning.no_gate).rhs0 (both_left _ _ known)) (literal_moved (get_or raw.gates (get_or order k d) meaning.no_gate).rhs1 (both_right _ _ known)))
        ∙ sym (map-map (λ (gate : RawGate). gate_of (literal_in (defined (with_gates_at raw order)) gate.rhs0) (literal_in (defined (with_gates_at raw order)) gate.rhs1)) (λ k. get_or raw.gates k meaning.no_gate) order)

-- ---- the answer

-- the circuit of these parts
abbrev of_parts : Header → Symbols → ℕ → List ℕ → List Latch → List Gate → List ℕ → List ℕ → Netlist
of_parts h names inputs sizes latches gates safety liveness = record { aig = record { inputs = inputs; latches = latches; gates = gates }; props = props_of h safety sizes liveness; symbols = names }

-- the arranged circuit is that of the raw circuit with its gates in order
pub circuit_is : (h : Header) (raw : Raw) → DefinesApart raw → is_resolved raw ≡ true → length raw.inputs ≡ h.inputs → length raw.latches ≡ h.latches → (order ranks : List ℕ)
    → IsOrder (map (reads_of_gate (1 + h.inputs + h.latches)) (by_position raw).gates) order → AreRanks order ranks
    → arranged h raw.sizes (by_position raw) (symbols_of raw.symbols) order ranks ≡ circuit_of h (with_gates_at raw order)
unfolding circuit_of
circuit_is h raw apart resolved inputs latches order ranks is are =
    let from : 1 + h.inputs + h.latches ≡ 1 + length raw.inputs + length raw.latches = omega (arith, inputs, latches) in
    let own : 1 + h.inputs + length (by_position raw).latches ≡ 1 + h.inputs + h.latches
    = omega (arith, latches, length-map {B = Latch} raw.latches (λ (latch : RawLatch). record { next = literal_in (defined raw) latch.next; reset = reset_of latch.reset })) in
    let known = all_known raw resolved in
    ap (λ (n : ℕ). of_parts h (symbols_of raw.symbols) h.inputs raw.sizes (map (moved_latch n ranks) (by_position raw).latches) (map (λ g. moved_gate n ranks (get_or (by_position raw).gates g no_gate)) order)
    (map (moved (1 + h.inputs + h.latches) ranks) (by_position raw).safety) (map (moved (1 + h.inputs + h.latches) ranks) (by_position raw).liveness)) own
    ∙ parts_same h (symbols_of raw.symbols) raw.sizes _ _ _ _ _ _ _ _ _ _ (sym inputs) (latches_moved raw apart resolved (1 + h.inputs + h.latches) from order ranks is are)
    (gates_moved raw apart resolved (1 + h.inputs + h.latches) from order ranks is are) (literals_moved raw apart resolved (1 + h.inputs + h.latches) from order ranks is are raw.safety known.safety)
    (literals_moved raw apart resolved (1 + h.inputs + h.latches) from order ranks is are raw.liveness known.liveness)
  where
    parts_same : (h : Header) (names : Symbols) (sizes : List ℕ) (n m : ℕ) (ls ls' : List Latch) (gs gs' : List Gate) (ss ss' vs vs' : List ℕ) → n ≡ m → ls ≡ ls' → gs ≡ gs' → ss ≡ ss' → vs ≡ vs'
        → of_parts h names n sizes ls gs ss vs ≡ of_parts h names m sizes ls' gs' ss' vs'
    parts_same h names sizes n m ls ls' gs gs' ss ss' vs vs' a b c d e = rw (a, b, c, d, e) refl

-- the answer if all is known: what comes of the order
pub resolved_is : (h : Header) (raw : Raw) (found : Option (List ℕ)) → is_resolved raw ≡ true → ordered (gate_reads raw) ≡ found → resolve h raw ≡ circuit_in_order h (option_map (with_gates_at raw) found)
resolved_is h raw found resolved is = cond-true _ _ _ resolved ∙ ap (λ (o : Option (List ℕ)). circuit_in_order h (option_map (with_gates_at raw) o)) is

cycle_fails : (h : Header) (raw : Raw) (e : ReadError) (o : Option (List ℕ)) → Fails NoMemory e (order_or_cycle o) → Fails NoMemory e (circuit_in_order h (option_map (with_gates_at raw) o))
cycle_fails h raw e None fails = Fails-err e Cycle (order_or_cycle None) (circuit_in_order h None) refl refl fails
cycle_fails h raw e (Some order) fails = Fails-ok e order (circuit_in_order h (Some (with_gates_at raw order))) fails

-- an error of the order
pub ordering_fails : (h : Header) (raw : Raw) (reads : List Reads) (e : ReadError) → is_resolved raw ≡ true → reads ≡ gate_reads raw → Fails NoMemory e (order_or_cycle (ordered reads)) → Fails NoMemory e (resolve h raw)
ordering_fails h raw reads e resolved same fails =
    Fails-same e (circuit_in_order h (option_map (with_gates_at raw) (ordered reads))) (resolve h raw) (sym (resolved_is h raw (ordered reads) resolved (ap ordered (sym same)))) (cycle_fails h raw e (ordered reads) fails)
