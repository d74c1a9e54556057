-- A circuit that is lifted as a witness circuit with latches of its own alone stands beside the
-- other one.
use Rattle.std.proofs.Common.{ℕ, suc, zero, ◌+◌, ◌<◌, ◌≤◌, ◌≡◌, Bool, List, length, take, slice_get, Option, Some, None, refl, arith, ap, sym, ◌∙◌, subst, if◌then◌else◌}
use Rattle.std.proofs.Math.Seq.{take-length}
use Rattle.std.proofs.lemmas.Bool.{le-ltb, lt-ltb}
use Rattle.std.proofs.lemmas.Option.{slice_get-get_or, slice_get_within}
use Rattle.aig_graph.specs.Tables.{table}
use Rattle.aig_graph.proofs.TableLaws.{length-table, table-at}
use Rattle.aig_graph.specs.Circuits.{Netlist}
use Rattle.aig_graph.specs.Graph.{IsGraph, IsLiteralOf}
use Rattle.state_maps.specs.MapCircuits.{mapped}
use Rattle.state_maps.specs.States.{Digits, State}
use Rattle.witness_circuits.specs.declared.sharing.Sharing.{Sharing}
use Rattle.witness_circuits.specs.Joining.{own_at, own_count}
use Rattle.witness_circuits.specs.Lifting.{GoesAs, IsLiftedOver, in_witness, witness_digits, witness_state}
use Rattle.witness_circuits.specs.Naming.{place_below}
use Rattle.witness_circuits.specs.Parts.{IsLiftable}
use Rattle.witness_circuits.proofs.AgreeLaws.{alike-itself, literal-alike}
use Rattle.witness_circuits.proofs.CountLaws.{count-own, count-shared}
use Rattle.witness_circuits.proofs.FitLaws.{below-count}
use Rattle.witness_circuits.proofs.JoiningLaws.{joined-agrees, joined-own}
use Rattle.map_miters.specs.Products.{second_state}
use Rattle.map_miters.specs.Beside.{IsBeside, beside_sharing, in_second, no_map}

-- the entries of a table of places
place-read : (many count i : ℕ) → i < many → slice_get (table 0 many (place_below count)) i ≡ Some (place_below count i)
place-read many count i less =
    let at : 0 + i ≡ i = omega arith in
    slice_get-get_or (table 0 many (place_below count)) i None (omega (arith, less, length-table 0 many (place_below count)))
    ∙ ap (λ (o : Option ℕ). Some o) (table-at 0 many (place_below count) i None less ∙ ap (place_below count) at)

place-there : (count i : ℕ) → i < count → place_below count i ≡ Some i
place-there count i less = ap (λ (b : Bool). if b then Some i else None) (lt-ltb i count less)

place-none : (i : ℕ) → place_below 0 i ≡ None
place-none i = ap (λ (b : Bool). if b then Some i else None) (le-ltb i 0 (omega arith))

-- all latches are the second's own, and no input
own-place : (many j : ℕ) → j < many → slice_get (table 0 many (place_below 0)) j ≡ Some None
own-place many j less = place-read many 0 j less ∙ ap (λ (o : Option ℕ). Some o) (place-none j)

shared-place : (many count i : ℕ) → many ≤ count → i < many → slice_get (table 0 many (place_below count)) i ≡ Some (Some i)
shared-place many count i fits less = place-read many count i less ∙ ap (λ (o : Option ℕ). Some o) (place-there count i (omega (arith, fits, less)))

own-before : (many j : ℕ) → j ≤ many → own_count (take j (table 0 many (place_below 0))) ≡ j
own-before many zero h = refl
own-before many (suc j) h =
    let places : List (Option ℕ) = table 0 many (place_below 0) in
    let next : suc j ≡ j + 1 = omega arith in
    ap (λ (n : ℕ). own_count (take n places)) next ∙ count-own places j (own-place many j (omega (arith, h))) ∙ ap (λ (n : ℕ). n + 1) (own-before many j (omega (arith, h))) ∙ sym next

shared-before : (many count j : ℕ) → many ≤ count → j ≤ many → own_count (take j (table 0 many (place_below count))) ≡ 0
shared-before many count zero fits h = refl
shared-before many count (suc j) fits h =
    let places : List (Option ℕ) = table 0 many (place_below count) in
    let next : suc j ≡ j + 1 = omega arith in
    ap (λ (n : ℕ). own_count (take n places)) next ∙ count-shared places j j (shared-place many count j fits (omega (arith, h))) ∙ shared-before many count j fits (omega (arith, h))

own-all : (many : ℕ) → own_count (table 0 many (place_below 0)) ≡ many
own-all many =
    let places : List (Option ℕ) = table 0 many (place_below 0) in
    sym (ap own_count (take-length places)) ∙ ap (λ (n : ℕ). own_count (take n places)) (length-table 0 many (place_below 0)) ∙ own-before many many (omega arith)

own-none : (many count : ℕ) → many ≤ count → own_count (table 0 many (place_below count)) ≡ 0
own-none many count fits =
    let places : List (Option ℕ) = table 0 many (place_below count) in
    sym (ap own_count (take-length places)) ∙ ap (λ (n : ℕ). own_count (take n places)) (length-table 0 many (place_below count)) ∙ shared-before many count many fits (omega arith)

module _ (c d : Netlist) (wide : d.aig.inputs ≡ c.aig.inputs) where
  abbrev n : ℕ
  n = length c.aig.latches

  abbrev k : Sharing
  k = beside_sharing c.aig d.aig

  -- the second circuit can be lifted over the first
  pub liftable : IsLiftable c (no_map n) d k
  liftable = record {
    map_inputs = refl;
    map_latches = refl;
    shares = record {
      inputs = length-table 0 d.aig.inputs (place_below c.aig.inputs);
      latches = length-table 0 (length d.aig.latches) (place_below 0);
      inputs_below = λ i place e. below-count d.aig.inputs c.aig.inputs i place k.inputs refl e;
      latches_below = λ j place e. below-count (length d.aig.latches) 0 j place k.latches refl e;
    };
  }

  -- what is lifted is both beside each other
  pub is-beside : IsGraph d.aig → (b : Netlist) → IsLiftedOver c (no_map n) d k b → IsBeside c d b
  is-beside valid b lifted = record {
    inputs = omega (arith, lifted.inputs, own-none d.aig.inputs c.aig.inputs (omega (arith, wide)));
    latches = omega (arith, lifted.latches, own-all (length d.aig.latches));
    first = lifted.first;
    second = λ j latch there.
        let short : j < length d.aig.latches = slice_get_within d.aig.latches j latch there in
        let at : own_at n k.latches j ≡ n + j = ap (λ (x : ℕ). n + x) (own-before (length d.aig.latches) j (omega (arith, short))) in
        let goes : GoesAs b.aig (n + j) latch (in_witness c (no_map n) d k) =
        subst (λ (p : ℕ). GoesAs b.aig p latch (in_witness c (no_map n) d k)) at (lifted.own j latch (own-place (length d.aig.latches) j short) there) in
        record { is = goes.is; there = goes.there; reset = goes.reset; next = λ z u. goes.next z u ∙ same z u latch.next (valid.latches j latch there) };
    allowed = lifted.allowed;
  }
    where
      same : (z : Digits) (u : State) (lit : ℕ) → IsLiteralOf d.aig lit → in_witness c (no_map n) d k z u lit ≡ in_second c d z u lit
      same z u lit within =
          literal-alike d.aig d.aig valid valid (alike-itself d.aig) z (witness_digits c k z) (second_state c.aig u) (witness_state c (no_map n) k u) (record {
            inputs = λ i less. joined-agrees k.inputs z (λ i. z (own_at c.aig.inputs k.inputs i)) i i (shared-place d.aig.inputs c.aig.inputs i (omega (arith, wide)) less);
            latches = λ j less.
                let at : own_at n k.latches j ≡ n + j = ap (λ (x : ℕ). n + x) (own-before (length d.aig.latches) j (omega (arith, less))) in
                joined-own k.latches (mapped (no_map n) u) (λ j. u (own_at n k.latches j)) j (own-place (length d.aig.latches) j less) ∙ ap u at;
          }) lit within
