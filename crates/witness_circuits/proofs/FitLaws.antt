-- What is shared are inputs and latches that there are.
use Rattle.std.proofs.Common.{inl, inr, ℕ, ◌+◌, ◌<◌, ◌≡◌, length, slice_get, List, Option, Some, None, arith, ap, sym, ◌∙◌, nat_lt}
use Rattle.std.proofs.lemmas.Bool.{ltb-true}
use Rattle.std.proofs.lemmas.Option.{cond_some, get_or_from_slice_get, slice_get_within}
use Rattle.aig_graph.specs.Tables.{table}
use Rattle.aig_graph.proofs.TableLaws.{length-table, table-at}
use Rattle.aig_graph.specs.Circuits.{Netlist}
use Rattle.witness_circuits.specs.declared.sharing.Sharing.{Sharing}
use Rattle.witness_circuits.specs.Witnesses.{IsSharing}
use Rattle.witness_circuits.specs.Naming.{IsByNames, IsByPlaces, IsSharedBy, place_below}

-- an entry by number is that of what there is
pub below-count : (many count i p : ℕ) (places : List (Option ℕ)) → places ≡ table 0 many (place_below count) → slice_get places i ≡ Some (Some p) → p < count
below-count many count i p places filled e =
    let there : slice_get (table 0 many (place_below count)) i ≡ Some (Some p) = ap (λ (ps : List (Option ℕ)). slice_get ps i) (sym filled) ∙ e in
    let short : i < many = omega (arith, slice_get_within (table 0 many (place_below count)) i (Some p) there, length-table 0 many (place_below count)) in
    let read : place_below count (0 + i) ≡ Some p = sym (table-at 0 many (place_below count) i None short) ∙ get_or_from_slice_get (table 0 many (place_below count)) i (Some p) None there in
    let both = cond_some (nat_lt (0 + i) count) (0 + i) p read in
    let less : 0 + i < count = ltb-true (0 + i) count both.0 in
    omega (arith, less, both.1)

-- each input and latch of the witness is shared, by names or by places, with one that the model has
-- or with none
pub shared-fits : (c w : Netlist) (k : Sharing) → IsSharedBy c w k → IsSharing c w k
shared-fits c w k (inl named) =
    let p : IsByNames c w k = named.1 in
    record {
      inputs = p.inputs.long;
      latches = p.latches.long;
      inputs_below = λ i place e. (p.inputs.shared i place e).0;
      latches_below = λ j place e. (p.latches.shared j place e).0;
    }
shared-fits c w k (inr unnamed) =
    let p : IsByPlaces c w k = unnamed.2 in
    record {
      inputs = ap length p.inputs ∙ length-table 0 w.aig.inputs (place_below c.aig.inputs);
      latches = ap length p.latches ∙ length-table 0 (length w.aig.latches) (place_below (length c.aig.latches));
      inputs_below = λ i place e. below-count w.aig.inputs c.aig.inputs i place k.inputs p.inputs e;
      latches_below = λ j place e. below-count (length w.aig.latches) (length c.aig.latches) j place k.latches p.latches e;
    }
