-- The reading in which each latch reads as itself is one that steps preserve.
use Rattle.std.proofs.Common.{ℕ, zero-add, ◌<◌, ◌≡◌, List, length, slice_get, arith, ap, sym, ◌∙◌}
use Rattle.std.proofs.lemmas.Option.{same_Some, slice_get_within}
use Rattle.aig_graph.specs.declared.graph.Latch.{Latch}
use Rattle.aig_graph.specs.Graph.{Graph}
use Rattle.aig_graph.proofs.TableLaws.{length-table, table-at}
use Rattle.merged_circuits.specs.Inductive.{IsInductive, told}
use Rattle.merged_circuits.specs.Readings.{IsReading, as_itself, own_literal, own_reading, read}

module _ (g : Graph) (held : List ℕ) where
  -- each latch reads as itself
  reads-itself : (j : ℕ) → j < length g.latches → read (own_reading g) j ≡ own_literal g j
  unfolding own_reading
  reads-itself j h = table-at 0 (length g.latches) (own_literal g) j 0 h ∙ ap (own_literal g) (zero-add j)

  -- there is a literal for each latch
  pub own-long : length (own_reading g) ≡ length g.latches
  unfolding own_reading
  own-long = length-table 0 (length g.latches) (own_literal g)

  -- each latch may read so
  pub own-reading : IsReading g held (own_reading g)
  own-reading = record {
    long = own-long;
    each = λ j latch there. as_itself (reads-itself j (slice_get_within g.latches j latch there));
  }

  -- no question is asked
  pub own-inductive : IsInductive g held (own_reading g)
  own-inductive = record {
    reading = own-reading;
    constants = λ j latch there zero. absurd (omega (arith, zero, reads-itself j (slice_get_within g.latches j latch there)));
    alike = λ j i latch first there first_there is values respects agree.
        let place : j ≡ i = omega (arith, is, reads-itself j (slice_get_within g.latches j latch there)) in
        let one : latch ≡ first = same_Some latch first (sym there ∙ ap (slice_get g.latches) place ∙ first_there) in
        ap (λ (l : Latch). values (told l)) one;
  }
