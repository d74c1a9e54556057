-- A circuit that stays what it is.
use Rattle.std.proofs.Common.{ℕ, ◌+◌, ◌*◌, ◌<◌, ◌≡◌, List, length, get_or, slice_get, Option, Some, None, arith, refl, ap, ◌∙◌}
use Rattle.std.proofs.lemmas.List.{get_or_default}
use Rattle.std.proofs.lemmas.Option.{slice_get-get_or}
use Rattle.aig_graph.specs.declared.graph.Latch.{Latch}
use Rattle.aig_graph.specs.declared.graph.Reset.TheVariants.{Zero}
use Rattle.aig_graph.specs.declared.properties.Symbol.{Symbol}
use Rattle.aig_graph.specs.Circuits.{Netlist, IsNetlist}
use Rattle.aig_graph.proofs.StreamLaws.{same_streams-reflexive}
use Rattle.aig_graph.specs.Tables.{table}
use Rattle.aig_graph.proofs.TableLaws.{length-table, table-at}
use Rattle.backward_circuits.specs.Drawn.{IsWires}
use Rattle.backward_circuits.specs.MovedBack.{IsFit, IsHeldBackIn, IsMovedBack, IsNamedBack, IsWithin}

within-itself : (bound : Option ℕ) (c : Netlist) → IsWithin bound c c
within-itself None c = tt
within-itself (Some bound) c = omega arith

module _ (c m : Netlist) (netlist : IsNetlist c) (wires : IsWires c m) where
  output-at : (k : ℕ) → k < length c.aig.latches → slice_get m.props.outputs k ≡ Some (2 * (1 + k))
  output-at k less =
      let inputs : List ℕ = table 0 (length c.aig.latches) (λ j. 2 * (1 + j)) in
      let place : 2 * (1 + (0 + k)) ≡ 2 * (1 + k) = omega arith in
      ap (λ (xs : List ℕ). slice_get xs k) wires.outputs
      ∙ slice_get-get_or inputs k 0 (omega (arith, less, length-table 0 (length c.aig.latches) (λ j. 2 * (1 + j))))
      ∙ ap (λ (n : ℕ). Some n) (table-at 0 (length c.aig.latches) (λ j. 2 * (1 + j)) k 0 less ∙ place)

  held-at : (k : ℕ) → IsHeldBackIn c c m k
  held-at k less =
      let none : Latch = record { next = 0; reset = Zero } in
      let here = slice_get-get_or c.aig.latches k none less in (
        k,
        record {
          before = get_or c.aig.latches k none;
          after = get_or c.aig.latches k none;
          here = here;
          there = here;
          output = output-at k less;
          reset = refl;
        },
      )

  named-at : (k : ℕ) (s : Symbol) → k < length c.symbols.latches → get_or c.symbols.latches k s ≡ s → IsNamedBack c m s
  named-at k s less is =
      let below = netlist.symbols.latches.below k s less in
      (s.position, output-at s.position (omega (arith, below, ap (λ (t : Symbol). t.position) is)), (k, less, is))

  fits-itself : (held : List ℕ) → IsFit c held c m
  fits-itself held = record {
    fewer = omega arith;
    held_back = record {
      latches = λ k d less. held-at (get_or held k d);
      names = λ k d less here. named-at k (get_or c.symbols.latches k d) less (get_or_default c.symbols.latches k (get_or c.symbols.latches k d) d less);
    };
  }

  -- a circuit is what it may become
  pub moved-itself : (held : List ℕ) (bound : Option ℕ) → IsMovedBack c held bound c m
  moved-itself held bound = record {
    turned = record { streams = same_streams-reflexive c; map = wires.map; free = wires.free };
    fit = fits-itself held;
    within = within-itself bound c;
  }
