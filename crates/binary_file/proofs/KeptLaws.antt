-- What holds of all that is read goes on to hold.
use Rattle.std.proofs.Common.{◌+◌, ◌<◌, ◌≤◌, ◌≡◌, [], ◌∷◌, ◌++◌, length, Bool, true, false, not, inl, inr, Result, Ok, Err, IfOk, OnErr, subst, sym, ◌∙◌, arith}
use Rattle.std.specs.List.{list_any}
use Rattle.std.proofs.lemmas.Bool.{not-true}
use Rattle.std.proofs.lemmas.List.{length_push}
use Rattle.std.proofs.lemmas.List.Elements.{All-push}
use Rattle.aig_graph.specs.declared.memory.NoMemory.{NoMemory}
use Rattle.aig_graph.proofs.PlacesLaws.{slice_get_push}
use Rattle.aig_graph.specs.declared.graph.Gate.{Gate}
use Rattle.aig_graph.specs.declared.properties.Symbols.{Symbols}
use Rattle.aig_graph.specs.Graph.{IsGateAt}
use Rattle.ascii_file.specs.Raw.{RawSymbol, count_of}
use Rattle.ascii_file.specs.Reading.{is_of_same}
use Rattle.ascii_file.proofs.DistinctItemLaws.{pairs_from}
use Rattle.ascii_file.specs.parts.Names.{AreNamesOf, with_new}
use Rattle.binary_file.specs.Contents.{Contents, gate_literal}
use Rattle.binary_file.specs.Kept.{AreNamed, IsKept}
use Rattle.binary_file.specs.ReaderItems.{contents_with_gate}

-- one gate more, below the literal of the next one
pub gate_kept : (c : Contents) (gate : Gate) → length c.gates < c.header.gates → gate.rhs1 ≤ gate.rhs0 → gate.rhs0 < gate_literal c → IsKept c → IsKept (contents_with_gate c gate)
gate_kept c gate room ordered below kept =
    let counted = kept.counted in
    let in_range = kept.in_range in
    record {
      within = kept.within;
      counted = record {
        latches = counted.latches;
        safety = counted.safety;
        sizes = counted.sizes;
        size_sum = counted.size_sum;
        liveness = counted.liveness;
        gates = omega (arith, room, length_push c.gates gate);
      };
      in_range = record {
        latches = in_range.latches;
        safety = in_range.safety;
        liveness = in_range.liveness;
        gates = λ k g there. elim (slice_get_push c.gates gate k g there) [
          | inl before ↦ in_range.gates k g before
          | inr last ↦ subst (λ (x : Gate). IsGateAt (1 + c.header.inputs + c.header.latches + k) x) (sym last.1) (record {
            ordered = ordered;
            below = let place : k ≡ length c.gates = last.0 in omega (arith, place, below);
          })
        ];
      };
      named = record { symbols = kept.named.symbols; names = kept.named.names; below = kept.named.below; apart = kept.named.apart };
    }

-- those contents with other names, which are those of symbols that name a thing of their own
renamed : (c : Contents) (names : Symbols) → IsKept c → AreNamed (record c { names = names }) → IsKept (record c { names = names })
renamed c names kept named = record {
  within = kept.within;
  counted = record { latches = kept.counted.latches; safety = kept.counted.safety; sizes = kept.counted.sizes; size_sum = kept.counted.size_sum; liveness = kept.counted.liveness; gates = kept.counted.gates };
  in_range = record { latches = kept.in_range.latches; safety = kept.in_range.safety; liveness = kept.in_range.liveness; gates = kept.in_range.gates };
  named = named;
}

-- one symbol more, of a thing that has none
pub names_kept : (c : Contents) (names : Symbols) (symbol : RawSymbol) (answer : Result Bool NoMemory) → (kept : IsKept c) → symbol.position < count_of c.header symbol.kind
    → IfOk answer (λ is_new. is_new ≡ not (list_any (is_of_same symbol) kept.named.symbols)) → IfOk answer (λ is_new. AreNamesOf names (with_new is_new kept.named.symbols symbol)) → OnErr answer (names ≡ c.names)
    → IsKept (record c { names = names })
names_kept c names symbol (Ok true) kept below new are err = renamed c names kept (record {
  symbols = kept.named.symbols ++ symbol ∷ [];
  names = are;
  below = All-push (λ (s : RawSymbol). s.position < count_of c.header s.kind) kept.named.symbols symbol kept.named.below below;
  apart = pairs_from RawSymbol is_of_same (symbol ∷ []) kept.named.symbols kept.named.apart (not-true (list_any (is_of_same symbol) kept.named.symbols) (sym new), tt);
})
names_kept c names symbol (Ok false) kept below new are err = renamed c names kept (record { symbols = kept.named.symbols; names = are; below = kept.named.below; apart = kept.named.apart })
names_kept c names symbol (Err e) kept below new are err = renamed c names kept (record { symbols = kept.named.symbols; names = err ∙ kept.named.names; below = kept.named.below; apart = kept.named.apart })
