-- The two deltas of a gate.
use Rattle.std.proofs.Common.{ℕ, ◌+◌, ◌-◌, ◌≤◌, ◌≡◌, List, [], length, Ok, Err, Bool, true, false, cond, nat_eq, nat_lt, ◌||◌, refl, sym, ap, ◌∙◌}
use Rattle.std.proofs.lemmas.List.{map_push}
use Rattle.std.proofs.lemmas.Bool.{cond-false, le-ltb}
use Rattle.file_words.specs.declared.fault.ReadError.TheVariants.{BadDelta}
use Rattle.file_words.specs.Answering.{◌>>=◌}
use Rattle.aig_graph.specs.declared.graph.Gate.{Gate}
use Rattle.binary_file.specs.Deltas.{delta_value}
use Rattle.ascii_file.specs.declared.header.Header.{Header}
use Rattle.ascii_file.specs.Raw.{Raw}
use Rattle.ascii_file.specs.Items.{GateItem}
use Rattle.ascii_file.specs.Reading.{with_item}
use Rattle.binary_file.specs.Items.{next_gate}
use Rattle.binary_file.specs.Reading.{InSecond, before_item, end_first, end_second}
use Rattle.binary_file.specs.Contents.{Contents, gate_as_listed, contents_of, IsAt}
use Rattle.binary_file.specs.ReaderItems.{contents_with_gate}
use Rattle.binary_file.specs.Taking.{read_first_delta, read_second_delta}
use Rattle.binary_file.proofs.TakingLaws.{Agrees}

-- the end of a first delta
pub end_first_is : (h : Header) (raw : Raw) (at : ℕ) (delta : List ℕ) → end_first h raw at delta ≡ (read_first_delta h raw at (delta_value delta) >>= λ rhs0. Ok (InSecond h raw (at + length delta) rhs0 []))
unfolding end_first
end_first_is h raw at delta = by_test (nat_eq (delta_value delta) 0 || nat_lt (next_gate h raw) (delta_value delta))
  where
    by_test : (test : Bool) → cond test (Err (BadDelta at)) (Ok (InSecond h raw (at + length delta) (next_gate h raw - delta_value delta) []))
        ≡ (cond test (Err (BadDelta at)) (Ok (next_gate h raw - delta_value delta)) >>= λ rhs0. Ok (InSecond h raw (at + length delta) rhs0 []))
    by_test true = refl
    by_test false = refl

-- the end of a second delta
pub end_second_is : (h : Header) (raw : Raw) (at rhs0 : ℕ) (delta : List ℕ) → end_second h raw at rhs0 delta ≡ (read_second_delta h raw at rhs0 (delta_value delta) >>= λ more. Ok (before_item h more (at + length delta)))
unfolding end_second
end_second_is h raw at rhs0 delta = by_test (nat_lt rhs0 (delta_value delta))
  where
    by_test : (test : Bool) → cond test (Err (BadDelta at)) (Ok (before_item h (with_item raw (GateItem (record { lhs = next_gate h raw; rhs0 = rhs0; rhs1 = rhs0 - delta_value delta }))) (at + length delta)))
        ≡ (cond test (Err (BadDelta at)) (Ok (with_item raw (GateItem (record { lhs = next_gate h raw; rhs0 = rhs0; rhs1 = rhs0 - delta_value delta })))) >>= λ more. Ok (before_item h more (at + length delta)))
    by_test true = refl
    by_test false = refl

-- the gate of a first fan-in and a second delta that isn't above it
pub gate_agrees : (c : Contents) (h : Header) (raw : Raw) (at rhs0 delta : ℕ) → IsAt c h raw → delta ≤ rhs0
    → Agrees h (Ok (contents_with_gate c (record { rhs0 = rhs0; rhs1 = rhs0 - delta }))) (read_second_delta h raw at rhs0 delta)
gate_agrees c h raw at rhs0 delta is most = (
  with_item raw (GateItem (record { lhs = next_gate h raw; rhs0 = rhs0; rhs1 = rhs0 - delta })),
  cond-false (nat_lt rhs0 delta) (Err (BadDelta at)) _ (le-ltb rhs0 delta most),
  ap (λ (d : Contents). contents_with_gate d (record { rhs0 = rhs0; rhs1 = rhs0 - delta })) is
      ∙ ap (λ (gates : List Gate). record (contents_of h raw) { gates = gates }) (sym (map_push gate_as_listed raw.gates (record { lhs = next_gate h raw; rhs0 = rhs0; rhs1 = rhs0 - delta }))),
)
