-- Gates that are whole at the front of bytes.
use Rattle.std.proofs.Common.{ℕ, ◌≡◌, ◌+◌, ◌-◌, ◌<◌, ◌≤◌, List, [], ◌∷◌, length, take, drop, Bool, true, false, cond, nat_eq, nat_lt, ◌||◌, Result, Ok, Err, refl, sym, ap, subst, ◌∙◌, arith}
use Rattle.std.proofs.lemmas.Bool.{cond-false, eqb-true, le-ltb, ne_eqb, or_from}
use Rattle.std.proofs.lemmas.List.{length-drop, take_rest}
use Rattle.file_words.specs.declared.fault.ReadError.{ReadError}
use Rattle.file_words.specs.declared.fault.ReadError.TheVariants.{BadDelta}
use Rattle.file_words.specs.Answering.{◌>>=◌}
use Rattle.aig_graph.specs.declared.graph.Gate.{Gate}
use Rattle.ascii_file.specs.declared.header.Header.{Header}
use Rattle.ascii_file.specs.declared.raw.Section.{Section}
use Rattle.ascii_file.specs.declared.raw.Section.TheVariants.{Gates}
use Rattle.ascii_file.specs.Raw.{Raw}
use Rattle.ascii_file.proofs.CheckLaws.{same_ok}
use Rattle.binary_file.specs.Items.{next_section, next_gate}
use Rattle.binary_file.specs.Reading.{State, InFirst, InSecond, InLine, is_gates, before_item, end_first, end_second, feed}
use Rattle.binary_file.specs.Contents.{Contents, IsAt, section_to_fill, gate_literal}
use Rattle.binary_file.specs.Cutting.{BeginsWithGate, IsWholeGate}
use Rattle.binary_file.specs.declared.delta.WholeGate.{WholeGate}
use Rattle.binary_file.specs.ReaderItems.{contents_with_gate}
use Rattle.binary_file.specs.Opened.{IsInFirst}
use Rattle.binary_file.specs.Standing.{Stands, IsFed}
use Rattle.binary_file.specs.Taking.{AreGatesTaken, read_first_delta}
use Rattle.binary_file.specs.declared.items.Items.{Items}
use Rattle.binary_file.proofs.ContentsLaws.{section_is, gate_literal_is, gates_stay}
use Rattle.binary_file.proofs.CuttingLaws.{whole_taken}
use Rattle.binary_file.proofs.DeltaReadingLaws.{first_done, second_done}
use Rattle.binary_file.proofs.GateReadingLaws.{gate_agrees}

-- before a gate no byte of its first delta has come
before_gate : (h : Header) (raw : Raw) (at : ℕ) → next_section h raw ≡ Gates → before_item h raw at ≡ InFirst h raw at []
before_gate h raw at is = ap (λ (s : Section). cond (is_gates s) (InFirst h raw at []) (InLine h raw at [])) is

-- no gate is taken yet
pub none_taken : (h : Header) (raw : Raw) (at : ℕ) (c : Contents) (bytes : List ℕ) → IsAt c h raw → next_section h raw ≡ Gates → AreGatesTaken h raw at c bytes bytes
none_taken h raw at c bytes is here = record {
  more = raw;
  after = at;
  contents = is;
  place = refl;
  read = ap (λ (s : State). feed s bytes) (sym (before_gate h raw at here));
  none = λ e. refl;
}

-- what reading the bytes of one gate gives
record GateRead (h : Header) (raw : Raw) (at : ℕ) (new : Contents) (bytes rest : List ℕ) : Type 0 where
  -- the raw circuit with the gate
  pub more : Raw
  -- the offset after it
  pub after : ℕ
  -- the contents are those of that circuit
  pub contents : IsAt new h more
  -- the rest ends where the bytes do
  pub place : after + length rest ≡ at + length bytes
  -- reading the bytes is reading the rest from there
  pub read : feed (InFirst h raw at []) bytes ≡ feed (before_item h more after) rest

gate_read : (h : Header) (raw : Raw) (at : ℕ) (c : Contents) (rhs0 rhs1 : ℕ) (bytes rest : List ℕ) → IsAt c h raw → BeginsWithGate (gate_literal c) rhs0 rhs1 bytes rest
    → GateRead h raw at (contents_with_gate c (record { rhs0 = rhs0; rhs1 = rhs1 })) bytes rest
gate_read h raw at c rhs0 rhs1 bytes rest is gate =
    let first = gate.first in
    let second = gate.second in
    let some = gate.some in
    let ordered = gate.ordered in
    let below : rhs0 + first ≡ next_gate h raw = gate.below ∙ gate_literal_is c h raw is in
    let one = whole_taken at (InFirst h raw at) (end_first h raw at) (λ delta b. refl) bytes gate.middle first gate.begins in
    let middle : ℕ = at + length one.0 in
    let fan_in : Ok rhs0 ≡ read_first_delta h raw at first =
    sym (cond-false (nat_eq first 0 || nat_lt (next_gate h raw) first) (Err (BadDelta at)) (Ok (next_gate h raw - first))
    (or_from (nat_eq first 0) (nat_lt (next_gate h raw) first) (ne_eqb first 0 (λ e. absurd (omega (arith, e, some)))) (le-ltb (next_gate h raw) first (omega (arith, below))))
    ∙ ap (λ (n : ℕ). Ok n) (omega (arith, below))) in
    let two = whole_taken middle (InSecond h raw middle rhs0) (end_second h raw middle rhs0) (λ delta b. refl) gate.middle rest second gate.goes_on in
    let agrees = gate_agrees c h raw middle rhs0 second is (omega (arith, ordered)) in
    let lengths = one.3 in
    let more_lengths = two.3 in
    record {
      more = agrees.0;
      after = middle + length two.0;
      contents = subst (λ (n : ℕ). IsAt (contents_with_gate c (record { rhs0 = rhs0; rhs1 = n })) h agrees.0) (omega (arith, ordered)) agrees.2;
      place = omega (arith, lengths, more_lengths);
      read =
          one.2
          ∙ ap (λ (r : Result State ReadError). r >>= λ s. feed s gate.middle) (first_done h raw at middle first one.0 one.1 refl rhs0 fan_in)
          ∙ two.2
          ∙ ap (λ (r : Result State ReadError). r >>= λ s. feed s rest) (second_done h raw middle (middle + length two.0) second two.0 two.1 refl rhs0 agrees.0 agrees.1);
    }

-- one more whole gate is taken of the bytes that were left, and a gate comes next if one is missing
pub gate_taken : (h : Header) (raw : Raw) (at : ℕ) (c new : Contents) (lhs : ℕ) (gate : WholeGate) (bytes left : List ℕ)
    → AreGatesTaken h raw at c bytes left → section_to_fill c ≡ Gates → lhs ≡ gate_literal c → IsWholeGate lhs left gate → gate.len ≤ length left → length left ≤ length bytes
    → ◌≡◌ {A = Result Contents ReadError} (Ok (contents_with_gate c (record { rhs0 = gate.rhs0; rhs1 = gate.rhs1 }))) (Ok new)
    → AreGatesTaken h raw at new bytes (take (length left - gate.len) (drop gate.len left)) × (length new.gates < new.header.gates → section_to_fill new ≡ Gates)
gate_taken h raw at c new lhs gate bytes left taken here same whole within fewer e =
    let g : Gate = record { rhs0 = gate.rhs0; rhs1 = gate.rhs1 } in
    let rest : List ℕ = drop gate.len left in
    let begins : BeginsWithGate (gate_literal c) gate.rhs0 gate.rhs1 left rest = subst (λ (n : ℕ). BeginsWithGate n gate.rhs0 gate.rhs1 left rest) same whole.2 in
    let next = gate_read h taken.more taken.after c gate.rhs0 gate.rhs1 left rest taken.contents begins in
    let place = taken.place in
    let next_place = next.place in
    let some = whole.0 in
    let shorter : length rest < length left = omega (arith, some, within, length-drop gate.len left) in
    let after : AreGatesTaken h raw at (contents_with_gate c g) bytes rest = record {
      more = next.more;
      after = next.after;
      contents = next.contents;
      place = omega (arith, place, next_place);
      read = taken.read ∙ ap (λ (s : State). feed s left) (before_gate h taken.more taken.after (sym (section_is c h taken.more taken.contents) ∙ here)) ∙ next.read;
      none = λ all. absurd (omega (arith, all, fewer, shorter));
    } in
    subst (λ (d : Contents). AreGatesTaken h raw at d bytes (take (length left - gate.len) (drop gate.len left)) × (length d.gates < d.header.gates → section_to_fill d ≡ Gates)) (same_ok (contents_with_gate c g) new e)
    (subst (λ (bs : List ℕ). AreGatesTaken h raw at (contents_with_gate c g) bytes bs) (sym (take_rest left gate.len)) after, λ room. gates_stay c g here room)

-- if no byte of a delta has come it is empty
pub no_bytes : (delta : List ℕ) (test : Bool) → test ≡ nat_eq (length delta) 0 → test ≡ true → delta ≡ []
no_bytes [] test is new = refl
no_bytes (b ∷ delta) true is new = absurd (omega (arith, eqb-true (length (b ∷ delta)) 0 (sym is)))
no_bytes (b ∷ delta) false is new = absurd cc

module _ (sections new : Contents) (at offset : ℕ) (delta : List ℕ) (state : State) (piece left : List ℕ) (is : IsInFirst sections at offset delta state) (taken : AreGatesTaken is.h is.raw at new piece left) where
  -- the reader stands where what is left of a piece begins
  pub gates_fed : (items : Items) (end after : ℕ) → delta ≡ [] → offset + length piece ≡ end → ((o : ℕ) → o + length left ≡ end → after ≡ o)
      → ((raw : Raw) → IsAt new is.h raw → Stands items after (before_item is.h raw after)) → IsFed items end state piece left
  gates_fed items end after none place next stands =
      let begun = is.place in
      let taken_place = taken.place in
      let empty : length delta ≡ 0 = ap length none in
      let here : taken.after + length left ≡ end = omega (arith, place, begun, taken_place, empty) in
      let same : after ≡ taken.after = next taken.after here in
      record {
        next = before_item is.h taken.more after;
        offset = after;
        stands = stands taken.more taken.contents;
        place = ap (λ (n : ℕ). n + length left) same ∙ here;
        fed =
            ap (λ (s : State). feed s piece) is.is ∙ ap (λ (d : List ℕ). feed (InFirst is.h is.raw at d) piece) none ∙ taken.read
            ∙ ap (λ (n : ℕ). feed (before_item is.h taken.more n) left) (sym same);
      }

  -- if no gate was taken reading is in the state that it was in
  pub still_in_first : length left ≡ length piece → IsInFirst new at offset delta state
  still_in_first all = record {
    h = is.h;
    raw = is.raw;
    is = is.is;
    contents = subst (λ (raw : Raw). IsAt new is.h raw) (taken.none all) taken.contents;
    section = is.section;
    place = is.place;
  }
