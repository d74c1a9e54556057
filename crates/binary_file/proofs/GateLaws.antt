-- The two deltas of a gate.
use Rattle.std.proofs.Common.{ℕ, ◌+◌, ◌-◌, ◌<◌, ◌≤◌, ◌≡◌, List, [], ◌∷◌, ◌++◌, length, Result, Ok, true, nat_eq, nat_lt, ◌||◌, refl, sym, ap, ap₂, ◌∙◌, arith}
use Rattle.std.proofs.lemmas.Bool.{cond-true, ltb-false, le-ltb, eqb-false, ne_eqb, or_parts, or_from}
use Rattle.std.proofs.lemmas.List.{length-append}
use Rattle.file_words.specs.declared.fault.ReadError.{ReadError}
use Rattle.file_words.specs.declared.fault.ReadError.TheVariants.{BadDelta}
use Rattle.file_words.specs.Answering.{◌>>=◌}
use Rattle.binary_file.specs.Deltas.{is_delta, delta_value}
use Rattle.ascii_file.specs.declared.header.Header.{Header}
use Rattle.ascii_file.specs.declared.raw.RawGate.{RawGate}
use Rattle.ascii_file.specs.declared.raw.Section.TheVariants.{Gates}
use Rattle.ascii_file.specs.Raw.{Raw}
use Rattle.ascii_file.specs.Items.{GateItem}
use Rattle.ascii_file.specs.Reading.{with_item}
use Rattle.ascii_file.proofs.CheckLaws.{unless_ok, unless_passes, same_ok}
use Rattle.binary_file.specs.Items.{next_section, next_gate}
use Rattle.binary_file.specs.Reading.{State, InLine, InFirst, InSecond, is_gates, before_item, end_first, end_second, feed, finish}
use Rattle.binary_file.specs.Files.{IsGate}
use Rattle.binary_file.proofs.StepLaws.{delta_fed, delta_was_fed}

-- if the next section is that of gates, a reader stands before a gate's first delta
pub before_gate : (h : Header) (raw : Raw) (at : ℕ) → is_gates (next_section h raw) ≡ true → before_item h raw at ≡ InFirst h raw at []
before_gate h raw at here = cond-true (is_gates (next_section h raw)) (InFirst h raw at []) (InLine h raw at []) here

first_ended : (h : Header) (raw : Raw) (at rhs0 : ℕ) (delta : List ℕ) → rhs0 < next_gate h raw → rhs0 + delta_value delta ≡ next_gate h raw → end_first h raw at delta ≡ Ok (InSecond h raw (at + length delta) rhs0 [])
unfolding end_first
first_ended h raw at rhs0 delta falls value =
    unless_passes ((nat_eq (delta_value delta) 0 || nat_lt (next_gate h raw) (delta_value delta), BadDelta at) ∷ []) (Ok (InSecond h raw (at + length delta) (next_gate h raw - delta_value delta) []))
    (or_from (nat_eq (delta_value delta) 0) (nat_lt (next_gate h raw) (delta_value delta)) (ne_eqb (delta_value delta) 0 (λ e. absurd (omega (arith, e, falls, value)))) (le-ltb (next_gate h raw) (delta_value delta) (omega (arith, value))), tt)
    ∙ ap (λ (n : ℕ). Ok (InSecond h raw (at + length delta) n [])) (omega (arith, value))

abbrev after_gate : Header → Raw → RawGate → ℕ → State
after_gate h raw gate at = before_item h (with_item raw (GateItem gate)) at

second_ended : (h : Header) (raw : Raw) (at : ℕ) (gate : RawGate) (delta : List ℕ) → gate.lhs ≡ next_gate h raw → gate.rhs1 + delta_value delta ≡ gate.rhs0
    → end_second h raw at gate.rhs0 delta ≡ Ok (after_gate h raw gate (at + length delta))
unfolding end_second
second_ended h raw at gate delta lhs value =
    let least : gate.rhs0 - delta_value delta ≡ gate.rhs1 = omega (arith, value) in
    unless_passes ((nat_lt gate.rhs0 (delta_value delta), BadDelta at) ∷ [])
    (Ok (after_gate h raw (record { lhs = next_gate h raw; rhs0 = gate.rhs0; rhs1 = gate.rhs0 - delta_value delta }) (at + length delta)))
    (le-ltb gate.rhs0 (delta_value delta) (omega (arith, value)), tt)
    ∙ ap₂ (λ (m n : ℕ). Ok (after_gate h raw (record { lhs = m; rhs0 = gate.rhs0; rhs1 = n }) (at + length delta))) (sym lhs) least

with_none : (n : ℕ) → n ≤ 5 → 0 + n ≤ 5
with_none n few = omega (arith, few)

without_none : (n : ℕ) → 0 + n ≤ 5 → n ≤ 5
without_none n few = omega (arith, few)

-- the deltas of a gate are taken
pub gate_taken : (h : Header) (raw : Raw) (at : ℕ) (gate : RawGate) (bytes rest : List ℕ) → IsGate h raw gate bytes rest → (next : ℕ) × (feed (before_item h raw at) bytes ≡ feed (after_gate h raw gate next) rest)
gate_taken h raw at gate bytes rest is =
    let second_at : ℕ = at + length is.first in (
      second_at + length is.second,
      ap₂ (λ (s : State) (bs : List ℕ). feed s bs) (before_gate h raw at (ap is_gates is.here)) is.bytes_are
          ∙ delta_fed at (InFirst h raw at) (end_first h raw at) (λ delta b. refl) is.first [] (is.second ++ rest) is.first_form.0 (with_none (length is.first) is.first_form.1)
          ∙ ap (λ (r : Result State ReadError). r >>= λ s. feed s (is.second ++ rest))
          (first_ended h raw at gate.rhs0 is.first (let less = is.falls in let own = is.lhs in omega (arith, less, own)) (is.first_value ∙ is.lhs))
          ∙ delta_fed second_at (InSecond h raw second_at gate.rhs0) (end_second h raw second_at gate.rhs0) (λ delta b. refl) is.second [] rest is.second_form.0 (with_none (length is.second) is.second_form.1)
          ∙ ap (λ (r : Result State ReadError). r >>= λ s. feed s rest) (second_ended h raw second_at gate is.second is.lhs is.second_value),
    )

-- ---- what was read

-- the state after a first delta, and what its checks say
record FirstEnded (h : Header) (raw : Raw) (at : ℕ) (delta : List ℕ) (next : State) : Type 0 where
  rhs0 : ℕ
  falls : rhs0 < next_gate h raw
  value : rhs0 + delta_value delta ≡ next_gate h raw
  is : InSecond h raw (at + length delta) rhs0 [] ≡ next

first_was_ended : (h : Header) (raw : Raw) (at : ℕ) (delta : List ℕ) (next : State) → end_first h raw at delta ≡ Ok next → FirstEnded h raw at delta next
unfolding end_first
first_was_ended h raw at delta next e =
    let checked = unless_ok ((nat_eq (delta_value delta) 0 || nat_lt (next_gate h raw) (delta_value delta), BadDelta at) ∷ []) (Ok (InSecond h raw (at + length delta) (next_gate h raw - delta_value delta) [])) next e in
    let parts = or_parts (nat_eq (delta_value delta) 0) (nat_lt (next_gate h raw) (delta_value delta)) checked.0.0 in
    let some : delta_value delta ≡ 0 → ⊥ = eqb-false (delta_value delta) 0 parts.0 in
    let most = ltb-false (next_gate h raw) (delta_value delta) parts.1 in
    record {
      rhs0 = next_gate h raw - delta_value delta;
      falls = omega (arith, some, most);
      value = omega (arith, most);
      is = same_ok (InSecond h raw (at + length delta) (next_gate h raw - delta_value delta) []) next checked.1;
    }

record SecondEnded (h : Header) (raw : Raw) (at rhs0 : ℕ) (delta : List ℕ) (next : State) : Type 0 where
  rhs1 : ℕ
  value : rhs1 + delta_value delta ≡ rhs0
  is : after_gate h raw (record { lhs = next_gate h raw; rhs0 = rhs0; rhs1 = rhs1 }) (at + length delta) ≡ next

second_was_ended : (h : Header) (raw : Raw) (at rhs0 : ℕ) (delta : List ℕ) (next : State) → end_second h raw at rhs0 delta ≡ Ok next → SecondEnded h raw at rhs0 delta next
unfolding end_second
second_was_ended h raw at rhs0 delta next e =
    let state = after_gate h raw (record { lhs = next_gate h raw; rhs0 = rhs0; rhs1 = rhs0 - delta_value delta }) (at + length delta) in
    let checked = unless_ok ((nat_lt rhs0 (delta_value delta), BadDelta at) ∷ []) (Ok state) next e in
    let most = ltb-false rhs0 (delta_value delta) checked.0.0 in
    record { rhs1 = rhs0 - delta_value delta; value = omega (arith, most); is = same_ok state next checked.1 }

-- the gate that was read, and what is left
pub record GateRead (h : Header) (raw : Raw) (end : ℕ) (bytes : List ℕ) (all : Header × Raw) : Type 0 where
  -- the gate
  pub gate : RawGate
  -- the bytes after it
  pub rest : List ℕ
  -- the bytes begin with the deltas of this gate
  pub is_gate : IsGate h raw gate bytes rest
  -- the rest is shorter than the bytes
  pub shorter : length rest < length bytes
  -- the offset after the gate
  pub at : ℕ
  -- reading on after the gate gives what was read
  pub read : (feed (after_gate h raw gate at) rest >>= finish end) ≡ Ok all

not_empty : (delta : List ℕ) → is_delta delta ≡ true → 0 < length delta
unfolding is_delta
not_empty [] form = absurd cc
not_empty (b ∷ delta) form = omega arith

first_open : (h : Header) (raw : Raw) (at end : ℕ) (all : Header × Raw) (delta : List ℕ) → finish end (InFirst h raw at delta) ≡ Ok all → ⊥
first_open h raw at end all [] e = absurd cc
first_open h raw at end all (b ∷ delta) e = absurd cc

second_open : (h : Header) (raw : Raw) (at rhs0 end : ℕ) (all : Header × Raw) (delta : List ℕ) → finish end (InSecond h raw at rhs0 delta) ≡ Ok all → ⊥
second_open h raw at rhs0 end all [] e = absurd cc
second_open h raw at rhs0 end all (b ∷ delta) e = absurd cc

-- what is read if gates are due begins with the deltas of a gate
pub gate_was_taken : (h : Header) (raw : Raw) (at end : ℕ) (all : Header × Raw) (bytes : List ℕ) → next_section h raw ≡ Gates → (feed (before_item h raw at) bytes >>= finish end) ≡ Ok all → GateRead h raw end bytes all
gate_was_taken h raw at end all bytes here e =
    let first = delta_was_fed at (InFirst h raw at) (end_first h raw at) (λ delta b. refl) end all (first_open h raw at end all) bytes [] (omega arith)
    (ap (λ (s : State). feed s bytes >>= finish end) (sym (before_gate h raw at (ap is_gates here))) ∙ e) in
    let one : FirstEnded h raw at first.delta first.next = first_was_ended h raw at first.delta first.next first.ended in
    let second_at : ℕ = at + length first.delta in
    let second = delta_was_fed second_at (InSecond h raw second_at one.rhs0) (end_second h raw second_at one.rhs0) (λ delta b. refl) end all (second_open h raw second_at one.rhs0 end all) first.rest [] (omega arith)
    (ap (λ (s : State). feed s first.rest >>= finish end) one.is ∙ first.read) in
    let two : SecondEnded h raw second_at one.rhs0 second.delta second.next = second_was_ended h raw second_at one.rhs0 second.delta second.next second.ended in
    let all_bytes : bytes ≡ first.delta ++ (second.delta ++ second.rest) = first.parts ∙ ap (λ (bs : List ℕ). first.delta ++ bs) second.parts in
    let some : 0 < length first.delta = not_empty first.delta first.form in
    record {
      gate = record { lhs = next_gate h raw; rhs0 = one.rhs0; rhs1 = two.rhs1 };
      rest = second.rest;
      is_gate = record {
        here = here;
        first = first.delta;
        second = second.delta;
        bytes_are = all_bytes;
        first_form = (first.form, without_none (length first.delta) first.few);
        second_form = (second.form, without_none (length second.delta) second.few);
        lhs = refl;
        falls = one.falls;
        first_value = one.value;
        second_value = two.value;
      };
      shorter = omega (arith, some, ap length all_bytes, length-append first.delta (second.delta ++ second.rest), length-append second.delta second.rest);
      at = second_at + length second.delta;
      read = ap (λ (s : State). feed s second.rest >>= finish end) two.is ∙ second.read;
    }
