-- Deltas of gates.
use Rattle.std.proofs.Common.{ℕ, ◌≡◌, ◌+◌, ◌-◌, ◌<◌, List, [], ◌∷◌, length, Result, Ok, Err, nat_eq, nat_lt, ◌||◌, sym, ap, ◌∙◌, arith}
use Rattle.std.proofs.lemmas.Bool.{or_parts, eqb-false, ltb-false}
use Rattle.file_words.specs.declared.fault.ReadError.{ReadError}
use Rattle.file_words.specs.declared.fault.ReadError.TheVariants.{BadDelta, NoMemory}
use Rattle.file_words.specs.Answering.{◌>>=◌, Fails}
use Rattle.ascii_file.specs.declared.header.Header.{Header}
use Rattle.ascii_file.specs.Raw.{Raw}
use Rattle.ascii_file.proofs.CheckLaws.{unless_ok, same_ok}
use Rattle.file_words.proofs.AnsweringLaws.{Fails-as, Fails-bind, Fails-with}
use Rattle.binary_file.specs.Deltas.{delta_value}
use Rattle.binary_file.specs.Items.{next_gate}
use Rattle.binary_file.specs.Reading.{InSecond, before_item, end_first, end_second}
use Rattle.binary_file.specs.Taking.{read_first_delta, read_second_delta}
use Rattle.binary_file.proofs.GateReadingLaws.{end_first_is, end_second_is}

-- a first fan-in is below the gate's literal
pub first_falls : (h : Header) (raw : Raw) (at delta rhs0 : ℕ) → Ok rhs0 ≡ read_first_delta h raw at delta → rhs0 < next_gate h raw
first_falls h raw at delta rhs0 e =
    let checked = unless_ok ((nat_eq delta 0 || nat_lt (next_gate h raw) delta, BadDelta at) ∷ []) (Ok (next_gate h raw - delta)) rhs0 (sym e) in
    let parts = or_parts (nat_eq delta 0) (nat_lt (next_gate h raw) delta) checked.0.0 in
    let some : delta ≡ 0 → ⊥ = eqb-false delta 0 parts.0 in
    let most = ltb-false (next_gate h raw) delta parts.1 in
    let same : next_gate h raw - delta ≡ rhs0 = same_ok (next_gate h raw - delta) rhs0 checked.1 in
    omega (arith, some, most, same)

module _ (h : Header) (raw : Raw) (at after number : ℕ) (delta : List ℕ) (value : number ≡ delta_value delta) (place : at + length delta ≡ after) where
  first_ends : end_first h raw at delta ≡ (read_first_delta h raw at number >>= λ rhs0. Ok (InSecond h raw after rhs0 []))
  first_ends =
      end_first_is h raw at delta ∙ ap (λ (n : ℕ). read_first_delta h raw at n >>= λ rhs0. Ok (InSecond h raw (at + length delta) rhs0 [])) (sym value)
      ∙ ap (λ (n : ℕ). read_first_delta h raw at number >>= λ rhs0. Ok (InSecond h raw n rhs0 [])) place

  -- a first delta that gives a fan-in leads on to the second
  pub first_done : (rhs0 : ℕ) → Ok rhs0 ≡ read_first_delta h raw at number → end_first h raw at delta ≡ Ok (InSecond h raw after rhs0 [])
  first_done rhs0 e = first_ends ∙ ap (λ (r : Result ℕ ReadError). r >>= λ rhs0. Ok (InSecond h raw after rhs0 [])) (sym e)

  -- a first delta that gives none is a fault of reading
  pub first_failed : (fault : ReadError) → Err fault ≡ read_first_delta h raw at number → Fails NoMemory fault (end_first h raw at delta)
  first_failed fault e = Fails-with fault (end_first h raw at delta) (first_ends ∙ ap (λ (r : Result ℕ ReadError). r >>= λ rhs0. Ok (InSecond h raw after rhs0 [])) (sym e))

  second_ends : (rhs0 : ℕ) → end_second h raw at rhs0 delta ≡ (read_second_delta h raw at rhs0 number >>= λ more. Ok (before_item h more after))
  second_ends rhs0 =
      end_second_is h raw at rhs0 delta ∙ ap (λ (n : ℕ). read_second_delta h raw at rhs0 n >>= λ more. Ok (before_item h more (at + length delta))) (sym value)
      ∙ ap (λ (n : ℕ). read_second_delta h raw at rhs0 number >>= λ more. Ok (before_item h more n)) place

  -- a second delta that gives a gate leads on to the next item
  pub second_done : (rhs0 : ℕ) (more : Raw) → read_second_delta h raw at rhs0 number ≡ Ok more → end_second h raw at rhs0 delta ≡ Ok (before_item h more after)
  second_done rhs0 more e = second_ends rhs0 ∙ ap (λ (r : Result Raw ReadError). r >>= λ more. Ok (before_item h more after)) e

  -- a second delta that gives none is a fault of reading
  pub second_failed : (rhs0 : ℕ) (fault : ReadError) → Fails NoMemory fault (read_second_delta h raw at rhs0 number) → Fails NoMemory fault (end_second h raw at rhs0 delta)
  second_failed rhs0 fault fails = Fails-as fault _ (end_second h raw at rhs0 delta) (second_ends rhs0) (Fails-bind fault (read_second_delta h raw at rhs0 number) (λ more. Ok (before_item h more after)) fails)
