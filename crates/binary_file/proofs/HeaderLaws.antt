-- The header of a binary file by numbers cut to 32 bits.
use Rattle.std.proofs.Common.{ℕ, ◌+◌, ◌-◌, ◌^◌, ◌≤◌, ◌≡◌, List, [], ◌∷◌, Option, Some, None, Ok, refl, arith, Bool, true, false, not, nat_eq, ap, sym, subst, ◌∙◌, codes}
use Rattle.std.proofs.lemmas.Bool.{ltb-false, eq-eqb, ne_eqb, eqb-true, eqb-false}
use Rattle.std.specs.Option.{option_and_then}
use Rattle.file_words.specs.declared.fault.ReadError.TheVariants.{MaxIndex}
use Rattle.file_words.specs.Answering.{◌>>=◌}
use Rattle.ascii_file.specs.declared.header.Header.{Header}
use Rattle.ascii_file.specs.Headers.{header_in}
use Rattle.ascii_file.specs.Reading.{unless}
use Rattle.ascii_file.proofs.CheckLaws.{Passes, unless_ok, same_ok}
use Rattle.ascii_file.specs.parts.Header.{header_row}
use Rattle.ascii_file.specs.parts.Limits.{limits, limited}
use Rattle.ascii_file.proofs.HeaderLaws.{cut, IsCuttable, formed, formed-limited, spelt, header-of-row}
use Rattle.binary_file.specs.Headers.{header_of, IsHeaderWithin}
use Rattle.binary_file.specs.Reading.{checked_header, read_header}
use Rattle.binary_file.specs.Header.{is_miscounted}

off-false : (h : Header) → is_miscounted h ≡ false → h.inputs + h.latches + h.gates ≡ h.greatest
off-false h e = by_test (nat_eq (h.inputs + h.latches + h.gates) h.greatest) refl e
  where
    by_test : (test : Bool) → nat_eq (h.inputs + h.latches + h.gates) h.greatest ≡ test → not test ≡ false → h.inputs + h.latches + h.gates ≡ h.greatest
    by_test true is e = eqb-true (h.inputs + h.latches + h.gates) h.greatest is
    by_test false is e = absurd cc

off-cuttable : IsCuttable is_miscounted
off-cuttable = record {
  bounds = λ h e. omega (arith, off-false h e);
  cuts = λ h greatest. by_test h greatest (nat_eq (h.inputs + h.latches + h.gates) h.greatest) refl;
}
  where
    by_test : (h : Header) → h.greatest ≤ 2 ^ 28 - 1 → (test : Bool) → nat_eq (h.inputs + h.latches + h.gates) h.greatest ≡ test → is_miscounted (cut h) ≡ is_miscounted h
    by_test h greatest true is =
        let same = eqb-true (h.inputs + h.latches + h.gates) h.greatest is in
        ap not (eq-eqb ((cut h).inputs + (cut h).latches + (cut h).gates) (cut h).greatest (omega (arith, same, greatest)) ∙ sym is)
    by_test h greatest false is =
        let other = eqb-false (h.inputs + h.latches + h.gates) h.greatest is in
        ap not (ne_eqb ((cut h).inputs + (cut h).latches + (cut h).gates) (cut h).greatest (λ same. other (omega (arith, same, greatest))) ∙ sym is)

-- the header of a binary file by its numbers cut to 32 bits is the header that reading gives
pub read-header : (row : Option (List ℕ)) (line : List ℕ) → row ≡ header_row (codes "aig ") line
    → (limited (option_and_then header_in row) >>= λ h. unless ((is_miscounted h, MaxIndex 0) ∷ []) (Ok h)) ≡ read_header line
unfolding read_header header_of
read-header row line e =
    formed-limited is_miscounted (option_and_then header_in row) ∙ ap (λ (r : Option (List ℕ)). formed is_miscounted (option_and_then header_in r)) e ∙ header-of-row is_miscounted off-cuttable (codes "aig ") line
    ∙ by_option (spelt (codes "aig ") line)
  where
    by_option : (o : Option Header) → formed is_miscounted o ≡ checked_header o
    by_option None = refl
    by_option (Some h) = refl

-- what the checks say of a header that is taken
pub is-within : (o : Option Header) (h g : Header) → limited o ≡ Ok h → unless ((is_miscounted h, MaxIndex 0) ∷ []) (Ok h) ≡ Ok g → IsHeaderWithin g
is-within None h g first second = absurd cc
is-within (Some f) h g first second =
    let limit = unless_ok (limits f) (Ok f) h first in
    let total = unless_ok ((is_miscounted h, MaxIndex 0) ∷ []) (Ok h) g second in
    subst IsHeaderWithin (same_ok h g total.1) (within h (subst (λ (x : Header). Passes (limits x)) (same_ok f h limit.1) limit.0) total.0.0)
  where
    within : (h : Header) → Passes (limits h) → is_miscounted h ≡ false → IsHeaderWithin h
    within h (m, (o, (b, (c, (j, (f, end)))))) e = record {
      greatest = ltb-false (2 ^ 28 - 1) h.greatest m;
      outputs = ltb-false (2 ^ 24) h.outputs o;
      bad = ltb-false (2 ^ 24) h.bad b;
      constraints = ltb-false (2 ^ 24) h.constraints c;
      justice = ltb-false (2 ^ 24) h.justice j;
      fairness = ltb-false (2 ^ 24) h.fairness f;
      total = off-false h e;
    }
