-- A header that passes its checks is within the limits.
use Rattle.std.proofs.Common.{◌+◌, ◌-◌, ◌^◌, ◌≤◌, ◌≡◌, [], ◌∷◌, Bool, true, false, Option, Some, None, Result, Ok, IfOk, refl, sym, arith, subst}
use Rattle.std.proofs.lemmas.Bool.{ltb-false}
use Rattle.file_words.specs.declared.fault.ReadError.{ReadError}
use Rattle.file_words.specs.declared.fault.ReadError.TheVariants.{MaxIndex}
use Rattle.ascii_file.specs.declared.header.Header.{Header}
use Rattle.ascii_file.specs.Headers.{IsHeaderWithin}
use Rattle.ascii_file.specs.Reading.{unless}
use Rattle.ascii_file.proofs.CheckLaws.{unless_ok, same_ok}
use Rattle.ascii_file.specs.parts.Limits.{limits, limited, counts_past_greatest}

passes_within : (h : Header) → unless (limits h) (Ok h) ≡ Ok h → counts_past_greatest h ≡ false → IsHeaderWithin h
passes_within h e enough =
    let p = (unless_ok (limits h) (Ok h) h e).0 in
    let greatest : h.greatest ≤ 2 ^ 28 - 1 = ltb-false (2 ^ 28 - 1) h.greatest p.0 in
    record {
      greatest = omega (arith, greatest);
      outputs = ltb-false (2 ^ 24) h.outputs p.1.0;
      bad = ltb-false (2 ^ 24) h.bad p.1.1.0;
      constraints = ltb-false (2 ^ 24) h.constraints p.1.1.1.0;
      justice = ltb-false (2 ^ 24) h.justice p.1.1.1.1.0;
      fairness = ltb-false (2 ^ 24) h.fairness p.1.1.1.1.1.0;
      total = ltb-false h.greatest (h.inputs + h.latches + h.gates) enough;
    }

limited_itself : (o : Option Header) (h : Header) → limited o ≡ Ok h → unless (limits h) (Ok h) ≡ Ok h
limited_itself None h e = absurd (cc)
limited_itself (Some g) h e =
    let is : g ≡ h = same_ok g h (unless_ok (limits g) (Ok g) h e).1 in
    subst (λ (x : Header). unless (limits x) (Ok x) ≡ Ok x) is (subst (λ (x : Header). unless (limits g) (Ok g) ≡ Ok x) (sym is) e)

-- a header whose single numbers and their relation pass the checks is within the limits
pub within : (o : Option Header) (h : Header) → limited o ≡ Ok h → (r : Result Header ReadError) → r ≡ unless ((counts_past_greatest h, MaxIndex 0) ∷ []) (Ok h) → IfOk r (λ header. IsHeaderWithin header)
within o h e r is = by_test (counts_past_greatest h) refl is
  where
    by_test : (b : Bool) → counts_past_greatest h ≡ b → r ≡ unless ((b, MaxIndex 0) ∷ []) (Ok h) → IfOk r (λ header. IsHeaderWithin header)
    by_test true past is = subst (λ (x : Result Header ReadError). IfOk x (λ header. IsHeaderWithin header)) (sym is) tt
    by_test false enough is = subst (λ (x : Result Header ReadError). IfOk x (λ header. IsHeaderWithin header)) (sym is) (passes_within h (limited_itself o h e) enough)
