-- Where two texts differ first.
use Rattle.std.proofs.Common.{ℕ, ◌+◌, ◌≡◌, ◌≢◌, ◌<◌, ◌∙◌, List, length, min, take, get_or, ap, arith, sym}
use Rattle.std.proofs.Math.Seq.{take-length}
use Rattle.std.proofs.lemmas.List.{get_or-take, length-take}
use Rattle.reports.specs.Agreements.{IsAgreement}
use Rattle.reports.specs.declared.agreement.Agreement.TheVariants.{Same, DiffersAt}

-- at a byte that differs
pub differs_at : (text file : List ℕ) (k : ℕ) (d : ℕ) → take k file ≡ take k text → get_or text k d ≢ get_or file k d → IsAgreement text file (DiffersAt k)
differs_at text file k d same other =
    let more : k < k + 1 = omega arith in
    (same, λ also. other (sym (get_or-take (k + 1) text k d more) ∙ (sym (ap (λ xs. get_or xs k d) also) ∙ get_or-take (k + 1) file k d more)))

-- at the end of the shorter one
pub differs_at_end : (text file : List ℕ) (k : ℕ) → k ≡ min (length text) (length file) → length text ≢ length file → take k file ≡ take k text
    → IsAgreement text file (DiffersAt k)
differs_at_end text file k is other same = (
  same,
  λ also.
      let long : min (k + 1) (length file) ≡ min (k + 1) (length text) = sym (length-take (k + 1) file) ∙ (ap length also ∙ length-take (k + 1) text) in
      other (omega (arith, is, long)),
)

-- nowhere
pub is_same : (text file : List ℕ) (k : ℕ) → k ≡ min (length text) (length file) → length text ≡ length file → take k file ≡ take k text → IsAgreement text file Same
is_same text file k is long same =
    let all : k ≡ length text = omega (arith, is, long) in
    let whole : k ≡ length file = omega (arith, is, long) in
    sym (take-length file) ∙ (sym (ap (λ n. take n file) whole) ∙ (same ∙ (ap (λ n. take n text) all ∙ take-length text)))
