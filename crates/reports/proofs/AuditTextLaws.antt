-- The lines of blocks, which are numbered on from part to part.
use Rattle.std.proofs.Common.{ℕ, zero, suc, ◌+◌, ◌-◌, ◌^◌, ◌≡◌, ◌<◌, ◌≤◌, List, [], ◌∷◌, ◌++◌, length, take, get_or, min, refl, arith, ap, sym, ◌∙◌, subst, append-nil, append_assoc}
use Rattle.counted_io.specs.Output.{Output}
use Rattle.counted_io.specs.Buffered.{Puts}
use Rattle.counted_io.specs.declared.buffered.Buffered.{Buffered}
use Rattle.counted_io.proofs.BufferedLaws.{puts-then}
use Rattle.certificates.specs.declared.certificate.Certificate.{Certificate}
use Rattle.certificate_files.specs.declared.file.CertPart.{CertPart}
use Rattle.certificate_audits.specs.declared.outcome.Audit.{Audit}
use Rattle.reports.specs.Audits.{block_line, block_lines, confirmed_on, counted_on, part_text, parts_text}

-- ---- the blocks of a part

-- counting on from a number goes as far as the type
counted-more : (n k : ℕ) → counted_on (counted_on n 1) k ≡ counted_on n (suc k)
counted-more n k = omega arith

counted-none : (n : ℕ) → n < 2 ^ 64 → counted_on n 0 ≡ n
counted-none n small = omega (arith, small)

-- one block more than before
next-lines : (blocks : List Certificate) (k first : ℕ) (block : Certificate) → first < 2 ^ 64 → k < length blocks → block ≡ get_or blocks k block
    → block_lines first (take (suc k) blocks) ≡ block_lines first (take k blocks) ++ block_line (counted_on first k) block
unfolding block_lines
next-lines [] k first block small within there = absurd (omega (arith, within))
next-lines (b ∷ bs) zero first block small within there =
    append-nil (block_line first b) ∙ ap (λ (n : ℕ). block_line n b) (sym (counted-none first small)) ∙ ap (block_line (counted_on first 0)) (sym there)
next-lines (b ∷ bs) (suc k) first block small within there =
    let less : k < length bs = omega (arith, within) in
    ap (λ (t : List ℕ). block_line first b ++ t)
    (next-lines bs k (counted_on first 1) block (omega arith) less there ∙ ap (λ (n : ℕ). block_lines (counted_on first 1) (take k bs) ++ block_line n block) (counted-more first k))
    ∙ sym (append_assoc (block_line first b) (block_lines (counted_on first 1) (take k bs)) (block_line (counted_on first (suc k)) block))

-- that is put
pub puts-next_block : {W : Type 0} {output : W → Output} {b c d : Buffered W} (blocks : List Certificate) (k first : ℕ) (block : Certificate) → first < 2 ^ 64 → k < length blocks → block ≡ get_or blocks k block
    → Puts output b c (block_lines first (take k blocks)) → Puts output c d (block_line (counted_on first k) block) → Puts output b d (block_lines first (take (k + 1) blocks))
puts-next_block {output = output} {b = b} {d = d} blocks k first block small within there before line =
    let more : suc k ≡ k + 1 = omega arith in
    subst (λ (n : ℕ). Puts output b d (block_lines first (take n blocks))) more (subst (Puts output b d) (sym (next-lines blocks k first block small within there)) (puts-then before line))

-- ---- the parts

-- one part more
next-text : (parts : List CertPart) (audits : List Audit) (k number : ℕ) (part : CertPart) (d : Audit) → k < length parts → k < length audits → part ≡ get_or parts k part
    → parts_text number (take (suc k) parts) (take (suc k) audits) ≡ parts_text number (take k parts) (take k audits) ++ part_text (confirmed_on number (take k parts) (take k audits)) part (get_or audits k d)
unfolding parts_text confirmed_on
next-text [] audits k number part d some others there = absurd (omega (arith, some))
next-text (p ∷ ps) [] k number part d some others there = absurd (omega (arith, others))
next-text (p ∷ ps) (a ∷ later) zero number part d some others there =
    append-nil (part_text number p a) ∙ ap (λ (x : CertPart). part_text number x a) (sym there)
next-text (p ∷ ps) (a ∷ later) (suc k) number part d some others there =
    let less : k < length ps = omega (arith, some) in
    let fewer : k < length later = omega (arith, others) in
    let next : ℕ = counted_on number a.confirmed in
    ap (λ (t : List ℕ). part_text number p a ++ t) (next-text ps later k next part d less fewer there)
    ∙ sym (append_assoc (part_text number p a) (parts_text next (take k ps) (take k later)) (part_text (confirmed_on next (take k ps) (take k later)) part (get_or later k d)))

-- that is put
pub puts-next_part : {W : Type 0} {output : W → Output} {b c e : Buffered W} (parts : List CertPart) (audits : List Audit) (k number : ℕ) (part : CertPart) (d : Audit)
    → k < length parts → k < length audits → part ≡ get_or parts k part → number ≡ confirmed_on 0 (take k parts) (take k audits)
    → Puts output b c (parts_text 0 (take k parts) (take k audits)) → Puts output c e (part_text number part (get_or audits k d)) → Puts output b e (parts_text 0 (take (k + 1) parts) (take (k + 1) audits))
puts-next_part {output = output} {b = b} {c = c} {e = e} parts audits k number part d some others there is before line =
    let more : suc k ≡ k + 1 = omega arith in
    let at : Puts output c e (part_text (confirmed_on 0 (take k parts) (take k audits)) part (get_or audits k d)) = subst (λ (n : ℕ). Puts output c e (part_text n part (get_or audits k d))) is line in
    subst (λ (n : ℕ). Puts output b e (parts_text 0 (take n parts) (take n audits))) more (subst (Puts output b e) (sym (next-text parts audits k 0 part d some others there)) (puts-then before at))

confirmed-more : (parts : List CertPart) (audits : List Audit) (k number : ℕ) (d : Audit) → k < length parts → k < length audits
    → confirmed_on number (take (suc k) parts) (take (suc k) audits) ≡ counted_on (confirmed_on number (take k parts) (take k audits)) (get_or audits k d).confirmed
unfolding confirmed_on
confirmed-more [] audits k number d some others = absurd (omega (arith, some))
confirmed-more (p ∷ ps) [] k number d some others = absurd (omega (arith, others))
confirmed-more (p ∷ ps) (a ∷ later) zero number d some others = refl
confirmed-more (p ∷ ps) (a ∷ later) (suc k) number d some others =
    let less : k < length ps = omega (arith, some) in
    let fewer : k < length later = omega (arith, others) in
    confirmed-more ps later k (counted_on number a.confirmed) d less fewer

-- and its blocks are counted
pub next-confirmed : (parts : List CertPart) (audits : List Audit) (k number next : ℕ) (d : Audit) → k < length parts → k < length audits → number ≡ confirmed_on 0 (take k parts) (take k audits)
    → next ≡ counted_on number (get_or audits k d).confirmed → next ≡ confirmed_on 0 (take (k + 1) parts) (take (k + 1) audits)
next-confirmed parts audits k number next d some others is counted =
    let more : suc k ≡ k + 1 = omega arith in
    counted ∙ ap (λ (n : ℕ). counted_on n (get_or audits k d).confirmed) is ∙ sym (confirmed-more parts audits k 0 d some others)
    ∙ ap (λ (n : ℕ). confirmed_on 0 (take n parts) (take n audits)) more

-- all parts
pub all-text : (parts : List CertPart) (audits : List Audit) (k number : ℕ) → min (length parts) (length audits) ≤ k → parts_text number (take k parts) (take k audits) ≡ parts_text number parts audits
unfolding parts_text
all-text [] audits zero number past = refl
all-text [] audits (suc k) number past = refl
all-text (p ∷ ps) [] zero number past = refl
all-text (p ∷ ps) [] (suc k) number past = refl
all-text (p ∷ ps) (a ∷ later) zero number past = absurd (omega (arith, past))
all-text (p ∷ ps) (a ∷ later) (suc k) number past =
    let fewer : min (length ps) (length later) ≤ k = omega (arith, past) in
    ap (λ (t : List ℕ). part_text number p a ++ t) (all-text ps later k (counted_on number a.confirmed) fewer)

-- and all their blocks are counted
pub all-confirmed : (parts : List CertPart) (audits : List Audit) (k number : ℕ) → min (length parts) (length audits) ≤ k → confirmed_on number (take k parts) (take k audits) ≡ confirmed_on number parts audits
unfolding confirmed_on
all-confirmed [] audits zero number past = refl
all-confirmed [] audits (suc k) number past = refl
all-confirmed (p ∷ ps) [] zero number past = refl
all-confirmed (p ∷ ps) [] (suc k) number past = refl
all-confirmed (p ∷ ps) (a ∷ later) zero number past = absurd (omega (arith, past))
all-confirmed (p ∷ ps) (a ∷ later) (suc k) number past =
    let fewer : min (length ps) (length later) ≤ k = omega (arith, past) in
    all-confirmed ps later k (counted_on number a.confirmed) fewer
