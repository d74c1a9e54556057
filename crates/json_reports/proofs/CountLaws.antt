-- The counts of the confirmed blocks of parts.
use Rattle.std.proofs.Common.{ℕ, zero, suc, ◌+◌, ◌<◌, ◌≤◌, ◌≡◌, List, [], ◌∷◌, ◌++◌, ◌∙◌, ap, append-nil, append_assoc, arith, get_or, length, map, min, refl, sym, take}
use Rattle.std.proofs.lemmas.List.{map_more, map_push, take_all}
use Rattle.certificates.specs.declared.certificate.Certificate.{Certificate}
use Rattle.certificate_files.specs.declared.file.CertPart.{CertPart}
use Rattle.certificate_audits.specs.declared.outcome.Audit.{Audit}
use Rattle.serde_json.specs.Data.{Data}
use Rattle.serde_json.specs.View.{view}
use Rattle.serde_json.specs.declared.value.Value.{Value}
use Rattle.json_reports.specs.Audits.{block_data, confirmed_blocks}

map-append : {X Y : Type 0} (f : X → Y) (xs ys : List X) → map f (xs ++ ys) ≡ map f xs ++ map f ys
map-append f [] ys = refl
map-append f (x ∷ xs) ys = ap (λ zs. f x ∷ zs) (map-append f xs ys)

-- ---- the blocks of a part

-- one more block's count behind what there was
pub counts-pushed : (blocks : List Certificate) (k : ℕ) (block : Certificate) (old before after : List Value) (value : Value) → k < length blocks → block ≡ get_or blocks k block
    → map view before ≡ map view old ++ map block_data (take k blocks) → view value ≡ block_data block → after ≡ before ++ value ∷ [] → map view after ≡ map view old ++ map block_data (take (k + 1) blocks)
counts-pushed blocks k block old before after value within there so_far made push =
    ap (map view) push ∙ map_push view before value ∙ ap (λ (ds : List Data). ds ++ view value ∷ []) so_far
    ∙ append_assoc (map view old) (map block_data (take k blocks)) (view value ∷ [])
    ∙ ap (λ (d : Data). map view old ++ (map block_data (take k blocks) ++ d ∷ [])) (made ∙ ap block_data there)
    ∙ ap (λ (ds : List Data). map view old ++ ds) (sym (map_more block_data blocks k block within))

-- all blocks' counts
pub counts-whole : (blocks : List Certificate) (k : ℕ) (old now : List Value) → length blocks ≤ k → map view now ≡ map view old ++ map block_data (take k blocks) → map view now ≡ map view old ++ map block_data blocks
counts-whole blocks k old now past so_far = so_far ∙ ap (λ (bs : List Certificate). map view old ++ map block_data bs) (take_all k blocks past)

-- ---- the parts

next-blocks : (parts : List CertPart) (audits : List Audit) (k : ℕ) (part : CertPart) (d : Audit) → k < length parts → k < length audits → part ≡ get_or parts k part
    → confirmed_blocks (take (suc k) parts) (take (suc k) audits) ≡ confirmed_blocks (take k parts) (take k audits) ++ take (get_or audits k d).confirmed part.blocks
unfolding confirmed_blocks
next-blocks [] audits k part d some others there = absurd (omega (arith, some))
next-blocks (p ∷ ps) [] k part d some others there = absurd (omega (arith, others))
next-blocks (p ∷ ps) (a ∷ later) zero part d some others there =
    append-nil (take a.confirmed p.blocks) ∙ ap (λ (x : CertPart). take a.confirmed x.blocks) (sym there)
next-blocks (p ∷ ps) (a ∷ later) (suc k) part d some others there =
    let less : k < length ps = omega (arith, some) in
    let fewer : k < length later = omega (arith, others) in
    ap (λ (bs : List Certificate). take a.confirmed p.blocks ++ bs) (next-blocks ps later k part d less fewer there)
    ∙ sym (append_assoc (take a.confirmed p.blocks) (confirmed_blocks (take k ps) (take k later)) (take (get_or later k d).confirmed part.blocks))

-- one part more
pub parts-pushed : (parts : List CertPart) (audits : List Audit) (k : ℕ) (part : CertPart) (d : Audit) (before after : List Value) → k < length parts → k < length audits
    → part ≡ get_or parts k part → map view before ≡ map block_data (confirmed_blocks (take k parts) (take k audits))
    → map view after ≡ map view before ++ map block_data (take (get_or audits k d).confirmed part.blocks) → map view after ≡ map block_data (confirmed_blocks (take (k + 1) parts) (take (k + 1) audits))
parts-pushed parts audits k part d before after some others there so_far more =
    let next : suc k ≡ k + 1 = omega arith in
    more ∙ ap (λ (ds : List Data). ds ++ map block_data (take (get_or audits k d).confirmed part.blocks)) so_far
    ∙ sym (map-append block_data (confirmed_blocks (take k parts) (take k audits)) (take (get_or audits k d).confirmed part.blocks))
    ∙ ap (map block_data) (sym (next-blocks parts audits k part d some others there))
    ∙ ap (λ (n : ℕ). map block_data (confirmed_blocks (take n parts) (take n audits))) next

-- all parts
pub all-blocks : (parts : List CertPart) (audits : List Audit) (k : ℕ) → min (length parts) (length audits) ≤ k → confirmed_blocks (take k parts) (take k audits) ≡ confirmed_blocks parts audits
unfolding confirmed_blocks
all-blocks [] audits zero past = refl
all-blocks [] audits (suc k) past = refl
all-blocks (p ∷ ps) [] zero past = refl
all-blocks (p ∷ ps) [] (suc k) past = refl
all-blocks (p ∷ ps) (a ∷ later) zero past = absurd (omega (arith, past))
all-blocks (p ∷ ps) (a ∷ later) (suc k) past =
    let fewer : min (length ps) (length later) ≤ k = omega (arith, past) in
    ap (λ (bs : List Certificate). take a.confirmed p.blocks ++ bs) (all-blocks ps later k fewer)
