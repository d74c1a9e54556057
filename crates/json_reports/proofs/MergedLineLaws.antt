-- The latches that rounds merged, counted together.
use Rattle.std.proofs.Common.{ℕ, ◌+◌, ◌<◌, ◌≡◌, ◌∙◌, Bool, false, List, [], ◌∷◌, ◌++◌, Option, Some, None, length, get_or, take, refl, ap, sym}
use Rattle.std.specs.Prelude.{is_some}
use Rattle.std.specs.List.{flat_map, slice_get}
use Rattle.std.proofs.lemmas.List.{flat_map_more, take_more}
use Rattle.certificate_files.specs.declared.file.CertPart.{CertPart}
use Rattle.certificates.specs.declared.merged.MergedLatch.{MergedLatch}
use Rattle.json_reports.specs.Retimings.{are_merged, lines_in, merged_lines}

-- those of one round more
pub lines-more : (parts : List CertPart) (i : ℕ) (part : CertPart) {before after : List MergedLatch} → i < length parts → part ≡ get_or parts i part → before ≡ merged_lines (take i parts)
    → after ≡ before ++ lines_in part → after ≡ merged_lines (take (i + 1) parts)
lines-more parts i part within there so_far added =
    added ∙ ap (λ (xs : List MergedLatch). xs ++ lines_in part) so_far ∙ flat_map_more lines_in [] (take i parts) part
    ∙ ap (λ (xs : List CertPart). flat_map lines_in xs) (ap (λ (x : CertPart). take i parts ++ x ∷ []) there ∙ sym (take_more parts i part within))

-- whether the part lists merged latches, if there is one
abbrev pub lists_them : Option CertPart → Bool
lists_them None = false
lists_them (Some part) = is_some part.merged

-- the first part tells whether latches were to be merged
pub first-tells : (parts : List CertPart) (first : Option CertPart) → first ≡ slice_get parts 0 → lists_them first ≡ are_merged parts
first-tells parts first is = ap lists_them is ∙ cases parts
  where
    cases : (all : List CertPart) → lists_them (slice_get all 0) ≡ are_merged all
    cases [] = refl
    cases (part ∷ all) = refl
