-- Lines that are misread are those of no reading.
use Rattle.std.proofs.Common.{ℕ, ◌+◌, ◌<◌, ◌≡◌, inl, inr, List, [], ◌∷◌, ◌++◌, length, true, not, nat_eq, refl, arith, ap, sym, ◌∙◌, subst}
use Rattle.std.specs.List.{Contains}
use Rattle.std.proofs.lemmas.Bool.{cases_Bool, eqb-true}
use Rattle.std.proofs.lemmas.List.Elements.{Contains-append_left, Contains-push}
use Rattle.std.proofs.lemmas.Option.{slice_get_within}
use Rattle.aig_graph.specs.Graph.{Graph, first_latch}
use Rattle.certificates.specs.declared.merged.MergedLatch.{MergedLatch}
use Rattle.latch_merging.specs.Merging.{AreMisread}
use Rattle.latch_readings.specs.Judgements.{IsMisread, other_length, other_literal}
use Rattle.latch_readings.proofs.LineLaws.{lines-begin}
use Rattle.merged_circuits.specs.Lines.{is_merged, latch_line, merged_lines}
use Rattle.merged_circuits.specs.Readings.{ReadsAs, as_itself, own_literal, read}
use Rattle.merged_circuits.proofs.LineLaws.{lines_below, lines-more, one-reading}

-- a latch that doesn't read as itself has its line
line-listed : (g : Graph) (reads : List ℕ) (j : ℕ) → length reads ≡ length g.latches → j < length g.latches → (read reads j ≡ own_literal g j → ⊥) → Contains (merged_lines g reads) (latch_line g reads j)
line-listed g reads j long h other =
    let line : MergedLatch = latch_line g reads j in
    let merged : is_merged line ≡ true =
    elim (cases_Bool (nat_eq (read reads j) (own_literal g j))) [ inl same ↦ absurd (other (eqb-true (read reads j) (own_literal g j) same)) | inr unlike ↦ ap not unlike ] in
    let begun = lines-begin g (merged_lines g reads) reads (j + 1) (omega (arith, h)) (record { long = long; said = refl }) in
    let more : merged_lines g reads ≡ (lines_below g reads j ++ line ∷ []) ++ begun.0 = begun.1 ∙ ap (λ (xs : List MergedLatch). xs ++ begun.0) (lines-more g reads j merged) in
    subst (λ (xs : List MergedLatch). Contains xs line) (sym more) (Contains-append_left (lines_below g reads j ++ line ∷ []) begun.0 line (Contains-push (lines_below g reads j) line))

-- what is misread is the one list that its lines say, and has a line of the latch at the place
pub misread-lines : (g : Graph) (held reads : List ℕ) (place latch : ℕ) → length reads ≡ length g.latches → IsMisread g held reads place → (place < length g.latches → latch ≡ first_latch g + place)
    → AreMisread g held (merged_lines g reads) latch
misread-lines g held reads place latch long (other_length other e) at = absurd (other long)
misread-lines g held reads place latch long (other_literal item same before there unlike) at =
    let within : place < length g.latches = slice_get_within g.latches place item there in
    record {
      named = (latch_line g reads place, line-listed g reads place long within (λ own. unlike (as_itself own)), sym (at within));
      none = λ whole reading said.
          let one : whole ≡ reads = one-reading g (merged_lines g reads) whole reads said (record { long = long; said = refl }) in
          unlike (subst (λ (xs : List ℕ). ReadsAs g held xs place item (read xs place)) one (reading.each place item there));
    }
