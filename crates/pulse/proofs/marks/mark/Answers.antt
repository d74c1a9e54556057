use Rattle.std.proofs.Common.{◌≡◌, ℕ, ◌<◌, true, false, length, slice_index_or, arith, refl, sym, ◌∙◌, subst}
use Rattle.std.proofs.lemmas.List.{length-set}
use Rattle.pulse_parts.specs.Marks.{and_range}
use Rattle.pulse.proofs.marks.mark.Goals as goal
use Rattle.pulse.proofs.MarkLaws.{range_none, mark_more}

pub loop-v-init : goal.loop-v-init
loop-v-init c = record { len = refl; marks = λ v l. sym (range_none (λ u. slice_index_or c.args.delivered.now u false) c.args.first v) }

pub loop-v-preserved : goal.loop-v-preserved
loop-v-preserved c = record {
  len = length-set c.loop-v.delivered c.loop-v.v true ∙ c.loop-v.invariant.len;
  marks = mark_more c.args.delivered.now c.loop-v.delivered c.args.first c.loop-v.v (omega arith) (omega (arith, c.loop-v.invariant.len, c.requires.within)) c.loop-v.invariant.marks;
}

pub returns : goal.returns
returns c =
    let all : c.loop-v.v ≡ c.args.end = omega arith in
    subst (λ (x : ℕ). (v : ℕ) → v < length c.args.delivered.now → slice_index_or c.loop-v.delivered v false ≡ and_range (λ u. slice_index_or c.args.delivered.now u false) c.args.first x v) all c.loop-v.invariant.marks
