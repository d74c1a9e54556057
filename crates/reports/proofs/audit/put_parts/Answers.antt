use Rattle.std.proofs.Common.{◌≤◌, ◌<◌, ◌∙◌, List, ℕ, arith, length, min, subst}
use Rattle.counted_io.specs.Buffered.{Puts}
use Rattle.counted_io.proofs.BufferedLaws.{puts-nothing}
use Rattle.reports.specs.Audits.{confirmed_on, parts_text}
use Rattle.reports.proofs.AuditTextLaws.{all-confirmed, all-text, next-confirmed, puts-next_part}
use Rattle.reports.proofs.audit.put_parts.Goals as goal

pub loop-place-init : goal.loop-place-init
unfolding parts_text confirmed_on
loop-place-init g c = record { text = puts-nothing _; number = omega arith }

pub loop-place-preserved : goal.loop-place-preserved
loop-place-preserved g c =
    let parts = c.args.parts.now in
    let audits = c.args.audits.now in
    let some : c.loop-place.place < length parts = omega (arith, c.loop-place-test.true, c.min-place-end.ensures) in
    let others : c.loop-place.place < length audits = omega (arith, c.loop-place-test.true, c.min-place-end.ensures) in
    record {
      text = puts-next_part parts audits c.loop-place.place c.loop-place.number c.index-parts-place.result _ some others c.index-parts-place.is c.loop-place.invariant.number c.loop-place.invariant.text c.put_part.ensures;
      number = next-confirmed parts audits c.loop-place.place c.loop-place.number c.saturating_add-number.result _ some others c.loop-place.invariant.number c.saturating_add-number.ensures;
    }

pub returns-clause-text : goal.returns-clause-text
returns-clause-text g c =
    let parts = c.args.parts.now in
    let audits = c.args.audits.now in
    let past : min (length parts) (length audits) ≤ c.loop-place.place = omega (arith, c.loop-place-test.false, c.min-place-end.ensures) in
    subst (λ (t : List ℕ). Puts g.W.CountedWrite.output c.args.out.now c.loop-place.out t) (all-text parts audits c.loop-place.place 0 past) c.loop-place.invariant.text

pub returns-clause-number : goal.returns-clause-number
returns-clause-number g c =
    let parts = c.args.parts.now in
    let audits = c.args.audits.now in
    let past : min (length parts) (length audits) ≤ c.loop-place.place = omega (arith, c.loop-place-test.false, c.min-place-end.ensures) in
    c.loop-place.invariant.number ∙ all-confirmed parts audits c.loop-place.place 0 past
