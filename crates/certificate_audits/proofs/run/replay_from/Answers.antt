use Rattle.std.proofs.Common.{◌+◌, ◌∷◌, List, Option, arith, drop, refl, subst}
use Rattle.std.specs.Option.{MatchOption}
use Rattle.std.proofs.lemmas.List.{length-drop, take_rest}
use Rattle.certificates.specs.declared.certificate.Certificate.{Certificate}
use Rattle.certificate_audits.specs.declared.outcome.Audit.{Audit}
use Rattle.certificate_audits.specs.Findings.{EndsWith, GoesOn}
use Rattle.certificate_audits.proofs.AuditLaws.{audits-within, ends-audits, leads-first, leads-next, still-saves, replayed-at, replays-none}
use Rattle.certificate_audits.proofs.run.replay_from.Goals as goal

pub overflow_add-audit : goal.overflow_add-audit
overflow_add-audit c =
    let stage = c.loop-place.stage in
    let blocks = c.args.blocks.now in
    let k = c.loop-place.place in
    let block = c.index-blocks-place.result in
    let last = c.in-Ok-Some.last in
    let Q : List Certificate → Option Audit → Type 0 = λ rest found. MatchOption found (GoesOn c.args.bound stage.keep stage.circuit block rest) (λ audit. EndsWith c.args.bound stage.keep stage.circuit block rest audit.confirmed audit.end) in
    let ends : EndsWith c.args.bound stage.keep stage.circuit block (drop (k + 1) blocks) last.confirmed last.end =
    subst (Q (drop (k + 1) blocks)) c.in-Ok-Some.field-0-is (subst (λ (rest : List Certificate). Q rest c.in-Ok-Some.field-0) (take_rest blocks (k + 1)) c.in-Ok-Some.ensures) in
    let audits = ends-audits c.args.bound stage.keep stage.circuit block (drop (k + 1) blocks) last.confirmed last.end ends in
    let within = audits-within c.args.bound stage.keep stage.circuit (block ∷ drop (k + 1) blocks) last.confirmed last.end audits in
    omega (arith, within, length-drop (k + 1) blocks, c.loop-place-test.true)

pub ended_with-requires-clause-saves : goal.ended_with-requires-clause-saves
ended_with-requires-clause-saves c =
    let stage = c.loop-place.stage in
    let blocks = c.args.blocks.now in
    let k = c.loop-place.place in
    let block = c.index-blocks-place.result in
    let last = c.in-Ok-Some.last in
    let Q : List Certificate → Option Audit → Type 0 = λ rest found. MatchOption found (GoesOn c.args.bound stage.keep stage.circuit block rest) (λ audit. EndsWith c.args.bound stage.keep stage.circuit block rest audit.confirmed audit.end) in
    let ends : EndsWith c.args.bound stage.keep stage.circuit block (drop (k + 1) blocks) last.confirmed last.end =
    subst (Q (drop (k + 1) blocks)) c.in-Ok-Some.field-0-is (subst (λ (rest : List Certificate). Q rest c.in-Ok-Some.field-0) (take_rest blocks (k + 1)) c.in-Ok-Some.ensures) in
    λ open_end. (c.args.bound, still-saves c.args.bound stage.keep stage.circuit block (drop (k + 1) blocks) last.confirmed last.end ends open_end)

pub returns-in-Ok-Some : goal.returns-in-Ok-Some
returns-in-Ok-Some c =
    let stage = c.loop-place.stage in
    let blocks = c.args.blocks.now in
    let k = c.loop-place.place in
    let block = c.index-blocks-place.result in
    let last = c.in-Ok-Some.last in
    let Q : List Certificate → Option Audit → Type 0 = λ rest found. MatchOption found (GoesOn c.args.bound stage.keep stage.circuit block rest) (λ audit. EndsWith c.args.bound stage.keep stage.circuit block rest audit.confirmed audit.end) in
    let ends : EndsWith c.args.bound stage.keep stage.circuit block (drop (k + 1) blocks) last.confirmed last.end =
    subst (Q (drop (k + 1) blocks)) c.in-Ok-Some.field-0-is (subst (λ (rest : List Certificate). Q rest c.in-Ok-Some.field-0) (take_rest blocks (k + 1)) c.in-Ok-Some.ensures) in
    replayed-at c.args.bound c.args.first.keep stage.keep c.args.first.circuit stage.circuit blocks k block last.confirmed last.end c.ended_with.result c.loop-place-test.true c.index-blocks-place.is
    ends c.loop-place.invariant c.ended_with.ensures.audit c.ended_with.ensures.last

pub loop-place-preserved : goal.loop-place-preserved
loop-place-preserved c =
    let stage = c.loop-place.stage in
    let blocks = c.args.blocks.now in
    let k = c.loop-place.place in
    let block = c.index-blocks-place.result in
    let Q : List Certificate → Option Audit → Type 0 = λ rest found. MatchOption found (GoesOn c.args.bound stage.keep stage.circuit block rest) (λ audit. EndsWith c.args.bound stage.keep stage.circuit block rest audit.confirmed audit.end) in
    let goes : GoesOn c.args.bound stage.keep stage.circuit block (drop (k + 1) blocks) =
    subst (Q (drop (k + 1) blocks)) c.in-Ok-None.field-0-is (subst (λ (rest : List Certificate). Q rest c.in-Ok-None.field-0) (take_rest blocks (k + 1)) c.in-Ok-None.ensures) in
    let next = c.in_ok-stage-in-Ok-None.stage in
    let after = c.in_ok-stage-in-Ok-None.ensures in
    leads-next c.args.bound c.args.first.keep stage.keep next.keep c.args.first.circuit stage.circuit next.circuit blocks k block c.loop-place-test.true c.index-blocks-place.is
    goes after.next after.in_range c.loop-place.invariant

pub end_at-requires : goal.end_at-requires
end_at-requires c = c.loop-place.invariant.in_range

pub after_block-requires-clause-saves : goal.after_block-requires-clause-saves
after_block-requires-clause-saves c =
    let stage = c.loop-place.stage in
    let block = c.index-blocks-place.result in
    let blocks = c.args.blocks.now in
    let k = c.loop-place.place in
    let Q : List Certificate → Option Audit → Type 0 = λ rest found. MatchOption found (GoesOn c.args.bound stage.keep stage.circuit block rest) (λ audit. EndsWith c.args.bound stage.keep stage.circuit block rest audit.confirmed audit.end) in
    let goes : GoesOn c.args.bound stage.keep stage.circuit block (drop (k + 1) blocks) =
    subst (Q (drop (k + 1) blocks)) c.in-Ok-None.field-0-is (subst (λ (rest : List Certificate). Q rest c.in-Ok-None.field-0) (take_rest blocks (k + 1)) c.in-Ok-None.ensures) in
    (c.args.bound, goes.taken.saves)

pub after_block-requires-clause-in_range : goal.after_block-requires-clause-in_range
after_block-requires-clause-in_range c = c.loop-place.invariant.in_range

pub ended_with-requires-clause-in_range : goal.ended_with-requires-clause-in_range
ended_with-requires-clause-in_range c = c.loop-place.invariant.in_range

pub loop-place-init : goal.loop-place-init
loop-place-init c = leads-first c.args.bound c.args.first.keep c.args.first.circuit c.args.blocks.now c.requires

pub returns : goal.returns
returns c =
    let stage = c.loop-place.stage in
    replays-none c.args.bound c.args.first.keep stage.keep c.args.first.circuit stage.circuit c.args.blocks.now c.loop-place.place stage refl refl
    (omega (arith, c.loop-place-test.false)) c.loop-place.invariant
