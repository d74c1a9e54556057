use Rattle.std.proofs.Common.{Option, ap, refl, subst, sym, ◌∙◌}
use Rattle.std.specs.Prelude.{is_some}
use Rattle.aig_graph.specs.Circuits.{Netlist}
use Rattle.commands.specs.Pipes.{IsMapOf}
use Rattle.commands.proofs.PipeLaws.{is_answer, mapped_answer, stopped_mapped}
use Rattle.commands.proofs.answer.retime_to.Goals as goal

pub returns-in_default-clause-prints : goal.returns-in_default-clause-prints
returns-in_default-clause-prints g c = refl

pub returns-in-Ok-mapped_to-clause-answer : goal.returns-in-Ok-mapped_to-clause-answer
returns-in-Ok-mapped_to-clause-answer g c =
    let made = c.mapped_answer.ensures in
    mapped_answer c.args.task.now c.args.options.now c.args.spelt _ _ c.in-Ok-mapped_to.made c.mapped_answer.result
    made.rounds made.keep (made.levels ∙ c.in-Ok.ensures) (made.spelling ∙ c.unwrap_or-spelling.ensures) made.map (ap is_some c.in-Some.is) c.in-Ok-mapped_to.ensures.held c.in-Ok-mapped_to.ensures.ok

pub returns-in-Err-clause-prints : goal.returns-in-Err-clause-prints
returns-in-Err-clause-prints g c =
    stopped_mapped c.args.task.now c.args.options.now c.args.spelt _ _ c.in-Err.error c.failure_of_mapping.result c.failure_of_mapping.ensures c.in-Err.ensures.err

pub returns-in-Ok-plain_to-clause-answer : goal.returns-in-Ok-plain_to-clause-answer
returns-in-Ok-plain_to-clause-answer g c =
    let made = c.plain_answer.ensures in
    let run = c.in-Ok-plain_to.run' in
    is_answer c.args.task.now c.args.options.now c.args.spelt _ _ run.retimed run.keep c.plain_answer.result
    made.rounds made.keep (made.levels ∙ c.in-Ok.ensures) (made.spelling ∙ c.unwrap_or-spelling.ensures)
    (subst (λ (map : Option Netlist). IsMapOf c.args.spelt.circuit run.retimed map) (sym made.map) tt)
    (ap is_some made.map ∙ sym (ap is_some c.in-None.is)) c.in-Ok-plain_to.ensures.held c.in-Ok-plain_to.ensures.written
