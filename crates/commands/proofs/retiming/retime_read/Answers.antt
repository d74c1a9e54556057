use Rattle.std.proofs.Common.{ap, subst, sym}
use Rattle.std.proofs.lemmas.Result.{IfOk-weaker}
use Rattle.frame_runs.specs.declared.options.Options.{Options}
use Rattle.commands.specs.Classes.{AreClassesAt}
use Rattle.commands.specs.RetimingTasks.{AreOptionsFor}
use Rattle.commands.proofs.retiming.retime_read.Goals as goal

pub returns-in-Ok-classes_at-clause-answer : goal.returns-in-Ok-classes_at-clause-answer
returns-in-Ok-classes_at-clause-answer g c =
    let are = c.requires in
    let between = g.I.CountedRead.input c.circuit_at.new.stdin in
    let left = g.I.CountedRead.input c.classes_at.new.stdin in
    IfOk-weaker c.retime_by.result _ _
    (λ answer at. record {
      options = c.with_classes-options.result;
      are_options = subst (AreOptionsFor c.args.task.now) (sym c.with_classes-options.ensures) (record {
        spelling = are.spelling;
        frames = are.frames;
        choice = are.choice;
        certify = are.certify;
        merge = are.merge;
        bound = are.bound;
        holding = are.holding;
      });
      spelt = c.in-Ok.spelt;
      read = λ stdin. c.in-Ok.ensures.stdin stdin;
      between = between;
      still = c.circuit_at.ensures.file;
      left = left;
      classes_are = subst (AreClassesAt c.args.task.now.classes between left) (sym (ap (λ (o : Options). o.classes) c.with_classes-options.ensures)) c.in-Ok-classes_at.ensures.classes;
      at = at;
    }) c.retime_by.ensures.answer
