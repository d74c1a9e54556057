use Rattle.std.proofs.Common.{◌∙◌, ◌++◌, ap, sym, append-nil}
use Rattle.reports.proofs.WaveNameLaws.{no-words, one-more_word}
use Rattle.reports.proofs.waves.names.add_property.Goals as goal

pub loop-position-init : goal.loop-position-init
loop-position-init c = sym (append-nil _) ∙ ap (λ ws. c.args.names.now.items ++ ws) (sym (no-words c.args.property))

pub loop-position-preserved : goal.loop-position-preserved
loop-position-preserved c =
    one-more_word c.args.names.now.items c.loop-position.names.items c.push.new.self.items c.args.property c.loop-position.position c.in_ok-literal_word.field-0
    c.loop-position.invariant c.in_ok-push.ensures.items c.in_ok-literal_word.ensures
