use Rattle.std.proofs.Common.{ap, ◌∙◌, false, unwrap_or}
use Rattle.reports.specs.Traces.{digit}
use Rattle.reports.proofs.TraceTextLaws.{value_is}
use Rattle.reports.proofs.trace.put_value.Goals as goal

pub returns : goal.returns
returns g c =
    let a = c.args in
    let value = c.digit.ensures ∙ ap digit (c.unwrap_or-value.ensures ∙ ap (λ o. unwrap_or o false) c.get.ensures ∙ value_is a.trace.now a.sequence a.step a.place) in
    rw value at c.put_byte.ensures
