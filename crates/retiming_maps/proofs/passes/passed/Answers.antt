use Rattle.retiming_maps.proofs.passes.passed.Goals as goal

pub returns-in-Ok : goal.returns-in-Ok
returns-in-Ok c = record { pass = c.in_ok-pass.ensures.pass; leads = c.in-Ok.ensures }
