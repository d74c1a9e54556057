use Rattle.mapped_answers.proofs.making.with_map.Goals as goal

pub state_map-requires : goal.state_map-requires
state_map-requires c = (c.args.end.retimed.kept_free, c.requires)

pub returns-in-Ok-clause-mapped : goal.returns-in-Ok-clause-mapped
returns-in-Ok-clause-mapped c = record { map = c.in-Ok.ensures.map c.args.end.retimed.kept_free c.requires; free = c.in-Ok.ensures.free }
