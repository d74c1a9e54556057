use Rattle.std.proofs.Common.{sym, ◌∙◌}
use Rattle.std.specs.Global.{Vec}
use Rattle.batch_pool.proofs.SharingLaws.{empty_are_slots, ordered, ordered_len}
use Rattle.batch_pool.proofs.slots.in_order.Goals as goal

pub put_shares-requires-clause-len : goal.put_shares-requires-clause-len
put_shares-requires-clause-len g c = c.in-Ok.ensures.len ∙ c.requires.jobs

pub put_shares-requires-clause-slots : goal.put_shares-requires-clause-slots
put_shares-requires-clause-slots g c = empty_are_slots (goal.F-post g c.args.run.now) c.in-Ok.slots.items c.in-Ok.ensures.none

pub put_shares-requires-clause-all : goal.put_shares-requires-clause-all
put_shares-requires-clause-all g c = c.requires.all

pub put_shares-requires-clause-each : goal.put_shares-requires-clause-each
put_shares-requires-clause-each g c = c.requires.each

pub unwrapped-requires : goal.unwrapped-requires
unwrapped-requires g c = c.in-Ok-put_shares.ensures.filled

pub returns-in-Ok-put_shares-clause-len : goal.returns-in-Ok-put_shares-clause-len
returns-in-Ok-put_shares-clause-len g c =
    ordered_len (λ (v : Vec g.row.X.Denot). v.items) c.put_shares.new.slots.items c.args.jobs c.unwrapped.result
    (c.put_shares.ensures.len ∙ sym c.requires.jobs) c.unwrapped.ensures

pub returns-in-Ok-put_shares-clause-each : goal.returns-in-Ok-put_shares-clause-each
returns-in-Ok-put_shares-clause-each g c =
    ordered (goal.F-post g c.args.run.now) (λ (v : Vec g.row.X.Denot). v.items) c.put_shares.new.slots.items c.args.jobs c.unwrapped.result
    (c.put_shares.ensures.len ∙ sym c.requires.jobs) c.put_shares.ensures.slots c.unwrapped.ensures
