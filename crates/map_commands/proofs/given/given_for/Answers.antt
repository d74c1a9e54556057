use Rattle.map_commands.proofs.given.given_for.Goals as goal

pub returns-in-Ok : goal.returns-in-Ok
returns-in-Ok g c = record {
  between = g.I.CountedRead.input c.mapped_at.new.stdin;
  mapped = c.in_ok-mapped.ensures;
  witness = record { stdin = c.in-Ok.ensures.stdin; file = c.in-Ok.ensures.file };
}
