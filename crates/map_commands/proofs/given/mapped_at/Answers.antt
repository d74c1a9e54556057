use Rattle.map_commands.proofs.given.mapped_at.Goals as goal

pub returns-in-Ok : goal.returns-in-Ok
returns-in-Ok g c = record {
  circuits = g.I.CountedRead.input c.pair_at.new.stdin;
  pair = c.in_ok-pair.ensures;
  mapping = record { stdin = c.in-Ok.ensures.stdin; file = c.in-Ok.ensures.file };
}
