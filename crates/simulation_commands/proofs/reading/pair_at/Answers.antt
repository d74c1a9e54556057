use Rattle.simulation_commands.proofs.reading.pair_at.Goals as goal

pub returns-in-Ok : goal.returns-in-Ok
returns-in-Ok g c = record {
  between = g.I.CountedRead.input c.circuit_at.new.stdin;
  read_first = record { stdin = c.in_ok-first.ensures.stdin; file = c.in_ok-first.ensures.file };
  read_second = record { stdin = c.in-Ok.ensures.stdin; file = c.in-Ok.ensures.file };
}
