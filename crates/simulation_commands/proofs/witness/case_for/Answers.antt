use Rattle.simulation_commands.proofs.witness.case_for.Goals as goal

pub returns-in-Ok-witness_at : goal.returns-in-Ok-witness_at
returns-in-Ok-witness_at g c =
    let first = c.in-Ok.ensures in
    let second = c.in-Ok-read_circuit.ensures in
    record {
      first = first.0;
      second = second.0;
      after_first = g.I.CountedRead.input c.read_circuit.new.stdin;
      after_second = g.I.CountedRead.input c.read_circuit-in-Ok.new.stdin;
      read_first = first.2;
      read_second = second.2;
      read_witness = record { stdin = c.in-Ok-witness_at.ensures.stdin; file = c.in-Ok-witness_at.ensures.file };
      circuit = first.1;
      retimed = second.1;
    }
