use Rattle.aag_text.proofs.HeaderLaws.{header_row-used}
use Rattle.aag_text.proofs.counts.put_counts.Goals as goal

pub returns : goal.returns
returns g c =
    let used = rw c.counts-counts.ensures at c.used-len.ensures.used in
    rw (c.counts-counts.ensures, header_row-used c.args.circuit.now _ used) at c.put_line.ensures
