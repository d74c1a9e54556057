use Rattle.std.proofs.Common.{ℕ, List, [], ◌≡◌, ◌≤◌, ◌-◌, length}
use Rattle.certificates.specs.declared.certificate.Certificate.{Certificate as Given}
use Rattle.certificate_files.specs.Files.{Blocks, Front, settled}
use Rattle.certificate_files.specs.Steps.{read_rest, certificate_block}
use Rattle.certificate_files.proofs.blocks.read_gates.Given as goal

abbrev pub invariant-loop : goal.invariant-loop
invariant-loop l = record {
  end : l.lines.end ≡ l.fn.lines.end;
  shorter : length l.lines.rest.now ≤ length l.fn.lines.rest.now;
  reads : (front : Front) (blocks : List Given) (stated routes : ℕ) → read_rest l.fn.lines.end l.fn.lines.rest.now (Blocks front (settled blocks (certificate_block stated [] []) l.count routes))
      ≡ read_rest l.lines.end l.lines.rest.now (Blocks front (settled blocks (certificate_block stated l.gates.items []) (l.count - l.counter) routes));
}
