use Rattle.std.proofs.Common.{List, Some, ◌≡◌, ◌≤◌, ◌-◌, length}
use Rattle.aig_graph.specs.declared.choice.Choice.{Choice}
use Rattle.certificate_files.specs.declared.file.CertPart.{CertPart}
use Rattle.certificate_files.specs.Files.{merging}
use Rattle.certificate_files.specs.Steps.{read_rest, rest_of_part}
use Rattle.certificate_files.proofs.merged_lines.read_merged.Given as goal

abbrev pub invariant-loop : goal.invariant-loop
invariant-loop l = record {
  end : l.lines.end ≡ l.fn.lines.end;
  shorter : length l.lines.rest.now ≤ length l.fn.lines.rest.now;
  reads : (choice : Choice) (parts : List CertPart)
      → rest_of_part choice parts (Some l.count) l.fn.lines.end l.fn.lines.rest.now ≡ read_rest l.lines.end l.lines.rest.now (merging choice parts l.merged.items (l.count - l.counter));
}
