use Rattle.std.proofs.Common.{◌≡◌, ◌≤◌, length, is_some}
use Rattle.certificate_files.specs.Files.{Blocks, Front, nothing_read}
use Rattle.certificate_files.specs.Steps.{read_rest, ended_blocks}
use Rattle.certificate_files.proofs.blocks.read_blocks.Given as goal

abbrev pub invariant-loop-alloc : goal.invariant-loop-alloc
invariant-loop-alloc l = record {
  end : l.lines.end ≡ l.fn.lines.end;
  shorter : length l.lines.rest.now ≤ length l.fn.lines.rest.now;
  reads : (front : Front) → is_some front.merged ≡ l.lists
      → read_rest l.fn.lines.end l.fn.lines.rest.now (Blocks front nothing_read) ≡ read_rest l.lines.end l.lines.rest.now (Blocks front (ended_blocks l.blocks.items));
}

abbrev pub decreases-loop-alloc : goal.decreases-loop-alloc
decreases-loop-alloc l = length l.lines.rest.now
