use Rattle.std.proofs.Common.{◌≡◌, take}
use Rattle.counted_io.specs.Buffered.{Puts}
use Rattle.reports.specs.Audits.{confirmed_on, parts_text}
use Rattle.reports.proofs.audit.put_parts.Given as goal

abbrev pub invariant-loop-place : goal.invariant-loop-place
invariant-loop-place g l = record {
  text : Puts g.W.CountedWrite.output l.fn.out l.out (parts_text 0 (take l.place l.parts) (take l.place l.audits));
  number : l.number ≡ confirmed_on 0 (take l.place l.parts) (take l.place l.audits);
}
