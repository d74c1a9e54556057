use Rattle.std.proofs.Common.{ℕ, ◌≡◌, ◌<◌, ◌≤◌, length}
use Rattle.ascii_file.specs.declared.header.Header.{Header}
use Rattle.ascii_file.specs.declared.raw.Section.TheVariants.{Gates}
use Rattle.ascii_file.specs.Raw.{Raw}
use Rattle.binary_file.specs.Items.{next_section}
use Rattle.binary_file.specs.Contents.{IsAt, section_to_fill}
use Rattle.binary_file.specs.Taking.{AreGatesTaken}
use Rattle.binary_file.proofs.sections.Sections.take_gates.Given as goal

abbrev pub invariant-loop-left : goal.invariant-loop-left
invariant-loop-left l =
    (length l.left ≤ length l.bytes)
    × ((h : Header) (raw : Raw) (at : ℕ) → IsAt l.fn.self h raw → next_section h raw ≡ Gates
    → AreGatesTaken h raw at l.self l.bytes l.left × (length l.self.gates < l.self.header.gates → section_to_fill l.self ≡ Gates))

abbrev pub decreases-loop-left : goal.decreases-loop-left
decreases-loop-left l = length l.left
