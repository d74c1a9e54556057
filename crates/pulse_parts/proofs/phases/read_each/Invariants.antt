use Rattle.std.proofs.Common.{◌≡◌, ℕ, ◌<◌, ◌≤◌, slice_index_or}
use Rattle.pulse_parts.specs.declared.parts.PushPart.{PushPart}
use Rattle.pulse_parts.specs.Parts.{cells_of}
use Rattle.pulse_parts.specs.Reading.{PartReadOn}
use Rattle.pulse_parts.proofs.phases.read_each.Given as goal

abbrev pub invariant-loop-i : goal.invariant-loop-i
invariant-loop-i l = record {
  below : (j : ℕ) (e : PushPart) → j < l.i → PartReadOn l.net l.labels l.first l.end (cells_of l.flow) (slice_index_or l.fn.parts j e) (slice_index_or l.parts j e);
  above : (j : ℕ) (e : PushPart) → l.i ≤ j → slice_index_or l.parts j e ≡ slice_index_or l.fn.parts j e;
}
