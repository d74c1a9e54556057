use Rattle.std.proofs.Common.{◌≡◌, length, slice_index}
use Rattle.frame_net.specs.FlowNet.{node_count}
use Rattle.pulse_parts.specs.Listing.{ListActive}
use Rattle.pulse_parts.specs.Parts.{cells_of}
use Rattle.pulse_parts.specs.Start.{AreFlowShares, border_of, PartsHold}
use Rattle.pulse_parts.proofs.parting.parted_anew.Given as goal

abbrev pub invariant-loop-worker : goal.invariant-loop-worker
invariant-loop-worker l = record {
  reached : l.first ≡ border_of l.nodes l.workers l.worker;
  len : length l.parts.items ≡ l.worker;
  shares : AreFlowShares l.nodes l.workers l.parts.items;
  lists : ListActive (node_count l.net) l.labels l.flow → ListActive (node_count l.net) l.labels l.parts.items;
  starts : PartsHold l.net (slice_index (cells_of l.flow).residuals) (slice_index (cells_of l.flow).excess) l.first l.parts.items;
}
