-- A normalised circuit is normalised after a move, if the low copies are.
use Rattle.clean.specs.Laws.{MovedIsNormalised}
use Rattle.aig_graph.specs.Move.{Move}
use Rattle.clean.proofs.GateLaws.{moved-pairs, moved-plain}
use Rattle.clean.proofs.LatchLaws.{moved-moving, moved-single}
use Rattle.clean.proofs.WaveLaws.{all_reached}

-- a normalised circuit is normalised after a move over a closed set, if the low copies are
pub moved_normalised : (m : Move) → MovedIsNormalised m
moved_normalised m valid netlist in_range set normalised lows = record {
  reached = all_reached m valid netlist in_range set normalised;
  moving = moved-moving m valid set normalised;
  single = moved-single m valid set normalised;
  plain = moved-plain m valid set normalised lows;
  pairs = moved-pairs m valid set normalised lows;
}
