-- The copies that are compared, one after another.
use Rattle.std.proofs.Common.{ℕ, Bool}
use Rattle.aig_graph.specs.Circuits.{Netlist}
use Rattle.aig_graph.specs.Gates.{Gates, Grows, IsNegated}
use Rattle.state_maps.specs.States.{Digits, State}
use Rattle.gate_sharing.specs.Equal.{Equal, StaysRight}
use Rattle.gate_sharing.specs.Copies.{AreShared, Copy}
use Rattle.map_checks.specs.Images.{AreComparedCopies, IsFaithfulCopy, Learns, Views, in_first, in_map, in_map_later, in_second_mapped}
use Rattle.gate_sharing.proofs.SharedLaws.{grows-transitive}
use Rattle.map_checks.proofs.ImageLaws.{shared-later, view-later, views-fewer}

-- what is right stays right where nothing changes
pub stays-same : (e : Equal) → StaysRight e e
stays-same e = λ values negated right. right

-- what stays right from one step to the next, twice, stays right over both
pub stays-then : (e f h : Equal) → StaysRight e f → StaysRight f h → StaysRight e h
stays-then e f h one two = λ values negated right. two values negated (one values negated right)

-- k1 and e1 after the constraints were learnt, then the map's image, the first circuit, the map a
-- step later and the second circuit
module _ (c d m : Netlist) (k1 k2 k3 k4 k5 : Gates) (e0 e1 e2 e3 e4 e5 : Equal) (image before later after : Copy)
    (learns : Learns k1 c.aig m e0 e1)
    (one : Grows k1 k2) (first : StaysRight e1 e2) (image_view : IsFaithfulCopy k2 e1 c.aig m.aig (in_map m) image)
    (two : Grows k2 k3) (second : StaysRight e2 e3) (before_view : IsFaithfulCopy k3 e2 c.aig c.aig (in_first c) before)
    (three : Grows k3 k4) (third : StaysRight e3 e4)
    (later_view : (e : Equal) → StaysRight e e3 → IsFaithfulCopy k3 e c.aig c.aig (in_first c) before → IsFaithfulCopy k4 e c.aig m.aig (in_map_later c m) later)
    (four : Grows k4 k5) (fourth : StaysRight e4 e5) (after_view : (e : Equal) → StaysRight e e4 → IsFaithfulCopy k4 e c.aig m.aig (in_map m) image → IsFaithfulCopy k5 e c.aig d.aig (in_second_mapped d m) after) where
  -- the literals of the map's image are shared once the map a step later was copied
  pub image-later : AreShared k4 image
  image-later = shared-later k2 k4 image (grows-transitive k2 k3 k4 two three) image_view.within

  abbrev later-is : IsFaithfulCopy k4 e2 c.aig m.aig (in_map_later c m) later
  later-is = later_view e2 second before_view

  abbrev after-is : IsFaithfulCopy k5 e1 c.aig d.aig (in_second_mapped d m) after
  after-is =
      after_view e1 (stays-then e1 e2 e4 first (stays-then e2 e3 e4 second third))
      (view-later k2 k4 e1 e1 c.aig m.aig (in_map m) image (grows-transitive k2 k3 k4 two three) (stays-same e1) image_view image-later)

  -- what has its values now had them when the constraints were learnt
  early : (values : ℕ → Bool) (x : Digits) (s : State) → Views k5 e0 c.aig x s values → Views k1 e0 c.aig x s values
  early values x s views = views-fewer k1 k5 e0 e0 c.aig x s values (grows-transitive k1 k2 k5 one (grows-transitive k2 k3 k5 two (grows-transitive k3 k4 k5 three four))) (stays-same e0) views

  -- once all are copied, the first circuit, the map a step later and the second circuit have their
  -- values in their copies
  pub are-sides : AreComparedCopies k5 e0 e5 c d m before later after
  are-sides = record {
    long = record { of_first = before_view.long; of_map = later-is.long; of_second = after-is.long };
    right = λ values x s views kept.
        let negated : IsNegated values = views.respects.negation in
        stays-then e1 e2 e5 first (stays-then e2 e3 e5 second (stays-then e3 e4 e5 third fourth)) values negated (learns values x s (early values x s views) kept);
    follows = λ values x s views kept.
        let known : Views k5 e1 c.aig x s values = record { respects = views.respects; right = learns values x s (early values x s views) kept; inputs = views.inputs; latches = views.latches } in (
          before_view.follows values x s (views-fewer k3 k5 e1 e2 c.aig x s values (grows-transitive k3 k4 k5 three four) first known),
          later-is.follows values x s (views-fewer k4 k5 e1 e2 c.aig x s values four first known),
          after-is.follows values x s known,
        );
  }
