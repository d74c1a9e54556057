use Rattle.std.proofs.Common.{◌≡◌, ◌∙◌, ◌∷◌, ◌++◌, [], ap, sym, subst, arith, ℕ, Bool, false, List, length, replicate, take, drop}
use Rattle.frame_net.specs.declared.net.Point.{Point}
use Rattle.frame_net.specs.FlowNet.{FlowNet, node_count, row_len}
use Rattle.pulse.specs.Values.{RunEnd}
use Rattle.cut_cert.specs.Walks.{AreOn, AreSearched, NoneComes, WalkedBack, total_outflow}
use Rattle.cut_cert.proofs.TrailLaws.{none-on, on-lent}
use Rattle.cut_cert.proofs.RouteLaws.{Gathering, no-routes, more-routes, all-routes, written-back, searched-first}
use Rattle.cut_cert.proofs.gathering.routes.Goals as goal

pub loop-end-init : goal.loop-end-init
loop-end-init c = record {
  gathering = subst (λ (rs : List (List Point)). Gathering c.args.net.now c.args.preflow.now c.in_ok-carried.carried.items rs 0) (sym c.none-routes.ensures)
      (no-routes c.args.net.now c.known.ensures.network c.args.preflow.now c.requires c.in_ok-carried.carried.items c.in_ok-carried.ensures);
  searched = subst (AreSearched c.args.net.now c.in_ok-carried.carried.items) (sym c.in_ok-places.ensures)
      (searched-first c.args.net.now c.known.ensures.network c.in_ok-carried.carried.items _ c.nodes-nodes.ensures);
  clear = subst (λ (marks : List Bool). AreOn (node_count c.args.net.now) marks []) (sym c.in_ok-marks.ensures) (subst (λ (n : ℕ). AreOn (node_count c.args.net.now) (replicate n false) []) (sym c.nodes-nodes.ensures) (none-on (node_count c.args.net.now)));
}

pub next_route-requires-clause-sized : goal.next_route-requires-clause-sized
next_route-requires-clause-sized c = ap (λ (marks : List Bool). length marks) c.as_mut_slice-in-Some-2.ensures.value ∙ c.loop-end.invariant.clear.long

pub next_route-requires-clause-clear : goal.next_route-requires-clause-clear
next_route-requires-clause-clear c = on-lent (node_count c.args.net.now) c.loop-end.marks.items c.as_mut_slice-in-Some-2.result.now c.as_mut_slice-in-Some-2.ensures.value c.loop-end.invariant.clear

left : (c : goal.After-drop-route-in-Some) → take c.loop-end.carried.len (c.next_route.new.carried ++ drop (length c.next_route.new.carried) c.loop-end.carried.items) ≡ c.next_route.new.carried
left c =
    let same : length c.as_mut_slice.result.now ≡ length c.loop-end.carried.items = ap (λ (xs : List ℕ). length xs) c.as_mut_slice.ensures.value in
    let size : length c.loop-end.carried.items ≡ c.loop-end.carried.len = omega (arith, same, c.as_mut_slice.ensures.len) in
    written-back c.loop-end.carried.len c.loop-end.carried.items c.next_route.new.carried (omega (arith, size, c.in_ok-route.ensures.route.long, c.loop-end.invariant.gathering.long)) size

left-places : (c : goal.After-drop-route-in-Some) → take c.loop-end.places.len (c.next_route.new.places ++ drop (length c.next_route.new.places) c.loop-end.places.items) ≡ c.next_route.new.places
left-places c =
    let same : length c.as_mut_slice-in-Some.result.now ≡ length c.loop-end.places.items = ap (λ (xs : List ℕ). length xs) c.as_mut_slice-in-Some.ensures.value in
    let size : length c.loop-end.places.items ≡ c.loop-end.places.len = omega (arith, same, c.as_mut_slice-in-Some.ensures.len) in
    written-back c.loop-end.places.len c.loop-end.places.items c.next_route.new.places (omega (arith, size, c.loop-end.invariant.searched.long, c.in_ok-route.ensures.searched.long)) size

left-marks : (c : goal.After-drop-route-in-Some) → take c.loop-end.marks.len (c.next_route.new.marks ++ drop (length c.next_route.new.marks) c.loop-end.marks.items) ≡ c.next_route.new.marks
left-marks c =
    let same : length c.as_mut_slice-in-Some-2.result.now ≡ length c.loop-end.marks.items = ap (λ (xs : List Bool). length xs) c.as_mut_slice-in-Some-2.ensures.value in
    let size : length c.loop-end.marks.items ≡ c.loop-end.marks.len = omega (arith, same, c.as_mut_slice-in-Some-2.ensures.len) in
    written-back c.loop-end.marks.len c.loop-end.marks.items c.next_route.new.marks (omega (arith, size, same, c.in_ok-route.ensures.clear.long)) size

walked : (c : goal.After-drop-route-in-Some) → WalkedBack c.args.net.now c.loop-end.carried.items c.next_route.new.carried c.in_ok-route.route.items
walked c = subst (λ (xs : List ℕ). WalkedBack c.args.net.now xs c.next_route.new.carried c.in_ok-route.route.items) c.as_mut_slice.ensures.value c.in_ok-route.ensures.route

pub loop-end-preserved : goal.loop-end-preserved
loop-end-preserved c =
    let net : FlowNet = c.args.net.now in
    let m : RunEnd = c.args.preflow.now in
    let xs : List ℕ = c.loop-end.carried.items in
    let none : NoneComes net xs 1 c.loop-end.place c.in-Some.end = subst (λ (zs : List ℕ). NoneComes net zs 1 c.loop-end.place c.in-Some.end) c.as_slice.ensures.value c.in-Some.ensures.1.1 in
    let pushed : c.push.new.self ≡ c.loop-end.routes ++ c.in_ok-route.route.items ∷ [] =
    c.in_ok-push.ensures ∙ ap (λ (r : List Point). c.loop-end.routes ++ r ∷ []) c.as_slice-in-Some.ensures.value in
    let lent : length c.as_mut_slice-in-Some-2.result.now ≡ node_count net = ap (λ (marks : List Bool). length marks) c.as_mut_slice-in-Some-2.ensures.value ∙ c.loop-end.invariant.clear.long in
    record {
      gathering = subst (λ (zs : List ℕ). Gathering net m zs c.push.new.self c.in-Some.end) (sym (left c)) (subst (λ (rs : List (List Point)). Gathering net m c.next_route.new.carried rs c.in-Some.end) (sym pushed)
          (more-routes net c.known.ensures.network m xs c.next_route.new.carried c.loop-end.routes c.in_ok-route.route.items c.loop-end.place c.in-Some.end c.loop-end.invariant.gathering none (walked c)));
      searched = subst (λ (zs : List ℕ). AreSearched net zs (take c.loop-end.places.len (c.next_route.new.places ++ drop (length c.next_route.new.places) c.loop-end.places.items))) (sym (left c)) (subst (AreSearched net c.next_route.new.carried) (sym (left-places c)) c.in_ok-route.ensures.searched);
      clear = subst (λ (marks : List Bool). AreOn (node_count net) marks []) (sym (left-marks c)) (subst (λ (n : ℕ). AreOn n c.next_route.new.marks []) lent c.in_ok-route.ensures.clear);
    }

pub loop-end-smaller : goal.loop-end-smaller
loop-end-smaller c = omega (arith, ap (total_outflow c.args.net.now) (left c), (walked c).less)

pub returns : goal.returns
returns c =
    let net : FlowNet = c.args.net.now in
    let xs : List ℕ = c.loop-end.carried.items in
    let none : NoneComes net xs 1 c.loop-end.place (row_len net 1) = subst (λ (zs : List ℕ). NoneComes net zs 1 c.loop-end.place (row_len net 1)) c.as_slice.ensures.value c.in_default.ensures in
    λ n held is. (all-routes net c.known.ensures.network c.args.preflow.now c.requires xs c.loop-end.routes c.loop-end.place c.loop-end.invariant.gathering none n held is)
