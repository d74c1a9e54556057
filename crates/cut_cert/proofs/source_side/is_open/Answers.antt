use Rattle.std.proofs.Common.{◌≡◌, ◌∙◌, ◌+◌, ◌<◌, ◌&&◌, ap, ap₂, sym, arith, ℕ, Bool, List, not, nat_lt, slice_index_or, length, true, false}
use Rattle.std.proofs.lemmas.Bool.{lt-ltb, le-ltb}
use Rattle.frame_net.specs.FlowNet.{FlowNet, start, head, cap_at, point_of}
use Rattle.cut_cert.proofs.SinkWalkLaws.{arc-in}
use Rattle.cut_cert.specs.Steps.{is_behind}
use Rattle.cut_cert.proofs.OpenWalkLaws.{open-back, open-else}
use Rattle.cut_cert.proofs.source_side.is_open.Goals as goal

pub bounds-used-mate : goal.bounds-used-mate
bounds-used-mate c =
    let arc : start c.args.net.now c.args.node + c.args.place < length c.args.net.now.heads = arc-in c.args.net.now c.known.ensures.network c.args.node c.args.place c.requires.node c.requires.place in
    omega (arith, c.mates.ensures.value c.args.place c.requires.place, c.known_capacities.ensures.startable.mates_in (start c.args.net.now c.args.node + c.args.place) arc, c.requires.long)

pub overflow_cast-arc : goal.overflow_cast-arc
overflow_cast-arc c =
    omega (arith, c.start.ensures, c.known_capacities.ensures.startable.few_arcs, arc-in c.args.net.now c.known.ensures.network c.args.node c.args.place c.requires.node c.requires.place)

pub cap-requires : goal.cap-requires
cap-requires c = omega (arith, c.start.ensures, arc-in c.args.net.now c.known.ensures.network c.args.node c.args.place c.requires.node c.requires.place)

pub is_taken-requires-clause-arc : goal.is_taken-requires-clause-arc
is_taken-requires-clause-arc c = omega (arith, c.start.ensures, c.requires.long, arc-in c.args.net.now c.known.ensures.network c.args.node c.args.place c.requires.node c.requires.place)

pub is_taken-requires-clause-head : goal.is_taken-requires-clause-head
is_taken-requires-clause-head c =
    omega (arith, c.heads.ensures.value c.args.place c.requires.place, c.known.ensures.network.heads_in c.args.node c.args.place c.requires.node c.requires.place)

pub returns-then-used-mate : goal.returns-then-used-mate
returns-then-used-mate c =
    let used : List Bool = c.args.used.now in
    c.if-used-mate.true
    ∙ sym (open-back c.args.net.now used c.args.node c.args.place (ap (λ (m : ℕ). slice_index_or used m false) (sym (c.mates.ensures.value c.args.place c.requires.place)) ∙ c.if-used-mate.true))

pub returns-else-cap-gt0 : goal.returns-else-cap-gt0
returns-else-cap-gt0 c =
    let net : FlowNet = c.args.net.now in
    let used : List Bool = c.args.used.now in
    let off : nat_lt 0 c.cap.result ≡ false = le-ltb 0 c.cap.result c.if-cap-gt0.false in
    let cap : cap_at net (start net c.args.node + c.args.place) ≡ c.cap.result = ap (cap_at net) (ap (λ (s : ℕ). s + c.args.place) (sym c.start.ensures)) ∙ sym c.cap.ensures in
    off
    ∙ sym (open-else net used c.args.node c.args.place (ap (λ (m : ℕ). slice_index_or used m false) (sym (c.mates.ensures.value c.args.place c.requires.place)) ∙ c.if-used-mate.false)
    ∙ ap (λ (b : Bool). b && not (is_behind (point_of net (head net c.args.node c.args.place)) && slice_index_or used (start net c.args.node + c.args.place) false)) (ap (nat_lt 0) cap ∙ off))

pub returns-then-cap-gt0 : goal.returns-then-cap-gt0
returns-then-cap-gt0 c =
    let net : FlowNet = c.args.net.now in
    let used : List Bool = c.args.used.now in
    let on : nat_lt 0 c.cap.result ≡ true = lt-ltb 0 c.cap.result c.if-cap-gt0.true in
    let arc : c.start.result + c.args.place ≡ start net c.args.node + c.args.place = ap (λ (s : ℕ). s + c.args.place) c.start.ensures in
    let cap : cap_at net (start net c.args.node + c.args.place) ≡ c.cap.result = ap (cap_at net) (sym arc) ∙ sym c.cap.ensures in
    let taken : c.is_taken.result ≡ (is_behind (point_of net (head net c.args.node c.args.place)) && slice_index_or used (start net c.args.node + c.args.place) false) =
    c.is_taken.ensures ∙ ap₂ (λ (x a : ℕ). is_behind (point_of net x) && slice_index_or used a false) (c.heads.ensures.value c.args.place c.requires.place) arc in
    ap not taken
    ∙ sym (open-else net used c.args.node c.args.place (ap (λ (m : ℕ). slice_index_or used m false) (sym (c.mates.ensures.value c.args.place c.requires.place)) ∙ c.if-used-mate.false)
    ∙ ap (λ (b : Bool). b && not (is_behind (point_of net (head net c.args.node c.args.place)) && slice_index_or used (start net c.args.node + c.args.place) false)) (ap (nat_lt 0) cap ∙ on))
