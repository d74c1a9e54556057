-- Marks of the nodes that were read or delivered so far.
use Rattle.std.proofs.Common.{◌≡◌, ℕ, ◌+◌, ◌<◌, ◌≤◌, ◌&&◌, ◌||◌, nat_lt, nat_le, Bool, true, false, List, length, slice_index, refl, sym, ◌∙◌, inl, inr, ◌⊎◌}
use Rattle.std.proofs.Math.Bool.{and-false}
use Rattle.std.proofs.lemmas.Bool.{cases_lt, lt-ltb, le-leb, le-ltb, lt-leb, false≢true, or_parts}
use Rattle.frame_net.specs.Flow.{pulse}
use Rattle.frame_net.specs.FlowNet.{FlowNet, node_count, start, IsFlowNet}
use Rattle.pulse_parts.specs.declared.parts.FlowPart.{FlowPart}
use Rattle.pulse_parts.specs.Parts.{Cells, Agree, AreFlowParts, pairs, cells_of}
use Rattle.pulse_parts.specs.Delivering.{HoldPushes, NodeKept, PartsDelivered, PartsSafe}
use Rattle.pulse_parts.specs.Marks.{RangeLaws, and_range, NoneMarked, AllMarked, ReadSoFar, DeliveredSoFar, IsPartlyDelivered}
use Rattle.pulse_parts.proofs.DeliveredRangeLaws.{given_then_kept, kept_then_given, safe_rows}
use Rattle.pulse_parts.proofs.WholeDeliveryLaws.{whole_given, whole_kept}
use Rattle.pulse_parts.proofs.StepLaws.{hold_pushes, given_is_pulse, node_safe, parts_safe_by}

or_second : (a b : Bool) → b ≡ false → (a || b) ≡ true → a ≡ true
or_second true b e h = refl
or_second false b e h = absurd (false≢true (sym e ∙ h))

in_range : (first end v : ℕ) → first ≤ v → v < end → (nat_le first v && nat_lt v end) ≡ true
in_range first end v lo hi = rw (le-leb first v lo, lt-ltb v end hi) refl

off_range : (first end v : ℕ) → (v < first) ⊎ (end ≤ v) → (nat_le first v && nat_lt v end) ≡ false
off_range first end v out = elim out [
  | inl lt ↦ rw (lt-leb first v lt) refl
  | inr ge ↦ rw (le-ltb v end ge) (and-false (nat_le first v))
]

-- a node lies in a range or not
sides : (first end v : ℕ) → ((first ≤ v) × (v < end)) ⊎ ((v < first) ⊎ (end ≤ v))
sides first end v = elim (cases_lt v first) [
  | inl lt ↦ inr (inl lt)
  | inr ge ↦ elim (cases_lt v end) [ inl lt ↦ inl (ge, lt) | inr over ↦ inr (inr over) ]
]

out_marked : (marks : ℕ → Bool) (first end v : ℕ) → (v < first) ⊎ (end ≤ v) → and_range marks first end v ≡ true → marks v ≡ true
out_marked marks first end v out m = or_second (marks v) (nat_le first v && nat_lt v end) (off_range first end v out) m

-- if all nodes are marked as read, the rows hold what each node pushes
pub read_whole : (net : FlowNet) (labels : List ℕ) (marks : ℕ → Bool) (c : Cells) (xs : List ℕ) → IsFlowNet net → AllMarked (node_count net) marks → ReadSoFar net labels marks c xs → HoldPushes net (pairs net c labels) xs
read_whole net labels marks c xs ok all r = hold_pushes net c labels xs ok (λ v k vn kl. r.rows v k vn (all v vn) kl)

-- delivering a range of nodes adds them to those that are delivered
pub give_more : (net : FlowNet) (labels xs : List ℕ) (marks : ℕ → Bool) (first end : ℕ) (c : Cells) (qs us : List FlowPart) → IsFlowNet net → AreFlowParts net 0 qs → length us ≡ length qs
    → PartsDelivered net labels xs first end qs us → NoneMarked marks first end → DeliveredSoFar net labels xs marks c (cells_of qs) → DeliveredSoFar net labels xs (and_range marks first end) c (cells_of us)
give_more net labels xs marks first end c qs us ok cut len gives none g = record {
  given = λ v vn m. elim (sides first end v) [
    | inl inside ↦ kept_then_given net labels xs v v (start net v) c (cells_of qs) (cells_of us) (g.kept v vn (none v inside.0 inside.1))
        (whole_given net labels xs first end qs us ok cut len gives v vn inside.0 inside.1)
    | inr out ↦ given_then_kept net labels xs v v (start net v) c (cells_of qs) (cells_of us) (g.given v vn (out_marked marks first end v out m))
        (whole_kept net labels xs first end qs us ok cut len gives v vn out)
  ];
  kept = λ v vn m.
      let apart = or_parts (marks v) (nat_le first v && nat_lt v end) m in
      elim (sides first end v) [
        | inl inside ↦ absurd (false≢true (sym apart.1 ∙ in_range first end v inside.0 inside.1))
        | inr out ↦ both_kept v (g.kept v vn apart.0) (whole_kept net labels xs first end qs us ok cut len gives v vn out)
      ];
}
  where
    both_kept : (v : ℕ) → NodeKept net v v (start net v) c (cells_of qs) → NodeKept net v v (start net v) (cells_of qs) (cells_of us) → NodeKept net v v (start net v) c (cells_of us)
    both_kept v one two = record { row = λ k l. two.row k l ∙ one.row k l; excess = two.excess ∙ one.excess; next = two.next ∙ one.next }

-- a node that wasn't delivered yet can be
pub give_safe : (net : FlowNet) (labels xs : List ℕ) (marks : ℕ → Bool) (first end : ℕ) (qs : List FlowPart) → IsFlowNet net → AreFlowParts net 0 qs → NoneMarked marks first end
    → IsPartlyDelivered net labels xs marks (cells_of qs) → PartsSafe net xs first end qs
give_safe net labels xs marks first end qs ok cut none mid =
    parts_safe_by net qs xs first end ok cut (λ v vn lo hi.
    let k : NodeKept net v v (start net v) mid.opening (cells_of qs) = mid.so_far.kept v vn (none v lo hi) in
    safe_rows net xs v (slice_index mid.opening.excess v) (slice_index (cells_of qs).excess v) (λ j. slice_index mid.opening.residuals (start net v + j)) (λ j. slice_index (cells_of qs).residuals (start net v + j))
    (λ j l. sym (k.row j l)) (sym k.excess) (node_safe net mid.opening labels xs ok mid.sound mid.is_read v vn))

-- if all nodes are marked as delivered, the state is the one after the pulse
pub give_whole : (net : FlowNet) (labels next xs : List ℕ) (marks : ℕ → Bool) (c d : Cells) → IsFlowNet net → HoldPushes net (pairs net c labels) xs → AllMarked (node_count net) marks
    → DeliveredSoFar net labels xs marks c d → ((v : ℕ) → v < node_count net → slice_index next v ≡ slice_index d.next v)
    → Agree (node_count net) (pulse (node_count net) (pairs net c labels)) (pairs net d next)
give_whole net labels next xs marks c d ok h all g turned = given_is_pulse net c d labels next xs ok h (λ v vn. g.given v vn (all v vn)) turned

-- rows that were all read hold what each node pushes, and a delivery begins with no mark
pub range_laws : RangeLaws
range_laws = record {
  all_read = λ net labels pushes marks c ok all r. read_whole net labels marks c pushes ok all r;
  begins = λ net labels pushes c sound h. record {
    opening = c;
    sound = sound;
    is_read = h;
    so_far = record { given = λ v vn m. absurd (false≢true m); kept = λ v vn m. record { row = λ k l. refl; excess = refl; next = refl } };
  };
}
