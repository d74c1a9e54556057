-- The next item by the contents.
use Rattle.std.proofs.Common.{ℕ, ◌+◌, ◌*◌, ◌<◌, ◌≤◌, ◌≡◌, [], ◌∷◌, ◌++◌, length, Bool, true, false, cond, nat_lt, refl, sym, ap, ap₂, ◌∙◌, arith}
use Rattle.std.specs.List.{sum}
use Rattle.std.proofs.lemmas.Bool.{cond-false, le-ltb, lt-ltb, ltb-true, ltb-false}
use Rattle.std.proofs.lemmas.List.{length-map}
use Rattle.aig_graph.specs.declared.graph.Gate.{Gate}
use Rattle.ascii_file.specs.declared.header.Header.{Header}
use Rattle.ascii_file.specs.declared.raw.Section.{Section}
use Rattle.ascii_file.specs.declared.raw.Section.TheVariants.{Inputs, Latches, Safety, Sizes, Liveness, Gates, Symbols}
use Rattle.ascii_file.specs.Raw.{Raw, safety_count, liveness_count}
use Rattle.ascii_file.specs.Reading as ascii
use Rattle.binary_file.specs.Items.{next_section, next_latch, next_gate}
use Rattle.binary_file.specs.Contents.{Contents, latch_as_listed, gate_as_listed, IsAt, section_to_fill, latch_literal, gate_literal}
use Rattle.binary_file.specs.ReaderItems.{contents_with_gate}

-- the section of the next item
pub section_is : (c : Contents) (h : Header) (raw : Raw) → IsAt c h raw → section_to_fill c ≡ next_section h raw
unfolding next_section ascii.next_section
section_is c h raw is =
    ap section_to_fill is
    ∙ ap₂ (λ (m n : ℕ). cond (nat_lt m h.latches) Latches (cond (nat_lt (length raw.safety) (safety_count h)) Safety (cond (nat_lt (length raw.sizes) h.justice) Sizes
    (cond (nat_lt (length raw.liveness) (liveness_count h raw)) Liveness (cond (nat_lt n h.gates) Gates Symbols)))))
    (length-map raw.latches latch_as_listed) (length-map raw.gates gate_as_listed)
    ∙ sym (cond-false (nat_lt (length raw.inputs) 0) Inputs _ (le-ltb (length raw.inputs) 0 (omega arith)))

-- the literals of the next latch and of the next gate
pub latch_literal_is : (c : Contents) (h : Header) (raw : Raw) → IsAt c h raw → latch_literal c ≡ next_latch h raw
latch_literal_is c h raw is = ap latch_literal is ∙ ap (λ (n : ℕ). 2 * (h.inputs + 1 + n)) (length-map raw.latches latch_as_listed)

-- the literal of the next gate by the contents is that by the raw circuit
pub gate_literal_is : (c : Contents) (h : Header) (raw : Raw) → IsAt c h raw → gate_literal c ≡ next_gate h raw
gate_literal_is c h raw is = ap gate_literal is ∙ ap (λ (n : ℕ). 2 * (h.inputs + h.latches + 1 + n)) (length-map raw.gates gate_as_listed)

-- the first section with room, by whether each has
abbrev first_with_room : Bool → Bool → Bool → Bool → Bool → Section
first_with_room a b c d e = cond a Latches (cond b Safety (cond c Sizes (cond d Liveness (cond e Gates Symbols))))

latches_have_room : (a b c d e : Bool) → first_with_room a b c d e ≡ Latches → a ≡ true
latches_have_room true b c d e is = refl
latches_have_room false true c d e is = absurd cc
latches_have_room false false true d e is = absurd cc
latches_have_room false false false true e is = absurd cc
latches_have_room false false false false true is = absurd cc
latches_have_room false false false false false is = absurd cc

-- of latches there are fewer than the header says if they come next
pub latch_room : (c : Contents) → section_to_fill c ≡ Latches → length c.latches < c.header.latches
latch_room c is = ltb-true _ _ (latches_have_room _ _ _ _ _ is)

gates_have_room : (a b c d e : Bool) → first_with_room a b c d e ≡ Gates → e ≡ true
gates_have_room true b c d e is = absurd cc
gates_have_room false true c d e is = absurd cc
gates_have_room false false true d e is = absurd cc
gates_have_room false false false true e is = absurd cc
gates_have_room false false false false true is = refl
gates_have_room false false false false false is = absurd cc

-- and so of gates
pub gate_room : (c : Contents) → section_to_fill c ≡ Gates → length c.gates < c.header.gates
gate_room c is = ltb-true _ _ (gates_have_room _ _ _ _ _ is)

gates_again : (a b c d e : Bool) → first_with_room a b c d e ≡ Gates → (again : Bool) → again ≡ true → first_with_room a b c d again ≡ Gates
gates_again true b c d e is again room = absurd cc
gates_again false true c d e is again room = absurd cc
gates_again false false true d e is again room = absurd cc
gates_again false false false true e is again room = absurd cc
gates_again false false false false e is again room = ap (λ (x : Bool). cond x Gates Symbols) room

-- gates still come next after a gate, if one is missing then
pub gates_stay : (c : Contents) (gate : Gate) → section_to_fill c ≡ Gates → length (c.gates ++ gate ∷ []) < c.header.gates → section_to_fill (contents_with_gate c gate) ≡ Gates
gates_stay c gate is room = gates_again _ _ _ _ _ is (nat_lt (length (c.gates ++ gate ∷ [])) c.header.gates) (lt-ltb (length (c.gates ++ gate ∷ [])) c.header.gates room)

none_has_room : (a b c d e : Bool) → first_with_room a b c d e ≡ Symbols → (a ≡ false) × (b ≡ false) × (c ≡ false) × (d ≡ false) × (e ≡ false)
none_has_room true b c d e is = absurd cc
none_has_room false true c d e is = absurd cc
none_has_room false false true d e is = absurd cc
none_has_room false false false true e is = absurd cc
none_has_room false false false false true is = absurd cc
none_has_room false false false false false is = (refl, refl, refl, refl, refl)

-- no section is short if symbols come next
pub record AreFull (c : Contents) : Type 0 where
  -- there are all latches of the header
  pub latches : c.header.latches ≤ length c.latches
  -- there are all outputs, bad states and constraints of the header
  pub safety : safety_count c.header ≤ length c.properties.safety
  -- there are all sizes of justice properties of the header
  pub sizes : c.header.justice ≤ length c.properties.sizes
  -- there are all literals of justice properties, and all fairness literals of the header
  pub liveness : sum c.properties.sizes + c.header.fairness ≤ length c.properties.liveness
  -- there are all gates of the header
  pub gates : c.header.gates ≤ length c.gates

-- if symbols come next, all other sections are full
pub are_full : (c : Contents) → section_to_fill c ≡ Symbols → AreFull c
are_full c is =
    let full = none_has_room _ _ _ _ _ is in
    record {
      latches = ltb-false _ _ full.0;
      safety = ltb-false _ _ full.1;
      sizes = ltb-false _ _ full.2;
      liveness = ltb-false _ _ full.3;
      gates = ltb-false _ _ full.4;
    }
