-- The next section by how many items there are.
use Rattle.std.proofs.Common.{ℕ, ◌<◌, ◌≤◌, ◌≡◌, inl, inr, length, nat_lt, cond, true, sym, subst, arith}
use Rattle.std.proofs.lemmas.Bool.{cases_lt, lt-ltb, le-ltb, cond-true, cond-false}
use Rattle.ascii_file.specs.declared.header.Header.{Header}
use Rattle.ascii_file.specs.declared.raw.Section.{Section}
use Rattle.ascii_file.specs.declared.raw.Section.TheVariants.{Inputs, Latches, Safety, Sizes, Liveness, Gates, Symbols}
use Rattle.ascii_file.specs.Raw.{Raw, safety_count, liveness_count}
use Rattle.ascii_file.specs.Reading.{next_section, is_complete}
use Rattle.ascii_file.specs.Files.{IsCountedBy}
use Rattle.ascii_file.proofs.StepLaws.{symbols_are}
use Rattle.aag_text.specs.Filling.{IsFilling}

-- the sections before this one are full, and it has room
abbrev pub HasRoom : Header → Raw → Section → Type 0
HasRoom h raw Inputs = length raw.inputs < h.inputs
HasRoom h raw Latches = (h.inputs ≤ length raw.inputs) × (length raw.latches < h.latches)
HasRoom h raw Safety = (h.inputs ≤ length raw.inputs) × (h.latches ≤ length raw.latches) × (length raw.safety < safety_count h)
HasRoom h raw Sizes = (h.inputs ≤ length raw.inputs) × (h.latches ≤ length raw.latches) × (safety_count h ≤ length raw.safety) × (length raw.sizes < h.justice)
HasRoom h raw Liveness =
    (h.inputs ≤ length raw.inputs) × (h.latches ≤ length raw.latches) × (safety_count h ≤ length raw.safety) × (h.justice ≤ length raw.sizes) × (length raw.liveness < liveness_count h raw)
HasRoom h raw Gates =
    (h.inputs ≤ length raw.inputs) × (h.latches ≤ length raw.latches) × (safety_count h ≤ length raw.safety) × (h.justice ≤ length raw.sizes) × (liveness_count h raw ≤ length raw.liveness)
    × (length raw.gates < h.gates)
HasRoom h raw Symbols =
    (h.inputs ≤ length raw.inputs) × (h.latches ≤ length raw.latches) × (safety_count h ≤ length raw.safety) × (h.justice ≤ length raw.sizes) × (liveness_count h raw ≤ length raw.liveness)
    × (h.gates ≤ length raw.gates)

choose : (P : Section → Type 0) (a b : ℕ) (here after : Section) → (a < b → P here) → (b ≤ a → P after) → P (cond (nat_lt a b) here after)
choose P a b here after less more = elim (cases_lt a b) [
  | inl is ↦ subst P (sym (cond-true (nat_lt a b) here after (lt-ltb a b is))) (less is)
  | inr is ↦ subst P (sym (cond-false (nat_lt a b) here after (le-ltb a b is))) (more is)
]

-- the next section has room, and those before it are full
pub room : (h : Header) (raw : Raw) → HasRoom h raw (next_section h raw)
unfolding next_section
room h raw =
    choose (HasRoom h raw) (length raw.inputs) h.inputs Inputs _ (λ less. less) (λ inputs.
    choose (HasRoom h raw) (length raw.latches) h.latches Latches _ (λ less. (inputs, less)) (λ latches.
    choose (HasRoom h raw) (length raw.safety) (safety_count h) Safety _ (λ less. (inputs, latches, less)) (λ safety.
    choose (HasRoom h raw) (length raw.sizes) h.justice Sizes _ (λ less. (inputs, latches, safety, less)) (λ sizes.
    choose (HasRoom h raw) (length raw.liveness) (liveness_count h raw) Liveness _ (λ less. (inputs, latches, safety, sizes, less)) (λ liveness.
    choose (HasRoom h raw) (length raw.gates) h.gates Gates Symbols (λ less. (inputs, latches, safety, sizes, liveness, less)) (λ gates. (inputs, latches, safety, sizes, liveness, gates)))))))

-- in the section that is next
pub room_in : (h : Header) (raw : Raw) (section : Section) → next_section h raw ≡ section → HasRoom h raw section
room_in h raw section e = subst (HasRoom h raw) e (room h raw)

-- if all items but symbols have been read, symbols come next
pub symbols_next : (h : Header) (raw : Raw) → is_complete h raw ≡ true → next_section h raw ≡ Symbols
symbols_next h raw e = symbols_are (next_section h raw) e

-- what has all its items has as many as the header says
pub counted : (h : Header) (raw : Raw) → IsFilling h raw → is_complete h raw ≡ true → IsCountedBy h raw
counted h raw filling e =
    let full = room_in h raw Symbols (symbols_next h raw e) in
    record {
      inputs = omega (arith, filling.inputs, full.0);
      latches = omega (arith, filling.latches, full.1);
      safety = omega (arith, filling.safety, full.2);
      sizes = omega (arith, filling.sizes, full.3);
      liveness = omega (arith, filling.liveness, full.4);
      gates = omega (arith, filling.gates, full.5);
    }
