use Rattle.std.proofs.Common.{ℕ, ◌+◌, ◌<◌, ◌≡◌, ◌∙◌, List, Some, length, get_or, slice_get, refl, ap, sym, zero-add}
use Rattle.std.proofs.lemmas.Option.{slice_get_read, slice_get_within}
use Rattle.aig_graph.specs.declared.graph.Latch.{Latch}
use Rattle.aig_graph.specs.Graph.{Graph, free_before}
use Rattle.aig_graph.specs.Value.{opening_literal}
use Rattle.aig_graph.proofs.TableLaws.{entry, table-at, table-none}
use Rattle.pair_checks.specs.Openings.{choice_literal, opening_of}
use Rattle.pair_checks.proofs.openings.openings_of.Goals as goal

pub loop-place-init : goal.loop-place-init
loop-place-init c = c.new-begins.ensures.items ∙ sym (table-none 0 (λ j. opening_of (get_or c.args.kept.now (free_before c.args.aig.now j) 0) (slice_get c.args.aig.now.latches j)))

pub loop-place-preserved : goal.loop-place-preserved
loop-place-preserved c =
    let g : Graph = c.args.aig.now in
    let kept : List ℕ = c.args.kept.now in
    let f : ℕ → ℕ = λ j. opening_of (get_or kept (free_before g j) 0) (slice_get g.latches j) in
    let k : ℕ = c.loop-place.place in
    let items : List Latch = c.latches-latch-items.result.now in
    let l : Latch = c.latch-item.result in
    let there : slice_get g.latches k ≡ Some l =
    ap (λ (xs : List Latch). slice_get xs k) (sym c.latches-latch-items.ensures.value) ∙ slice_get_read items (length items) k l refl c.loop-place-test.true c.latch-item.is in
    let within : k < length g.latches = slice_get_within g.latches k l there in
    let number : c.entry_at-number.result ≡ free_before g k =
    c.entry_at-number.ensures.value ∙ ap (λ (xs : List ℕ). get_or xs k 0) (c.as_slice.ensures.value ∙ c.in_ok-numbers.ensures)
    ∙ table-at 0 (length g.latches) (free_before g) k 0 within ∙ ap (free_before g) (zero-add k) in
    let place : c.entry_at-kept_place.result ≡ get_or kept (free_before g k) 0 = c.entry_at-kept_place.ensures.value ∙ ap (λ (n : ℕ). get_or kept n 0) number in
    let here : c.opening_of.result ≡ f (0 + k) =
    c.opening_of.ensures ∙ ap (λ (n : ℕ). opening_literal l.reset (choice_literal n)) place
    ∙ sym (ap (opening_of (get_or kept (free_before g k) 0)) there) ∙ ap f (sym (zero-add k)) in
    entry 0 k f c.loop-place.begins.items c.push.new.self.items c.opening_of.result c.loop-place.invariant c.in_ok-push.ensures.items here
