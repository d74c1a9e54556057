use Rattle.std.proofs.Common.{ℕ, ◌≡◌, ◌∙◌, ◌+◌, List, Option, Some, arith, ap, refl, length, take, slice_get, get_or, None}
use Rattle.std.proofs.lemmas.Option.{slice_get-get_or}
use Rattle.witness_circuits.specs.Joining.{own_count}
use Rattle.witness_circuits.proofs.CountLaws.{count-lt, count-more, own-none}
use Rattle.witness_circuits.proofs.SourceLaws.{first-more}
use Rattle.witness_circuits.proofs.literals.sources.Goals as goal

pub loop-place-init : goal.loop-place-init
loop-place-init c = record {
  room = omega (arith, c.in_ok-lits.ensures.exact);
  filled = record {
    many = ap (λ (xs : List ℕ). length xs) c.in_ok-lits.ensures.items;
    next_is = omega arith;
    each = λ j less. absurd (omega (arith, less));
  };
}

pub source-requires-clause-below : goal.source-requires-clause-below
source-requires-clause-below c = λ at e.
    let places : List (Option ℕ) = c.args.places.now in
    let k : ℕ = c.loop-place.place-index in
    c.requires.below k at (slice_get-get_or places k None c.loop-place-test.true ∙ ap (λ (p : Option ℕ). Some p) e)

pub source-requires-clause-next : goal.source-requires-clause-next
source-requires-clause-next c = λ mine.
    let places : List (Option ℕ) = c.args.places.now in
    let k : ℕ = c.loop-place.place-index in
    let there : slice_get places k ≡ Some None = slice_get-get_or places k None c.loop-place-test.true ∙ ap (λ (p : Option ℕ). Some p) (own-none (get_or places k None) mine) in
    omega (arith, c.loop-place.invariant.filled.next_is, count-lt places k there, c.requires.room)

pub push_reserved-requires : goal.push_reserved-requires
push_reserved-requires c = omega (arith, c.loop-place-test.true, c.loop-place.invariant.room, c.loop-place.invariant.filled.many)

pub loop-place-preserved : goal.loop-place-preserved
loop-place-preserved c =
    let places : List (Option ℕ) = c.args.places.now in
    let k : ℕ = c.loop-place.place-index in
    let o : Option ℕ = get_or places k None in
    let there : slice_get places k ≡ Some o = slice_get-get_or places k None c.loop-place-test.true in
    let counted = count-more places k (own_count (take k places)) c.one_if_own-next.result o there refl c.one_if_own-next.ensures.value in
    record {
      room = omega (arith, c.loop-place.invariant.room, c.push_reserved.ensures.capacity);
      filled =
          first-more places c.args.shared.now c.loop-place.lits.items c.push_reserved.new.self.items c.args.own k c.loop-place.next (c.loop-place.next + c.one_if_own-next.result) c.source.result o there c.loop-place.invariant.filled c.source.ensures
          (omega (arith, c.loop-place.invariant.filled.next_is, counted)) c.push_reserved.ensures.items;
    }

pub returns : goal.returns
returns c =
    let end : c.loop-place.place-index ≡ length c.args.places.now = omega (arith, c.loop-place-test.false, c.loop-place.auto.place-index-end) in
    record {
      many = c.loop-place.invariant.filled.many ∙ end;
      each = λ k less. c.loop-place.invariant.filled.each k (omega (arith, less, end));
    }
