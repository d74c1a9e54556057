use Rattle.std.proofs.Common.{inl, inr, ◌<◌, ◌∙◌, Some, ap, arith, length, refl, sym}
use Rattle.std.proofs.lemmas.Option.{slice_get_read, slice_get_within}
use Rattle.witness_circuits.proofs.NamingLaws.{refused-taken, refused-where}
use Rattle.witness_circuits.proofs.naming.NamedPlaces.take.Goals as goal

pub returns-in_default-clause-takes : goal.returns-in_default-clause-takes
returns-in_default-clause-takes c = inl (λ said. c.in_default.ensures said.0 (c.as_slice.ensures ∙ said.1), refl, refl)

pub returns-in_default-place_of-clause-refused : goal.returns-in_default-place_of-clause-refused
returns-in_default-place_of-clause-refused c =
    refused-where c.args.first c.args.name.now c.in-Some.digits.now c.args.self.now.taken.items (sym c.as_slice.ensures ∙ c.in-Some.ensures)
    (λ place free said. c.in_default-place_of.ensures place (omega (arith, c.len.ensures, slice_get_within c.args.self.now.taken.items place _ free)) said)

pub returns-then-index-clause-refused : goal.returns-then-index-clause-refused
returns-then-index-clause-refused c =
    refused-taken c.args.first c.args.name.now c.in-Some.digits.now c.args.self.now.taken.items c.in-Some-place_of.place c.index.result.now (sym c.as_slice.ensures ∙ c.in-Some.ensures)
    c.in-Some-place_of.ensures.1 c.index.ensures c.if-index.true

pub returns-clause-takes : goal.returns-clause-takes
returns-clause-takes c =
    let taken = c.args.self.now.taken.items in
    let place = c.in-Some-place_of.place in
    let within : place < length taken = omega (arith, c.in-Some-place_of.ensures.0, c.len.ensures) in
    inr (
      place,
      within,
      (c.in-Some.digits.now, sym c.as_slice.ensures ∙ c.in-Some.ensures, c.in-Some-place_of.ensures.1),
      slice_get_read taken (length taken) place c.index.result.now refl within c.index.ensures ∙ ap Some c.if-index.false,
      refl,
      refl,
    )
