use Rattle.std.proofs.Common.{ℕ, nat_lt, ◌∷◌, sym, ap, ◌∙◌}
use Rattle.std.specs.List.{list_any}
use Rattle.std.specs.Option.{is_some}
use Rattle.aig_graph.specs.Graph.{variable}
use Rattle.ascii_file.specs.Raw.{defined}
use Rattle.aag_text.specs.Taking.{raw_of}
use Rattle.aag_text.proofs.PlaceLaws.{has-place}
use Rattle.aag_text.proofs.TakeLaws.{definition_twice, definition_taken}
use Rattle.aag_text.proofs.sections.Sections.check_definition.Goals as goal

pub returns-then-is_some-clause-checks : goal.returns-then-is_some-clause-checks
returns-then-is_some-clause-checks c =
    λ symbols stands.
    definition_twice c.args.self.now.header (raw_of c.args.self.now symbols) c.args.at c.args.lit c.args.others.now
    (ap (λ (g : ℕ). list_any (λ other. nat_lt g other) (c.args.lit ∷ c.args.others.now)) (sym c.greatest_literal.ensures) ∙ sym c.is_past.ensures ∙ c.if-is_past.false)
    (sym c.is_undefinable.ensures ∙ c.if-is_undefinable.false)
    (sym (has-place c.args.self.now.places (defined (raw_of c.args.self.now symbols)) (variable c.args.lit) stands.places) ∙ ap is_some (sym c.place.ensures) ∙ sym c.is_some.ensures
    ∙ c.if-is_some.true)

pub returns-clause-checks : goal.returns-clause-checks
returns-clause-checks c =
    λ symbols stands.
    definition_taken c.args.self.now.header (raw_of c.args.self.now symbols) c.args.at c.args.lit c.args.others.now
    (ap (λ (g : ℕ). list_any (λ other. nat_lt g other) (c.args.lit ∷ c.args.others.now)) (sym c.greatest_literal.ensures) ∙ sym c.is_past.ensures ∙ c.if-is_past.false)
    (sym c.is_undefinable.ensures ∙ c.if-is_undefinable.false)
    (sym (has-place c.args.self.now.places (defined (raw_of c.args.self.now symbols)) (variable c.args.lit) stands.places) ∙ ap is_some (sym c.place.ensures) ∙ sym c.is_some.ensures
    ∙ c.if-is_some.false)
