use Rattle.std.proofs.Common.{not, sym, ap, ◌∙◌, List}
use Rattle.aig_graph.specs.declared.properties.Symbol.{Symbol}
use Rattle.ascii_file.specs.Meaning.{with_name}
use Rattle.ascii_file.specs.parts.Names.{symbols_in}
use Rattle.ascii_file.proofs.KindNameLaws.{taken, inserted, found}
use Rattle.ascii_file.proofs.parts.kind_names.KindNames.insert.Goals as goal

pub returns-then-contains_key-clause-new : goal.returns-then-contains_key-clause-new
returns-then-contains_key-clause-new c = sym (ap not (taken c.args.self.now c.args.position c.self.inside.names.entries c.contains_key.result c.self.view_is c.contains_key.ensures ∙ c.if-contains_key.true))

pub returns-clause-new : goal.returns-clause-new
returns-clause-new c = sym (ap not (taken c.args.self.now c.args.position c.self.inside.names.entries c.contains_key.result c.self.view_is c.contains_key.ensures ∙ c.if-contains_key.false))

pub returns-clause-names : goal.returns-clause-names
returns-clause-names c =
    ap symbols_in c.in_ok-insert.ensures.entries
    ∙ inserted c.args.position c.args.name c.self.inside.names.entries (found c.args.position c.self.inside.names.entries ∙ sym c.contains_key.ensures ∙ c.if-contains_key.false)
    ∙ ap (λ (names : List Symbol). with_name names (record { position = c.args.position; name = c.args.name })) c.self.view_is
