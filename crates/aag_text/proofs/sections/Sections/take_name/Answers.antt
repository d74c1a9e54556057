use Rattle.std.proofs.Common.{refl, subst, arith, ◌∷◌, ◌++◌, [], Bool}
use Rattle.std.specs.List.{list_any}
use Rattle.file_words.specs.declared.fault.ReadError.TheVariants.{BadSymbol}
use Rattle.ascii_file.specs.Items.{SymbolItem}
use Rattle.ascii_file.specs.Reading.{is_of_same}
use Rattle.ascii_file.specs.parts.Names.{AreNamesOf, symbol_at, with_new}
use Rattle.aag_text.proofs.TakeLaws.{takes_plain, was_false}
use Rattle.aag_text.proofs.sections.Sections.take_name.Goals as goal

pub returns-in-Ok-true : goal.returns-in-Ok-true
returns-in-Ok-true c =
    λ symbols stands next.
    let symbol = symbol_at c.args.kind c.args.position c.args.name in
    takes_plain c.args.self.now _ symbols c.args.at (BadSymbol c.args.at) (SymbolItem symbol) _ refl stands next
    (omega (arith, c.count_of.ensures), was_false (list_any (is_of_same symbol) symbols) _ (c.in-Ok-true.ensures.new symbols stands.names) c.in-Ok-true.field-0-test)
    refl (symbols ++ symbol ∷ []) refl refl refl
    (subst (λ (b : Bool). AreNamesOf c.insert.new.self (with_new b symbols symbol)) c.in-Ok-true.field-0-test (c.in-Ok-true.ensures.names symbols stands.names))
