use Rattle.std.proofs.Common.{◌∙◌, inr, sym, subst, ap}
use Rattle.ascii_file.specs.declared.parts.symbols.SymbolText.TheVariants.{NoSymbol, Comment, Malformed, Name}
use Rattle.binary_file.specs.Reading.{read_line}
use Rattle.ascii_file.specs.parts.Names.{symbol_at}
use Rattle.binary_file.specs.Contents.{Contents}
use Rattle.binary_file.specs.ReaderItems.{symbol_taken}
use Rattle.binary_file.proofs.TakingLaws.{Agrees, given_takes, header_within}
use Rattle.binary_file.proofs.SymbolTextLaws.{line_text}
use Rattle.binary_file.proofs.sections.Sections.take_symbol.Goals as goal

pub returns-in-Name : goal.returns-in-Name
returns-in-Name c h raw line is here no_comment text =
    given_takes h _ _ _ _ (c.take_name.ensures raw.symbols (ap (λ (d : Contents). d.names) is))
    (subst (λ (d : Contents). Agrees h (symbol_taken d raw.symbols c.args.at (symbol_at c.in-Name.kind c.in-Name.position c.in-Name.name)) (read_line h raw c.args.at line)) (sym is)
    (line_text h (header_within _ _ h raw c.self.view_is is c.self.invariant.within) raw c.args.at line (Name c.in-Name.kind c.in-Name.position c.in-Name.name) here no_comment (sym c.in-Name.is ∙ text)))

pub returns-in-Malformed : goal.returns-in-Malformed
returns-in-Malformed c h raw line is here no_comment text =
    inr (line_text h (header_within _ _ h raw c.self.view_is is c.self.invariant.within) raw c.args.at line Malformed here no_comment (sym c.in-Malformed.is ∙ text))

pub returns-in-NoSymbol : goal.returns-in-NoSymbol
returns-in-NoSymbol c h raw line is here no_comment text =
    inr (line_text h (header_within _ _ h raw c.self.view_is is c.self.invariant.within) raw c.args.at line NoSymbol here no_comment (sym c.in-NoSymbol.is ∙ text))

pub returns-in-Comment : goal.returns-in-Comment
returns-in-Comment c h raw line is here no_comment text =
    absurd (line_text h (header_within _ _ h raw c.self.view_is is c.self.invariant.within) raw c.args.at line Comment here no_comment (sym c.in-Comment.is ∙ text))
