use Rattle.std.proofs.Common.{inr, sym, ap, ◌∙◌}
use Rattle.ascii_file.specs.declared.parts.symbols.SymbolText.{SymbolText}
use Rattle.aag_text.specs.Taking.{raw_of}
use Rattle.aag_text.proofs.CountLaws.{symbols_next}
use Rattle.aag_text.proofs.ClampLaws.{by_text, line_by_text, no_comment}
use Rattle.aag_text.proofs.TakeLaws.{Takes-same}
use Rattle.aag_text.proofs.sections.Sections.take_symbol.Goals as goal

pub returns-in-NoSymbol : goal.returns-in-NoSymbol
returns-in-NoSymbol c =
    λ symbols line stands complete plain is.
    inr (line_by_text c.args.self.now.header (raw_of c.args.self.now symbols) c.args.at stands.read.within complete line plain
    ∙ ap (λ (t : SymbolText). by_text c.args.self.now.header (raw_of c.args.self.now symbols) c.args.at t) (sym is ∙ c.in-NoSymbol.is))

pub returns-in-Malformed : goal.returns-in-Malformed
returns-in-Malformed c =
    λ symbols line stands complete plain is.
    inr (line_by_text c.args.self.now.header (raw_of c.args.self.now symbols) c.args.at stands.read.within complete line plain
    ∙ ap (λ (t : SymbolText). by_text c.args.self.now.header (raw_of c.args.self.now symbols) c.args.at t) (sym is ∙ c.in-Malformed.is))

pub returns-in-Name : goal.returns-in-Name
returns-in-Name c =
    λ symbols line stands complete plain is.
    Takes-same c.args.self.now _ _ _ _
    (sym (line_by_text c.args.self.now.header (raw_of c.args.self.now symbols) c.args.at stands.read.within complete line plain
    ∙ ap (λ (t : SymbolText). by_text c.args.self.now.header (raw_of c.args.self.now symbols) c.args.at t) (sym is ∙ c.in-Name.is)))
    (c.take_name.ensures symbols stands (symbols_next c.args.self.now.header (raw_of c.args.self.now symbols) complete))

pub returns-in-Comment : goal.returns-in-Comment
returns-in-Comment c = λ symbols line stands complete plain is. absurd (no_comment line plain (sym is ∙ c.in-Comment.is))
