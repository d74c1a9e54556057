use Rattle.std.proofs.Common.{◌≡◌, ◌∙◌, false, List, ap, refl, subst, sym, bytes_eq}
use Rattle.std.proofs.lemmas.List.{take_all}
use Rattle.aig_graph.specs.declared.properties.Symbol.{Symbol}
use Rattle.aig_graph.specs.Keep.{has_name}
use Rattle.pictures.proofs.SearchLaws.{any-found, none-more}
use Rattle.pictures.proofs.named.is_among.Goals as goal

pub loop-symbol-init : goal.loop-symbol-init
loop-symbol-init c = refl

pub loop-symbol-preserved : goal.loop-symbol-preserved
loop-symbol-preserved c =
    none-more (λ symbol. bytes_eq c.args.name.now symbol.name) c.args.symbols.now c.loop-symbol.symbol-index c.symbol-item.result c.loop-symbol-test.true c.symbol-item.is c.loop-symbol.invariant
    (ap (bytes_eq c.args.name.now) (sym c.as_slice.ensures) ∙ sym c.eq.ensures ∙ c.if-eq.false)

pub returns-then-eq : goal.returns-then-eq
returns-then-eq c =
    sym (any-found (λ symbol. bytes_eq c.args.name.now symbol.name) c.args.symbols.now c.loop-symbol.symbol-index c.symbol-item.result c.loop-symbol-test.true c.symbol-item.is
    (ap (bytes_eq c.args.name.now) (sym c.as_slice.ensures) ∙ sym c.eq.ensures ∙ c.if-eq.true))

pub returns : goal.returns
returns c = sym (subst (λ (symbols : List Symbol). has_name symbols c.args.name.now ≡ false) (take_all _ _ c.loop-symbol-test.false) c.loop-symbol.invariant)
