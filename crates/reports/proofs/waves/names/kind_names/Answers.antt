use Rattle.std.proofs.Common.{◌∙◌, ap, length}
use Rattle.std.proofs.lemmas.List.{with_items_is}
use Rattle.reports.specs.waves.Names.{kind_names, with_symbols}
use Rattle.reports.proofs.WaveNameLaws.{length-with_symbols}
use Rattle.reports.proofs.waves.names.kind_names.Goals as goal

pub returns : goal.returns
unfolding kind_names
returns c =
    let before = c.as_mut_slice.result.now in
    with_items_is c.in_ok-names.names c.set_names.new.names
    (ap length c.in_ok-set_names.ensures ∙ length-with_symbols before c.args.symbols.now ∙ c.as_mut_slice.ensures.len)
    ∙ c.in_ok-set_names.ensures ∙ ap (λ names. with_symbols names c.args.symbols.now) (c.as_mut_slice.ensures.value ∙ c.in_ok-names.ensures)
