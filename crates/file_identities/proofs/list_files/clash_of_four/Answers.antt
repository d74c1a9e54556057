use Rattle.std.proofs.Common.{Option, ◌∙◌, ap₂}
use Rattle.std.specs.Option.{option_or}
use Rattle.file_identities.specs.declared.clash.FileClash.{FileClash}
use Rattle.file_identities.proofs.ListLaws.{of-four}
use Rattle.file_identities.proofs.list_files.clash_of_four.Goals as goal

pub returns : goal.returns
returns c =
    let first_of = λ (one other : Option FileClash). option_or one other in
    c.or-4.ensures ∙ ap₂ first_of (c.or-3.ensures ∙ ap₂ first_of (c.or-2.ensures ∙ ap₂ first_of (c.or.ensures ∙ ap₂ first_of c.pair_clash-under_output.ensures c.pair_clash-under_list.ensures) c.pair_clash-under_input.ensures) c.pair_clash-over_list.ensures) c.pair_clash-over_input.ensures
    ∙ of-four c.args.printed.now c.args.output.now c.args.list.now c.args.input.now
