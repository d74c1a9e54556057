use Rattle.std.proofs.Common.{[], ◌++◌, sym, ap, ◌∙◌, append-nil}
use Rattle.ascii_file.specs.parts.Rows.{row_of}
use Rattle.certificate_files.specs.Files.{merged_count}
use Rattle.certificate_files.proofs.MergedLaws.{count_other, count-row}
use Rattle.certificate_files.proofs.merged_lines.count_line.Goals as goal

pub returns-in_default : goal.returns-in_default
returns-in_default c = sym (count_other _ _ c.in_default.ensures)

pub returns-in-Some-numbers : goal.returns-in-Some-numbers
returns-in-Some-numbers c =
    let rest = c.in-Some.rest.now in
    let row = sym c.in-Some-numbers.ensures ∙ c.extend.ensures [] ∙ c.new-row.ensures (rest ++ []) ∙ ap row_of (append-nil rest) in
    c.count.ensures ∙ ap (merged_count c.args.line.now.at) row ∙ count-row _ _ rest c.in-Some.ensures

pub returns-in-None : goal.returns-in-None
returns-in-None c =
    let rest = c.in-Some.rest.now in
    let row = sym c.in-None.ensures ∙ c.extend.ensures [] ∙ c.new-row.ensures (rest ++ []) ∙ ap row_of (append-nil rest) in
    ap (merged_count c.args.line.now.at) row ∙ count-row _ _ rest c.in-Some.ensures
