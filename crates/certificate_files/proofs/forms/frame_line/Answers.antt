use Rattle.std.proofs.Common.{List, ℕ, Option, [], ◌++◌, sym, ap, ◌∙◌, append-nil}
use Rattle.ascii_file.specs.parts.Rows.{row_of}
use Rattle.certificate_files.specs.Forms.{framed}
use Rattle.certificate_files.specs.Files.{frame_saying}
use Rattle.certificate_files.proofs.FormLaws.{framed_other, framed-row}
use Rattle.certificate_files.proofs.forms.frame_line.Goals as goal

pub returns-in_default : goal.returns-in_default
returns-in_default c = sym (framed_other _ _ c.in_default.ensures)

pub returns-in-Some-numbers : goal.returns-in-Some-numbers
returns-in-Some-numbers c =
    let rest = c.in-Some.rest.now in
    let row = sym c.in-Some-numbers.ensures ∙ c.extend.ensures [] ∙ c.new-row.ensures (rest ++ []) ∙ ap row_of (append-nil rest) in
    c.frame.ensures ∙ ap (λ (o : Option (List ℕ)). framed c.args.line.now.at (frame_saying o)) row ∙ framed-row _ _ rest c.in-Some.ensures

pub returns-in-None : goal.returns-in-None
returns-in-None c =
    let rest = c.in-Some.rest.now in
    let row = sym c.in-None.ensures ∙ c.extend.ensures [] ∙ c.new-row.ensures (rest ++ []) ∙ ap row_of (append-nil rest) in
    ap (λ (o : Option (List ℕ)). framed c.args.line.now.at (frame_saying o)) row ∙ framed-row _ _ rest c.in-Some.ensures
