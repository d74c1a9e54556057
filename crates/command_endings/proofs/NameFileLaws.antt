-- The names of files, one file after another.
use Rattle.std.proofs.Common.{ℕ, ◌+◌, ◌<◌, ◌≤◌, ◌≡◌, List, [], ◌∷◌, Result, Ok, drop, length, get_or, map, refl, ap, sym, ◌∙◌}
use Rattle.std.proofs.lemmas.List.{at_drop_more, at_drop_all}
use Rattle.file_words.specs.Answering.{◌>>=◌}
use Rattle.circuit_files.specs.declared.fault.ListError.{ListError}
use Rattle.command_endings.specs.NameFiles.{with_names, with_names_of}
use Rattle.command_endings.specs.declared.name_files.NameFile.{NameFile}

-- what the files that are left make of the names
abbrev pub left : List NameFile → List (List ℕ) → Result (List (List ℕ)) ListError
left files names = with_names_of names (map (λ file. file.bytes.items) files)

one-file : (names text : List (List ℕ)) (file : List ℕ) → with_names_of names (file ∷ text) ≡ (with_names names file >>= λ more. with_names_of more text)
unfolding with_names_of
one-file names text file = refl

no-file : (names : List (List ℕ)) → with_names_of names [] ≡ Ok names
unfolding with_names_of
no-file names = refl

-- once the names of one more file are added
pub next-file : (files : List NameFile) (k : ℕ) (file : NameFile) (names more : List (List ℕ)) (whole : Result (List (List ℕ)) ListError) → k < length files → file ≡ get_or files k file
    → whole ≡ left (drop k files) names → with_names names file.bytes.items ≡ Ok more → whole ≡ left (drop (k + 1) files) more
next-file files k file names more whole h there told read =
    let rest : List (List ℕ) = map (λ (x : NameFile). x.bytes.items) (drop (k + 1) files) in
    let then_rest : Result (List (List ℕ)) ListError → Result (List (List ℕ)) ListError = λ r. r >>= λ now. with_names_of now rest in
    told
    ∙ at_drop_more (λ (xs : List NameFile). left xs names) files k file h
    ∙ one-file names rest (get_or files k file).bytes.items
    ∙ ap then_rest (sym (ap (λ (x : NameFile). with_names names x.bytes.items) there) ∙ read)

-- past the last file the names are there
pub last-file : (files : List NameFile) (k : ℕ) (names : List (List ℕ)) (whole : Result (List (List ℕ)) ListError) → length files ≤ k → whole ≡ left (drop k files) names → whole ≡ Ok names
last-file files k names whole h told = told ∙ at_drop_all (λ (xs : List NameFile). left xs names) files k h ∙ no-file names
