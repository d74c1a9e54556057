-- The properties of a line, word by word.
use Rattle.std.proofs.Common.{ℕ, true, ◌≡◌, List, [], Result, Ok, ap, ◌∙◌}
use Rattle.file_words.specs.Answering.{◌>>=◌, Fails}
use Rattle.file_words.specs.Lines.{pieces}
use Rattle.file_words.specs.Cuts.{Cuts, lacks}
use Rattle.file_words.proofs.DecimalLaws.{pieces-at_space, pieces-at_end}
use Rattle.witnesses.specs.declared.witness.Property.{Property}
use Rattle.witnesses.specs.declared.widths.Widths.{Widths}
use Rattle.witnesses.specs.declared.fault.WitnessError.{WitnessError}
use Rattle.witnesses.specs.declared.fault.WitnessError.TheVariants.{NoMemory}
use Rattle.witnesses.specs.Properties.{with_property, properties_of}
use Rattle.file_words.proofs.AnsweringLaws.{Fails-where}

-- ---- words with a space after them, and the last one

module _ (w : Widths) (at : ℕ) (whole : Result (List Property) WitnessError) (properties : List Property) where
  abbrev LeadsOn : List ℕ → Type 0
  LeadsOn rest = whole ≡ properties_of w at properties (pieces rest)

  at_space : (rest word more : List ℕ) → Cuts 32 rest word more → LeadsOn rest
      → whole ≡ (with_property w at properties word >>= λ next. properties_of w at next (pieces more))
  unfolding properties_of
  at_space rest word more cuts leads = leads ∙ ap (properties_of w at properties) (ap pieces cuts.whole ∙ pieces-at_space word more cuts.clean)

  at_end : (rest : List ℕ) → lacks 32 rest ≡ true → LeadsOn rest
      → whole ≡ (with_property w at properties rest >>= λ next. properties_of w at next [])
  unfolding properties_of
  at_end rest clean leads = leads ∙ ap (properties_of w at properties) (pieces-at_end rest clean)

  -- a word that names a property adds it to those of the line
  pub word_taken : (rest word more : List ℕ) (next : List Property) → Cuts 32 rest word more → LeadsOn rest → with_property w at properties word ≡ Ok next
      → whole ≡ properties_of w at next (pieces more)
  word_taken rest word more next cuts leads taken = at_space rest word more cuts leads ∙ ap (λ r. r >>= λ n. properties_of w at n (pieces more)) taken

  -- a word's fault is that of the line
  pub word_fails : (rest word more : List ℕ) (e : WitnessError) → Cuts 32 rest word more → LeadsOn rest → Fails NoMemory e (with_property w at properties word) → Fails NoMemory e whole
  word_fails rest word more e cuts leads fails = Fails-where e _ _
      (λ f. at_space rest word more cuts leads ∙ ap (λ r. r >>= λ n. properties_of w at n (pieces more)) f) fails

  -- a last word that names a property adds it, and ends the line
  pub last_taken : (rest : List ℕ) (next : List Property) → lacks 32 rest ≡ true → LeadsOn rest → with_property w at properties rest ≡ Ok next → whole ≡ Ok next
  unfolding properties_of
  last_taken rest next clean leads taken = at_end rest clean leads ∙ ap (λ r. r >>= λ n. properties_of w at n []) taken

  -- the last word's fault is that of the line
  pub last_fails : (rest : List ℕ) (e : WitnessError) → lacks 32 rest ≡ true → LeadsOn rest → Fails NoMemory e (with_property w at properties rest) → Fails NoMemory e whole
  last_fails rest e clean leads fails = Fails-where e _ _ (λ f. at_end rest clean leads ∙ ap (λ r. r >>= λ n. properties_of w at n []) f) fails
