-- What a file that is made at its first byte has been given.
use Rattle.std.proofs.Common.{ℕ, ◌≡◌, ◌≢◌, List, [], ◌∷◌, ◌++◌, length, get_or, Option, Some, None, refl, sym, ap, ap₂, ◌∙◌, subst, arith, append_assoc}
use mathlib.Core.Logic.{∥∥₁_map}
use Rattle.std.proofs.KnownBytes.{Appends-nil, Appends-trans}
use Rattle.std.specs.Io.KnownBytes.{Appends, Keeps}
use Rattle.circuit_files.specs.WrittenFiles.{HasGrown, HasTaken, IsFileGiven, IsWholeFile, account}
use Rattle.circuit_files.specs.Laws.{GivenFileLaw}

kept : (a b c : Option (List ℕ)) (bs : List ℕ) → Appends a b bs → Keeps b c → Appends a c bs
kept None b c bs appends keeps = tt
kept (Some x) None c bs appends keeps = absurd appends
kept (Some x) (Some y) None bs appends keeps = absurd keeps
kept (Some x) (Some y) (Some z) bs appends keeps = keeps ∙ appends

module _ {F : Type 0} (contents : F → Option (List ℕ)) (IsMade : F → List ℕ → Type 0) (path : List ℕ) where
  -- a file that was just made has been given nothing
  pub just_made : (given : List ℕ) (file : F) → HasTaken contents IsMade path given None → IsMade file path → HasGrown contents IsMade path given file
  just_made given file none made = subst (λ text. HasGrown contents IsMade path text file) (sym none) record { made = file; at = made; appends = Appends-nil (contents file) }

  -- one that there is has what was taken
  pub there_is : (given : List ℕ) (taken : Option F) (file : F) → taken ≡ Some file → HasTaken contents IsMade path given taken → HasGrown contents IsMade path given file
  there_is given taken file is has = subst (HasTaken contents IsMade path given) is has

  -- more was written to it
  pub grown : (given more all : List ℕ) (file after : F) → all ≡ given ++ more → Appends (contents file) (contents after) more → HasGrown contents IsMade path given file → HasGrown contents IsMade path all after
  grown given more all file after is appends before =
      subst (λ text. HasGrown contents IsMade path text after) (sym is)
      record { made = before.made; at = before.at; appends = Appends-trans (contents before.made) (contents file) (contents after) given more before.appends appends }

  -- a write to it failed
  pub stays : (given : List ℕ) (file after : F) → Keeps (contents file) (contents after) → HasGrown contents IsMade path given file → HasGrown contents IsMade path given after
  stays given file after keeps before = record { made = before.made; at = before.at; appends = kept (contents before.made) (contents file) (contents after) given before.appends keeps }

  -- one that was made and let go is whole
  pub let_go : (IsLetGo : F → Type 0) (given : List ℕ) (taken : Option F) (file : F) → taken ≡ Some file → IsLetGo file → ∥ HasTaken contents IsMade path given taken ∥₁ → IsFileGiven contents IsMade IsLetGo path given
  let_go IsLetGo given taken file is gone has = record { whole = λ some. ∥∥₁_map has (λ t. record { file = file; grown = there_is given taken file is t; let_go = gone }) }

  -- none was made for no bytes
  pub never_made : (IsLetGo : F → Type 0) (given : List ℕ) (taken : Option F) → taken ≡ None → ∥ HasTaken contents IsMade path given taken ∥₁ → IsFileGiven contents IsMade IsLetGo path given
  never_made IsLetGo given taken is has = record { whole = λ some. ∥∥₁_map has (λ t. absurd (some (subst (HasTaken contents IsMade path given) is t))) }

-- the account after more was given
pub account_more : (path given more : List ℕ) → account path (given ++ more) ≡ account path given ++ more
account_more path given more = ap (λ (rest : List ℕ). length path ∷ rest) (sym (append_assoc path given more))

abbrev first_of : List ℕ → ℕ
first_of xs = get_or xs 0 0

abbrev rest_of : List ℕ → List ℕ
rest_of [] = []
rest_of (x ∷ xs) = xs

parts : (p q g h : List ℕ) → length p ≡ length q → p ++ g ≡ q ++ h → (p ≡ q) × (g ≡ h)
parts [] [] g h long same = (refl, same)
parts [] (y ∷ q) g h long same = absurd (omega (arith, long))
parts (x ∷ p) [] g h long same = absurd (omega (arith, long))
parts (x ∷ p) (y ∷ q) g h long same =
    let more = parts p q g h (omega (arith, long)) (ap rest_of same) in
    (ap₂ (λ (z : ℕ) (zs : List ℕ). z ∷ zs) (ap first_of same) more.0, more.1)

-- an account tells the path, and what was given
pub account_tells : (p q g h : List ℕ) → account p g ≡ account q h → (p ≡ q) × (g ≡ h)
account_tells p q g h same = parts p q g h (ap first_of same) (ap rest_of same)

-- a writer that was lent comes back with its path, and its file was given what was written to it
pub whole_text : {F : Type 0} (contents : F → Option (List ℕ)) (IsMade : F → List ℕ → Type 0) (IsLetGo : F → Type 0) (path opened nothing kept_path given text : List ℕ)
    → opened ≡ path → nothing ≡ [] → IsFileGiven contents IsMade IsLetGo kept_path given
    → Appends (Some (account opened nothing)) (Some (account kept_path given)) text → IsFileGiven contents IsMade IsLetGo path text
whole_text contents IsMade IsLetGo path opened nothing kept_path given text at none whole appends =
    let same : account kept_path given ≡ account path text =
    appends ∙ ap₂ (λ (p : List ℕ) (g : List ℕ). account p g ++ text) at none ∙ sym (account_more path [] text) in
    let tells = account_tells kept_path path given text same in
    subst (λ p. IsFileGiven contents IsMade IsLetGo p text) tells.0 (subst (λ g. IsFileGiven contents IsMade IsLetGo kept_path g) tells.1 whole)

has_all : (b : Option (List ℕ)) (text : List ℕ) → Appends (Some []) b text → b ≡ Some text
has_all None text appends = absurd appends
has_all (Some xs) text appends = ap (λ (ys : List ℕ). Some ys) appends

-- a file that was made empty has the text, and nothing else
pub holds_text : {F : Type 0} (contents : F → Option (List ℕ)) (IsMade : F → List ℕ → Type 0) (IsLetGo : F → Type 0) (path text : List ℕ) → GivenFileLaw contents IsMade IsLetGo path text
holds_text contents IsMade IsLetGo path text empty some given =
    ∥∥₁_map (given.whole some) (λ w.
    (w.file, w.let_go, has_all (contents w.file) text (subst (λ o. Appends o (contents w.file) text) (empty w.grown.made w.grown.at) w.grown.appends)))
