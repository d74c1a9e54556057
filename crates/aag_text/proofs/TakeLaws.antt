-- One more item, and the sections that hold it.
use Rattle.std.proofs.Common.{ℕ, ◌≡◌, ◌<◌, ◌≤◌, length, cond, arith, List, [], ◌∷◌, ◌++◌, append-nil, Option, Some, Result, Ok, Err, Bool, true, false, not, refl, sym, subst, ap, ◌∙◌}
use Rattle.std.proofs.lemmas.Bool.{cond-true, cond-false}
use Rattle.std.proofs.lemmas.List.{length_push}
use Rattle.aig_graph.specs.Marking.{has}
use Rattle.aig_graph.specs.Graph.{variable}
use Rattle.file_words.specs.declared.fault.ReadError.{ReadError}
use Rattle.file_words.specs.declared.fault.ReadError.TheVariants.{DefinedTwice, NoMemory}
use Rattle.file_words.specs.Answering.{◌>>=◌, Fails}
use Rattle.ascii_file.specs.declared.header.Header.{Header}
use Rattle.ascii_file.specs.Raw.{Raw, RawSymbol, defined}
use Rattle.ascii_file.specs.Items.{Item, section_of}
use Rattle.ascii_file.specs.Reading.{unless, past_greatest, is_undefinable, checks, definition_checks, with_item, take_item, next_section}
use Rattle.ascii_file.proofs.CheckLaws.{Passes, unless_ok, unless_passes, Fits, passes_where_fits}
use Rattle.file_words.proofs.AnsweringLaws.{Fails-same, Fails-bind, Fails-is}
use Rattle.ascii_file.specs.parts.Names.{AreNamesOf}
use Rattle.aag_text.specs.declared.sections.Sections.{Sections}
use Rattle.aag_text.specs.Filling.{IsReadSoFar}
use Rattle.aag_text.specs.Taking.{raw_of, ArePlacesOf, IsAt, GoesOn, Takes}
use Rattle.aag_text.proofs.KeepLaws.{variables_of, defines, reads}

-- ---- checks, and what follows them

unless-bind : {Y : Type 0} (list : List (Bool × ReadError)) (value : Result Y ReadError) → unless list value ≡ (unless list (Ok (tt {0})) >>= λ _. value)
unless-bind [] value = refl
unless-bind ((true, fault) ∷ more) value = refl
unless-bind ((false, fault) ∷ more) value = unless-bind more value

-- a fault of the checks is one of what follows them
pub checks-fail : {Y : Type 0} (e : ReadError) (list : List (Bool × ReadError)) (value : Result Y ReadError) → Err e ≡ unless list (Ok (tt {0})) → Fails NoMemory e (unless list value)
checks-fail e list value fails = Fails-same e _ _ (sym (unless-bind list value)) (Fails-bind e (unless list (Ok (tt {0}))) (λ _. value) (Fails-is e (unless list (Ok (tt {0}))) fails))

-- ---- the symbols don't matter for the section

-- the next section doesn't depend on the symbols that were read
pub next-without : (m : Sections) (symbols : List RawSymbol) → next_section m.header (raw_of m symbols) ≡ next_section m.header (raw_of m [])
unfolding next_section
next-without m symbols = refl

-- a list that may have grown by one, if it had room for one
pub at-most : {X : Type 0} (grown : Bool) (xs ys : List X) (x : X) (most : ℕ) → ys ≡ cond grown (xs ++ x ∷ []) xs → length xs < most → length ys ≤ most
at-most true xs ys x most e room = omega (arith, room, length_push xs x, ap length e)
at-most false xs ys x most e room = omega (arith, room, ap length e)

-- ---- the sections with one more item

module _ (old new : Sections) (symbols : List RawSymbol) (at : ℕ) (fault : ReadError) (item : Item) (found : Option Item) (is : found ≡ Some item) (stands : IsAt old symbols)
    (next : next_section old.header (raw_of old symbols) ≡ section_of item) (fits : Fits old.header (raw_of old symbols) item) (header : new.header ≡ old.header) where
  -- sections with an item that fits, its places and names, go on as reading does
  pub takes : (more : List RawSymbol) → with_item (raw_of old symbols) item ≡ raw_of new more → ArePlacesOf new.places (defined (raw_of old symbols) ++ variables_of item) → AreNamesOf new.names more
      → GoesOn old new (take_item old.header (raw_of old symbols) at fault found)
  takes more grown places names =
      let h = old.header in
      let raw = raw_of old symbols in
      let read : IsReadSoFar h (with_item raw item) = reads h raw item stands.read next fits in
      let all : defined (with_item raw item) ≡ defined raw ++ variables_of item = defines h raw item stands.read.filling next in
      record {
        symbols = more;
        header = header;
        gives = ap (take_item h raw at fault) is ∙ unless_passes (checks h raw at item) (Ok (with_item raw item)) (passes_where_fits h raw at item fits) ∙ ap Ok grown;
        stands = record {
          read = subst (λ (g : Header). IsReadSoFar g (raw_of new more)) (sym header) (subst (IsReadSoFar h) grown read);
          places = subst (ArePlacesOf new.places) (sym all ∙ ap defined grown) places;
          names = names;
        };
      }

  -- one that defines nothing
  pub takes_plain : (more : List RawSymbol) → variables_of item ≡ [] → with_item (raw_of old symbols) item ≡ raw_of new more → new.places ≡ old.places → AreNamesOf new.names more
      → GoesOn old new (take_item old.header (raw_of old symbols) at fault found)
  takes_plain more none grown places names =
      let before : defined (raw_of old symbols) ≡ defined (raw_of old symbols) ++ variables_of item = sym (append-nil (defined (raw_of old symbols))) ∙ ap (λ vs. defined (raw_of old symbols) ++ vs) (sym none) in
      takes more grown (subst (λ p. ArePlacesOf p (defined (raw_of old symbols) ++ variables_of item)) (sym places) (subst (ArePlacesOf old.places) before stands.places)) names

-- ---- a fault

-- a fault of an item's checks is that of taking it
pub faulty : (h : Header) (raw : Raw) (at : ℕ) (fault e : ReadError) (item : Item) (found : Option Item) → found ≡ Some item → Fails NoMemory e (unless (checks h raw at item) (Ok (with_item raw item))) → Fails NoMemory e (take_item h raw at fault found)
faulty h raw at fault e item found is fails = Fails-same e _ _ (ap (take_item h raw at fault) (sym is)) fails

-- ---- the checks of a definition

-- if the checks of a definition find no fault, each is passed
pub definition_passes : (h : Header) (raw : Raw) (at lit : ℕ) (others : List ℕ) → Ok (tt {0}) ≡ unless (definition_checks h raw at lit others) (Ok (tt {0})) → Passes (definition_checks h raw at lit others)
definition_passes h raw at lit others e = (unless_ok (definition_checks h raw at lit others) (Ok (tt {0})) tt (sym e)).0

-- a literal in range whose variable is defined already is a fault
pub definition_twice : (h : Header) (raw : Raw) (at lit : ℕ) (others : List ℕ) → past_greatest h (lit ∷ others) ≡ false → is_undefinable lit ≡ false → has (defined raw) (variable lit) ≡ true
    → Err (DefinedTwice at) ≡ unless (definition_checks h raw at lit others) (Ok (tt {0}))
definition_twice h raw at lit others within definable twice = sym (cond-false _ _ _ within ∙ cond-false _ _ _ definable ∙ cond-true _ _ _ twice)

-- a literal in range, even and not 0, whose variable isn't defined passes the checks
pub definition_taken : (h : Header) (raw : Raw) (at lit : ℕ) (others : List ℕ) → past_greatest h (lit ∷ others) ≡ false → is_undefinable lit ≡ false → has (defined raw) (variable lit) ≡ false
    → Ok (tt {0}) ≡ unless (definition_checks h raw at lit others) (Ok (tt {0}))
definition_taken h raw at lit others within definable fresh = sym (cond-false _ _ _ within ∙ cond-false _ _ _ definable ∙ cond-false _ _ _ fresh)

-- ---- one reading in place of another

GoesOn-same : (old new : Sections) (a b : Result Raw ReadError) → a ≡ b → GoesOn old new a → GoesOn old new b
GoesOn-same old new a b same goes = subst (GoesOn old new) same goes

-- what a call takes by one reading it takes by an equal one
pub Takes-same : (old new : Sections) (result : Result (Unit {0}) ReadError) (a b : Result Raw ReadError) → a ≡ b → Takes old new result a → Takes old new result b
Takes-same old new (Ok done) a b same goes = GoesOn-same old new a b same goes
Takes-same old new (Err e) a b same fails = Fails-same e a b same fails

-- a test whose negation is passed
pub was_false : (test negation : Bool) → negation ≡ not test → negation ≡ true → test ≡ false
was_false true negation is passes = absurd cc
was_false false negation is passes = refl
