-- The first clash of a list, line by line. If none is found no two of all its files are one, so
-- that anything would be lost.
use Rattle.std.proofs.Common.{ℕ, zero, suc, ◌+◌, ◌≡◌, ◌<◌, ◌≤◌, ◌&&◌, Bool, true, false, cond, List, [], ◌∷◌, drop, length, get_or, map, Option, Some, None, is_some, option_map, All, inl, inr, refl, sym, ap, ap₂, ◌∙◌, subst, arith}
use Rattle.std.specs.List.{find}
use Rattle.std.specs.Option.{option_or}
use Rattle.std.proofs.lemmas.Bool.{false≢true}
use Rattle.std.proofs.lemmas.List.{at_drop_all, at_drop_more}
use Rattle.counted_io.specs.declared.source.Source.{Source}
use Rattle.circuit_files.specs.declared.entry.Entry.{Entry}
use Rattle.file_identities.specs.Clashes.{AreFilesApart, clash, clash_among, clash_at, clash_of, first_clash, is_same, loses}
use Rattle.file_identities.specs.ListFiles.{AreListFilesApart, IsFirstOfLines, IsLineClash, IsListClash, input_use, output_use}
use Rattle.file_identities.specs.declared.clash.FileClash.{FileClash}
use Rattle.file_identities.specs.declared.file_use.FileUse.{FileUse}
use Rattle.file_identities.specs.declared.identity.Asked.{Asked}
use Rattle.file_identities.specs.declared.identity.Identity.{Identity}
use Rattle.file_identities.specs.declared.identity.Keeping.{Keeping}
use Rattle.file_identities.specs.declared.identity.Keeping.TheVariants.{Bytes, Pipe, Device}
use Rattle.file_identities.proofs.ClashLaws.{apart, none_found}

-- of three that there may be the first
or-assoc : {X : Type 0} (a b c : Option X) → option_or (option_or a b) c ≡ option_or a (option_or b c)
or-assoc None b c = refl
or-assoc (Some x) b c = refl

or-none : {X : Type 0} (a : Option X) → a ≡ option_or a None
or-none None = refl
or-none (Some x) = refl

-- of two files the first that clashes
among-two : (first one other : Asked) → option_or (clash_among first (one ∷ [])) (clash_among first (other ∷ [])) ≡ clash_among first (one ∷ other ∷ [])
among-two first one other = by_test (clash first one)
  where
    by_test : (t : Bool)
        → option_or (option_map (clash_of first) (cond t (Some one) None)) (clash_among first (other ∷ []))
        ≡ option_map (clash_of first) (cond t (Some one) (find (clash first) (other ∷ [])))
    by_test true = refl
    by_test false = refl

-- the first clash of two files that are written, and two that are read
pub of-four : (printed output listed input : Asked)
    → option_or (option_or (option_or (option_or (clash_among printed (output ∷ [])) (clash_among printed (listed ∷ []))) (clash_among printed (input ∷ [])))
    (clash_among output (listed ∷ []))) (clash_among output (input ∷ []))
    ≡ first_clash (printed ∷ output ∷ []) (listed ∷ input ∷ [])
of-four printed output listed input =
    let a = clash_among printed (output ∷ []) in
    let b = clash_among printed (listed ∷ []) in
    let c = clash_among printed (input ∷ []) in
    let d = clash_among output (listed ∷ []) in
    let e = clash_among output (input ∷ []) in
    or-assoc (option_or (option_or a b) c) d e
    ∙ ap (λ (x : Option FileClash). option_or x (option_or d e)) (or-assoc a b c)
    ∙ ap₂ (λ (x y : Option FileClash). option_or (option_or a x) y) (among-two printed listed input)
    (among-two output listed input ∙ or-none (clash_among output (listed ∷ input ∷ [])))

-- a line, and those after it
module _ (printed listed : Asked) (entries : List Entry) (i : ℕ) (none : Entry) (within : i < length entries) where
  -- where it has a clash, that is the first from there on
  pub first-here : (found : Option FileClash) → (is_some found ≡ true) → IsLineClash printed listed (get_or entries i none) found
      → IsFirstOfLines printed listed (drop i entries) found
  first-here found some line =
      subst (λ (lines : List Entry). IsFirstOfLines printed listed lines found) (sym (at_drop_more (λ (lines : List Entry). lines) entries i none within)) (inl (some, line))

  -- where it has none, the first is that of the lines after it
  pub first-later : (found : Option FileClash) → IsLineClash printed listed (get_or entries i none) None
      → IsFirstOfLines printed listed (drop (i + 1) entries) found → IsFirstOfLines printed listed (drop i entries) found
  first-later found line later =
      subst (λ (lines : List Entry). IsFirstOfLines printed listed lines found) (sym (at_drop_more (λ (lines : List Entry). lines) entries i none within)) (inr (line, later))

-- past the last one there is that of what is printed and the list
pub first-end : (printed listed : Asked) (entries : List Entry) (i : ℕ) (found : Option FileClash) → length entries ≤ i → found ≡ clash_among printed (listed ∷ [])
    → IsFirstOfLines printed listed (drop i entries) found
first-end printed listed entries i found past is =
    subst (λ (lines : List Entry). IsFirstOfLines printed listed lines found) (sym (at_drop_all (λ (lines : List Entry). lines) entries i past)) is

-- an option that isn't there
pub not-some : (found : Option FileClash) → is_some found ≡ false → found ≡ None
not-some None isnt = refl
not-some (Some x) isnt = absurd (false≢true (sym isnt))

-- one more file has what all have
all-cons : {X : Type 0} (P : X → Type 0) (x : X) (xs : List X) → P x → All P xs → All P (x ∷ xs)
all-cons P x xs first rest zero d within = first
all-cons P x xs first rest (suc k) d within = rest k d (omega (arith, within))

-- what all have those after the first have
all-tail : {X : Type 0} (P : X → Type 0) (x : X) (xs : List X) → All P (x ∷ xs) → All P xs
all-tail P x xs all k d within = all (suc k) d (omega (arith, within))

-- a file that a line writes, and one that it reads
record IsOutput (file : FileUse) : Type 0 where
  entry : Entry
  is : file ≡ output_use entry

record IsInput (file : FileUse) : Type 0 where
  entry : Entry
  is : file ≡ input_use entry

and_false : (b : Bool) → (b && false) ≡ false
and_false true = refl
and_false false = refl

-- two files of which nothing is lost as one don't clash
unlost : (first second : Asked) (f g : FileUse) → first.file ≡ f → second.file ≡ g → ((k : Keeping) → loses k f g ≡ false) → clash first second ≡ false
unlost first second f g one other none =
    ap₂ (λ (a b : FileUse). clash_at a b first.identity second.identity) one other ∙ by_identity first.identity second.identity
  where
    by_identity : (a b : Option Identity) → clash_at f g a b ≡ false
    by_identity (Some x) (Some y) = ap (λ (lost : Bool). is_same x y && lost) (none x.keeping) ∙ and_false (is_same x y)
    by_identity (Some x) None = refl
    by_identity None None = refl
    by_identity None (Some y) = refl

-- of two circuits that lines write the later one stands
both-written : (k : Keeping) (one other : Entry) → loses k (output_use one) (output_use other) ≡ false
both-written Bytes one other = refl
both-written Pipe one other = refl
both-written Device one other = refl

-- a circuit that a line writes takes the place of one that is read
taken-over : (k : Keeping) (one other : Entry) → loses k (output_use one) (input_use other) ≡ false
taken-over Bytes one other = refl
taken-over Pipe one other = refl
taken-over Device one other = refl

-- the circuits of a list clash with nothing, where none clashes with the list
apart-outputs : (listed : Asked) (outputs inputs : List Asked) → All (λ output. clash output listed ≡ false) outputs
    → All (λ output. IsOutput output.file) outputs → All (λ input. IsInput input.file) inputs → AreFilesApart outputs (listed ∷ inputs)
apart-outputs listed [] inputs over are reads = tt
apart-outputs listed (output ∷ outputs) inputs over are reads =
    let this : IsOutput output.file = are 0 output (omega arith) in (
      λ k d within.
          let other = are (suc k) d (omega (arith, within)) in
          unlost output (get_or outputs k d) (output_use this.entry) (output_use other.entry) this.is other.is (λ keeping. both-written keeping this.entry other.entry),
      (
        all-cons (λ read. clash output read ≡ false) listed inputs (over 0 output (omega arith))
            (λ k d within.
            let other = reads k d within in
            unlost output (get_or inputs k d) (output_use this.entry) (input_use other.entry) this.is other.is (λ keeping. taken-over keeping this.entry other.entry)),
        apart-outputs listed outputs inputs (all-tail (λ it. clash it listed ≡ false) output outputs over) (all-tail (λ it. IsOutput it.file) output outputs are) reads,
      ),
    )

-- the files of lines without a clash
record AreQuiet (printed listed : Asked) (entries : List Entry) : Type 0 where
  outputs : List Asked
  inputs : List Asked
  writes : map (λ asked. asked.file) outputs ≡ map output_use entries
  reads : map (λ asked. asked.file) inputs ≡ map input_use entries
  are_outputs : All (λ output. IsOutput output.file) outputs
  are_inputs : All (λ input. IsInput input.file) inputs
  under_outputs : All (λ output. clash printed output ≡ false) outputs
  under_inputs : All (λ input. clash printed input ≡ false) inputs
  over_list : All (λ output. clash output listed ≡ false) outputs
  under_list : clash printed listed ≡ false

-- so of one more line
quiet-more : (printed listed : Asked) (entry : Entry) (entries : List Entry) → IsLineClash printed listed entry None → AreQuiet printed listed entries
    → AreQuiet printed listed (entry ∷ entries)
quiet-more printed listed entry entries line quiet =
    let free : AreFilesApart (printed ∷ line.output ∷ []) (listed ∷ line.input ∷ []) = apart (printed ∷ line.output ∷ []) (listed ∷ line.input ∷ []) (sym line.first) in
    record {
      outputs = line.output ∷ quiet.outputs;
      inputs = line.input ∷ quiet.inputs;
      writes = ap₂ (λ (file : FileUse) (files : List FileUse). file ∷ files) line.writes quiet.writes;
      reads = ap₂ (λ (file : FileUse) (files : List FileUse). file ∷ files) line.reads quiet.reads;
      are_outputs = all-cons (λ output. IsOutput output.file) line.output quiet.outputs (record { entry = entry; is = line.writes }) quiet.are_outputs;
      are_inputs = all-cons (λ input. IsInput input.file) line.input quiet.inputs (record { entry = entry; is = line.reads }) quiet.are_inputs;
      under_outputs = all-cons (λ output. clash printed output ≡ false) line.output quiet.outputs (free.0 0 line.output (omega arith)) quiet.under_outputs;
      under_inputs = all-cons (λ input. clash printed input ≡ false) line.input quiet.inputs (free.1.0 1 line.input (omega arith)) quiet.under_inputs;
      over_list = all-cons (λ output. clash output listed ≡ false) line.output quiet.outputs (free.1.1.1.0 0 listed (omega arith)) quiet.over_list;
      under_list = quiet.under_list;
    }

quiet-lines : (printed listed : Asked) (entries : List Entry) → IsFirstOfLines printed listed entries None → AreQuiet printed listed entries
quiet-lines printed listed [] none = record {
  outputs = [];
  inputs = [];
  writes = refl;
  reads = refl;
  are_outputs = λ k d within. absurd (omega (arith, within));
  are_inputs = λ k d within. absurd (omega (arith, within));
  under_outputs = λ k d within. absurd (omega (arith, within));
  under_inputs = λ k d within. absurd (omega (arith, within));
  over_list = λ k d within. absurd (omega (arith, within));
  under_list = none_found (clash printed) (clash_of printed) (listed ∷ []) (sym none) 0 listed (omega arith);
}
quiet-lines printed listed (entry ∷ entries) (inl here) = absurd (false≢true here.0)
quiet-lines printed listed (entry ∷ entries) (inr later) = quiet-more printed listed entry entries later.0 (quiet-lines printed listed entries later.1)

-- if no line of a list has a clash, no two of all its files are one, so that anything would be lost
pub list-apart : (list : Source) (entries : List Entry) → IsListClash list entries None → AreListFilesApart list entries
list-apart list entries none =
    let quiet = quiet-lines none.printed none.listed entries none.first in
    record {
      written = none.printed ∷ quiet.outputs;
      read = none.listed ∷ quiet.inputs;
      writes = ap₂ (λ (file : FileUse) (files : List FileUse). file ∷ files) none.prints quiet.writes;
      reads = ap₂ (λ (file : FileUse) (files : List FileUse). file ∷ files) none.reads quiet.reads;
      apart = (
        quiet.under_outputs,
        (
          all-cons (λ read. clash none.printed read ≡ false) none.listed quiet.inputs quiet.under_list quiet.under_inputs,
          apart-outputs none.listed quiet.outputs quiet.inputs quiet.over_list quiet.are_outputs quiet.are_inputs,
        ),
      );
    }
