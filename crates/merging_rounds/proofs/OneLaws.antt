-- What a circuit is retimed to in rounds is one.
use Rattle.std.proofs.Common.{ℕ, ◌+◌, ◌-◌, ◌<◌, ◌≡◌, ◌∙◌, inl, inr, Bool, true, false, List, [], ◌∷◌, ◌++◌, Option, Some, length, map, refl, arith, ap, ap₂, sym, subst}
use Rattle.std.proofs.lemmas.List.{length-append, length-map, map-append}
use Rattle.std.proofs.lemmas.Grind.{flat_map-append}
use Rattle.std.proofs.lemmas.Option.{same_Some, slice_get_within}
use Rattle.std.specs.List.{slice_get}
use Rattle.aig_graph.specs.Circuits.{Netlist}
use Rattle.aig_graph.specs.Keep.{Holding, held_of}
use Rattle.aig_graph.specs.Laws.{composed}
use Rattle.aig_graph.specs.declared.choice.Choice.{Choice}
use Rattle.aig_graph.proofs.PlacesLaws.{slice_get_push}
use Rattle.certificate_files.specs.declared.file.CertPart.{CertPart}
use Rattle.certificates.specs.declared.merged.MergedLatch.{MergedLatch}
use Rattle.retimed_circuits.specs.declared.report.FrameReport.{FrameReport}
use Rattle.retimed_circuits.specs.declared.report.Retimed.{Retimed}
use Rattle.retimed_circuits.specs.Certified.{IsSameRetiming}
use Rattle.retimed_circuits.specs.Frames.{AfterFrames}
use Rattle.retimed_circuits.specs.Merging.{MergesIn}
use Rattle.retimed_circuits.specs.Retiming.{IsMergedRetimed, IsRetimedOver}
use Rattle.retimed_circuits.proofs.MergedRunLaws.{merges-one, retiming-with-one}
use Rattle.retimed_circuits.proofs.RunLaws.{after-one, run-one}
use Rattle.frame_runs.specs.Retiming.{IsRetimedTo}
use Rattle.merging_rounds.specs.Laws.{AreDetermined, IsSamePart}
use Rattle.merging_rounds.specs.Rounds.{AfterRuns, again, at_positions, first, frames_of, merged_in, part_of}
use Rattle.merging_rounds.specs.declared.rounds.Rounds.{Rounds}

-- lists with one element more are equal if the lists and the elements are
same-last : {A : Type 0} (xs ys : List A) (x y : A) → xs ++ x ∷ [] ≡ ys ++ y ∷ [] → (xs ≡ ys) × (x ≡ y)
same-last [] [] x y e = (refl, cc)
same-last [] (z ∷ ys) x y e = let long = ap (λ (l : List _). length l) e in absurd (omega (arith, long, length-append ys (y ∷ [])))
same-last (w ∷ xs) [] x y e = let long = ap (λ (l : List _). length l) e in absurd (omega (arith, long, length-append xs (x ∷ [])))
same-last (w ∷ xs) (z ∷ ys) x y e =
    let head : w ≡ z = cc in
    let tail : xs ++ x ∷ [] ≡ ys ++ y ∷ [] = cc in
    let rest = same-last xs ys x y tail in
    (ap₂ (λ (a : _) (l : List _). a ∷ l) head rest.0, rest.1)

-- the held latches are at one list of positions at the end of the frames
over-now : (bound : Option ℕ) (choice : Choice) (c : Netlist) (held : List ℕ) (max_frames : ℕ) (certify other : Bool) (r s : Retimed) → (p : IsRetimedOver bound choice c held max_frames certify r)
    → (q : IsRetimedOver bound choice c held max_frames other s) → p.now ≡ q.now
over-now bound choice c held max_frames certify other r s p q =
    let same : IsSameRetiming certify other r s = run-one bound choice c held max_frames certify other r s p q in
    let many : length r.frames ≡ length s.frames = ap (λ (xs : List FrameReport). length xs) same.frames in
    let P : ℕ → Type 0 = λ j. AfterFrames bound choice held c j s.circuit s.kept_free q.now s.frames in
    (after-one bound choice held c (length r.frames) r.circuit r.kept_free p.now r.frames p.frames s.circuit s.kept_free q.now s.frames (subst P (sym many) q.frames)).held

-- from one circuit with one list of held latches
from-now : (bound : Option ℕ) (choice : Choice) (c d : Netlist) (held stand : List ℕ) (max_frames : ℕ) (certify other : Bool) (r s : Retimed) → c ≡ d → held ≡ stand
    → (p : IsRetimedOver bound choice c held max_frames certify r) → (q : IsRetimedOver bound choice d stand max_frames other s) → p.now ≡ q.now
from-now bound choice c d held stand max_frames certify other r s same there p q =
    let P : Netlist → List ℕ → Type 0 = λ e js. (x : IsRetimedOver bound choice e js max_frames other s) → p.now ≡ x.now in
    let one : P c held = λ x. over-now bound choice c held max_frames certify other r s p x in
    subst (λ (e : Netlist). P e stand) same (subst (P c) there one) q

-- the latches that are held stand at one list of positions at a run's end
pub run-now : (merge : Bool) (bound : Option ℕ) (choice : Choice) (c : Netlist) (holding : Holding) (max_frames : ℕ) (certify other : Bool) (r s : Retimed) (now later : List ℕ)
    → IsRetimedTo merge bound choice c holding max_frames certify r now → IsRetimedTo merge bound choice c holding max_frames other s later → r.merged ≡ s.merged → now ≡ later
run-now false bound choice c holding max_frames certify other r s now later p q same =
    p.held ∙ over-now bound choice c (held_of holding c) max_frames certify other r s p.retimed.run q.retimed.run ∙ sym q.held
run-now true bound choice c holding max_frames certify other r s now later p q same =
    let a : IsMergedRetimed bound choice c holding max_frames certify r = p.retimed in
    let b : IsMergedRetimed bound choice c holding max_frames other s = q.retimed in
    let lines : a.lines ≡ b.lines = same_Some a.lines b.lines (sym (ap (λ (x : Retimed). x.merged) a.whole) ∙ same ∙ ap (λ (x : Retimed). x.merged) b.whole) in
    let merges : MergesIn (held_of holding c) c b.start b.kept b.start_held a.lines =
    subst (λ (xs : List MergedLatch). MergesIn (held_of holding c) c b.start b.kept b.start_held xs) (sym lines) b.merges in
    let start = merges-one (held_of holding c) c a.start b.start a.kept b.kept a.start_held b.start_held a.lines a.merges merges in
    p.held ∙ from-now bound choice a.start b.start a.start_held b.start_held max_frames certify other a.from_start b.from_start start.circuit start.held a.retimed b.retimed ∙ sym q.held

-- what a run is told of in a file is one
same-part : (certify other : Bool) (a b : Retimed) → IsSameRetiming certify other a b → IsSamePart certify other (part_of a) (part_of b)
same-part certify other a b same = record { merged = same.merged; blocks = same.certificates }

-- the latches that runs merged
abbrev merges_of : List Retimed → List (Option (List MergedLatch))
merges_of runs = map (λ (run : Retimed). run.merged) runs

-- equal runs, part by part, and equal ends
record SameRuns (certify other : Bool) (runs others : List Retimed) (d e : Netlist) (kept left now later : List ℕ) : Type 0 where
  circuit : d ≡ e
  free : kept ≡ left
  held : now ≡ later
  frames : frames_of runs ≡ frames_of others
  many : length runs ≡ length others
  parts : (i : ℕ) (a b : CertPart) → slice_get (map part_of runs) i ≡ Some a → slice_get (map part_of others) i ≡ Some b → IsSamePart certify other a b

-- parts that are equal so, and one more
parts-more : (certify other : Bool) (xs ys : List CertPart) (x y : CertPart) → length xs ≡ length ys
    → ((i : ℕ) (a b : CertPart) → slice_get xs i ≡ Some a → slice_get ys i ≡ Some b → IsSamePart certify other a b) → IsSamePart certify other x y
    → (i : ℕ) (a b : CertPart) → slice_get (xs ++ x ∷ []) i ≡ Some a → slice_get (ys ++ y ∷ []) i ≡ Some b → IsSamePart certify other a b
parts-more certify other xs ys x y many so_far last i a b p q = elim (slice_get_push xs x i a p) [
  | inl here ↦ elim (slice_get_push ys y i b q) [
    | inl there ↦ so_far i a b here there
    | inr there ↦ absurd (omega (arith, slice_get_within xs i a here, there.0, many))
  ]
  | inr here ↦ elim (slice_get_push ys y i b q) [
    | inl there ↦ absurd (omega (arith, slice_get_within ys i b there, here.0, many))
    | inr there ↦ subst (λ (part : CertPart). IsSamePart certify other part b) (sym here.1) (subst (λ (part : CertPart). IsSamePart certify other x part) (sym there.1) last)
  ]
]

frames-more : (runs : List Retimed) (run : Retimed) → frames_of (runs ++ run ∷ []) ≡ frames_of runs ++ frames_of (run ∷ [])
frames-more runs run = flat_map-append (λ (x : Retimed). x.frames) runs (run ∷ [])

module _ (merge : Bool) (bound : Option ℕ) (choice : Choice) (c : Netlist) (holding : Holding) (max_frames : ℕ) (certify other : Bool) where
  -- there is a run
  some-run : (wanted : Bool) (runs : List Retimed) (d : Netlist) (kept now : List ℕ) → AfterRuns merge bound choice c holding max_frames wanted runs d kept now → 0 < length runs
  some-run wanted _ _ _ _ (first run now is) = omega arith
  some-run wanted _ _ _ _ (again runs d kept now later run before asked some is) = omega (arith, length-append runs (run ∷ []))

  -- one run isn't more
  one-not-more : (wanted : Bool) (runs others : List Retimed) (one last : Retimed) → 0 < length runs → merges_of (one ∷ []) ≡ merges_of (runs ++ last ∷ []) → ⊥
  one-not-more wanted runs others one last some same =
      let long = ap (λ (xs : List (Option (List MergedLatch))). length xs) same in
      omega (arith, long, some, length-map (runs ++ last ∷ []) (λ (run : Retimed). run.merged), length-append runs (last ∷ []))

  from-first : (run : Retimed) (now : List ℕ) → IsRetimedTo merge bound choice c holding max_frames certify run now → (others : List Retimed) (e : Netlist) (left later : List ℕ)
      → AfterRuns merge bound choice c holding max_frames other others e left later → merges_of (run ∷ []) ≡ merges_of others → SameRuns certify other (run ∷ []) others run.circuit e run.kept_free left now later
  from-first run now is _ _ _ _ (first last later ends) same =
      let merged : run.merged ≡ last.merged = (same-last [] [] run.merged last.merged same).1 in
      let one = retiming-with-one merge bound choice c holding max_frames certify other run last is.retimed ends.retimed merged in
      record {
        circuit = one.circuit;
        free = one.free;
        held = run-now merge bound choice c holding max_frames certify other run last now later is ends merged;
        frames = ap (λ (xs : List FrameReport). xs ++ []) one.frames;
        many = refl;
        parts = parts-more certify other [] [] (part_of run) (part_of last) refl (λ i a b p q. absurd (cc)) (same-part certify other run last one);
      }
  from-first run now is _ _ _ _ (again runs d kept mid later last before asked some ends) same =
      absurd (one-not-more other runs runs run last (some-run other runs d kept mid before) same)

  from-again : (runs : List Retimed) (d : Netlist) (kept now later : List ℕ) (run : Retimed) → 0 < length runs
      → ((others : List Retimed) (e : Netlist) (left there : List ℕ) → AfterRuns merge bound choice c holding max_frames other others e left there → merges_of runs ≡ merges_of others → SameRuns certify other runs others d e kept left now there)
      → IsRetimedTo true bound choice d (at_positions now) (max_frames - length (frames_of runs)) certify run later → (others : List Retimed) (e : Netlist) (left there : List ℕ)
      → AfterRuns merge bound choice c holding max_frames other others e left there → merges_of (runs ++ run ∷ []) ≡ merges_of others
      → SameRuns certify other (runs ++ run ∷ []) others run.circuit e (composed kept run.kept_free) left later there
  from-again runs d kept now later run some so_far is _ _ _ _ (first one there ends) same = absurd (one-not-more other runs runs one run some (sym same))
  from-again runs d kept now later run some so_far is _ _ _ _ (again others e left mid there last before asked more ends) same =
      let split : merges_of runs ++ run.merged ∷ [] ≡ merges_of others ++ last.merged ∷ [] =
      sym (map-append (λ (x : Retimed). x.merged) runs (run ∷ [])) ∙ same ∙ map-append (λ (x : Retimed). x.merged) others (last ∷ []) in
      let both = same-last (merges_of runs) (merges_of others) run.merged last.merged split in
      let before_same = so_far others e left mid before both.0 in
      let P : Netlist → List ℕ → List FrameReport → Type 0 = λ x js frames. IsRetimedTo true bound choice x (at_positions js) (max_frames - length frames) other last there in
      let here : P d now (frames_of runs) =
      subst (λ (frames : List FrameReport). P d now frames) (sym before_same.frames)
      (subst (λ (js : List ℕ). P d js (frames_of others)) (sym before_same.held) (subst (λ (x : Netlist). P x mid (frames_of others)) (sym before_same.circuit) ends)) in
      let left_frames : ℕ = max_frames - length (frames_of runs) in
      let one = retiming-with-one true bound choice d (at_positions now) left_frames certify other run last is.retimed here.retimed both.1 in
      let parts = parts-more certify other (map part_of runs) (map part_of others) (part_of run) (part_of last) (length-map runs part_of ∙ before_same.many ∙ sym (length-map others part_of)) before_same.parts
      (same-part certify other run last one) in
      record {
        circuit = one.circuit;
        free = ap₂ composed before_same.free one.free;
        held = run-now true bound choice d (at_positions now) left_frames certify other run last later there is here both.1;
        frames = frames-more runs run ∙ ap₂ (λ (xs ys : List FrameReport). xs ++ (ys ++ [])) before_same.frames one.frames ∙ sym (frames-more others last);
        many = length-append runs (run ∷ []) ∙ ap (λ (n : ℕ). n + 1) before_same.many ∙ sym (length-append others (last ∷ []));
        parts = λ i a b p q.
            parts i a b (ap (λ (xs : List CertPart). slice_get xs i) (sym (map-append part_of runs (run ∷ []))) ∙ p)
            (ap (λ (xs : List CertPart). slice_get xs i) (sym (map-append part_of others (last ∷ []))) ∙ q);
      }

  -- runs that merge the same latches are the same
  runs-one : (runs : List Retimed) (d : Netlist) (kept now : List ℕ) → AfterRuns merge bound choice c holding max_frames certify runs d kept now → (others : List Retimed) (e : Netlist) (left later : List ℕ)
      → AfterRuns merge bound choice c holding max_frames other others e left later → merges_of runs ≡ merges_of others → SameRuns certify other runs others d e kept left now later
  runs-one _ _ _ _ (first run now is) others e left later ends same = from-first run now is others e left later ends same
  runs-one _ _ _ _ (again runs d kept now later run before asked some is) others e left there ends same =
      from-again runs d kept now later run (some-run certify runs d kept now before) (λ more a places there so_far one. runs-one runs d kept now before more a places there so_far one) is others e left there ends same

-- the latches that rounds merged are those that their runs did
merged-by : (runs : List Retimed) (r : Rounds) → r.parts ≡ map part_of runs → merged_in r ≡ merges_of runs
merged-by runs r parts = ap (λ (xs : List CertPart). map (λ (part : CertPart). part.merged) xs) parts ∙ of-parts runs
  where
    of-parts : (all : List Retimed) → map (λ (part : CertPart). part.merged) (map part_of all) ≡ merges_of all
    of-parts [] = refl
    of-parts (run ∷ all) = ap (λ (xs : List (Option (List MergedLatch))). run.merged ∷ xs) (of-parts all)

-- what a circuit is retimed to in rounds is one
pub rounds-one : (merge : Bool) (bound : Option ℕ) (choice : Choice) (c : Netlist) (holding : Holding) (max_frames : ℕ) → AreDetermined merge bound choice c holding max_frames
rounds-one merge bound choice c holding max_frames certify other runs others r s now later p q same =
    let merges : merges_of runs ≡ merges_of others = sym (merged-by runs r p.parts) ∙ same ∙ merged-by others s q.parts in
    let one = runs-one merge bound choice c holding max_frames certify other runs r.circuit r.kept_free now p.after others s.circuit s.kept_free later q.after merges in
    record {
      circuit = one.circuit;
      free = one.free;
      latches = p.read_latches ∙ sym q.read_latches;
      frames = p.frames ∙ one.frames ∙ sym q.frames;
      many =
          ap (λ (xs : List CertPart). length xs) p.parts ∙ length-map runs part_of ∙ one.many ∙ sym (length-map others part_of)
          ∙ sym (ap (λ (xs : List CertPart). length xs) q.parts);
      parts = λ i a b f g. one.parts i a b (ap (λ (xs : List CertPart). slice_get xs i) (sym p.parts) ∙ f) (ap (λ (xs : List CertPart). slice_get xs i) (sym q.parts) ∙ g);
    }
