-- A run of frames is one.
use Rattle.std.proofs.Common.{ℕ, Bool, suc, inl, inr, ◌≡◌, ◌<◌, ◌++◌, List, [], ◌∷◌, length, Option, refl, arith, ap, ap₂, sym, ◌∙◌, subst}
use Rattle.std.proofs.lemmas.Bool.{cases_order}
use Rattle.std.proofs.lemmas.List.{length-append}
use Rattle.aig_graph.specs.Circuits.{Netlist}
use Rattle.aig_graph.specs.Keep.{Holding, held_of}
use Rattle.aig_graph.specs.Laws.{composed}
use Rattle.aig_graph.specs.declared.choice.Choice.{Choice}
use Rattle.cleaned_circuits.specs.Held.{HeldAfter}
use Rattle.cleaned_circuits.proofs.CleanedLaws.{cleans-one}
use Rattle.cleaned_circuits.proofs.HeldLaws.{held_after-one}
use Rattle.retimed_circuits.specs.declared.report.FrameReport.{FrameReport}
use Rattle.retimed_circuits.specs.declared.report.Retimed.{Retimed}
use Rattle.retimed_circuits.specs.Frames.{CleansTo, held_over, moved_over, report_over, IsHelpingSet, IsFrame, AfterFrames, cleaned, frame}
use Rattle.retimed_circuits.specs.Certified.{AreCertified, IsSameRetiming}
use Rattle.retimed_circuits.specs.Retiming.{IsRetimed, IsRetimedOver}
use Rattle.retimed_circuits.proofs.FoundLaws.{found-one, never-helps}
use Rattle.retimed_circuits.proofs.CertifiedLaws.{same-certificates}

-- one circuit, one list of free latches, one of held ones, and equal reports
pub record SameEnd {A : Type 0} (d e : Netlist) (kept left now later : List ℕ) (r s : A) : Type 0 where
  -- the circuits are equal
  pub circuit : d ≡ e
  -- the places of free latches are equal
  pub free : kept ≡ left
  -- the positions of held latches are equal
  pub held : now ≡ later
  -- the reports are equal
  pub reports : r ≡ s

-- a circuit is cleaned to one, with its held latches at one list of positions
pub cleaned-one : {A : Type 0} (held : List ℕ) (c d e : Netlist) (kept left now later : List ℕ) (r s : A) → CleansTo held c d kept now → CleansTo held c e left later → r ≡ s
    → SameEnd d e kept left now later r s
cleaned-one held c d e kept left now later r s p q same =
    let both = cleans-one d held c kept p.cleans e left q.cleans in
    let P : Netlist → Type 0 = λ x. HeldAfter x later held c in
    record { circuit = both.0; free = both.1; held = held_after-one d now held c p.held_after later (subst P (sym both.0) q.held_after); reports = same }

-- two frames of one circuit, by one choice, end alike
pub frame-one : (bound : Option ℕ) (choice : Choice) (held : List ℕ) (c d e : Netlist) (kept left now later : List ℕ) (r s : FrameReport) → IsFrame bound choice held c d kept now r → IsFrame bound choice held c e left later s
    → SameEnd d e kept left now later r s
frame-one bound choice held c d e kept left now later r s p q =
    let same : p.set ≡ q.set = found-one bound choice held c p.set q.set p.helps.found q.helps.found in
    let P : List ℕ → Type 0 = λ set. CleansTo (held_over held c set) (moved_over held c set) e left later in
    cleaned-one (held_over held c p.set) (moved_over held c p.set) d e kept left now later r s p.cleaned (subst P (sym same) q.cleaned) (p.reported ∙ ap (report_over held c) same ∙ sym q.reported)

-- two runs of equal numbers of frames from one circuit, by one choice, end alike
pub after-one : (bound : Option ℕ) (choice : Choice) (held : List ℕ) (c : Netlist) (n : ℕ) (d : Netlist) (kept now : List ℕ) (r : List FrameReport) → AfterFrames bound choice held c n d kept now r
    → (e : Netlist) (left later : List ℕ) (s : List FrameReport) → AfterFrames bound choice held c n e left later s → SameEnd d e kept left now later r s
after-one bound choice held c _ _ _ _ _ (cleaned d kept now cleans) e left later s other = from_start bound choice held c _ d e kept left now later s cleans refl other
  where
    from_start : (bound : Option ℕ) (choice : Choice) (held : List ℕ) (c : Netlist) (n : ℕ) (d e : Netlist) (kept left now later : List ℕ) (s : List FrameReport) → CleansTo held c d kept now → n ≡ 0
        → AfterFrames bound choice held c n e left later s → SameEnd d e kept left now later [] s
    from_start bound choice held c _ d _ kept _ now _ _ cleans start (cleaned e left later other) = cleaned-one held c d e kept left now later [] [] cleans other refl
    from_start bound choice held c _ d _ kept _ now _ _ cleans start (frame n a e before left mid later reports report run last) = absurd (omega (arith, start))
after-one bound choice held c _ _ _ _ _ (frame n a d kept more mid now reports report run last) e left later s other =
    from_frame bound choice held c _ n a d e kept more left mid now later reports report s (λ b places there rs before. after-one bound choice held c n a kept mid reports run b places there rs before) last refl other
  where
    from_frame : (bound : Option ℕ) (choice : Choice) (held : List ℕ) (c : Netlist) (m n : ℕ) (a d e : Netlist) (kept more left mid now later : List ℕ) (reports : List FrameReport) (report : FrameReport) (s : List FrameReport)
        → ((b : Netlist) (places there : List ℕ) (rs : List FrameReport) → AfterFrames bound choice held c n b places there rs → SameEnd a b kept places mid there reports rs)
        → IsFrame bound choice mid a d more now report → m ≡ suc n → AfterFrames bound choice held c m e left later s → SameEnd d e (composed kept more) left now later (reports ++ report ∷ []) s
    from_frame bound choice held c _ n a d _ kept more _ mid now _ reports report _ again last start (cleaned e left later other) = absurd (omega (arith, start))
    from_frame bound choice held c _ n a d _ kept more _ mid now _ reports report _ again last start (frame k b e places left there later rs report2 before last2) =
        let P : ℕ → Type 0 = λ j. AfterFrames bound choice held c j b places there rs in
        let same = again b places there rs (subst P (omega (arith, start)) before) in
        let Q : Netlist → Type 0 = λ x. IsFrame bound choice there x e left later report2 in
        let W : List ℕ → Type 0 = λ x. IsFrame bound choice x a e left later report2 in
        let ends = frame-one bound choice mid a d e more left now later report report2 last (subst W (sym same.held) (subst Q (sym same.circuit) last2)) in
        record {
          circuit = ends.circuit;
          free = ap₂ composed same.free ends.free;
          held = ends.held;
          reports = ap₂ (λ (xs : List FrameReport) (x : FrameReport). xs ++ x ∷ []) same.reports ends.reports;
        }

-- a run has a report for each frame
pub after-length : (bound : Option ℕ) (choice : Choice) (held : List ℕ) (c : Netlist) (n : ℕ) (d : Netlist) (kept now : List ℕ) (r : List FrameReport) → AfterFrames bound choice held c n d kept now r → length r ≡ n
after-length bound choice held c _ _ _ _ _ (cleaned d kept now cleans) = refl
after-length bound choice held c _ _ _ _ _ (frame n d e kept left now later reports report run last) =
    let before : length reports ≡ n = after-length bound choice held c n d kept now reports run in omega (arith, before, length-append reports (report ∷ []))

-- a shorter run goes on with a frame of a longer one
pub after-more : (bound : Option ℕ) (choice : Choice) (held : List ℕ) (c : Netlist) (n : ℕ) (d : Netlist) (kept now : List ℕ) (r : List FrameReport) → AfterFrames bound choice held c n d kept now r
    → (m : ℕ) (e : Netlist) (left later : List ℕ) (s : List FrameReport) → AfterFrames bound choice held c m e left later s → n < m → (set : List ℕ) × IsHelpingSet bound choice now d set
after-more bound choice held c n d kept now r run _ _ _ _ _ (cleaned e left later cleans) less = absurd (omega (arith, less))
after-more bound choice held c n d kept now r run _ _ _ _ _ (frame m a e places left there later rs report before last) less = elim (cases_order n m) [
  | inl here ↦ (
      let P : ℕ → Type 0 = λ j. AfterFrames bound choice held c j a places there rs in
      let same = after-one bound choice held c n d kept now r run a places there rs (subst P (sym here) before) in
      let Q : Netlist → Type 0 = λ x. (set : List ℕ) × IsHelpingSet bound choice there x set in
      let W : List ℕ → Type 0 = λ x. (set : List ℕ) × IsHelpingSet bound choice x d set in
      subst W (sym same.held) (subst Q (sym same.circuit) (last.set, last.helps)))
  | inr (inl more) ↦ after-more bound choice held c n d kept now r run m a places there rs before more
  | inr (inr past) ↦ absurd (omega (arith, past, less))
]

-- a run that ended doesn't stop before another one
shorter : (bound : Option ℕ) (choice : Choice) (c : Netlist) (held : List ℕ) (max_frames : ℕ) (certify other : Bool) (r s : Retimed) → IsRetimedOver bound choice c held max_frames certify r
    → IsRetimedOver bound choice c held max_frames other s → length r.frames < length s.frames → ⊥
shorter bound choice c held max_frames certify other r s p q less =
    let more = after-more bound choice held c (length r.frames) r.circuit r.kept_free p.now r.frames p.frames (length s.frames) s.circuit s.kept_free q.now s.frames q.frames less in
    never-helps bound choice p.now r.circuit more.0 (p.last (omega (arith, less, q.within))) more.1

-- without merging a circuit is retimed to one result, but for certificates wanted of one alone, and
-- routes
pub run-one : (bound : Option ℕ) (choice : Choice) (c : Netlist) (held : List ℕ) (max_frames : ℕ) (certify other : Bool) (r s : Retimed) → IsRetimedOver bound choice c held max_frames certify r
    → IsRetimedOver bound choice c held max_frames other s → IsSameRetiming certify other r s
run-one bound choice c held max_frames certify other r s p q = elim (cases_order (length r.frames) (length s.frames)) [
  | inl here ↦ (
      let P : ℕ → Type 0 = λ j. AfterFrames bound choice held c j s.circuit s.kept_free q.now s.frames in
      let ends = after-one bound choice held c (length r.frames) r.circuit r.kept_free p.now r.frames p.frames s.circuit s.kept_free q.now s.frames (subst P (sym here) q.frames) in
      let latches : r.read_latches ≡ s.read_latches = p.read_latches ∙ sym q.read_latches in
      let Q : Bool → Type 0 = λ wanted. AreCertified bound choice c held max_frames wanted s in
      record {
        circuit = ends.circuit;
        free = ends.free;
        latches = latches;
        merged = p.none_merged ∙ sym q.none_merged;
        frames = ends.reports;
        certificates = λ same. same-certificates bound choice c held max_frames certify r s p.now p.frames p.certified (subst Q (sym same) q.certified) p.within here;
      })
  | inr (inl less) ↦ absurd (shorter bound choice c held max_frames certify other r s p q less)
  | inr (inr less) ↦ absurd (shorter bound choice c held max_frames other certify s r q p less)
]

-- so is one with the latches held that are asked to be
pub retiming-one : (bound : Option ℕ) (choice : Choice) (c : Netlist) (holding : Holding) (max_frames : ℕ) (certify other : Bool) (r s : Retimed) → IsRetimed bound choice c holding max_frames certify r
    → IsRetimed bound choice c holding max_frames other s → IsSameRetiming certify other r s
retiming-one bound choice c holding max_frames certify other r s p q = run-one bound choice c (held_of holding c) max_frames certify other r s p.run q.run
