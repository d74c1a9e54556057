-- What a watcher is notified of, one stage after another.
use Rattle.std.proofs.Common.{ℕ, zero, suc, ◌+◌, ◌-◌, ◌<◌, ◌≡◌, List, [], ◌∷◌, ◌++◌, Option, length, Result, Ok, Err, refl, ap, sym, subst, arith, append_assoc, append-nil}
use Rattle.std.specs.Result.{IfOk}
use Rattle.retimed_circuits.specs.declared.report.FrameReport.{FrameReport}
use Rattle.retimed_circuits.specs.declared.report.Retimed.{Retimed}
use Rattle.aig_graph.specs.Circuits.{Netlist}
use Rattle.aig_graph.specs.Graph.{known_latches}
use Rattle.retimed_circuits.proofs.RunLaws.{after-length}
use Rattle.frame_runs.specs.declared.options.Options.{Options}
use Rattle.frame_runs.specs.Merging.{ReadCircuit}
use Rattle.frame_runs.specs.Underway.{IsUnderway}
use Rattle.frame_runs.specs.Stages.{Looking, Moving, Notifies, Notification, frame_stages, last_look, looks_of}

frames-none : (taken : ℕ) → frame_stages taken [] ≡ []
unfolding frame_stages
frames-none taken = refl

-- the stages of one frame more
frames-more : (taken last : ℕ) (reports : List FrameReport) (report : FrameReport) → last ≡ taken + length reports
    → frame_stages taken (reports ++ report ∷ []) ≡ frame_stages taken reports ++ Looking last report.before ∷ Moving ∷ []
unfolding frame_stages
frames-more taken last [] report at =
    let same : taken ≡ last = omega (arith, at) in
    ap (λ (n : ℕ). Looking n report.before ∷ Moving ∷ []) same
frames-more taken last (first ∷ reports) report at =
    let later : last ≡ suc taken + length reports = omega (arith, at) in
    ap (λ (stages : List Notification). Looking taken first.before ∷ Moving ∷ stages) (frames-more (suc taken) last reports report later)

-- a look past the last frame, if the limit leaves one
look-once : (left taken latches : ℕ) → 0 < left → last_look left taken latches ≡ Looking taken latches ∷ []
look-once zero taken latches some = absurd (omega (arith, some))
look-once (suc left) taken latches some = refl

look-never : (left taken latches : ℕ) → left ≡ 0 → last_look left taken latches ≡ []
look-never zero taken latches none = refl
look-never (suc left) taken latches none = absurd (omega (arith, none))

-- a run has as many reports as it took frames
pub many-taken : (options : Options) (bound : Option ℕ) (c : Netlist) (read : Option ReadCircuit) (held : List ℕ) (n : ℕ) (r : Retimed) (now : List ℕ) → IsUnderway options bound c read held n r now → length r.frames ≡ n
many-taken options bound c read held n r now run = after-length bound options.choice held c n r.circuit run.kept now r.frames run.frames

none-listed : (reports : List FrameReport) → length reports ≡ 0 → reports ≡ []
none-listed [] none = refl
none-listed (report ∷ reports) none = absurd (omega (arith, none))

-- a run that took no frames yet has no reports of frames
pub none-taken : (options : Options) (bound : Option ℕ) (c : Netlist) (read : Option ReadCircuit) (held : List ℕ) (r : Retimed) (now : List ℕ) → IsUnderway options bound c read held 0 r now → r.frames ≡ []
none-taken options bound c read held r now run = none-listed r.frames (many-taken options bound c read held 0 r now run)

module _ {W : Type 0} (was_notified : W → List Notification → Type 0) where
  -- a watcher who stays as it was, was notified of nothing more
  pub notifies-nothing : (a : W) → Notifies was_notified a a []
  notifies-nothing a = λ before notified. subst (was_notified a) (sym (append-nil before)) notified

  -- a watcher who was notified of some stages and then of others was notified of both, one after
  -- the other
  pub notifies-then : (a b c : W) (xs ys : List Notification) → Notifies was_notified a b xs → Notifies was_notified b c ys → Notifies was_notified a c (xs ++ ys)
  notifies-then a b c xs ys first next = λ before notified. subst (was_notified c) (append_assoc before xs ys) (next (before ++ xs) (first before notified))

  -- nothing more
  pub notifies-same : (a b c : W) (xs : List Notification) → Notifies was_notified a b xs → Notifies was_notified b c [] → Notifies was_notified a c xs
  notifies-same a b c xs first next = subst (Notifies was_notified a c) (append-nil xs) (notifies-then a b c xs [] first next)

  -- before the first frame
  pub notifies-start : (a : W) (reports : List FrameReport) → reports ≡ [] → Notifies was_notified a a (frame_stages 0 reports)
  notifies-start a reports none = subst (λ (rs : List FrameReport). Notifies was_notified a a (frame_stages 0 rs)) (sym none) (subst (Notifies was_notified a a) (sym (frames-none 0)) (notifies-nothing a))

  -- a set is looked for, and latches move over it
  pub notifies-frame : (a b c d : W) (reports all : List FrameReport) (report : FrameReport) (latches : ℕ) → all ≡ reports ++ report ∷ [] → report.before ≡ latches
      → Notifies was_notified a b (frame_stages 0 reports) → Notifies was_notified b c (Looking (length reports) latches ∷ []) → Notifies was_notified c d (Moving ∷ [])
      → Notifies was_notified a d (frame_stages 0 all)
  notifies-frame a b c d reports all report latches whole counted frames look move =
      let look_of : ℕ → List Notification = λ n. Looking (length reports) n ∷ [] in
      let looked = subst (λ (n : ℕ). Notifies was_notified b c (look_of n)) (sym counted) look in
      let both : Notifies was_notified b d (Looking (length reports) report.before ∷ Moving ∷ []) = notifies-then b c d (look_of report.before) (Moving ∷ []) looked move in
      let at : length reports ≡ 0 + length reports = omega arith in
      let so_far = notifies-then a b d (frame_stages 0 reports) (Looking (length reports) report.before ∷ Moving ∷ []) frames both in
      subst (λ (rs : List FrameReport). Notifies was_notified a d (frame_stages 0 rs)) (sym whole)
      (subst (Notifies was_notified a d) (sym (frames-more 0 (length reports) reports report at)) so_far)

  -- the run ends if the set that was looked for last doesn't help
  pub notifies-end : (a b c d : W) (limit : ℕ) (r : Retimed) → length r.frames < limit → Notifies was_notified a b (frame_stages 0 r.frames)
      → Notifies was_notified b c (Looking (length r.frames) (known_latches r.circuit.aig) ∷ []) → Notifies was_notified c d [] → Notifies was_notified a d (looks_of limit r)
  notifies-end a b c d limit r less frames look nothing =
      let latches : ℕ = known_latches r.circuit.aig in
      let taken : ℕ = length r.frames in
      let left : 0 < limit - taken = omega (arith, less) in
      let looked = notifies-same b c d (Looking taken latches ∷ []) look nothing in
      notifies-then a b d (frame_stages 0 r.frames) (last_look (limit - taken) taken latches) frames
      (subst (Notifies was_notified b d) (sym (look-once (limit - taken) taken latches left)) looked)

  -- or at the limit
  pub notifies-limit : (a b : W) (limit : ℕ) (r : Retimed) → length r.frames ≡ limit → Notifies was_notified a b (frame_stages 0 r.frames) → Notifies was_notified a b (looks_of limit r)
  notifies-limit a b limit r at frames =
      let latches : ℕ = known_latches r.circuit.aig in
      let taken : ℕ = length r.frames in
      let none : limit - taken ≡ 0 = omega (arith, at) in
      notifies-then a b b (frame_stages 0 r.frames) (last_look (limit - taken) taken latches) frames
      (subst (Notifies was_notified b b) (sym (look-never (limit - taken) taken latches none)) (notifies-nothing b))

  -- stages, and others after them, whatever the result is
  pub all-notified : {T E : Type 0} (r : Result T E) (a b c : W) (xs : List Notification) (ys : T → List Notification) → Notifies was_notified a b xs → IfOk r (λ x. Notifies was_notified b c (ys x))
      → IfOk r (λ x. Notifies was_notified a c (xs ++ ys x))
  all-notified (Ok x) a b c xs ys first next = notifies-then a b c xs (ys x) first next
  all-notified (Err e) a b c xs ys first next = tt

  -- of equal frames and circuits equal looks are notified of
  pub same-looks : (a b : W) (limit : ℕ) (r s : Retimed) → s.frames ≡ r.frames → s.circuit ≡ r.circuit → Notifies was_notified a b (looks_of limit r) → Notifies was_notified a b (looks_of limit s)
  same-looks a b limit r s frames circuit notified =
      subst (λ (list : List FrameReport). Notifies was_notified a b (frame_stages 0 list ++ last_look (limit - length list) (length list) (known_latches s.circuit.aig))) (sym frames)
      (subst (λ (c : Netlist). Notifies was_notified a b (frame_stages 0 r.frames ++ last_look (limit - length r.frames) (length r.frames) (known_latches c.aig))) (sym circuit) notified)
