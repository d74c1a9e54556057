-- There is one audit.
use Rattle.std.proofs.Common.{ℕ, ◌≡◌, ◌≢◌, ◌<◌, ◌≤◌, suc, List, [], ◌∷◌, Option, Some, None, refl, arith, ap, sym, ◌∙◌, subst}
use Rattle.aig_graph.specs.Circuits.{Netlist}
use Rattle.retimed_circuits.proofs.MergedRunLaws.{merges-one}
use Rattle.retimed_circuits.proofs.RunLaws.{cleaned-one}
use Rattle.certificates.specs.declared.certificate.Certificate.{Certificate}
use Rattle.certificates.specs.declared.merged.MergedLatch.{MergedLatch}
use Rattle.certificates.specs.declared.verdict.Verdict.{Verdict}
use Rattle.certificates.specs.declared.verdict.Verdict.TheVariants.{Yes, No}
use Rattle.certificates.specs.declared.verdict.Objection.{Objection}
use Rattle.certificates.specs.declared.verdict.Objection.TheVariants.{NotClosed, BadRoute, UsedTwice, CountDiffers}
use Rattle.certificates.specs.Verdicts.{IsVerdict}
use Rattle.path_levels.specs.Bounded.{bounded}
use Rattle.retimed_circuits.specs.Certified.{PassesWithin, passes_bounded, passes_whole}
use Rattle.retimed_circuits.specs.Frames.{held_over, moved_over}
use Rattle.path_levels.specs.Levels.{levels}
use Rattle.certificate_audits.specs.declared.outcome.BlockObjection.{BlockObjection}
use Rattle.certificate_audits.specs.declared.outcome.BlockObjection.TheVariants.{Fails, TooLong}
use Rattle.certificate_audits.specs.declared.judging.Finding.{Finding}
use Rattle.certificate_audits.specs.declared.judging.Finding.TheVariants.{Objected, Fewer, NotFewer}
use Rattle.certificate_audits.specs.declared.outcome.Audit.{Audit}
use Rattle.certificate_audits.specs.declared.outcome.End.{End}
use Rattle.certificate_audits.specs.declared.outcome.End.TheVariants as ending
use Rattle.certificate_audits.specs.Audits.{MoveBreaksBound, FailsWithin, IsVerdictBy, MoveKeepsBound, Objects, Audits, IsNext, IsAudit, no_blocks, objected, open_end, certified_end, past_end, goes_on}
use Rattle.certificate_audits.specs.Findings.{IsFinding}
use Rattle.certificate_audits.specs.Laws.{MergedAuditLaw}
use Rattle.certificate_audits.proofs.AuditLaws.{replay-audit}

verdict-one : (c : Netlist) (held : List ℕ) (cert : Certificate) (v w : Verdict) → IsVerdict c held cert v → IsVerdict c held cert w → v ≡ w
verdict-one c held cert Yes Yes p q = refl
verdict-one c held cert Yes (No NotClosed) p q = absurd (q p.0)
verdict-one c held cert Yes (No BadRoute) p q = absurd (q.1 p.1)
verdict-one c held cert Yes (No UsedTwice) p q = absurd (q.2 p.2)
verdict-one c held cert Yes (No CountDiffers) p q = absurd (q.3 p.3)
verdict-one c held cert (No NotClosed) Yes p q = absurd (p q.0)
verdict-one c held cert (No NotClosed) (No NotClosed) p q = refl
verdict-one c held cert (No NotClosed) (No BadRoute) p q = absurd (p q.0)
verdict-one c held cert (No NotClosed) (No UsedTwice) p q = absurd (p q.0)
verdict-one c held cert (No NotClosed) (No CountDiffers) p q = absurd (p q.0)
verdict-one c held cert (No BadRoute) Yes p q = absurd (p.1 q.1)
verdict-one c held cert (No BadRoute) (No NotClosed) p q = absurd (q p.0)
verdict-one c held cert (No BadRoute) (No BadRoute) p q = refl
verdict-one c held cert (No BadRoute) (No UsedTwice) p q = absurd (p.1 q.1)
verdict-one c held cert (No BadRoute) (No CountDiffers) p q = absurd (p.1 q.1)
verdict-one c held cert (No UsedTwice) Yes p q = absurd (p.2 q.2)
verdict-one c held cert (No UsedTwice) (No NotClosed) p q = absurd (q p.0)
verdict-one c held cert (No UsedTwice) (No BadRoute) p q = absurd (q.1 p.1)
verdict-one c held cert (No UsedTwice) (No UsedTwice) p q = refl
verdict-one c held cert (No UsedTwice) (No CountDiffers) p q = absurd (p.2 q.2)
verdict-one c held cert (No CountDiffers) Yes p q = absurd (p.3 q.3)
verdict-one c held cert (No CountDiffers) (No NotClosed) p q = absurd (q p.0)
verdict-one c held cert (No CountDiffers) (No BadRoute) p q = absurd (q.1 p.1)
verdict-one c held cert (No CountDiffers) (No UsedTwice) p q = absurd (q.2 p.2)
verdict-one c held cert (No CountDiffers) (No CountDiffers) p q = refl

abbrev objection_of : Verdict → BlockObjection
objection_of Yes = TooLong
objection_of (No objection) = Fails objection

keeps-or-breaks : (bound : Option ℕ) (held : List ℕ) (c : Netlist) (block : Certificate) → MoveKeepsBound bound held c block → MoveBreaksBound bound held c block → ⊥
keeps-or-breaks None held c block keeps breaks = breaks
keeps-or-breaks (Some most) held c block keeps breaks =
    let short : levels (moved_over held c block.gates) ≤ most = keeps in
    let long : most < levels (moved_over held c block.gates) = breaks in
    omega (arith, short, long)

-- what passes doesn't fail
passes-never-fails : (bound : ℕ) (held : List ℕ) (c : Netlist) (block : Certificate) (o : Objection) → PassesWithin bound held c block → FailsWithin bound held c block o → ⊥
passes-never-fails bound held c block o (passes_whole v) fails = let clash : Yes ≡ No o = verdict-one c held block Yes (No o) v fails.whole in absurd (cc)
passes-never-fails bound held c block o (passes_bounded v) fails =
    let clash : Yes ≡ No fails.other = verdict-one (bounded bound held c) held block Yes (No fails.other) v fails.bounded_too in absurd (cc)

verdict-by-one : (bound : Option ℕ) (held : List ℕ) (c : Netlist) (block : Certificate) (v w : Verdict) → IsVerdictBy bound held c block v → IsVerdictBy bound held c block w → v ≡ w
verdict-by-one None held c block v w p q = verdict-one c held block v w p q
verdict-by-one (Some bound) held c block Yes Yes p q = refl
verdict-by-one (Some bound) held c block Yes (No o) p q = absurd (passes-never-fails bound held c block o p q)
verdict-by-one (Some bound) held c block (No o) Yes p q = absurd (passes-never-fails bound held c block o q p)
verdict-by-one (Some bound) held c block (No o) (No r) p q = verdict-one c held block (No o) (No r) p.whole q.whole

module _ (bound : Option ℕ) (held : List ℕ) (c : Netlist) (block : Certificate) where
  one-verdict : (v w : Verdict) → IsVerdictBy bound held c block v → IsVerdictBy bound held c block w → v ≡ w
  one-verdict = verdict-by-one bound held c block

  -- what passes isn't objected to by a test
  never-fails : (o : Objection) → IsVerdictBy bound held c block Yes → IsVerdictBy bound held c block (No o) → ⊥
  never-fails o p q = let clash : Yes ≡ No o = one-verdict Yes (No o) p q in absurd (cc)

  -- a move that keeps the bound doesn't break it
  never-longer : MoveKeepsBound bound held c block → MoveBreaksBound bound held c block → ⊥
  never-longer = keeps-or-breaks bound held c block

  objects-one : (o r : BlockObjection) → Objects bound held c block o → Objects bound held c block r → o ≡ r
  objects-one (Fails o) (Fails r) p q = ap objection_of (one-verdict (No o) (No r) p q)
  objects-one (Fails o) TooLong p q = absurd (never-fails o q.saves.confirmed.passes p)
  objects-one TooLong (Fails r) p q = absurd (never-fails r p.saves.confirmed.passes q)
  objects-one TooLong TooLong p q = refl

  finding-one : (f g : Finding) → IsFinding bound held c block f → IsFinding bound held c block g → f ≡ g
  finding-one (Objected o) (Objected r) p q = ap Objected (objects-one o r p q)
  finding-one (Objected (Fails o)) Fewer p q = absurd (never-fails o q.saves.confirmed.passes p)
  finding-one (Objected TooLong) Fewer p q = absurd (never-longer q.keeps p.longer)
  finding-one (Objected (Fails o)) NotFewer p q = absurd (never-fails o q.confirmed.passes p)
  finding-one (Objected TooLong) NotFewer p q = absurd (omega (arith, p.saves.fewer, q.no_fewer))
  finding-one Fewer (Objected (Fails o)) p q = absurd (never-fails o p.saves.confirmed.passes q)
  finding-one Fewer (Objected TooLong) p q = absurd (never-longer p.keeps q.longer)
  finding-one Fewer Fewer p q = refl
  finding-one Fewer NotFewer p q = absurd (omega (arith, p.saves.fewer, q.no_fewer))
  finding-one NotFewer (Objected (Fails o)) p q = absurd (never-fails o p.confirmed.passes q)
  finding-one NotFewer (Objected TooLong) p q = absurd (omega (arith, q.saves.fewer, p.no_fewer))
  finding-one NotFewer Fewer p q = absurd (omega (arith, q.saves.fewer, p.no_fewer))
  finding-one NotFewer NotFewer p q = refl

  -- the audit goes on behind the block
  record GoesTo (rest : List Certificate) (m : ℕ) (end : End) : Type 0 where
    d : Netlist
    now : List ℕ
    n : ℕ
    next : IsNext held c block d now
    more : Audits bound now d rest n end
    count : m ≡ suc n

  abbrev AfterFewer : List Certificate → ℕ → End → Type 0
  AfterFewer [] m end = (m ≡ 1) × (end ≡ ending.Open)
  AfterFewer (next ∷ rest) m end = GoesTo (next ∷ rest) m end

  abbrev AfterNotFewer : List Certificate → ℕ → End → Type 0
  AfterNotFewer [] m end = (m ≡ 1) × (end ≡ ending.Certified)
  AfterNotFewer (next ∷ rest) m end = (m ≡ 1) × (end ≡ ending.BlocksFollow)

  -- what follows a finding
  abbrev After : Finding → List Certificate → ℕ → End → Type 0
  After (Objected objection) rest m end = (m ≡ 0) × (end ≡ ending.Objected objection)
  After Fewer rest m end = AfterFewer rest m end
  After NotFewer rest m end = AfterNotFewer rest m end

  record Found (rest : List Certificate) (m : ℕ) (end : End) : Type 0 where
    finding : Finding
    is : IsFinding bound held c block finding
    after : After finding rest m end

  past : (rest : List Certificate) → rest ≢ [] → AfterNotFewer rest 1 ending.BlocksFollow
  past [] follows = absurd (follows refl)
  past (next ∷ rest) follows = (refl, refl)

  onward : (rest : List Certificate) (m : ℕ) (end : End) → rest ≢ [] → GoesTo rest m end → AfterFewer rest m end
  onward [] m end follows goes = absurd (follows refl)
  onward (next ∷ rest) m end follows goes = goes

  abbrev Same : List Certificate → Type 0
  Same rest = (now : List ℕ) (d : Netlist) (n m : ℕ) (e f : End) → Audits bound now d rest n e → Audits bound now d rest m f → (n ≡ m) × (e ≡ f)

  goes-one : (rest : List Certificate) (n m : ℕ) (e f : End) → Same rest → GoesTo rest n e → GoesTo rest m f → (n ≡ m) × (e ≡ f)
  goes-one rest n m e f again p q =
      let same = cleaned-one (held_over held c block.gates) (moved_over held c block.gates) p.d q.d p.next.kept q.next.kept p.now q.now n n p.next.cleaned q.next.cleaned refl in
      let P : List ℕ → Netlist → Type 0 = λ now d. Audits bound now d rest q.n f in
      let other : P p.now p.d = subst (λ (now : List ℕ). P now p.d) (sym same.held) (subst (P q.now) (sym same.circuit) q.more) in
      let ends = again p.now p.d p.n q.n e f p.more other in
      (p.count ∙ ap suc ends.0 ∙ sym q.count, ends.1)

  fewer-one : (rest : List Certificate) (n m : ℕ) (e f : End) → Same rest → AfterFewer rest n e → AfterFewer rest m f → (n ≡ m) × (e ≡ f)
  fewer-one [] n m e f again p q = (p.0 ∙ sym q.0, p.1 ∙ sym q.1)
  fewer-one (next ∷ rest) n m e f again p q = goes-one (next ∷ rest) n m e f again p q

  not_fewer-one : (rest : List Certificate) (n m : ℕ) (e f : End) → AfterNotFewer rest n e → AfterNotFewer rest m f → (n ≡ m) × (e ≡ f)
  not_fewer-one [] n m e f p q = (p.0 ∙ sym q.0, p.1 ∙ sym q.1)
  not_fewer-one (next ∷ rest) n m e f p q = (p.0 ∙ sym q.0, p.1 ∙ sym q.1)

  after-one : (finding : Finding) (rest : List Certificate) (n m : ℕ) (e f : End) → Same rest → After finding rest n e → After finding rest m f → (n ≡ m) × (e ≡ f)
  after-one (Objected objection) rest n m e f again p q = (p.0 ∙ sym q.0, p.1 ∙ sym q.1)
  after-one Fewer rest n m e f again p q = fewer-one rest n m e f again p q
  after-one NotFewer rest n m e f again p q = not_fewer-one rest n m e f p q

  found-one : (rest : List Certificate) (n m : ℕ) (e f : End) → Same rest → Found rest n e → Found rest m f → (n ≡ m) × (e ≡ f)
  found-one rest n m e f again p q =
      let same = finding-one p.finding q.finding p.is q.is in
      after-one q.finding rest n m e f again (subst (λ (finding : Finding). After finding rest n e) same p.after) q.after

-- an audit by its first block
abbrev Viewed : Option ℕ → List ℕ → Netlist → List Certificate → ℕ → End → Type 0
Viewed bound held c [] m end = (m ≡ 0) × (end ≡ ending.NoBlocks)
Viewed bound held c (block ∷ rest) m end = Found bound held c block rest m end

viewed : (bound : Option ℕ) (held : List ℕ) (c : Netlist) (blocks : List Certificate) (m : ℕ) (end : End) → Audits bound held c blocks m end → Viewed bound held c blocks m end
viewed bound _ _ _ _ _ (no_blocks held c) = (refl, refl)
viewed bound _ _ _ _ _ (objected held c block rest objection objects) = record { finding = Objected objection; is = objects; after = (refl, refl) }
viewed bound _ _ _ _ _ (open_end held c block taken) = record { finding = Fewer; is = taken; after = (refl, refl) }
viewed bound _ _ _ _ _ (certified_end held c block none) = record { finding = NotFewer; is = none; after = (refl, refl) }
viewed bound _ _ _ _ _ (past_end held c block rest none follows) = record { finding = NotFewer; is = none; after = past bound held c block rest follows }
viewed bound _ _ _ _ _ (goes_on held now c d block rest n end taken follows next more) =
    record { finding = Fewer; is = taken; after = onward bound held c block rest (suc n) end follows (record { d = d; now = now; n = n; next = next; more = more; count = refl }) }

audits-one : (bound : Option ℕ) (blocks : List Certificate) (held : List ℕ) (c : Netlist) (n m : ℕ) (e f : End) → Audits bound held c blocks n e → Audits bound held c blocks m f → (n ≡ m) × (e ≡ f)
audits-one bound [] held c n m e f p q = let one = viewed bound held c [] n e p in let other = viewed bound held c [] m f q in (one.0 ∙ sym other.0, one.1 ∙ sym other.1)
audits-one bound (block ∷ rest) held c n m e f p q =
    found-one bound held c block rest n m e f (λ now d i j a b before after. audits-one bound rest now d i j a b before after) (viewed bound held c (block ∷ rest) n e p) (viewed bound held c (block ∷ rest) m f q)

-- two audits of one list of blocks for one circuit are one
pub audit-one : (bound : Option ℕ) (held : List ℕ) (c : Netlist) (blocks : List Certificate) (a b : Audit) → IsAudit bound held c blocks a → IsAudit bound held c blocks b → a ≡ b
audit-one bound held c blocks a b p q =
    let same = cleaned-one held c p.first q.first p.kept q.kept p.now q.now blocks blocks p.cleaned q.cleaned refl in
    let P : List ℕ → Netlist → Type 0 = λ now d. Audits bound now d blocks b.confirmed b.end in
    let audits : P p.now p.first = subst (λ (now : List ℕ). P now p.first) (sym same.held) (subst (P q.now) (sym same.circuit) q.audits) in
    let ends = audits-one bound blocks p.now p.first a.confirmed b.confirmed a.end b.end p.audits audits in
    λ i. record { confirmed = ends.0 i; end = ends.1 i }

-- and so are those of two replays of what a circuit is merged to by one list of latches
pub merged-audit-one : (bound : Option ℕ) (held : List ℕ) (c : Netlist) (lines : List MergedLatch) (blocks : List Certificate) → MergedAuditLaw bound held c lines blocks
merged-audit-one bound held c lines blocks a b p q =
    let start = merges-one held c p.start q.start p.kept q.kept p.start_held q.start_held lines p.merges q.merges in
    let P : List ℕ → Netlist → Type 0 = λ now d. IsAudit bound now d blocks b.audit in
    let of_q : P q.start_held q.start = replay-audit bound q.start_held q.start blocks b q.of_start in
    let other : P p.start_held p.start = subst (λ (now : List ℕ). P now p.start) (sym start.held) (subst (P q.start_held) (sym start.circuit) of_q) in
    audit-one bound p.start_held p.start blocks a.audit b.audit (replay-audit bound p.start_held p.start blocks a p.of_start) other
