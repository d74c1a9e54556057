-- Audits, block after block.
use Rattle.std.proofs.Common.{ℕ, ◌+◌, ◌≡◌, ◌≢◌, ◌<◌, ◌≤◌, suc, List, [], ◌∷◌, length, drop, get_or, nat_eq, true, false, refl, arith, ap, sym, ◌∙◌, subst, Option, Some, None, Result, Ok, Err}
use Rattle.std.specs.Result.{IfOk}
use Rattle.std.specs.List.{All}
use Rattle.std.proofs.lemmas.List.{drop_all, drop_more, length-drop}
use Rattle.aig_graph.specs.Circuits.{IsNetlist, Netlist}
use Rattle.aig_graph.specs.Graph.{IsGraph, known_latches}
use Rattle.certificates.specs.declared.certificate.Certificate.{Certificate}
use Rattle.certificates.specs.declared.verdict.Verdict.TheVariants.{Yes}
use Rattle.certificates.proofs.RouteLaws.{yes-law}
use Rattle.retimed_circuits.specs.Certified.{passes_bounded, passes_whole}
use Rattle.path_levels.specs.Arrivals.{IsClosedWithin}
use Rattle.path_levels.specs.Bounded.{bounded}
use Rattle.path_levels.proofs.BoundedLaws.{bounded-law}
use Rattle.certificate_audits.specs.declared.outcome.Audit.{Audit}
use Rattle.certificate_audits.specs.declared.outcome.End.{End}
use Rattle.certificate_audits.specs.declared.outcome.End.TheVariants.{NoBlocks, Certified, Open, BlocksFollow, Objected, Misread, NotShown}
use Rattle.certificate_audits.specs.declared.moving.Stage.{Stage}
use Rattle.certificate_audits.specs.declared.outcome.Replay.{Replay}
use Rattle.certificate_audits.specs.Audits.{Audits, IsConfirmed, IsVerdictBy, Saves, IsNext, IsAudit, no_blocks, objected, open_end, certified_end, past_end, goes_on}
use Rattle.certificate_audits.specs.Findings.{EndsWith, GoesOn, IsLastOf}
use Rattle.certificate_audits.specs.Replays.{EndIn, IsLast, IsReplay, Replays, no_more, at_end, after_move}
use Rattle.certificate_audits.specs.Laws.{IsLeastIn, NoneSmallerIn, AreLeast, IsCertified, itself, last, move, narrowed}

-- a list whose length isn't 0 isn't empty
pub not-empty : {X : Type 0} (xs : List X) → nat_eq (length xs) 0 ≡ false → xs ≢ []
not-empty xs some none = let clash : nat_eq (length xs) 0 ≡ true = ap (λ (ys : List _). nat_eq (length ys) 0) none in absurd (cc)

filled : {X : Type 0} (xs : List X) → xs ≢ [] → 0 < length xs
filled [] some = absurd (some refl)
filled (x ∷ xs) some = omega arith

-- no more blocks are confirmed than there are
pub audits-within : (bound : Option ℕ) (held : List ℕ) (c : Netlist) (blocks : List Certificate) (n : ℕ) (end : End) → Audits bound held c blocks n end → n ≤ length blocks
audits-within bound _ _ _ _ _ (no_blocks held c) = omega arith
audits-within bound _ _ _ _ _ (objected held c block rest objection objects) = omega arith
audits-within bound _ _ _ _ _ (open_end held c block taken) = omega arith
audits-within bound _ _ _ _ _ (certified_end held c block none) = omega arith
audits-within bound _ _ _ _ _ (past_end held c block rest none follows) = omega arith
audits-within bound _ _ _ _ _ (goes_on held now c d block rest n end taken follows next more) = omega (arith, audits-within bound now d rest n end more)

-- The blocks below k are confirmed and saved latches. This is the circuit of the k-th one, with
-- these latches held. If there are blocks, there is a k-th.
pub record LeadsTo (bound : Option ℕ) (held : List ℕ) (first : Netlist) (blocks : List Certificate) (k : ℕ) (now : List ℕ) (circuit : Netlist) : Type 0 where
  -- the audit of the blocks from k on is, with k more confirmed, that of all blocks
  pub onward : (n : ℕ) (end : End) → Audits bound now circuit (drop k blocks) n end → Audits bound held first blocks (k + n) end
  -- the held latches are among the circuit's
  pub in_range : All (λ j. j < length circuit.aig.latches) now
  -- if there are blocks, there is one at place k
  pub another : 0 < length blocks → k < length blocks
  -- what the blocks from k on end in, all blocks end in
  pub makes : (e : Netlist) (later : List ℕ) → EndIn bound now circuit (drop k blocks) e later → EndIn bound held first blocks e later

-- before the first block the circuit is the first one
pub leads-first : (bound : Option ℕ) (held : List ℕ) (first : Netlist) (blocks : List Certificate) → All (λ j. j < length first.aig.latches) held → LeadsTo bound held first blocks 0 held first
leads-first bound held first blocks in_range = record {
  onward = λ n end audits. let same : n ≡ 0 + n = omega arith in subst (λ (m : ℕ). Audits bound held first blocks m end) same audits;
  in_range = in_range;
  another = λ some. some;
  makes = λ e there ends. ends;
}

-- the k-th block, and those after it
here : (blocks : List Certificate) (k : ℕ) (block : Certificate) → k < length blocks → block ≡ get_or blocks k block → drop k blocks ≡ block ∷ drop (k + 1) blocks
here blocks k block within there = drop_more blocks k block within ∙ ap (λ (b : Certificate). b ∷ drop (k + 1) blocks) (sym there)

-- a block that saves latches, and that others follow, leads on to the circuit that its move makes
pub leads-next : (bound : Option ℕ) (held now later : List ℕ) (first circuit d : Netlist) (blocks : List Certificate) (k : ℕ) (block : Certificate) → k < length blocks → block ≡ get_or blocks k block
    → GoesOn bound now circuit block (drop (k + 1) blocks) → IsNext now circuit block d later → All (λ j. j < length d.aig.latches) later
    → LeadsTo bound held first blocks k now circuit → LeadsTo bound held first blocks (k + 1) later d
leads-next bound held now later first circuit d blocks k block within there goes next in_range leads = record {
  onward = λ n end audits.
      let rest : List Certificate = drop (k + 1) blocks in
      let all : Audits bound now circuit (drop k blocks) (suc n) end =
      subst (λ (bs : List Certificate). Audits bound now circuit bs (suc n) end) (sym (here blocks k block within there)) (goes_on now later circuit d block rest n end goes.taken goes.follows next audits) in
      let same : k + suc n ≡ k + 1 + n = omega arith in
      subst (λ (m : ℕ). Audits bound held first blocks m end) same (leads.onward (suc n) end all);
  in_range = in_range;
  another = λ some. omega (arith, filled (drop (k + 1) blocks) goes.follows, length-drop (k + 1) blocks);
  makes = λ e last ends.
      let rest : List Certificate = drop (k + 1) blocks in
      leads.makes e last (subst (λ (bs : List Certificate). EndIn bound now circuit bs e last) (sym (here blocks k block within there)) (after_move now later last circuit d e block rest goes.taken next ends));
}

-- what the audit finds from this block on ends, with k more confirmed, the audit of all blocks
pub ends-at : (bound : Option ℕ) (held now : List ℕ) (first circuit : Netlist) (blocks : List Certificate) (k : ℕ) (block : Certificate) (n : ℕ) (end : End) → k < length blocks
    → block ≡ get_or blocks k block → Audits bound now circuit (block ∷ drop (k + 1) blocks) n end → LeadsTo bound held first blocks k now circuit → Audits bound held first blocks (k + n) end
ends-at bound held now first circuit blocks k block n end within there audits leads =
    leads.onward n end (subst (λ (bs : List Certificate). Audits bound now circuit bs n end) (sym (here blocks k block within there)) audits)

-- the loop ends by itself only if there is no block
pub none-left : (bound : Option ℕ) (held now : List ℕ) (first circuit : Netlist) (blocks : List Certificate) (k : ℕ) → length blocks ≤ k → LeadsTo bound held first blocks k now circuit → Audits bound held first blocks 0 NoBlocks
none-left bound held now first circuit [] k past leads = no_blocks held first
none-left bound held now first circuit (block ∷ rest) k past leads = absurd (omega (arith, past, leads.another (omega arith)))

-- ---- what blocks end in

-- what ends with a block of c is an audit of it and of those after it
pub ends-audits : (bound : Option ℕ) (held : List ℕ) (c : Netlist) (block : Certificate) (rest : List Certificate) (n : ℕ) (end : End) → EndsWith bound held c block rest n end → Audits bound held c (block ∷ rest) n end
ends-audits bound held c block rest n NoBlocks p = absurd p
ends-audits bound held c block rest n (Objected objection) p = subst (λ (m : ℕ). Audits bound held c (block ∷ rest) m (Objected objection)) (sym p.0) (objected held c block rest objection p.1)
ends-audits bound held c block rest n Open p =
    let P : ℕ → List Certificate → Type 0 = λ m bs. Audits bound held c (block ∷ bs) m Open in subst (λ (m : ℕ). P m rest) (sym p.0) (subst (P 1) (sym p.2) (open_end held c block p.1))
ends-audits bound held c block rest n Certified p =
    let P : ℕ → List Certificate → Type 0 = λ m bs. Audits bound held c (block ∷ bs) m Certified in subst (λ (m : ℕ). P m rest) (sym p.0) (subst (P 1) (sym p.2) (certified_end held c block p.1))
ends-audits bound held c block rest n BlocksFollow p = subst (λ (m : ℕ). Audits bound held c (block ∷ rest) m BlocksFollow) (sym p.0) (past_end held c block rest p.1 p.2)
ends-audits bound held c block rest n (Misread latch) p = absurd p
ends-audits bound held c block rest n (NotShown latch) p = absurd p

-- and the circuit at which it ends is what the block and those after it end in
pub ends-last : (bound : Option ℕ) (held : List ℕ) (c : Netlist) (block : Certificate) (rest : List Certificate) (n : ℕ) (end : End) (made : Option Stage) → EndsWith bound held c block rest n end
    → IsLastOf held c block end made → IsLast bound held c (block ∷ rest) end made
ends-last bound held c block rest n NoBlocks made p is = absurd p
ends-last bound held c block rest n Open (Some s) p is =
    let d : Netlist = s.circuit in after_move held s.keep s.keep c d d block rest p.1 is (subst (λ (bs : List Certificate). EndIn bound s.keep d bs d s.keep) (sym p.2) (no_more s.keep d))
ends-last bound held c block rest n Open None p is = is
ends-last bound held c block rest n Certified (Some s) p is =
    let P : List Certificate → Netlist → List ℕ → Type 0 = λ bs e js. EndIn bound held c (block ∷ bs) e js in
    subst (λ (e : Netlist). P rest e s.keep) (sym is.0) (subst (λ (js : List ℕ). P rest c js) (sym is.1) (subst (λ (bs : List Certificate). P bs c held) (sym p.2) (at_end held c block p.1)))
ends-last bound held c block rest n Certified None p is = is
ends-last bound held c block rest n BlocksFollow (Some s) p is = absurd is
ends-last bound held c block rest n BlocksFollow None p is = is
ends-last bound held c block rest n (Objected objection) (Some s) p is = absurd is
ends-last bound held c block rest n (Objected objection) None p is = is
ends-last bound held c block rest n (Misread latch) made p is = absurd p
ends-last bound held c block rest n (NotShown latch) made p is = absurd p

-- what the blocks from k on end in, all blocks end in, if nothing speaks against one
all-last : (bound : Option ℕ) (held now : List ℕ) (first circuit : Netlist) (blocks : List Certificate) (k : ℕ) (block : Certificate) (end : End) (made : Option Stage) → k < length blocks
    → block ≡ get_or blocks k block → LeadsTo bound held first blocks k now circuit → IsLast bound now circuit (block ∷ drop (k + 1) blocks) end made → IsLast bound held first blocks end made
all-last bound held now first circuit blocks k block end None within there leads is = is
all-last bound held now first circuit blocks k block end (Some s) within there leads is =
    leads.makes s.circuit s.keep (subst (λ (bs : List Certificate). EndIn bound now circuit bs s.circuit s.keep) (sym (here blocks k block within there)) is)

-- a replay that ends with the k-th block is that of all blocks
replays-at : (bound : Option ℕ) (held now : List ℕ) (first circuit : Netlist) (blocks : List Certificate) (k : ℕ) (block : Certificate) (n : ℕ) (end : End) (replay : Replay) → k < length blocks
    → block ≡ get_or blocks k block → EndsWith bound now circuit block (drop (k + 1) blocks) n end → LeadsTo bound held first blocks k now circuit
    → replay.audit ≡ record { confirmed = k + n; end = end } → IsLastOf now circuit block end replay.last → Replays bound held first blocks replay
replays-at bound held now first circuit blocks k block n end replay within there ends leads found made =
    let rest : List Certificate = drop (k + 1) blocks in
    let audits : Audits bound held first blocks (k + n) end = ends-at bound held now first circuit blocks k block n end within there (ends-audits bound now circuit block rest n end ends) leads in
    let is : IsLast bound held first blocks end replay.last = all-last bound held now first circuit blocks k block end replay.last within there leads (ends-last bound now circuit block rest n end replay.last ends made) in
    record {
      audits = subst (λ (a : Audit). Audits bound held first blocks a.confirmed a.end) (sym found) audits;
      last = subst (λ (a : Audit). IsLast bound held first blocks a.end replay.last) (sym found) is;
    }

-- the replay of one that was made, unless memory was wanting
pub replayed-at : {E : Type 0} (bound : Option ℕ) (held now : List ℕ) (first circuit : Netlist) (blocks : List Certificate) (k : ℕ) (block : Certificate) (n : ℕ) (end : End) (result : Result Replay E) → k < length blocks
    → block ≡ get_or blocks k block → EndsWith bound now circuit block (drop (k + 1) blocks) n end → LeadsTo bound held first blocks k now circuit
    → IfOk result (λ replay. replay.audit ≡ record { confirmed = k + n; end = end }) → IfOk result (λ replay. IsLastOf now circuit block end replay.last)
    → IfOk result (Replays bound held first blocks)
replayed-at bound held now first circuit blocks k block n end (Ok replay) within there ends leads found made = replays-at bound held now first circuit blocks k block n end replay within there ends leads found made
replayed-at bound held now first circuit blocks k block n end (Err error) within there ends leads found made = tt

-- if there is no block, they end in the circuit
pub replays-none : (bound : Option ℕ) (held now : List ℕ) (first circuit : Netlist) (blocks : List Certificate) (k : ℕ) (made : Stage) → made.circuit ≡ circuit → made.keep ≡ now → length blocks ≤ k → LeadsTo bound held first blocks k now circuit
    → Replays bound held first blocks (record { audit = record { confirmed = 0; end = NoBlocks }; last = Some made })
replays-none bound held now first circuit blocks k made same stand past leads = record {
  audits = none-left bound held now first circuit blocks k past leads;
  last = subst (λ (d : Netlist). EndIn bound held first blocks d made.keep) (sym same)
      (subst (λ (js : List ℕ). EndIn bound held first blocks circuit js) (sym stand)
      (leads.makes circuit now (subst (λ (bs : List Certificate). EndIn bound now circuit bs circuit now) (sym (drop_all k blocks past)) (no_more now circuit))));
}

-- if the audit is open, the block that ended it saves latches
pub still-saves : (bound : Option ℕ) (held : List ℕ) (c : Netlist) (block : Certificate) (rest : List Certificate) (n : ℕ) (end : End) → EndsWith bound held c block rest n end → end ≡ Open → Saves bound held c block
still-saves bound held c block rest n end ends is_open = let is : EndsWith bound held c block rest n Open = subst (λ (e : End). EndsWith bound held c block rest n e) is_open ends in is.1.saves

-- the audit of a replay
pub replay-audit : (bound : Option ℕ) (held : List ℕ) (c : Netlist) (blocks : List Certificate) (replay : Replay) → IsReplay bound held c blocks replay → IsAudit bound held c blocks replay.audit
replay-audit bound held c blocks replay is = record { first = is.first; kept = is.kept; now = is.now; cleaned = is.cleaned; audits = is.replays.audits }

-- ---- what an audit shows

-- a block that passes has a set that is closed in c, and the count of that
pub confirmed-by : (bound : Option ℕ) (held : List ℕ) (c : Netlist) (block : Certificate) → IsGraph c.aig → IsNetlist c → IsVerdictBy bound held c block Yes → IsConfirmed bound held c block
confirmed-by None held c block graph netlist v = record { passes = v; closed = v.0; counted = v.3.of_border }
confirmed-by (Some bound) held c block graph netlist (passes_whole v) = record { passes = passes_whole v; closed = v.0; counted = v.3.of_border }
confirmed-by (Some bound) held c block graph netlist (passes_bounded v) =
    let law = bounded-law bound held c graph netlist in
    let within : IsClosedWithin bound c.aig held block.gates = (law.closed block.gates).0 v.0 in
    record { passes = passes_bounded v; closed = within.closed; counted = v.3.of_border ∙ law.border block.gates within }

-- and that is a least set of c, or of c bounded
least-in : (bound : Option ℕ) (held : List ℕ) (c : Netlist) (block : Certificate) → IsVerdictBy bound held c block Yes → (d : Netlist) × IsLeastIn bound held c d block
least-in None held c block v = let shown = yes-law c held block v in (c, record { searched = itself None; least = shown.0; counted = shown.1 })
least-in (Some bound) held c block (passes_whole v) =
    let shown = yes-law c held block v in (c, record { searched = itself (Some bound); least = shown.0; counted = shown.1 })
least-in (Some bound) held c block (passes_bounded v) =
    let shown = yes-law (bounded bound held c) held block v in
    (bounded bound held c, record { searched = narrowed bound; least = shown.0; counted = shown.1 })

none-smaller : (bound : Option ℕ) (held : List ℕ) (c d : Netlist) (block : Certificate) → IsLeastIn bound held c d block → known_latches c.aig ≤ block.count → NoneSmallerIn held c d
none-smaller bound held c d block shown many r closed = let least = shown.least.least r closed in omega (arith, least, shown.counted, many)

certified : (bound : Option ℕ) (held : List ℕ) (c : Netlist) (blocks : List Certificate) (n : ℕ) (end : End) → Audits bound held c blocks n end → end ≡ Certified → (n ≡ length blocks) × AreLeast bound held c blocks
certified bound _ _ _ _ _ (no_blocks held c) e = absurd (cc)
certified bound _ _ _ _ _ (objected held c block rest objection objects) e = absurd (cc)
certified bound _ _ _ _ _ (open_end held c block taken) e = absurd (cc)
certified bound _ _ _ _ _ (certified_end held c block none) e = (
    let shown = least-in bound held c block none.confirmed.passes in
    (refl, last held c shown.0 block shown.1 (none-smaller bound held c shown.0 block shown.1 none.no_fewer)))
certified bound _ _ _ _ _ (past_end held c block rest none follows) e = absurd (cc)
certified bound _ _ _ _ _ (goes_on held now c d block rest n end taken follows next more) e =
    let after = certified bound now d rest n end more e in
    let shown = least-in bound held c block taken.saves.confirmed.passes in
    (ap suc after.0, move held now c shown.0 d block rest shown.1 taken.saves.fewer taken.keeps next after.1)

-- an audit that ends certified has confirmed all blocks, each with a least set, of which the last
-- saves no latch
pub certified-law : (bound : Option ℕ) (held : List ℕ) (c : Netlist) (blocks : List Certificate) (audit : Audit) → IsAudit bound held c blocks audit → audit.end ≡ Certified → IsCertified bound held c blocks audit
certified-law bound held c blocks audit is e =
    let shown = certified bound is.now is.first blocks audit.confirmed audit.end is.audits e in
    record { all_confirmed = shown.0; first = is.first; kept = is.kept; now = is.now; cleaned = is.cleaned; least = shown.1 }
