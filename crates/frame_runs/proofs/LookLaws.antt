-- What looks for a set tell of the set that is found, and of its certificate.
use Rattle.std.proofs.Common.{ℕ, ◌≡◌, ◌<◌, ◌≤◌, ◌++◌, List, [], ◌∷◌, Option, Some, None, arith, ap, sym, ◌∙◌, subst}
use Rattle.std.specs.Option.{IfSome, MatchOption}
use Rattle.aig_graph.specs.Chosen.{IsChosen}
use Rattle.aig_graph.specs.Circuits.{Netlist}
use Rattle.aig_graph.specs.Graph.{known_latches}
use Rattle.certificates.specs.declared.certificate.Certificate.{Certificate}
use Rattle.certificates.specs.declared.verdict.Verdict.TheVariants.{Yes}
use Rattle.certificates.specs.Verdicts.{IsVerdict}
use Rattle.chosen_cuts.specs.Certified.{AddsOne, ForgetsLast}
use Rattle.chosen_cuts.specs.declared.records.Records.{Records}
use Rattle.path_levels.specs.Arrivals.{IsChosenWithin, IsClosedWithin}
use Rattle.path_levels.specs.Bounded.{BoundedLaw, bounded}
use Rattle.path_levels.specs.Levels.{levels}
use Rattle.retimed_circuits.specs.Certified.{IsCertificate, Passes, passes_bounded, passes_whole}
use Rattle.retimed_circuits.specs.Frames.{IsFound, IsTooLong, count_over, found_whole, found_within, moved_over}
use Rattle.retimed_circuits.proofs.FoundLaws.{found-closed, none-helps, within-least}
use Rattle.frame_runs.specs.declared.helping.Helping.{Helping}
use Rattle.frame_runs.specs.declared.options.Options.{Options}
use Rattle.frame_runs.specs.Certified.{AddsFound}
use Rattle.frame_runs.specs.Found.{BreaksBound, Finds, Helps, IsFoundOver, IsLook, KeepsBound, IsSavingSet}
use Rattle.frame_runs.specs.Retiming.{IsHelpingSetBy, NoneHelpsBy}

-- what is found over a set saves latches
pub over-saves : (c : Netlist) (held s : List ℕ) (found : Option Helping) → IsFoundOver c held s found → IfSome found (λ h. IsSavingSet c held h.set)
over-saves c held s None over = tt
over-saves c held s (Some h) over = over.saves

module _ (options : Options) (held : List ℕ) (c : Netlist) where
  -- the chosen least set is the one that is found, if what is found over it keeps the bound
  found-first : (bound : Option ℕ) (set : List ℕ) (first : Option Helping) → IsChosen options.choice c held set → IsFoundOver c held set first
      → KeepsBound bound c held first → IsFound bound options.choice held c set
  found-first None set first chosen over keeps = chosen
  found-first (Some most) set None chosen over keeps = found_whole set chosen (λ fewer. absurd (omega (arith, over, fewer)))
  found-first (Some most) set (Some h) chosen over keeps =
      found_whole set chosen (λ fewer. subst (λ (s : List ℕ). levels (moved_over held c s) ≤ most) over.same keeps)

  -- if it breaks the bound, the chosen least set is too long
  too-long : (most : ℕ) (set : List ℕ) (first : Option Helping) → IsChosen options.choice c held set → IsFoundOver c held set first
      → BreaksBound most c held first → IsTooLong most options.choice held c set
  too-long most set None chosen over breaks = absurd breaks
  too-long most set (Some h) chosen over breaks = record {
    chosen = chosen;
    fewer = subst (λ (s : List ℕ). count_over held c s < known_latches c.aig) over.same over.saves.fewer;
    longer = subst (λ (s : List ℕ). most < levels (moved_over held c s)) over.same breaks;
  }

  -- what is found over the set that is found helps, and if nothing is, none helps
  helps-over : (bound : Option ℕ) (set : List ℕ) (found : Option Helping) → IsFound bound options.choice held c set → IsFoundOver c held set found
      → MatchOption found (NoneHelpsBy options bound held c) (Helps options bound held c)
  helps-over bound set None is over = none-helps bound options.choice held c set is over
  helps-over bound set (Some h) is over = record {
    set = record { found = subst (IsFound bound options.choice held c) (sym over.same) is; fewer = over.saves.fewer };
    prepared = over.prepared;
    report = over.report;
  }

  -- a set that helps saves latches
  pub helps-saves : (bound : Option ℕ) (set : List ℕ) → IsHelpingSetBy options bound held c set → IsSavingSet c held set
  helps-saves bound set helps = record { closed = found-closed bound options.choice held c set helps.found; fewer = helps.fewer }

  whole-passes : (bound : Option ℕ) (cert : Certificate) → IsVerdict c held cert Yes → Passes bound held c cert
  whole-passes None cert verdict = verdict
  whole-passes (Some most) cert verdict = passes_whole verdict

  -- its certificate is one of the set that is found
  adds-whole : (bound : Option ℕ) (set : List ℕ) (old new : Records) → IsFound bound options.choice held c set → AddsOne c held old new set
      → AddsFound options bound held c old new
  adds-whole bound set old new is adds = record {
    certify = adds.certify;
    added = λ yes.
        let one = adds.added yes in
        let cert : IsCertificate bound options.choice held c one.0 = record {
          found = subst (IsFound bound options.choice held c) (sym one.1.gates) is;
          counted = one.1.passes.3.of_border;
          passes = whole-passes bound one.0 one.1.passes;
        } in
        (one.0, cert, one.2);
    none = adds.none;
  }

  -- so is the one that is added in place of the first one, of a set that is chosen in the bounded
  -- circuit
  adds-within : (most : ℕ) (first set : List ℕ) (old mid less new : Records) → BoundedLaw most held c → IsClosedWithin most c.aig held set
      → IsFound (Some most) options.choice held c set → AddsOne c held old mid first → ForgetsLast mid less
      → AddsOne (bounded most held c) held less new set → AddsFound options (Some most) held c old new
  adds-within most first set old mid less new law closed is before forgets adds = record {
    certify = adds.certify ∙ forgets.certify ∙ before.certify;
    added = λ yes.
        let gone = before.added yes in
        let again : less.certificates.items ≡ old.certificates.items = forgets.others (before.certify ∙ yes) old.certificates.items gone.0 gone.2 in
        let one = adds.added (forgets.certify ∙ before.certify ∙ yes) in
        let gates : IsClosedWithin most c.aig held one.0.gates = subst (IsClosedWithin most c.aig held) (sym one.1.gates) closed in
        let cert : IsCertificate (Some most) options.choice held c one.0 = record {
          found = subst (IsFound (Some most) options.choice held c) (sym one.1.gates) is;
          counted = one.1.passes.3.of_border ∙ law.border one.0.gates gates;
          passes = passes_bounded one.1.passes;
        } in
        (one.0, cert, one.2 ∙ ap (λ (certs : List Certificate). certs ++ one.0 ∷ []) again);
    none = λ no. adds.none (forgets.certify ∙ before.certify ∙ no) ∙ forgets.none (before.certify ∙ no) ∙ before.none no;
  }

  -- what the first look finds stays if it keeps the bound
  pub finds-first : (bound : Option ℕ) (old new : Records) (first : Option Helping) → IsLook options.choice c c held old new first
      → KeepsBound bound c held first → Finds options bound held c old new first
  finds-first bound old new first look keeps =
      let is = found-first bound look.set first look.chosen look.over keeps in
      record { found = helps-over bound look.set first is look.over; adds = adds-whole bound look.set old new is look.adds }

  -- a set that is chosen in the bounded circuit is closed in the circuit itself
  pub bounded-closed : (most : ℕ) (set : List ℕ) → BoundedLaw most held c → IsChosen options.choice (bounded most held c) held set
      → IsClosedWithin most c.aig held set
  bounded-closed most set law chosen = (within-least most options.choice c held set ((law.chosen options.choice set).0 chosen)).closed

  -- else the second one finds one, in the bounded circuit
  pub finds-within : (most : ℕ) (set : List ℕ) (old mid less new : Records) (first found : Option Helping) → BoundedLaw most held c
      → IsLook options.choice c c held old mid first → BreaksBound most c held first → ForgetsLast mid less
      → IsChosen options.choice (bounded most held c) held set → AddsOne (bounded most held c) held less new set
      → IsFoundOver c held set found → Finds options (Some most) held c old new found
  finds-within most set old mid less new first found law look breaks forgets chosen adds over =
      let within : IsChosenWithin most options.choice c held set = (law.chosen options.choice set).0 chosen in
      let is : IsFound (Some most) options.choice held c set =
      found_within look.set set (too-long most look.set first look.chosen look.over breaks) within in
      record {
        found = helps-over (Some most) set found is over;
        adds = adds-within most look.set set old mid less new law (bounded-closed most set law chosen) is look.adds forgets adds;
      }
