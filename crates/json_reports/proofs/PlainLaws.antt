-- What is printed has no float and nests a few levels, so that readers take it.
use Rattle.std.proofs.Common.{ℕ, ◌≡◌, ◌≤◌, suc, Bool, false, List, [], ◌∷◌, map, Option, Some, None, Result, Ok, Err, IfOk, refl, sym, subst, arith}
use Rattle.std.specs.Prelude.{codes}
use Rattle.std.proofs.Math.Nat.{max-le}
use Rattle.std.proofs.lemmas.Bool.{or_from}
use Rattle.reports.specs.declared.held_back.HeldBack.{HeldBack}
use Rattle.reports.specs.declared.remaining_counts.Remaining.{Remaining}
use Rattle.reports.specs.declared.statistics.Counts.{Counts}
use Rattle.reports.specs.declared.statistics.Statistics.{Statistics}
use Rattle.certificate_audits.specs.declared.outcome.End.{End}
use Rattle.counted_io.specs.Output.{Output}
use Rattle.lane_sim.specs.declared.difference.Place.{Place}
use Rattle.certificate_files.specs.declared.file.CertPart.{CertPart}
use Rattle.reports.specs.Audits.{last_end}
use Rattle.reports.specs.declared.agreement.Agreement.{Agreement}
use Rattle.reports.specs.declared.judgement.Judgement.{Judgement}
use Rattle.reports.specs.declared.agreement.Agreement.TheVariants.{Same, DiffersAt}
use Rattle.reports.specs.declared.batch.JobReport.{JobReport}
use Rattle.reports.specs.declared.batch.JobReport.TheVariants.{Done, Misread, NoMemory, NoSuchLatch, NoSuchName, NotShown, Refused}
use Rattle.merging_rounds.specs.declared.rounds.Rounds.{Rounds}
use Rattle.serde_json.specs.Data.{Data, null, string, object, Members, member, no_members, depth, items_depth, members_depth}
use Rattle.serde_json.specs.View.{items_of, view}
use Rattle.serde_json.specs.declared.value.Value.{Value}
use Rattle.serde_json.specs.Written.{has_float, items_have_float, members_have_float}
use Rattle.certificate_audits.specs.Ends.{block_objection_name, refused_latch}
use Rattle.json_reports.specs.Audits.{agreement_data, audit_data, block_data, latch_objection, merged_before, merged_data, objection_at}
use Rattle.json_reports.specs.Batches.{batch_data, job_data}
use Rattle.merged_circuits.specs.declared.counts.MergeCounts.{MergeCounts}
use Rattle.json_reports.specs.Counts.{circuit_data, map_data, merge_data, statistics_data}
use Rattle.json_reports.specs.Differences.{difference_data, shapes_data}
use Rattle.json_reports.specs.Faults.{fault_data, fault_offset}
use Rattle.json_reports.specs.Lines.{IsPlain, PrintsLine, PrintsMade}
use Rattle.json_reports.specs.Members.{count, array_of, or_null}
use Rattle.json_reports.specs.Refusals.{refusal_data}
use Rattle.json_reports.specs.Retimings.{merged_counts, networks_of, frame_data, held_back_data, retiming_data}
use Rattle.json_reports.specs.Timings.{frame_times_data, times_data}
use Rattle.json_reports.specs.declared.fault.Fault.{Fault}
use Rattle.json_reports.specs.declared.fault.Fault.TheVariants as faults
use Rattle.json_reports.specs.declared.printing.PrintError.{PrintError}
use Rattle.json_reports.specs.declared.refusal.Refusal.{Refusal}
use Rattle.json_reports.specs.declared.times.Times.{Times}
use Rattle.json_reports.specs.declared.counts.MapCounts.{MapCounts}
use Rattle.json_reports.specs.declared.counts.ReadLevels.{ReadLevels}

record Plain (n : ℕ) (d : Data) : Type 0 where
  whole : has_float d ≡ false
  nests : depth d ≤ n

record PlainMembers (n : ℕ) (ms : Members) : Type 0 where
  whole : members_have_float ms ≡ false
  nests : members_depth ms ≤ n

plain-none : {n : ℕ} → PlainMembers n no_members
plain-none = record { whole = refl; nests = omega arith }

plain-member : {n : ℕ} {k : List ℕ} {d : Data} {ms : Members} → Plain n d → PlainMembers n ms → PlainMembers n (member k d ms)
plain-member p q = record { whole = or_from _ _ p.whole q.whole; nests = max-le p.nests q.nests }

plain-object : {n : ℕ} {ms : Members} → PlainMembers n ms → Plain (suc n) (object ms)
plain-object p = record { whole = p.whole; nests = omega (arith, p.nests) }

plain-null : {n : ℕ} → Plain n null
plain-null = record { whole = refl; nests = omega arith }

plain-string : {n : ℕ} (s : List ℕ) → Plain n (string s)
plain-string s = record { whole = refl; nests = omega arith }

plain-count : {n : ℕ} (m : ℕ) → Plain n (count m)
plain-count m = record { whole = refl; nests = omega arith }

plain-or_null : {X : Type 0} {n : ℕ} (value : X → Data) → ((x : X) → Plain n (value x)) → (o : Option X) → Plain n (or_null value o)
plain-or_null value each None = plain-null
plain-or_null value each (Some x) = each x

floats-none : {X : Type 0} (n : ℕ) (value : X → Data) (xs : List X) → ((x : X) → Plain n (value x)) → items_have_float (items_of (map value xs)) ≡ false
floats-none n value [] each = refl
floats-none n value (x ∷ xs) each = let e = each x in or_from _ _ e.whole (floats-none n value xs each)

nests-most : {X : Type 0} (n : ℕ) (value : X → Data) (xs : List X) → ((x : X) → Plain n (value x)) → items_depth (items_of (map value xs)) ≤ n
nests-most n value [] each = omega arith
nests-most n value (x ∷ xs) each = let e = each x in max-le e.nests (nests-most n value xs each)

plain-array : {X : Type 0} {n : ℕ} (value : X → Data) (xs : List X) → ((x : X) → Plain n (value x)) → Plain (suc n) (array_of value xs)
plain-array {n = n} value xs each = let below = nests-most n value xs each in record { whole = floats-none n value xs each; nests = omega (arith, below) }

is_plain : {n : ℕ} {d : Data} → n ≤ 127 → Plain n d → IsPlain d
is_plain few p = record { whole = p.whole; nests = omega (arith, few, p.nests) }

plain-fault : (fault : Fault) → Plain 1 (fault_data fault)
plain-fault fault = plain-object (plain-member (plain-string _) (plain-member (plain-or_null count plain-count (fault_offset fault)) plain-none))

plain-circuit : {n : ℕ} (c : Counts) → Plain (suc n) (circuit_data c)
plain-circuit c = record { whole = refl; nests = omega arith }

-- each object is plain: of counts
pub statistics : (s : Statistics) (merged : Option MergeCounts) → IsPlain (statistics_data s merged)
statistics s None = record { whole = refl; nests = omega arith }
statistics s (Some counts) = record { whole = refl; nests = omega arith }

-- of a difference
pub difference : (found : Option Place) → IsPlain (difference_data found)
difference None = record { whole = refl; nests = omega arith }
difference (Some place) = record { whole = refl; nests = omega arith }

-- of circuits whose shapes differ
pub shapes : IsPlain shapes_data
shapes = record { whole = refl; nests = omega arith }

plain-frame : (f : _) → Plain 2 (frame_data f)
plain-frame f = record { whole = refl; nests = omega arith }

plain-times : (t : Times) → Plain 3 (times_data t)
plain-times t =
    plain-object (plain-member (plain-count t.cleaning) (plain-member (plain-array {n = 1} frame_times_data t.frames (λ f. record { whole = refl; nests = omega arith }))
    (plain-member (plain-count t.reading) (plain-member (plain-count t.writing) plain-none))))

plain-merge : (counts : MergeCounts) → Plain 3 (merge_data counts)
plain-merge counts = record { whole = refl; nests = omega arith }

plain-map : (counts : MapCounts) → Plain 3 (map_data counts)
plain-map counts = record { whole = refl; nests = omega arith }

plain-held_back : (h : HeldBack) (is_least : Bool) → Plain 3 (held_back_data h is_least)
plain-held_back h is_least =
    plain-object (plain-member (plain-count h.free) (plain-member (plain-count h.held) (plain-member record { whole = refl; nests = omega arith } (plain-member (plain-count h.passable)
    (plain-member (plain-count h.read_elsewhere) (plain-member (plain-or_null count plain-count h.too_long) plain-none))))))

-- of a retiming
pub retiming : (r : Rounds) (levels : ReadLevels) (left : Remaining) (times : Option Times) (mapped : Option MapCounts) → IsPlain (retiming_data r levels left times mapped)
retiming r levels left times mapped =
    is_plain {n = 4} (omega arith) (plain-object (plain-member (plain-circuit left.counts) (plain-member (plain-object (plain-member (plain-count r.read_latches) (plain-member (plain-or_null count plain-count levels.counted) plain-none)))
    (plain-member (plain-or_null count plain-count levels.bound) (plain-member (plain-string _) (plain-member (plain-array frame_data r.frames plain-frame) (plain-member (plain-array count r.kept_free plain-count) (plain-member (plain-held_back left.held_back left.is_least)
    (plain-member (plain-or_null map_data plain-map mapped) (plain-member (plain-or_null merge_data plain-merge (merged_counts r.parts)) (plain-member (plain-or_null times_data plain-times times)
    (plain-member (plain-or_null count plain-count (networks_of times)) (plain-member (plain-count 0) plain-none)))))))))))))

plain-agreement : {n : ℕ} (agreement : Agreement) → Plain (suc n) (agreement_data agreement)
plain-agreement Same = record { whole = refl; nests = omega arith }
plain-agreement (DiffersAt offset) = record { whole = refl; nests = omega arith }

plain-merged : (latches : ℕ) (end : End) → Plain 2 (merged_data latches end)
plain-merged latches end =
    plain-object (plain-member (plain-or_null count plain-count (refused_latch end)) (plain-member (plain-count latches) (plain-member (plain-or_null string plain-string (latch_objection end)) plain-none)))

plain-before : (merged : Option ℕ) (end : End) {ms : Members} → PlainMembers 2 ms → PlainMembers 2 (merged_before merged end ms)
plain-before None end p = p
plain-before (Some latches) end p = plain-member (plain-merged latches end) p

-- of an audit
pub audit : (parts : List CertPart) (j : Judgement) (status : ℕ) → IsPlain (audit_data parts j status)
audit parts j status =
    is_plain {n = 3} (omega arith) (plain-object (plain-member (plain-or_null count plain-count j.bound) (plain-member (plain-string _) (plain-member (plain-array block_data _ (λ b. plain-count b.count))
    (plain-member (plain-string _) (plain-before j.merged (last_end j.audits) (plain-member (plain-or_null (λ o. string (block_objection_name o)) (λ o. plain-string _) (objection_at (last_end j.audits)))
    (plain-member (plain-or_null agreement_data plain-agreement j.agreement) (plain-member (plain-count status) plain-none)))))))))

plain-job : (report : JobReport) → Plain 2 (job_data report)
plain-job (Done before after) = record { whole = refl; nests = omega arith }
plain-job (Refused fault) = plain-object (plain-member (plain-fault (faults.Circuit fault)) (plain-member {k = codes "latches"} plain-null plain-none))
plain-job NoMemory = record { whole = refl; nests = omega arith }
plain-job NoSuchName = record { whole = refl; nests = omega arith }
plain-job NoSuchLatch = record { whole = refl; nests = omega arith }
plain-job Misread = record { whole = refl; nests = omega arith }
plain-job NotShown = record { whole = refl; nests = omega arith }

-- of a batch
pub batch : (reports : List JobReport) (status : ℕ) → IsPlain (batch_data reports status)
batch reports status =
    is_plain {n = 4} (omega arith) (plain-object (plain-member (plain-string _) (plain-member (plain-array job_data reports plain-job) (plain-member (plain-count status) plain-none))))

-- of a refusal
pub refusal : (r : Refusal) → IsPlain (refusal_data r)
refusal r =
    is_plain {n = 2} (omega arith) (plain-object (plain-member (plain-string _) (plain-member (plain-fault r.fault) (plain-member (plain-or_null (λ name. string name.now) (λ name. plain-string _) r.latch)
    (plain-member (plain-or_null (λ path. string path.now) (λ path. plain-string _) r.path) (plain-member (plain-count r.status) plain-none))))))

-- what prints a value that was made prints what that is, where it is plain
pub prints_as : {T E : Type 0} {d : Data} (old new : Output) (made : Result Value E) (result : Result T PrintError)
    → IfOk made (λ v. view v ≡ d) → IsPlain d → PrintsMade made old new result → PrintsLine d old new result
prints_as old new (Ok value) result same plain prints = subst (λ x. PrintsLine x old new result) same (prints (subst IsPlain (sym same) plain))
prints_as {d = d} old new (Err error) result same plain prints = subst (λ r. PrintsLine d old new r) (sym prints.0) prints.1
