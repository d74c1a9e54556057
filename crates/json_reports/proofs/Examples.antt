-- The lines of worked reports, computed.
use Rattle.std.proofs.Common.{◌≡◌, [], ◌∷◌, Some, None, true, refl}
use Rattle.std.specs.Prelude.{ℕ, List, codes}
use Rattle.std.specs.Borrow.{Bor}
use Rattle.std.specs.Fmt.{digits}
use Rattle.file_words.specs.declared.fault.ReadError.TheVariants.{BadHeader}
use Rattle.reports.specs.declared.agreement.Agreement.TheVariants.{DiffersAt}
use Rattle.reports.specs.declared.batch.JobReport.TheVariants.{Done, Refused}
use Rattle.certificates.specs.declared.verdict.Objection.TheVariants.{BadRoute}
use Rattle.certificate_audits.specs.declared.outcome.BlockObjection.TheVariants.{Fails}
use Rattle.certificate_audits.specs.declared.outcome.End.TheVariants.{NoBlocks, NotShown, Objected}
use Rattle.reports.specs.declared.remaining_counts.Remaining.{Remaining}
use Rattle.reports.specs.declared.statistics.Counts.{Counts}
use Rattle.aig_graph.specs.Circuits.{Netlist}
use Rattle.aig_graph.specs.declared.graph.Reset.TheVariants.{Zero}
use Rattle.serde_json.proofs.OnLiterals.{serde_json_on_literals}
use Rattle.json_reports.specs.Audits.{audit_data, confirmed_blocks}
use Rattle.json_reports.specs.Batches.{batch_data}
use Rattle.json_reports.specs.Counts.{statistics_data}
use Rattle.json_reports.specs.Differences.{difference_data}
use Rattle.json_reports.specs.Lines.{json_line}
use Rattle.json_reports.specs.Refusals.{refusal_data}
use Rattle.json_reports.specs.Retimings.{retiming_data}
use Rattle.json_reports.specs.declared.fault.Fault.TheVariants.{NoSuchName}

-- two inputs, a latch after each, and a gate that reads both
abbrev two_latches : Counts
two_latches = record { inputs = 2; latches = 2; free = 0; known = 2; gates = 1; levels = 1; outputs = 1; bad = 0; constraints = 0; justice = 0; fairness = 0 }

same_example : json_line (difference_data None) ≡ codes "{\"command\":\"same\",\"difference\":null,\"result\":\"Same\",\"status\":0}\n"
unfolding serde_json_on_literals digits
same_example = refl

differ_example : json_line (difference_data (Some (record { sequence = 0; step = 13; place = 1 })))
    ≡ codes "{\"command\":\"same\",\"difference\":{\"place\":1,\"sequence\":0,\"step\":13},\"result\":\"Differ\",\"status\":5}\n"
unfolding serde_json_on_literals digits
differ_example = refl

stat_example : json_line (statistics_data (record { counts = two_latches; passable = 1 }) None)
    ≡ codes "{\"circuit\":{\"bad\":0,\"constraints\":0,\"fairness\":0,\"free\":0,\"gates\":1,\"inputs\":2,\"justice\":0,\"known\":2,\"latches\":2,\"levels\":1,\"outputs\":1},\"command\":\"stat\",\"merged\":null,\"passable\":1,\"status\":0}\n"
unfolding serde_json_on_literals digits
stat_example = refl

audit_example : json_line (audit_data [] (record { bound = Some 3; merged = None; audits = record { confirmed = 0; end = Objected (Fails BadRoute) } ∷ []; agreement = None }) 5)
    ≡ codes "{\"bound\":3,\"command\":\"verify\",\"counts\":[],\"end\":\"Objected\",\"objection\":\"BadRoute\",\"out\":null,\"status\":5}\n"
unfolding serde_json_on_literals digits confirmed_blocks
audit_example = refl

compared_example : json_line (audit_data [] (record { bound = None; merged = None; audits = record { confirmed = 0; end = NoBlocks } ∷ []; agreement = Some (DiffersAt 17) }) 5)
    ≡ codes "{\"bound\":null,\"command\":\"verify\",\"counts\":[],\"end\":\"NoBlocks\",\"objection\":null,\"out\":{\"offset\":17,\"result\":\"Differs\"},\"status\":5}\n"
unfolding serde_json_on_literals digits confirmed_blocks
compared_example = refl

merged_example : json_line (audit_data [] (record { bound = None; merged = Some 2; audits = record { confirmed = 0; end = NoBlocks } ∷ []; agreement = None }) 0)
    ≡ codes "{\"bound\":null,\"command\":\"verify\",\"counts\":[],\"end\":\"NoBlocks\",\"merged\":{\"latch\":null,\"latches\":2,\"objection\":null},\"objection\":null,\"out\":null,\"status\":0}\n"
unfolding serde_json_on_literals digits confirmed_blocks
merged_example = refl

refused_example : json_line (audit_data [] (record { bound = None; merged = Some 2; audits = record { confirmed = 0; end = NotShown 7 } ∷ []; agreement = None }) 5)
    ≡ codes "{\"bound\":null,\"command\":\"verify\",\"counts\":[],\"end\":\"NotShown\",\"merged\":{\"latch\":7,\"latches\":2,\"objection\":\"NotShown\"},\"objection\":null,\"out\":null,\"status\":5}\n"
unfolding serde_json_on_literals digits confirmed_blocks
refused_example = refl

batch_example : json_line (batch_data (Done 2 1 ∷ Refused (BadHeader 0) ∷ []) 1)
    ≡ codes "{\"command\":\"batch\",\"files\":[{\"fault\":null,\"latches\":{\"after\":1,\"before\":2}},{\"fault\":{\"name\":\"BadHeader\",\"offset\":0},\"latches\":null}],\"status\":1}\n"
unfolding serde_json_on_literals digits
batch_example = refl

-- one latch after the gate, in place of the two
abbrev one_latch : Netlist
one_latch = record {
  aig = record {
    inputs = 2;
    latches = record { next = 8; reset = Zero } ∷ [];
    gates = record { rhs0 = 4; rhs1 = 2 } ∷ [];
  };
  props = record { outputs = 6 ∷ []; bad = []; constraints = []; justice = []; fairness = [] };
  symbols = record { inputs = []; latches = []; outputs = []; bad = []; constraints = []; justice = []; fairness = [] };
}

-- nothing is passable any more, and a next literal reads the gate
abbrev one_left : Remaining
one_left = record {
  counts = record two_latches { latches = 1; known = 1 };
  held_back = record { free = 0; held = 0; read_elsewhere = 1; too_long = Some 0; passable = 0 };
  is_least = true;
}

-- A round merges a constant latch and takes a frame, and another merges a latch.
retime_example : json_line (retiming_data (record {
  circuit = one_latch;
  kept_free = [];
  read_latches = 4;
  frames = record { before = 3; after = 2; moved = 1 } ∷ [];
  parts = record { merged = Some (record { latch = 3; reads = 0 } ∷ []); blocks = [] } ∷ record { merged = Some (record { latch = 4; reads = 6 } ∷ []); blocks = [] } ∷ [];
}) (record { counted = Some 1; bound = Some 2 }) one_left (Some (record { reading = 120; cleaning = 7; frames = record { looking = 40; moving = 5 } ∷ record { looking = 3; moving = 0 } ∷ []; writing = 60; networks = 0 })) (Some (record { gates = 3; constraints = 2 })))
    ≡ codes "{\"after\":{\"bad\":0,\"constraints\":0,\"fairness\":0,\"free\":0,\"gates\":1,\"inputs\":2,\"justice\":0,\"known\":1,\"latches\":1,\"levels\":1,\"outputs\":1},\"before\":{\"latches\":4,\"levels\":1},\"bound\":2,\"command\":\"retime\",\"frames\":[{\"after\":2,\"before\":3,\"gates\":1}],\"free_kept\":[],\"held_back\":{\"free\":0,\"held\":0,\"least\":true,\"passable\":0,\"read_elsewhere\":1,\"too_long\":0},\"map\":{\"constraints\":2,\"gates\":3},\"merged\":{\"constant\":1,\"latches\":2},\"microseconds\":{\"cleaning\":7,\"frames\":[{\"looking\":40,\"moving\":5},{\"looking\":3,\"moving\":0}],\"reading\":120,\"writing\":60},\"network\":0,\"status\":0}\n"
unfolding serde_json_on_literals digits
retime_example = refl

-- a quotation mark in a name is escaped
refusal_example : (text : Bor (List ℕ)) → json_line (refusal_data (record { command = record text { now = codes "retime" }; fault = NoSuchName; latch = Some (record text { now = codes "a\"b" }); path = Some (record text { now = codes "in.aag" }); status = 1 }))
    ≡ codes "{\"command\":\"retime\",\"fault\":{\"name\":\"NoSuchName\",\"offset\":null},\"latch\":\"a\\\"b\",\"path\":\"in.aag\",\"status\":1}\n"
unfolding serde_json_on_literals digits
refusal_example text = refl
