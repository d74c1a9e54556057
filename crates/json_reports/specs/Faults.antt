-- The names of faults, and their offsets.
use Rattle.std.specs.Prelude.{ℕ, List, Option, None, codes}
use Rattle.file_words.specs.Codes as circuits
use Rattle.lane_sim.specs.Codes as stimuli
use Rattle.circuit_files.specs.ListCodes as lists
use Rattle.certificate_files.specs.Codes as certificates
use Rattle.witnesses.specs.Codes as witnesses
use Rattle.serde_json.specs.Data.{Data, string, object, member, no_members}
use Rattle.json_reports.specs.Members.{count, or_null}
use Rattle.json_reports.specs.declared.fault.Fault.{Fault}
use Rattle.json_reports.specs.declared.fault.Fault.TheVariants.{Circuit, Stimulus, FileList, Certificates, Witness, NoSuchName, NoSuchLatch, Misread, NotShown, TooManyNodes, TooManySteps, NotAMap, NoSuchLiteral, Device}

-- the name of a fault of any kind of file
abbrev pub fault_name : Fault → List ℕ
fault_name (Circuit fault) = circuits.name_of fault
fault_name (Stimulus fault) = stimuli.name_of fault
fault_name (FileList fault) = lists.name_of fault
fault_name (Certificates fault) = certificates.name_of fault
fault_name (Witness fault) = witnesses.name_of fault
fault_name NoSuchName = codes "NoSuchName"
fault_name NoSuchLatch = codes "NoSuchLatch"
fault_name Misread = codes "Misread"
fault_name NotShown = codes "NotShown"
fault_name TooManyNodes = codes "TooManyNodes"
fault_name TooManySteps = codes "TooManySteps"
fault_name NotAMap = codes "NotAMap"
fault_name NoSuchLiteral = codes "NoSuchLiteral"
fault_name Device = codes "Device"

-- the offset of a fault, if it has one
abbrev pub fault_offset : Fault → Option ℕ
fault_offset (Circuit fault) = circuits.offset_of fault
fault_offset (Stimulus fault) = stimuli.offset_of fault
fault_offset (FileList fault) = lists.offset_of fault
fault_offset (Certificates fault) = certificates.offset_of fault
fault_offset (Witness fault) = witnesses.offset_of fault
fault_offset NoSuchName = None
fault_offset NoSuchLatch = None
fault_offset Misread = None
fault_offset NotShown = None
fault_offset TooManyNodes = None
fault_offset TooManySteps = None
fault_offset NotAMap = None
fault_offset NoSuchLiteral = None
fault_offset Device = None

abbrev pub fault_data : Fault → Data
fault_data fault = object (member (codes "name") (string (fault_name fault)) (member (codes "offset") (or_null count (fault_offset fault)) no_members))
