use Rattle.std.proofs.Common.{sym, arith}
use Rattle.ascii_file.proofs.StateLaws.{is_inputs, is_latches, is_safety, is_sizes, is_liveness, is_gates, is_symbols}
use Rattle.aag_text.specs.Taking.{raw_of}
use Rattle.aag_text.proofs.sections.Sections.section.Goals as goal

pub returns-then-len-header : goal.returns-then-len-header
returns-then-len-header c = λ symbols. sym (is_inputs c.args.self.now.header (raw_of c.args.self.now symbols) (omega arith))

pub returns-then-len-header-2 : goal.returns-then-len-header-2
returns-then-len-header-2 c = λ symbols. sym (is_latches c.args.self.now.header (raw_of c.args.self.now symbols) (omega arith) (omega arith))

pub returns-then-safety_len-safety : goal.returns-then-safety_len-safety
returns-then-safety_len-safety c = λ symbols. sym (is_safety c.args.self.now.header (raw_of c.args.self.now symbols) (omega arith) (omega arith) (omega arith))

pub returns-then-sizes_len-header : goal.returns-then-sizes_len-header
returns-then-sizes_len-header c = λ symbols. sym (is_sizes c.args.self.now.header (raw_of c.args.self.now symbols) (omega arith) (omega arith) (omega arith) (omega arith))

pub returns-then-liveness_len-liveness : goal.returns-then-liveness_len-liveness
returns-then-liveness_len-liveness c =
    λ symbols. sym (is_liveness c.args.self.now.header (raw_of c.args.self.now symbols) (omega arith) (omega arith) (omega arith) (omega arith) (omega arith))

pub returns-then-len-header-3 : goal.returns-then-len-header-3
returns-then-len-header-3 c =
    λ symbols. sym (is_gates c.args.self.now.header (raw_of c.args.self.now symbols) (omega arith) (omega arith) (omega arith) (omega arith) (omega arith) (omega arith))

pub returns-else-len-header-3 : goal.returns-else-len-header-3
returns-else-len-header-3 c =
    λ symbols. sym (is_symbols c.args.self.now.header (raw_of c.args.self.now symbols) (omega arith) (omega arith) (omega arith) (omega arith) (omega arith) (omega arith))
