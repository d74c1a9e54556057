use Rattle.std.proofs.Common.{ℕ, ◌+◌, ◌*◌, ap₂, arith}
use Rattle.binary_file.proofs.CuttingLaws.{one_byte, two_bytes, three_bytes, four_bytes, five_bytes}
use Rattle.binary_file.proofs.delta.whole_delta.Goals as goal

pub returns-then-bytes-lt128 : goal.returns-then-bytes-lt128
returns-then-bytes-lt128 c = (omega arith, omega arith, one_byte c.args.bytes.now _ c.requires c.if-bytes-lt128.true c.group-first.ensures)

pub returns-then-bytes-lt128-2 : goal.returns-then-bytes-lt128-2
returns-then-bytes-lt128-2 c = (omega arith, omega arith, two_bytes c.args.bytes.now _ c.requires (omega (arith, c.if-bytes-lt128.false)) c.if-bytes-lt128-2.true (ap₂ (λ (m n : ℕ). m + 128 * n) c.group-first.ensures c.group-second.ensures))

pub returns-then-bytes-lt128-3 : goal.returns-then-bytes-lt128-3
returns-then-bytes-lt128-3 c = (omega arith, omega arith, three_bytes c.args.bytes.now _ c.requires (omega (arith, c.if-bytes-lt128.false)) (omega (arith, c.if-bytes-lt128-2.false)) c.if-bytes-lt128-3.true (ap₂ (λ (m n : ℕ). m + 128 * n) c.group-first.ensures (ap₂ (λ (m n : ℕ). m + 128 * n) c.group-second.ensures c.group-third.ensures)))

pub returns-then-bytes-lt128-4 : goal.returns-then-bytes-lt128-4
returns-then-bytes-lt128-4 c = (omega arith, omega arith, four_bytes c.args.bytes.now _ c.requires (omega (arith, c.if-bytes-lt128.false)) (omega (arith, c.if-bytes-lt128-2.false)) (omega (arith, c.if-bytes-lt128-3.false)) c.if-bytes-lt128-4.true (ap₂ (λ (m n : ℕ). m + 128 * n) c.group-first.ensures (ap₂ (λ (m n : ℕ). m + 128 * n) c.group-second.ensures (ap₂ (λ (m n : ℕ). m + 128 * n) c.group-third.ensures c.group-fourth.ensures))))

pub returns-then-bytes-lt128-5 : goal.returns-then-bytes-lt128-5
returns-then-bytes-lt128-5 c = (omega arith, omega arith, five_bytes c.args.bytes.now _ c.requires (omega (arith, c.if-bytes-lt128.false)) (omega (arith, c.if-bytes-lt128-2.false)) (omega (arith, c.if-bytes-lt128-3.false)) (omega (arith, c.if-bytes-lt128-4.false)) c.if-bytes-lt128-5.true (ap₂ (λ (m n : ℕ). m + 128 * n) c.group-first.ensures (ap₂ (λ (m n : ℕ). m + 128 * n) c.group-second.ensures (ap₂ (λ (m n : ℕ). m + 128 * n) c.group-third.ensures (ap₂ (λ (m n : ℕ). m + 128 * n) c.group-fourth.ensures c.group-fifth.ensures)))))
