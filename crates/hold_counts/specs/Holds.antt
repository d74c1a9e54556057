-- Latches that hold: while a literal is 1, the next value of such a latch is its own.
use Rattle.std.specs.Prelude.{ℕ, ◌+◌, ◌*◌, ◌%◌, ◌==◌, ◌&&◌, ◌||◌, Bool, not, List, length, count_by, Option, Some, None, if◌then◌else◌}
use Rattle.aig_graph.specs.declared.graph.Gate.{Gate}
use Rattle.aig_graph.specs.declared.graph.Latch.{Latch}
use Rattle.aig_graph.specs.Graph.{Graph, variable, variables_end, first_latch, latch_at, gate_at}
use Rattle.aig_graph.specs.Closed.{may_move}
use Rattle.aig_graph.specs.Marking.{has}
use Rattle.aig_graph.specs.Tables.{table}
use Rattle.hold_counts.specs.declared.counting.Holding.{Holding}

-- whether both are literals of one variable, with other signs
abbrev pub are_opposite : ℕ → ℕ → Bool
are_opposite a b = (variable a == variable b) && not (a == b)

-- whether a gate reads the opposite of a literal
abbrev pub reads_opposite : Gate → ℕ → Bool
reads_opposite gate lit = are_opposite gate.rhs0 lit || are_opposite gate.rhs1 lit

-- the fan-in of a gate beside a literal; 0 if the gate doesn't read that
abbrev pub beside : Gate → ℕ → ℕ
beside gate lit = if gate.rhs0 == lit then gate.rhs1 else (if gate.rhs1 == lit then gate.rhs0 else 0)

-- what selects a literal that the first of two sides reads; 0 if they are no sides of a choice, or
-- of an exclusive or
abbrev pub select_of : Gate → Gate → ℕ → ℕ
select_of first second lit = if reads_opposite second (beside first lit) && not (reads_opposite second lit) then beside first lit else 0

-- the first number, or the second one if that is 0
abbrev pub first_of : ℕ → ℕ → ℕ
first_of a b = if a == 0 then b else a

-- the gate that a literal negates
abbrev pub negated_gate : Graph → ℕ → Option Gate
negated_gate g lit = if lit % 2 == 1 then gate_at g (variable lit) else None

-- what selects a literal between two sides, whichever reads it
abbrev pub select_between : Option Gate → Option Gate → ℕ → ℕ
select_between (Some first) (Some second) lit = first_of (select_of first second lit) (select_of second first lit)
select_between (Some first) None lit = 0
select_between None second lit = 0

-- what selects a literal in the choice that a gate is the negation of
abbrev pub choice_select : Graph → Option Gate → ℕ → ℕ
choice_select g None lit = 0
choice_select g (Some outer) lit = select_between (negated_gate g outer.rhs0) (negated_gate g outer.rhs1) lit

-- what selects the value of the latch v in the literal of u that is negated if sign is odd
unfoldable pub chosen_by : Graph → ℕ → ℕ → ℕ → ℕ
chosen_by g v u sign = choice_select g (gate_at g u) (2 * v + (sign + 1) % 2)

-- what selects it in a fan-in of the gate that its next literal is
unfoldable pub chosen_beside : Graph → ℕ → ℕ → Option Gate → ℕ
chosen_beside g v next None = 0
chosen_beside g v next (Some gate) = first_of (chosen_by g v (variable gate.rhs0) (gate.rhs0 + next)) (chosen_by g v (variable gate.rhs1) (gate.rhs1 + next))

-- what the latch v with this next literal holds by; 0 if it doesn't
unfoldable pub hold_of : Graph → ℕ → ℕ → ℕ
hold_of g v next = first_of (chosen_by g v (variable next) next) (chosen_beside g v next (gate_at g (variable next)))

-- so of a latch, if there is one
abbrev pub latch_hold : Graph → ℕ → Option Latch → ℕ
latch_hold g v None = 0
latch_hold g v (Some latch) = hold_of g v latch.next

-- so of the latch at a variable, if it may move
abbrev pub hold_at : Graph → List ℕ → ℕ → ℕ
hold_at g held v = if may_move g held v then latch_hold g v (latch_at g v) else 0

-- what each latch holds by
abbrev pub holds : Graph → List ℕ → List ℕ
holds g held = table (first_latch g) (length g.latches) (hold_at g held)

-- whether it is a hold
abbrev pub is_hold : ℕ → Bool
is_hold hold = not (hold == 0)

-- how many latches hold that may move, and the number of their holds
unfoldable pub holding : Graph → List ℕ → Holding
holding g held = record {
  latches = count_by is_hold (holds g held);
  classes = count_by (λ mark. mark) (table 1 (2 * variables_end g) (has (holds g held)));
}
