-- The levels of a run, and the commands that say when they change.
use Rattle.std.specs.Prelude.{ℕ, zero, suc, ◌+◌, ◌-◌, ◌||◌, not, Bool, false, List, [], ◌∷◌, ◌++◌, codes, decimal, slice_index_or, if◌then◌else◌}
use Rattle.std.specs.List.{concat, flat_map, list_any}
use Rattle.std.specs.Bool.{beq}
use Rattle.flat_circuit.specs.Name.{net_at}
use Rattle.flat_circuit.specs.Circuit.{Circuit}
use Rattle.trace_tool.specs.declared.stretch.Stretch.{Stretch}
use Rattle.trace_tool.specs.Variable.{code_of}

-- the bit of the net at a place at a tick
abbrev pub level : Circuit → List (List Bool) → ℕ → ℕ → Bool
level c rows place t = slice_index_or (slice_index_or rows (net_at c.order place) []) t false

-- so many bits from a place on, the highest first
abbrev pub levels : Circuit → List (List Bool) → ℕ → ℕ → ℕ → List Bool
levels c rows t place zero = []
levels c rows t place (suc n) = level c rows (place + n) t ∷ levels c rows t place n

-- whether one of them is another than at the tick before
abbrev pub change : Circuit → List (List Bool) → ℕ → ℕ → ℕ → Bool
change c rows t place zero = false
change c rows t place (suc n) =
    not (beq (level c rows (place + n) t) (level c rows (place + n) (t - 1)))
    || change c rows t place n

-- ---- commands

-- what follows stands at this time; values from here on are those at the start; there end; the
-- variable of this code has these bits, the highest first
pub data Command : Type 0 where
  Time : ℕ → Command
  Start : Command
  End : Command
  Value : List ℕ → List Bool → Command

abbrev pub digit_text : Bool → List ℕ
digit_text one = if one then codes "1" else codes "0"

abbrev pub vector_text : List ℕ → List Bool → List ℕ
vector_text code bits =
    concat (codes "b" ∷ flat_map digit_text bits ∷ codes " " ∷ code ∷ codes "\n" ∷ [])

abbrev pub value_text : List ℕ → List Bool → List ℕ
value_text code (one ∷ []) = concat (digit_text one ∷ code ∷ codes "\n" ∷ [])
value_text code bits = vector_text code bits

abbrev pub command_text : Command → List ℕ
command_text (Time t) = concat (codes "#" ∷ decimal t ∷ codes "\n" ∷ [])
command_text Start = codes "$dumpvars\n"
command_text End = codes "$end\n"
command_text (Value code bits) = value_text code bits

-- ---- the commands of a run

abbrev pub value_of : Circuit → List (List Bool) → ℕ → Stretch → Command
value_of c rows t s = Value (code_of s.number) (levels c rows t s.from (s.to - s.from))

abbrev pub steps : Circuit → List (List Bool) → ℕ → Stretch → Bool
steps c rows t s = change c rows t s.from (s.to - s.from)

-- those that change, and nothing of the others
abbrev pub value_if : Circuit → List (List Bool) → ℕ → Stretch → List Command
value_if c rows t s = if steps c rows t s then value_of c rows t s ∷ [] else []

-- a tick at which something changes
abbrev pub tick_commands : Circuit → List (List Bool) → List Stretch → ℕ → List Command
tick_commands c rows ss t =
    if list_any (steps c rows t) ss then Time t ∷ flat_map (value_if c rows t) ss else []

-- so many ticks from one on
abbrev pub later_commands : Circuit → List (List Bool) → List Stretch → ℕ → ℕ → List Command
later_commands c rows ss t zero = []
later_commands c rows ss t (suc n) =
    tick_commands c rows ss t ++ later_commands c rows ss (t + 1) n
