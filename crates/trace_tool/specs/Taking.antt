-- A trace that is read line by line.
use Rattle.std.specs.Prelude.{◌≡◌, ◌≢◌, ℕ, ◌<◌, List, length, Some}
use Rattle.flat_circuit.specs.Circuit.{Circuit}
use Rattle.trace_tool.specs.declared.extent.Extent.{Extent}
use Rattle.trace_tool.specs.declared.trace.Trace.{Trace}
use Rattle.trace_tool.specs.declared.trace.TraceFault.{TraceFault}
use Rattle.trace_tool.specs.declared.trace.TraceFault.TheVariants.{WrongLine, NoMemory}
use Rattle.trace_tool.specs.declared.line.Line.{Line}
use Rattle.trace_tool.specs.declared.line.Line.TheVariants.{Head, Delays, Bits, End}
use Rattle.trace_tool.specs.Trace.{pick_at, row_at, wires_at}
use Rattle.trace_tool.specs.Reading.{IsRight, IsWrongLine}

-- a row for each instance and each net
pub record AreLong (c : Circuit) (trace : Trace) : Type 0 where
  pub delays : length trace.delays ≡ length c.instances
  pub wires : length trace.wires ≡ length c.instances
  pub bits : length trace.bits ≡ length c.nets

-- the instance or the net of a line exists
abbrev pub IsLineOf : Circuit → Line → Type 0
IsLineOf c Head = Unit {0}
IsLineOf c (Delays k) = k < length c.instances
IsLineOf c (Bits n) = n < length c.nets
IsLineOf c End = Unit {0}

-- The line is right in the new trace, which says else what the old one does.
pub record IsTaken (e : Extent) (c : Circuit) (old new : Trace) (of : Line) (line : List ℕ) : Type 0 where
  pub right : IsRight e c new (Some of) (Some line)
  pub long : AreLong c new
  pub ticks : of ≢ Head → new.ticks ≡ old.ticks
  pub delays : (k : ℕ) → of ≢ Delays k → pick_at new k ≡ pick_at old k
  pub wires : (k : ℕ) → of ≢ Delays k → wires_at new k ≡ wires_at old k
  pub bits : (n : ℕ) → of ≢ Bits n → row_at new n ≡ row_at old n

-- The line is right in no trace of so many ticks as this one.
abbrev pub IsRefused : Extent → Circuit → Trace → Line → List ℕ → Type 0
IsRefused e c old of line =
    (t : Trace) → (of ≢ Head → t.ticks ≡ old.ticks) → IsRight e c t (Some of) (Some line) → ⊥

-- the fault is that of these lines
abbrev pub IsFault : Extent → Circuit → List (List ℕ) → TraceFault → Type 0
IsFault e c lines (WrongLine i) = IsWrongLine e c lines i
IsFault e c lines NoMemory = Unit {0}
