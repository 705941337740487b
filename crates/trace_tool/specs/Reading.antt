-- Which texts are traces, and the first line of a text that is not one of a trace.
use Rattle.std.specs.Prelude.{◌≡◌, ◌≢◌, ℕ, ◌-◌, ◌<◌, ◌≤◌, List, [], ◌∷◌, ◌++◌, length, slice_get, Option, Some, None, ⊤}
use Rattle.std.specs.List.{All}
use Rattle.flat_circuit.specs.declared.instance.Instance.{Instance}
use Rattle.flat_circuit.specs.Split.{two_delays}
use Rattle.flat_circuit.specs.Circuit.{Circuit}
use Rattle.trace_sim.specs.Choice.{AreTraces, PickFits}
use Rattle.trace_tool.specs.declared.extent.Extent.{Extent}
use Rattle.trace_tool.specs.declared.trace.Trace.{Trace}
use Rattle.trace_tool.specs.declared.line.Line.{Line}
use Rattle.trace_tool.specs.declared.line.Line.TheVariants.{Head, Delays, Bits, End}
use Rattle.trace_tool.specs.Extent.{most_ticks}
use Rattle.trace_tool.specs.Scan.{AreSmall, again, picks_count, shown}
use Rattle.trace_tool.specs.Trace.{end_line, line_order, line_text, pick_at, row_at, text_of_lines, trace_lines, wires_at}

-- ---- where a trace ends in a text

-- a line has no byte 10
abbrev pub IsLine : List ℕ → Type 0
IsLine line = All (λ b. b ≢ 10) line

-- The lines of a trace end with the first that says so, and what follows it is the drawing.
pub record HasTrace (text : List ℕ) (lines : List (List ℕ)) (drawing : List ℕ) : Type 0 where
  pub before : List (List ℕ)
  pub are : lines ≡ before ++ end_line ∷ []
  pub each : All IsLine before
  pub none_ends : All (λ line. line ≢ end_line) before
  pub is : text ≡ text_of_lines lines ++ drawing

abbrev pub HasNoTrace : List ℕ → Type 0
HasNoTrace text = (lines : List (List ℕ)) (drawing : List ℕ) → HasTrace text lines drawing → ⊥

-- ---- traces of a circuit

-- Delays are those that a line says of an instance: none is above 4,095 ticks, and what the line
-- does not show of the pick is what it does, or 0 if it shows nothing.
pub record IsPlain (i : Instance) (pick : ℕ × ℕ) (wires : List ℕ) : Type 0 where
  pub delays_small : AreSmall (shown (picks_count i.kind (two_delays i.kind i.split)) pick)
  pub wires_small : AreSmall wires
  pub whole : pick ≡ again i.kind (two_delays i.kind i.split) pick []

-- They are within the bounds of the instance.
pub record IsFitPick (c : Circuit) (i : Instance) (pick : ℕ × ℕ) (wires : List ℕ) : Type 0 where
  pub fits : PickFits c i pick wires
  pub plain : IsPlain i pick wires

abbrev pub PickIsFit : Circuit → Option Instance → ℕ × ℕ → List ℕ → Type 0
PickIsFit c None pick wires = ⊥
PickIsFit c (Some i) pick wires = IsFitPick c i pick wires

-- What a line says is within bounds: 1 tick to as many as there may be, delays that the instance may
-- have, a bit for each tick.
abbrev pub IsWithin : Extent → Circuit → Trace → Line → Type 0
IsWithin e c trace Head = (1 ≤ trace.ticks) × (trace.ticks ≤ most_ticks e)
IsWithin e c trace (Delays k) =
    PickIsFit c (slice_get c.instances k) (pick_at trace k) (wires_at trace k)
IsWithin e c trace (Bits n) = length (row_at trace n) ≡ trace.ticks
IsWithin e c trace End = ⊤

-- A trace of the circuit has 1 tick to as many as there may be, delays within bounds at each
-- instance, and a bit of each net for each tick. Nothing is said of equations.
pub record IsTrace (e : Extent) (c : Circuit) (trace : Trace) : Type 0 where
  pub some : 1 ≤ trace.ticks
  pub few : trace.ticks ≤ most_ticks e
  pub delays : length trace.delays ≡ length c.instances
  pub wires : length trace.wires ≡ length c.instances
  pub fit : (k : ℕ) (i : Instance) → slice_get c.instances k ≡ Some i →
      IsFitPick c i (pick_at trace k) (wires_at trace k)
  pub bits : AreTraces (length c.nets) trace.ticks trace.bits

-- The lines are those of this trace of the circuit.
pub record IsReadAs (e : Extent) (c : Circuit) (lines : List (List ℕ)) (trace : Trace) : Type 0 where
  pub is_trace : IsTrace e c trace
  pub are : lines ≡ trace_lines c trace

-- ---- lines that are wrong

-- the line that is to stand at a place stands there, and what it says is within bounds
abbrev pub IsRight : Extent → Circuit → Trace → Option Line → Option (List ℕ) → Type 0
IsRight e c trace (Some of) (Some line) = IsWithin e c trace of × (line ≡ line_text c trace of)
IsRight e c trace of line = ⊥

-- so many lines are, each in its place, of one trace
pub record HasFirst (e : Extent) (c : Circuit) (lines : List (List ℕ)) (count : ℕ) : Type 0 where
  pub trace : Trace
  pub each : (j : ℕ) → j < count → IsRight e c trace (slice_get (line_order c) j) (slice_get lines j)

-- The line of this number, from 1, is the first that lacks the form, the name or the bounds of its
-- place: those before it are right, and with it they are not.
pub record IsWrongLine (e : Extent) (c : Circuit) (lines : List (List ℕ)) (i : ℕ) : Type 0 where
  pub some : 1 ≤ i
  pub inside : i ≤ length lines
  pub before : HasFirst e c lines (i - 1)
  pub here : HasFirst e c lines i → ⊥

-- the last line ends a trace
pub record IsEnded (lines : List (List ℕ)) : Type 0 where
  pub before : List (List ℕ)
  pub are : lines ≡ before ++ end_line ∷ []
