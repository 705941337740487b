-- The text of a trace of a circuit, line by line: how many ticks it has, the delays at its
-- instances, and the bits of its nets.
use Rattle.std.specs.Prelude.{ℕ, Bool, List, [], ◌∷◌, ◌++◌, length, map, codes, decimal, slice_get, slice_index_or, Option, Some, None, if◌then◌else◌}
use Rattle.std.specs.List.{concat, flat_map, range_with_len}
use Rattle.element_kinds.specs.declared.kind.Kind.{Kind}
use Rattle.element_kinds.specs.declared.form.Form.{Form}
use Rattle.element_kinds.specs.declared.form.Form.TheVariants.{Gate, Change, Register, Latch as Enabled, Checker}
use Rattle.element_kinds.specs.Kinds.{form_of}
use Rattle.flat_circuit.specs.declared.split.Split.{Split}
use Rattle.flat_circuit.specs.declared.instance.Instance.{Instance}
use Rattle.flat_circuit.specs.Split.{two_delays}
use Rattle.flat_circuit.specs.Circuit.{Circuit}
use Rattle.listing.specs.Text.{bit_text}
use Rattle.listing.specs.Names.{instance_name, net_text}
use Rattle.trace_tool.specs.declared.trace.Trace.{Trace}
use Rattle.trace_tool.specs.declared.line.Line.{Line}
use Rattle.trace_tool.specs.declared.line.Line.TheVariants.{Head, Delays, Bits, End}

-- ---- which lines there are

-- a head, a line of delays for each instance as they are expanded, a line of bits for each net by
-- name, and an end
abbrev pub line_order : Circuit → List Line
line_order c =
    Head ∷ (map (λ k. Delays k) (range_with_len 0 (length c.instances))
    ++ (map (λ n. Bits n) c.order ++ End ∷ []))

-- ---- what they say, without the byte 10 that ends each

abbrev pub head_line : ℕ → List ℕ
head_line ticks = concat (codes "TRACE " ∷ decimal ticks ∷ [])

-- one delay, or a hyphen if there is none
abbrev pub delay_by : Form → ℕ × ℕ → List ℕ
delay_by Gate pick = decimal pick.0
delay_by Change pick = codes "-"
delay_by (Register forced) pick = decimal pick.0
delay_by (Enabled forced) pick = decimal pick.0
delay_by (Checker check) pick = codes "-"

-- or the rise and the fall delay
abbrev pub delay_text : Kind → Option Split → ℕ × ℕ → List ℕ
delay_text kind None pick = delay_by (form_of kind) pick
delay_text kind (Some both) pick = concat (decimal pick.0 ∷ codes " " ∷ decimal pick.1 ∷ [])

-- the delay of each pin's wire
abbrev pub wire_text : ℕ → List ℕ
wire_text wire = concat (codes " " ∷ decimal wire ∷ [])

abbrev pub wires_text : List ℕ → List ℕ
wires_text wires = flat_map wire_text wires

-- the name of the instance and all its delays
unfoldable pub instance_line : Instance → ℕ × ℕ → List ℕ → List ℕ
instance_line i pick wires =
    concat (bit_text (instance_name i) ∷ codes " "
    ∷ delay_text i.kind (two_delays i.kind i.split) pick
    ∷ codes " :" ∷ wires_text wires ∷ [])

abbrev pub digit_text : Bool → List ℕ
digit_text bit = if bit then codes "1" else codes "0"

-- the name of the net and its bits
unfoldable pub net_line : Circuit → ℕ → List Bool → List ℕ
net_line c n row = concat (net_text c n ∷ codes " " ∷ flat_map digit_text row ∷ [])

abbrev pub end_line : List ℕ
end_line = codes "END TRACE"

-- ---- the whole text

-- the pick at the instance of a number, the delays of its wires, and the bits of the net of a
-- number
abbrev pub pick_at : Trace → ℕ → ℕ × ℕ
pick_at trace k = slice_index_or trace.delays k (0, 0)

abbrev pub wires_at : Trace → ℕ → List ℕ
wires_at trace k = slice_index_or trace.wires k []

abbrev pub row_at : Trace → ℕ → List Bool
row_at trace n = slice_index_or trace.bits n []

-- past the last instance there is no line
abbrev pub delays_line : Option Instance → ℕ × ℕ → List ℕ → List ℕ
delays_line None pick wires = []
delays_line (Some i) pick wires = instance_line i pick wires

abbrev pub line_text : Circuit → Trace → Line → List ℕ
line_text c trace Head = head_line trace.ticks
line_text c trace (Delays k) =
    delays_line (slice_get c.instances k) (pick_at trace k) (wires_at trace k)
line_text c trace (Bits n) = net_line c n (row_at trace n)
line_text c trace End = end_line

abbrev pub trace_lines : Circuit → Trace → List (List ℕ)
trace_lines c trace = map (line_text c trace) (line_order c)

-- byte 10 ends each line
abbrev pub text_of_lines : List (List ℕ) → List ℕ
text_of_lines lines = flat_map (λ (line : List ℕ). line ++ 10 ∷ []) lines

abbrev pub trace_text : Circuit → Trace → List ℕ
trace_text c trace = text_of_lines (trace_lines c trace)
