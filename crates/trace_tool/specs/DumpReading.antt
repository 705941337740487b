-- What a reader of a dump makes of its bytes: the commands that its lines say, and what a variable
-- is at a time by the rule of the format, the value that it was given last, at that time or before.
use Rattle.std.specs.Prelude.{◌≡◌, ℕ, ◌-◌, ◌^◌, ◌<◌, ◌==◌, nat_le, Bool, List, [], ◌∷◌, length, map, codes, slice_index_or, if◌then◌else◌}
use Rattle.std.specs.Str.{bytes_eq}
use Rattle.std.specs.Str.Parse.{digits_value}
use Rattle.flat_circuit.specs.Circuit.{Circuit, IsCircuit}
use Rattle.trace_tool.specs.declared.stretch.Stretch.{Stretch}
use Rattle.trace_tool.specs.Stretch.{stretches}
use Rattle.trace_tool.specs.Variable.{code_of}
use Rattle.trace_tool.specs.Change.{Command, End, Start, Time, Value, levels}
use Rattle.trace_tool.specs.Dump.{changes, texts}

-- ---- from bytes to commands

-- the lines of a text, each without the byte 10 that ends it
abbrev pub in_first : ℕ → List (List ℕ) → List (List ℕ)
in_first b [] = (b ∷ []) ∷ []
in_first b (line ∷ lines) = (b ∷ line) ∷ lines

abbrev pub lines_of : List ℕ → List (List ℕ)
lines_of [] = []
lines_of (b ∷ bs) = if b == 10 then [] ∷ lines_of bs else in_first b (lines_of bs)

-- the bits before the first space, and what follows it
abbrev pub bits_before : List ℕ → List Bool
bits_before [] = []
bits_before (b ∷ bs) = if b == 32 then [] else (b == 49) ∷ bits_before bs

abbrev pub after_space : List ℕ → List ℕ
after_space [] = []
after_space (b ∷ bs) = if b == 32 then bs else after_space bs

-- By its first byte a line says a time (`#`), where the values at the start begin or end (`$`), the
-- bits of a vector and its code (`b`), or one bit and its code.
abbrev pub command_in : List ℕ → Command
command_in [] = End
command_in (b ∷ bs) =
    if b == 35 then Time (digits_value 10 bs)
    else if b == 36 then (if bytes_eq bs (codes "end") then End else Start)
    else if b == 98 then Value (after_space bs) (bits_before bs)
    else Value bs ((b == 49) ∷ [])

abbrev pub commands_in : List ℕ → List Command
commands_in text = map command_in (lines_of text)

-- The commands of a run come back from its bytes.
abbrev pub CommandsComeBack : Type 0
CommandsComeBack =
    (c : Circuit) (rows : List (List Bool)) (ticks : ℕ) → ticks < 2 ^ 64 →
    commands_in (texts (changes c rows ticks)) ≡ changes c rows ticks

-- ---- from commands to bits

-- the value of the variable of a code at a time, after commands that gave it the last one
abbrev pub value_at : List ℕ → ℕ → List Command → List Bool → List Bool
value_at code t [] last = last
value_at code t (Time u ∷ cs) last = if nat_le u t then value_at code t cs last else last
value_at code t (Start ∷ cs) last = value_at code t cs last
value_at code t (End ∷ cs) last = value_at code t cs last
value_at code t (Value k bits ∷ cs) last = value_at code t cs (if bytes_eq k code then bits else last)

-- Every bit comes back from its commands: of each stretch at each tick of a run.
abbrev pub BitsComeBack : Type 0
BitsComeBack =
    (c : Circuit) (rows : List (List Bool)) (ticks t k : ℕ) (d : Stretch) → IsCircuit c →
    t < ticks → k < length (stretches c) →
    value_at (code_of (slice_index_or (stretches c) k d).number) t (changes c rows ticks) []
    ≡ levels c rows t (slice_index_or (stretches c) k d).from
    ((slice_index_or (stretches c) k d).to - (slice_index_or (stretches c) k d).from)

-- No two variables have one code.
abbrev pub CodesDiffer : Type 0
CodesDiffer = (m n : ℕ) → m < 65536 → n < 65536 → code_of m ≡ code_of n → m ≡ n
