-- Whole dumps of small runs, as they were worked out on paper.
use Rattle.std.proofs.Common.{◌≡◌, ℕ, ◌==◌, Bool, List, [], ◌∷◌, map, None, codes, refl}
use Rattle.std.specs.Fmt.{digits}
use Rattle.scald_base.specs.Time.{Bounds, Header}
use Rattle.scald_base.specs.declared.assertion.AssertSpec.TheVariants.{None as Unasserted}
use Rattle.flat_circuit.specs.declared.net.Net.{Net}
use Rattle.flat_circuit.specs.Circuit.{Circuit}
use Rattle.trace_tool.specs.declared.tick.Count.{Count}
use Rattle.trace_tool.specs.declared.tick.Count.TheVariants.{One, Ten}
use Rattle.trace_tool.specs.declared.tick.Unit.{Unit}
use Rattle.trace_tool.specs.declared.tick.Unit.TheVariants.{Microseconds, Nanoseconds}
use Rattle.trace_tool.specs.declared.tick.TickLength.{TickLength}
use Rattle.trace_tool.specs.Variable.{code_of, variable_line}
use Rattle.trace_tool.specs.Dump.{changes, declarations, dump_text, head_text, start_commands, tail_text}

abbrev bounds : Bounds
bounds = record { min = 0; max = 0 }

abbrev header : Header
header = record { units = 4; ticks = 1; wire = bounds; pskew = (0, 0); cskew = (0, 0) }

abbrev net : List ℕ → ℕ → Net
net name bit = record { name = name; bit = bit; spec = Unasserted; wire = bounds; driver = None }

abbrev circuit : List Net → List ℕ → Circuit
circuit nets order = record { header = header; nets = nets; instances = []; order = order }

abbrev of : Count → Unit → TickLength
of count unit = record { count = count; unit = unit }

-- levels, as digits
abbrev row : List ℕ → List Bool
row levels = map (λ b. b == 49) levels

-- ---- the run of docs/LANGUAGE.md, which changes at each tick but 4

abbrev two : Circuit
two = circuit (net (codes "CK") 0 ∷ net (codes "X") 0 ∷ []) (0 ∷ 1 ∷ [])

of_a_run : dump_text (of One Nanoseconds) (codes "RUNS") two (row (codes "010001") ∷ row (codes "001000") ∷ []) 6
    ≡ codes "$timescale 1 ns $end\n$scope module RUNS $end\n$var wire 1 ! CK $end\n$var wire 1 \" X $end\n$upscope $end\n$enddefinitions $end\n#0\n$dumpvars\n0!\n0\"\n$end\n#1\n1!\n#2\n0!\n1\"\n#3\n0\"\n#5\n1!\n#6\n"
unfolding digits dump_text declarations head_text tail_text variable_line changes start_commands code_of
of_a_run = refl

-- one tick, of which all values are said
of_one_tick : dump_text (of Ten Microseconds) (codes "RUNS") two (row (codes "1") ∷ row (codes "0") ∷ []) 1
    ≡ codes "$timescale 10 us $end\n$scope module RUNS $end\n$var wire 1 ! CK $end\n$var wire 1 \" X $end\n$upscope $end\n$enddefinitions $end\n#0\n$dumpvars\n1!\n0\"\n$end\n#1\n"
unfolding digits dump_text declarations head_text tail_text variable_line changes start_commands code_of
of_one_tick = refl

-- ---- a vector: the highest bit first, whatever its net's number; a single bit that is not bit 0

abbrev vector : Circuit
vector = circuit (net (codes "D") 2 ∷ net (codes "D") 1 ∷ net (codes "E") 4 ∷ net (codes "D") 0 ∷ []) (3 ∷ 1 ∷ 0 ∷ 2 ∷ [])

of_a_vector : dump_text (of One Nanoseconds) (codes "V") vector (row (codes "011") ∷ row (codes "000") ∷ row (codes "110") ∷ row (codes "111") ∷ []) 3
    ≡ codes "$timescale 1 ns $end\n$scope module V $end\n$var wire 3 ! D [2:0] $end\n$var wire 1 \" E [4] $end\n$upscope $end\n$enddefinitions $end\n#0\n$dumpvars\nb001 !\n1\"\n$end\n#1\nb101 !\n#2\n0\"\n#3\n"
unfolding digits dump_text declarations head_text tail_text variable_line changes start_commands code_of
of_a_vector = refl

-- ---- gaps: D 0 and 1, 3, then 5 and 6, where a net is called D_3

abbrev gaps : Circuit
gaps =
    circuit
    (net (codes "D_3") 7 ∷ net (codes "D") 0 ∷ net (codes "D") 1 ∷ net (codes "D") 3 ∷ net (codes "D") 5 ∷ net (codes "D") 6 ∷ [])
    (1 ∷ 2 ∷ 3 ∷ 4 ∷ 5 ∷ 0 ∷ [])

of_gaps : dump_text (of One Nanoseconds) (codes "G") gaps
    (row (codes "1") ∷ row (codes "0") ∷ row (codes "1") ∷ row (codes "1") ∷ row (codes "1") ∷ row (codes "0") ∷ []) 1
    ≡ codes "$timescale 1 ns $end\n$scope module G $end\n$var wire 2 ! D [1:0] $end\n$var wire 1 \" \\D<3> $end\n$var wire 2 # D_5 [6:5] $end\n$var wire 1 $ D_3 [7] $end\n$upscope $end\n$enddefinitions $end\n#0\n$dumpvars\nb10 !\n1\"\nb01 #\n1$\n$end\n#1\n"
unfolding digits dump_text declarations head_text tail_text variable_line changes start_commands code_of
of_gaps = refl

-- ---- scopes: a global, two nets of one use, one of a use in it, and one of a use that has the same label elsewhere

abbrev scopes : Circuit
scopes =
    circuit (net (codes "/CK A") 0 ∷ net (codes "u#1/A B") 0 ∷ net (codes "u#1/v/W") 0 ∷ net (codes "u2/v/W") 0 ∷ [])
    (0 ∷ 1 ∷ 2 ∷ 3 ∷ [])

of_scopes : declarations (of One Nanoseconds) (codes "N") scopes
    ≡ codes "$timescale 1 ns $end\n$scope module N $end\n$var wire 1 ! \\/CK~A $end\n$scope module \\u#1 $end\n$var wire 1 \" \\A~B $end\n$scope module v $end\n$var wire 1 # W $end\n$upscope $end\n$upscope $end\n$scope module u2 $end\n$scope module v $end\n$var wire 1 $ W $end\n$upscope $end\n$upscope $end\n$upscope $end\n$enddefinitions $end\n"
unfolding digits declarations head_text tail_text variable_line code_of
of_scopes = refl

-- ---- a use with D 0 and 2, where a net is called D_2, and names that begin with a digit and with `$`

abbrev in_use : Circuit
in_use =
    circuit
    (net (codes "$A") 0 ∷ net (codes "2A") 0 ∷ net (codes "u/D") 0 ∷ net (codes "u/D") 2 ∷ net (codes "u/D_2") 0 ∷ [])
    (0 ∷ 1 ∷ 2 ∷ 3 ∷ 4 ∷ [])

of_a_use : declarations (of One Nanoseconds) (codes "S") in_use
    ≡ codes "$timescale 1 ns $end\n$scope module S $end\n$var wire 1 ! \\$A $end\n$var wire 1 \" \\2A $end\n$scope module u $end\n$var wire 1 # D [0] $end\n$var wire 1 $ \\D<2> $end\n$var wire 1 % D_2 $end\n$upscope $end\n$upscope $end\n$enddefinitions $end\n"
unfolding digits declarations head_text tail_text variable_line code_of
of_a_use = refl
