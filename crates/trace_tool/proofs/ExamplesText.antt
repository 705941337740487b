-- Texts of small traces, as they were worked out on paper.
use Rattle.std.specs.Prelude.{◌≡◌, ℕ, Bool, true, false, List, [], ◌∷◌, codes, Option, Some, None}
use Rattle.std.specs.Fmt.{digits}
use Rattle.std.proofs.Common.{refl}
use Rattle.scald_base.specs.Time.{Bounds, Header}
use Rattle.scald_base.specs.declared.assertion.AssertSpec.TheVariants.{None as Unasserted}
use Rattle.vector_names.specs.declared.bits.Target.{Target}
use Rattle.vector_names.specs.declared.bits.Target.TheVariants.{Net as OnNet, Constant}
use Rattle.element_kinds.specs.declared.kind.Kind.{Kind}
use Rattle.element_kinds.specs.declared.kind.Kind.TheVariants.{And, Chg, MinPulse, Reg}
use Rattle.flat_circuit.specs.declared.limits.Limits.TheVariants.{None as Unlimited}
use Rattle.flat_circuit.specs.declared.split.Split.{Split}
use Rattle.flat_circuit.specs.declared.instance.Pin.{Pin}
use Rattle.flat_circuit.specs.declared.instance.Instance.{Instance}
use Rattle.flat_circuit.specs.declared.net.Net.{Net}
use Rattle.flat_circuit.specs.Circuit.{Circuit}
use Rattle.trace_tool.specs.declared.trace.Trace.{Trace}
use Rattle.trace_tool.specs.Trace.{instance_line, net_line, trace_text}

abbrev pub bounds : ℕ → ℕ → Bounds
bounds low high = record { min = low; max = high }

abbrev pub header : Header
header = record { units = 4; ticks = 1; wire = bounds 0 0; pskew = (0, 0); cskew = (0, 0) }

abbrev pub net : List ℕ → ℕ → Option ℕ → Net
net name bit driver = record { name = name; bit = bit; spec = Unasserted; wire = bounds 0 0; driver = driver }

abbrev pub on : Target → Pin
on target = record { target = target; inverted = false; hold = false }

abbrev pub made : List ℕ → Kind → Option Split → List Pin → Option Target → Instance
made label kind split pins out =
    record {
      path = label;
      bit = 0;
      kind = kind;
      delay = bounds 0 9;
      split = split;
      limits = Unlimited;
      pins = pins;
      out = out;
      out_inverted = false;
      place = record { line = 4; col = 1 };
    }

-- ---- a checker of one clock

abbrev pub checked : Circuit
checked =
    record {
      header = header;
      nets = net (codes "CK") 0 None ∷ [];
      instances = made (codes "c1") MinPulse None (on (OnNet 0) ∷ []) None ∷ [];
      order = 0 ∷ [];
    }

abbrev pub one_clock : List Bool → Trace
one_clock bits = record { ticks = 6; delays = (0, 0) ∷ []; wires = (0 ∷ []) ∷ []; bits = bits ∷ [] }

pub of_a_checker : trace_text checked (one_clock (false ∷ true ∷ false ∷ false ∷ false ∷ true ∷ []))
    ≡ codes "TRACE 6\nc1<0> - : 0\nCK<0> 010001\nEND TRACE\n"
unfolding digits instance_line net_line
of_a_checker = refl

-- what is picked at a checker is not shown
pub picks_of_checkers : trace_text checked (record { ticks = 1; delays = (3, 4) ∷ []; wires = (12 ∷ []) ∷ []; bits = (true ∷ []) ∷ [] })
    ≡ codes "TRACE 1\nc1<0> - : 12\nCK<0> 1\nEND TRACE\n"
unfolding digits instance_line net_line
picks_of_checkers = refl

-- ---- one delay, two delays, and none; nets by name and not by number

abbrev two : Split
two = record { rise = bounds 1 9; fall = bounds 2 9 }

abbrev mixed : Circuit
mixed =
    record {
      header = header;
      nets = net (codes "D") 0 (Some 0) ∷ net (codes "/CK") 1 None ∷ net (codes "u1/Q") 10 (Some 1) ∷ net (codes "E") 0 (Some 2) ∷ [];
      instances =
          made (codes "a") And (Some two) (on (OnNet 1) ∷ on (Constant true) ∷ []) (Some (OnNet 0))
          ∷ made (codes "u1/r") Reg None (on (OnNet 1) ∷ on (OnNet 0) ∷ []) (Some (OnNet 2))
          ∷ made (codes "g") Chg None (on (OnNet 2) ∷ []) (Some (OnNet 3)) ∷ [];
      order = 1 ∷ 0 ∷ 3 ∷ 2 ∷ [];
    }

abbrev mixed_trace : Trace
mixed_trace =
    record {
      ticks = 2;
      delays = (7, 2) ∷ (5, 5) ∷ (0, 0) ∷ [];
      wires = (4 ∷ 0 ∷ []) ∷ (0 ∷ 10 ∷ []) ∷ (1 ∷ []) ∷ [];
      bits = (false ∷ true ∷ []) ∷ (true ∷ true ∷ []) ∷ (false ∷ false ∷ []) ∷ (true ∷ false ∷ []) ∷ [];
    }

pub of_each_form : trace_text mixed mixed_trace
    ≡ codes "TRACE 2\na<0> 7 2 : 4 0\nu1/r<0> 5 : 0 10\ng<0> - : 1\n/CK<1> 11\nD<0> 01\nE<0> 10\nu1/Q<10> 00\nEND TRACE\n"
unfolding digits instance_line net_line
of_each_form = refl
