-- Notes on names, on cases and on FORs, worked out on paper: each where it comes and where it just does not.
use Rattle.std.specs.Prelude.{◌≡◌, ℕ, Bool, true, false, List, [], ◌∷◌, ◌++◌, codes, map, Option, Some, None}
use Rattle.std.specs.Fmt.{digits}
use Rattle.std.proofs.Common.{refl}
use Rattle.scald_base.specs.declared.refusal.Place.{Place}
use Rattle.scald_base.specs.declared.assertion.AssertSpec.{AssertSpec}
use Rattle.scald_base.specs.declared.assertion.AssertSpec.TheVariants.{None as Unasserted, Stable}
use Rattle.element_kinds.specs.declared.kind.Kind.TheVariants.{Buf, MinPulse}
use Rattle.flat_circuit.specs.declared.case.CaseValue.{CaseValue}
use Rattle.flat_circuit.specs.declared.instance.Instance.{Instance}
use Rattle.flat_circuit.specs.declared.limits.Limits.TheVariants.{None as Unlimited, Pulses}
use Rattle.flat_circuit.specs.declared.net.Net.{Net}
use Rattle.flat_circuit.specs.Circuit.{Circuit}
use Rattle.drawing_omissions.specs.declared.case_bits.CaseBit.{CaseBit}
use Rattle.drawing_omissions.specs.declared.spread.Finding.{Finding}
use Rattle.drawing_omissions.specs.declared.spread.Finding.TheVariants.{Loop}
use Rattle.drawing_omissions.specs.CaseBits.{case_values}
use Rattle.drawing_omissions.specs.CaseNotes.{case_notes, open_line, same_line}
use Rattle.drawing_omissions.specs.Fors.{empty, empty_line}
use Rattle.drawing_omissions.specs.Loose.{loose_nets}
use Rattle.drawing_omissions.specs.Near.{near, near_line}
use Rattle.drawing_omissions.specs.Part.{part, part_line}
use Rattle.drawing_omissions.proofs.ExamplesParts.{header, instance, on, turned}

abbrev net : List ℕ → ℕ → AssertSpec → Option ℕ → Net
net name bit spec driver = record {
  name = name;
  bit = bit;
  spec = spec;
  wire = record { min = 0; max = 0 };
  driver = driver;
}

-- a checker of pulses on a net
abbrev reader : ℕ → Instance
reader i = instance (codes "w1") MinPulse (Pulses 1 1) (on i ∷ []) None

abbrev set_to : ℕ → Bool → CaseValue
set_to i one = record { net = i; one = one }

-- ---- PART: D has a driven bit, one that is read, one that is not, and a bit in another scope; of
-- E the second bit is asserted; of F no bit is driven

abbrev buses : Circuit
buses = record {
  header = header;
  nets = net (codes "D") 0 Unasserted (Some 0) ∷ net (codes "D") 1 Unasserted None
      ∷ net (codes "D") 2 Unasserted None ∷ net (codes "u/D") 1 Unasserted None
      ∷ net (codes "E") 0 Unasserted (Some 1) ∷ net (codes "E") 1 (Stable []) None
      ∷ net (codes "F") 0 (Stable []) None ∷ net (codes "F") 1 Unasserted None ∷ [];
  instances = instance (codes "b1") Buf Unlimited (on 1 ∷ []) (Some 0)
      ∷ instance (codes "b2") Buf Unlimited (turned 3 ∷ []) (Some 4)
      ∷ reader 0 ∷ reader 4 ∷ reader 5 ∷ reader 6 ∷ reader 7 ∷ [];
  order = 0 ∷ 1 ∷ 2 ∷ 4 ∷ 5 ∷ 6 ∷ 7 ∷ 3 ∷ [];
}

-- by their names, and without those that some case sets to either bit
nothing_determines : (loose_nets buses [] ≡ 1 ∷ 7 ∷ 3 ∷ [])
    × (loose_nets buses ((set_to 7 false ∷ []) ∷ (set_to 0 true ∷ set_to 1 true ∷ []) ∷ []) ≡ 3 ∷ [])
nothing_determines = (refl, refl)

driven_at_another_bit : part buses (loose_nets buses []) ≡ codes "NOTE PART D<1>\n" ∷ []
unfolding digits part_line
driven_at_another_bit = refl

each_such_bit : part buses (1 ∷ 2 ∷ []) ≡ codes "NOTE PART D<1>\n" ∷ codes "NOTE PART D<2>\n" ∷ []
unfolding digits part_line
each_such_bit = refl

in_another_scope : (part buses (3 ∷ []) ≡ []) × (part buses (7 ∷ []) ≡ [])
in_another_scope = (refl, refl)

-- ---- NEAR: two bits of DATO, which nothing determines, beside stable nets of these names

abbrev beside : List (List ℕ) → List ℕ → Circuit
beside names order = record {
  header = header;
  nets = net (codes "DATO") 0 Unasserted None ∷ net (codes "DATO") 1 Unasserted None
      ∷ map (λ name. net name 2 (Stable []) None) names;
  instances = reader 0 ∷ reader 1 ∷ [];
  order = order;
}

abbrev noted : List (List ℕ) → List ℕ → List (List ℕ)
noted names order = near (beside names order) [] (loose_nets (beside names order) [])

abbrev to_dato : List ℕ → List (List ℕ)
to_dato text = (codes "NOTE NEAR DATO<0> " ++ text) ∷ []

-- one line, by the first bit in the order of names
one_line : (noted (codes "DAT0" ∷ []) (2 ∷ 0 ∷ 1 ∷ []) ≡ to_dato (codes "DAT0<2>\n"))
    × (noted (codes "DAT0" ∷ codes "DAT0" ∷ []) (2 ∷ 3 ∷ 0 ∷ 1 ∷ []) ≡ to_dato (codes "DAT0<2>\n"))
unfolding digits near_line
one_line = (refl, refl)

-- alike before the same length, and that before another length, whatever their names
nearest_first :
    (noted (codes "DAXTO" ∷ codes "DOTO" ∷ codes "dato" ∷ []) (0 ∷ 1 ∷ 2 ∷ 3 ∷ 4 ∷ [])
    ≡ to_dato (codes "dato<2>\n"))
    × (noted (codes "DAXTO" ∷ codes "DOTO" ∷ []) (0 ∷ 1 ∷ 2 ∷ 3 ∷ []) ≡ to_dato (codes "DOTO<2>\n"))
    × (noted (codes "DAXTO" ∷ []) (0 ∷ 1 ∷ 2 ∷ []) ≡ to_dato (codes "DAXTO<2>\n"))
unfolding digits near_line
nearest_first = (refl, refl, refl)

-- of two the first by its name, which has the greater number here
by_name : noted (codes "DOTO" ∷ codes "DETO" ∷ []) (0 ∷ 1 ∷ 3 ∷ 2 ∷ [])
    ≡ to_dato (codes "DETO<2>\n")
unfolding digits near_line
by_name = refl

not_near : (noted (codes "u/DAT0" ∷ []) (0 ∷ 1 ∷ 2 ∷ []) ≡ [])
    × (noted (codes "DATA" ∷ codes "DATO" ∷ []) (2 ∷ 0 ∷ 1 ∷ 3 ∷ []) ≡ [])
not_near = (refl, refl)

-- two names that are near, and nothing determines: a case does, or does not
abbrev two_loose : Circuit
two_loose = record {
  header = header;
  nets = net (codes "DAT0") 0 Unasserted None ∷ net (codes "DATO") 0 Unasserted None ∷ [];
  instances = reader 0 ∷ reader 1 ∷ [];
  order = 0 ∷ 1 ∷ [];
}

set_by_a_case :
    (near two_loose ((set_to 0 false ∷ []) ∷ []) (loose_nets two_loose ((set_to 0 false ∷ []) ∷ []))
    ≡ to_dato (codes "DAT0<0>\n"))
    × (near two_loose [] (loose_nets two_loose []) ≡ [])
unfolding digits near_line
set_by_a_case = (refl, refl)

-- in the order of names, not of numbers
abbrev three_loose : Circuit
three_loose = record {
  header = header;
  nets = net (codes "RUN") 0 (Stable []) None ∷ net (codes "run") 0 Unasserted None
      ∷ net (codes "Run") 0 Unasserted None ∷ [];
  instances = reader 1 ∷ reader 2 ∷ [];
  order = 0 ∷ 2 ∷ 1 ∷ [];
}

lines_by_name : near three_loose [] (loose_nets three_loose [])
    ≡ codes "NOTE NEAR Run<0> RUN<0>\n" ∷ codes "NOTE NEAR run<0> RUN<0>\n" ∷ []
unfolding digits near_line
lines_by_name = refl

-- ---- EMPTY: FORs at a line and a column

abbrev at : ℕ → ℕ → Place
at line col = record { line = line; col = col }

abbrev loop : ℕ → ℕ → Bool → Finding
loop line col has_turn = Loop (record { place = at line col; has_turn = has_turn })

-- never a turn, or a turn in one expansion, or not reached
reached_in_vain : empty (at 4 1 ∷ at 5 1 ∷ at 6 1 ∷ [])
    (loop 5 1 false ∷ loop 4 1 false ∷ loop 5 1 true ∷ loop 4 1 false ∷ [])
    ≡ codes "NOTE EMPTY 4:1\n" ∷ []
unfolding digits empty_line
reached_in_vain = refl

-- another FOR of the line, or of the column, is another one; and in the order of the text
of_one_line : empty (at 4 1 ∷ at 4 9 ∷ at 5 1 ∷ []) (loop 5 1 false ∷ loop 4 1 false ∷ loop 4 9 true ∷ [])
    ≡ codes "NOTE EMPTY 4:1\n" ∷ codes "NOTE EMPTY 5:1\n" ∷ []
unfolding digits empty_line
of_one_line = refl

-- ---- CASES

abbrev low : List CaseValue
low = set_to 0 false ∷ []

abbrev high : List CaseValue
high = set_to 0 true ∷ []

-- the first that is the same, by numbers from 1, and in the end what is open
same_and_open : case_notes (low ∷ low ∷ low ∷ [])
    ≡ codes "NOTE CASES 2 SAME 1\n" ∷ codes "NOTE CASES 3 SAME 1\n" ∷ codes "NOTE CASES OPEN\n" ∷ []
unfolding digits same_line open_line
same_and_open = refl

same_and_closed : case_notes (high ∷ low ∷ low ∷ []) ≡ codes "NOTE CASES 3 SAME 2\n" ∷ []
unfolding digits same_line
same_and_closed = refl

each_once : (case_notes (high ∷ low ∷ []) ≡ []) × (case_notes [] ≡ [])
each_once = (refl, refl)

-- ---- the nets that entries name

abbrev entry : List ℕ → ℕ → Bool → CaseBit
entry name bit one = record { name = name; bit = bit; one = one }

-- by name and bit, and where there is no such net none
named_nets : case_values buses ((entry (codes "D") 1 true ∷ entry (codes "u/D") 1 false ∷ [])
    ∷ (entry (codes "D") 3 true ∷ entry (codes "D") 65537 true ∷ entry (codes "E") 1 false ∷ []) ∷ [])
    ≡ (set_to 1 true ∷ set_to 3 false ∷ []) ∷ (set_to 5 false ∷ []) ∷ []
named_nets = refl
