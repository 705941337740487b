-- What facts say of a small run, and when clauses hold, computed.
use Rattle.std.proofs.Common.{◌≡◌, Bool, true, false, List, [], ◌∷◌, refl}
use Rattle.element_kinds.specs.declared.kind.Kind.TheVariants.{Buf, SetupHold, Xor}
use Rattle.flat_circuit.specs.Circuit.{Circuit}
use Rattle.flat_circuit.specs.Run.{Run}
use Rattle.flat_circuit.proofs.RunTables.{bounds, checker, circuit, driven_by, element, input, on}
use Rattle.narrowing.specs.declared.named.Named.{Named}
use Rattle.narrowing.specs.declared.named.Named.TheVariants.{Edge, Mark, Pulse}
use Rattle.run_clauses.specs.declared.fact.Fact.{Fact}
use Rattle.run_clauses.specs.declared.fact.Fact.TheVariants.{Beside, Delay, First, Lasts, Net, Offset, Own, Parity, Pin, Second, Step, Wire}
use Rattle.run_clauses.specs.declared.fact.Said.{Said}
use Rattle.run_clauses.specs.Choices.{choosing}
use Rattle.run_clauses.specs.Clauses.{AreRefuted, all_hold, clause_holds}
use Rattle.run_clauses.specs.Formula.{clauses_by, fact_at}
use Rattle.run_clauses.specs.Forms.{not_said}
use Rattle.run_clauses.specs.Meaning.{selects_one}
use Rattle.run_clauses.specs.World.{World, fact_holds}

-- ---- a buffer of one tick, an XOR without a delay, and a checker of both

abbrev small : Circuit
small =
    circuit (input ∷ driven_by 0 ∷ driven_by 1 ∷ [])
    (element Buf (bounds 1 2) (on 0 ∷ []) 1 ∷ element Xor (bounds 0 0) (on 0 ∷ on 1 ∷ []) 2
    ∷ checker SetupHold (on 1 ∷ on 2 ∷ []) ∷ [])

abbrev run : Run
run = record {
  ticks = 4;
  choices = record { delay = 1; rise = 0; fall = 0; wires = 0 ∷ [] }
      ∷ record { delay = 0; rise = 0; fall = 0; wires = 0 ∷ 0 ∷ [] }
      ∷ record { delay = 0; rise = 0; fall = 0; wires = 1 ∷ 0 ∷ [] } ∷ [];
  bits = (false ∷ true ∷ true ∷ true ∷ []) ∷ (false ∷ false ∷ true ∷ true ∷ [])
      ∷ (false ∷ true ∷ false ∷ false ∷ []) ∷ [];
}

abbrev world : Named → World
world named = record { run = run; named = named; offset = λ i. 3 }

abbrev holds : Fact → Bool
holds = fact_holds small (world (Edge 3 2))

-- ticks count from 0, and net 1 follows net 0 a tick later
of_nets : (holds (Lasts 3) ≡ true) × (holds (Lasts 4) ≡ false) × (holds (Net 0 1) ≡ true)
    × (holds (Net 1 1) ≡ false) × (holds (Net 1 2) ≡ true)
of_nets = (refl, refl, refl, refl, refl)

-- the checker's clock is seen a tick later; before tick 0 all is as at tick 0, so nothing steps there
of_pins : (holds (Pin 2 0 2) ≡ false) × (holds (Pin 2 0 3) ≡ true) × (holds (Step 2 0 3) ≡ true)
    × (holds (Step 2 0 2) ≡ false) × (holds (Step 0 0 0) ≡ false) × (holds (Step 2 1 2) ≡ true)
of_pins = (refl, refl, refl, refl, refl, refl)

-- what the gates make, and the parity of the pins from one on
of_gates : (holds (Own 0 1) ≡ true) × (holds (Own 0 0) ≡ false) × (holds (Own 1 1) ≡ true)
    × (holds (Own 1 2) ≡ false) × (holds (Parity 1 0 1) ≡ true) × (holds (Parity 1 1 1) ≡ false)
    × (holds (Parity 1 2 1) ≡ false)
of_gates = (refl, refl, refl, refl, refl, refl, refl)

of_choices : (holds (Delay 0 1) ≡ true) × (holds (Delay 0 2) ≡ false)
    × (holds (Wire 2 0 1) ≡ true) × (holds (Wire 2 1 1) ≡ false) × (holds (Offset 0 3) ≡ true)
    × (holds (Offset 0 2) ≡ false)
of_choices = (refl, refl, refl, refl, refl, refl)

-- the edge, and the change, which may come before it
of_breaks : (holds (First 3) ≡ true) × (holds (First 2) ≡ false) × (holds (Second 2) ≡ true)
    × (holds (Beside 1) ≡ false)
of_breaks = (refl, refl, refl, refl)

of_others :
    (fact_holds small (world (Pulse 1 3)) (First 1) ≡ true)
    × (fact_holds small (world (Pulse 1 3)) (Second 3) ≡ true)
    × (fact_holds small (world (Mark 2 0 1)) (Beside 1) ≡ true)
    × (fact_holds small (world (Mark 2 0 1)) (Beside 0) ≡ false)
of_others = (refl, refl, refl, refl)

-- another number of the same choice
another : (choosing (Wire 2 0 1) 4 ≡ Wire 2 0 4) × (choosing (Offset 0 3) 4 ≡ Offset 0 4)
    × (choosing (Net 0 3) 4 ≡ Net 0 3)
another = (refl, refl, refl)

-- of eight inputs number 6 is that of the selects 1, 1, 0
of_selects : (selects_one 3 6 0 ≡ true) × (selects_one 3 6 1 ≡ true) × (selects_one 3 6 2 ≡ false)
of_selects = (refl, refl, refl)

-- ---- clauses

abbrev is : Fact → Said
is fact = record { fact = fact; holds = true }

abbrev is_not : Fact → Said
is_not fact = record { fact = fact; holds = false }

-- the clauses by which two things are the same, unless one of two others is so
abbrev same_clauses : Said → Said → Said → Said → List (List Said)
same_clauses one two a b =
    (one ∷ two ∷ not_said a ∷ b ∷ []) ∷ (one ∷ two ∷ a ∷ not_said b ∷ []) ∷ []

-- where the buffer takes a tick, its net is what it made a tick before
of_buffer : all_hold holds (same_clauses (is_not (Lasts 2)) (is_not (Delay 0 1)) (is (Net 1 2))
    (is (Own 0 1)))
    ≡ true
of_buffer = refl

-- and not what it makes at the tick itself
of_no_buffer : all_hold holds (same_clauses (is_not (Lasts 1)) (is_not (Delay 0 1)) (is (Net 1 1))
    (is (Own 0 1)))
    ≡ false
of_no_buffer = refl

-- nothing is asked where the delay is another, or the run has ended
of_another_delay :
    all_hold holds (same_clauses (is_not (Lasts 1)) (is_not (Delay 0 2)) (is (Net 1 1))
    (is (Own 0 1)))
    ≡ true
of_another_delay = refl

of_the_end : clause_holds holds (is_not (Lasts 9) ∷ is (Net 1 9) ∷ []) ≡ true
of_the_end = refl

-- no bits make a fact hold and not hold
abbrev opposites : List (List Said)
opposites = (is (Net 0 0) ∷ []) ∷ (is_not (Net 0 0) ∷ []) ∷ []

are_refuted : AreRefuted opposites
are_refuted bits = by (bits (Net 0 0))
  where
    by : (b : Bool) → all_hold (λ fact. b) opposites ≡ false
    by true = refl
    by false = refl

-- an empty clause holds nowhere, and no clauses hold everywhere
of_nothing : (clause_holds holds [] ≡ false) × (all_hold holds [] ≡ true)
of_nothing = (refl, refl)

-- ---- by numbers

abbrev facts : List Fact
facts = Net 0 0 ∷ Lasts 2 ∷ []

by_numbers : clauses_by facts ((record { variable = 1; value = false }
    ∷ record { variable = 0; value = true } ∷ []) ∷ [])
    ≡ (is_not (Lasts 2) ∷ is (Net 0 0) ∷ []) ∷ []
by_numbers = refl

past_the_facts : fact_at facts 2 ≡ Lasts 0
past_the_facts = refl
