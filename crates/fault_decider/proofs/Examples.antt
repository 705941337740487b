-- Words, outcomes and lines of decisions, computed.
use Rattle.std.specs.Prelude.{codes, Ok, Err}
use Rattle.std.specs.Fmt.{digits}
use Rattle.std.proofs.Common.{◌≡◌, ℕ, true, false, List, [], ◌∷◌, None, Some, refl}
use Rattle.scald_base.specs.declared.assertion.AssertSpec.TheVariants.{None as Unasserted}
use Rattle.scald_base.specs.declared.call_end.CallEnd.TheVariants.{BadWords, NoMemory}
use Rattle.flat_circuit.specs.declared.net.Net.{Net}
use Rattle.flat_circuit.specs.Circuit.{Circuit}
use Rattle.flat_circuit.proofs.RunTables.{bounds, header}
use Rattle.program_call.specs.Numbers.{number_in}
use Rattle.narrowing.specs.declared.constraint.Constraint.TheVariants.{Instance as OfInstance, Net as OfNet, Pulse as OfPulse}
use Rattle.narrowing.specs.declared.named.Named.TheVariants.{Edge, High, Mark, Pulse, Step}
use Rattle.narrowing.specs.declared.part.Part.{Part}
use Rattle.narrowing.specs.declared.part.Part.TheVariants.{Constant, Delay, Offset}
use Rattle.fault_decider.specs.declared.outcome.DecideOutcome.TheVariants.{Done, Ended, Faulty, NoRun, Settled, Unsettled}
use Rattle.fault_decider.specs.declared.verdict.Verdict.TheVariants.{Refuted, Window, Open}
use Rattle.fault_decider.specs.Choices.{bound_line, same_bit}
use Rattle.fault_decider.specs.Decided.{end_line, outcome_of}
use Rattle.fault_decider.specs.Latest.{latest_verdict}
use Rattle.fault_decider.specs.Lines.{are_told, break_text, refuted_text, window_text}
use Rattle.fault_decider.specs.Outcome.{end_of, status_of}
use Rattle.fault_decider.specs.Words.{request, request_of}

-- ---- words

abbrev decide : List ℕ
decide = codes "decide"

asked : (request_of (decide ∷ []) ≡ Ok (request 1 None))
    × (request_of (decide ∷ codes "effort=5" ∷ []) ≡ Ok (request 5 None))
    × (request_of (decide ∷ codes "trace=2" ∷ []) ≡ Ok (request 1 (Some 2)))
    × (request_of (decide ∷ codes "effort=5" ∷ codes "trace=2" ∷ []) ≡ Ok (request 5 (Some 2)))
unfolding digits number_in
asked = (refl, refl, refl, refl)

-- the first word with which no form goes on
unasked : (request_of [] ≡ Err 0) × (request_of (codes "decides" ∷ []) ≡ Err 0)
    × (request_of (decide ∷ codes "effort=0" ∷ []) ≡ Err 1)
    × (request_of (decide ∷ codes "effort=1001" ∷ []) ≡ Err 1)
    × (request_of (decide ∷ codes "trace=2" ∷ codes "effort=5" ∷ []) ≡ Err 2)
    × (request_of (decide ∷ codes "trace=02" ∷ []) ≡ Err 1)
unfolding digits number_in
unasked = (refl, refl, refl, refl, refl, refl)

-- ---- outcomes

statuses : (status_of Settled ≡ 0) × (status_of Faulty ≡ 1) × (status_of Done ≡ 0)
    × (status_of NoRun ≡ 10) × (status_of (Ended (BadWords 1)) ≡ 4)
    × (status_of (Ended NoMemory) ≡ 8)
statuses = (refl, refl, refl, refl, refl, refl)

ends : (end_of (Ended (BadWords 2)) ≡ Some (BadWords 2)) × (end_of (Ended NoMemory) ≡ Some NoMemory)
    × (end_of Settled ≡ None) × (end_of (Unsettled 0 9) ≡ None)
ends = (refl, refl, refl, refl)

-- ---- the last line

no_fault : end_line [] ≡ codes "CLEAN\n"
no_fault = refl

some_faults : end_line (Refuted 30 [] ∷ Open ∷ Refuted 40 [] ∷ [])
    ≡ codes "FAULTS 3 SHOWN 0 REFUTED 2 OPEN 1\n"
unfolding digits
some_faults = refl

-- all refuted is as good as none, and one that is open is not
outcomes : (outcome_of [] ≡ Settled) × (outcome_of (Refuted 30 [] ∷ []) ≡ Settled)
    × (outcome_of (Refuted 30 [] ∷ Open ∷ []) ≡ Faulty)
outcomes = (refl, refl, refl)

by_window : (window_text 30 ≡ codes "REFUTED FROM 30 BY WINDOW\n") × (outcome_of (Window 30 ∷ []) ≡ Settled)
unfolding digits
by_window = (refl, refl)

latest_of_two : latest_verdict (Refuted 30 [] ∷ Refuted 40 [] ∷ Open ∷ []) ≡ 40
latest_of_two = refl

-- ---- what is said of a fault

of_edge : break_text (OfInstance 0) (Edge 100 95)
    ≡ codes "SHOWN TICK 100 CLOCK RISES 100 INPUT CHANGES 95\n"
unfolding digits
of_edge = refl

of_high : break_text (OfInstance 0) (High 100 150 152)
    ≡ codes "SHOWN TICK 152 CLOCK RISES 100 FALLS 150 INPUT CHANGES 152\n"
unfolding digits
of_high = refl

of_pulse : break_text (OfPulse 0 false) (Pulse 60 65) ≡ codes "SHOWN TICK 65 LOW FROM 60 TO 65\n"
unfolding digits
of_pulse = refl

of_mark : break_text (OfInstance 0) (Mark 9 0 1) ≡ codes "SHOWN TICK 9 MARK 9 INPUT CHANGES 9\n"
unfolding digits
of_mark = refl

of_net : break_text (OfNet 3) (Step 12) ≡ codes "SHOWN TICK 12 LEAVES ASSERTION 12\n"
unfolding digits
of_net = refl

abbrev named : List ℕ → Net
named name = record { name = name; bit = 0; spec = Unasserted; wire = bounds 0 0; driver = None }

abbrev two_inputs : Circuit
two_inputs = record {
  header = header;
  nets = named (codes "A") ∷ named (codes "B") ∷ [];
  instances = [];
  order = 0 ∷ 1 ∷ [];
}

-- bits of nets are told one by one
by_nets : refuted_text two_inputs 30 ((Constant 0 true ∷ Constant 1 false ∷ []) ∷ (Constant 0 false ∷ []) ∷ [])
    ≡ codes "REFUTED FROM 30 BY A<0>=1 & B<0>=0, A<0>=0\n"
unfolding digits
by_nets = refl

-- and delays and offsets by their number
by_delays : refuted_text two_inputs 30 ((Delay 0 1 2 ∷ []) ∷ (Delay 0 3 4 ∷ []) ∷ [])
    ≡ codes "REFUTED FROM 30 BY 2 NARROWINGS\n"
unfolding digits
by_delays = refl

abbrev one_leaf : List Part
one_leaf = Constant 0 true ∷ []

told : (are_told (one_leaf ∷ []) ≡ true)
    × (are_told (one_leaf ∷ one_leaf ∷ one_leaf ∷ one_leaf ∷ one_leaf ∷ one_leaf ∷ one_leaf ∷ one_leaf ∷ []) ≡ true)
    × (are_told (one_leaf ∷ one_leaf ∷ one_leaf ∷ one_leaf ∷ one_leaf ∷ one_leaf ∷ one_leaf ∷ one_leaf ∷ one_leaf ∷ []) ≡ false)
    × (are_told ((Offset 0 1 2 ∷ []) ∷ []) ≡ false)
told = (refl, refl, refl, refl)

-- ---- choices

-- a number is told only where there could be another
bounded : bound_line (codes "  DELAY b1 " ∷ []) 3 (bounds 3 3) ≡ []
bounded = refl

of_bounds : bound_line (codes "  DELAY b1 " ∷ []) 3 (bounds 1 5) ≡ codes "  DELAY b1 3 OF 1:5\n"
unfolding digits
of_bounds = refl

bits : (same_bit true true ≡ true) × (same_bit true false ≡ false) × (same_bit false false ≡ true)
bits = (refl, refl, refl)
