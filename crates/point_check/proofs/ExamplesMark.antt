-- Hazards of a marked pin, and what is none, worked out on paper.
use Prim.Native.String.{String}
use Rattle.std.proofs.Common.{ℕ, List, [], ◌∷◌, length, refl, arith}
use Rattle.element_kinds.specs.declared.kind.Kind.{Kind}
use Rattle.element_kinds.specs.declared.kind.Kind.TheVariants.{Buf, And, Or, Xor, Mux2, Mux4, Mux8, Chg, Reg, RegRs, Latch, LatchRs}
use Rattle.flat_circuit.specs.declared.instance.Pin.{Pin}
use Rattle.flat_circuit.specs.declared.instance.Instance.{Instance}
use Rattle.flat_circuit.specs.Run.{Run}
use Rattle.flat_circuit.proofs.RunTables.{on, not_on, bits}
use Rattle.flat_circuit.specs.declared.limits.Limits.TheVariants.{None as Unlimited}
use Rattle.fixpoint_engine.proofs.WrittenRuns.{element, run_of}
use Rattle.point_check.proofs.Literal.{holding, Breaks, broken, unbroken, has_mark, found, no_mark, none_marked}

-- a gate of these pins
abbrev gate : Kind → List Pin → Instance
gate kind pins = element kind Unlimited pins

-- one whose first pin is marked, on net 0, and whose other is on net 1
abbrev marked : Kind → Instance
marked kind = gate kind (holding (on 0) ∷ on 1 ∷ [])

abbrev behind : List ℕ → String → String → Run
behind wires first second = run_of (length (bits first)) wires (bits first ∷ bits second ∷ [])

abbrev run : String → String → Run
run first second = behind (0 ∷ 0 ∷ []) first second

-- ---- an AND: the other pin steps at tick 2, with each step of the marked one

and_closed : ¬ Breaks (marked And) (run "000" "001") 0
and_closed = unbroken (no_mark 0 1 2 refl refl refl (λ at. at.leaves (refl, refl)))

and_opens : Breaks (marked And) (run "001" "001") 0
and_opens = broken record { marked = 0; pin = 1; tick = 2; at = search (found, has_mark) }

and_closes : Breaks (marked And) (run "110" "001") 0
and_closes = broken record { marked = 0; pin = 1; tick = 2; at = search (found, has_mark) }

and_open : Breaks (marked And) (run "111" "001") 0
and_open = broken record { marked = 0; pin = 1; tick = 2; at = search (found, has_mark) }

and_other_falls : Breaks (marked And) (run "111" "110") 0
and_other_falls = broken record { marked = 0; pin = 1; tick = 2; at = search (found, has_mark) }

and_other_still : ¬ Breaks (marked And) (run "001" "111") 0
and_other_still = unbroken (no_mark 0 1 2 refl refl refl (λ at. at.changes refl))

-- ---- an OR

or_closed : ¬ Breaks (marked Or) (run "111" "001") 0
or_closed = unbroken (no_mark 0 1 2 refl refl refl (λ at. at.leaves (refl, refl)))

or_opens : Breaks (marked Or) (run "110" "001") 0
or_opens = broken record { marked = 0; pin = 1; tick = 2; at = search (found, has_mark) }

or_closes : Breaks (marked Or) (run "001" "001") 0
or_closes = broken record { marked = 0; pin = 1; tick = 2; at = search (found, has_mark) }

or_open : Breaks (marked Or) (run "000" "001") 0
or_open = broken record { marked = 0; pin = 1; tick = 2; at = search (found, has_mark) }

or_other_still : ¬ Breaks (marked Or) (run "001" "111") 0
or_other_still = unbroken (no_mark 0 1 2 refl refl refl (λ at. at.changes refl))

-- ---- which pin is marked, and which is another

second_marked : Breaks (gate And (on 0 ∷ holding (on 1) ∷ [])) (run "001" "111") 0
second_marked = broken record { marked = 1; pin = 0; tick = 2; at = search (found, has_mark) }

second_alone : ¬ Breaks (gate And (on 0 ∷ holding (on 1) ∷ [])) (run "111" "001") 0
second_alone = unbroken (no_mark 1 0 2 refl refl refl (λ at. at.changes refl))

third_changes : Breaks (gate And (on 0 ∷ holding (on 1) ∷ on 2 ∷ []))
    (run_of 3 (0 ∷ 0 ∷ 0 ∷ []) (bits "111" ∷ bits "111" ∷ bits "001" ∷ []))
    0
third_changes = broken record { marked = 1; pin = 2; tick = 2; at = search (found, has_mark) }

-- pins are counted, and not nets
one_net_twice : Breaks (gate And (holding (on 0) ∷ on 0 ∷ [])) (run "001" "000") 0
one_net_twice = broken record { marked = 0; pin = 1; tick = 2; at = search (found, has_mark) }

without_a_mark : ¬ Breaks (gate And (on 0 ∷ on 1 ∷ [])) (run "111" "001") 0
without_a_mark = unbroken (none_marked refl)

and_closed_by_complement : ¬ Breaks (gate And (holding (not_on 0) ∷ on 1 ∷ []))
    (run "111" "001") 0
and_closed_by_complement = unbroken (no_mark 0 1 2 refl refl refl (λ at. at.leaves (refl, refl)))

and_open_by_complement : Breaks (gate And (holding (not_on 0) ∷ on 1 ∷ []))
    (run "000" "001") 0
and_open_by_complement =
    broken record { marked = 0; pin = 1; tick = 2; at = search (found, has_mark) }

or_closed_by_complement : ¬ Breaks (gate Or (holding (not_on 0) ∷ on 1 ∷ []))
    (run "000" "001") 0
or_closed_by_complement = unbroken (no_mark 0 1 2 refl refl refl (λ at. at.leaves (refl, refl)))

-- ---- at the given tick or later, and in the run

at_the_start : Breaks (marked And) (run "111" "001") 2
at_the_start = broken record { marked = 0; pin = 1; tick = 2; at = search (found, has_mark) }

before_the_start : ¬ Breaks (marked And) (run "111" "001") 3
before_the_start = unbroken (no_mark 0 1 2 refl refl refl (λ at. omega (arith, at.pin_in.after)))

first_step : Breaks (marked And) (run "11" "01") 0
first_step = broken record { marked = 0; pin = 1; tick = 1; at = search (found, has_mark) }

past_the_end : ¬ Breaks (marked And) (run "111" "111") 0
past_the_end = unbroken (no_mark 0 1 3 refl refl refl (λ at. omega (arith, at.pin_in.ends)))

-- ---- a wire of 2 shows the first step of its net at tick 3

late_marked : Breaks (marked And) (behind (2 ∷ 0 ∷ []) "1111" "0001") 0
late_marked = broken record { marked = 0; pin = 1; tick = 3; at = search (found, has_mark) }

no_step_yet : ¬ Breaks (marked And) (behind (2 ∷ 0 ∷ []) "1111" "0011") 0
no_step_yet = unbroken (no_mark 0 1 2 refl refl refl (λ at. omega (arith, at.marked_in.begins)))

-- ---- other kinds have no mark

not_of_buf : ¬ Breaks (marked Buf) (run "111" "001") 0
not_of_buf = unbroken (λ b. b)

not_of_xor : ¬ Breaks (marked Xor) (run "111" "001") 0
not_of_xor = unbroken (λ b. b)

not_of_mux2 : ¬ Breaks (marked Mux2) (run "111" "001") 0
not_of_mux2 = unbroken (λ b. b)

not_of_mux4 : ¬ Breaks (marked Mux4) (run "111" "001") 0
not_of_mux4 = unbroken (λ b. b)

not_of_mux8 : ¬ Breaks (marked Mux8) (run "111" "001") 0
not_of_mux8 = unbroken (λ b. b)

not_of_chg : ¬ Breaks (marked Chg) (run "111" "001") 0
not_of_chg = unbroken (λ b. b)

not_of_reg : ¬ Breaks (marked Reg) (run "111" "001") 0
not_of_reg = unbroken (λ b. b)

not_of_regrs : ¬ Breaks (marked RegRs) (run "111" "001") 0
not_of_regrs = unbroken (λ b. b)

not_of_latch : ¬ Breaks (marked Latch) (run "111" "001") 0
not_of_latch = unbroken (λ b. b)

not_of_latchrs : ¬ Breaks (marked LatchRs) (run "111" "001") 0
not_of_latchrs = unbroken (λ b. b)
