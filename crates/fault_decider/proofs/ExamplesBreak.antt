-- Breaks by the ticks that they name, computed: a clock and an input that step at tick 2, before a
-- checker that asks for a tick before the edge and one after it.
use Rattle.std.proofs.Common.{◌≡◌, ℕ, ◌+◌, ◌≤◌, true, false, true≢false, [], ◌∷◌, None, Some, refl, sym, ap, subst, ◌∙◌, arith}
use Rattle.std.proofs.lemmas.Option.{same_Some}
use Rattle.element_kinds.specs.Kinds.{checks_pulses, closes_of, form_of}
use Rattle.element_kinds.specs.declared.kind.Kind.TheVariants.{SetupHold}
use Rattle.flat_circuit.specs.declared.instance.Instance.{Instance}
use Rattle.flat_circuit.specs.declared.net.Net.{Net}
use Rattle.flat_circuit.specs.Circuit.{Circuit}
use Rattle.flat_circuit.specs.Run.{Choice, Run}
use Rattle.flat_circuit.proofs.RunTables.{bits, checker, circuit, input, late, on}
use Rattle.narrowing.specs.Break.{IsBreakAt, IsFormBreak, IsPulseBreak}
use Rattle.narrowing.specs.declared.constraint.Constraint.TheVariants.{Instance as OfInstance, Pulse as OfPulse, Net as OfNet}
use Rattle.narrowing.specs.declared.named.Named.{Named}
use Rattle.narrowing.specs.declared.named.Named.TheVariants.{Edge, High, Pulse, Step}

abbrev check : Instance
check = checker SetupHold (on 0 ∷ on 1 ∷ [])

abbrev small : Circuit
small = circuit (input ∷ input ∷ []) (check ∷ [])

abbrev no_wires : Choice
no_wires = late 0 (0 ∷ 0 ∷ [])

abbrev run : Run
run = record { ticks = 4; choices = no_wires ∷ []; bits = bits "0011" ∷ bits "0011" ∷ [] }

at_two : IsBreakAt small run (OfInstance 0) 1 (Edge 2 2)
at_two = record {
  instance = check;
  choice = no_wires;
  instance_is = refl;
  choice_is = refl;
  is = record {
    edge_in = record { after = omega arith; begins = omega arith; ends = omega arith };
    change_in = record { after = omega arith; begins = omega arith; ends = omega arith };
    rises = (refl, refl);
    changes = λ same. true≢false (sym same);
    not_before = omega arith;
    not_after = omega arith;
  };
}

-- what is a break of the instance of this number is one of the checker
of_check : (from : ℕ) (named : Named) (h : IsBreakAt small run (OfInstance 0) from named) →
    IsFormBreak (form_of SetupHold) (closes_of SetupHold) run check h.choice from named
of_check from named h =
    let same : h.instance ≡ check = cc in
    subst (λ (j : Instance). IsFormBreak (form_of j.kind) (closes_of j.kind) run j h.choice from named) same h.is

-- its ticks lie before the given one
too_early : IsBreakAt small run (OfInstance 0) 3 (Edge 2 2) → ⊥
too_early h = let after : 3 ≤ 2 = (of_check 3 (Edge 2 2) h).edge_in.after in omega arith

-- the clock rises at no other tick
no_rise : IsBreakAt small run (OfInstance 0) 1 (Edge 3 2) → ⊥
no_rise h =
    let near : 4 ≤ 3 = (of_check 1 (Edge 3 2) h).not_before in omega arith

-- ticks of another form
of_a_pulse : IsBreakAt small run (OfInstance 0) 1 (Pulse 2 3) → ⊥
of_a_pulse h = of_check 1 (Pulse 2 3) h

of_a_high : IsBreakAt small run (OfInstance 0) 1 (High 2 3 2) → ⊥
of_a_high h = of_check 1 (High 2 3 2) h

-- the checker has no constraint of widths
no_width : IsBreakAt small run (OfPulse 0 true) 1 (Pulse 2 3) → ⊥
no_width h =
    let same : h.instance ≡ check = cc in
    subst (λ (j : Instance). IsPulseBreak (checks_pulses j.kind) true run j h.choice 1 (Pulse 2 3)) same h.is

no_some : (k : ℕ) → None ≡ Some k → ⊥
no_some k e = cc

-- nothing drives the net
no_driver : IsBreakAt small run (OfNet 0) 1 (Step 2) → ⊥
no_driver h =
    no_some h.driver (ap (λ (n : Net). n.driver) (same_Some input h.net h.is.net_is) ∙ h.is.is_driven)

of_an_edge : IsBreakAt small run (OfNet 0) 1 (Edge 2 2) → ⊥
of_an_edge h = h
