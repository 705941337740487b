-- Where an equation is asked: as far before a tick as its delay and wires reach, and one tick more.
use Rattle.std.proofs.Common.{◌≡◌, ℕ, ◌+◌, ◌≤◌, max, true, List, [], ◌∷◌, get_or, arith, All}
use Rattle.std.proofs.lemmas.List.Elements.{All-nil, All-cons}
use Rattle.scald_base.specs.Time.{Bounds}
use Rattle.element_kinds.specs.declared.kind.Kind.{Kind}
use Rattle.element_kinds.specs.declared.kind.Kind.TheVariants.{Chg, Reg, RegRs, Latch, LatchRs, SetupHold, RiseFall, MinPulse}
use Rattle.flat_circuit.specs.declared.instance.Pin.{Pin}
use Rattle.flat_circuit.specs.declared.net.Net.{Net}
use Rattle.flat_circuit.specs.declared.split.Split.{Split}
use Rattle.element_kinds.specs.Equation.{pins_before, IsAsked}
use Rattle.flat_circuit.specs.Run.{Within, DelayFits, WiresFit}
use Rattle.flat_circuit.specs.Split.{either_delay, IsSplitAsked}
use Rattle.fixpoint_engine.proofs.Permitted.{wire_within}
use Rattle.element_kinds.specs.Kinds.{has_output}
use Rattle.fixpoint_engine.specs.Reach.{greatest_wire}

abbrev pub longest : List ℕ → ℕ
longest [] = 0
longest (w ∷ ws) = max w (longest ws)

pub wires_within : (nets : List Net) (ps : List Pin) (wires : List ℕ) → WiresFit nets ps wires → longest wires ≤ greatest_wire nets ps
wires_within nets [] [] fits = omega arith
wires_within nets [] (w ∷ wires) fits = absurd fits
wires_within nets (p ∷ ps) [] fits = absurd fits
wires_within nets (p ∷ ps) (w ∷ wires) fits =
    let one = (wire_within nets p.target w fits.0).1 in
    let rest = wires_within nets ps wires fits.1 in
    omega (arith, one, rest)

pins_asked : (delay t : ℕ) (wires : List ℕ) → delay + longest wires ≤ t → All (λ back. back ≤ t) (pins_before delay wires)
pins_asked delay t [] far = All-nil (λ (back : ℕ). back ≤ t)
pins_asked delay t (w ∷ wires) far =
    All-cons (λ (back : ℕ). back ≤ t) (delay + w) (pins_before delay wires) (omega arith) (pins_asked delay t wires (omega arith))

first_within : (wires : List ℕ) → get_or wires 0 0 ≤ longest wires
first_within [] = omega arith
first_within (w ∷ wires) = omega arith

more : (back t : ℕ) (others : List ℕ) → back ≤ t → All (λ b. b ≤ t) others → All (λ b. b ≤ t) (back ∷ others)
more back t others le rest = All-cons (λ (b : ℕ). b ≤ t) back others le rest

pub asked : (kind : Kind) (d : Bounds) (delay : ℕ) (wires : List ℕ) (t : ℕ) → has_output kind ≡ true → DelayFits kind d delay → 1 + longest wires + d.max ≤ t → IsAsked kind d delay wires t
asked Chg d delay wires t makes within far = more 1 t _ (omega arith) (pins_asked (d.max + 1) t wires (omega arith))
asked Reg d delay wires t makes within far =
    let high : delay ≤ d.max = within.1 in
    let first = first_within wires in
    more 1 t ((delay + 1 + get_or wires 0 0) ∷ pins_before delay wires) (omega arith)
    (more (delay + 1 + get_or wires 0 0) t (pins_before delay wires) (omega (arith, first, high)) (pins_asked delay t wires (omega arith)))
asked RegRs d delay wires t makes within far =
    let high : delay ≤ d.max = within.1 in
    let first = first_within wires in
    more 1 t ((delay + 1 + get_or wires 0 0) ∷ pins_before delay wires) (omega arith)
    (more (delay + 1 + get_or wires 0 0) t (pins_before delay wires) (omega (arith, first, high)) (pins_asked delay t wires (omega arith)))
asked Latch d delay wires t makes within far = let high : delay ≤ d.max = within.1 in more 1 t _ (omega arith) (pins_asked delay t wires (omega arith))
asked LatchRs d delay wires t makes within far = let high : delay ≤ d.max = within.1 in more 1 t _ (omega arith) (pins_asked delay t wires (omega arith))
asked SetupHold d delay wires t makes within far = cc
asked RiseFall d delay wires t makes within far = cc
asked MinPulse d delay wires t makes within far = cc
asked kind d delay wires t makes within far = let high : delay ≤ d.max = within.1 in pins_asked delay t wires (omega arith)

-- of two delays the longer one counts
pub asked_split : (s : Split) (rise fall : ℕ) (wires : List ℕ) (t : ℕ) → Within s.rise rise → Within s.fall fall →
    1 + longest wires + (either_delay s).max ≤ t → IsSplitAsked rise fall wires t
asked_split s rise fall wires t rises falls far =
    let high : rise ≤ s.rise.max = rises.1 in
    let high' : fall ≤ s.fall.max = falls.1 in
    pins_asked (max rise fall) t wires (omega (arith, high, high', far))
