-- Bits that were written by hand, and where an equation fails in them, tick by tick.
use Rattle.std.proofs.Common.{◌≡◌, ℕ, ◌≤◌, Bool, true, false, List, [], ◌∷◌, map, Option, Some, None, refl, arith}
use Rattle.std.proofs.lemmas.List.Elements.{All-cons, All-nil}
use Rattle.element_kinds.specs.declared.kind.Kind.TheVariants.{Buf, Chg, RegRs}
use Rattle.flat_circuit.specs.declared.instance.Instance.{Instance}
use Rattle.flat_circuit.specs.Circuit.{Circuit}
use Rattle.flat_circuit.specs.Run.{Choice as Chosen, Run}
use Rattle.flat_circuit.proofs.RunTables.{bounds, circuit, constant, driven_by, element, input, on}
use Rattle.trace_sim.specs.Choice.{Bits, chosen}
use Rattle.trace_sim.specs.Making.{seen}
use Rattle.trace_sim.specs.Failure.{FailsAt, failing_net}

abbrev six : List ℕ
six = 0 ∷ 1 ∷ 2 ∷ 3 ∷ 4 ∷ 5 ∷ []

abbrev failing : Instance → Chosen → Bits → List (Option ℕ)
failing i at bits = map (failing_net (seen bits) i at) six

-- what a clock shows
abbrev clock : List Bool
clock = false ∷ true ∷ false ∷ false ∷ false ∷ true ∷ []

-- ---- a buffer that takes one tick

abbrev buffer : Instance
buffer = element Buf (bounds 1 1) (on 1 ∷ []) 0

abbrev at_once : Chosen
at_once = chosen (1, 1) (0 ∷ [])

-- it follows the clock, and its first bit may be either
abbrev following : Bool → List Bool
following first = first ∷ false ∷ true ∷ false ∷ false ∷ false ∷ []

pub follows : failing buffer at_once (following true ∷ clock ∷ []) ≡ None ∷ None ∷ None ∷ None ∷ None ∷ None ∷ []
follows = refl

pub first_bit_is_free : failing buffer at_once (following false ∷ clock ∷ []) ≡ None ∷ None ∷ None ∷ None ∷ None ∷ None ∷ []
first_bit_is_free = refl

-- a 1 at tick 1 if the clock was 0 at tick 0
abbrev early : List Bool
early = true ∷ true ∷ true ∷ false ∷ false ∷ false ∷ []

pub fails_at_one : failing buffer at_once (early ∷ clock ∷ []) ≡ None ∷ Some 0 ∷ None ∷ None ∷ None ∷ None ∷ []
fails_at_one = refl

-- the same by the equation itself
abbrev run : Run
run = record { ticks = 6; choices = at_once ∷ []; bits = early ∷ clock ∷ [] }

abbrev one_buffer : Circuit
one_buffer = circuit (driven_by 0 ∷ input ∷ []) (buffer ∷ [])

pub fails_by_equation : FailsAt one_buffer run 0 1
fails_by_equation = record {
  instance = buffer;
  choice = at_once;
  instance_is = refl;
  choice_is = refl;
  within = omega arith;
  asked = All-cons (λ (b : ℕ). b ≤ 1) 1 [] (omega arith) (All-nil (λ (b : ℕ). b ≤ 1));
  fails = λ same. cc;
}

-- a tick later its wire's delay leaves tick 1 open
pub wire_leaves_it_open : failing buffer (chosen (1, 1) (1 ∷ [])) ((true ∷ true ∷ false ∷ true ∷ false ∷ false ∷ []) ∷ clock ∷ [])
    ≡ None ∷ None ∷ None ∷ None ∷ None ∷ None ∷ []
wire_leaves_it_open = refl

-- ---- a change function that may change a tick after a pin steps

abbrev changing : Instance
changing = element Chg (bounds 1 1) (on 1 ∷ []) 0

-- the clock steps at ticks 1, 2 and 5, so the output may change at 2 and at 3
pub may_change : failing changing (chosen (0, 0) (0 ∷ [])) ((true ∷ true ∷ false ∷ true ∷ true ∷ true ∷ []) ∷ clock ∷ [])
    ≡ None ∷ None ∷ None ∷ None ∷ None ∷ None ∷ []
may_change = refl

-- and not at 4
pub may_not_change : failing changing (chosen (0, 0) (0 ∷ [])) ((true ∷ true ∷ false ∷ true ∷ false ∷ false ∷ []) ∷ clock ∷ [])
    ≡ None ∷ None ∷ None ∷ None ∷ Some 0 ∷ None ∷ []
may_not_change = refl

-- ---- set and reset

abbrev forced : Bool → Instance
forced reset = element RegRs (bounds 0 0) (on 1 ∷ constant false ∷ constant true ∷ constant reset ∷ []) 0

abbrev straight : Chosen
straight = chosen (0, 0) (0 ∷ 0 ∷ 0 ∷ 0 ∷ [])

-- both leave each bit open, and set alone asks for a 1
pub both_are_open : failing (forced true) straight ((true ∷ false ∷ false ∷ true ∷ false ∷ true ∷ []) ∷ clock ∷ [])
    ≡ None ∷ None ∷ None ∷ None ∷ None ∷ None ∷ []
both_are_open = refl

pub set_alone : failing (forced false) straight ((false ∷ true ∷ false ∷ true ∷ false ∷ true ∷ []) ∷ clock ∷ [])
    ≡ None ∷ None ∷ Some 0 ∷ None ∷ Some 0 ∷ None ∷ []
set_alone = refl
