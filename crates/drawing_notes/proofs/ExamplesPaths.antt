-- Paths, worked out on paper: nets on one loop and nets beside it, and what storage launches.
use Rattle.std.specs.Prelude.{◌≡◌, ℕ, ◌+◌, ◌<◌, ◌==◌, nat_lt, ◌&&◌, ◌⊎◌, Bool, true, false, List, [], ◌∷◌, codes, slice_index_or, Some, None}
use Rattle.std.specs.List.{Contains}
use Rattle.std.proofs.Common.{zero, suc, inl, inr, refl, sym, ap, subst, ◌∙◌, arith}
use Rattle.std.proofs.lemmas.Bool.{and_from, and_parts, cases_eq, eq-eqb, eqb-true, ne_eqb}
use Rattle.std.proofs.lemmas.Bool.Decides.{nat_tests}
use Rattle.step_values.specs.declared.value.Value.TheVariants.{Zero, One, S, R, F}
use Rattle.element_kinds.specs.declared.kind.Kind.TheVariants.{Buf, Reg}
use Rattle.flat_circuit.specs.Circuit.{Circuit, driver, wire_at}
use Rattle.flat_circuit.specs.Loop.{Reaches, By_one, And_then}
use Rattle.flat_circuit.specs.declared.limits.Limits.TheVariants.{None as Unlimited}
use Rattle.fixpoint_engine.specs.Waves.{Waves}
use Rattle.timing_analysis.specs.Case.{Case}
use Rattle.drawing_notes.specs.Passing.{is_passable}
use Rattle.drawing_notes.specs.Paths.{leads, Leads, AreLatest, AreTogether, Comes, IsLatest, Launches, Stored, Passed, TellsArrivals, TellsLaunches, TellsLoops, delay_of, is_started, leads_in, makes_of}
use Rattle.drawing_notes.specs.Search.{Over, At_start, By_step}
use Rattle.drawing_omissions.proofs.ExamplesParts.{instance, on}
use Rattle.drawing_notes.proofs.ExamplesCircuit.{three, split_inverter}

-- ---- two buffers from A to B and back, and one from B to C

abbrev ring : Circuit
ring = three (
    instance (codes "b1") Buf Unlimited (on 0 ∷ []) (Some 1) ∷ instance (codes "b2") Buf Unlimited (on 1 ∷ []) (Some 0)
    ∷ instance (codes "b3") Buf Unlimited (on 1 ∷ []) (Some 2) ∷ []) (Some 1) (Some 0) (Some 2)

there_and_back : AreTogether ring 0 1
there_and_back = record { there = By_one refl; back = By_one refl }

by_itself : AreTogether ring 0 0
by_itself = let round : Reaches (Leads ring) 0 0 = And_then {m = 1} refl (By_one refl) in record { there = round; back = round }

-- nothing leads on from C
beside_it : ¬ AreTogether ring 1 2
beside_it t = from_c t.back
  where
    stays : (i j : ℕ) → Leads ring i j → i ≡ 2 → ⊥
    stays i j led at = by j (sym (λ k. leads ring (at k) j) ∙ led)
      where
        by : (j : ℕ) → leads ring 2 j ≡ true → ⊥
        by zero led = cc
        by (suc zero) led = cc
        by (suc (suc zero)) led = cc
        by (suc (suc (suc j))) led = cc

    from_c : Reaches (Leads ring) 2 1 → ⊥
    from_c path = first path refl
      where
        first : {i j : ℕ} → Reaches (Leads ring) i j → i ≡ 2 → ⊥
        first (By_one {i} {j} led) at = stays i j led at
        first (And_then {i} {m} {j} led path) at = stays i m led at

-- so neither no two nets are on one loop nor all of them
abbrev never : ℕ → ℕ → Bool
never i j = false

abbrev always : ℕ → ℕ → Bool
always i j = true

false_is_not_true : ¬ (false ≡ true)
false_is_not_true is = cc

not_no_loop : ¬ TellsLoops ring never
not_no_loop tells = false_is_not_true ((tells 0 1).1 there_and_back)

not_one_loop : ¬ TellsLoops ring always
not_one_loop tells = beside_it ((tells 1 2).0 refl)

-- ---- a register that drives A, and a buffer from A to B: delays of 3 and 3 ticks at most, and a wire of 2

abbrev row : Circuit
row = three (
    instance (codes "r1") Reg Unlimited (on 2 ∷ on 0 ∷ []) (Some 0) ∷ instance (codes "b1") Buf Unlimited (on 0 ∷ []) (Some 1) ∷ [])
    (Some 0) (Some 1) None

abbrev no_loops : ℕ → Bool
no_loops i = false

-- each net may change in a slot
abbrev moving : Waves
moving i = record { cells = Zero ∷ R ∷ One ∷ F ∷ []; skew = 0 }

at_its_output : (rise : Bool) → Launches row no_loops moving 0 rise 0 3
at_its_output rise = Stored refl refl refl

past_a_gate : (rise : Bool) → Launches row no_loops moving 0 rise 1 8
past_a_gate true = Passed 0 {before = true} (at_its_output true) refl refl
past_a_gate false = Passed 0 {before = false} (at_its_output false) refl refl

-- with the wire of the net that leads, which is C's of 7 here
abbrev from_c : Circuit
from_c = three (
    instance (codes "r1") Reg Unlimited (on 1 ∷ on 1 ∷ []) (Some 2) ∷ instance (codes "b1") Buf Unlimited (on 2 ∷ []) (Some 0) ∷ [])
    (Some 1) None (Some 0)

past_its_wire : Launches from_c no_loops moving 0 true 0 13
past_its_wire = Passed 0 {before = true} {from = 2} {ticks = 3} (Stored refl refl refl) refl refl

-- no path passes a loop, nor a net that does not change
abbrev loop_at_b : ℕ → Bool
loop_at_b i = i == 1

ends_there : (storage ticks : ℕ) → ¬ Launches row loop_at_b moving storage true 1 ticks
ends_there storage ticks (Stored driven kept passable) = cc
ends_there storage ticks (Passed place launch makes_it passable) = cc

abbrev still_at_b : Waves
still_at_b zero = moving 0
still_at_b (suc i) = record { cells = S ∷ S ∷ S ∷ S ∷ []; skew = 0 }

ends_where_it_is_still : (storage ticks : ℕ) → ¬ Launches row no_loops still_at_b storage true 1 ticks
ends_where_it_is_still storage ticks (Stored driven kept passable) = cc
ends_where_it_is_still storage ticks (Passed place launch makes_it passable) = cc

-- an input launches nothing
from_an_input : (storage ticks : ℕ) → ¬ Launches row no_loops moving storage true 2 ticks
from_an_input storage ticks (Stored driven kept passable) = cc
from_an_input storage ticks (Passed place launch makes_it passable) = cc

-- ---- the latest of what comes: 8 ticks at B, neither more nor less

launched_at_a : (storage ticks : ℕ) (rise : Bool) → Launches row no_loops moving storage rise 0 ticks → (storage ≡ 0) × (ticks ≡ 3)
launched_at_a storage ticks rise (Stored driven kept passable) = (cc, refl)
launched_at_a storage ticks rise (Passed place launch makes_it passable) = absurd cc

-- B's driver has one pin, on A
made_from_a : (from place : ℕ) (before rise : Bool) → makes_of row moving from before rise place (driver row 1) ≡ true → from ≡ 0
made_from_a from zero before rise makes_it = sym (eqb-true 0 from (and_parts (0 == from) _ makes_it).0)
made_from_a from (suc place) before rise makes_it = absurd cc

launched_at_b : (storage ticks : ℕ) (rise : Bool) → Launches row no_loops moving storage rise 1 ticks → (storage ≡ 0) × (ticks ≡ 8)
launched_at_b storage ticks rise (Stored driven kept passable) = absurd cc
launched_at_b storage ticks rise (Passed place {before = b} {from = from} {ticks = before} launch makes_it passable) =
    let at = made_from_a from place b rise makes_it in
    let at_a = launched_at_a storage before b (subst (λ i. Launches row no_loops moving storage b i before) at launch) in
    (at_a.0, ap (λ i. before + (wire_at row.nets i).max + delay_of rise (driver row 1)) at ∙ ap (λ t. t + 2 + 3) at_a.1)

abbrev one_case : List Case
one_case = record { listed = record { number = 0; values = [] }; rounds = 0; waves = moving } ∷ []

in_one_case : (case : Case) → Contains one_case case → case.waves ≡ moving
in_one_case case at = first at.0 at.1 at.2
  where
    first : (k : ℕ) → k < 1 → slice_index_or one_case k case ≡ case → case.waves ≡ moving
    first zero below is = sym (ap (λ (c : Case). c.waves) is)
    first (suc k) below is = absurd (omega (arith, below))

abbrev comes_at_b : ℕ → ℕ → Type 0
comes_at_b = Comes row no_loops one_case 1

at_b : comes_at_b 0 8
at_b = record { case = record { listed = record { number = 0; values = [] }; rounds = 0; waves = moving }; listed = (0, omega arith, refl); rise = true; launches = past_a_gate true }

all_at_b : (storage ticks : ℕ) → comes_at_b storage ticks → (storage ≡ 0) × (ticks ≡ 8)
all_at_b storage ticks comes =
    launched_at_b storage ticks comes.rise
    (subst (λ (ws : Waves). Launches row no_loops ws storage comes.rise 1 ticks) (in_one_case comes.case comes.listed) comes.launches)

latest_at_b : IsLatest comes_at_b (record { ticks = 8; storage = 0 })
latest_at_b = record { comes = at_b; latest = λ storage ticks comes. inr ((all_at_b storage ticks comes).1, omega arith) }

less_than_the_latest : ¬ IsLatest comes_at_b (record { ticks = 7; storage = 0 })
less_than_the_latest is = elim (is.latest 0 8 at_b) [ inl less ↦ omega (arith, less) | inr same ↦ (let e = same.0 in omega (arith, e)) ]

more_than_the_latest : ¬ IsLatest comes_at_b (record { ticks = 9; storage = 0 })
more_than_the_latest is = let e = (all_at_b 0 9 is.comes).1 in omega (arith, e)

-- of sums that are the same, the earlier storage's
abbrev both_at_eight : ℕ → ℕ → Type 0
both_at_eight storage ticks = ticks ≡ 8

from_the_first : IsLatest both_at_eight (record { ticks = 8; storage = 0 })
from_the_first = record { comes = refl; latest = λ storage ticks is. inr (is, omega arith) }

not_from_the_second : ¬ IsLatest both_at_eight (record { ticks = 8; storage = 1 })
not_from_the_second is = elim (is.latest 0 8 refl) [ inl less ↦ omega (arith, less) | inr same ↦ (let first = same.1 in omega (arith, first)) ]

none_at_b : ¬ TellsArrivals row no_loops one_case (λ net. None)
none_at_b tells = tells 1 0 8 at_b

none_without_a_case : AreLatest (Comes row no_loops [] 1) None
none_without_a_case storage ticks comes = let below = comes.listed.1 in omega (arith, below)

-- ---- rises and falls apart: a buffer of two delays with a complement at its output

abbrev turning : Circuit
turning = three (
    instance (codes "r1") Reg Unlimited (on 2 ∷ on 0 ∷ []) (Some 0)
    ∷ split_inverter (on 0) 1 ∷ []) (Some 0) (Some 1) None

-- the buffer's own fall makes B rise, 5 ticks later at most, and its rise B fall, 4 ticks later
rises_after_a_fall : Launches turning no_loops moving 0 true 1 10
rises_after_a_fall = Passed 0 {before = false} {from = 0} {ticks = 3} (Stored refl refl refl) refl refl

falls_after_a_rise : Launches turning no_loops moving 0 false 1 9
falls_after_a_rise = Passed 0 {before = true} {from = 0} {ticks = 3} (Stored refl refl refl) refl refl

no_rise_of_a_rise : makes_of turning moving 0 true true 0 (driver turning 1) ≡ false
no_rise_of_a_rise = refl

-- ---- its clock is on C, and its input on A

abbrev one_net_each : ℕ → ℕ → Bool
one_net_each clock net = (clock == 2) && nat_lt net 2

not_started : (b : Bool) → false ≡ (b && false)
not_started true = refl
not_started false = refl

neither : (a b : Bool) → (a && false) ≡ (b && false)
neither a b = sym (not_started a) ∙ not_started b

started : (clock i : ℕ) → is_started row no_loops moving clock i ≡ ((clock == 2) && (i == 0))
started clock zero = same_order_of clock
  where
    same_order_of : (clock : ℕ) → (2 == clock) ≡ ((clock == 2) && true)
    same_order_of clock = elim (cases_eq 2 clock) [
      | inl same ↦ eq-eqb 2 clock same ∙ sym (ap (λ b. b && true) (eq-eqb clock 2 (sym same)))
      | inr other ↦ ne_eqb 2 clock other ∙ sym (ap (λ b. b && true) (ne_eqb clock 2 (λ e. other (sym e))))
    ]
started clock (suc zero) = not_started (clock == 2)
started clock (suc (suc zero)) = not_started (clock == 2)
started clock (suc (suc (suc i))) =
    let no : (suc (suc (suc i)) == 0) ≡ false = ne_eqb (suc (suc (suc i))) 0 (λ e. omega (arith, e)) in
    neither (is_passable row no_loops moving (suc (suc (suc i)))) (clock == 2)
    ∙ ap (λ b. (clock == 2) && b) (sym no)

by_its_clock : TellsLaunches row no_loops moving one_net_each
by_its_clock clock net = (there net, back)
  where
    starts : clock ≡ 2 → Over (leads_in row moving) (is_passable row no_loops moving) (is_started row no_loops moving clock) 0
    starts is = At_start (started clock 0 ∙ ap (λ k. (k == 2) && true) is)

    there : (net : ℕ) → one_net_each clock net ≡ true → Over (leads_in row moving) (is_passable row no_loops moving) (is_started row no_loops moving clock) net
    there zero is = starts (eqb-true clock 2 (and_parts (clock == 2) true is).0)
    there (suc zero) is = By_step {from = 0} (starts (eqb-true clock 2 (and_parts (clock == 2) true is).0)) refl refl
    there (suc (suc net)) is =
        let no : nat_lt (suc (suc net)) 2 ≡ false = grind (arith, nat_tests) in
        absurd (false_is_not_true (sym no ∙ (and_parts (clock == 2) (nat_lt (suc (suc net)) 2) is).1))

    led : (from i : ℕ) → leads_in row moving from i ≡ true → i ≡ 1
    led from zero leads = absurd cc
    led from (suc zero) leads = refl
    led from (suc (suc zero)) leads = absurd cc
    led from (suc (suc (suc i))) leads = absurd cc

    back : {i : ℕ} → Over (leads_in row moving) (is_passable row no_loops moving) (is_started row no_loops moving clock) i → one_net_each clock i ≡ true
    back (At_start {i = i} is) = at_start i (sym (started clock i) ∙ is)
      where
        at_start : (i : ℕ) → ((clock == 2) && (i == 0)) ≡ true → one_net_each clock i ≡ true
        at_start zero e = e
        at_start (suc i) e =
            let no : (suc i == 0) ≡ false = ne_eqb (suc i) 0 (λ same. omega (arith, same)) in
            absurd (false_is_not_true (sym no ∙ (and_parts (clock == 2) (suc i == 0) e).1))
    back (By_step {from = from} {i = i} inner leads inside) =
        let one = led from i leads in
        let before = and_parts (clock == 2) (nat_lt from 2) (back inner) in
        ap (one_net_each clock) one ∙ and_from (clock == 2) true before.0 refl

not_none : ¬ TellsLaunches row no_loops moving never
not_none tells = false_is_not_true ((tells 2 0).1 (At_start refl))
