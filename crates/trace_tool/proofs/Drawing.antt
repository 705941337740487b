-- The run that a seed draws in a case is a run of the circuit, its inputs keep their assertions, and it is in the case.
use Rattle.std.proofs.Common.{◌≡◌, ℕ, zero, suc, ◌<◌, Bool, true, false, not, ◌&&◌, ◌||◌, ◌==◌, cond, List, [], ◌∷◌, length, get_or, Some, None, Option, refl, ap, subst, sym, ◌∙◌, arith}
use Rattle.std.specs.Prelude.{is_none, is_some, slice_get}
use Rattle.std.proofs.lemmas.Bool.{eqb-true, eq-eqb}
use Rattle.scald_base.specs.Time.{IsHeader}
use Rattle.scald_base.specs.declared.assertion.AssertSpec.{AssertSpec}
use Rattle.scald_base.specs.declared.assertion.AssertSpec.TheVariants.{None as Unasserted, Precision, Clock, Stable}
use Rattle.flat_circuit.specs.declared.case.CaseValue.{CaseValue}
use Rattle.flat_circuit.specs.declared.net.Net.{Net}
use Rattle.flat_circuit.specs.Circuit.{Circuit, IsCircuit, driver_in}
use Rattle.flat_circuit.specs.Alike.{value_after, value_in}
use Rattle.macro_expander.specs.Cases.{is_clock}
use Rattle.fixpoint_engine.specs.Interface.{MeetsInterface}
use Rattle.case_analysis.specs.Case.{IsInCase, is_set}
use Rattle.case_analysis.specs.Listed.{AreOnce, IsListed, is_free, one_more}
use Rattle.case_analysis.proofs.Together.{set_is}
use Rattle.trace_sim.specs.declared.choice.Choice.{Choice}
use Rattle.trace_sim.specs.Choice.{Bits, ChoiceFits, choices_of}
use Rattle.trace_sim.specs.Simulated.{IsSimulated, bit_of, run_of}
use Rattle.trace_sim.specs.Input.{IsDrawn}
use Rattle.trace_sim.specs.DrawLaws.{MayStay, SetsNoClock}
use Rattle.trace_sim.proofs.Inputs.{cases_hold, inputs_meet}
use Rattle.trace_sim.proofs.Keeping.{same_bits}
use Rattle.trace_tool.specs.Ran.{IsDrawnRun}

-- ---- nets that a case may set

and_right : (a b : Bool) → (a && b) ≡ true → b ≡ true
and_right a b both = grind arith

-- there is such a net, and nothing drives it
record FreeNet (found : Option Net) : Type 0 where
  net : Net
  is : found ≡ Some net
  undriven : net.driver ≡ None
  stays : MayStay net.spec

may_stay : (spec : AssertSpec) → not (is_clock spec) ≡ true → MayStay spec
may_stay Unasserted no_clock = tt
may_stay (Precision c) no_clock = absurd cc
may_stay (Clock c) no_clock = absurd cc
may_stay (Stable spans) no_clock = tt

undriven_is : (driver : Option ℕ) (b : Bool) → (is_none driver && b) ≡ true → driver ≡ None
undriven_is None b both = refl
undriven_is (Some k) b both = absurd cc

free_net : (found : Option Net) → is_free found ≡ true → FreeNet found
free_net None free = absurd cc
free_net (Some net) free = record {
  net = net;
  is = refl;
  undriven = undriven_is net.driver (not (is_clock net.spec)) free;
  stays = may_stay net.spec (and_right (is_none net.driver) (not (is_clock net.spec)) free);
}

free_set : (c : Circuit) (values : List CaseValue) (i : ℕ) → ((k : ℕ) (d : CaseValue) → k < length values →
    is_free (slice_get c.nets (get_or values k d).net) ≡ true) → is_set values i ≡ true → is_free (slice_get c.nets i) ≡ true
free_set c [] i free set = absurd cc
free_set c (v ∷ vs) i free set = go (v.net == i) refl set (λ later. free_set c vs i (λ k d below. free (suc k) d (omega arith)) later)
  where
    go : (here : Bool) → (v.net == i) ≡ here → (here || is_set vs i) ≡ true → (is_set vs i ≡ true → is_free (slice_get c.nets i) ≡ true) →
        is_free (slice_get c.nets i) ≡ true
    go true same set rest = subst (λ (n : ℕ). is_free (slice_get c.nets n) ≡ true) (eqb-true v.net i same) (free 0 v (omega arith))
    go false other set rest = rest set

sets_no_clock : (c : Circuit) (values : List CaseValue) → IsListed c values → SetsNoClock c values
sets_no_clock c values listed i net one is set =
    let some : is_some (value_in values i) ≡ true = ap is_some set in
    let free = free_net (slice_get c.nets i) (free_set c values i listed.free (sym (set_is values i) ∙ some)) in
    let same : free.net ≡ net = (let a = free.is in cc) in
    subst (λ (n : Net). MayStay n.spec) same free.stays

-- ---- the value of each net of a case

not_set : (before : Option Bool) (values : List CaseValue) (i : ℕ) → is_set values i ≡ false → value_after before values i ≡ before
not_set before [] i away = refl
not_set before (v ∷ vs) i away = go (v.net == i) refl away (λ later. not_set before vs i later)
  where
    go : (here : Bool) → (v.net == i) ≡ here → (here || is_set vs i) ≡ false → (is_set vs i ≡ false → value_after before vs i ≡ before) →
        value_after (cond here (Some v.one) before) vs i ≡ before
    go true same away rest = absurd cc
    go false other away rest = rest away

value_at : (values : List CaseValue) → AreOnce values → (before : Option Bool) (k : ℕ) (d : CaseValue) → k < length values →
    value_after before values (get_or values k d).net ≡ Some (get_or values k d).one
value_at [] once before k d below = absurd (omega arith)
value_at (v ∷ vs) (one_more apart once) before zero d below =
    ap (λ (here : Bool). value_after (cond here (Some v.one) before) vs v.net) (eq-eqb v.net v.net refl)
    ∙ not_set (Some v.one) vs v.net apart
value_at (v ∷ vs) (one_more apart once) before (suc k) d below =
    value_at vs once (cond (v.net == (get_or vs k d).net) (Some v.one) before) k d (omega arith)

-- ---- the run

meets : (c : Circuit) (values : List CaseValue) (ticks seed : ℕ) (choice : Choice) (bits : Bits) → IsCircuit c → IsHeader c.header →
    IsListed c values → IsDrawn c values ticks seed choice → IsSimulated c choice ticks bits →
    MeetsInterface c (run_of ticks (choices_of choice) bits)
meets c values ticks seed choice bits known head listed drawn made i net is undriven =
    same_bits c.header net.spec ticks (bit_of bits i) (bit_of choice.inputs i)
    (λ t below. made.inputs i t (ap driver_in is ∙ undriven))
    (inputs_meet c values ticks seed choice known head (sets_no_clock c values listed) drawn i net is undriven)

in_case : (c : Circuit) (values : List CaseValue) (ticks seed : ℕ) (choice : Choice) (bits : Bits) → IsCircuit c →
    IsListed c values → IsDrawn c values ticks seed choice → IsSimulated c choice ticks bits →
    IsInCase values (run_of ticks (choices_of choice) bits)
in_case c values ticks seed choice bits known listed drawn made k d inside t below =
    let v = get_or values k d in
    let free = free_net (slice_get c.nets v.net) (listed.free k d inside) in
    made.inputs v.net t (ap driver_in free.is ∙ free.undriven)
    ∙ cases_hold c values ticks seed choice known drawn v.net t free.net v.one free.is (value_at values listed.once None k d inside) below

pub drawn_run_is : (c : Circuit) (values : List CaseValue) (ticks seed : ℕ) (choice : Choice) (bits : Bits) → IsCircuit c → IsHeader c.header →
    IsListed c values → IsDrawn c values ticks seed choice → ChoiceFits c choice ticks → IsSimulated c choice ticks bits →
    IsDrawnRun c values ticks seed choice (run_of ticks (choices_of choice) bits)
drawn_run_is c values ticks seed choice bits known head listed drawn fits made = record {
  drawn = drawn;
  fits = fits;
  long = refl;
  choices = refl;
  made = made;
  is_run = made.is_run;
  meets = meets c values ticks seed choice bits known head listed drawn made;
  in_case = in_case c values ticks seed choice bits known listed drawn made;
}
