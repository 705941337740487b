-- An equation fails exactly if it fixes a bit and the output is another.
use Rattle.std.proofs.Common.{◌≡◌, ◌≢◌, ℕ, zero, suc, ◌+◌, ◌-◌, ◌<◌, ◌≤◌, Bool, true, false, cond, List, [], ◌∷◌, length, Option, Some, None, refl, ap, sym, subst, ◌∙◌, arith, inl, inr}
use Rattle.std.specs.Prelude.{slice_get, is_some}
use Rattle.std.proofs.lemmas.Bool.{cases_order}
use Rattle.std.proofs.lemmas.Option.{same_Some, slice_get_within}
use Rattle.vector_names.specs.declared.bits.Target.{Target}
use Rattle.vector_names.specs.declared.bits.Target.TheVariants.{Net as OnNet, Constant}
use Rattle.element_kinds.specs.declared.kind.Kind.{Kind}
use Rattle.element_kinds.specs.declared.form.Form.{Form}
use Rattle.element_kinds.specs.declared.form.Form.TheVariants.{Gate, Change, Register, Latch as Enabled, Checker}
use Rattle.element_kinds.specs.Kinds.{form_of, has_output, makes_output}
use Rattle.element_kinds.proofs.Forms.{of_form}
use Rattle.scald_base.specs.Time.{Bounds}
use Rattle.scald_base.specs.Signal.{Signal}
use Rattle.flat_circuit.specs.declared.instance.Instance.{Instance}
use Rattle.flat_circuit.specs.Split.{two_delays}
use Rattle.flat_circuit.specs.Circuit.{Circuit, IsCircuit}
use Rattle.flat_circuit.specs.Instances.{out_of}
use Rattle.flat_circuit.specs.Run.{Choice as Chosen, IsRun, Run, out_signal, pin_signals}
use Rattle.trace_sim.specs.declared.choice.Choice.{Choice}
use Rattle.trace_sim.specs.Choice.{AreTraces, Bits, choices_of}
use Rattle.trace_sim.specs.Simulated.{run_of}
use Rattle.trace_sim.specs.Making.{are_there, fixed, fixed_in, named_in, seen}
use Rattle.trace_sim.specs.Failure.{AreFine, ArePicks, FailsAt, FailsFirst, EachObeys, IsFine, IsFirst, contradicts, failing_by, failing_net}
use Rattle.trace_sim.proofs.Chosen.{fits_at, fitting_at, length_chosen}
use Rattle.trace_sim.proofs.Converse.{obeys_fixed}
use Rattle.trace_sim.proofs.Fixed.{IsFixedTo, asked_as, fixed_obeys_at}
use Rattle.trace_sim.proofs.Shown.{from_there}

-- ---- one bit

contradicted : (bit : Option Bool) (out : Bool) → contradicts bit out ≡ true → IsFixedTo bit out → ⊥
contradicted None out differs is = absurd (cc)
contradicted (Some true) true differs is = absurd (cc)
contradicted (Some true) false differs is = absurd (cc)
contradicted (Some false) true differs is = absurd (cc)
contradicted (Some false) false differs is = absurd (cc)

agreed : (bit : Option Bool) (out : Bool) → contradicts bit out ≡ false → IsFixedTo bit out
agreed None out same = tt
agreed (Some true) true same = refl
agreed (Some true) false same = absurd (cc)
agreed (Some false) true same = absurd (cc)
agreed (Some false) false same = refl

some_fixed : (bit : Option Bool) (out : Bool) → contradicts bit out ≡ true → bit ≢ None
some_fixed None out differs is = absurd (cc)
some_fixed (Some b) out differs is = absurd (cc)

-- a net is named if the output is on it and fails
record IsFailing (out : Option Target) (fails : Bool) (net : ℕ) : Type 0 where
  drives : out ≡ Some (OnNet net)
  differs : fails ≡ true

is_failing : (out : Option Target) (fails : Bool) (net : ℕ) → failing_by out fails ≡ Some net → IsFailing out fails net
is_failing None fails net is = absurd (cc)
is_failing (Some (Constant b)) fails net is = absurd (cc)
is_failing (Some (OnNet n)) true net is = record { drives = (let same : n ≡ net = cc in ap (λ (n : ℕ). Some (OnNet n)) same); differs = refl }
is_failing (Some (OnNet n)) false net is = absurd (cc)

-- ---- one instance at one tick

-- if a bit is fixed the equation is required
asked_by : (run : Run) (i : Instance) (at : Chosen) (t : ℕ) → fixed_in run i at t ≢ None → are_there (named_in (form_of i.kind) i.delay at) t ≡ true
asked_by run i at t some = by (are_there (named_in (form_of i.kind) i.delay at) t) refl
  where
    by : (b : Bool) → are_there (named_in (form_of i.kind) i.delay at) t ≡ b → are_there (named_in (form_of i.kind) i.delay at) t ≡ true
    by true is = is
    by false is = absurd (some (ap (λ (b : Bool). cond b (fixed (form_of i.kind) i.kind i.delay at (pin_signals run i.pins at.wires)
        (out_signal run i.out i.out_inverted (t - 1)) t) None) is))

-- a checker has no bit fixed
none_of_form : (form : Form) (kind : Kind) (d : Bounds) (at : Chosen) (xs : List Signal) (old : Bool) (t : ℕ) → makes_output form ≡ false →
    fixed form kind d at xs old t ≡ None
none_of_form Gate kind d at xs old t none = absurd (cc)
none_of_form Change kind d at xs old t none = absurd (cc)
none_of_form (Register forced) kind d at xs old t none = absurd (cc)
none_of_form (Enabled forced) kind d at xs old t none = absurd (cc)
none_of_form (Checker check) kind d at xs old t none = refl

no_output : (run : Run) (i : Instance) (at : Chosen) (t : ℕ) → has_output i.kind ≡ false → fixed_in run i at t ≡ None
no_output run i at t none =
    ap (λ (v : Option Bool). cond (are_there (named_in (form_of i.kind) i.delay at) t) v None)
    (none_of_form (form_of i.kind) i.kind i.delay at (pin_signals run i.pins at.wires) (out_signal run i.out i.out_inverted (t - 1)) t
    (of_form makes_output i.kind ∙ none))
    ∙ either (are_there (named_in (form_of i.kind) i.delay at) t)
  where
    either : (b : Bool) → ◌≡◌ {A = Option Bool} (cond b None None) None
    either true = refl
    either false = refl

-- If no net is named the output is the bit that is fixed, if one is.
fine_is : (c : Circuit) (run : Run) (k : ℕ) (i : Instance) (at : Chosen) (t : ℕ) → IsCircuit c → slice_get c.instances k ≡ Some i →
    failing_net run i at t ≡ None → IsFixedTo (fixed_in run i at t) (out_signal run i.out i.out_inverted t)
fine_is c run k i at t known here none = by i.out refl
  where
    out : Option Target → Bool
    out o = out_signal run o i.out_inverted t

    by : (o : Option Target) → i.out ≡ o → IsFixedTo (fixed_in run i at t) (out_signal run i.out i.out_inverted t)
    by None is =
        let without : has_output i.kind ≡ false = sym (fits_at c k i known here).has_out ∙ ap is_some is in
        subst (λ (b : Option Bool). IsFixedTo b (out_signal run i.out i.out_inverted t)) (sym (no_output run i at t without)) tt
    by (Some (Constant b)) is = absurd (known.drivers.steady k b (ap out_of here ∙ is))
    by (Some (OnNet n)) is =
        agreed (fixed_in run i at t) (out_signal run i.out i.out_inverted t)
        (not_named (contradicts (fixed_in run i at t) (out_signal run i.out i.out_inverted t))
        (ap (λ (o : Option Target). failing_by o (contradicts (fixed_in run i at t) (out_signal run i.out i.out_inverted t))) (sym is) ∙ none))
      where
        not_named : (fails : Bool) → failing_by (Some (OnNet n)) fails ≡ None → fails ≡ false
        not_named true same = absurd (cc)
        not_named false same = refl

fails_at : (c : Circuit) (choice : Choice) (ticks : ℕ) (bits : Bits) (k t net : ℕ) (i : Instance) (at : Chosen) → IsCircuit c → ArePicks c choice →
    slice_get c.instances k ≡ Some i → slice_get (choices_of choice) k ≡ Some at → t < ticks → failing_net (seen bits) i at t ≡ Some net →
    FailsAt c (run_of ticks (choices_of choice) bits) k t
fails_at c choice ticks bits k t net i at known picks here chose below is =
    let run = run_of ticks (choices_of choice) bits in
    let f = fitting_at c choice k i at known (picks.fits k) here chose in
    let failing = is_failing i.out (contradicts (fixed_in run i at t) (out_signal run i.out i.out_inverted t)) net is in
    let there = asked_by run i at t (some_fixed (fixed_in run i at t) (out_signal run i.out i.out_inverted t) failing.differs) in
    record {
      instance = i;
      choice = at;
      instance_is = here;
      choice_is = chose;
      within = below;
      asked = (asked_as i.kind i.delay (two_delays i.kind i.split) at t f.one f.gate).0 (from_there t (named_in (form_of i.kind) i.delay at) there);
      fails = λ holds. contradicted (fixed_in run i at t) (out_signal run i.out i.out_inverted t) failing.differs
          (obeys_fixed run i at t f.some f.one f.gate (λ asked. holds));
    }

pub not_fine : (c : Circuit) (choice : Choice) (ticks : ℕ) (bits : Bits) (k t : ℕ) → IsCircuit c → ArePicks c choice →
    FailsAt c (run_of ticks (choices_of choice) bits) k t → IsFine c (choices_of choice) bits t k → ⊥
not_fine c choice ticks bits k t known picks f fine =
    let run = run_of ticks (choices_of choice) bits in
    let fit = fitting_at c choice k f.instance f.choice known (picks.fits k) f.instance_is f.choice_is in
    f.fails (fixed_obeys_at run f.instance f.choice t fit.some fit.one fit.gate
    (fine_is c run k f.instance f.choice t known f.instance_is (fine f.instance f.choice f.instance_is f.choice_is)) f.asked)

-- ---- all instances at one tick

record Has {X : Type 0} (xs : List X) (k : ℕ) : Type 0 where
  item : X
  is : slice_get xs k ≡ Some item

has_item : {X : Type 0} (xs : List X) (k : ℕ) → k < length xs → Has xs k
has_item [] k below = absurd (omega arith)
has_item (x ∷ xs) zero below = record { item = x; is = refl }
has_item (x ∷ xs) (suc k) below = let h = has_item xs k (omega (arith, below)) in record { item = h.item; is = h.is }

pub fine_next : (c : Circuit) (choices : List Chosen) (bits : Bits) (t k : ℕ) (net : Option ℕ) → net ≡ None →
    ((i : Instance) (at : Chosen) → slice_get c.instances k ≡ Some i → slice_get choices k ≡ Some at → net ≡ failing_net (seen bits) i at t) →
    AreFine c choices bits t k → AreFine c choices bits t (k + 1)
fine_next c choices bits t k net none is before j below = elim (cases_order j k) as (λ _. IsFine c choices bits t j) [
  | inl same ↦ subst (IsFine c choices bits t) (sym same) (λ i at here chose. sym (is i at here chose) ∙ none)
  | inr apart ↦ elim apart as (λ _. IsFine c choices bits t j) [
    | inl less ↦ before j less
    | inr more ↦ absurd (omega (arith, below, more))
  ]
]

pub is_first : (c : Circuit) (choice : Choice) (bits : Bits) (t k n : ℕ) (net : Option ℕ) → ArePicks c choice → k < length c.instances → net ≡ Some n →
    ((i : Instance) (at : Chosen) → slice_get c.instances k ≡ Some i → slice_get (choices_of choice) k ≡ Some at → net ≡ failing_net (seen bits) i at t) →
    AreFine c (choices_of choice) bits t k → IsFirst c (choices_of choice) bits t n
is_first c choice bits t k n net picks below some is before =
    let i = has_item c.instances k below in
    let long = length_chosen choice.delays choice.wires (length c.instances) picks.delays picks.wires in
    let at = has_item (choices_of choice) k (omega (arith, below, long)) in
    record {
      number = k;
      instance = i.item;
      at = at.item;
      instance_is = i.is;
      at_is = at.is;
      fails = sym (is i.item at.item i.is at.is) ∙ some;
      no_other = before;
    }

-- ---- all ticks

-- no instance fails at the first so many ticks
abbrev pub AreFineUntil : Circuit → List Chosen → Bits → ℕ → Type 0
AreFineUntil c choices bits t = (u : ℕ) → u < t → AreFine c choices bits u (length c.instances)

pub fine_more : (c : Circuit) (choices : List Chosen) (bits : Bits) (t : ℕ) → AreFineUntil c choices bits t → AreFine c choices bits t (length c.instances) →
    AreFineUntil c choices bits (t + 1)
fine_more c choices bits t before now u below = elim (cases_order u t) as (λ _. AreFine c choices bits u (length c.instances)) [
  | inl same ↦ subst (λ (u : ℕ). AreFine c choices bits u (length c.instances)) (sym same) now
  | inr apart ↦ elim apart as (λ _. AreFine c choices bits u (length c.instances)) [
    | inl less ↦ before u less
    | inr more ↦ absurd (omega (arith, below, more))
  ]
]

pub fails_first : (c : Circuit) (choice : Choice) (ticks : ℕ) (bits : Bits) (t net : ℕ) → IsCircuit c → ArePicks c choice → t < ticks →
    AreFineUntil c (choices_of choice) bits t → IsFirst c (choices_of choice) bits t net → FailsFirst c (run_of ticks (choices_of choice) bits) t net
unfolding fails_at
fails_first c choice ticks bits t net known picks below before first = record {
  number = first.number;
  at = fails_at c choice ticks bits first.number t net first.instance first.at known picks first.instance_is first.at_is below first.fails;
  drives =
      (is_failing first.instance.out (contradicts (fixed_in (seen bits) first.instance first.at t)
      (out_signal (seen bits) first.instance.out first.instance.out_inverted t)) net first.fails).drives;
  no_sooner = λ j u less f. not_fine c choice ticks bits j u known picks f (before u less j (slice_get_within c.instances j f.instance f.instance_is));
  no_other = λ j less f. not_fine c choice ticks bits j t known picks f (first.no_other j less);
}

pub each_obeys : (c : Circuit) (choice : Choice) (ticks : ℕ) (bits : Bits) (t : ℕ) → IsCircuit c → ArePicks c choice → ticks ≤ t →
    AreFineUntil c (choices_of choice) bits t → EachObeys c (run_of ticks (choices_of choice) bits)
each_obeys c choice ticks bits t known picks past before k i at here chose = λ u below asked.
    let fit = fitting_at c choice k i at known (picks.fits k) here chose in
    let fine = before u (omega (arith, below, past)) k (slice_get_within c.instances k i here) in
    fixed_obeys_at (run_of ticks (choices_of choice) bits) i at u fit.some fit.one fit.gate
    (fine_is c (run_of ticks (choices_of choice) bits) k i at u known here (fine i at here chose)) asked

-- ---- what follows

-- bits of each net in which every equation holds are those of a run
pub is_run : (c : Circuit) (choice : Choice) (ticks : ℕ) (bits : Bits) → IsCircuit c → ArePicks c choice →
    AreTraces (length c.nets) ticks bits → EachObeys c (run_of ticks (choices_of choice) bits) →
    IsRun c (run_of ticks (choices_of choice) bits)
is_run c choice ticks bits known picks traces each = record {
  nets = traces.rows;
  long = traces.long;
  instances = length_chosen choice.delays choice.wires (length c.instances) picks.delays picks.wires;
  at = λ k i at here chose.
      let fit = fitting_at c choice k i at known (picks.fits k) here chose in
      record { delay = fit.delay; wires = fit.wires; obeys = each k i at here chose };
}

-- an equation that fails does not hold
pub not_obeyed : (c : Circuit) (run : Run) (t net : ℕ) → FailsFirst c run t net → EachObeys c run → ⊥
not_obeyed c run t net f each =
    let at = f.at in
    at.fails (each f.number at.instance at.choice at.instance_is at.choice_is t at.within at.asked)

-- two first failures are one
pub record AreOne (t u net other : ℕ) : Type 0 where
  pub ticks : t ≡ u
  pub nets : net ≡ other

pub one_failure : (c : Circuit) (run : Run) (t u net other : ℕ) → FailsFirst c run t net → FailsFirst c run u other →
    AreOne t u net other
one_failure c run t u net other f g = elim (cases_order t u) as (λ _. AreOne t u net other) [
  | inl same ↦ record { ticks = same; nets = one_net (same_number same) }
  | inr apart ↦ elim apart as (λ _. AreOne t u net other) [
    | inl sooner ↦ absurd (g.no_sooner f.number t sooner f.at)
    | inr later ↦ absurd (f.no_sooner g.number u later g.at)
  ]
]
  where
    same_number : t ≡ u → f.number ≡ g.number
    same_number same = elim (cases_order f.number g.number) as (λ _. f.number ≡ g.number) [
      | inl e ↦ e
      | inr apart ↦ elim apart as (λ _. f.number ≡ g.number) [
        | inl before ↦ absurd (g.no_other f.number before (subst (λ (v : ℕ). FailsAt c run f.number v) same f.at))
        | inr after ↦ absurd (f.no_other g.number after (subst (λ (v : ℕ). FailsAt c run g.number v) (sym same) g.at))
      ]
    ]

    one_net : f.number ≡ g.number → net ≡ other
    one_net same =
        let here = f.at.instance_is in
        let there = subst (λ (k : ℕ). slice_get c.instances k ≡ Some g.at.instance) (sym same) g.at.instance_is in
        let one : f.at.instance ≡ g.at.instance = same_Some f.at.instance g.at.instance (sym here ∙ there) in
        let drives : Some (OnNet net) ≡ Some (OnNet other) = sym f.drives ∙ ap (λ (i : Instance). i.out) one ∙ g.drives in
        cc
