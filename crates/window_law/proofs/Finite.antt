-- A break of a run of any length is one of a run in the window.
use Rattle.std.proofs.Common.{◌≡◌, ℕ, ◌+◌, ◌-◌, ◌*◌, ◌/◌, ◌%◌, ◌≤◌, ◌<◌, min, Bool, true, false, List, sym, ap, subst, ◌∙◌, arith, Option, Some, None, inl, inr, true≢false, slice_get}
use Rattle.std.proofs.Math.Nat.{add-mul-mod_self_right, div-add-mod', mod-eq_of_lt, mod-lt}
use Rattle.std.proofs.lemmas.Bool.{cases_lt}
use Rattle.scald_base.specs.Time.{IsHeader, period}
use Rattle.element_kinds.specs.declared.form.Check.{Check}
use Rattle.element_kinds.specs.declared.form.Check.TheVariants.{SetupHold as AboutRise, RiseFall as RiseToFall, MinPulse as Widths}
use Rattle.element_kinds.specs.declared.form.Form.{Form}
use Rattle.element_kinds.specs.declared.form.Form.TheVariants.{Gate, Change, Register, Latch as Enabled, Checker}
use Rattle.element_kinds.specs.Kinds.{checks_pulses, closes_of, form_of}
use Rattle.flat_circuit.specs.declared.case.CaseValue.{CaseValue}
use Rattle.flat_circuit.specs.declared.instance.Instance.{Instance}
use Rattle.flat_circuit.specs.Circuit.{Circuit}
use Rattle.flat_circuit.specs.Laws.{front, later_part}
use Rattle.flat_circuit.specs.Limits.{hold_of, setup_of}
use Rattle.flat_circuit.specs.Run.{Choice, IsRun, Run}
use Rattle.flat_circuit.proofs.Parts.{front_is_run, later_part_is_run}
use Rattle.fixpoint_engine.specs.Interface.{MeetsInterface}
use Rattle.fixpoint_engine.specs.Pins.{StepsFrom}
use Rattle.fixpoint_engine.specs.Reach.{reach}
use Rattle.case_analysis.specs.Case.{IsInCase}
use Rattle.point_check.specs.Break.{IsRiseFallBreak}
use Rattle.pulse_check.specs.Break.{limit_of}
use Rattle.narrowing.specs.declared.constraint.Constraint.{Constraint}
use Rattle.narrowing.specs.declared.constraint.Constraint.TheVariants.{Instance as OfInstance, Pulse as OfPulse, Net as OfNet}
use Rattle.narrowing.specs.declared.named.Named.{Named}
use Rattle.narrowing.specs.declared.named.Named.TheVariants.{Edge, High, Pulse, Mark, Step}
use Rattle.narrowing.specs.Break.{IsBreakAt, IsCheckBreak, IsClosedBreak, IsFormBreak, IsPulseBreak}
use Rattle.narrowing.specs.Named.{first_of, last_of}
use Rattle.narrowing.proofs.AtTicks.{breaks_at, named_at}
use Rattle.window_law.specs.Laws.{BreaksAreInWindow, LowClocksAreInWindow, LowWindowRefutes, PeriodsMayGo, WindowRefutes}
use Rattle.window_law.specs.Shift.{later_by}
use Rattle.window_law.specs.Window.{HasCut, HasLow, IsShort, IsShortForm, IsShortOf, edge_limits, limits_of, width_limit}
use Rattle.window_law.proofs.Cutting.{break_cut}
use Rattle.window_law.proofs.Inputs.{case_front, case_later, interface_front, interface_later}
use Rattle.window_law.proofs.MovedBreaks.{breaks_may_move}

pub periods_may_go : PeriodsMayGo
periods_may_go = record {
  runs = λ c run m is. later_part_is_run c run (m * period c.header) is;
  meets = λ c run m known meets. interface_later c run m meets;
  in_case = λ c values run m inside. case_later values run (m * period c.header) inside;
}

-- ---- what is known of the ticks of a break

-- They lie in the run and from the given tick on, and are at most so far apart.
record Lies (ticks from apart : ℕ) (named : Named) : Type 0 where
  after : from ≤ first_of named
  ends : last_of named < ticks
  near : last_of named ≤ first_of named + apart

module _ (run : Run) (j : Instance) (choice : Choice) (from : ℕ) where
  check_lies : (check : Check) (named : Named) → IsShortForm (Checker check) → IsCheckBreak check run j choice from named →
      Lies run.ticks from (setup_of j.limits + hold_of j.limits) named
  check_lies AboutRise (Edge rise change) short at =
      let one = at.edge_in.after in
      let other = at.change_in.after in
      let one_ends = at.edge_in.ends in
      let other_ends = at.change_in.ends in
      let soon = at.not_before in
      let over = at.not_after in
      record {
        after = omega (arith, one, other);
        ends = omega (arith, one_ends, other_ends);
        near = omega (arith, soon, over);
      }
  check_lies AboutRise (High rise fall change) short at = absurd at
  check_lies AboutRise (Pulse start end) short at = absurd at
  check_lies AboutRise (Mark tick marked pin) short at = absurd at
  check_lies AboutRise (Step tick) short at = absurd at
  check_lies RiseToFall named short at = absurd short
  check_lies Widths (Edge rise change) short at = absurd at
  check_lies Widths (High rise fall change) short at = absurd at
  check_lies Widths (Pulse start end) short at = absurd at
  check_lies Widths (Mark tick marked pin) short at = absurd at
  check_lies Widths (Step tick) short at = absurd at

  closed_lies : (closes : Option Bool) (named : Named) (apart : ℕ) → IsClosedBreak closes run j choice from named →
      Lies run.ticks from apart named
  closed_lies None (Edge rise change) apart at = absurd at
  closed_lies None (High rise fall change) apart at = absurd at
  closed_lies None (Pulse start end) apart at = absurd at
  closed_lies None (Mark tick marked pin) apart at = absurd at
  closed_lies None (Step tick) apart at = absurd at
  closed_lies (Some closed) (Edge rise change) apart at = absurd at
  closed_lies (Some closed) (High rise fall change) apart at = absurd at
  closed_lies (Some closed) (Pulse start end) apart at = absurd at
  closed_lies (Some closed) (Mark tick marked pin) apart at =
      record { after = at.pin_in.after; ends = at.pin_in.ends; near = omega arith }
  closed_lies (Some closed) (Step tick) apart at = absurd at

  form_lies : (form : Form) (closes : Option Bool) (named : Named) → IsShortForm form →
      IsFormBreak form closes run j choice from named → Lies run.ticks from (setup_of j.limits + hold_of j.limits) named
  form_lies Gate closes named short at = closed_lies closes named (setup_of j.limits + hold_of j.limits) at
  form_lies Change closes named short at = absurd at
  form_lies (Register forced) closes named short at = absurd at
  form_lies (Enabled forced) closes named short at = absurd at
  form_lies (Checker check) closes named short at = check_lies check named short at

  pulse_lies : (measures high : Bool) (named : Named) → IsPulseBreak measures high run j choice from named →
      Lies run.ticks from (limit_of j high) named
  pulse_lies false high (Edge rise change) at = absurd at
  pulse_lies false high (High rise fall change) at = absurd at
  pulse_lies false high (Pulse start end) at = absurd at
  pulse_lies false high (Mark tick marked pin) at = absurd at
  pulse_lies false high (Step tick) at = absurd at
  pulse_lies true high (Edge rise change) at = absurd at
  pulse_lies true high (High rise fall change) at = absurd at
  pulse_lies true high (Pulse start end) at =
      let narrow = at.narrow in
      record { after = at.start_in.after; ends = at.end_in.ends; near = omega (arith, narrow) }
  pulse_lies true high (Mark tick marked pin) at = absurd at
  pulse_lies true high (Step tick) at = absurd at

-- ---- the same where the clock falls at most so many ticks after it rises

farther : (ticks from apart more : ℕ) (named : Named) → apart ≤ more → Lies ticks from apart named →
    Lies ticks from more named
farther ticks from apart more named less lies =
    let near = lies.near in
    record { after = lies.after; ends = lies.ends; near = omega (arith, near, less) }

module _ (run : Run) (j : Instance) (choice : Choice) (from p : ℕ)
    (falls : (rise fall change : ℕ) → IsRiseFallBreak run j choice from rise fall change → fall ≤ rise + p) where
  abbrev all : ℕ
  all = setup_of j.limits + hold_of j.limits

  check_low : (check : Check) (named : Named) → IsCheckBreak check run j choice from named →
      Lies run.ticks from (all + p) named
  check_low AboutRise named at =
      farther run.ticks from all (all + p) named (omega arith) (check_lies run j choice from AboutRise named tt at)
  check_low RiseToFall (Edge rise change) at = absurd at
  check_low RiseToFall (High rise fall change) at =
      let one = at.edge_in.after in
      let other = at.change_in.after in
      let one_ends = at.fall_in.ends in
      let other_ends = at.change_in.ends in
      let soon = at.not_before in
      let over = at.not_after in
      let next = falls rise fall change at in
      record {
        after = omega (arith, one, other);
        ends = omega (arith, one_ends, other_ends);
        near = omega (arith, soon, over, next);
      }
  check_low RiseToFall (Pulse start end) at = absurd at
  check_low RiseToFall (Mark tick marked pin) at = absurd at
  check_low RiseToFall (Step tick) at = absurd at
  check_low Widths named at =
      farther run.ticks from all (all + p) named (omega arith) (check_lies run j choice from Widths named tt at)

  form_low : (form : Form) (closes : Option Bool) (named : Named) → IsFormBreak form closes run j choice from named →
      Lies run.ticks from (all + p) named
  form_low Gate closes named at = closed_lies run j choice from closes named (all + p) at
  form_low Change closes named at = absurd at
  form_low (Register forced) closes named at = absurd at
  form_low (Enabled forced) closes named at = absurd at
  form_low (Checker check) closes named at = check_low check named at

-- a tick of each period lies in the slot
at_slot : (p rise slot : ℕ) → 0 < p → slot < p → (t : ℕ) × (rise ≤ t) × (t < rise + p) × (t % p ≡ slot)
at_slot p rise slot some below =
    let whole = div-add-mod' rise p in
    let less : rise % p < p = mod-lt rise some in
    let q : ℕ = rise / p in
    elim (cases_lt slot (rise % p)) [
      | inl before ↦ (
        slot + (q + 1) * p,
        omega (arith, whole, less),
        omega (arith, whole, before),
        add-mul-mod_self_right slot (q + 1) p ∙ mod-eq_of_lt below,
      )
      | inr after ↦ (
        slot + q * p,
        omega (arith, whole, after),
        omega (arith, whole, below),
        add-mul-mod_self_right slot q p ∙ mod-eq_of_lt below,
      )
    ]

falls_soon : (c : Circuit) (values : List CaseValue) (k printed : ℕ) (run : Run) (j : Instance) (choice : Choice)
    (rise fall change : ℕ) → 0 < period c.header → HasLow c values k printed → IsRun c run → MeetsInterface c run →
    IsInCase values run → slice_get c.instances k ≡ Some j → slice_get run.choices k ≡ Some choice →
    IsRiseFallBreak run j choice printed rise fall change → fall ≤ rise + period c.header
falls_soon c values k printed run j choice rise fall change some low is meets inside here chosen h =
    elim (cases_lt (rise + period c.header) fall) [
      | inl late ↦
          let found = at_slot (period c.header) rise low.slot some low.inside in
          let t : ℕ = found.0 in
          let from : rise ≤ t = found.1 in
          let below : t < rise + period c.header = found.2 in
          let begins = h.edge_in.after in
          let ends = h.fall_in.ends in
          absurd (true≢false (sym (h.is_high.high t from (omega (arith, below, late)))
          ∙ low.low run j choice t is meets inside here chosen (omega (arith, begins, from))
          (omega (arith, below, late, ends)) found.3))
      | inr near ↦ near
    ]

break_lies : (c : Circuit) (run : Run) (x : Constraint) (from : ℕ) (named : Named) → IsShort c x →
    IsBreakAt c run x from named → Lies run.ticks from (limits_of c x) named
break_lies c run (OfInstance k) from named short at =
    subst (λ (found : Option Instance). Lies run.ticks from (edge_limits found) named) (sym at.instance_is)
    (form_lies run at.instance at.choice from (form_of at.instance.kind) (closes_of at.instance.kind) named
    (subst IsShortOf at.instance_is short) at.is)
break_lies c run (OfPulse k high) from named short at =
    subst (λ (found : Option Instance). Lies run.ticks from (width_limit found high) named) (sym at.instance_is)
    (pulse_lies run at.instance at.choice from (checks_pulses at.instance.kind) high named at.is)
break_lies c run (OfNet i) from (Edge rise change) short at = absurd at
break_lies c run (OfNet i) from (High rise fall change) short at = absurd at
break_lies c run (OfNet i) from (Pulse start end) short at = absurd at
break_lies c run (OfNet i) from (Mark tick marked pin) short at = absurd at
break_lies c run (OfNet i) from (Step tick) short at =
    record { after = at.is.after; ends = at.is.ends; near = omega arith }

-- ---- from a later tick on, where all ticks lie

later_steps : (run : Run) (choice : Choice) (pin from more t : ℕ) → more ≤ t → StepsFrom run choice pin from t →
    StepsFrom run choice pin more t
later_steps run choice pin from more t after steps = record { after = after; begins = steps.begins; ends = steps.ends }

module _ (run : Run) (j : Instance) (choice : Choice) (from more : ℕ) where
  again : (pin t : ℕ) → more ≤ t → StepsFrom run choice pin from t → StepsFrom run choice pin more t
  again pin t after steps = later_steps run choice pin from more t after steps

  check_again : (check : Check) (named : Named) → more ≤ first_of named → IsCheckBreak check run j choice from named →
      IsCheckBreak check run j choice more named
  check_again AboutRise (Edge rise change) after at = record {
    edge_in = again 0 rise (omega arith) at.edge_in;
    change_in = again 1 change (omega arith) at.change_in;
    rises = at.rises;
    changes = at.changes;
    not_before = at.not_before;
    not_after = at.not_after;
  }
  check_again AboutRise (High rise fall change) after at = absurd at
  check_again AboutRise (Pulse start end) after at = absurd at
  check_again AboutRise (Mark tick marked pin) after at = absurd at
  check_again AboutRise (Step tick) after at = absurd at
  check_again RiseToFall (Edge rise change) after at = absurd at
  check_again RiseToFall (High rise fall change) after at =
      let ordered = at.is_high.ordered in
      record {
        edge_in = again 0 rise (omega arith) at.edge_in;
        fall_in = again 0 fall (omega (arith, ordered)) at.fall_in;
        change_in = again 1 change (omega arith) at.change_in;
        is_high = at.is_high;
        changes = at.changes;
        not_before = at.not_before;
        not_after = at.not_after;
      }
  check_again RiseToFall (Pulse start end) after at = absurd at
  check_again RiseToFall (Mark tick marked pin) after at = absurd at
  check_again RiseToFall (Step tick) after at = absurd at
  check_again Widths (Edge rise change) after at = absurd at
  check_again Widths (High rise fall change) after at = absurd at
  check_again Widths (Pulse start end) after at = absurd at
  check_again Widths (Mark tick marked pin) after at = absurd at
  check_again Widths (Step tick) after at = absurd at

  closed_again : (closes : Option Bool) (named : Named) → more ≤ first_of named →
      IsClosedBreak closes run j choice from named → IsClosedBreak closes run j choice more named
  closed_again None (Edge rise change) after at = absurd at
  closed_again None (High rise fall change) after at = absurd at
  closed_again None (Pulse start end) after at = absurd at
  closed_again None (Mark tick marked pin) after at = absurd at
  closed_again None (Step tick) after at = absurd at
  closed_again (Some closed) (Edge rise change) after at = absurd at
  closed_again (Some closed) (High rise fall change) after at = absurd at
  closed_again (Some closed) (Pulse start end) after at = absurd at
  closed_again (Some closed) (Mark tick marked pin) after at = record {
    is_marked = at.is_marked;
    below = at.below;
    apart = at.apart;
    marked_in = again marked tick after at.marked_in;
    pin_in = again pin tick after at.pin_in;
    leaves = at.leaves;
    changes = at.changes;
  }
  closed_again (Some closed) (Step tick) after at = absurd at

  form_again : (form : Form) (closes : Option Bool) (named : Named) → more ≤ first_of named →
      IsFormBreak form closes run j choice from named → IsFormBreak form closes run j choice more named
  form_again Gate closes named after at = closed_again closes named after at
  form_again Change closes named after at = absurd at
  form_again (Register forced) closes named after at = absurd at
  form_again (Enabled forced) closes named after at = absurd at
  form_again (Checker check) closes named after at = check_again check named after at

  pulse_again : (measures high : Bool) (named : Named) → more ≤ first_of named →
      IsPulseBreak measures high run j choice from named → IsPulseBreak measures high run j choice more named
  pulse_again false high (Edge rise change) after at = absurd at
  pulse_again false high (High rise fall change) after at = absurd at
  pulse_again false high (Pulse start end) after at = absurd at
  pulse_again false high (Mark tick marked pin) after at = absurd at
  pulse_again false high (Step tick) after at = absurd at
  pulse_again true high (Edge rise change) after at = absurd at
  pulse_again true high (High rise fall change) after at = absurd at
  pulse_again true high (Pulse start end) after at =
      let ordered = at.is_pulse.ordered in
      record {
        start_in = again 0 start after at.start_in;
        end_in = again 0 end (omega (arith, ordered)) at.end_in;
        is_pulse = at.is_pulse;
        narrow = at.narrow;
      }
  pulse_again true high (Mark tick marked pin) after at = absurd at
  pulse_again true high (Step tick) after at = absurd at

break_again : (c : Circuit) (run : Run) (x : Constraint) (from more : ℕ) (named : Named) → more ≤ first_of named →
    IsBreakAt c run x from named → IsBreakAt c run x more named
break_again c run (OfInstance k) from more named after at = record {
  instance = at.instance;
  choice = at.choice;
  instance_is = at.instance_is;
  choice_is = at.choice_is;
  is = form_again run at.instance at.choice from more (form_of at.instance.kind) (closes_of at.instance.kind) named after at.is;
}
break_again c run (OfPulse k high) from more named after at = record {
  instance = at.instance;
  choice = at.choice;
  instance_is = at.instance_is;
  choice_is = at.choice_is;
  is = pulse_again run at.instance at.choice from more (checks_pulses at.instance.kind) high named after at.is;
}
break_again c run (OfNet i) from more (Edge rise change) after at = absurd at
break_again c run (OfNet i) from more (High rise fall change) after at = absurd at
break_again c run (OfNet i) from more (Pulse start end) after at = absurd at
break_again c run (OfNet i) from more (Mark tick marked pin) after at = absurd at
break_again c run (OfNet i) from more (Step tick) after at = record {
  net = at.net;
  driver = at.driver;
  is = record {
    net_is = at.is.net_is;
    is_driven = at.is.is_driven;
    asserts = at.is.asserts;
    after = after;
    begins = at.is.begins;
    ends = at.is.ends;
    lacks = at.is.lacks;
  };
}

-- ---- ticks that are moved to the front

abbrev earlier_by : ℕ → Named → Named
earlier_by n (Edge rise change) = Edge (rise - n) (change - n)
earlier_by n (High rise fall change) = High (rise - n) (fall - n) (change - n)
earlier_by n (Pulse start end) = Pulse (start - n) (end - n)
earlier_by n (Mark tick marked pin) = Mark (tick - n) marked pin
earlier_by n (Step tick) = Step (tick - n)

-- the least of all ticks; a pulse ends, and a clock falls, after it begins
abbrev least_of : Named → ℕ
least_of (Edge rise change) = min rise change
least_of (High rise fall change) = min (min rise fall) change
least_of (Pulse start end) = min start end
least_of (Mark tick marked pin) = tick
least_of (Step tick) = tick

both_same : (n a b d e : ℕ) (F : ℕ → ℕ → Named) → a ≡ d → b ≡ e → F a b ≡ F d e
both_same n a b d e F one other = ap (λ (t : ℕ). F t b) one ∙ ap (F d) other

moved_back : (n : ℕ) (named : Named) → n ≤ least_of named → later_by n (earlier_by n named) ≡ named
moved_back n (Edge rise change) all =
    both_same n (n + (rise - n)) (n + (change - n)) rise change Edge (omega arith) (omega arith)
moved_back n (High rise fall change) all =
    ap (λ (t : ℕ). High (n + (rise - n)) t (n + (change - n))) (let e : n + (fall - n) ≡ fall = omega arith in e)
    ∙ both_same n (n + (rise - n)) (n + (change - n)) rise change (λ r u. High r fall u) (omega arith) (omega arith)
moved_back n (Pulse start end) all =
    both_same n (n + (start - n)) (n + (end - n)) start end Pulse (omega arith) (omega arith)
moved_back n (Mark tick marked pin) all =
    ap (λ (t : ℕ). Mark t marked pin) (let e : n + (tick - n) ≡ tick = omega arith in e)
moved_back n (Step tick) all = ap Step (let e : n + (tick - n) ≡ tick = omega arith in e)

first_back : (n : ℕ) (named : Named) → n ≤ least_of named → first_of (earlier_by n named) + n ≡ first_of named
first_back n (Edge rise change) all = omega arith
first_back n (High rise fall change) all = omega arith
first_back n (Pulse start end) all = omega arith
first_back n (Mark tick marked pin) all = omega arith
first_back n (Step tick) all = omega arith

-- of a short constraint the least tick is the first
least_is : (c : Circuit) (run : Run) (x : Constraint) (from : ℕ) (named : Named) → IsShort c x →
    IsBreakAt c run x from named → first_of named ≤ least_of named
least_is c run x from (Edge rise change) short at = omega arith
least_is c run (OfInstance k) from (High rise fall change) short at =
    absurd (no_high run at.instance at.choice from (form_of at.instance.kind) (closes_of at.instance.kind) rise fall change
    (subst IsShortOf at.instance_is short) at.is)
  where
    no_high : (run : Run) (j : Instance) (choice : Choice) (from : ℕ) (form : Form) (closes : Option Bool)
        (rise fall change : ℕ) → IsShortForm form → IsFormBreak form closes run j choice from (High rise fall change) → ⊥
    no_high run j choice from Gate None rise fall change short at = at
    no_high run j choice from Gate (Some closed) rise fall change short at = at
    no_high run j choice from Change closes rise fall change short at = at
    no_high run j choice from (Register forced) closes rise fall change short at = at
    no_high run j choice from (Enabled forced) closes rise fall change short at = at
    no_high run j choice from (Checker AboutRise) closes rise fall change short at = at
    no_high run j choice from (Checker RiseToFall) closes rise fall change short at = short
    no_high run j choice from (Checker Widths) closes rise fall change short at = at
least_is c run (OfPulse k high) from (High rise fall change) short at =
    absurd (no_pulse run at.instance at.choice from (checks_pulses at.instance.kind) high rise fall change at.is)
  where
    no_pulse : (run : Run) (j : Instance) (choice : Choice) (from : ℕ) (measures high : Bool) (rise fall change : ℕ) →
        IsPulseBreak measures high run j choice from (High rise fall change) → ⊥
    no_pulse run j choice from true high rise fall change at = at
    no_pulse run j choice from false high rise fall change at = at
least_is c run (OfNet i) from (High rise fall change) short at = absurd at
least_is c run (OfInstance k) from (Pulse start end) short at =
    absurd (no_pulse run at.instance at.choice from (form_of at.instance.kind) (closes_of at.instance.kind) start end at.is)
  where
    no_pulse : (run : Run) (j : Instance) (choice : Choice) (from : ℕ) (form : Form) (closes : Option Bool) (start end : ℕ) →
        IsFormBreak form closes run j choice from (Pulse start end) → ⊥
    no_pulse run j choice from Gate None start end at = at
    no_pulse run j choice from Gate (Some closed) start end at = at
    no_pulse run j choice from Change closes start end at = at
    no_pulse run j choice from (Register forced) closes start end at = at
    no_pulse run j choice from (Enabled forced) closes start end at = at
    no_pulse run j choice from (Checker AboutRise) closes start end at = at
    no_pulse run j choice from (Checker RiseToFall) closes start end at = at
    no_pulse run j choice from (Checker Widths) closes start end at = at
least_is c run (OfPulse k high) from (Pulse start end) short at =
    ordered run at.instance at.choice from (checks_pulses at.instance.kind) high start end at.is
  where
    ordered : (run : Run) (j : Instance) (choice : Choice) (from : ℕ) (measures high : Bool) (start end : ℕ) →
        IsPulseBreak measures high run j choice from (Pulse start end) → start ≤ min start end
    ordered run j choice from true high start end at = let less = at.is_pulse.ordered in omega (arith, less)
    ordered run j choice from false high start end at = absurd at
least_is c run (OfNet i) from (Pulse start end) short at = absurd at
least_is c run x from (Mark tick marked pin) short at = omega arith
least_is c run x from (Step tick) short at = omega arith

-- nor does a clock fall before it rises
form_least : (run : Run) (j : Instance) (choice : Choice) (from : ℕ) (form : Form) (closes : Option Bool) (named : Named) →
    IsFormBreak form closes run j choice from named → first_of named ≤ least_of named
form_least run j choice from form closes (Edge rise change) at = omega arith
form_least run j choice from form closes (Mark tick marked pin) at = omega arith
form_least run j choice from form closes (Step tick) at = omega arith
form_least run j choice from Gate None (High rise fall change) at = absurd at
form_least run j choice from Gate (Some closed) (High rise fall change) at = absurd at
form_least run j choice from Change closes (High rise fall change) at = absurd at
form_least run j choice from (Register forced) closes (High rise fall change) at = absurd at
form_least run j choice from (Enabled forced) closes (High rise fall change) at = absurd at
form_least run j choice from (Checker AboutRise) closes (High rise fall change) at = absurd at
form_least run j choice from (Checker RiseToFall) closes (High rise fall change) at =
    let ordered = at.is_high.ordered in omega (arith, ordered)
form_least run j choice from (Checker Widths) closes (High rise fall change) at = absurd at
form_least run j choice from Gate None (Pulse start end) at = absurd at
form_least run j choice from Gate (Some closed) (Pulse start end) at = absurd at
form_least run j choice from Change closes (Pulse start end) at = absurd at
form_least run j choice from (Register forced) closes (Pulse start end) at = absurd at
form_least run j choice from (Enabled forced) closes (Pulse start end) at = absurd at
form_least run j choice from (Checker AboutRise) closes (Pulse start end) at = absurd at
form_least run j choice from (Checker RiseToFall) closes (Pulse start end) at = absurd at
form_least run j choice from (Checker Widths) closes (Pulse start end) at = absurd at

-- ---- the window

-- whole periods between two ticks
periods : (p a printed : ℕ) → 0 < p → printed ≤ a →
    ((a - printed) / p * p + printed ≤ a) × (a < (a - printed) / p * p + printed + p)
periods p a printed some after =
    let whole = div-add-mod' (a - printed) p in
    let less : (a - printed) % p < p = mod-lt (a - printed) some in
    (omega (arith, whole), omega (arith, whole, less))

module _ (c : Circuit) (values : List CaseValue) (x : Constraint) (printed : ℕ) (run : Run) (known : IsHeader c.header)
    (far : reach c ≤ printed) (is : IsRun c run) (meets : MeetsInterface c run) (inside : IsInCase values run)
    (apart : ℕ) (few : apart ≤ limits_of c x + period c.header)
    (all_lie : (r : Run) (ticks : Named) → IsRun c r → MeetsInterface c r → IsInCase values r →
    IsBreakAt c r x printed ticks → Lies r.ticks printed apart ticks)
    (are_least : (r : Run) (ticks : Named) → IsBreakAt c r x printed ticks → first_of ticks ≤ least_of ticks)
    (named : Named) (at : IsBreakAt c run x printed named) where
  some : 0 < period c.header
  some = let two = known.shortest in omega arith

  abbrev m : ℕ
  m = (first_of named - printed) / period c.header

  abbrev n : ℕ
  n = m * period c.header

  abbrev part : Run
  part = later_part n run

  abbrev sooner : Named
  sooner = earlier_by n named

  lies : Lies run.ticks printed apart named
  lies = all_lie run named is meets inside at

  first_period : (n + printed ≤ first_of named) × (first_of named < n + printed + period c.header)
  first_period = periods (period c.header) (first_of named) printed some lies.after

  all_after : n ≤ least_of named
  all_after =
      let least = are_least run named at in
      let begins = first_period.0 in omega (arith, least, begins)

  at_front : IsBreakAt c part x printed sooner
  at_front =
      (breaks_may_move c run x m printed sooner known is far).0
      (subst (λ (ticks : Named). IsBreakAt c run x (n + printed) ticks) (sym (moved_back n named all_after))
      (break_again c run x printed (n + printed) named first_period.0 at))

  part_lies : Lies part.ticks printed apart sooner
  part_lies =
      all_lie part sooner (later_part_is_run c run n is) (interface_later c run m meets) (case_later values run n inside)
      at_front

  abbrev cut : Run
  cut = front (last_of sooner + 1) part

  cut_ticks : cut.ticks ≡ last_of sooner + 1
  cut_ticks = let ends = part_lies.ends in omega (arith, ends)

  begins : first_of sooner < printed + period c.header
  begins =
      let moved = first_back n named all_after in
      let less = first_period.1 in omega (arith, moved, less)

  has_cut : HasCut c values x printed
  has_cut =
      let near = part_lies.near in
      let first = begins in
      let ticks = cut_ticks in
      record {
        run = cut;
        named = sooner;
        cut = record {
          is_run = front_is_run c part (last_of sooner + 1) (later_part_is_run c run n is);
          meets = interface_front c part (last_of sooner + 1) (interface_later c run m meets);
          in_case = case_front values part (last_of sooner + 1) (case_later values run n inside);
          breaks = break_cut c (last_of sooner + 1) part x printed sooner (omega arith) at_front;
          first = begins;
          ends = cut_ticks;
        };
        short = omega (arith, near, first, ticks, few);
      }

pub breaks_are_in_window : BreaksAreInWindow
breaks_are_in_window c values x printed run known far short is meets inside breaks =
    let found = named_at c run x printed breaks in
    has_cut c values x printed run known far is meets inside (limits_of c x) (omega arith)
    (λ r ticks r_is r_meets r_inside at. break_lies c r x printed ticks short at)
    (λ r ticks at. least_is c r x printed ticks short at) found.0 found.1

pub low_clocks_are_in_window : LowClocksAreInWindow
low_clocks_are_in_window c values k printed run known far low is meets inside breaks =
    let some : 0 < period c.header = let two = known.shortest in omega arith in
    let x : Constraint = OfInstance k in
    let found = named_at c run x printed breaks in
    has_cut c values x printed run known far is meets inside (limits_of c x + period c.header) (omega arith)
    (λ r ticks r_is r_meets r_inside at.
    subst (λ (owner : Option Instance). Lies r.ticks printed (edge_limits owner + period c.header) ticks)
    (sym at.instance_is)
    (form_low r at.instance at.choice printed (period c.header)
    (λ rise fall change h. falls_soon c values k printed r at.instance at.choice rise fall change some low r_is r_meets
    r_inside at.instance_is at.choice_is h)
    (form_of at.instance.kind) (closes_of at.instance.kind) ticks at.is))
    (λ r ticks at.
    form_least r at.instance at.choice printed (form_of at.instance.kind) (closes_of at.instance.kind) ticks at.is)
    found.0 found.1

pub window_refutes : WindowRefutes
window_refutes c values x printed run known far short window is meets inside breaks =
    let has = breaks_are_in_window c values x printed run known far short is meets inside breaks in
    window has.run has.cut.is_run has.cut.meets has.cut.in_case has.short
    (breaks_at c has.run x printed has.named has.cut.breaks)

pub low_window_refutes : LowWindowRefutes
low_window_refutes c values k printed run known far low window is meets inside breaks =
    let has = low_clocks_are_in_window c values k printed run known far low is meets inside breaks in
    window has.run has.cut.is_run has.cut.meets has.cut.in_case has.short
    (breaks_at c has.run (OfInstance k) printed has.named has.cut.breaks)
