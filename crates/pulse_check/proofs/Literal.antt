-- What computing finds in runs that are written out, of one instance whose first pin is measured.
use Rattle.std.proofs.Common.{inl, inr, ◌⊎◌, ◌≡◌, ℕ, ◌-◌, ◌<◌, ◌≤◌, Bool, true, false, not, ◌&&◌, nat_le, List, refl, sym, subst, arith, slice_get, Some, None}
use Rattle.std.proofs.lemmas.Bool.{cases_lt, and_from, le-leb}
use Rattle.scald_base.specs.Signal.{Signal}
use Rattle.flat_circuit.specs.declared.instance.Instance.{Instance}
use Rattle.flat_circuit.specs.Circuit.{Circuit}
use Rattle.flat_circuit.specs.Run.{Run, Choice}
use Rattle.flat_circuit.proofs.RunTables.{late}
use Rattle.pin_waves.proofs.Tests.{same_bit, same_bit_is, same_bit_from, implies, implies_is, all_below, each_passes}
use Rattle.fixpoint_engine.specs.Pins.{pin_at}
use Rattle.fixpoint_engine.proofs.WrittenRuns.{alone, run_of, only, only_at}
use Rattle.pulse_check.specs.Break.{IsPulse, IsWidthBreak, BreaksWidth, BreaksKind, BreaksPulse}

-- ---- steps

abbrev pub stepping : Bool → Signal → ℕ → Bool
stepping level x t = same_bit (not level) (x (t - 1)) && same_bit level (x t)

other_level : (level b : Bool) → b ≡ level → b ≡ not level → ⊥
other_level true b is other = cc
other_level false b is other = cc

-- at the level from one tick to before another
abbrev pub stays : Bool → Signal → ℕ → ℕ → Bool
stays level x start end = all_below (λ t. implies (nat_le start t) (same_bit level (x t))) end

pub pulse_to : {x : Signal} {level : Bool} (start end : ℕ) → start < end →
    x (start - 1) ≡ not level →
    stays level x start end ≡ true → x end ≡ not level → IsPulse x level start end
pulse_to {x} {level} start end less before stay behind = record {
  before = before;
  ordered = less;
  during = λ t after below. at t after (omega arith);
  behind = behind;
}
  where
    at : (t : ℕ) → start ≤ t → t < end → x t ≡ level
    at t after below =
        sym (same_bit_is level (x t)
        (implies_is (nat_le start t) (same_bit level (x t))
        (each_passes (λ t. implies (nat_le start t) (same_bit level (x t))) end stay t below)
        (le-leb start t after)))

-- if it is at the other level between, it is no pulse to the end
pub no_pulse : {x : Signal} {level : Bool} {start end : ℕ} (other : ℕ) → x other ≡ not level →
    start ≤ other → other < end →
    ¬ IsPulse x level start end
no_pulse {x} {level} other is after before pulse =
    other_level level (x other) (pulse.during other after (omega arith)) is

-- a pulse has one end
one_end : (x : Signal) (level : Bool) (start end other : ℕ) → IsPulse x level start end →
    IsPulse x level start other → other ≡ end
one_end x level start end other one two = by (cases_lt end other) (cases_lt other end)
  where
    by : (end < other) ⊎ (other ≤ end) → (other < end) ⊎ (end ≤ other) → other ≡ end
    by (inl less) least =
        let ordered = one.ordered in
        absurd (other_level level (x end)
        (two.during end (omega (arith, ordered)) (omega (arith, less))) one.behind)
    by (inr most) (inl less) =
        let ordered = two.ordered in
        absurd (other_level level (x other)
        (one.during other (omega (arith, ordered)) (omega (arith, less))) two.behind)
    by (inr most) (inr least) = omega arith

-- what shows that a break is one, where all of it is written out
pub ruleset found = (arith, pulse_to)

-- ---- circuits of one instance

abbrev pub Breaks : Instance → Run → Bool → ℕ → Type 0
Breaks j run level from = BreaksPulse (alone j) run 0 level from

abbrev BreaksAs : Run → Bool → ℕ → Instance → Choice → Type 0
BreaksAs run level from j choice = BreaksKind j.kind run j choice level from

module _ {j : Instance} {ticks from : ℕ} {wires : List ℕ} {level : Bool}
    {nets : List (List Bool)} where
  pub broken : BreaksKind j.kind (run_of ticks wires nets) j (late 0 wires) level from →
      Breaks j (run_of ticks wires nets) level from
  broken breaks =
      record {
        instance = j;
        choice = late 0 wires;
        instance_is = refl;
        choice_is = refl;
        breaks = breaks;
      }

  pub unbroken : ¬ BreaksKind j.kind (run_of ticks wires nets) j (late 0 wires) level from →
      ¬ Breaks j (run_of ticks wires nets) level from
  unbroken none b =
      let at : Some j ≡ Some b.instance = b.instance_is in
      let by : Some (late 0 wires) ≡ Some b.choice = b.choice_is in
      let same : j ≡ b.instance = cc in
      let same' : late 0 wires ≡ b.choice = cc in
      none
      (subst (λ (i : Instance). BreaksAs (run_of ticks wires nets) level from i (late 0 wires))
      (sym same)
      (subst (λ (ch : Choice). BreaksAs (run_of ticks wires nets) level from b.instance ch)
      (sym same') b.breaks))

-- ---- what is not broken, by the one tick at which a pulse can begin

module _ {run : Run} {j : Instance} {choice : Choice} {level : Bool} {from : ℕ} where
  steps_at : (start : ℕ) → only (stepping level (pin_at run j choice 0)) run.ticks start ≡ true →
      (b : BreaksWidth run j choice level from) →
      b.start ≡ start
  steps_at start steps b =
      let ordered = b.at.is_pulse.ordered in
      only_at (stepping level (pin_at run j choice 0)) run.ticks start b.start steps
      b.at.start_in.ends
      (and_from (same_bit (not level) (pin_at run j choice 0 (b.start - 1)))
      (same_bit level (pin_at run j choice 0 b.start))
      (same_bit_from (not level) (pin_at run j choice 0 (b.start - 1)) (sym b.at.is_pulse.before))
      (same_bit_from level (pin_at run j choice 0 b.start)
      (sym (b.at.is_pulse.during b.start (omega arith) ordered))))

  pub no_width : (start end : ℕ) →
      only (stepping level (pin_at run j choice 0)) run.ticks start ≡ true →
      IsPulse (pin_at run j choice 0) level start end →
      ¬ IsWidthBreak run j choice level from start end → ¬ BreaksWidth run j choice level from
  no_width start end steps pulse none b =
      let s = steps_at start steps b in
      let e = one_end (pin_at run j choice 0) level start end b.end pulse
      (subst (λ (t : ℕ). IsPulse (pin_at run j choice 0) level t b.end) s b.at.is_pulse) in
      none (subst (λ (t : ℕ). IsWidthBreak run j choice level from t end) s
      (subst (λ (t : ℕ). IsWidthBreak run j choice level from b.start t) e b.at))

  -- nor if none begins in the run
  pub no_step : only (stepping level (pin_at run j choice 0)) run.ticks 0 ≡ true →
      ¬ BreaksWidth run j choice level from
  no_step steps b =
      let s = steps_at 0 steps b in
      let begins = b.at.start_in.begins in
      absurd (omega (arith, s, begins))

-- ---- wherever an instance stands

module _ (c : Circuit) (run : Run) (k : ℕ) (level : Bool) (from : ℕ) where
  pub anywhere : (j : Instance) (choice : Choice) → slice_get c.instances k ≡ Some j →
      slice_get run.choices k ≡ Some choice →
      BreaksKind j.kind run j choice level from → BreaksPulse c run k level from
  anywhere j choice is chosen breaks =
      record {
        instance = j;
        choice = choice;
        instance_is = is;
        choice_is = chosen;
        breaks = breaks;
      }

  pub nowhere : slice_get c.instances k ≡ None → ¬ BreaksPulse c run k level from
  nowhere none b = let there = b.instance_is in absurd (cc)
