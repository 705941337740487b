-- Which of several breaks comes first, worked out on paper: the one whose greatest tick is least, and of
-- two that end with one tick that of the first element.
use Rattle.std.proofs.Common.{◌≡◌, ℕ, ◌<◌, Bool, true, false, List, [], ◌∷◌, Some, None, refl, sym, subst, ◌∙◌, arith}
use Rattle.std.specs.Prelude.{slice_get}
use Rattle.std.proofs.lemmas.Bool.{agree_below, agree_below_at, both_ways}
use Rattle.std.proofs.lemmas.Option.{same_Some}
use Rattle.element_kinds.specs.declared.kind.Kind.TheVariants.{MinPulse}
use Rattle.element_kinds.specs.declared.form.Check.TheVariants.{MinPulse as Widths}
use Rattle.element_kinds.specs.declared.form.Form.TheVariants.{Checker}
use Rattle.element_kinds.specs.Kinds.{closes_of, form_of}
use Rattle.flat_circuit.specs.declared.instance.Instance.{Instance}
use Rattle.flat_circuit.specs.Circuit.{Circuit}
use Rattle.flat_circuit.specs.Run.{Choice as Chosen}
use Rattle.flat_circuit.proofs.RunTables.{bits, checker, circuit, late, on}
use Rattle.flat_circuit.specs.declared.limits.Limits.TheVariants.{Pulses}
use Rattle.trace_sim.specs.Choice.{Bits}
use Rattle.trace_sim.specs.Simulated.{run_of}
use Rattle.trace_tool.specs.declared.element.Element.TheVariants.{Instance as OfInstance}
use Rattle.trace_tool.specs.Break.{BreaksFirst, BreaksNever}
use Rattle.trace_tool.specs.Pass.{AreAmong, FormEnds, HasSoonest, InstanceEnds, begins, pulse_ends, shown}
use Rattle.trace_tool.proofs.Earliest.{first_of_all, none_yet, one_instance, one_more}
use Rattle.trace_tool.proofs.Soonest.{breaks_by, has_soonest}

-- a checker of the pulses of a net, which are to be so wide if they are high
abbrev pulses_of : ℕ → ℕ → Instance
pulses_of net wide = record (checker MinPulse (on net ∷ [])) { limits = Pulses wide 0 }

-- no net drives another, and none has a place in name order
abbrev checked : List Instance → Circuit
checked instances = circuit [] instances

abbrev straight : Chosen
straight = late 0 (0 ∷ [])

-- ---- one checker

module _ (instances : List Instance) (choices : List Chosen) (rows : Bits) (from k : ℕ) (i : Instance) (is_at : slice_get instances k ≡ Some i)
    (chose : slice_get choices k ≡ Some straight) (of_widths : form_of i.kind ≡ Checker Widths) where
  abbrev ends : ℕ → Bool
  ends t = pulse_ends i.limits (begins from straight.wires 0) (shown rows i straight.wires 0) t

  -- what ends is a pulse
  pulse_of : (t : ℕ) → InstanceEnds (checked instances) choices rows k from t → ends t ≡ true
  pulse_of t e =
      let same_instance : e.instance ≡ i = same_Some e.instance i (sym e.instance_is ∙ is_at) in
      let same_choice : e.choice ≡ straight = same_Some e.choice straight (sym e.choice_is ∙ chose) in
      let moved = subst (λ (j : Instance). FormEnds (form_of j.kind) (closes_of j.kind) rows j e.choice.wires from t) same_instance e.ends in
      let here = subst (λ (choice : Chosen). FormEnds (form_of i.kind) (closes_of i.kind) rows i choice.wires from t) same_choice moved in
      subst (λ form. FormEnds form (closes_of i.kind) rows i straight.wires from t) of_widths here

  ends_at : (t : ℕ) → ends t ≡ true → InstanceEnds (checked instances) choices rows k from t
  ends_at t e = record {
    instance = i;
    choice = straight;
    instance_is = is_at;
    choice_is = chose;
    ends = subst (λ form. FormEnds form (closes_of i.kind) rows i straight.wires from t) (sym of_widths) e;
  }

  pub soonest_at : (ticks t : ℕ) → t < ticks → ends t ≡ true → agree_below ends (λ u. false) t ≡ true →
      HasSoonest (checked instances) (run_of ticks choices rows) from (OfInstance k) (Some t)
  soonest_at ticks t less is none = has_soonest (checked instances) ticks choices rows from (OfInstance k) (Some t) (record {
    below = less;
    is = ends_at t is;
    none_before = λ u before e. both_ways (ends u) (agree_below_at ends (λ u. false) t u none before) (pulse_of u e);
  })

  pub unbroken : (ticks : ℕ) → agree_below ends (λ u. false) ticks ≡ true →
      HasSoonest (checked instances) (run_of ticks choices rows) from (OfInstance k) None
  unbroken ticks none = has_soonest (checked instances) ticks choices rows from (OfInstance k) None
      (λ u before e. both_ways (ends u) (agree_below_at ends (λ u. false) ticks u none before) (pulse_of u e))

-- ---- a clock that is 1 at tick 1 alone, and then from tick 5 on

abbrev one : List Instance
one = pulses_of 0 2 ∷ []

abbrev clock : Bits
clock = bits "010001" ∷ []

one_found : BreaksFirst (checked one) (run_of 6 (straight ∷ []) clock) 1 2 (OfInstance 0)
one_found = first_of_all (checked one) (run_of 6 (straight ∷ []) clock) 1 refl (Some (OfInstance 0, 2))
    (one_more (checked one) (run_of 6 (straight ∷ []) clock) 1 (breaks_by (checked one) 6 (straight ∷ []) clock 1) (AreAmong 0 0) (AreAmong 1 0)
    (OfInstance 0) (one_instance 0) None (Some 2) (none_yet (checked one) (run_of 6 (straight ∷ []) clock) 1)
    (soonest_at one (straight ∷ []) clock 1 0 (pulses_of 0 2) refl refl refl 6 2 (omega arith) refl refl))

-- it names tick 1, so from tick 2 on nothing is broken
none_found : BreaksNever (checked one) (run_of 6 (straight ∷ []) clock) 2
none_found = first_of_all (checked one) (run_of 6 (straight ∷ []) clock) 2 refl None
    (one_more (checked one) (run_of 6 (straight ∷ []) clock) 2 (breaks_by (checked one) 6 (straight ∷ []) clock 2) (AreAmong 0 0) (AreAmong 1 0)
    (OfInstance 0) (one_instance 0) None None (none_yet (checked one) (run_of 6 (straight ∷ []) clock) 2)
    (unbroken one (straight ∷ []) clock 2 0 (pulses_of 0 2) refl refl refl 6 refl))

-- ---- two checkers

abbrev two : List Instance
two = pulses_of 0 9 ∷ pulses_of 1 9 ∷ []

abbrev both : List Chosen
both = straight ∷ straight ∷ []

-- the pulse that begins later ends sooner
abbrev apart : Bits
apart = bits "011100" ∷ bits "001000" ∷ []

sooner_ends : BreaksFirst (checked two) (run_of 6 both apart) 0 3 (OfInstance 1)
sooner_ends = first_of_all (checked two) (run_of 6 both apart) 0 refl (Some (OfInstance 1, 3))
    (one_more (checked two) (run_of 6 both apart) 0 (breaks_by (checked two) 6 both apart 0) (AreAmong 1 0) (AreAmong 2 0)
    (OfInstance 1) (one_instance 1) (Some (OfInstance 0, 4)) (Some 3)
    (one_more (checked two) (run_of 6 both apart) 0 (breaks_by (checked two) 6 both apart 0) (AreAmong 0 0) (AreAmong 1 0)
    (OfInstance 0) (one_instance 0) None (Some 4) (none_yet (checked two) (run_of 6 both apart) 0)
    (soonest_at two both apart 0 0 (pulses_of 0 9) refl refl refl 6 4 (omega arith) refl refl))
    (soonest_at two both apart 0 1 (pulses_of 1 9) refl refl refl 6 3 (omega arith) refl refl))

-- if both end with one tick the first checker's comes first, though its pulse begins later
abbrev together : Bits
together = bits "000100" ∷ bits "011100" ∷ []

first_of_equals : BreaksFirst (checked two) (run_of 6 both together) 0 4 (OfInstance 0)
first_of_equals = first_of_all (checked two) (run_of 6 both together) 0 refl (Some (OfInstance 0, 4))
    (one_more (checked two) (run_of 6 both together) 0 (breaks_by (checked two) 6 both together 0) (AreAmong 1 0) (AreAmong 2 0)
    (OfInstance 1) (one_instance 1) (Some (OfInstance 0, 4)) (Some 4)
    (one_more (checked two) (run_of 6 both together) 0 (breaks_by (checked two) 6 both together 0) (AreAmong 0 0) (AreAmong 1 0)
    (OfInstance 0) (one_instance 0) None (Some 4) (none_yet (checked two) (run_of 6 both together) 0)
    (soonest_at two both together 0 0 (pulses_of 0 9) refl refl refl 6 4 (omega arith) refl refl))
    (soonest_at two both together 0 1 (pulses_of 1 9) refl refl refl 6 4 (omega arith) refl refl))
