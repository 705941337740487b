-- What is broken in a run of a circuit is broken in it as a run of the narrowed circuit, and what is broken from a tick on
-- is from each earlier one.
use Rattle.std.proofs.Common.{◌≡◌, ℕ, zero, suc, ◌+◌, ◌-◌, ◌≤◌, ◌<◌, ◌==◌, Bool, true, false, List, [], ◌∷◌, refl, sym, ap, subst, ◌∙◌, arith, slice_get, Option, Some, None, zero-add}
use Rattle.std.proofs.lemmas.Bool.{cond_both}
use Rattle.scald_base.specs.Time.{Bounds}
use Rattle.scald_base.specs.declared.assertion.AssertSpec.{AssertSpec}
use Rattle.step_values.specs.declared.value.Value.{Value}
use Rattle.step_values.specs.Steps.{has}
use Rattle.element_kinds.specs.declared.form.Check.{Check}
use Rattle.element_kinds.specs.declared.form.Check.TheVariants.{SetupHold as AboutRise, RiseFall as RiseToFall, MinPulse as Widths}
use Rattle.element_kinds.specs.declared.form.Form.{Form}
use Rattle.element_kinds.specs.declared.form.Form.TheVariants.{Gate, Change, Register, Latch as Enabled, Checker}
use Rattle.element_kinds.specs.Kinds.{checks_pulses, closes_of, form_of}
use Rattle.flat_circuit.specs.declared.instance.Instance.{Instance}
use Rattle.flat_circuit.specs.declared.split.Split.{Split}
use Rattle.flat_circuit.specs.Split.{either_delay}
use Rattle.flat_circuit.specs.Circuit.{Circuit}
use Rattle.flat_circuit.specs.declared.net.Net.{Net}
use Rattle.flat_circuit.specs.Run.{Choice, Run, net_signal}
use Rattle.fixpoint_engine.specs.Pins.{StepsFrom}
use Rattle.point_check.specs.Break.{Asserts, wide_at, BreaksCheck, BreaksClosed, BreaksForm, BreaksInstance, BreaksMark, BreaksNet, BreaksRiseFall, BreaksSetupHold}
use Rattle.pulse_check.specs.Break.{BreaksMeasured, BreaksPulse, BreaksWidth, limit_of}
use Rattle.narrowing.specs.declared.constraint.Constraint.{Constraint}
use Rattle.narrowing.specs.declared.constraint.Constraint.TheVariants.{Instance as OfInstance, Pulse as OfPulse, Net as OfNet}
use Rattle.narrowing.specs.declared.part.Part.{Part}
use Rattle.narrowing.specs.declared.part.Part.TheVariants.{Constant, Delay, Offset, Rise, Fall}
use Rattle.narrowing.specs.Constraint.{BreaksOf}
use Rattle.narrowing.specs.Narrowed.{by_part, by_parts, fine_header, fine_spec, if_undriven, narrowed, narrowed_from, narrowed_net, narrowed_spec, offset_in, with_fall, with_rise}
use Rattle.narrowing.specs.Part.{between}
use Rattle.narrowing.proofs.FineWaves.{asserts_fine, wide_at_fine}
use Rattle.narrowing.proofs.Nets.{narrowed_there as narrowed_net_there}

-- ---- an instance with other delays

abbrev with_delays : Instance → Bounds → Option Split → Instance
with_delays j d s = record j { delay = d; split = s }

-- only its delays are other
record IsButDelays (j i : Instance) : Type 0 where
  delay : Bounds
  split : Option Split
  is : i ≡ with_delays j delay split

itself : (j : Instance) → IsButDelays j j
itself j = record { delay = j.delay; split = j.split; is = refl }

after_rise : (j : Instance) (split : Option Split) (d : Bounds) → IsButDelays j (with_rise j split d)
after_rise j None d = itself j
after_rise j (Some s) d = record {
  delay = either_delay (record { rise = d; fall = s.fall });
  split = Some (record { rise = d; fall = s.fall });
  is = refl;
}

after_fall : (j : Instance) (split : Option Split) (d : Bounds) → IsButDelays j (with_fall j split d)
after_fall j None d = itself j
after_fall j (Some s) d = record {
  delay = either_delay (record { rise = s.rise; fall = d });
  split = Some (record { rise = s.rise; fall = d });
  is = refl;
}

after_part : (k : ℕ) (j : Instance) (p : Part) → IsButDelays j (by_part k j p)
after_part k j (Constant net one) = itself j
after_part k j (Offset net least greatest) = itself j
after_part k j (Delay q least greatest) =
    cond_both (q == k) (record j { delay = between least greatest }) j (IsButDelays j)
    (λ is. record { delay = between least greatest; split = j.split; is = refl }) (λ apart. itself j)
after_part k j (Rise q least greatest) =
    cond_both (q == k) (with_rise j j.split (between least greatest)) j (IsButDelays j)
    (λ is. after_rise j j.split (between least greatest)) (λ apart. itself j)
after_part k j (Fall q least greatest) =
    cond_both (q == k) (with_fall j j.split (between least greatest)) j (IsButDelays j)
    (λ is. after_fall j j.split (between least greatest)) (λ apart. itself j)

both : (j i h : Instance) → IsButDelays j i → IsButDelays i h → IsButDelays j h
both j i h one two = record {
  delay = two.delay;
  split = two.split;
  is = two.is ∙ ap (λ x. with_delays x two.delay two.split) one.is;
}

after_parts : (k : ℕ) (j : Instance) (parts : List Part) → IsButDelays j (by_parts k j parts)
after_parts k j [] = itself j
after_parts k j (p ∷ ps) =
    both j (by_part k j p) (by_parts k (by_part k j p) ps) (after_part k j p) (after_parts k (by_part k j p) ps)

-- ---- breaks of such an instance

module _ (run : Run) (j : Instance) (choice : Choice) (t : ℕ) (d : Bounds) (s : Option Split) where
  setup_hold : BreaksSetupHold run j choice t → BreaksSetupHold run (with_delays j d s) choice t
  setup_hold h = record {
    edge = h.edge;
    change = h.change;
    at = record {
      edge_in = h.at.edge_in;
      change_in = h.at.change_in;
      rises = h.at.rises;
      changes = h.at.changes;
      not_before = h.at.not_before;
      not_after = h.at.not_after;
    };
  }

  rise_fall : BreaksRiseFall run j choice t → BreaksRiseFall run (with_delays j d s) choice t
  rise_fall h = record {
    edge = h.edge;
    fall = h.fall;
    change = h.change;
    at = record {
      edge_in = h.at.edge_in;
      fall_in = h.at.fall_in;
      change_in = h.at.change_in;
      is_high = h.at.is_high;
      changes = h.at.changes;
      not_before = h.at.not_before;
      not_after = h.at.not_after;
    };
  }

  mark : (closed : Bool) → BreaksMark run j choice closed t → BreaksMark run (with_delays j d s) choice closed t
  mark closed h = record {
    marked = h.marked;
    pin = h.pin;
    tick = h.tick;
    at = record {
      is_marked = record {
        pin = h.at.is_marked.pin;
        pin_is = h.at.is_marked.pin_is;
        holds = h.at.is_marked.holds;
      };
      below = h.at.below;
      apart = h.at.apart;
      marked_in = h.at.marked_in;
      pin_in = h.at.pin_in;
      leaves = h.at.leaves;
      changes = h.at.changes;
    };
  }

  width : (level : Bool) → BreaksWidth run j choice level t → BreaksWidth run (with_delays j d s) choice level t
  width level h = record {
    start = h.start;
    end = h.end;
    at = record {
      start_in = h.at.start_in;
      end_in = h.at.end_in;
      is_pulse = h.at.is_pulse;
      narrow = narrow_again level h.at.narrow;
    };
  }
    where
      narrow_again : (level : Bool) → h.end < h.start + limit_of j level →
          h.end < h.start + limit_of (with_delays j d s) level
      narrow_again true less = less
      narrow_again false less = less

  by_check : (check : Check) → BreaksCheck check run j choice t → BreaksCheck check run (with_delays j d s) choice t
  by_check AboutRise h = setup_hold h
  by_check RiseToFall h = rise_fall h
  by_check Widths h = h

  by_closed : (closes : Option Bool) → BreaksClosed closes run j choice t →
      BreaksClosed closes run (with_delays j d s) choice t
  by_closed None h = h
  by_closed (Some closed) h = mark closed h

  by_form : (f : Form) (closes : Option Bool) → BreaksForm f closes run j choice t →
      BreaksForm f closes run (with_delays j d s) choice t
  by_form Gate closes h = by_closed closes h
  by_form Change closes h = h
  by_form (Register forced) closes h = h
  by_form (Enabled forced) closes h = h
  by_form (Checker check) closes h = by_check check h

  by_measure : (measures level : Bool) → BreaksMeasured measures run j choice level t →
      BreaksMeasured measures run (with_delays j d s) choice level t
  by_measure true level h = width level h
  by_measure false level h = h

-- ---- breaks of the narrowed circuit

there_from : (parts : List Part) (from k : ℕ) (js : List Instance) (j : Instance) → slice_get js k ≡ Some j →
    slice_get (narrowed_from parts from js) k ≡ Some (by_parts (from + k) j parts)
there_from parts from k [] j is = cc
there_from parts from zero (i ∷ js) j is =
    let same : i ≡ j = cc in ap Some (ap (λ x. by_parts from x parts) same ∙ ap (λ n. by_parts n j parts) (the_same from))
  where
    the_same : (n : ℕ) → n ≡ n + 0
    the_same n = omega arith
there_from parts from (suc k) (i ∷ js) j is =
    there_from parts (from + 1) k js j is ∙ ap (λ n. Some (by_parts n j parts)) (next from k)
  where
    next : (n m : ℕ) → n + 1 + m ≡ n + suc m
    next n m = omega arith

-- the instance of a number has the bounds that parts give it
pub narrowed_there : (parts : List Part) (k : ℕ) (js : List Instance) (j : Instance) → slice_get js k ≡ Some j →
    slice_get (narrowed_from parts 0 js) k ≡ Some (by_parts k j parts)
narrowed_there parts k js j is =
    there_from parts 0 k js j is ∙ ap (λ (n : ℕ). Some (by_parts n j parts)) (zero-add k)

instance_breaks : (c : Circuit) (parts : List Part) (run : Run) (k t : ℕ) → BreaksInstance c run k t →
    BreaksInstance (narrowed c parts) run k t
instance_breaks c parts run k t h =
    let other = after_parts k h.instance parts in
    record {
      instance = by_parts k h.instance parts;
      choice = h.choice;
      instance_is = narrowed_there parts k c.instances h.instance h.instance_is;
      choice_is = h.choice_is;
      breaks = subst (λ (x : Instance). BreaksForm (form_of x.kind) (closes_of x.kind) run x h.choice t) (sym other.is)
          (by_form run h.instance h.choice t other.delay other.split (form_of h.instance.kind) (closes_of h.instance.kind)
          h.breaks);
    }

pulse_breaks : (c : Circuit) (parts : List Part) (run : Run) (k : ℕ) (level : Bool) (t : ℕ) → BreaksPulse c run k level t →
    BreaksPulse (narrowed c parts) run k level t
pulse_breaks c parts run k level t h =
    let other = after_parts k h.instance parts in
    record {
      instance = by_parts k h.instance parts;
      choice = h.choice;
      instance_is = narrowed_there parts k c.instances h.instance h.instance_is;
      choice_is = h.choice_is;
      breaks = subst (λ (x : Instance). BreaksMeasured (checks_pulses x.kind) run x h.choice level t) (sym other.is)
          (by_measure run h.instance h.choice t other.delay other.split (checks_pulses h.instance.kind) level h.breaks);
    }

-- what a driven net asserts is what it did, in units of one tick
spec_is : (c : Circuit) (parts : List Part) (i driver : ℕ) (n : Net) → n.driver ≡ Some driver →
    (narrowed_net c.header parts i n).spec ≡ fine_spec c.header n.spec
spec_is c parts i driver n driven =
    ap (λ (d : Option ℕ). narrowed_spec c.header (if_undriven d (offset_in i parts)) n.spec) driven

net_breaks : (c : Circuit) (parts : List Part) (run : Run) (i t : ℕ) → 0 < c.header.ticks → BreaksNet c run i t →
    BreaksNet (narrowed c parts) run i t
net_breaks c parts run i t some h =
    let own = spec_is c parts i h.driver h.net h.at.is_driven in
    record {
      net = narrowed_net c.header parts i h.net;
      driver = h.driver;
      tick = h.tick;
      at = record {
        net_is = narrowed_net_there c.header parts i c.nets h.net h.at.net_is;
        is_driven = h.at.is_driven;
        asserts = subst Asserts (sym own) (asserts_fine c.header h.net.spec h.at.asserts);
        after = h.at.after;
        begins = h.at.begins;
        ends = h.at.ends;
        lacks =
            ap (λ (spec : AssertSpec). has (wide_at (fine_header c.header) spec h.tick) (net_signal run i (h.tick - 1))
            (net_signal run i h.tick)) own
            ∙ ap (λ (v : Value). has v (net_signal run i (h.tick - 1)) (net_signal run i h.tick))
            (wide_at_fine c.header some h.net.spec h.tick)
            ∙ h.at.lacks;
      };
    }

pub narrowed_breaks : (c : Circuit) (parts : List Part) (run : Run) (x : Constraint) (t : ℕ) → 0 < c.header.ticks →
    BreaksOf c run x t → BreaksOf (narrowed c parts) run x t
narrowed_breaks c parts run (OfInstance k) t some h = instance_breaks c parts run k t h
narrowed_breaks c parts run (OfPulse k high) t some h = pulse_breaks c parts run k high t h
narrowed_breaks c parts run (OfNet i) t some h = net_breaks c parts run i t some h

-- ---- from an earlier tick on

steps_sooner : (run : Run) (choice : Choice) (i from sooner t : ℕ) → sooner ≤ from → StepsFrom run choice i from t →
    StepsFrom run choice i sooner t
steps_sooner run choice i from sooner t less steps =
    let after = steps.after in
    record { after = omega arith; begins = steps.begins; ends = steps.ends }

module _ (run : Run) (j : Instance) (choice : Choice) (from sooner : ℕ) (less : sooner ≤ from) where
  step : (i t : ℕ) → StepsFrom run choice i from t → StepsFrom run choice i sooner t
  step i t = steps_sooner run choice i from sooner t less

  sooner_check : (check : Check) → BreaksCheck check run j choice from → BreaksCheck check run j choice sooner
  sooner_check AboutRise h = record {
    edge = h.edge;
    change = h.change;
    at = record {
      edge_in = step 0 h.edge h.at.edge_in;
      change_in = step 1 h.change h.at.change_in;
      rises = h.at.rises;
      changes = h.at.changes;
      not_before = h.at.not_before;
      not_after = h.at.not_after;
    };
  }
  sooner_check RiseToFall h = record {
    edge = h.edge;
    fall = h.fall;
    change = h.change;
    at = record {
      edge_in = step 0 h.edge h.at.edge_in;
      fall_in = step 0 h.fall h.at.fall_in;
      change_in = step 1 h.change h.at.change_in;
      is_high = h.at.is_high;
      changes = h.at.changes;
      not_before = h.at.not_before;
      not_after = h.at.not_after;
    };
  }
  sooner_check Widths h = h

  sooner_mark : (closes : Option Bool) → BreaksClosed closes run j choice from → BreaksClosed closes run j choice sooner
  sooner_mark None h = h
  sooner_mark (Some closed) h = record {
    marked = h.marked;
    pin = h.pin;
    tick = h.tick;
    at = record {
      is_marked = h.at.is_marked;
      below = h.at.below;
      apart = h.at.apart;
      marked_in = step h.marked h.tick h.at.marked_in;
      pin_in = step h.pin h.tick h.at.pin_in;
      leaves = h.at.leaves;
      changes = h.at.changes;
    };
  }

  sooner_form : (f : Form) (closes : Option Bool) → BreaksForm f closes run j choice from →
      BreaksForm f closes run j choice sooner
  sooner_form Gate closes h = sooner_mark closes h
  sooner_form Change closes h = h
  sooner_form (Register forced) closes h = h
  sooner_form (Enabled forced) closes h = h
  sooner_form (Checker check) closes h = sooner_check check h

  sooner_width : (measures level : Bool) → BreaksMeasured measures run j choice level from →
      BreaksMeasured measures run j choice level sooner
  sooner_width false level h = h
  sooner_width true level h = record {
    start = h.start;
    end = h.end;
    at = record {
      start_in = step 0 h.start h.at.start_in;
      end_in = step 0 h.end h.at.end_in;
      is_pulse = h.at.is_pulse;
      narrow = h.at.narrow;
    };
  }

pub breaks_sooner : (c : Circuit) (run : Run) (x : Constraint) (from sooner : ℕ) → sooner ≤ from → BreaksOf c run x from →
    BreaksOf c run x sooner
breaks_sooner c run (OfInstance k) from sooner less h = record {
  instance = h.instance;
  choice = h.choice;
  instance_is = h.instance_is;
  choice_is = h.choice_is;
  breaks = sooner_form run h.instance h.choice from sooner less (form_of h.instance.kind) (closes_of h.instance.kind) h.breaks;
}
breaks_sooner c run (OfPulse k high) from sooner less h = record {
  instance = h.instance;
  choice = h.choice;
  instance_is = h.instance_is;
  choice_is = h.choice_is;
  breaks = sooner_width run h.instance h.choice from sooner less (checks_pulses h.instance.kind) high h.breaks;
}
breaks_sooner c run (OfNet i) from sooner less h =
    let after = h.at.after in
    record {
      net = h.net;
      driver = h.driver;
      tick = h.tick;
      at = record {
        net_is = h.at.net_is;
        is_driven = h.at.is_driven;
        asserts = h.at.asserts;
        after = omega arith;
        begins = h.at.begins;
        ends = h.at.ends;
        lacks = h.at.lacks;
      };
    }
