-- Small circuits, whose rounds were worked out on paper: a period of eight slots, and a clock that rises at slot 2 and falls
-- at slot 3.
use Rattle.std.specs.Prelude.{◌≡◌, ℕ, true, false, List, [], ◌∷◌, Some, None}
use Rattle.std.proofs.Common.{refl}
use Rattle.scald_base.specs.Time.{Header, Bounds}
use Rattle.scald_base.specs.Clock.{back}
use Rattle.scald_base.specs.declared.assertion.AssertSpec.TheVariants.{None as Unasserted, Precision}
use Rattle.vector_names.specs.declared.bits.Target.TheVariants.{Net as OnNet}
use Rattle.step_values.specs.declared.value.Value.{Value}
use Rattle.step_values.specs.declared.value.Value.TheVariants.{Zero, S, C, R, F, U}
use Rattle.step_values.specs.Image.{image1, image2, and_image, and_of, xor_image, xor_of, reg_image, reg_of}
use Rattle.wave_core.specs.Slots.{earlier}
use Rattle.skew_algebra.specs.Wave.{Wave, skewed, normal, moved}
use Rattle.element_kinds.specs.declared.kind.Kind.{Kind}
use Rattle.element_kinds.specs.declared.kind.Kind.TheVariants.{Buf, And, Xor, Reg}
use Rattle.flat_circuit.specs.declared.instance.Pin.{Pin}
use Rattle.flat_circuit.specs.declared.instance.Instance.{Instance}
use Rattle.flat_circuit.specs.declared.limits.Limits.TheVariants.{None as Unlimited}
use Rattle.flat_circuit.specs.declared.net.Net.{Net}
use Rattle.flat_circuit.specs.declared.split.Split.{Split}
use Rattle.flat_circuit.specs.Split.{either_delay}
use Rattle.flat_circuit.specs.Circuit.{Circuit}
use Rattle.gate_eval.specs.Meeting.{meeting}
use Rattle.gate_eval.specs.Hold.{hazard}
use Rattle.gate_eval.specs.Instance.{gate_wave}
use Rattle.gate_eval.specs.Split.{split_wave}
use Rattle.storage_eval.specs.Instance.{storage_wave}
use Rattle.fixpoint_engine.specs.Value.{instance_wave}
use Rattle.fixpoint_engine.specs.Rounds.{next, round}
use Rattle.fixpoint_engine.specs.Start.{base_start, is_driven, default_limit}
use Rattle.fixpoint_engine.specs.Work.{is_due, work_to}
use Rattle.fixpoint_engine.specs.Classes.{class_work_to}
use Rattle.fixpoint_engine.specs.Reach.{reach}

abbrev bounds : ℕ → ℕ → Bounds
bounds min max = record { min = min; max = max }

abbrev header : Header
header = record { units = 8; ticks = 1; wire = bounds 0 0; pskew = (0, 0); cskew = (0, 0) }

-- the clock, which nothing drives
abbrev clock : Net
clock = record { name = []; bit = 0; spec = Precision (record { spans = record { lo = 2; hi = 3 } ∷ []; low = false; skew = None }); wire = bounds 0 0; driver = None }

abbrev driven_by : ℕ → Net
driven_by k = record { name = []; bit = 0; spec = Unasserted; wire = bounds 0 0; driver = Some k }

abbrev on : ℕ → Pin
on i = record { target = OnNet i; inverted = false; hold = false }

abbrev not_on : ℕ → Pin
not_on i = record { target = OnNet i; inverted = true; hold = false }

abbrev element : Kind → Bounds → List Pin → ℕ → Instance
element kind delay pins out =
    record {
      path = [];
      bit = 0;
      kind = kind;
      delay = delay;
      split = None;
      limits = Unlimited;
      pins = pins;
      out = Some (OnNet out);
      out_inverted = false;
      place = record { line = 1; col = 1 };
    }

-- a buffer with a rise delay and a fall delay
abbrev split_buffer : Split → List Pin → ℕ → Instance
split_buffer s pins out = record (element Buf (either_delay s) pins out) { split = Some s }

abbrev circuit : List Net → List Instance → Circuit
circuit nets instances = record { header = header; nets = nets; instances = instances; order = [] }

-- the waves of nets in a round from unknown
abbrev after : Circuit → ℕ → ℕ → Wave Value
after c r i = round c (is_driven c) (base_start c) r i

-- ---- a buffer keeps the pulse, with a skew; two paths of one clock are folded where they meet

abbrev paths : Circuit
paths = circuit (clock ∷ driven_by 0 ∷ driven_by 1 ∷ driven_by 2 ∷ [])
    (element Buf (bounds 1 3) (on 0 ∷ []) 1 ∷ element Buf (bounds 1 3) (on 0 ∷ []) 2 ∷ element And (bounds 0 0) (on 1 ∷ on 2 ∷ []) 3 ∷ [])

skew_is_kept : after paths 1 1 ≡ skewed (Zero ∷ Zero ∷ Zero ∷ R ∷ F ∷ Zero ∷ Zero ∷ Zero ∷ []) 2
unfolding image1 image2 and_image and_of xor_image xor_of round next instance_wave gate_wave meeting hazard back earlier normal moved
skew_is_kept = refl

skews_are_folded : after paths 2 3 ≡ skewed (Zero ∷ Zero ∷ Zero ∷ R ∷ C ∷ C ∷ F ∷ Zero ∷ []) 0
unfolding image1 image2 and_image and_of xor_image xor_of round next instance_wave gate_wave meeting hazard back earlier normal moved
skews_are_folded = refl

paths_settle : after paths 3 3 ≡ after paths 2 3
unfolding image1 image2 and_image and_of xor_image xor_of round next instance_wave gate_wave meeting hazard back earlier normal moved
paths_settle = refl

-- three are due in round 1, and the AND once more
paths_work : work_to paths (is_driven paths) (after paths) 3 ≡ 4
unfolding image1 image2 and_image and_of work_to is_due round next instance_wave gate_wave meeting hazard back earlier normal moved
paths_work = refl

-- two classes are due in round 1, and that of the AND once more
paths_class_work : class_work_to paths (0 ∷ 7 ∷ 7 ∷ 3 ∷ []) (is_driven paths) (after paths) 3 ≡ 3
unfolding image1 image2 and_image and_of class_work_to is_due round next instance_wave gate_wave meeting hazard back earlier normal moved
paths_class_work = refl

pub paths_reach : reach paths ≡ 4
paths_reach = refl

paths_limit : default_limit paths ≡ 51
paths_limit = refl

-- ---- two delays: a buffer whose rise comes after 1 and whose fall after 3 or 4, and one of the complement, whose output is
-- complemented too, whose rise comes after 2 and whose fall after 0 or 1; the skew stays beside both

abbrev two_by_two : Circuit
two_by_two = circuit (clock ∷ driven_by 0 ∷ driven_by 1 ∷ driven_by 2 ∷ [])
    (element Buf (bounds 1 2) (on 0 ∷ []) 1
    ∷ split_buffer (record { rise = bounds 1 1; fall = bounds 3 4 }) (on 1 ∷ []) 2
    ∷ record (split_buffer (record { rise = bounds 2 2; fall = bounds 0 1 }) (not_on 2 ∷ []) 3) { out_inverted = true } ∷ [])

split_of_unknown : after two_by_two 1 2 ≡ skewed (U ∷ U ∷ U ∷ U ∷ U ∷ U ∷ U ∷ U ∷ []) 0
unfolding image1 round next instance_wave gate_wave split_wave meeting hazard back earlier normal moved
split_of_unknown = refl

split_of_a_pulse : after two_by_two 2 2 ≡ skewed (F ∷ Zero ∷ Zero ∷ Zero ∷ R ∷ S ∷ S ∷ F ∷ []) 1
unfolding image1 round next instance_wave gate_wave split_wave meeting hazard back earlier normal moved
split_of_a_pulse = refl

split_of_the_complement : after two_by_two 3 3 ≡ skewed (S ∷ F ∷ F ∷ Zero ∷ R ∷ R ∷ S ∷ S ∷ []) 1
unfolding image1 round next instance_wave gate_wave split_wave meeting hazard back earlier normal moved
split_of_the_complement = refl

split_settles : after two_by_two 4 3 ≡ after two_by_two 3 3
unfolding image1 round next instance_wave gate_wave split_wave meeting hazard back earlier normal moved
split_settles = refl

-- three are due in round 1, the second in round 2, and the third in round 3
split_work : work_to two_by_two (is_driven two_by_two) (after two_by_two) 4 ≡ 5
unfolding image1 work_to is_due round next instance_wave gate_wave split_wave meeting hazard back earlier normal moved
split_work = refl

-- the greater of the greatest rise delay and the greatest fall delay
split_reach : reach two_by_two ≡ 5
split_reach = refl

-- ---- a loop through a register: its output may change where its clock rises

abbrev loop : Circuit
loop = circuit (clock ∷ driven_by 0 ∷ driven_by 1 ∷ [])
    (element Reg (bounds 1 2) (on 0 ∷ on 2 ∷ []) 1 ∷ element Buf (bounds 0 1) (not_on 1 ∷ []) 2 ∷ [])

loop_output : after loop 2 1 ≡ skewed (S ∷ S ∷ S ∷ C ∷ S ∷ S ∷ S ∷ S ∷ []) 1
unfolding image1 reg_image reg_of round next instance_wave gate_wave storage_wave meeting hazard back earlier normal moved
loop_output = refl

loop_input : after loop 2 2 ≡ skewed (S ∷ S ∷ S ∷ C ∷ S ∷ S ∷ S ∷ S ∷ []) 2
unfolding image1 reg_image reg_of round next instance_wave gate_wave storage_wave meeting hazard back earlier normal moved
loop_input = refl

loop_settles : after loop 3 2 ≡ after loop 2 2
unfolding image1 reg_image reg_of round next instance_wave gate_wave storage_wave meeting hazard back earlier normal moved
loop_settles = refl

-- The buffer alone is due in round 2, since the register does not listen to its input.
loop_work : work_to loop (is_driven loop) (after loop) 3 ≡ 3
unfolding image1 reg_image reg_of work_to is_due round next instance_wave gate_wave storage_wave meeting hazard back earlier normal moved
loop_work = refl

-- ---- loops without storage: nothing is ever known of one, and the low clock clears the other

abbrev fed_back : Kind → Circuit
fed_back kind = circuit (clock ∷ driven_by 0 ∷ []) (element kind (bounds 1 1) (on 0 ∷ on 1 ∷ []) 1 ∷ [])

never_known : after (fed_back Xor) 1 1 ≡ after (fed_back Xor) 0 1
unfolding image1 image2 and_image and_of xor_image xor_of round next instance_wave gate_wave meeting hazard back earlier normal moved
never_known = refl

clearing : after (fed_back And) 2 1 ≡ skewed (Zero ∷ Zero ∷ Zero ∷ Zero ∷ U ∷ Zero ∷ Zero ∷ Zero ∷ []) 0
unfolding image1 image2 and_image and_of xor_image xor_of round next instance_wave gate_wave meeting hazard back earlier normal moved
clearing = refl

cleared : after (fed_back And) 3 1 ≡ skewed (Zero ∷ Zero ∷ Zero ∷ Zero ∷ Zero ∷ Zero ∷ Zero ∷ Zero ∷ []) 0
unfolding image1 image2 and_image and_of xor_image xor_of round next instance_wave gate_wave meeting hazard back earlier normal moved
cleared = refl

clear_settles : after (fed_back And) 4 1 ≡ after (fed_back And) 3 1
unfolding image1 image2 and_image and_of xor_image xor_of round next instance_wave gate_wave meeting hazard back earlier normal moved
clear_settles = refl

-- ---- a skew past the period is one tick less than it

abbrev slow : Circuit
slow = circuit (clock ∷ driven_by 0 ∷ driven_by 1 ∷ []) (element Buf (bounds 0 4095) (on 0 ∷ []) 1 ∷ element Buf (bounds 0 4095) (on 1 ∷ []) 2 ∷ [])

slow_settles : after slow 3 2 ≡ skewed (Zero ∷ Zero ∷ R ∷ F ∷ Zero ∷ Zero ∷ Zero ∷ Zero ∷ []) 7
unfolding image1 image2 and_image and_of xor_image xor_of round next instance_wave gate_wave meeting hazard back earlier normal moved
slow_settles = refl

slow_reach : reach slow ≡ 4096
slow_reach = refl

-- two are due in round 1, and the second once more
slow_work : work_to slow (is_driven slow) (after slow) 3 ≡ 3
unfolding image1 image2 and_image and_of work_to is_due round next instance_wave gate_wave meeting hazard back earlier normal moved
slow_work = refl
