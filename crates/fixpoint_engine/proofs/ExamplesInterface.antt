-- A small circuit, its runs whose inputs keep their assertions and those whose inputs do not, and
-- waves that permit a run, worked out on paper. The period is eight units of one tick.
use Prim.Native.String.{String}
use Rattle.std.proofs.Common.{◌≡◌, ℕ, false, List, [], ◌∷◌, codes, Option, Some, None, option_map, refl}
use Rattle.scald_base.specs.Time.{Bounds}
use Rattle.scald_base.specs.Clock.{back}
use Rattle.scald_base.specs.declared.assertion.AssertSpec.{AssertSpec}
use Rattle.scald_base.specs.declared.assertion.AssertSpec.TheVariants.{None as Unasserted, Precision, Stable}
use Rattle.vector_names.specs.declared.bits.Target.TheVariants.{Net as OnNet}
use Rattle.step_values.specs.declared.value.Value.TheVariants.{Zero, One, S, C, R, F}
use Rattle.wave_core.specs.Slots.{earlier}
use Rattle.skew_algebra.specs.Wave.{skewed}
use Rattle.element_kinds.specs.declared.kind.Kind.{Kind}
use Rattle.element_kinds.specs.declared.kind.Kind.TheVariants.{Buf, Reg}
use Rattle.flat_circuit.specs.declared.instance.Pin.{Pin}
use Rattle.flat_circuit.specs.declared.instance.Instance.{Instance}
use Rattle.flat_circuit.specs.declared.limits.Limits.TheVariants.{None as Unlimited}
use Rattle.flat_circuit.specs.declared.net.Net.{Net}
use Rattle.flat_circuit.specs.Circuit.{Circuit}
use Rattle.pin_waves.proofs.Tests.{shown}
use Rattle.fixpoint_engine.specs.Waves.{Waves, waves_of}
use Rattle.fixpoint_engine.proofs.Tables.{Inputs, table, run_of, run_permitted}

abbrev pub bounds : ℕ → ℕ → Bounds
bounds min max = record { min = min; max = max }

abbrev pub net : AssertSpec → Bounds → Option ℕ → Net
net spec wire driver = record { name = []; bit = 0; spec = spec; wire = wire; driver = driver }

abbrev pub element : Kind → Bounds → List Pin → Option ℕ → Instance
element kind delay pins out =
    record {
      path = [];
      bit = 0;
      kind = kind;
      delay = delay;
      split = None;
      limits = Unlimited;
      pins = pins;
      out = option_map OnNet out;
      out_inverted = false;
      place = record { line = 1; col = 1 };
    }

abbrev pub on : ℕ → Pin
on i = record { target = OnNet i; inverted = false; hold = false }

abbrev pub circuit : List Net → List Instance → Circuit
circuit nets instances =
    record {
      header = record {
        units = 8;
        ticks = 1;
        wire = bounds 0 0;
        pskew = (0, 0);
        cskew =
            (0, 0);
      };
      nets = nets;
      instances = instances;
      order = [];
    }

-- `.P2-4(1,1)`: 1 at ticks 2 and 3, or one tick sooner or later
abbrev pub clock : AssertSpec
clock = Precision
    (record { spans = record { lo = 2; hi = 4 } ∷ []; low = false; skew = Some (1, 1) })

-- `.S1-4`: no step in slots 2 and 3
abbrev pub stable : AssertSpec
stable = Stable (record { lo = 1; hi = 4 } ∷ [])

-- the clock CK, the data D, the output Q of a register, the constant K, and the output E of a
-- buffer, which asserts that it is constant
abbrev pub small : Circuit
small = circuit
    (net clock (bounds 0 2) None ∷ net stable (bounds 0 0) None
    ∷ net Unasserted (bounds 0 0) (Some 0) ∷ net Unasserted (bounds 0 0) None
    ∷ net (Stable []) (bounds 0 0) (Some 1) ∷ [])
    (element Reg (bounds 1 2) (on 0 ∷ on 1 ∷ []) (Some 2)
    ∷ element Buf (bounds 0 1) (on 2 ∷ []) (Some 4) ∷ [])

-- ---- inputs: the bits of CK, D, Q, K and E

abbrev in_time : List String
in_time = "0011000000" ∷ "0111000011" ∷ "0101010101" ∷ "1111111111" ∷ "0110110110" ∷ []

-- The clock may be a tick early or late; it is not two early, D makes no step in slot 2 or 3, and K
-- none at all. What drives Q and E, or what E asserts, is not asked.
of_ten_ticks : Inputs small 10
    (in_time
    ∷ ("0110000001" ∷ "0111000011" ∷ "0000000000" ∷ "0000000000" ∷ "1111111111" ∷ [])
    ∷ ("0001100000" ∷ "1000111100" ∷ "1111111111" ∷ "0000000000" ∷ "0000000001" ∷ []) ∷ [])
    (("1100000011" ∷ "0111000011" ∷ "0101010101" ∷ "1111111111" ∷ "0110110110" ∷ [])
    ∷ ("0011000000" ∷ "0011000011" ∷ "0101010101" ∷ "1111111111" ∷ "0110110110" ∷ [])
    ∷ ("0011000000" ∷ "0001000011" ∷ "0101010101" ∷ "1111111111" ∷ "0110110110" ∷ [])
    ∷ ("0011000000" ∷ "0111000011" ∷ "0101010101" ∷ "1111111110" ∷ "0110110110" ∷ [])
    ∷ ("0011000000" ∷ "0111000011" ∷ "0101010101" ∷ "0111111111" ∷ "0110110110" ∷ []) ∷ [])
unfolding back
of_ten_ticks = table refl refl

-- no bit past the run's ticks is asked, nor anything of a run of no tick
of_three_ticks : Inputs small 3
    (("0010111" ∷ "0110" ∷ "1" ∷ "1110" ∷ []) ∷ [])
    (("0010111" ∷ "0110" ∷ "1" ∷ "1101" ∷ []) ∷ ("1000111" ∷ "0110" ∷ "1" ∷ "1110" ∷ []) ∷ [])
unfolding back
of_three_ticks = table refl refl

of_one_tick : Inputs small 1 (("0" ∷ "1" ∷ "1" ∷ "1" ∷ "1" ∷ []) ∷ [])
    (("1" ∷ "1" ∷ "1" ∷ "1" ∷ "1" ∷ []) ∷ [])
unfolding back
of_one_tick = table refl refl

of_no_tick : Inputs small 0 (("1" ∷ "1" ∷ "1" ∷ "1" ∷ "1" ∷ []) ∷ [] ∷ []) []
unfolding back
of_no_tick = table refl refl

without_nets : Inputs (circuit [] []) 4 ([] ∷ ("0101" ∷ []) ∷ []) []
without_nets = table refl refl

-- if all nets are driven, anything goes
all_driven : Inputs (circuit (net clock (bounds 0 0) (Some 0) ∷ []) []) 4 (("1010" ∷ []) ∷ []) []
all_driven = table refl refl

-- ---- waves that permit a run: from which ticks on, of 0 to 13

abbrev two : Circuit
two = circuit (net clock (bounds 0 0) None ∷ net stable (bounds 0 0) None ∷ []) []

-- the first comes up to a tick late
abbrev waves : Waves
waves = waves_of
    (skewed (Zero ∷ Zero ∷ R ∷ One ∷ F ∷ Zero ∷ Zero ∷ Zero ∷ []) 1
    ∷ skewed (C ∷ C ∷ S ∷ S ∷ C ∷ C ∷ C ∷ C ∷ []) 0 ∷ [])

abbrev permitted : ℕ → List String → List ℕ
permitted n texts = shown (run_permitted two (run_of n [] texts) waves) 14

whole_run : permitted 10 ("0011000000" ∷ "0111000011" ∷ []) ≡ codes "11111111111111"
unfolding back earlier
whole_run = refl

-- a rise at tick 1 is not permitted, and there is no step into tick 0
early_rise : permitted 10 ("0111000000" ∷ "1111111111" ∷ []) ≡ codes "00111111111111"
unfolding back earlier
early_rise = refl

-- a rise at tick 9, the last of the run, and after it
last_rise : permitted 10 ("0011000001" ∷ "1111111111" ∷ []) ≡ codes "00000000001111"
unfolding back earlier
last_rise = refl

past_the_run : permitted 9 ("0011000001" ∷ "1111111111" ∷ []) ≡ codes "11111111111111"
unfolding back earlier
past_the_run = refl

-- the pulse of the second period is a tick late and that of the first is not: one offset does not
-- serve both
two_offsets : permitted 13 ("0011000000011" ∷ "1111111111111" ∷ []) ≡ codes "00000111111111"
unfolding back earlier
two_offsets = refl

-- the second net counts as the first does: a step at tick 3
second_net : permitted 10 ("0011000000" ∷ "0001111111" ∷ []) ≡ codes "00001111111111"
unfolding back earlier
second_net = refl
