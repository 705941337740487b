-- What an evaluation depends on: the kind of an instance, its delays, what is complemented and
-- marked, and the numbers of the waves of what its pins are on. Instances that have these in common
-- make one wave.
use Rattle.std.specs.Prelude.{◌≡◌, ℕ, ◌+◌, ◌*◌, ◌++◌, false, true, List, map, position, zip, if◌then◌else◌, Option, Some, None}
use Rattle.std.specs.Hash as fed
use Rattle.scald_base.specs.Time.{Bounds, Header}
use Rattle.step_values.specs.declared.value.Value.{Value}
use Rattle.step_values.specs.Cell.{values}
use Rattle.skew_algebra.specs.Wave.{Wave, normal}
use Rattle.flat_circuit.specs.declared.instance.Instance.{Instance}
use Rattle.flat_circuit.specs.declared.instance.Pin.{Pin}
use Rattle.flat_circuit.specs.declared.split.Split.{Split}
use Rattle.flat_circuit.specs.Circuit.{Circuit}
use Rattle.pin_waves.specs.Interface.{constant_wave}
use Rattle.pin_waves.specs.Pin.{pin_wave as wave_behind}
use Rattle.fixpoint_engine.specs.Table.{AreKnown, IsNumber, wave_at}
use Rattle.fixpoint_engine.specs.Waves.{Waves, pin_waves}
use Rattle.fixpoint_engine.specs.declared.key.Constants.{Constants}
use Rattle.fixpoint_engine.specs.declared.key.KeyPin.{KeyPin}
use Rattle.fixpoint_engine.specs.declared.key.Key.{Key}
use Rattle.fixpoint_engine.specs.Value.{made_by, turned_wave}

-- ---- what a key says

abbrev pub delay_of : Key → Bounds
delay_of k = record { min = k.least; max = k.greatest }

abbrev pub split_of : Key → Option Split
split_of k =
    if k.split
    then Some (record {
      rise = record { min = k.rise_least; max = k.rise_greatest };
      fall = record { min = k.fall_least; max = k.fall_greatest };
    })
    else None

-- the numbers of the waves that it reads
abbrev pub key_reads : Key → List ℕ
key_reads k = map (λ (p : KeyPin). p.wave) k.pins

-- what a pin shows of the wave that it is on
abbrev pub shown_by : KeyPin → Wave Value → Wave Value
shown_by p w = wave_behind w (record { min = p.least; max = p.greatest }) p.inverted

-- what is made of those waves: `instance_wave` without its circuit
abbrev pub key_makes : Key → List (Wave Value) → Wave Value
key_makes k ws =
    let shown = map (λ (x : KeyPin × Wave Value). shown_by x.0 x.1) (zip k.pins ws) in
    normal values (turned_wave k.inverted
    (made_by k.kind shown (position (λ (p : KeyPin). p.hold) k.pins) (delay_of k) (split_of k)))

-- ---- what it feeds to a hasher

-- the wave and the complement of a pin as one number
abbrev pub pin_word : KeyPin → ℕ
pin_word p = p.wave * 2 + (if p.inverted then 1 else 0)

abbrev pub pin_fed : KeyPin → List (List ℕ)
pin_fed p = fed.u64 (pin_word p)

-- Of so many keys as have one delay and one list of waves at their pins few differ in what is left
-- out.
abbrev pub key_fed : Key → List (List ℕ)
key_fed k = fed.u32 (k.least * 65536 + k.greatest) ++ fed.slice pin_fed k.pins

-- ---- keys of instances

-- the numbers of the waves of both constants
pub record AreConstants (h : Header) (table : List (Wave Value)) (k : Constants) : Type 0 where
  pub zero : IsNumber table (constant_wave h false) k.zero
  pub one : IsNumber table (constant_wave h true) k.one

-- The key says of the instance, among these waves of all nets, what its output depends on.
pub record IsKeyOf (c : Circuit) (table : List (Wave Value)) (ws : Waves) (j : Instance)
    (k : Key) : Type 0 where
  pub kind : k.kind ≡ j.kind
  pub delay : delay_of k ≡ j.delay
  pub split : split_of k ≡ j.split
  pub inverted : k.inverted ≡ j.out_inverted
  pub marks : map (λ (p : KeyPin). p.hold) k.pins ≡ map (λ (p : Pin). p.hold) j.pins
  pub known : AreKnown table (key_reads k)
  pub shows : map (λ (p : KeyPin). shown_by p (wave_at table p.wave)) k.pins ≡ pin_waves c ws j
