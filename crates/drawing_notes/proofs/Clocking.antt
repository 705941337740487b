-- Storage on a clock, found among the readers of the clock's net.
use Rattle.std.proofs.Common.{◌≡◌, ℕ, ◌==◌, ◌&&◌, Bool, true, false, List, [], ◌∷◌, refl, sym, ap, ◌∙◌, slice_get, Option, Some, None}
use Rattle.std.specs.List.{list_any}
use Rattle.std.proofs.lemmas.Bool.{and_parts, and_from, or_left}
use Rattle.vector_names.specs.declared.bits.Target.{Target}
use Rattle.vector_names.specs.declared.bits.Target.TheVariants.{Net as OnNet, Constant}
use Rattle.element_kinds.specs.declared.kind.Kind.{Kind}
use Rattle.element_kinds.specs.declared.kind.Kind.TheVariants.{Buf, And, Or, Xor, Mux2, Mux4, Mux8, Chg, Reg, RegRs, Latch, LatchRs, SetupHold, RiseFall, MinPulse}
use Rattle.element_kinds.specs.Kinds.{listens}
use Rattle.flat_circuit.specs.declared.instance.Pin.{Pin}
use Rattle.flat_circuit.specs.declared.instance.Instance.{Instance}
use Rattle.flat_circuit.specs.Instances.{out_at, out_of, readers_of}
use Rattle.flat_circuit.specs.Circuit.{Circuit, IsCircuit, driver, instance_in}
use Rattle.fixpoint_engine.specs.Work.{hears_in, hears_from, is_on_any}
use Rattle.fixpoint_engine.specs.Worklist.{drives_in}
use Rattle.fixpoint_engine.proofs.Listening.{heard_by_reader, same_order}
use Rattle.drawing_notes.specs.Search.{is_clocked_by}
use Rattle.drawing_notes.specs.Pins.{is_storage, is_net, pin_net, target_net}
use Rattle.drawing_notes.proofs.Stepping.{any_guarded, drives_on}
use Rattle.drawing_notes.specs.Doubts.{launches_to}

-- ---- a clock or an enable listens

hears_clock : (kind : Kind) → is_storage kind ≡ true → listens kind 0 ≡ true
hears_clock Buf is = refl
hears_clock And is = refl
hears_clock Or is = refl
hears_clock Xor is = refl
hears_clock Mux2 is = refl
hears_clock Mux4 is = refl
hears_clock Mux8 is = refl
hears_clock Chg is = refl
hears_clock Reg is = refl
hears_clock RegRs is = refl
hears_clock Latch is = refl
hears_clock LatchRs is = refl
hears_clock SetupHold is = refl
hears_clock RiseFall is = refl
hears_clock MinPulse is = refl

on_it : (clock : ℕ) (t : Target) → is_net clock (target_net t) ≡ true → is_on_any (λ j. clock == j) t ≡ true
on_it clock (OnNet n) is = same_order clock n ∙ is
on_it clock (Constant one) is = absurd cc

pins_hear : (clock : ℕ) (kind : Kind) (pins : List Pin) → is_storage kind ≡ true → is_net clock (pin_net (slice_get pins 0)) ≡ true →
    hears_from (λ j. clock == j) kind 0 pins ≡ true
pins_hear clock kind [] keeps is = absurd cc
pins_hear clock kind (p ∷ ps) keeps is = or_left _ _ (and_from _ _ (hears_clock kind keeps) (on_it clock p.target is))

clocked_hears : (clock : ℕ) (d : Option Instance) → is_clocked_by clock d ≡ true → hears_in (λ j. clock == j) d ≡ true
clocked_hears clock None is = absurd cc
clocked_hears clock (Some j) is =
    let both = and_parts (is_storage j.kind) (is_net clock (pin_net (slice_get j.pins 0))) is in
    pins_hear clock j.kind j.pins both.0 both.1

-- ---- the readers of a clock

and_same : (b h : Bool) → (b ≡ true → h ≡ true) → (b && h) ≡ b
and_same true h then_ = then_ refl
and_same false h then_ = refl

launches_drives : (clock i : ℕ) (o : Option Instance) → launches_to clock o i ≡ (is_clocked_by clock o && drives_in (out_of o) i)
launches_drives clock i None = refl
launches_drives clock i (Some j) = refl

-- A net is the output of storage on the clock where one of the clock's readers is such storage and drives it.
pub clocked_by_readers : (c : Circuit) (clock i : ℕ) → IsCircuit c →
    list_any (λ k. launches_to clock (slice_get c.instances k) i) (readers_of c.instances clock) ≡ is_clocked_by clock (driver c i)
clocked_by_readers c clock i known =
    (λ t. list_any (λ k. launches_drives clock i (slice_get c.instances k) t) (readers_of c.instances clock))
    ∙ any_guarded (λ k. is_clocked_by clock (slice_get c.instances k)) (λ k. drives_in (out_at c.instances k) i) (is_clocked_by clock (driver c i))
    (readers_of c.instances clock) one
    ∙ ap (λ b. is_clocked_by clock (driver c i) && b) (heard_by_reader c clock i known)
    ∙ and_same (is_clocked_by clock (driver c i)) (hears_in (λ j. clock == j) (driver c i)) (clocked_hears clock (driver c i))
  where
    one : (k : ℕ) → drives_in (out_at c.instances k) i ≡ true → is_clocked_by clock (slice_get c.instances k) ≡ is_clocked_by clock (driver c i)
    one k drives = ap (λ d. is_clocked_by clock (instance_in c d)) (sym (known.drivers.of i k (drives_on (out_at c.instances k) i drives)))
