-- The wave of a pin permits each pin that shows a permitted net.
use Rattle.std.proofs.Common.{◌≡◌, ◌+◌, ◌-◌, ◌<◌, Bool, true, false, not, length, refl, sym, ap, ◌∙◌, arith, subst}
use Rattle.std.proofs.lemmas.List.{length-map}
use Rattle.scald_base.specs.Time.{Bounds}
use Rattle.scald_base.specs.Signal.{Signal}
use Rattle.step_values.specs.declared.value.Value.{Value}
use Rattle.step_values.specs.Steps.{flip}
use Rattle.step_values.specs.Cell.{values}
use Rattle.step_values.specs.Lawful.{values_lawful}
use Rattle.wave_core.specs.Slots.{later}
use Rattle.skew_algebra.specs.Wave.{Wave, skewed, moved, flipped}
use Rattle.skew_algebra.specs.Permits.{Permits}
use Rattle.skew_algebra.proofs.Normal.{length_normal}
use Rattle.skew_algebra.proofs.Moves.{length_later, Permits_moved, Permits_flipped}
use Rattle.pin_waves.specs.Pin.{pin_wave, KeepsPin}

not_not : (b : Bool) → not (not b) ≡ b
not_not true = refl
not_not false = refl

pub length_moved : (w : Wave Value) (wire : Bounds) → length (moved values w wire).cells ≡ length w.cells
unfolding moved
length_moved w wire =
    length_normal values (skewed (later values w.cells wire.min) (w.skew + (wire.max - wire.min))) ∙ length_later values w.cells wire.min

pub length_pin : (w : Wave Value) (wire : Bounds) (inverted : Bool) → length (pin_wave w wire inverted).cells ≡ length w.cells
length_pin w wire false = length_moved w wire
length_pin w wire true = length-map (moved values w wire).cells flip ∙ length_moved w wire

-- the same of the waves that code gives
pub length_late : (w late : Wave Value) (wire : Bounds) → late ≡ moved values w wire → length late.cells ≡ length w.cells
length_late w late wire e = ap (λ (z : Wave Value). length z.cells) e ∙ length_moved w wire

pub length_turned : (w late r : Wave Value) (wire : Bounds) → late ≡ moved values w wire → r ≡ flipped values late → length r.cells ≡ length w.cells
length_turned w late r wire e e' =
    ap (λ (z : Wave Value). length z.cells) (e' ∙ ap (flipped values) e) ∙ length_pin w wire true

pub Permits_pin : (w : Wave Value) (wire : Bounds) (inverted : Bool) → 0 < length w.cells → KeepsPin w (pin_wave w wire inverted) wire inverted
Permits_pin w wire false some n m v u delay x y p low high v1 uv mn shows =
    Permits_moved values values_lawful w wire some n m v u delay x y p low high v1 uv mn shows
Permits_pin w wire true some n m v u delay x y p low high v1 uv mn shows =
    let late : Permits values (moved values w wire) m (λ t. not (y t)) u =
    Permits_moved values values_lawful w wire some n m v u delay x (λ t. not (y t)) p low high v1 uv mn
    (λ t tu tm. ap not (shows t tu tm) ∙ not_not (x (t - delay))) in
    let again : (λ t. not (not (y t))) ≡ y = λ i t. not_not (y t) i in
    let long : length (moved values w wire).cells ≡ length w.cells = length_moved w wire in
    subst (λ (z : Signal). Permits values (flipped values (moved values w wire)) m z u) again
    (Permits_flipped values values_lawful (moved values w wire) (omega (arith, long, some)) m u (λ t. not (y t)) late)

-- the same of the wave that code gives
pub keeps_pin : (w r : Wave Value) (wire : Bounds) (inverted : Bool) → 0 < length w.cells → r ≡ pin_wave w wire inverted → KeepsPin w r wire inverted
keeps_pin w r wire inverted some e n m v u delay x y p low high v1 uv mn shows =
    subst (λ (z : Wave Value). Permits values z m y u) (sym e) (Permits_pin w wire inverted some n m v u delay x y p low high v1 uv mn shows)

pub keeps_turned_pin : (w late r : Wave Value) (wire : Bounds) → 0 < length w.cells → late ≡ moved values w wire → r ≡ flipped values late → KeepsPin w r wire true
keeps_turned_pin w late r wire some e e' = keeps_pin w r wire true some (e' ∙ ap (flipped values) e)
