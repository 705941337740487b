-- What an assertion asks of a net depends on the clock and the skews of a header, and not on its wires.
use Rattle.std.proofs.Common.{◌≡◌, ℕ, ◌-◌, ◌*◌, ◌%◌, [], ◌∷◌, refl, sym, ap, ◌∙◌}
use Rattle.scald_base.specs.Time.{Header, Bounds, period}
use Rattle.scald_base.specs.Signal.{Signal}
use Rattle.scald_base.specs.declared.assertion.AssertSpec.{AssertSpec}
use Rattle.scald_base.specs.declared.assertion.AssertSpec.TheVariants.{None as Unasserted, Precision, Clock, Stable}
use Rattle.step_values.specs.Steps.{has}
use Rattle.step_values.specs.Cell.{values}
use Rattle.skew_algebra.specs.Wave.{cell_at}
use Rattle.pin_waves.specs.Interface.{wide_wave}
use Rattle.point_check.specs.Break.{KeepsAssertion, wide_at}
use Rattle.section_compose.specs.Joined.{SameClocks}

abbrev header : ℕ → ℕ → Bounds → ℕ × ℕ → ℕ × ℕ → Header
header units ticks wire pskew cskew =
    record { units = units; ticks = ticks; wire = wire; pskew = pskew; cskew = cskew }

free_of_wire : (units ticks : ℕ) (wire other : Bounds) (pskew cskew : ℕ × ℕ) (a : AssertSpec) →
    wide_wave (header units ticks wire pskew cskew) a ≡ wide_wave (header units ticks other pskew cskew) a
free_of_wire units ticks wire other pskew cskew Unasserted = refl
free_of_wire units ticks wire other pskew cskew (Precision c) = refl
free_of_wire units ticks wire other pskew cskew (Clock c) = refl
free_of_wire units ticks wire other pskew cskew (Stable []) = refl
free_of_wire units ticks wire other pskew cskew (Stable (s ∷ spans)) = refl

pub wide_same : (h k : Header) (a : AssertSpec) → SameClocks h k → wide_wave h a ≡ wide_wave k a
wide_same h k a same =
    free_of_wire h.units h.ticks h.wire k.wire h.pskew h.cskew a
    ∙ (λ i. wide_wave (header (same.units i) (same.ticks i) k.wire (same.pskew i) (same.cskew i)) a)

period_same : (h k : Header) → SameClocks h k → period h ≡ period k
period_same h k same = λ i. same.units i * same.ticks i

-- a net keeps its assertion in one section if it does in another
pub keeps_same : (h k : Header) (a b : AssertSpec) (x y : Signal) (t : ℕ) → SameClocks h k → a ≡ b → x ≡ y →
    KeepsAssertion h a x t → KeepsAssertion k b y t
keeps_same h k a b x y t same spec bits keeps =
    sym (λ i. has (wide i) (bits i (t - 1)) (bits i t)) ∙ keeps
  where
    wide : wide_at h a t ≡ wide_at k b t
    wide =
        (λ i. cell_at values (wide_same h k a same i) (t % period_same h k same i))
        ∙ ap (λ (s : AssertSpec). wide_at k s t) spec
