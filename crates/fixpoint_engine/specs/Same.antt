-- When two waves are one: a test, which holds of equal waves alone.
use Rattle.std.specs.Prelude.{◌≡◌, Bool, true, ◌&&◌, ◌==◌, List}
use Rattle.std.proofs.Common.{ap, sym, ◌∙◌}
use Rattle.std.specs.Bool.{Decides}
use Rattle.std.specs.Cmp.{IsEquivalence, IsPartialEquivalence, decided, partial_equiv_from_equiv, unsigned_Decides}
use Rattle.std.specs.Cmp.Derive.{both_true}
use Rattle.std.specs.Cmp.Lexicographic.{pointwise, pointwise_decides}
use Rattle.std.proofs.lemmas.Bool.{and_parts}
use Rattle.step_values.specs.declared.value.Value.{Value}
use Rattle.step_values.specs.Cell.{same}
use Rattle.step_values.specs.Lawful.{values_lawful}
use Rattle.skew_algebra.specs.Wave.{Wave, skewed}
use Rattle.fixpoint_engine.specs.Feed.{wave_fed}

-- the skew is the same, and each cell
abbrev pub same_wave : Wave Value → Wave Value → Bool
same_wave w v = (w.skew == v.skew) && pointwise same w.cells v.cells

same_cells : (xs ys : List Value) → Decides (pointwise same xs ys) (xs ≡ ys)
same_cells =
    pointwise_decides (λ v w.
    (values_lawful.same_is v w, λ e. sym (ap (same v) e) ∙ values_lawful.same_self v))

pub same_wave_decides : (w v : Wave Value) → Decides (same_wave w v) (w ≡ v)
same_wave_decides w v = (
  λ h. (let parts = and_parts (w.skew == v.skew) (pointwise same w.cells v.cells) h in
      let skew = (unsigned_Decides w.skew v.skew).0 parts.0 in
      let cells = (same_cells w.cells v.cells).0 parts.1 in
      λ i. skewed (cells i) (skew i)),
  λ e. both_true
      ((unsigned_Decides w.skew v.skew).1 (ap (λ (z : Wave Value). z.skew) e))
      ((same_cells w.cells v.cells).1 (ap (λ (z : Wave Value). z.cells) e)),
)

pub same_wave_equiv : IsEquivalence same_wave
same_wave_equiv = decided same_wave same_wave_decides

pub same_wave_per : IsPartialEquivalence same_wave
same_wave_per = partial_equiv_from_equiv same_wave_equiv

-- waves that are one feed a hasher alike
pub fed_alike : (w v : Wave Value) → same_wave w v ≡ true → wave_fed w ≡ wave_fed v
fed_alike w v h = ap wave_fed ((same_wave_decides w v).0 h)
