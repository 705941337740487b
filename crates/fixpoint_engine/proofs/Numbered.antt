-- Changes by the numbers of waves, read in a table that grows.
use Rattle.std.proofs.Common.{◌≡◌, ℕ, true, false, List, [], ◌∷◌, length, map, refl, ap, subst, ◌∙◌, take}
use Rattle.std.proofs.Math.Seq.{take-append_seam}
use Rattle.scald_base.specs.Time.{Header}
use Rattle.step_values.specs.declared.value.Value.{Value}
use Rattle.skew_algebra.specs.Wave.{Wave}
use Rattle.pin_waves.specs.Interface.{constant_wave}
use Rattle.fixpoint_engine.specs.Table.{AreKnown, Grows, wave_at}
use Rattle.fixpoint_engine.proofs.Growing.{same_number, same_wave_at}
use Rattle.fixpoint_engine.specs.declared.key.Constants.{Constants}
use Rattle.fixpoint_engine.specs.Key.{AreConstants}
use Rattle.fixpoint_engine.specs.Worklist.{Change}

-- what is read by known numbers stays while the table grows
pub reads_still : {A : Type 0} (net number : A → ℕ) (old new : List (Wave Value)) → Grows old new → (xs : List A) → AreKnown old (map number xs) →
    map {B = Change} (λ x. (net x, wave_at new (number x))) xs ≡ map {B = Change} (λ x. (net x, wave_at old (number x))) xs
reads_still net number old new g [] known = refl
reads_still net number old new g (x ∷ xs) known =
    let here = same_wave_at old new g (number x) known.0 in
    let rest = reads_still net number old new g xs known.1 in
    λ i. (net x, here i) ∷ rest i

-- ---- a table that is cut back to its first waves

-- the first waves of a table that has grown from them are they
pub first_kept : {T : Type 0} (first old : List T) → Grows first old → take (length first) old ≡ first
first_kept first old g = ap (take (length first)) g.1 ∙ take-append_seam first g.0

pub grows_cut : {T : Type 0} (first old new : List T) (kept : ℕ) → Grows first old → kept ≡ length first → Grows (take kept old) new → Grows first new
grows_cut first old new kept g counted h =
    subst (λ l. Grows l new) (ap (λ n. take n old) counted ∙ first_kept first old g) h

-- the constants stay where they are
pub constants_still : (h : Header) (old new : List (Wave Value)) (k : Constants) → Grows old new → AreConstants h old k → AreConstants h new k
constants_still h old new k g are = record {
  zero = same_number old new k.zero (constant_wave h false) g are.zero;
  one = same_number old new k.one (constant_wave h true) g are.one;
}
