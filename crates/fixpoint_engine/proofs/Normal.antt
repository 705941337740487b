-- A wave in normal form is its own normal form, and so what code makes of an instance is its value.
use Rattle.std.proofs.Common.{◌≡◌, ℕ, zero, suc, ◌+◌, ◌-◌, ◌<◌, ◌≤◌, min, Bool, true, false, cond, List, length, refl, sym, ap, ◌∙◌, arith, Option}
use Rattle.std.proofs.lemmas.Bool.{cond_both}
use Rattle.step_values.specs.declared.value.Value.{Value}
use Rattle.step_values.specs.Steps.{join}
use Rattle.step_values.specs.Cell.{values}
use Rattle.step_values.specs.Lawful.{values_lawful}
use Rattle.wave_core.specs.Slots.{slots, join_to, later}
use Rattle.wave_core.proofs.Slots.{get_or_slots, length_slots}
use Rattle.wave_core.proofs.Turned.{folded_none}
use Rattle.scald_base.specs.Time.{Bounds}
use Rattle.skew_algebra.specs.Wave.{Wave, skewed, all_equal, is_steady, joined, cell_at, moved, normal, IsNormal}
use Rattle.skew_algebra.proofs.Cells.{equal_at, same_list}
use Rattle.skew_algebra.proofs.Normal.{normal_steady, normal_moving}
use Rattle.flat_circuit.specs.declared.instance.Instance.{Instance}
use Rattle.flat_circuit.specs.Circuit.{Circuit}
use Rattle.fixpoint_engine.specs.Waves.{Waves, pin_waves, marked_pin}
use Rattle.fixpoint_engine.specs.Value.{made_by, turned_wave, instance_wave}

join_same : (f : ℕ → Value) (v : Value) (n : ℕ) → ((i : ℕ) → i ≤ n → f i ≡ v) → join_to values f n ≡ v
join_same f v zero all = all 0 (omega arith)
join_same f v (suc n) all =
    let before : join_to values f n ≡ v = join_same f v n (λ i le. all i (omega arith)) in
    let last : f (suc n) ≡ v = all (suc n) (omega arith) in
    (λ k. join (before k) (last k)) ∙ values_lawful.join_absorbs v

joined_is : (cells : List Value) → 0 < length cells → all_equal values cells ≡ true → joined values cells ≡ cell_at values cells 0
joined_is cells some equal =
    join_same (cell_at values cells) (cell_at values cells 0) (length cells - 1) (λ i le. equal_at values values_lawful cells i 0 equal (omega arith) some)

steady_cells : (cells : List Value) → 0 < length cells → all_equal values cells ≡ true → slots (length cells) (λ p. joined values cells) ≡ cells
steady_cells cells some equal =
    let long = length_slots (length cells) (λ p. joined values cells) in
    same_list (slots (length cells) (λ p. joined values cells)) cells values.any long
    (λ i below. get_or_slots (length cells) i (λ p. joined values cells) values.any (omega (arith, long, below))
    ∙ joined_is cells some equal ∙ equal_at values values_lawful cells 0 i equal some (omega (arith, long, below)))

pub normal_same : (w : Wave Value) → 0 < length w.cells → IsNormal values w → normal values w ≡ w
normal_same w some fits = by (is_steady values w.cells) refl
  where
    by : (quiet : Bool) → is_steady values w.cells ≡ quiet → normal values w ≡ w
    by true q =
        let equal : all_equal values w.cells ≡ true = fits.steady q in
        let cells = steady_cells w.cells some equal in
        let skew : w.skew ≡ 0 = fits.equal equal in
        normal_steady values w q ∙ (λ k. skewed (cells k) (sym skew k))
    by false q =
        let short : w.skew < length w.cells = fits.short in
        let skew : cond (all_equal values w.cells) 0 (min w.skew (length w.cells - 1)) ≡ w.skew =
        cond_both (all_equal values w.cells) 0 (min w.skew (length w.cells - 1)) (λ (s : ℕ). s ≡ w.skew) (λ e. sym (fits.equal e)) (λ e. omega arith) in
        normal_moving values w q ∙ (λ k. skewed w.cells (skew k))

-- a wave that is not late
pub moved_none : (w : Wave Value) (wire : Bounds) → 0 < length w.cells → IsNormal values w → wire.min ≡ 0 → wire.max ≡ 0 →
    moved values w wire ≡ w
unfolding moved
moved_none w wire some fits least greatest =
    let none : w.skew + (wire.max - wire.min) ≡ w.skew = omega (arith, least, greatest) in
    let still : later values w.cells wire.min ≡ w.cells =
    ap (later values w.cells) least ∙ folded_none values w.cells in
    (λ k. normal values (skewed (still k) (none k))) ∙ normal_same w some fits

pub instance_is : (c : Circuit) (ws : Waves) (j : Instance) (waves : List (Wave Value)) (marked : Option ℕ) (inverted : Bool) (made result : Wave Value) → j.out_inverted ≡ inverted →
    0 < length result.cells → IsNormal values result → waves ≡ pin_waves c ws j → marked ≡ marked_pin j → made ≡ made_by j.kind waves marked j.delay j.split →
    result ≡ turned_wave inverted made → result ≡ instance_wave c ws j
unfolding instance_wave
instance_is c ws j waves marked inverted made result is some fits pins mark makes turns =
    sym (normal_same result some fits) ∙ ap (normal values) turns
    ∙ (λ k. normal values (turned_wave (sym is k) (makes k)))
    ∙ (λ k. normal values (turned_wave j.out_inverted (made_by j.kind (pins k) (mark k) j.delay j.split)))
