-- A buffer's pin alone: what meets there is its wave.
use Rattle.std.proofs.Common.{◌≡◌, ℕ, Bool, true, false, List, [], ◌∷◌, length, map, get_or, Some, refl, sym, ap, ◌∙◌, arith}
use Rattle.std.proofs.lemmas.List.{ext_get_or}
use Rattle.wave_core.specs.Slots.{slots}
use Rattle.wave_core.proofs.Slots.{length_slots, get_or_slots}
use Rattle.step_values.specs.declared.value.Value.{Value}
use Rattle.step_values.specs.Cell.{values}
use Rattle.skew_algebra.specs.Wave.{Wave, skewed, cell_at, is_steady, IsNormal}
use Rattle.gate_eval.specs.Meeting.{meeting, meeting_by, movers, kept_skew}
use Rattle.gate_eval.specs.Gates.{passed_on}
use Rattle.gate_eval.proofs.Movers.{movers_moving, movers_steady}

pub own_slots : (cells : List Value) → slots (length cells) (cell_at values cells) ≡ cells
own_slots cells =
    let long : length (slots (length cells) (cell_at values cells)) ≡ length cells = length_slots (length cells) (cell_at values cells) in
    ext_get_or values.any (slots (length cells) (cell_at values cells)) cells long
    (λ i below. get_or_slots (length cells) i (cell_at values cells) values.any (omega (arith, long)))

kept_own : (w : Wave Value) → IsNormal values w → (steady : Bool) → is_steady values w.cells ≡ steady → kept_skew (movers values (w ∷ [])) ≡ Some w.skew
kept_own w normal true quiet =
    ap kept_skew (movers_steady values w [] quiet) ∙ ap (λ (s : ℕ). Some s) (sym (normal.equal (normal.steady quiet)))
kept_own w normal false moves = ap kept_skew (movers_moving values w [] moves)

passed_alone : (w : Wave Value) → IsNormal values w → w ≡ meeting values passed_on (w ∷ [])
unfolding meeting
passed_alone w normal =
    ap (λ l. skewed l w.skew) (sym (own_slots w.cells))
    ∙ ap (meeting_by values passed_on (w ∷ [])) (sym (kept_own w normal (is_steady values w.cells) refl))

-- the same, by the list of pins
pub passed_one : {P : Type 0} (pins : List P) (d : P) (wave : P → Wave Value) → length pins ≡ 1 → ((p : P) → IsNormal values (wave p)) →
    wave (get_or pins 0 d) ≡ meeting values passed_on (map wave pins)
passed_one [] d wave one normal = absurd (omega arith)
passed_one (p ∷ []) d wave one normal = passed_alone (wave p) (normal p)
passed_one (p ∷ q ∷ pins) d wave one normal = absurd (omega arith)
