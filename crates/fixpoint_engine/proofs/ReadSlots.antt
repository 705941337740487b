-- What code reads of the values of a period, slot by slot.
use Rattle.std.proofs.Common.{◌≡◌, ℕ, ◌<◌, ◌≤◌, List, length, refl, sym, ap, ◌∙◌, arith, Some}
use Rattle.std.specs.Prelude.{slice_get}
use Rattle.step_values.specs.declared.value.Value.{Value}
use Rattle.step_values.specs.Cell.{values}
use Rattle.wave_core.specs.Slots.{SameUntil}
use Rattle.wave_core.proofs.Slots.{length_slots}
use Rattle.skew_algebra.specs.Wave.{Wave, fold, folded}
use Rattle.skew_algebra.proofs.Moves.{here_cell, earlier_folded}
pub use Rattle.gate_eval.proofs.Found.{below_run}
use Rattle.fixpoint_engine.specs.Pins.{read}

-- what stands in a slot of the period
pub read_at : (cells : List Value) (slot s : ℕ) (v : Value) → slot ≡ s → slot < length cells → slice_get cells slot ≡ Some v → read cells s ≡ v
read_at cells slot s v same below is = ap (read cells) (sym same) ∙ sym (here_cell values cells slot v below is)

-- the folds of a wave, read
pub read_folded : (w : Wave Value) (cells : List Value) → 0 < length w.cells → cells ≡ folded values w → read cells ≡ fold values w
read_folded w cells some e = λ i s. (ap (λ (c : List Value). read c s) e ∙ earlier_folded values w s some) i

pub length_folded : (w : Wave Value) (cells : List Value) → cells ≡ folded values w → length cells ≡ length w.cells
length_folded w cells e = ap (λ (c : List Value). length c) e ∙ length_slots (length w.cells) (fold values w)

-- ---- slots in a row that have one value

-- up to the next slot that has another, each has what is found in the first
pub same_read : (cells : List Value) (slot end s : ℕ) (v : Value) → SameUntil cells slot end → slice_get cells slot ≡ Some v → slot ≤ s → s < end → read cells s ≡ v
same_read cells slot end s v until is from below =
    let within = until.within in
    read_at cells s s v refl (omega (arith, within, below)) (until.same s from below ∙ is)
