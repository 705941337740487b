-- A register or latch without set and reset is quiet where the pins that it listens to are quiet where it looks.
use Rattle.std.proofs.Common.{inl, inr, ◌≡◌, ℕ, ◌<◌, ◌≤◌, true, All, List, [], ◌∷◌, length, refl, subst, sym, arith}
use Rattle.std.specs.List.{list_all}
use Rattle.std.proofs.lemmas.Bool.{and_parts}
use Rattle.std.proofs.lemmas.List.Elements.{All-nil, All-push}
use Rattle.scald_base.specs.Time.{Bounds}
use Rattle.step_values.specs.declared.value.Value.{Value}
use Rattle.step_values.specs.Steps.{is_quiet}
use Rattle.step_values.specs.Cell.{values}
use Rattle.step_values.specs.Image.{reg_of, latch_of}
use Rattle.step_values.proofs.Quiet.{quiet_latch, quiet_reg}
use Rattle.skew_algebra.specs.Wave.{Wave}
use Rattle.element_kinds.specs.declared.kind.Kind.{Kind}
use Rattle.element_kinds.specs.declared.kind.Kind.TheVariants.{Reg, Latch}
use Rattle.gate_eval.specs.Meeting.{HaveOnePeriod, meeting, period_of}
use Rattle.gate_eval.specs.Quiet.{IsQuietAt, IsQuietBefore}
use Rattle.gate_eval.proofs.Quiet.{long_meeting, quiet_meeting, quiet_moved}
use Rattle.storage_eval.specs.Storage.{listening, of_clock, of_two, storage_value}
use Rattle.storage_eval.specs.Instance.{storage_wave}
use Rattle.storage_eval.specs.Quiet.{StorageIsQuiet}

clock_quiet : (vs : List Value) → length vs ≡ 1 → list_all is_quiet vs ≡ true → is_quiet (of_clock reg_of vs) ≡ true
clock_quiet [] one quiet = absurd (omega arith)
clock_quiet (v ∷ []) one quiet = quiet_reg v (and_parts (is_quiet v) (list_all is_quiet []) quiet).0
clock_quiet (v ∷ w ∷ vs) one quiet = absurd (omega arith)

latch_quiet : (vs : List Value) → length vs ≡ 2 → list_all is_quiet vs ≡ true → is_quiet (of_two latch_of vs) ≡ true
latch_quiet [] two quiet = absurd (omega arith)
latch_quiet (v ∷ []) two quiet = absurd (omega arith)
latch_quiet (v ∷ w ∷ []) two quiet =
    let parts = and_parts (is_quiet v) (list_all is_quiet (w ∷ [])) quiet in
    quiet_latch v w parts.0 (and_parts (is_quiet w) (list_all is_quiet []) parts.1).0
latch_quiet (v ∷ w ∷ u ∷ vs) two quiet = absurd (omega arith)

pub quiet_latch_wave : (waves : List (Wave Value)) (d : Bounds) (p : ℕ) → length waves ≡ 2 → HaveOnePeriod waves → 0 < period_of waves →
    d.min ≤ d.max → All (IsQuietBefore d p) (listening Latch waves) → IsQuietAt p (storage_wave Latch waves d)
unfolding storage_wave
quiet_latch_wave [] d p two long some bounds quiet = absurd (omega arith)
quiet_latch_wave (enable ∷ []) d p two long some bounds quiet = absurd (omega arith)
quiet_latch_wave (enable ∷ input ∷ []) d p two long some bounds quiet =
    let waves : List (Wave Value) = enable ∷ input ∷ [] in
    quiet_moved (meeting values (storage_value Latch) waves) d p (long_meeting (storage_value Latch) waves some) bounds
    (quiet_meeting (storage_value Latch) waves d p some bounds long quiet latch_quiet)
quiet_latch_wave (enable ∷ input ∷ w ∷ ws) d p two long some bounds quiet = absurd (omega arith)

pub quiet_register_wave : (waves : List (Wave Value)) (d : Bounds) (p : ℕ) → length waves ≡ 2 → HaveOnePeriod waves → 0 < period_of waves →
    d.min ≤ d.max → All (IsQuietBefore d p) (listening Reg waves) → IsQuietAt p (storage_wave Reg waves d)
unfolding storage_wave
quiet_register_wave [] d p two long some bounds quiet = absurd (omega arith)
quiet_register_wave (clock ∷ []) d p two long some bounds quiet = absurd (omega arith)
quiet_register_wave (clock ∷ input ∷ []) d p two long some bounds quiet =
    let waves : List (Wave Value) = clock ∷ [] in
    quiet_moved (meeting values (storage_value Reg) waves) d p (long_meeting (storage_value Reg) waves some) bounds
    (quiet_meeting (storage_value Reg) waves d p some bounds
    (All-push (λ (w : Wave Value). length w.cells ≡ length clock.cells) [] clock (All-nil (λ (w : Wave Value). length w.cells ≡ length clock.cells)) refl)
    quiet clock_quiet)
quiet_register_wave (clock ∷ input ∷ w ∷ ws) d p two long some bounds quiet = absurd (omega arith)

pub storage_is_quiet : StorageIsQuiet
storage_is_quiet kind waves d p (inl is) two long some bounds quiet =
    subst (λ (k : Kind). IsQuietAt p (storage_wave k waves d)) (sym is)
    (quiet_register_wave waves d p two long some bounds (subst (λ (k : Kind). All (IsQuietBefore d p) (listening k waves)) is quiet))
storage_is_quiet kind waves d p (inr is) two long some bounds quiet =
    subst (λ (k : Kind). IsQuietAt p (storage_wave k waves d)) (sym is)
    (quiet_latch_wave waves d p two long some bounds (subst (λ (k : Kind). All (IsQuietBefore d p) (listening k waves)) is quiet))
