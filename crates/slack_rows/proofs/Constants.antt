-- A pin on a constant never changes.
use Rattle.std.proofs.Common.{◌≡◌, ◌≢◌, ℕ, ◌<◌, ◌≤◌, Bool, true, false, not, ◌||◌, cond, get_or, refl, sym, ap, ◌∙◌, arith, length, map}
use Rattle.std.proofs.lemmas.List.{get_or-map, length-map}
use Rattle.scald_base.specs.Clock.{back}
use Rattle.scald_base.specs.Time.{Bounds, Header, period}
use Rattle.scald_base.proofs.Back.{back_lt}
use Rattle.step_values.specs.declared.value.Value.{Value}
use Rattle.step_values.specs.declared.value.Value.TheVariants.{Zero, One, U}
use Rattle.step_values.specs.Steps.{flip, has}
use Rattle.step_values.specs.Cell.{values}
use Rattle.step_values.specs.Lawful.{values_lawful}
use Rattle.wave_core.specs.Slots.{earlier}
use Rattle.wave_core.proofs.Slots.{earlier_slots}
use Rattle.skew_algebra.specs.Wave.{Wave, flipped, fold, moved}
use Rattle.pin_waves.specs.Interface.{constant_wave}
use Rattle.pin_waves.specs.Pin.{pin_wave as wave_behind}
use Rattle.critical_paths.specs.declared.direction.Direction.TheVariants.{Change}
use Rattle.critical_paths.specs.Event.{moves}
use Rattle.critical_paths.proofs.Moving.{join_to_moves, moved_within, moves_join_to}
use Rattle.pin_waves.proofs.Pins.{length_moved}

-- the wave makes no change
abbrev pub IsStill : Wave Value → Type 0
IsStill w = (t : ℕ) (before after : Bool) → before ≢ after → has (fold values w t) before after ≡ true → ⊥

bit_still : (one before after : Bool) → before ≢ after → has (cond one One Zero) before after ≡ true → ⊥
bit_still true false true apart moves = absurd (cc)
bit_still true true false apart moves = absurd (cc)
bit_still false false true apart moves = absurd (cc)
bit_still false true false apart moves = absurd (cc)
bit_still one true true apart moves = apart refl
bit_still one false false apart moves = apart refl

pub constant_still : (h : Header) (one : Bool) → 0 < period h → IsStill (constant_wave h one)
constant_still h one some t before after apart moves =
    bit_still one before after apart
    (ap (λ v. has v before after) (sym (earlier_slots values (period h) (λ p. cond one One Zero) t 0 some)) ∙ moves)

-- ---- late, and complemented

late_still : (w : Wave Value) (d : Bounds) → 0 < length w.cells → d.min ≤ d.max → IsStill w → IsStill (moved values w d)
late_still w d some ordered still t before after apart moves =
    let m = moved_within before after apart w d t some ordered moves in
    still (back (length w.cells) t m.delay) before after apart m.is

flip_turns : (v : Value) (before after : Bool) → has (flip v) before after ≡ has v (not before) (not after)
flip_turns v true true = values_lawful.flip_has v false false
flip_turns v true false = values_lawful.flip_has v false true
flip_turns v false true = values_lawful.flip_has v true false
flip_turns v false false = values_lawful.flip_has v true true

not_apart : (before after : Bool) → before ≢ after → not before ≢ not after
not_apart true true apart same = apart refl
not_apart true false apart same = absurd (cc)
not_apart false true apart same = absurd (cc)
not_apart false false apart same = apart refl

flip_cell : (w : Wave Value) (t o : ℕ) → 0 < length w.cells → earlier values (map flip w.cells) t o ≡ flip (earlier values w.cells t o)
unfolding earlier
flip_cell w t o some =
    ap (λ (n : ℕ). get_or (map flip w.cells) (back n t o) U) (length-map w.cells flip)
    ∙ get_or-map flip w.cells (back (length w.cells) t o) U U (back_lt (length w.cells) t o some)

flipped_still : (w : Wave Value) → 0 < length w.cells → IsStill w → IsStill (flipped values w)
flipped_still w some still t before after apart moves =
    let found = join_to_moves before after apart (λ o. earlier values (map flip w.cells) t o) w.skew moves in
    still t (not before) (not after) (not_apart before after apart)
    (moves_join_to (not before) (not after) (not_apart before after apart) (λ o. earlier values w.cells t o) w.skew found.at found.within
    (sym (flip_turns (earlier values w.cells t found.at) before after) ∙ ap (λ v. has v before after) (sym (flip_cell w t found.at some)) ∙ found.is))

pub behind_still : (w : Wave Value) (wire : Bounds) (inverted : Bool) → 0 < length w.cells → wire.min ≤ wire.max → IsStill w →
    IsStill (wave_behind w wire inverted)
behind_still w wire false some ordered still = late_still w wire some ordered still
behind_still w wire true some ordered still =
    flipped_still (moved values w wire) (let long : length (moved values w wire).cells ≡ length w.cells = length_moved w wire in omega (arith, long, some))
    (late_still w wire some ordered still)

pub still_events : (w : Wave Value) → IsStill w → (t : ℕ) → moves Change (has (fold values w t)) ≡ false
still_events w still t =
    by (has (fold values w t) false true) (has (fold values w t) true false)
    (still t false true (λ same. absurd (cc))) (still t true false (λ same. absurd (cc)))
  where
    by : (a b : Bool) → (a ≡ true → ⊥) → (b ≡ true → ⊥) → (a || b) ≡ false
    by true b rise fall = absurd (rise refl)
    by false true rise fall = absurd (fall refl)
    by false false rise fall = refl
