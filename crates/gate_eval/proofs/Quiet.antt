-- Quiet pins make a quiet output.
use Rattle.std.proofs.Common.{inl, inr, ◌≡◌, ℕ, zero, suc, ◌+◌, ◌-◌, ◌<◌, ◌≤◌, min, Bool, true, false, cond, All, List, [], ◌∷◌, length, refl, sym, ap, subst, ◌∙◌, arith, Option, Some, None}
use Rattle.std.proofs.lemmas.Bool.{and_from, cases_lt}
use Rattle.std.proofs.lemmas.List.Elements.{All-head, All-tail}
use Rattle.std.specs.List.{list_all}
use Rattle.scald_base.specs.Clock.{back}
use Rattle.scald_base.specs.Time.{Bounds}
use Rattle.scald_base.proofs.Back.{back_lt}
use Rattle.std.proofs.lemmas.List.{length-map}
use Rattle.wave_core.specs.Slots.{slots, earlier, join_to, later}
use Rattle.wave_core.proofs.Slots.{earlier_slots, length_slots}
use Rattle.step_values.specs.declared.value.Value.{Value}
use Rattle.step_values.specs.declared.value.Value.TheVariants.{U}
use Rattle.step_values.specs.Steps.{is_quiet}
use Rattle.step_values.specs.Cell.{values}
use Rattle.step_values.proofs.Quiet.{both_quiet, first_quiet, second_quiet}
use Rattle.skew_algebra.specs.Wave.{Wave, skewed, fold, is_steady, joined, cell_at, all_equal, normal, moved}
use Rattle.skew_algebra.proofs.Cells.{all_at}
use Rattle.skew_algebra.proofs.Moves.{earlier_earlier, earlier_turned, length_later}
use Rattle.skew_algebra.proofs.Normal.{normal_steady, normal_moving}
use Rattle.gate_eval.specs.Meeting.{HaveOnePeriod, cells_in, folds_in, kept_skew, meeting, meeting_by, movers, period_of}
use Rattle.gate_eval.specs.Quiet.{IsQuietAt, IsQuietBefore, LateIsQuiet}
use Rattle.gate_eval.proofs.Movers.{kept_one, movers_moving, movers_steady}

-- f 0 to f n are quiet if their join is
each_quiet : (f : ℕ → Value) (n o : ℕ) → is_quiet (join_to values f n) ≡ true → o ≤ n → is_quiet (f o) ≡ true
each_quiet f zero o quiet most = let same : o ≡ 0 = omega (arith, most) in subst (λ (i : ℕ). is_quiet (f i) ≡ true) (sym same) quiet
each_quiet f (suc n) o quiet most = elim (cases_lt o (suc n)) [
  | inl less ↦ each_quiet f n o (first_quiet (join_to values f n) (f (suc n)) quiet) (omega (arith, less))
  | inr more ↦
      let same : o ≡ suc n = omega (arith, most, more) in
      subst (λ (i : ℕ). is_quiet (f i) ≡ true) (sym same) (second_quiet (join_to values f n) (f (suc n)) quiet)
]

all_quiet : (f : ℕ → Value) (n : ℕ) → ((o : ℕ) → o ≤ n → is_quiet (f o) ≡ true) → is_quiet (join_to values f n) ≡ true
all_quiet f zero each = each 0 (omega arith)
all_quiet f (suc n) each =
    both_quiet (join_to values f n) (f (suc n)) (all_quiet f n (λ o most. each o (omega (arith, most)))) (each (suc n) (omega arith))

-- ---- the cells of a wave

-- they are quiet from so many slots before a slot to so many
abbrev pub AreQuietFrom : List Value → ℕ → ℕ → ℕ → Type 0
AreQuietFrom cells p least greatest = (o : ℕ) → least ≤ o → o ≤ greatest → is_quiet (earlier values cells p o) ≡ true

pub quiet_fold : (w : Wave Value) (p : ℕ) → AreQuietFrom w.cells p 0 w.skew → IsQuietAt p w
quiet_fold w p quiet = all_quiet (λ o. earlier values w.cells p o) w.skew (λ o most. quiet o (omega arith) most)

quiet_cell : (w : Wave Value) (p o : ℕ) → IsQuietAt p w → o ≤ w.skew → is_quiet (earlier values w.cells p o) ≡ true
quiet_cell w p o quiet most = each_quiet (λ i. earlier values w.cells p i) w.skew o quiet most

module _ (w : Wave Value) (d : Bounds) (p : ℕ) (fits : d.min ≤ d.max) (quiet : IsQuietBefore d p w) where
  -- from the least of the delay to the greatest and the skew together
  pub quiet_window : AreQuietFrom w.cells p d.min (d.max + w.skew)
  quiet_window o least most = elim (cases_lt o d.max) [
    | inl less ↦ at_most o 0 least (omega (arith, less)) (omega arith) (omega arith)
    | inr more ↦ at_most d.max (o - d.max) (omega (arith, fits)) (omega arith) (omega (arith, most, more)) (omega (arith, more))
  ]
    where
      at_most : (m rest : ℕ) → d.min ≤ m → m ≤ d.max → rest ≤ w.skew → m + rest ≡ o → is_quiet (earlier values w.cells p o) ≡ true
      at_most m rest above below short whole =
          subst (λ (i : ℕ). is_quiet (earlier values w.cells p i) ≡ true) whole
          (ap is_quiet (sym (earlier_earlier values w.cells p m rest)) ∙ quiet_cell w (back (length w.cells) p m) rest (quiet m above below) short)

-- ---- the normal form, and delays

steady_quiet : (w : Wave Value) (p : ℕ) → 0 < length w.cells → is_steady values w.cells ≡ true → IsQuietAt p (normal values w)
steady_quiet w p some steady =
    let cell : is_quiet (joined values w.cells) ≡ true =
    all_quiet (cell_at values w.cells) (length w.cells - 1) (λ o most. all_at is_quiet w.cells o U steady (omega (arith, some, most))) in
    subst (IsQuietAt p) (sym (normal_steady values w steady))
    (quiet_fold (skewed (slots (length w.cells) (λ q. joined values w.cells)) 0) p
    (λ o least most. ap is_quiet (earlier_slots values (length w.cells) (λ q. joined values w.cells) p o some) ∙ cell))

shorter : (equal : Bool) (skew length : ℕ) → cond equal 0 (min skew (length - 1)) ≤ skew
shorter true skew length = omega arith
shorter false skew length = omega arith

pub quiet_normal : (w : Wave Value) (p : ℕ) → 0 < length w.cells → AreQuietFrom w.cells p 0 w.skew → IsQuietAt p (normal values w)
quiet_normal w p some quiet = by (is_steady values w.cells) refl
  where
    by : (steady : Bool) → is_steady values w.cells ≡ steady → IsQuietAt p (normal values w)
    by true steady = steady_quiet w p some steady
    by false moves =
        let skew : ℕ = cond (all_equal values w.cells) 0 (min w.skew (length w.cells - 1)) in
        let short : skew ≤ w.skew = shorter (all_equal values w.cells) w.skew (length w.cells) in
        subst (IsQuietAt p) (sym (normal_moving values w moves))
        (quiet_fold (skewed w.cells skew) p (λ o least most. quiet o least (omega (arith, short, most))))

pub quiet_moved : (z : Wave Value) (d : Bounds) (p : ℕ) → 0 < length z.cells → d.min ≤ d.max →
    AreQuietFrom z.cells p d.min (d.max + z.skew) → IsQuietAt p (moved values z d)
unfolding moved
quiet_moved z d p some bounds quiet =
    let long : length (later values z.cells d.min) ≡ length z.cells = length_later values z.cells d.min in
    quiet_normal (skewed (later values z.cells d.min) (z.skew + (d.max - d.min))) p (omega (arith, some, long)) (λ o least most.
    ap is_quiet (earlier_turned values z.cells d.min p o some) ∙ quiet (o + d.min) (omega arith) (omega (arith, most, bounds)))

pub late_is_quiet : LateIsQuiet
late_is_quiet w d p some bounds quiet = quiet_moved w d p some bounds (quiet_window w d p bounds quiet)

-- ---- where waves meet

-- the cell of a slot, counted back
cell_back : (period : ℕ) (w : Wave Value) (p o : ℕ) → length w.cells ≡ period →
    earlier values w.cells p o ≡ cell_at values w.cells (back period p o)
unfolding earlier
cell_back period w p o long = ap (λ (n : ℕ). cell_at values w.cells (back n p o)) long

steady_cell : (period : ℕ) (w : Wave Value) (p o : ℕ) → 0 < period → length w.cells ≡ period → is_steady values w.cells ≡ true →
    is_quiet (cell_at values w.cells (back period p o)) ≡ true
steady_cell period w p o some long steady =
    let below = back_lt period p o some in
    all_at is_quiet w.cells (back period p o) U steady (omega (arith, below, long))

still_cells : (period : ℕ) (waves : List (Wave Value)) (p o : ℕ) → 0 < period → All (λ (w : Wave Value). length w.cells ≡ period) waves →
    movers values waves ≡ [] → list_all is_quiet (cells_in values waves (back period p o)) ≡ true
still_cells period [] p o some long none = refl
still_cells period (w ∷ ws) p o some long none = by (is_steady values w.cells) refl
    (λ rest. still_cells period ws p o some (All-tail (λ (x : Wave Value). length x.cells ≡ period) w ws long) rest)
  where
    by : (b : Bool) → is_steady values w.cells ≡ b →
        (movers values ws ≡ [] → list_all is_quiet (cells_in values ws (back period p o)) ≡ true) →
        list_all is_quiet (cells_in values (w ∷ ws) (back period p o)) ≡ true
    by true steady go =
        and_from (is_quiet (cell_at values w.cells (back period p o))) (list_all is_quiet (cells_in values ws (back period p o)))
        (steady_cell period w p o some (All-head (λ (x : Wave Value). length x.cells ≡ period) w ws long) steady)
        (go (sym (movers_steady values w ws steady) ∙ none))
    by false moves go = let two : w ∷ movers values ws ≡ [] = sym (movers_moving values w ws moves) ∙ none in absurd (cc)

-- with the skew of the one wave that moves
kept_cells : (period : ℕ) (waves : List (Wave Value)) (d : Bounds) (p skew o : ℕ) → 0 < period → d.min ≤ d.max →
    All (λ (w : Wave Value). length w.cells ≡ period) waves → All (IsQuietBefore d p) waves →
    kept_skew (movers values waves) ≡ Some skew → d.min ≤ o → o ≤ d.max + skew →
    list_all is_quiet (cells_in values waves (back period p o)) ≡ true
kept_cells period [] d p skew o some bounds long quiet kept least most = refl
kept_cells period (w ∷ ws) d p skew o some bounds long quiet kept least most = by (is_steady values w.cells) refl
    (λ rest. kept_cells period ws d p skew o some bounds (All-tail (λ (x : Wave Value). length x.cells ≡ period) w ws long)
    (All-tail (IsQuietBefore d p) w ws quiet) rest least most)
  where
    by : (b : Bool) → is_steady values w.cells ≡ b →
        (kept_skew (movers values ws) ≡ Some skew → list_all is_quiet (cells_in values ws (back period p o)) ≡ true) →
        list_all is_quiet (cells_in values (w ∷ ws) (back period p o)) ≡ true
    by true steady go =
        and_from (is_quiet (cell_at values w.cells (back period p o))) (list_all is_quiet (cells_in values ws (back period p o)))
        (steady_cell period w p o some (All-head (λ (x : Wave Value). length x.cells ≡ period) w ws long) steady)
        (go (ap kept_skew (sym (movers_steady values w ws steady)) ∙ kept))
    by false moves go =
        let own = kept_one w (movers values ws) skew (ap kept_skew (sym (movers_moving values w ws moves)) ∙ kept) in
        let same : w.skew ≡ skew = own.1 in
        and_from (is_quiet (cell_at values w.cells (back period p o))) (list_all is_quiet (cells_in values ws (back period p o)))
        (ap is_quiet (sym (cell_back period w p o (All-head (λ (x : Wave Value). length x.cells ≡ period) w ws long)))
        ∙ quiet_window w d p bounds (All-head (IsQuietBefore d p) w ws quiet) o least (omega (arith, most, same)))
        (still_cells period ws p o some (All-tail (λ (x : Wave Value). length x.cells ≡ period) w ws long) own.0)

-- each folded
pub quiet_folds : (period : ℕ) (waves : List (Wave Value)) (d : Bounds) (p o : ℕ) →
    All (λ (w : Wave Value). length w.cells ≡ period) waves → All (IsQuietBefore d p) waves → d.min ≤ o → o ≤ d.max →
    list_all is_quiet (folds_in values waves (back period p o)) ≡ true
quiet_folds period [] d p o long quiet least most = refl
quiet_folds period (w ∷ ws) d p o long quiet least most =
    and_from (is_quiet (fold values w (back period p o))) (list_all is_quiet (folds_in values ws (back period p o)))
    (ap (λ (n : ℕ). is_quiet (fold values w (back n p o))) (sym (All-head (λ (x : Wave Value). length x.cells ≡ period) w ws long))
    ∙ All-head (IsQuietBefore d p) w ws quiet o least most)
    (quiet_folds period ws d p o (All-tail (λ (x : Wave Value). length x.cells ≡ period) w ws long) (All-tail (IsQuietBefore d p) w ws quiet) least most)

-- An image that makes a quiet value of quiet ones makes quiet cells where the waves meet.
pub quiet_meeting : (image : List Value → Value) (waves : List (Wave Value)) (d : Bounds) (p : ℕ) → 0 < period_of waves → d.min ≤ d.max →
    HaveOnePeriod waves → All (IsQuietBefore d p) waves →
    ((vs : List Value) → length vs ≡ length waves → list_all is_quiet vs ≡ true → is_quiet (image vs) ≡ true) →
    AreQuietFrom (meeting values image waves).cells p d.min (d.max + (meeting values image waves).skew)
unfolding meeting
quiet_meeting image waves d p some bounds long quiet images = by (kept_skew (movers values waves)) refl
  where
    by : (kept : Option ℕ) → kept_skew (movers values waves) ≡ kept →
        AreQuietFrom (meeting_by values image waves kept).cells p d.min (d.max + (meeting_by values image waves kept).skew)
    by (Some skew) kept = λ o least most.
        ap is_quiet (earlier_slots values (period_of waves) (λ q. image (cells_in values waves q)) p o some)
        ∙ images (cells_in values waves (back (period_of waves) p o)) (length-map waves (λ (w : Wave Value). cell_at values w.cells (back (period_of waves) p o)))
        (kept_cells (period_of waves) waves d p skew o some bounds long quiet kept least most)
    by None kept = λ o least most.
        ap is_quiet (earlier_slots values (period_of waves) (λ q. image (folds_in values waves q)) p o some)
        ∙ images (folds_in values waves (back (period_of waves) p o)) (length-map waves (λ (w : Wave Value). fold values w (back (period_of waves) p o)))
        (quiet_folds (period_of waves) waves d p o long quiet least (omega (arith, most)))

-- where waves meet there is a slot for each of the period
pub long_meeting : (image : List Value → Value) (waves : List (Wave Value)) → 0 < period_of waves → 0 < length (meeting values image waves).cells
unfolding meeting
long_meeting image waves some = by (kept_skew (movers values waves))
  where
    by : (kept : Option ℕ) → 0 < length (meeting_by values image waves kept).cells
    by (Some skew) = let long = length_slots (period_of waves) (λ q. image (cells_in values waves q)) in omega (arith, some, long)
    by None = let long = length_slots (period_of waves) (λ q. image (folds_in values waves q)) in omega (arith, some, long)
