-- What a change function sees of all its pins.
use Rattle.std.proofs.Common.{◌≡◌, ℕ, zero, suc, ◌+◌, ◌-◌, ◌<◌, min, Bool, true, ◌&&◌, cond, List, [], ◌∷◌, ◌++◌, length, map, take, get_or, refl, sym, ap, ◌∙◌, arith, Result}
use Rattle.std.specs.Prelude.{IfOk}
use Rattle.std.specs.List.{list_all, fold, All, AllZip}
use Rattle.std.proofs.Math.Bool.{and-true, and_assoc}
use Rattle.std.proofs.lemmas.Result.{IfOk-weaker}
use Rattle.std.proofs.lemmas.List.Elements.{All-head, All-tail}
use Rattle.std.proofs.lemmas.List.Folds.{list_all-map}
use Rattle.std.proofs.lemmas.List.{map-append}
use Rattle.scald_base.specs.Clock.{back}
use Rattle.scald_base.specs.Time.{Bounds}
use Rattle.wave_core.specs.Slots.{slots_from, slots, later, folded}
use Rattle.wave_core.proofs.Slots.{mapped}
use Rattle.step_values.specs.declared.value.Value.{Value}
use Rattle.step_values.specs.declared.value.Value.TheVariants.{S, C, U}
use Rattle.step_values.specs.Steps.{join, is_quiet}
use Rattle.step_values.specs.Cell.{values}
use Rattle.step_values.specs.Each.{tests_are}
use Rattle.skew_algebra.specs.Wave.{Wave, skewed, fold as fold_of}
use Rattle.skew_algebra.proofs.Moves.{length_later}
use Rattle.gate_eval.specs.Meeting.{folds_in, period_of, HaveOnePeriod}
use Rattle.gate_eval.specs.Change.{all_to, pass_before, is_known, change_at, change_wave}
use Rattle.gate_eval.specs.Window.{window, seen_at, change_of}
use Rattle.gate_eval.proofs.Windows.{all_to_both, all_to_true, test_window}
use Rattle.gate_eval.proofs.Gathered.{slots_same}
use Rattle.gate_eval.proofs.Scanned.{map_next}

-- ---- lists of slots

slots_from_map : {A B : Type 0} (h : A → B) (n i : ℕ) (f : ℕ → A) → map h (slots_from n i f) ≡ slots_from n i (λ p. h (f p))
slots_from_map h zero i f = refl
slots_from_map h (suc n) i f = ap (λ l. h (f i) ∷ l) (slots_from_map h n (i + 1) f)

pub slots_map : {A B : Type 0} (h : A → B) (n : ℕ) (f : ℕ → A) → map h (slots n f) ≡ slots n (λ p. h (f p))
slots_map h n f = slots_from_map h n 0 f

-- ---- the joins

fold_push : {A B : Type 0} (f : B → A → B) (b : B) (xs : List A) (x : A) → fold f b (xs ++ x ∷ []) ≡ f (fold f b xs) x
fold_push f b [] x = refl
fold_push f b (y ∷ xs) x = fold_push f (f b y) xs x

-- one pin more
pub seen_next : {P : Type 0} (pins : List P) (i : ℕ) (pin : P) (wave : P → Wave Value) (d : Bounds) (p : ℕ) → i < length pins → pin ≡ get_or pins i pin →
    seen_at (map wave (take (i + 1) pins)) d p ≡ join (seen_at (map wave (take i pins)) d p) (window (wave pin) d p)
seen_next pins i pin wave d p below is =
    ap (λ l. fold join S (map (λ w. window w d p) l)) (sym (map_next wave pins i pin (map wave (take i pins)) (wave pin) below is refl refl))
    ∙ ap (fold join S) (map-append (λ w. window w d p) (map wave (take i pins)) (wave pin ∷ []))
    ∙ fold_push join S (map (λ w. window w d p) (map wave (take i pins))) (window (wave pin) d p)

-- ---- tests of the joins

test_fold : (test : Value → Bool) → ((v w : Value) → test (join v w) ≡ (test v && test w)) → (v : Value) (cells : List Value) →
    test (fold join v cells) ≡ (test v && list_all test cells)
test_fold test through v [] = sym (and-true (test v))
test_fold test through v (c ∷ cs) =
    test_fold test through (join v c) cs ∙ ap (λ b. b && list_all test cs) (through v c) ∙ and_assoc (test v) (test c) (list_all test cs)

pass_each : (test : Value → Bool) → ((v w : Value) → test (join v w) ≡ (test v && test w)) → (waves : List (Wave Value)) (d : Bounds) (period p : ℕ) →
    0 < period → All (λ w. length w.cells ≡ period) waves →
    list_all (λ w. test (window w d p)) waves ≡ all_to (λ i. list_all test (folds_in values waves (back period p (d.min + i)))) (d.max - d.min)
pass_each test through [] d period p some one = sym (all_to_true (d.max - d.min))
pass_each test through (w ∷ ws) d period p some one =
    let long : length w.cells ≡ period = All-head (λ w. length w.cells ≡ period) w ws one in
    let first : test (window w d p) ≡ all_to (λ i. test (fold_of values w (back period p (d.min + i)))) (d.max - d.min) =
    test_window values test through w d p (omega arith)
    ∙ ap (λ (n : ℕ). all_to (λ i. test (fold_of values w (back n p (d.min + i)))) (d.max - d.min)) long in
    let rest : list_all (λ w. test (window w d p)) ws ≡ all_to (λ i. list_all test (folds_in values ws (back period p (d.min + i)))) (d.max - d.min) =
    pass_each test through ws d period p some (All-tail (λ w. length w.cells ≡ period) w ws one) in
    (λ j. first j && rest j)
    ∙ sym (all_to_both (λ i. test (fold_of values w (back period p (d.min + i)))) (λ i. list_all test (folds_in values ws (back period p (d.min + i)))) (d.max - d.min))

pass_seen : (test : Value → Bool) → ((v w : Value) → test (join v w) ≡ (test v && test w)) → test S ≡ true → (waves : List (Wave Value)) (d : Bounds) (p : ℕ) →
    0 < period_of waves → HaveOnePeriod waves → test (seen_at waves d p) ≡ pass_before test waves d p
pass_seen test through quiet waves d p some one =
    test_fold test through S (map (λ w. window w d p) waves)
    ∙ ap (λ b. b && list_all test (map (λ w. window w d p) waves)) quiet
    ∙ list_all-map test (λ w. window w d p) waves
    ∙ pass_each test through waves d (period_of waves) p some one

quiet_through : (v w : Value) → is_quiet (join v w) ≡ (is_quiet v && is_quiet w)
quiet_through = tests_are (λ v w. is_quiet (join v w)) (λ v w. is_quiet v && is_quiet w) refl

known_through : (v w : Value) → is_known (join v w) ≡ (is_known v && is_known w)
known_through = tests_are (λ v w. is_known (join v w)) (λ v w. is_known v && is_known w) refl

pub change_seen : (waves : List (Wave Value)) (d : Bounds) (p : ℕ) → 0 < period_of waves → HaveOnePeriod waves → change_of (seen_at waves d p) ≡ change_at waves d p
change_seen waves d p some one =
    let quiet : is_quiet (seen_at waves d p) ≡ pass_before is_quiet waves d p = pass_seen is_quiet quiet_through refl waves d p some one in
    let known : is_known (seen_at waves d p) ≡ pass_before is_known waves d p = pass_seen is_known known_through refl waves d p some one in
    λ j. cond (quiet j) S (cond (known j) C U)

-- ---- what code has found

-- a window, by what stands in the code
pub window_by : (w : Wave Value) (d : Bounds) (turned : List Value) (low high back period : ℕ) (r : List Value) → low ≡ d.min → high ≡ d.max → period ≡ length w.cells →
    turned ≡ later values w.cells low → back ≡ min (w.skew + (high - low)) (period - 1) → r ≡ folded values turned back → r ≡ slots (length w.cells) (window w d)
window_by w d turned low high back period r low_is high_is period_is turned_is back_is r_is =
    let back_is' : back ≡ min (w.skew + (d.max - d.min)) (length w.cells - 1) =
    back_is ∙ (λ j. min (w.skew + (high_is j - low_is j)) (period_is j - 1)) in
    r_is
    ∙ (λ j. folded values ((turned_is ∙ ap (later values w.cells) low_is) j) (back_is' j))
    ∙ ap (λ (n : ℕ). slots n (window w d)) (length_later values w.cells d.min)

pub changes_by : (waves : List (Wave Value)) (d : Bounds) (seen changes : List Value) → 0 < period_of waves → HaveOnePeriod waves →
    seen ≡ slots (period_of waves) (seen_at waves d) → changes ≡ map change_of seen → skewed changes 0 ≡ change_wave waves d
unfolding change_wave
changes_by waves d seen changes some one seen_is changes_is =
    ap (λ l. skewed l 0)
    (changes_is ∙ ap (map change_of) seen_is ∙ slots_map change_of (period_of waves) (seen_at waves d)
    ∙ slots_same (period_of waves) (λ p. change_of (seen_at waves d p)) (change_at waves d) (λ p below. change_seen waves d p some one))

pub if_mapped : {X E A B : Type 0} (r : Result X E) (cells : X → List B) (f : A → B) (xs : List A) (R : A → B → Type 0) → ((x : A) (y : B) → R x y → y ≡ f x) →
    IfOk r (λ w. AllZip R xs (cells w)) → IfOk r (λ w. cells w ≡ map f xs)
if_mapped r cells f xs R is h = IfOk-weaker r (λ w. AllZip R xs (cells w)) (λ w. cells w ≡ map f xs) (λ w z. mapped R f xs (cells w) is z) h
