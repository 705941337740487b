-- What the code of each kind gives is the wave of that kind.
use Rattle.std.proofs.Common.{◌≡◌, ℕ, zero, suc, ◌+◌, ◌<◌, ◌≤◌, Bool, true, false, not, ◌&&◌, cond, List, [], ◌∷◌, length, map, get_or, refl, sym, ap, ◌∙◌, Option, Some, None, count_by, arith}
use Rattle.std.specs.Prelude.{is_none, is_some, IfNone}
use Rattle.std.specs.List.{All, position}
use Rattle.std.specs.Option.{option_map}
use Rattle.std.proofs.lemmas.Bool.{and_parts}
use Rattle.std.proofs.lemmas.List.Elements.{All-head, All-tail}
use Rattle.std.proofs.lemmas.List.Quantifiers.{position-Some}
use Rattle.std.proofs.lemmas.List.Sums.{sum_by-cons}
use Rattle.scald_base.specs.Time.{Bounds}
use Rattle.step_values.specs.declared.value.Value.{Value}
use Rattle.step_values.specs.Cell.{values}
use Rattle.skew_algebra.specs.Wave.{Wave, cell_at, folded, moved, normal, IsNormal}
use Rattle.element_kinds.specs.declared.kind.Kind.{Kind}
use Rattle.element_kinds.specs.declared.kind.Kind.TheVariants.{Buf, Chg}
use Rattle.element_kinds.specs.declared.form.Form.{Form}
use Rattle.element_kinds.specs.declared.form.Form.TheVariants.{Gate, Change, Register, Latch as Enabled, Checker}
use Rattle.element_kinds.specs.Kinds.{form_of, closes_of, is_function, may_be_marked, marks_by, greatest_marks, may_split}
use Rattle.element_kinds.proofs.Forms.{of_form}
use Rattle.flat_circuit.specs.Kind.{pin_counts}
use Rattle.gate_eval.specs.Meeting.{folds_in, period_of, HaveOnePeriod, meeting}
use Rattle.gate_eval.specs.Gates.{gate_value}
use Rattle.gate_eval.specs.Hold.{first_some, disturber, hazard, hazard_beside}
use Rattle.gate_eval.specs.Change.{change_wave}
use Rattle.gate_eval.specs.Instance.{MarkIsAt, MarkFits, image_by, gate_image, wave_by, gate_wave}
use Rattle.gate_eval.proofs.Fitting.{AllFit}
use Rattle.gate_eval.proofs.Gathered.{folded_cells}
use Rattle.gate_eval.proofs.Held.{first_some_none, map_none}
use Rattle.gate_eval.proofs.Found.{first_some_nowhere, none_is, hazard_nowhere}

-- ---- pins

pub pins_fit : {P : Type 0} (pins : List P) (wave : P → Wave Value) (period : ℕ) → All (λ (w : Wave Value). length w.cells ≡ period) (map wave pins) →
    ((p : P) → IsNormal values (wave p)) → AllFit values period (map wave pins)
pins_fit [] wave period one normal = tt
pins_fit (p ∷ ps) wave period one normal = (
  record { long = All-head (λ (w : Wave Value). length w.cells ≡ period) (wave p) (map wave ps) one; normal = normal p },
  pins_fit ps wave period (All-tail (λ (w : Wave Value). length w.cells ≡ period) (wave p) (map wave ps) one) normal,
)

-- each kind has a pin
pub some_pins : (kind : Kind) (pins : ℕ) → (pin_counts kind).0 ≤ pins → 0 < pins
some_pins Buf pins least = omega arith
some_pins kind pins least = omega arith

-- ---- marks

count_some : {P : Type 0} (marked : P → Bool) (pins : List P) (i : ℕ) (d : P) → i < length pins → marked (get_or pins i d) ≡ true → 0 < count_by marked pins
count_some marked [] i d below here = absurd (omega arith)
count_some marked (p ∷ ps) zero d below here =
    let one : ◌≡◌ {A = ℕ} (cond (marked p) 1 0) 1 = ap (λ b. cond {A = ℕ} b 1 0) here in
    let whole : count_by marked (p ∷ ps) ≡ cond (marked p) 1 0 + count_by marked ps = sum_by-cons (λ q. cond {A = ℕ} (marked q) 1 0) p ps in omega (arith, one, whole)
count_some marked (p ∷ ps) (suc i) d below here =
    let rest : 0 < count_by marked ps = count_some marked ps i d (omega arith) here in
    let whole : count_by marked (p ∷ ps) ≡ cond (marked p) 1 0 + count_by marked ps = sum_by-cons (λ q. cond {A = ℕ} (marked q) 1 0) p ps in omega (arith, rest, whole)

place_within : {P : Type 0} (marked : P → Bool) (pins : List P) (i : ℕ) → position marked pins ≡ Some i → (i < length pins) × (0 < count_by marked pins)
place_within marked [] i e = cc
place_within marked (p ∷ ps) i e =
    let at = position-Some marked (p ∷ ps) i p e in (at.0, count_some marked (p ∷ ps) i p at.0 at.1)

mark_at : (closes : Option Bool) (i pins count : ℕ) → i < pins → 0 < count → count ≤ marks_by closes → MarkIsAt closes i pins
mark_at None i pins count below some few = absurd (omega (arith, some, few))
mark_at (Some bit) i pins count below some few = below

mark_by : (kind : Kind) (marked : Option ℕ) (pins count : ℕ) → ((i : ℕ) → marked ≡ Some i → (i < pins) × (0 < count)) → count ≤ greatest_marks kind → MarkFits kind marked pins
mark_by kind None pins count at few = tt
mark_by kind (Some i) pins count at few = mark_at (closes_of kind) i pins count (at i refl).0 (at i refl).1 few

pub mark_fits : {P : Type 0} (kind : Kind) (marked : P → Bool) (pins : List P) → count_by marked pins ≤ greatest_marks kind →
    MarkFits kind (position marked pins) (length pins)
mark_fits kind marked pins few = mark_by kind (position marked pins) (length pins) (count_by marked pins) (place_within marked pins) few

-- ---- the rule of the mark, by folds that code has gathered

module _ {A P : Type 0} (folds : List A) (pins : List P) (cells : A → List Value) (wave : P → Wave Value) (kind : Kind) (marked period : ℕ)
    (gathered : map cells folds ≡ map (λ q. folded values (wave q)) pins) (one : HaveOnePeriod (map wave pins)) (is : period ≡ period_of (map wave pins)) where
  same_disturber : (slot : ℕ) → slot < period_of (map wave pins) →
      disturber kind marked (map (λ w. cell_at values (cells w) slot) folds) ≡ disturber kind marked (folds_in values (map wave pins) slot)
  same_disturber slot below = ap (disturber kind marked) (folded_cells values folds pins cells wave slot gathered one below)

  pub held_none : is_none (first_some (λ slot. disturber kind marked (map (λ w. cell_at values (cells w) slot) folds)) period 0) ≡ true →
      None ≡ hazard kind (map wave pins) (Some marked)
  held_none held =
      hazard_nowhere kind (map wave pins) (Some marked) marked refl
      (λ slot below. sym (same_disturber slot below)
      ∙ first_some_none (λ slot. disturber kind marked (map (λ w. cell_at values (cells w) slot) folds)) period 0 slot
      (none_is (first_some (λ slot. disturber kind marked (map (λ w. cell_at values (cells w) slot) folds)) period 0) held) (omega arith) (omega (arith, is)))

  pub disturbed_met : (image : List Value → Value) →
      is_none (first_some (λ slot. disturber kind marked (map (λ w. cell_at values (cells w) slot) folds)) period 0) ≡ false →
      meeting values image (map wave pins) ≡ image_by image (map wave pins) (Some marked) (hazard kind (map wave pins) (Some marked))
  unfolding hazard
  disturbed_met image disturbed = by (hazard_beside kind (map wave pins) marked) refl
    where
      by : (h : Option (ℕ × ℕ)) → hazard_beside kind (map wave pins) marked ≡ h →
          meeting values image (map wave pins) ≡ image_by image (map wave pins) (Some marked) (hazard_beside kind (map wave pins) marked)
      by (Some h) e = sym (ap (image_by image (map wave pins) (Some marked)) e)
      by None e =
          let nowhere : first_some (λ slot. disturber kind marked (map (λ w. cell_at values (cells w) slot) folds)) period 0 ≡ None =
          first_some_nowhere (λ slot. disturber kind marked (map (λ w. cell_at values (cells w) slot) folds)) period 0
          (λ slot below.
          let near : slot < period_of (map wave pins) = omega (arith, is) in
          same_disturber slot near
          ∙ map_none (λ pin. (slot, pin)) (disturber kind marked (folds_in values (map wave pins) slot))
          (first_some_none (λ slot. option_map (λ pin. (slot, pin)) (disturber kind marked (folds_in values (map wave pins) slot)))
          (period_of (map wave pins)) 0 slot e (omega arith) (omega arith))) in
          let never : true ≡ false = sym (ap is_none nowhere) ∙ disturbed in
          cc

-- ---- kinds

-- the gates that no mark stands at
abbrev pub is_plain : Kind → Bool
is_plain kind = may_split kind && not (may_be_marked kind)

pub plain_is : (kind : Kind) (image : List Value → Value) (waves : List (Wave Value)) (marked : Option ℕ) (pins : ℕ) → image ≡ gate_value kind → is_plain kind ≡ true →
    MarkFits kind marked pins → meeting values image waves ≡ gate_image kind waves marked
plain_is kind image waves None pins e plain mark = ap (λ (f : List Value → Value). meeting values f waves) e
plain_is kind image waves (Some i) pins e plain mark =
    absurd (never (closes_of kind) i pins (and_parts (may_split kind) (not (may_be_marked kind)) plain).1 mark)
  where
    never : (closes : Option Bool) (i pins : ℕ) → not (is_some closes) ≡ true → MarkIsAt closes i pins → ⊥
    never None i pins unmarked at = at
    never (Some bit) i pins unmarked at = cc

-- the gates that a mark may stand at
abbrev pub is_markable : Kind → Bool
is_markable kind = may_split kind && may_be_marked kind

pub markable_is : (kind : Kind) (image : List Value → Value) (waves : List (Wave Value)) (marked : Option ℕ) → image ≡ gate_value kind → is_markable kind ≡ true →
    image_by image waves marked (hazard kind waves marked) ≡ gate_image kind waves marked
markable_is kind image waves marked e m = ap (λ (f : List Value → Value). image_by f waves marked (hazard kind waves marked)) e

-- ---- with their delay

pub delayed_is : (kind : Kind) (waves : List (Wave Value)) (marked : Option ℕ) (d : Bounds) → may_split kind ≡ true →
    moved values (gate_image kind waves marked) d ≡ gate_wave kind waves marked d
unfolding gate_wave
delayed_is kind waves marked d h = by (form_of kind) (of_form is_function kind ∙ h)
  where
    by : (form : Form) → is_function form ≡ true → moved values (gate_image kind waves marked) d ≡ wave_by form kind waves marked d
    by Gate e = refl
    by Change e = cc
    by (Register forced) e = cc
    by (Enabled forced) e = cc
    by (Checker check) e = cc

pub change_is : (kind : Kind) (waves : List (Wave Value)) (marked : Option ℕ) (d : Bounds) → kind ≡ Chg → normal values (change_wave waves d) ≡ gate_wave kind waves marked d
unfolding gate_wave
change_is kind waves marked d e = ap (λ k. gate_wave k waves marked d) (sym e)

pub if_none : {A : Type 0} (o : Option A) (P : Type 0) → (None ≡ o → P) → IfNone o P
if_none None P h = h refl
if_none (Some x) P h = tt
