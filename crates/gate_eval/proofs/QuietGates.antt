-- A gate or a change function is quiet where its pins are quiet where it looks.
use Rattle.std.proofs.Common.{◌≡◌, ℕ, zero, suc, ◌+◌, ◌-◌, ◌<◌, ◌≤◌, Bool, true, false, ◌&&◌, ◌||◌, All, List, [], ◌∷◌, length, fold, get_or, map, refl, sym, ap, subst, ◌∙◌, arith, Option, Some, None}
use Rattle.std.specs.List.{list_all}
use Rattle.std.proofs.lemmas.List.{get_or-map, length-map}
use Rattle.std.proofs.lemmas.List.Elements.{All-get_or}
use Rattle.std.proofs.lemmas.Bool.{and_from, and_parts, cond-true}
use Rattle.scald_base.specs.Clock.{back}
use Rattle.scald_base.specs.Time.{Bounds}
use Rattle.scald_base.proofs.Back.{back_back, back_lt}
use Rattle.wave_core.specs.Slots.{earlier, slots}
use Rattle.wave_core.proofs.Slots.{earlier_slots, length_slots}
use Rattle.step_values.specs.declared.value.Value.{Value}
use Rattle.step_values.specs.declared.value.Value.TheVariants.{S, U}
use Rattle.step_values.specs.Steps.{cover_of, is_quiet, is_unknown}
use Rattle.step_values.specs.Cell.{values}
use Rattle.step_values.specs.Image.{and_of, or_of, xor_of, mux2_of}
use Rattle.step_values.proofs.Quiet.{of_quiet, quiet_and, quiet_or, quiet_xor, quiet_mux2}
use Rattle.skew_algebra.specs.Wave.{Wave, skewed, normal}
use Rattle.skew_algebra.proofs.Moves.{earlier_earlier}
use Rattle.element_kinds.specs.declared.kind.Kind.{Kind}
use Rattle.element_kinds.specs.declared.form.Form.{Form}
use Rattle.element_kinds.specs.declared.form.Form.TheVariants.{Gate, Change, Register, Latch as Enabled, Checker}
use Rattle.element_kinds.specs.Kinds.{closes_of, form_of, is_memoryless}
use Rattle.element_kinds.proofs.Forms.{of_form}
use Rattle.flat_circuit.specs.Split.{either_delay}
use Rattle.flat_circuit.specs.Kind.{pin_counts}
use Rattle.element_kinds.specs.declared.kind.Kind.TheVariants.{Buf, And, Or, Xor, Mux2, Mux4, Mux8, Chg, Reg, RegRs, Latch, LatchRs, SetupHold, RiseFall, MinPulse}
use Rattle.gate_eval.specs.Gates.{from_left, gate_value, of_eight, of_four, of_two, passed_on}
use Rattle.gate_eval.specs.Meeting.{HaveOnePeriod, folds_in, meeting, period_of}
use Rattle.gate_eval.specs.Hold.{hazard}
use Rattle.gate_eval.specs.Instance.{CountsFit, MarkFits, MarkIsAt, gate_image, gate_wave, held_wave, image_by, wave_by, wave_of_pin}
use Rattle.gate_eval.specs.Split.{may_be_one, may_be_zero, may_fall, may_rise, slot_before, some_before, some_to, split_value, split_wave}
use Rattle.gate_eval.specs.Change.{all_to, pass_before, change_at, change_wave}
use Rattle.gate_eval.specs.Quiet.{AreFitting, GatesAreQuiet, IsQuietAt, IsQuietBefore, SplitsAreQuiet}
use Rattle.gate_eval.proofs.Quiet.{AreQuietFrom, long_meeting, quiet_folds, quiet_meeting, quiet_moved, quiet_normal, quiet_window}

-- ---- images

fold_quiet : (pair : Value → Value → Value) → ((v w : Value) → is_quiet v ≡ true → is_quiet w ≡ true → is_quiet (pair v w) ≡ true) →
    (v : Value) (vs : List Value) → is_quiet v ≡ true → list_all is_quiet vs ≡ true → is_quiet (fold pair v vs) ≡ true
fold_quiet pair keeps v [] first others = first
fold_quiet pair keeps v (w ∷ vs) first others =
    let parts = and_parts (is_quiet w) (list_all is_quiet vs) others in
    fold_quiet pair keeps (pair v w) vs (keeps v w first parts.0) parts.1

left_quiet : (pair : Value → Value → Value) → ((v w : Value) → is_quiet v ≡ true → is_quiet w ≡ true → is_quiet (pair v w) ≡ true) →
    (vs : List Value) → 1 ≤ length vs → list_all is_quiet vs ≡ true → is_quiet (from_left pair vs) ≡ true
left_quiet pair keeps [] some quiet = absurd (omega arith)
left_quiet pair keeps (v ∷ vs) some quiet =
    let parts = and_parts (is_quiet v) (list_all is_quiet vs) quiet in
    fold_quiet pair keeps v vs parts.0 parts.1

-- ---- change functions

all_of : (f : ℕ → Bool) (n : ℕ) → ((i : ℕ) → i ≤ n → f i ≡ true) → all_to f n ≡ true
all_of f zero each = each 0 (omega arith)
all_of f (suc n) each = and_from (all_to f n) (f (suc n)) (all_of f n (λ i most. each i (omega (arith, most)))) (each (suc n) (omega arith))

pub quiet_change : (waves : List (Wave Value)) (d : Bounds) (p : ℕ) → 0 < period_of waves → d.min ≤ d.max → HaveOnePeriod waves →
    All (IsQuietBefore d p) waves → IsQuietAt p (normal values (change_wave waves d))
unfolding change_wave
quiet_change waves d p some bounds long quiet =
    let period : ℕ = period_of waves in
    let whole : length (slots period (change_at waves d)) ≡ period = length_slots period (change_at waves d) in
    let still : pass_before is_quiet waves d (back period p 0) ≡ true =
    all_of (λ i. list_all is_quiet (folds_in values waves (back period (back period p 0) (d.min + i)))) (d.max - d.min) (λ i most.
    let whole : 0 + (d.min + i) ≡ d.min + i = omega arith in
    ap (λ (s : ℕ). list_all is_quiet (folds_in values waves s)) (back_back period p 0 (d.min + i) ∙ ap (back period p) whole)
    ∙ quiet_folds period waves d p (d.min + i) long quiet (omega arith) (omega (arith, most, bounds))) in
    quiet_normal (skewed (slots period (change_at waves d)) 0) p (omega (arith, some, whole)) (λ o least most.
    let none : o ≡ 0 = omega (arith, most) in
    subst (λ (n : ℕ). is_quiet (earlier values (slots period (change_at waves d)) p n) ≡ true) (sym none)
    (ap is_quiet (earlier_slots values period (change_at waves d) p 0 some ∙ cond-true (pass_before is_quiet waves d (back period p 0)) _ _ still)))

-- ---- gates

buffer_quiet : (vs : List Value) → length vs ≡ 1 → list_all is_quiet vs ≡ true → is_quiet (passed_on vs) ≡ true
buffer_quiet [] many quiet = absurd (omega arith)
buffer_quiet (v ∷ vs) many quiet = (and_parts (is_quiet v) (list_all is_quiet vs) quiet).0

-- the parts of a list of so many
head_quiet : (v : Value) (vs : List Value) → list_all is_quiet (v ∷ vs) ≡ true → is_quiet v ≡ true
head_quiet v vs quiet = (and_parts (is_quiet v) (list_all is_quiet vs) quiet).0

tail_quiet : (v : Value) (vs : List Value) → list_all is_quiet (v ∷ vs) ≡ true → list_all is_quiet vs ≡ true
tail_quiet v vs quiet = (and_parts (is_quiet v) (list_all is_quiet vs) quiet).1

choice_of_two : (vs : List Value) → length vs ≡ 3 → list_all is_quiet vs ≡ true → is_quiet (of_two mux2_of vs) ≡ true
choice_of_two [] many quiet = absurd (omega arith)
choice_of_two (s ∷ []) many quiet = absurd (omega arith)
choice_of_two (s ∷ a ∷ []) many quiet = absurd (omega arith)
choice_of_two (s ∷ a ∷ b ∷ []) many quiet =
    let qs = head_quiet s (a ∷ b ∷ []) quiet in
    let after_s = tail_quiet s (a ∷ b ∷ []) quiet in
    let qa = head_quiet a (b ∷ []) after_s in
    let after_a = tail_quiet a (b ∷ []) after_s in
    let qb = head_quiet b [] after_a in
    quiet_mux2 _ _ _ qs qa qb
choice_of_two (s ∷ a ∷ b ∷ other ∷ others) many quiet = absurd (omega arith)

choice_of_four : (vs : List Value) → length vs ≡ 6 → list_all is_quiet vs ≡ true → is_quiet (of_four mux2_of vs) ≡ true
choice_of_four [] many quiet = absurd (omega arith)
choice_of_four (s1 ∷ []) many quiet = absurd (omega arith)
choice_of_four (s1 ∷ s0 ∷ []) many quiet = absurd (omega arith)
choice_of_four (s1 ∷ s0 ∷ a ∷ []) many quiet = absurd (omega arith)
choice_of_four (s1 ∷ s0 ∷ a ∷ b ∷ []) many quiet = absurd (omega arith)
choice_of_four (s1 ∷ s0 ∷ a ∷ b ∷ c ∷ []) many quiet = absurd (omega arith)
choice_of_four (s1 ∷ s0 ∷ a ∷ b ∷ c ∷ d ∷ []) many quiet =
    let qs1 = head_quiet s1 (s0 ∷ a ∷ b ∷ c ∷ d ∷ []) quiet in
    let after_s1 = tail_quiet s1 (s0 ∷ a ∷ b ∷ c ∷ d ∷ []) quiet in
    let qs0 = head_quiet s0 (a ∷ b ∷ c ∷ d ∷ []) after_s1 in
    let after_s0 = tail_quiet s0 (a ∷ b ∷ c ∷ d ∷ []) after_s1 in
    let qa = head_quiet a (b ∷ c ∷ d ∷ []) after_s0 in
    let after_a = tail_quiet a (b ∷ c ∷ d ∷ []) after_s0 in
    let qb = head_quiet b (c ∷ d ∷ []) after_a in
    let after_b = tail_quiet b (c ∷ d ∷ []) after_a in
    let qc = head_quiet c (d ∷ []) after_b in
    let after_c = tail_quiet c (d ∷ []) after_b in
    let qd = head_quiet d [] after_c in
    quiet_mux2 _ _ _ qs1 (quiet_mux2 _ _ _ qs0 qa qb) (quiet_mux2 _ _ _ qs0 qc qd)
choice_of_four (s1 ∷ s0 ∷ a ∷ b ∷ c ∷ d ∷ other ∷ others) many quiet = absurd (omega arith)

choice_of_eight : (vs : List Value) → length vs ≡ 11 → list_all is_quiet vs ≡ true → is_quiet (of_eight mux2_of vs) ≡ true
choice_of_eight [] many quiet = absurd (omega arith)
choice_of_eight (s2 ∷ []) many quiet = absurd (omega arith)
choice_of_eight (s2 ∷ s1 ∷ []) many quiet = absurd (omega arith)
choice_of_eight (s2 ∷ s1 ∷ s0 ∷ []) many quiet = absurd (omega arith)
choice_of_eight (s2 ∷ s1 ∷ s0 ∷ a ∷ []) many quiet = absurd (omega arith)
choice_of_eight (s2 ∷ s1 ∷ s0 ∷ a ∷ b ∷ []) many quiet = absurd (omega arith)
choice_of_eight (s2 ∷ s1 ∷ s0 ∷ a ∷ b ∷ c ∷ []) many quiet = absurd (omega arith)
choice_of_eight (s2 ∷ s1 ∷ s0 ∷ a ∷ b ∷ c ∷ d ∷ []) many quiet = absurd (omega arith)
choice_of_eight (s2 ∷ s1 ∷ s0 ∷ a ∷ b ∷ c ∷ d ∷ e ∷ []) many quiet = absurd (omega arith)
choice_of_eight (s2 ∷ s1 ∷ s0 ∷ a ∷ b ∷ c ∷ d ∷ e ∷ f ∷ []) many quiet = absurd (omega arith)
choice_of_eight (s2 ∷ s1 ∷ s0 ∷ a ∷ b ∷ c ∷ d ∷ e ∷ f ∷ g ∷ []) many quiet = absurd (omega arith)
choice_of_eight (s2 ∷ s1 ∷ s0 ∷ a ∷ b ∷ c ∷ d ∷ e ∷ f ∷ g ∷ h ∷ []) many quiet =
    let qs2 = head_quiet s2 (s1 ∷ s0 ∷ a ∷ b ∷ c ∷ d ∷ e ∷ f ∷ g ∷ h ∷ []) quiet in
    let after_s2 = tail_quiet s2 (s1 ∷ s0 ∷ a ∷ b ∷ c ∷ d ∷ e ∷ f ∷ g ∷ h ∷ []) quiet in
    let qs1 = head_quiet s1 (s0 ∷ a ∷ b ∷ c ∷ d ∷ e ∷ f ∷ g ∷ h ∷ []) after_s2 in
    let after_s1 = tail_quiet s1 (s0 ∷ a ∷ b ∷ c ∷ d ∷ e ∷ f ∷ g ∷ h ∷ []) after_s2 in
    let qs0 = head_quiet s0 (a ∷ b ∷ c ∷ d ∷ e ∷ f ∷ g ∷ h ∷ []) after_s1 in
    let after_s0 = tail_quiet s0 (a ∷ b ∷ c ∷ d ∷ e ∷ f ∷ g ∷ h ∷ []) after_s1 in
    let qa = head_quiet a (b ∷ c ∷ d ∷ e ∷ f ∷ g ∷ h ∷ []) after_s0 in
    let after_a = tail_quiet a (b ∷ c ∷ d ∷ e ∷ f ∷ g ∷ h ∷ []) after_s0 in
    let qb = head_quiet b (c ∷ d ∷ e ∷ f ∷ g ∷ h ∷ []) after_a in
    let after_b = tail_quiet b (c ∷ d ∷ e ∷ f ∷ g ∷ h ∷ []) after_a in
    let qc = head_quiet c (d ∷ e ∷ f ∷ g ∷ h ∷ []) after_b in
    let after_c = tail_quiet c (d ∷ e ∷ f ∷ g ∷ h ∷ []) after_b in
    let qd = head_quiet d (e ∷ f ∷ g ∷ h ∷ []) after_c in
    let after_d = tail_quiet d (e ∷ f ∷ g ∷ h ∷ []) after_c in
    let qe = head_quiet e (f ∷ g ∷ h ∷ []) after_d in
    let after_e = tail_quiet e (f ∷ g ∷ h ∷ []) after_d in
    let qf = head_quiet f (g ∷ h ∷ []) after_e in
    let after_f = tail_quiet f (g ∷ h ∷ []) after_e in
    let qg = head_quiet g (h ∷ []) after_f in
    let after_g = tail_quiet g (h ∷ []) after_f in
    let qh = head_quiet h [] after_g in
    quiet_mux2 _ _ _ qs2 (quiet_mux2 _ _ _ qs1 (quiet_mux2 _ _ _ qs0 qa qb) (quiet_mux2 _ _ _ qs0 qc qd)) (quiet_mux2 _ _ _ qs1 (quiet_mux2 _ _ _ qs0 qe qf) (quiet_mux2 _ _ _ qs0 qg qh))
choice_of_eight (s2 ∷ s1 ∷ s0 ∷ a ∷ b ∷ c ∷ d ∷ e ∷ f ∷ g ∷ h ∷ other ∷ others) many quiet = absurd (omega arith)

-- what a gate makes of as many quiet values as it has pins
pub quiet_gate_value : (kind : Kind) (vs : List Value) → form_of kind ≡ Gate → (pin_counts kind).0 ≤ length vs → length vs ≤ (pin_counts kind).1 →
    list_all is_quiet vs ≡ true → is_quiet (gate_value kind vs) ≡ true
quiet_gate_value Buf vs gate least most quiet = buffer_quiet vs (omega (arith, least, most)) quiet
quiet_gate_value And vs gate least most quiet = left_quiet and_of quiet_and vs least quiet
quiet_gate_value Or vs gate least most quiet = left_quiet or_of quiet_or vs least quiet
quiet_gate_value Xor vs gate least most quiet = left_quiet xor_of quiet_xor vs least quiet
quiet_gate_value Mux2 vs gate least most quiet = choice_of_two vs (omega (arith, least, most)) quiet
quiet_gate_value Mux4 vs gate least most quiet = choice_of_four vs (omega (arith, least, most)) quiet
quiet_gate_value Mux8 vs gate least most quiet = choice_of_eight vs (omega (arith, least, most)) quiet
quiet_gate_value Chg vs gate least most quiet = absurd (cc)
quiet_gate_value Reg vs gate least most quiet = absurd (cc)
quiet_gate_value RegRs vs gate least most quiet = absurd (cc)
quiet_gate_value Latch vs gate least most quiet = absurd (cc)
quiet_gate_value LatchRs vs gate least most quiet = absurd (cc)
quiet_gate_value SetupHold vs gate least most quiet = absurd (cc)
quiet_gate_value RiseFall vs gate least most quiet = absurd (cc)
quiet_gate_value MinPulse vs gate least most quiet = absurd (cc)

-- ---- the image of a gate, with its mark

-- the marked wave beside one that stays
marked_quiet : (kind : Kind) → form_of kind ≡ Gate → (bit : Bool) → closes_of kind ≡ Some bit → (v : Value) → is_quiet v ≡ true →
    is_quiet (gate_value kind (v ∷ S ∷ [])) ≡ true
marked_quiet And gate bit closes v quiet = quiet_and v S quiet refl
marked_quiet Or gate bit closes v quiet = quiet_or v S quiet refl
marked_quiet Buf gate bit closes v quiet = absurd (cc)
marked_quiet Xor gate bit closes v quiet = absurd (cc)
marked_quiet Mux2 gate bit closes v quiet = absurd (cc)
marked_quiet Mux4 gate bit closes v quiet = absurd (cc)
marked_quiet Mux8 gate bit closes v quiet = absurd (cc)
marked_quiet Chg gate bit closes v quiet = absurd (cc)
marked_quiet Reg gate bit closes v quiet = absurd (cc)
marked_quiet RegRs gate bit closes v quiet = absurd (cc)
marked_quiet Latch gate bit closes v quiet = absurd (cc)
marked_quiet LatchRs gate bit closes v quiet = absurd (cc)
marked_quiet SetupHold gate bit closes v quiet = absurd (cc)
marked_quiet RiseFall gate bit closes v quiet = absurd (cc)
marked_quiet MinPulse gate bit closes v quiet = absurd (cc)

held_cell : (image : List Value → Value) (w : Wave Value) (p o : ℕ) → 0 < length w.cells →
    earlier values (held_wave image w).cells p o ≡ image (earlier values w.cells p o ∷ S ∷ [])
unfolding earlier
held_cell image w p o some =
    let f : Value → Value = λ v. image (v ∷ S ∷ []) in
    let long : length (map f w.cells) ≡ length w.cells = length-map w.cells f in
    let below = back_lt (length w.cells) p o some in
    ap (λ (n : ℕ). get_or (map f w.cells) (back n p o) U) long
    ∙ get_or-map f w.cells (back (length w.cells) p o) U U below

module _ (kind : Kind) (waves : List (Wave Value)) (d : Bounds) (p : ℕ) (gate : form_of kind ≡ Gate) (bounds : d.min ≤ d.max)
    (quiet : All (IsQuietBefore d p) waves) where
  held_quiet : (marked : ℕ) → MarkFits kind (Some marked) (length waves) → HaveOnePeriod waves → 0 < period_of waves →
      AreQuietFrom (held_wave (gate_value kind) (wave_of_pin waves marked)).cells p d.min (d.max + (wave_of_pin waves marked).skew)
  held_quiet marked mark long some = by (closes_of kind) refl mark
    where
      by : (closes : Option Bool) → closes_of kind ≡ closes → MarkIsAt closes marked (length waves) →
          AreQuietFrom (held_wave (gate_value kind) (wave_of_pin waves marked)).cells p d.min (d.max + (wave_of_pin waves marked).skew)
      by None none there = absurd there
      by (Some bit) closes there = λ o least most.
          let w : Wave Value = wave_of_pin waves marked in
          let own : IsQuietBefore d p w = All-get_or (IsQuietBefore d p) waves marked (skewed [] 0) there quiet in
          let period : length w.cells ≡ period_of waves =
          All-get_or (λ (x : Wave Value). length x.cells ≡ period_of waves) waves marked (skewed [] 0) there long in
          ap is_quiet (held_cell (gate_value kind) w p o (omega (arith, some, period)))
          ∙ marked_quiet kind gate bit closes (earlier values w.cells p o) (quiet_window w d p bounds own o least most)

  met_quiet : CountsFit kind (length waves) 0 → HaveOnePeriod waves → 0 < period_of waves → AreQuietFrom (meeting values (gate_value kind) waves).cells p d.min (d.max + (meeting values (gate_value kind) waves).skew)
  met_quiet counts long some =
      quiet_meeting (gate_value kind) waves d p some bounds long quiet (λ vs many still.
      let least = counts.least in
      let most = counts.most in
      quiet_gate_value kind vs gate (omega (arith, least, many)) (omega (arith, most, many)) still)

  quiet_image : (marked : Option ℕ) → AreFitting kind waves marked →
      AreQuietFrom (gate_image kind waves marked).cells p d.min (d.max + (gate_image kind waves marked).skew)
  quiet_image marked fits = by marked (hazard kind waves marked) fits.mark
    where
      by : (m : Option ℕ) (h : Option (ℕ × ℕ)) → MarkFits kind m (length waves) →
          AreQuietFrom (image_by (gate_value kind) waves m h).cells p d.min (d.max + (image_by (gate_value kind) waves m h).skew)
      by None h mark = met_quiet fits.counts fits.periods fits.some
      by (Some m) None mark = held_quiet m mark fits.periods fits.some
      by (Some m) (Some h) mark = met_quiet fits.counts fits.periods fits.some

  long_image : (marked : Option ℕ) → AreFitting kind waves marked → 0 < length (gate_image kind waves marked).cells
  long_image marked fits = by marked (hazard kind waves marked) fits.mark
    where
      held_long : (m : ℕ) (closes : Option Bool) → MarkIsAt closes m (length waves) → 0 < length (held_wave (gate_value kind) (wave_of_pin waves m)).cells
      held_long m None there = absurd there
      held_long m (Some bit) there =
          let w : Wave Value = wave_of_pin waves m in
          let period : length w.cells ≡ period_of waves =
          All-get_or (λ (x : Wave Value). length x.cells ≡ period_of waves) waves m (skewed [] 0) there fits.periods in
          let some = fits.some in
          let long = length-map w.cells (λ (v : Value). gate_value kind (v ∷ S ∷ [])) in
          omega (arith, some, period, long)

      by : (m : Option ℕ) (h : Option (ℕ × ℕ)) → MarkFits kind m (length waves) → 0 < length (image_by (gate_value kind) waves m h).cells
      by None h mark = long_meeting (gate_value kind) waves fits.some
      by (Some m) None mark = held_long m (closes_of kind) mark
      by (Some m) (Some h) mark = long_meeting (gate_value kind) waves fits.some

pub gates_are_quiet : GatesAreQuiet
unfolding gate_wave
gates_are_quiet kind waves marked d p is fits bounds quiet = by (form_of kind) refl (of_form is_memoryless kind ∙ is)
  where
    by : (form : Form) → form_of kind ≡ form → is_memoryless form ≡ true → IsQuietAt p (wave_by form kind waves marked d)
    by Gate gate is =
        quiet_moved (gate_image kind waves marked) d p (long_image kind waves d p gate bounds quiet marked fits) bounds
        (quiet_image kind waves d p gate bounds quiet marked fits)
    by Change change is = quiet_change waves d p fits.some bounds fits.periods quiet
    by (Register forced) form passes = absurd (cc)
    by (Enabled forced) form passes = absurd (cc)
    by (Checker check) form passes = absurd (cc)

-- ---- two delays

not_rising : (v : Value) → is_quiet v ≡ true → may_rise v ≡ false
not_rising v quiet = of_quiet (λ (v : Value). may_rise v ≡ false) refl refl refl v quiet

not_falling : (v : Value) → is_quiet v ≡ true → may_fall v ≡ false
not_falling v quiet = of_quiet (λ (v : Value). may_fall v ≡ false) refl refl refl v quiet

none_of : (f : ℕ → Bool) (n : ℕ) → ((i : ℕ) → i ≤ n → f i ≡ false) → some_to f n ≡ false
none_of f zero each = each 0 (omega arith)
none_of f (suc n) each =
    ap (λ (b : Bool). b || f (suc n)) (none_of f n (λ i most. each i (omega (arith, most)))) ∙ each (suc n) (omega arith)

neither : (b c last : Bool) → last ≡ false → (b && (c && last)) ≡ false
neither true true last none = none
neither true false last none = refl
neither false c last none = refl

still_cover : (s00 s01 s10 s11 unknown : Bool) → s01 ≡ false → s10 ≡ false → is_quiet (cover_of s00 s01 s10 s11 unknown) ≡ true
still_cover true false false true true rise fall = refl
still_cover true false false true false rise fall = refl
still_cover true false false false true rise fall = refl
still_cover true false false false false rise fall = refl
still_cover false false false true true rise fall = refl
still_cover false false false true false rise fall = refl
still_cover false false false false true rise fall = refl
still_cover false false false false false rise fall = refl
still_cover s00 true s10 s11 unknown rise fall = absurd (cc)
still_cover s00 false true s11 unknown rise fall = absurd (cc)

-- no step within the bounds of a delay before a slot that lies so much before another
none_before : (test : Value → Bool) → ((v : Value) → is_quiet v ≡ true → test v ≡ false) → (cells : List Value) (d : Bounds) (p o : ℕ) → d.min ≤ d.max →
    AreQuietFrom cells p (o + d.min) (o + d.max) → some_before test cells d (back (length cells) p o) ≡ false
none_before test fails cells d p o bounds quiet =
    none_of (λ i. test (earlier values cells (back (length cells) p o) (d.min + i))) (d.max - d.min) (λ i most.
    ap test (earlier_earlier values cells p o (d.min + i))
    ∙ fails (earlier values cells p (o + (d.min + i))) (quiet (o + (d.min + i)) (omega arith) (omega (arith, most, bounds))))

pub splits_are_quiet : SplitsAreQuiet
unfolding split_wave
splits_are_quiet kind waves marked s p gate fits rise fall quiet =
    let z : Wave Value = gate_image kind waves marked in
    let d : Bounds = either_delay s in
    let bounds : d.min ≤ d.max = omega (arith, rise) in
    let long = long_image kind waves d p gate bounds quiet marked fits in
    let still : AreQuietFrom z.cells p d.min (d.max + z.skew) = quiet_image kind waves d p gate bounds quiet marked fits in
    let whole = length_slots (length z.cells) (split_value s z.cells) in
    quiet_normal (skewed (slots (length z.cells) (split_value s z.cells)) z.skew) p (omega (arith, long, whole)) (λ o least most.
    let q : ℕ = back (length z.cells) p o in
    ap is_quiet (earlier_slots values (length z.cells) (split_value s z.cells) p o long)
    ∙ still_cover (may_be_zero s z.cells q)
    (may_be_one s z.cells q && (may_be_zero s z.cells (slot_before z.cells q) && some_before may_rise z.cells s.rise q))
    (may_be_zero s z.cells q && (may_be_one s z.cells (slot_before z.cells q) && some_before may_fall z.cells s.fall q))
    (may_be_one s z.cells q) (some_before is_unknown z.cells d q)
    (neither _ _ _ (none_before may_rise not_rising z.cells s.rise p o rise (λ i above below. still i (omega (arith, above)) (omega (arith, below, most)))))
    (neither _ _ _ (none_before may_fall not_falling z.cells s.fall p o fall (λ i above below. still i (omega (arith, above)) (omega (arith, below, most))))))
