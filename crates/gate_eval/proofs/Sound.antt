-- Gates and change functions are sound.
use Rattle.std.proofs.Common.{◌≡◌, ℕ, zero, suc, ◌+◌, ◌-◌, ◌%◌, ◌<◌, ◌≤◌, Bool, true, false, ◌&&◌, ◌||◌, cond, List, [], ◌∷◌, length, map, get_or, refl, sym, ap, ◌∙◌, subst, Option, Some, None, arith}
use Rattle.std.specs.List.{list_all, list_any}
use Rattle.std.proofs.lemmas.List.{get_or-map, length-map}
use Rattle.std.proofs.lemmas.List.Elements.{All-nil, All-cons}
use Rattle.std.proofs.lemmas.Bool.{and_parts, cond_both}
use Rattle.scald_base.specs.Clock.{back}
use Rattle.scald_base.specs.Time.{Bounds}
use Rattle.scald_base.specs.Signal.{Signal}
use Rattle.scald_base.proofs.Back.{back_lt, back_zero, back_later, back_mod}
use Rattle.wave_core.specs.Cell.{Cells}
use Rattle.wave_core.specs.Slots.{earlier}
use Rattle.wave_core.proofs.Slots.{length_slots, earlier_slots}
use Rattle.step_values.specs.declared.value.Value.{Value}
use Rattle.step_values.specs.declared.value.Value.TheVariants.{S, C, U}
use Rattle.step_values.specs.Steps.{has, is_quiet}
use Rattle.step_values.specs.Cell.{values}
use Rattle.step_values.specs.Lawful.{values_lawful}
use Rattle.step_values.specs.Image.{and_of, or_of}
use Rattle.step_values.proofs.Sound.{and_of_has, or_of_has}
use Rattle.step_values.proofs.Permits.{quiet_same, still_has}
use Rattle.skew_algebra.specs.Wave.{Wave, skewed, moved}
use Rattle.skew_algebra.specs.Permits.{Permits}
use Rattle.skew_algebra.proofs.Moves.{Permits_moved, Permits_normal}
use Rattle.element_kinds.specs.declared.kind.Kind.{Kind}
use Rattle.element_kinds.specs.declared.kind.Kind.TheVariants.{And, Or, Chg, Reg, RegRs, Latch, LatchRs, SetupHold, RiseFall, MinPulse}
use Rattle.element_kinds.specs.Kinds.{closes_of}
use Rattle.element_kinds.specs.Equation.{gate_bit, bits_at, nth_signal, AreStill, IsInReach}
use Rattle.flat_circuit.specs.Run.{Within}
use Rattle.gate_eval.specs.Meeting.{folds_in, period_of, meeting}
use Rattle.gate_eval.specs.Permitted.{AllPermit, AllHave}
use Rattle.gate_eval.specs.Gates.{gate_value}
use Rattle.gate_eval.specs.Hold.{hazard, hazard_beside, closed_bit, IsHeld, KeepsMark}
use Rattle.gate_eval.specs.Change.{pass_before, is_known, change_at, change_wave}
use Rattle.gate_eval.specs.Instance.{wave_of_pin, held_wave, image_by, gate_image, gate_wave, is_gate, MarkIsAt, MarkFits, IsSound}
use Rattle.gate_eval.proofs.Fitting.{Fits, AllFit, as_many_waves, folds_have}
use Rattle.gate_eval.proofs.Meets.{Permits_meeting, length_meeting}
use Rattle.gate_eval.proofs.Bits.{gate_has}
use Rattle.gate_eval.proofs.Held.{held_at, held_whole}
use Rattle.gate_eval.proofs.Windows.{all_to_at}

-- ---- the wave of one pin

module _ {T : Type 0} (k : Cells T) where
  earlier_mapped : (h : T → T) (cells : List T) (t o : ℕ) → 0 < length cells → earlier k (map h cells) t o ≡ h (earlier k cells t o)
  unfolding earlier
  earlier_mapped h cells t o some =
      ap (λ (l : ℕ). get_or (map h cells) (back l t o) k.any) (length-map cells h)
      ∙ get_or-map h cells (back (length cells) t o) k.any k.any (back_lt (length cells) t o some)

  -- what is made of one wave, cell by cell
  pub Permits_mapped : (w : Wave T) (h : T → T) (n : ℕ) (x z : Signal) (v : ℕ) → 0 < length w.cells → Permits k w n x v →
      ((t : ℕ) → 1 ≤ t → v ≤ t → t < n → (c : T) → k.has c (x (t - 1)) (x t) ≡ true → k.has (h c) (z (t - 1)) (z t) ≡ true) →
      Permits k (skewed (map h w.cells) w.skew) n z v
  Permits_mapped w h n x z v some p makes =
      record {
        offset = p.offset;
        within = p.within;
        steps = λ t t1 tv tn.
            ap (λ c. k.has c (z (t - 1)) (z t)) (earlier_mapped h w.cells t p.offset some)
            ∙ makes t t1 tv tn (earlier k w.cells t p.offset) (p.steps t t1 tv tn);
      }

  permit_at : (waves : List (Wave T)) (n : ℕ) (xs : List Signal) (v i : ℕ) (d : Wave T) (e : Signal) → AllPermit k waves n xs v → i < length waves →
      Permits k (get_or waves i d) n (get_or xs i e) v
  permit_at [] n xs v i d e ps below = absurd (omega arith)
  permit_at (w ∷ ws) n [] v i d e ps below = absurd ps
  permit_at (w ∷ ws) n (x ∷ xs) v zero d e ps below = ps.0
  permit_at (w ∷ ws) n (x ∷ xs) v (suc i) d e ps below = permit_at ws n xs v i d e ps.1 (omega arith)

  pub fit_at : (period : ℕ) (waves : List (Wave T)) (i : ℕ) (d : Wave T) → AllFit k period waves → i < length waves → Fits k period (get_or waves i d)
  fit_at period [] i d fits below = absurd (omega arith)
  fit_at period (w ∷ ws) zero d fits below = fits.0
  fit_at period (w ∷ ws) (suc i) d fits below = fit_at period ws i d fits.1 (omega arith)

-- ---- gates

held_has : (kind : Kind) (marked count : ℕ) (v : Value) (xs : List Signal) (t : ℕ) → MarkFits kind (Some marked) count → marked < length xs →
    has v (nth_signal xs marked (t - 1)) (nth_signal xs marked t) ≡ true → IsHeld (closed_bit kind) marked xs t →
    has (gate_value kind (v ∷ S ∷ [])) (gate_bit kind (bits_at xs (t - 1))) (gate_bit kind (bits_at xs t)) ≡ true
held_has And marked count v xs t fits below h held =
    held_whole (λ a b. a && b) (list_all (λ b. b)) false (λ b bs. refl) (λ a b c. grind arith) (λ b. refl) (λ b. grind arith) and_of and_of_has v xs marked t below h held
held_has Or marked count v xs t fits below h held =
    held_whole (λ a b. a || b) (list_any (λ b. b)) true (λ b bs. refl) (λ a b c. grind arith) (λ b. refl) (λ b. grind arith) or_of or_of_has v xs marked t below h held
held_has kind marked count v xs t fits below h held = absurd fits

pub mark_below : (kind : Kind) (marked count : ℕ) → MarkFits kind (Some marked) count → marked < count
mark_below kind marked count fits = by (closes_of kind) fits
  where
    by : (closes : Option Bool) → MarkIsAt closes marked count → marked < count
    by None at = absurd at
    by (Some bit) at = at

module _ (kind : Kind) (waves : List (Wave Value)) (n : ℕ) (xs : List Signal) (v : ℕ) (some : 0 < period_of waves) (fits : AllFit values (period_of waves) waves)
    (ps : AllPermit values waves n xs v) where
  meeting_sound : Permits values (meeting values (gate_value kind) waves) n (λ t. gate_bit kind (bits_at xs t)) v
  meeting_sound =
      Permits_meeting values (gate_value kind) values_lawful waves n xs v (λ t. gate_bit kind (bits_at xs t)) some fits ps
      (λ t t1 tv tn cells hs. gate_has kind cells xs t hs)

  held_sound : (marked : ℕ) → hazard_beside kind waves marked ≡ None → MarkFits kind (Some marked) (length waves) →
      Permits values (held_wave (gate_value kind) (wave_of_pin waves marked)) n (λ t. gate_bit kind (bits_at xs t)) v
  held_sound marked none mark =
      let below : marked < length waves = mark_below kind marked (length waves) mark in
      let long : length waves ≡ length xs = as_many_waves values waves n xs v ps in
      let fit : Fits values (period_of waves) (wave_of_pin waves marked) = fit_at values (period_of waves) waves marked (skewed [] 0) fits below in
      let size : length (wave_of_pin waves marked).cells ≡ period_of waves = fit.long in
      Permits_mapped values (wave_of_pin waves marked) (λ c. gate_value kind (c ∷ S ∷ [])) n (nth_signal xs marked) (λ t. gate_bit kind (bits_at xs t)) v (omega (arith, size))
      (permit_at values waves n xs v marked (skewed [] 0) (λ t. false) ps below)
      (λ t t1 tv tn c h. held_has kind marked (length waves) c xs t mark (omega (arith, long)) h
      (held_at kind waves marked n xs v t none some fits ps below t1 tv tn))

  pub image_sound : (marked : Option ℕ) (h : Option (ℕ × ℕ)) → hazard kind waves marked ≡ h → MarkFits kind marked (length waves) →
      Permits values (image_by (gate_value kind) waves marked h) n (λ t. gate_bit kind (bits_at xs t)) v
  unfolding hazard
  image_sound None h e mark = meeting_sound
  image_sound (Some marked) (Some h) e mark = meeting_sound
  image_sound (Some marked) None e mark = held_sound marked e mark

  pub length_image : (marked : Option ℕ) (h : Option (ℕ × ℕ)) → MarkFits kind marked (length waves) → length (image_by (gate_value kind) waves marked h).cells ≡ period_of waves
  length_image None h mark = length_meeting values (gate_value kind) waves
  length_image (Some marked) (Some h) mark = length_meeting values (gate_value kind) waves
  length_image (Some marked) None mark =
      length-map (wave_of_pin waves marked).cells (λ c. gate_value kind (c ∷ S ∷ []))
      ∙ (fit_at values (period_of waves) waves marked (skewed [] 0) fits (mark_below kind marked (length waves) mark)).long

-- a gate's output, a delay within the bounds after its pins
moved_sound : (kind : Kind) (waves : List (Wave Value)) (marked : Option ℕ) (d : Bounds) (n m v delay : ℕ) (xs : List Signal) (y : Signal) →
    0 < period_of waves → AllFit values (period_of waves) waves → MarkFits kind marked (length waves) → AllPermit values waves n xs v → 1 ≤ v → Within d delay → m ≤ n + d.min →
    ((t : ℕ) → v + d.max ≤ t → t < m → y t ≡ gate_bit kind (bits_at xs (t - delay))) →
    Permits values (moved values (gate_image kind waves marked) d) m y (v + d.max + 1)
moved_sound kind waves marked d n m v delay xs y some fits mark ps v1 within mn obeys =
    let long : length (gate_image kind waves marked).cells ≡ period_of waves =
    length_image kind waves n xs v some fits ps marked (hazard kind waves marked) mark in
    let low : d.min ≤ delay = within.0 in
    let high : delay ≤ d.max = within.1 in
    Permits_moved values values_lawful (gate_image kind waves marked) d (omega (arith, long)) n m v (v + d.max + 1) delay (λ t. gate_bit kind (bits_at xs t)) y
    (image_sound kind waves n xs v some fits ps marked (hazard kind waves marked) refl mark)
    low high v1 (omega arith) (omega arith)
    (λ t tu tm. obeys t (omega arith) tm)

-- ---- change functions

still_all : (vs : List Value) (xs : List Signal) (t : ℕ) → AllHave values vs xs t → list_all is_quiet vs ≡ true → AreStill xs t
still_all [] [] t hs quiet = All-nil (λ (x : Signal). x (t - 1) ≡ x t)
still_all [] (x ∷ xs) t hs quiet = absurd hs
still_all (v ∷ vs) [] t hs quiet = absurd hs
still_all (v ∷ vs) (x ∷ xs) t hs quiet =
    let parts : (is_quiet v ≡ true) × (list_all is_quiet vs ≡ true) = and_parts (is_quiet v) (list_all is_quiet vs) quiet in
    All-cons (λ (x : Signal). x (t - 1) ≡ x t) x xs (quiet_same v (x (t - 1)) (x t) parts.0 hs.0) (still_all vs xs t hs.1 parts.1)

-- the slot of a tick that lies so many ticks before
slot_before : (p t u : ℕ) → 0 < p → u ≤ t → back p (t % p) (t - u) ≡ u % p
slot_before p t u some before =
    back_mod p t (t - u)
    ∙ ap (λ (z : ℕ). back p z (t - u)) (let e : t ≡ u + (t - u) = omega arith in e)
    ∙ ap (back p (u + (t - u))) (let e : t - u ≡ t - u + 0 = omega arith in e)
    ∙ back_later p u (t - u) 0 some
    ∙ back_zero p u

change_sound : (waves : List (Wave Value)) (d : Bounds) (n m v : ℕ) (xs : List Signal) (y : Signal) →
    0 < period_of waves → AllFit values (period_of waves) waves → AllPermit values waves n xs v → m ≤ n + d.min →
    ((t : ℕ) → v + d.max ≤ t → t < m → ((u : ℕ) → IsInReach d t u → AreStill xs u) → y (t - 1) ≡ y t) →
    Permits values (change_wave waves d) m y (v + d.max + 1)
unfolding change_wave
change_sound waves d n m v xs y some fits ps mn obeys =
    record {
      offset = 0;
      within = omega arith;
      steps = λ t t1 tv tm.
          ap (λ c. has c (y (t - 1)) (y t))
          (earlier_slots values (period_of waves) (change_at waves d) t 0 some ∙ ap (change_at waves d) (back_zero (period_of waves) t))
          ∙ at t tv tm (pass_before is_quiet waves d (t % period_of waves)) refl;
    }
  where
    at : (t : ℕ) → v + d.max + 1 ≤ t → t < m → (quiet : Bool) → pass_before is_quiet waves d (t % period_of waves) ≡ quiet →
        has (change_at waves d (t % period_of waves)) (y (t - 1)) (y t) ≡ true
    at t tv tm true e =
        ap (λ b. has (cond b S (cond (pass_before is_known waves d (t % period_of waves)) C U)) (y (t - 1)) (y t)) e
        ∙ still_has (y (t - 1)) (y t) (obeys t (omega arith) tm (λ u near.
        let low : u + d.min ≤ t = near.0 in
        let high : t ≤ u + d.max = near.1 in
        let slot : back (period_of waves) (t % period_of waves) (d.min + (t - u - d.min)) ≡ u % period_of waves =
        ap (back (period_of waves) (t % period_of waves)) (let far : d.min + (t - u - d.min) ≡ t - u = omega arith in far)
        ∙ slot_before (period_of waves) t u some (omega arith) in
        still_all (folds_in values waves (u % period_of waves)) xs u
        (folds_have values values_lawful (period_of waves) waves n xs v u fits ps (omega arith) (omega arith) (omega arith))
        (ap (λ (p : ℕ). list_all is_quiet (folds_in values waves p)) (sym slot)
        ∙ all_to_at (λ i. list_all is_quiet (folds_in values waves (back (period_of waves) (t % period_of waves) (d.min + i)))) (d.max - d.min) (t - u - d.min) e (omega arith))))
    at t tv tm false e =
        ap (λ b. has (cond b S (cond (pass_before is_known waves d (t % period_of waves)) C U)) (y (t - 1)) (y t)) e
        ∙ cond_both (pass_before is_known waves d (t % period_of waves)) C U (λ (c : Value). has c (y (t - 1)) (y t) ≡ true) (λ e. refl) (λ e. refl)

pub length_change : (waves : List (Wave Value)) (d : Bounds) → length (change_wave waves d).cells ≡ period_of waves
unfolding change_wave
length_change waves d = length_slots (period_of waves) (change_at waves d)

-- ---- all of them

pub gate_sound : (kind : Kind) (waves : List (Wave Value)) (marked : Option ℕ) (d : Bounds) → is_gate kind ≡ true → MarkFits kind marked (length waves) →
    0 < period_of waves → AllFit values (period_of waves) waves → IsSound kind d waves (gate_wave kind waves marked d)
unfolding gate_wave
gate_sound Chg waves marked d gate mark some fits = λ n m v delay xs y ps v1 within mn obeys.
    let long : length (change_wave waves d).cells ≡ period_of waves = length_change waves d in
    Permits_normal values values_lawful (change_wave waves d) (omega (arith, long)) m (v + d.max + 1) y
    (change_sound waves d n m v xs y some fits ps mn obeys)
gate_sound Reg waves marked d gate mark some fits = λ n m v delay xs y ps v1 within mn obeys. cc
gate_sound RegRs waves marked d gate mark some fits = λ n m v delay xs y ps v1 within mn obeys. cc
gate_sound Latch waves marked d gate mark some fits = λ n m v delay xs y ps v1 within mn obeys. cc
gate_sound LatchRs waves marked d gate mark some fits = λ n m v delay xs y ps v1 within mn obeys. cc
gate_sound SetupHold waves marked d gate mark some fits = λ n m v delay xs y ps v1 within mn obeys. cc
gate_sound RiseFall waves marked d gate mark some fits = λ n m v delay xs y ps v1 within mn obeys. cc
gate_sound MinPulse waves marked d gate mark some fits = λ n m v delay xs y ps v1 within mn obeys. cc
gate_sound kind waves marked d gate mark some fits = λ n m v delay xs y ps v1 within mn obeys. moved_sound kind waves marked d n m v delay xs y some fits mark ps v1 within mn obeys

-- if there is no hazard, the rule of the mark is kept
pub no_hazard : (kind : Kind) (waves : List (Wave Value)) (mark : Option ℕ) → None ≡ hazard kind waves mark → MarkFits kind mark (length waves) →
    0 < period_of waves → AllFit values (period_of waves) waves → KeepsMark kind waves mark
unfolding hazard
no_hazard kind waves None none fits some all marked n v t signals e ps t1 tv tn = cc
no_hazard kind waves (Some m) none fits some all marked n v t signals e ps t1 tv tn =
    let same : m ≡ marked = cc in
    subst (λ (i : ℕ). IsHeld (closed_bit kind) i signals t) same
    (held_at kind waves m n signals v t (sym none) some all ps (mark_below kind m (length waves) fits) t1 tv tn)
