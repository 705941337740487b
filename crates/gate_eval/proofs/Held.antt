-- If no slot has a hazard, the marked pin keeps the gate's output, or the other pins stay as they are.
use Rattle.std.proofs.Common.{inl, inr, ◌≡◌, ◌≢◌, ℕ, zero, suc, ◌+◌, ◌-◌, ◌%◌, ◌<◌, ◌≤◌, Bool, true, false, not, ◌&&◌, cond, List, [], ◌∷◌, length, eqb, refl, sym, ap, subst, ◌∙◌, Option, Some, None, arith}
use Rattle.std.specs.Option.{option_or, option_map}
use Rattle.std.proofs.lemmas.Bool.{and_parts, cases_eq, ne_eqb, not-true}
use Rattle.std.proofs.lemmas.List.{length-map}
use Rattle.std.proofs.Math.Nat.{mod-lt}
use Rattle.scald_base.specs.Signal.{Signal}
use Rattle.step_values.specs.declared.value.Value.{Value}
use Rattle.step_values.specs.declared.value.Value.TheVariants.{Zero, One, S}
use Rattle.step_values.specs.Steps.{has, is_quiet}
use Rattle.step_values.specs.Cell.{values}
use Rattle.step_values.specs.Lawful.{values_lawful}
use Rattle.step_values.proofs.Permits.{quiet_same, still_has}
use Rattle.skew_algebra.specs.Wave.{Wave, fold}
use Rattle.element_kinds.specs.declared.kind.Kind.{Kind}
use Rattle.element_kinds.specs.Kinds.{closes_of}
use Rattle.element_kinds.specs.Equation.{nth_signal, bits_at}
use Rattle.gate_eval.specs.Meeting.{folds_in, period_of}
use Rattle.gate_eval.specs.Permitted.{AllPermit, AllHave}
use Rattle.gate_eval.specs.Hold.{first_some, value_of_pin, is_settled, is_closed, moves_beside, mover_beside, disturber, hazard_beside, settling_bit, closed_bit, IsHeld}
use Rattle.gate_eval.proofs.Fitting.{AllFit, as_many_cells, folds_have}

-- ---- first places

or_none : {A : Type 0} (o p : Option A) → option_or o p ≡ None → (o ≡ None) × (p ≡ None)
or_none None p e = (refl, e)
or_none (Some x) p e = cc

-- if there is none, none of them is
pub first_some_none : {A : Type 0} (f : ℕ → Option A) (n i j : ℕ) → first_some f n i ≡ None → i ≤ j → j < i + n → f j ≡ None
first_some_none f zero i j none after before = absurd (omega arith)
first_some_none f (suc n) i j none after before = elim (cases_eq j i) [
  | inl e ↦ ap f e ∙ (or_none (f i) (first_some f n (i + 1)) none).0
  | inr ne ↦ first_some_none f n (i + 1) j (or_none (f i) (first_some f n (i + 1)) none).1 (omega arith) (omega arith)
]

pub map_none : {A B : Type 0} (h : A → B) (o : Option A) → option_map h o ≡ None → o ≡ None
map_none h None e = refl
map_none h (Some x) e = cc

-- ---- one slot

pub have_at : (vs : List Value) (xs : List Signal) (t i : ℕ) → AllHave values vs xs t → i < length vs →
    has (value_of_pin vs i) (nth_signal xs i (t - 1)) (nth_signal xs i t) ≡ true
have_at [] xs t i hs below = absurd (omega arith)
have_at (v ∷ vs) [] t i hs below = absurd hs
have_at (v ∷ vs) (x ∷ xs) t zero hs below = hs.0
have_at (v ∷ vs) (x ∷ xs) t (suc i) hs below = have_at vs xs t i hs.1 (omega arith)

unmoved : (same_pin quiet : Bool) (pin : ℕ) → same_pin ≡ false → cond (not same_pin && not quiet) (Some pin) None ≡ None → quiet ≡ true
unmoved true quiet pin other none = cc
unmoved false true pin other none = refl
unmoved false false pin other none = cc

-- if nothing moves beside the marked pin, each other pin is quiet
pub beside_quiet : (marked : ℕ) (folds : List Value) (pin : ℕ) → mover_beside marked folds ≡ None → pin < length folds → pin ≢ marked → is_quiet (value_of_pin folds pin) ≡ true
beside_quiet marked folds pin none below apart =
    unmoved (eqb pin marked) (is_quiet (value_of_pin folds pin)) pin (ne_eqb pin marked apart)
    (first_some_none (λ j. cond (moves_beside marked folds j) (Some j) None) (length folds) 0 pin none (omega arith) (omega arith))

-- a marked pin that lets nothing through is at the closing bit before and after
pub closed_bits : (kind : Kind) (v : Value) (a b : Bool) → is_closed kind v ≡ true → has v a b ≡ true → (a ≡ closed_bit kind) × (b ≡ closed_bit kind)
closed_bits kind v a b closed h = by (closes_of kind) closed
  where
    by : (closes : Option Bool) → is_settled closes v ≡ true → (a ≡ settling_bit closes) × (b ≡ settling_bit closes)
    by None settled = cc
    by (Some false) settled =
        let low = and_parts (not a) (not b) (subst (λ (w : Value). has w a b ≡ true) (values_lawful.same_is v Zero settled) h) in
        (not-true a low.0, not-true b low.1)
    by (Some true) settled = and_parts a b (subst (λ (w : Value). has w a b ≡ true) (values_lawful.same_is v One settled) h)

held_by : (kind : Kind) (folds : List Value) (marked : ℕ) (xs : List Signal) (t : ℕ) → disturber kind marked folds ≡ None → AllHave values folds xs t →
    marked < length folds → IsHeld (closed_bit kind) marked xs t
held_by kind folds marked xs t none hs below = by (is_closed kind (value_of_pin folds marked)) refl none
  where
    long : length folds ≡ length xs
    long = as_many_cells values folds xs t hs

    by : (closed : Bool) → is_closed kind (value_of_pin folds marked) ≡ closed → cond closed None (mover_beside marked folds) ≡ None → IsHeld (closed_bit kind) marked xs t
    by true closed none =
        inl (closed_bits kind (value_of_pin folds marked) (nth_signal xs marked (t - 1)) (nth_signal xs marked t) closed (have_at folds xs t marked hs below))
    by false opened none =
        inr (λ pin within apart.
        let near : pin < length folds = omega (arith, long) in
        quiet_same (value_of_pin folds pin) (nth_signal xs pin (t - 1)) (nth_signal xs pin t)
        (beside_quiet marked folds pin none near apart) (have_at folds xs t pin hs near))

-- no slot has a hazard, so at no tick from v on is the mark's rule broken
pub held_at : (kind : Kind) (waves : List (Wave Value)) (marked n : ℕ) (xs : List Signal) (v t : ℕ) → hazard_beside kind waves marked ≡ None → 0 < period_of waves →
    AllFit values (period_of waves) waves → AllPermit values waves n xs v → marked < length waves → 1 ≤ t → v ≤ t → t < n → IsHeld (closed_bit kind) marked xs t
held_at kind waves marked n xs v t none some fits ps below t1 tv tn =
    let slot : ℕ = t % period_of waves in
    let near : t % period_of waves < period_of waves = mod-lt t some in
    let long : length (folds_in values waves (t % period_of waves)) ≡ length waves = length-map waves (λ w. fold values w (t % period_of waves)) in
    held_by kind (folds_in values waves (t % period_of waves)) marked xs t
    (map_none (λ pin. (t % period_of waves, pin)) (disturber kind marked (folds_in values waves (t % period_of waves)))
    (first_some_none (λ slot. option_map (λ pin. (slot, pin)) (disturber kind marked (folds_in values waves slot))) (period_of waves) 0 (t % period_of waves)
    none (omega arith) (omega arith)))
    (folds_have values values_lawful (period_of waves) waves n xs v t fits ps t1 tv tn)
    (omega (arith, long))

-- ---- what passes of the marked pin

module _ (bit : Bool → Bool → Bool) (whole : List Bool → Bool) (closed : Bool)
    (more : (b : Bool) (bs : List Bool) → whole (b ∷ bs) ≡ bit b (whole bs))
    (swap : (a b c : Bool) → bit a (bit b c) ≡ bit b (bit a c))
    (shut : (b : Bool) → bit closed b ≡ closed) (shut' : (b : Bool) → bit b closed ≡ closed) where
  -- a pin at the closing bit decides
  whole_closed : (xs : List Signal) (marked t : ℕ) → marked < length xs → nth_signal xs marked t ≡ closed → whole (bits_at xs t) ≡ closed
  whole_closed [] marked t below e = absurd (omega arith)
  whole_closed (x ∷ xs) zero t below e = more (x t) (bits_at xs t) ∙ ap (λ b. bit b (whole (bits_at xs t))) e ∙ shut (whole (bits_at xs t))
  whole_closed (x ∷ xs) (suc m) t below e =
      more (x t) (bits_at xs t) ∙ ap (bit (x t)) (whole_closed xs m t (omega arith) e) ∙ shut' (x t)

  still_whole : (xs : List Signal) (t : ℕ) → ((pin : ℕ) → pin < length xs → nth_signal xs pin (t - 1) ≡ nth_signal xs pin t) →
      whole (bits_at xs (t - 1)) ≡ whole (bits_at xs t)
  still_whole [] t still = refl
  still_whole (x ∷ xs) t still =
      let first : x (t - 1) ≡ x t = still 0 (omega arith) in
      let rest : whole (bits_at xs (t - 1)) ≡ whole (bits_at xs t) = still_whole xs t (λ pin below. still (suc pin) (omega arith)) in
      more (x (t - 1)) (bits_at xs (t - 1)) ∙ (λ i. bit (first i) (rest i)) ∙ sym (more (x t) (bits_at xs t))

  -- if the other pins do not step, the marked one goes with one bit of theirs
  passes : (xs : List Signal) (marked t : ℕ) → marked < length xs → ((pin : ℕ) → pin < length xs → pin ≢ marked → nth_signal xs pin (t - 1) ≡ nth_signal xs pin t) →
      (rest : Bool) × (whole (bits_at xs (t - 1)) ≡ bit (nth_signal xs marked (t - 1)) rest) × (whole (bits_at xs t) ≡ bit (nth_signal xs marked t) rest)
  passes [] marked t below still = absurd (omega arith)
  passes (x ∷ xs) zero t below still = (
    whole (bits_at xs t),
    more (x (t - 1)) (bits_at xs (t - 1)) ∙ ap (bit (x (t - 1))) (still_whole xs t (λ pin within. still (suc pin) (omega arith) (λ e. absurd (omega arith)))),
    more (x t) (bits_at xs t),
  )
  passes (x ∷ xs) (suc m) t below still =
      let r = passes xs m t (omega arith) (λ pin within apart. still (suc pin) (omega arith) (λ e. apart (omega arith))) in
      let first : x (t - 1) ≡ x t = still 0 (omega arith) (λ e. absurd (omega arith)) in (
        bit (x t) r.0,
        more (x (t - 1)) (bits_at xs (t - 1)) ∙ (λ i. bit (first i) (r.1 i)) ∙ swap (x t) (nth_signal xs m (t - 1)) r.0,
        more (x t) (bits_at xs t) ∙ ap (bit (x t)) r.2 ∙ swap (x t) (nth_signal xs m t) r.0,
      )

  pub held_whole : (pair : Value → Value → Value) →
      ((v w : Value) (a a' b b' : Bool) → has v a a' ≡ true → has w b b' ≡ true → has (pair v w) (bit a b) (bit a' b') ≡ true) →
      (v : Value) (xs : List Signal) (marked t : ℕ) → marked < length xs → has v (nth_signal xs marked (t - 1)) (nth_signal xs marked t) ≡ true →
      IsHeld closed marked xs t → has (pair v S) (whole (bits_at xs (t - 1))) (whole (bits_at xs t)) ≡ true
  held_whole pair pairs v xs marked t below h (inl e) =
      let before : whole (bits_at xs (t - 1)) ≡ closed = whole_closed xs marked (t - 1) below e.0 in
      let now : whole (bits_at xs t) ≡ closed = whole_closed xs marked t below e.1 in
      (λ i. has (pair v S) ((before ∙ sym (shut true)) i) ((now ∙ sym (shut true)) i))
      ∙ pairs v S closed closed true true ((λ i. has v (sym e.0 i) (sym e.1 i)) ∙ h) refl
  held_whole pair pairs v xs marked t below h (inr still) =
      let r = passes xs marked t below still in
      (λ i. has (pair v S) (r.1 i) (r.2 i))
      ∙ pairs v S (nth_signal xs marked (t - 1)) (nth_signal xs marked t) r.0 r.0 h (still_has r.0 r.0 refl)
