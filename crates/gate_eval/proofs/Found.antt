-- What a search for a hazard has found.
use Rattle.std.proofs.Common.{inl, inr, ◌≡◌, ◌≢◌, ℕ, zero, suc, ◌+◌, ◌<◌, ◌≤◌, true, false, not, ◌&&◌, cond, eqb, List, length, map, get_or, refl, sym, ap, ◌∙◌, Option, Some, None, arith, eq-eqb}
use Rattle.std.specs.Prelude.{slice_get, is_none, is_some}
use Rattle.std.specs.Option.{option_or, option_map}
use Rattle.std.proofs.Math.Bool.{and-false}
use Rattle.std.proofs.lemmas.Bool.{cases_eq, cases_lt, ne_eqb, cond-true, cond-false}
use Rattle.std.proofs.lemmas.List.{get_or-map, length-map}
use Rattle.std.proofs.lemmas.Option.{get_or_from_slice_get}
use Rattle.step_values.specs.declared.value.Value.{Value}
use Rattle.step_values.specs.declared.value.Value.TheVariants.{U}
use Rattle.step_values.specs.Steps.{is_quiet}
use Rattle.step_values.specs.Cell.{values}
use Rattle.skew_algebra.specs.Wave.{Wave, fold, cell_at}
use Rattle.element_kinds.specs.declared.kind.Kind.{Kind}
use Rattle.gate_eval.specs.Meeting.{folds_in, period_of}
use Rattle.gate_eval.specs.Hold.{first_some, value_of_pin, is_closed, moves_beside, mover_beside, disturber, hazard}

-- ---- first places

-- none from i on before j, and j
pub first_some_from : {A : Type 0} (f : ℕ → Option A) (n i j : ℕ) (x : A) → ((k : ℕ) → i ≤ k → k < j → f k ≡ None) → i ≤ j → j < i + n → f j ≡ Some x →
    first_some f n i ≡ Some x
first_some_from f zero i j x before after within here = absurd (omega arith)
first_some_from f (suc n) i j x before after within here = elim (cases_eq i j) [
  | inl e ↦ ap (λ o. option_or o (first_some f n (i + 1))) (ap f e ∙ here)
  | inr ne ↦ ap (λ o. option_or o (first_some f n (i + 1))) (before i (omega arith) (omega arith))
      ∙ first_some_from f n (i + 1) j x (λ k above below. before k (omega arith) below) (omega arith) (omega arith) here
]

pub first_some_beyond : {A : Type 0} (f : ℕ → Option A) (n i : ℕ) → ((k : ℕ) → i ≤ k → k < i + n → f k ≡ None) → first_some f n i ≡ None
first_some_beyond f zero i nowhere = refl
first_some_beyond f (suc n) i nowhere =
    ap (λ o. option_or o (first_some f n (i + 1))) (nowhere i (omega arith) (omega arith))
    ∙ first_some_beyond f n (i + 1) (λ k above below. nowhere k (omega arith) (omega arith))

-- none before, and this one
pub first_some_at : {A : Type 0} (f : ℕ → Option A) (n i j : ℕ) (x : A) → ((k : ℕ) → k < j → f k ≡ None) → i ≤ j → j < i + n → f j ≡ Some x →
    first_some f n i ≡ Some x
first_some_at f n i j x before = first_some_from f n i j x (λ k above below. before k below)

pub first_some_nowhere : {A : Type 0} (f : ℕ → Option A) (n i : ℕ) → ((k : ℕ) → k < i + n → f k ≡ None) → first_some f n i ≡ None
first_some_nowhere f n i nowhere = first_some_beyond f n i (λ k above below. nowhere k below)

or_some : {A : Type 0} (o p : Option A) → is_none o ≡ false → is_none (option_or o p) ≡ false
or_some None p e = cc
or_some (Some x) p e = refl

or_rest : {A : Type 0} (o p : Option A) → is_none p ≡ false → is_none (option_or o p) ≡ false
or_rest None p e = e
or_rest (Some x) p e = refl

-- if one is there, some first one is
pub first_some_some : {A : Type 0} (f : ℕ → Option A) (n i j : ℕ) → i ≤ j → j < i + n → is_none (f j) ≡ false → is_none (first_some f n i) ≡ false
first_some_some f zero i j after within here = absurd (omega arith)
first_some_some f (suc n) i j after within here = elim (cases_eq j i) [
  | inl e ↦ or_some (f i) (first_some f n (i + 1)) (ap (λ (k : ℕ). is_none (f k)) (sym e) ∙ here)
  | inr ne ↦ or_rest (f i) (first_some f n (i + 1)) (first_some_some f n (i + 1) j (omega arith) (omega arith) here)
]

-- what holds of each number up to a slot, and from there on up to the next
pub below_run : (P : ℕ → Type 0) (i n : ℕ) → ((k : ℕ) → k < i → P k) → ((k : ℕ) → i ≤ k → k < n → P k) → (k : ℕ) → k < n → P k
below_run P i n before run k below = elim (cases_lt k i) [ inl less ↦ before k less | inr more ↦ run k more below ]

pub none_is : {A : Type 0} (o : Option A) → is_none o ≡ true → o ≡ None
none_is None e = refl
none_is (Some x) e = cc

pub none_not : {A : Type 0} (o : Option A) → is_some o ≡ true → is_none o ≡ false
none_not None e = cc
none_not (Some x) e = refl

-- ---- one slot

pub beside_moves : (marked : ℕ) (folds : List Value) (pin : ℕ) (v : Value) → v ≡ value_of_pin folds pin → pin ≢ marked → is_quiet v ≡ false → moves_beside marked folds pin ≡ true
beside_moves marked folds pin v is apart moves =
    let other : eqb pin marked ≡ false = ne_eqb pin marked apart in
    let quiet : is_quiet (value_of_pin folds pin) ≡ false = ap is_quiet (sym is) ∙ moves in
    λ i. not (other i) && not (quiet i)

pub beside_quiet : (marked : ℕ) (folds : List Value) (pin : ℕ) (v : Value) → v ≡ value_of_pin folds pin → is_quiet v ≡ true → moves_beside marked folds pin ≡ false
beside_quiet marked folds pin v is still =
    ap (λ b. not (eqb pin marked) && not b) (ap is_quiet (sym is) ∙ still) ∙ and-false (not (eqb pin marked))

pub beside_itself : (marked : ℕ) (folds : List Value) (pin : ℕ) → pin ≡ marked → moves_beside marked folds pin ≡ false
beside_itself marked folds pin e =
    let same : eqb pin marked ≡ true = eq-eqb pin marked e in
    ap (λ b. not b && not (is_quiet (value_of_pin folds pin))) same

module _ (kind : Kind) (marked : ℕ) (folds : List Value) where
  pub disturbs_closed : is_closed kind (value_of_pin folds marked) ≡ true → None ≡ disturber kind marked folds
  disturbs_closed closed = sym (cond-true (is_closed kind (value_of_pin folds marked)) None (mover_beside marked folds) closed)

  pub disturbs : (pin : ℕ) → is_closed kind (value_of_pin folds marked) ≡ false → ((k : ℕ) → k < pin → moves_beside marked folds k ≡ false) → pin < length folds →
      moves_beside marked folds pin ≡ true → Some pin ≡ disturber kind marked folds
  disturbs pin opened before within here =
      sym (cond-false (is_closed kind (value_of_pin folds marked)) None (mover_beside marked folds) opened
      ∙ first_some_at (λ j. cond (moves_beside marked folds j) (Some j) None) (length folds) 0 pin pin
      (λ k below. ap (λ b. cond b (Some k) None) (before k below)) (omega arith) (omega arith) (ap (λ b. cond b (Some pin) None) here))

  pub disturbs_none : is_closed kind (value_of_pin folds marked) ≡ false → ((k : ℕ) → k < length folds → moves_beside marked folds k ≡ false) → None ≡ disturber kind marked folds
  disturbs_none opened nowhere =
      sym (cond-false (is_closed kind (value_of_pin folds marked)) None (mover_beside marked folds) opened
      ∙ first_some_nowhere (λ j. cond (moves_beside marked folds j) (Some j) None) (length folds) 0
      (λ k below. ap (λ b. cond b (Some k) None) (nowhere k (omega arith))))

-- ---- the values that code reads

pub value_among : {A : Type 0} (folds : List A) (i : ℕ) (fold : A) (slot : ℕ) (v : Value) (cells : A → List Value) → i < length folds → fold ≡ get_or folds i fold →
    slice_get (cells fold) slot ≡ Some v → v ≡ value_of_pin (map (λ w. cell_at values (cells w) slot) folds) i
value_among folds i fold slot v cells below item is =
    sym (get_or-map (λ w. cell_at values (cells w) slot) folds i fold U below
    ∙ ap (λ w. cell_at values (cells w) slot) (sym item)
    ∙ get_or_from_slice_get (cells fold) slot v U is)

pub value_at : {P : Type 0} (pins : List P) (i : ℕ) (pin : P) (slot : ℕ) (v : Value) (wave : P → Wave Value) → i < length pins →
    v ≡ fold values (wave (get_or pins i pin)) slot → v ≡ value_of_pin (folds_in values (map wave pins) slot) i
value_at pins i pin slot v wave below is =
    let long : length (map wave pins) ≡ length pins = length-map pins wave in
    is ∙ sym (ap (λ w. fold values w slot) (get_or-map wave pins i pin (wave pin) below))
    ∙ sym (get_or-map (λ w. fold values w slot) (map wave pins) i (wave pin) U (omega (arith, long)))

pub value_of_item : {P : Type 0} (pins : List P) (i : ℕ) (pin : P) (slot : ℕ) (v : Value) (wave : P → Wave Value) → i < length pins → pin ≡ get_or pins i pin →
    v ≡ fold values (wave pin) slot → v ≡ value_of_pin (folds_in values (map wave pins) slot) i
value_of_item pins i pin slot v wave below item is = value_at pins i pin slot v wave below (is ∙ ap (λ q. fold values (wave q) slot) item)

pub folds_long : {P : Type 0} (pins : List P) (slot : ℕ) (wave : P → Wave Value) → length (folds_in values (map wave pins) slot) ≡ length pins
folds_long pins slot wave = length-map (map wave pins) (λ w. fold values w slot) ∙ length-map pins wave

-- ---- the whole

pub hazard_unmarked : (kind : Kind) (waves : List (Wave Value)) (marked : Option ℕ) → None ≡ marked → None ≡ hazard kind waves marked
unfolding hazard
hazard_unmarked kind waves marked e = ap (hazard kind waves) e

pub hazard_here : (kind : Kind) (waves : List (Wave Value)) (marked : Option ℕ) (m slot pin : ℕ) → Some m ≡ marked →
    ((k : ℕ) → k < slot → disturber kind m (folds_in values waves k) ≡ None) → slot < period_of waves → Some pin ≡ disturber kind m (folds_in values waves slot) →
    Some (slot, pin) ≡ hazard kind waves marked
unfolding hazard
hazard_here kind waves marked m slot pin e before below here =
    sym (first_some_at (λ p. option_map (λ j. (p, j)) (disturber kind m (folds_in values waves p))) (period_of waves) 0 slot (slot, pin)
    (λ k near. ap (option_map (λ j. (k, j))) (before k near)) (omega arith) (omega arith) (ap (option_map (λ j. (slot, j))) (sym here)))
    ∙ ap (hazard kind waves) e

pub hazard_nowhere : (kind : Kind) (waves : List (Wave Value)) (marked : Option ℕ) (m : ℕ) → Some m ≡ marked →
    ((k : ℕ) → k < period_of waves → disturber kind m (folds_in values waves k) ≡ None) → None ≡ hazard kind waves marked
unfolding hazard
hazard_nowhere kind waves marked m e nowhere =
    sym (first_some_nowhere (λ p. option_map (λ j. (p, j)) (disturber kind m (folds_in values waves p))) (period_of waves) 0
    (λ k near. ap (option_map (λ j. (k, j))) (nowhere k (omega arith))))
    ∙ ap (hazard kind waves) e
