-- Spans of a clock, slot by slot.
use Rattle.std.proofs.Common.{inl, inr, ◌≡◌, ℕ, zero, suc, ◌+◌, ◌-◌, ◌*◌, ◌%◌, ◌<◌, ◌≤◌, Bool, cond, refl, sym, ap, ◌∙◌, arith, zero-add, List, [], ◌∷◌, ◌++◌, map, Option, Some, None}
use Rattle.std.specs.Prelude.{◌==◌, filter_map}
use Rattle.std.specs.List.{cons_option, range_with_len}
use Rattle.std.specs.Option.{option_map}
use Rattle.std.proofs.lemmas.Bool.{cases_eq, eq-eqb, ne_eqb}
use Rattle.std.proofs.lemmas.List.{map-append}
use Rattle.std.proofs.lemmas.List.Elements.{filter_map-append}
use Rattle.scald_base.proofs.Back.{mod_small}
use Rattle.std.proofs.Math.Nat.{add-mul-mod_self_right}
use Rattle.vector_names.proofs.Ranges.{range_more}
use Rattle.flat_circuit.specs.declared.limits.Limits.TheVariants.{None as Unlimited}
use Rattle.point_check.specs.Window.{Folds}
use Rattle.critical_paths.specs.declared.region.Region.{Region as Ticked}
use Rattle.critical_paths.specs.Region.{Region}
use Rattle.critical_paths.specs.Views.{ticks_of_region}
use Rattle.slack_rows.specs.Watch.{fall_of, falls_at, follows, span_at, span_by, span_finding}
use Rattle.slack_rows.proofs.Spans.{fall_on}

eq_same : (a b c d : ℕ) → (a ≡ b → c ≡ d) → (c ≡ d → a ≡ b) → (a == b) ≡ (c == d)
eq_same a b c d one other = elim (cases_eq a b) [
  | inl same ↦ eq-eqb a b same ∙ sym (eq-eqb c d (one same))
  | inr differ ↦ ne_eqb a b differ ∙ sym (ne_eqb c d (λ same. differ (other same)))
]

-- the slot before the first, and that before the next one
pub slot_before : (p period : ℕ) → 2 ≤ p → period ≡ p → period - 1 ≡ (0 + (p - 1)) % p
slot_before p period long is =
    let last : 0 + (p - 1) ≡ p - 1 = omega arith in
    let one : period - 1 ≡ p - 1 = omega (arith, is) in
    one ∙ sym (mod_small (p - 1) p (omega (arith, long))) ∙ ap (λ (x : ℕ). x % p) (sym last)

pub slot_after : (p slot : ℕ) → slot < p → (slot + 1 + (p - 1)) % p ≡ slot
slot_after p slot below =
    let whole : slot + 1 + (p - 1) ≡ slot + p = omega (arith, below) in
    let one : slot + p ≡ slot + 1 * p = grind arith in
    ap (λ (x : ℕ). x % p) (whole ∙ one) ∙ add-mul-mod_self_right slot 1 p ∙ mod_small slot p below

module _ (p : ℕ) (long : 2 ≤ p) (clock : Folds) (cyclic : (t : ℕ) → clock (t + p) ≡ clock t) where
  -- the fall after a rise in the slot before, a period on or not
  before_falls : (t h q : ℕ) (before : Option ℕ) → t < p → q ≡ (t + (p - 1)) % p → fall_of p clock q ≡ option_map (λ (b : ℕ). q + b) before →
      falls_at (t + h + p) (fall_of p clock (t + (p - 1))) ≡ follows before h
  before_falls zero h q before below at falls =
      let none : zero + (p - 1) ≡ p - 1 = omega arith in
      let small : (zero + (p - 1)) % p ≡ p - 1 = ap (λ (x : ℕ). x % p) none ∙ mod_small (p - 1) p (omega (arith, long)) in
      let q_is : q ≡ p - 1 = at ∙ small in
      let here : zero + (p - 1) ≡ q = omega (arith, q_is) in
      ap (λ (x : ℕ). falls_at (zero + h + p) (fall_of p clock x)) here ∙ ap (falls_at (zero + h + p)) falls ∙ by before q_is
    where
      by : (o : Option ℕ) → q ≡ p - 1 → falls_at (zero + h + p) (option_map (λ (b : ℕ). q + b) o) ≡ follows o h
      by None q_is = refl
      by (Some b) q_is = eq_same (q + b) (zero + h + p) b (h + 1) (λ same. omega (arith, same, q_is, long)) (λ same. omega (arith, same, q_is, long))
  before_falls (suc t) h q before below at falls =
      let whole : suc t + (p - 1) ≡ t + p = omega (arith, long) in
      let one : t + p ≡ t + 1 * p = grind arith in
      let q_is : q ≡ t = at ∙ ap (λ (x : ℕ). x % p) (whole ∙ one) ∙ add-mul-mod_self_right t 1 p ∙ mod_small t p (omega (arith, below)) in
      let here : suc t + (p - 1) ≡ q + p = omega (arith, whole, q_is) in
      ap (λ (x : ℕ). falls_at (suc t + h + p) (fall_of p clock x)) here
      ∙ ap (falls_at (suc t + h + p)) (fall_on p long clock clock cyclic cyclic Unlimited (omega (arith, long)) q ∙ ap (option_map (λ (f : ℕ). f + p)) falls)
      ∙ by before q_is
    where
      by : (o : Option ℕ) → q ≡ t → falls_at (suc t + h + p) (option_map (λ (f : ℕ). f + p) (option_map (λ (b : ℕ). q + b) o)) ≡ follows o h
      by None q_is = refl
      by (Some b) q_is = eq_same (q + b + p) (suc t + h + p) b (h + 1) (λ same. omega (arith, same, q_is)) (λ same. omega (arith, same, q_is))

  pub span_is : (t q : ℕ) (before high : Option ℕ) → t < p → q ≡ (t + (p - 1)) % p → option_map (λ (h : ℕ). t + h) high ≡ fall_of p clock t →
      option_map (λ (b : ℕ). q + b) before ≡ fall_of p clock q → span_at p clock t ≡ span_finding t before high
  span_is t q before high below at here falls =
      ap (span_by p clock t) (sym here) ∙ by high
    where
      by : (o : Option ℕ) → span_by p clock t (option_map (λ (h : ℕ). t + h) o) ≡ span_finding t before o
      by None = refl
      by (Some h) = ap (λ (b : Bool). cond b None (Some (record { first = t; last = t + h }))) (before_falls t h q before below at (sym falls))

  -- ---- one slot more

  abbrev pub spans_to : ℕ → List Ticked
  spans_to n = map ticks_of_region (filter_map (span_at p clock) (range_with_len 0 n))

  more_by : (o : Option Region) → cons_option o [] ≡ cons_option o []
  more_by o = refl

  finding_list : Option Region → List Ticked
  finding_list o = map ticks_of_region (cons_option o [])

  spans_more : (t : ℕ) → spans_to (t + 1) ≡ spans_to t ++ map ticks_of_region (cons_option (span_at p clock t) [])
  spans_more t =
      ap (λ (xs : List ℕ). map ticks_of_region (filter_map (span_at p clock) xs)) (range_more 0 t t (zero-add t))
      ∙ ap (map ticks_of_region) (filter_map-append (span_at p clock) (range_with_len 0 t) (t ∷ []))
      ∙ map-append ticks_of_region (filter_map (span_at p clock) (range_with_len 0 t)) (cons_option (span_at p clock t) [])

  append_none : (xs : List Ticked) → xs ++ [] ≡ xs
  append_none [] = refl
  append_none (x ∷ xs) = ap (λ (ys : List Ticked). x ∷ ys) (append_none xs)

  -- with the span that begins in a slot, if one does
  pub spans_with : (t q : ℕ) (before high : Option ℕ) (found : Option Ticked) (old new : List Ticked) → t < p → q ≡ (t + (p - 1)) % p →
      option_map (λ (h : ℕ). t + h) high ≡ fall_of p clock t → option_map (λ (b : ℕ). q + b) before ≡ fall_of p clock q →
      found ≡ option_map ticks_of_region (span_finding t before high) → old ≡ spans_to t → new ≡ old ++ cons_option found [] → new ≡ spans_to (t + 1)
  spans_with t q before high found old new below at here falls found_is old_is new_is =
      new_is ∙ (λ i. old_is i ++ cons_option ((found_is ∙ ap (option_map ticks_of_region) (sym (span_is t q before high below at here falls))) i) [])
      ∙ ap (λ (xs : List Ticked). spans_to t ++ xs) (mapped (span_at p clock t))
      ∙ sym (spans_more t)
    where
      mapped : (o : Option Region) → cons_option (option_map ticks_of_region o) [] ≡ map ticks_of_region (cons_option o [])
      mapped None = refl
      mapped (Some r) = refl

  pub spans_same : (xs : List Ticked) → xs ≡ xs ++ cons_option None []
  spans_same xs = sym (append_none xs)
