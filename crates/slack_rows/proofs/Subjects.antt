-- The slacks of pins one after another, and of a subject, exactly.
use Rattle.std.proofs.Common.{inl, inr, ◌≡◌, ℕ, ◌+◌, ◌<◌, ◌≤◌, true, false, sym, ap, subst, ◌∙◌, arith, List, [], ◌∷◌, ◌++◌, length, Some}
use Rattle.std.specs.Prelude.{Result, Ok, Err, IfOk, slice_get}
use Rattle.std.proofs.lemmas.Bool.{cases_lt}
use Rattle.std.proofs.lemmas.List.{length-append}
use Rattle.std.proofs.lemmas.List.Sums.{fold_push}
use Rattle.std.proofs.lemmas.Result.{IfOk-weaker}
use Rattle.scald_base.specs.Time.{period}
use Rattle.element_kinds.specs.declared.form.Check.{Check}
use Rattle.element_kinds.specs.Kinds.{check_of, may_be_marked}
use Rattle.flat_circuit.specs.declared.instance.Instance.{Instance}
use Rattle.flat_circuit.specs.Circuit.{Circuit}
use Rattle.fixpoint_engine.specs.Waves.{Waves, marked_pin}
use Rattle.critical_paths.specs.declared.direction.Direction.TheVariants.{Change}
use Rattle.critical_paths.specs.declared.path.Paths.{Paths}
use Rattle.critical_paths.specs.Event.{events}
use Rattle.critical_paths.specs.Reached.{KnowsArrivals}
use Rattle.critical_paths.specs.Region.{some_event}
use Rattle.slack_rows.specs.declared.slack.Slacks.{Slacks}
use Rattle.slack_rows.specs.Exact.{AreOfInstance, AreOfPins, IsOfChecker, IsOfPlace}
use Rattle.slack_rows.specs.Limit.{pin_folds}
use Rattle.slack_rows.specs.Sides.{AreOfChecker, has_windows, lesser_slacks, no_slacks}
use Rattle.slack_rows.specs.Views.{checks_edges, lesser_found}
use Rattle.slack_rows.proofs.Levels.{get_first, get_second}
use Rattle.slack_rows.proofs.Stepwise.{some_same, within_list}

-- one more at the end
pushed : {A : Type 0} (P : ℕ → A → Type 0) (xs : List A) (x : A) → ((k : ℕ) (a : A) → slice_get xs k ≡ Some a → P k a) →
    P (length xs) x → (k : ℕ) (a : A) → slice_get (xs ++ x ∷ []) k ≡ Some a → P k a
pushed P xs x all last k a at = elim (cases_lt k (length xs)) [
  | inl less ↦ all k a (sym (get_first xs (x ∷ []) k less) ∙ at)
  | inr past ↦
      let within = within_list (xs ++ x ∷ []) k a at in
      let long = length-append xs (x ∷ []) in
      let here : slice_get (xs ++ x ∷ []) (length xs + 0) ≡ Some x = get_second xs (x ∷ []) 0 in
      let one : k ≡ length xs + 0 = omega (arith, past, within, long) in
      let same : x ≡ a = some_same x a (slice_get (xs ++ x ∷ []) k) (ap (slice_get (xs ++ x ∷ [])) one ∙ here) at in
      let end : length xs ≡ k = omega (arith, one) in
      subst (P k) same (subst (λ (n : ℕ). P n x) end last)
]

module _ (c : Circuit) (ws : Waves) (j : Instance) where
  pub pins_none : (marked : ℕ) (found : Slacks) → found ≡ no_slacks → AreOfPins c ws j marked 0 found
  pins_none marked found is = record {
    each = [];
    long = omega arith;
    are = λ place own at. absurd (cc);
    is = is;
  }

  pub pins_more : (marked place : ℕ) (all found next : Slacks) → AreOfPins c ws j marked place all → IsOfPlace c ws j marked place found →
      next.level ≡ lesser_found all.level found.level → next.before ≡ lesser_found all.before found.before →
      next.after ≡ lesser_found all.after found.after → AreOfPins c ws j marked (place + 1) next
  pins_more marked place all found next so one level before after =
      let more = length-append so.each (found ∷ []) in
      let was = so.long in
      record {
        each = so.each ++ found ∷ [];
        long = omega (arith, more, was);
        are = pushed (IsOfPlace c ws j marked) so.each found so.are
            (subst (λ (n : ℕ). IsOfPlace c ws j marked n found) (sym so.long) one);
        is = least_is ∙ ap (λ (s : Slacks). lesser_slacks s found) so.is ∙ sym (fold_push lesser_slacks no_slacks so.each found);
      }
    where
      least_is : next ≡ lesser_slacks all found
      least_is = λ i. record { level = level i; before = before i; after = after i }

  pub of_check : {E : Type 0} (r : Result Slacks E) (start paths : Paths) (own check : Check) → own ≡ check → KnowsArrivals c ws start →
      (some_event (period c.header) (events Change (pin_folds c ws j 1)) ≡ true → has_windows c ws j own ≡ true →
      IfOk r (AreOfChecker c ws start paths j own)) →
      some_event (period c.header) (events Change (pin_folds c ws j 1)) ≡ true → has_windows c ws j check ≡ true →
      IfOk r (IsOfChecker c ws j check)
  of_check r start paths own check same knows so some windows =
      IfOk-weaker r (AreOfChecker c ws start paths j check) (IsOfChecker c ws j check)
      (λ found are. record { first = start; paths = paths; knows = knows; are = are })
      (subst (λ (x : Check). IfOk r (AreOfChecker c ws start paths j x)) same (so some (ap (has_windows c ws j) same ∙ windows)))

  pub of_instance : {E : Type 0} (r : Result Slacks E) →
      ((marked : ℕ) → may_be_marked j.kind ≡ true → marked_pin j ≡ Some marked → IfOk r (AreOfPins c ws j marked (length j.pins))) →
      ((check : Check) → may_be_marked j.kind ≡ false → check_of j.kind ≡ Some check → checks_edges check ≡ true →
      some_event (period c.header) (events Change (pin_folds c ws j 1)) ≡ true → has_windows c ws j check ≡ true →
      IfOk r (IsOfChecker c ws j check)) → IfOk r (AreOfInstance c ws j)
  of_instance (Ok found) gate checker = record { gate = gate; checker = checker }
  of_instance (Err e) gate checker = tt
