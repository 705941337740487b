-- What is remembered of evaluations stays true while the table grows.
use Rattle.std.proofs.Common.{◌≡◌, ℕ, Bool, true, false, cond, List, [], ◌∷◌, refl, sym, ap, ◌∙◌, subst, Option, Some, None, IfSome, slice_get, if◌then◌else◌}
use Rattle.indexmap.specs.IndexMap.{insert_entry}
use Rattle.std.specs.Map.{lookup}
use Rattle.step_values.specs.declared.value.Value.{Value}
use Rattle.skew_algebra.specs.Wave.{Wave}
use Rattle.fixpoint_engine.specs.Table.{AreKnown, Grows, IsNumber}
use Rattle.fixpoint_engine.specs.Evaluation.{IsValue, AreValues, value_of}
use Rattle.fixpoint_engine.proofs.Growing.{known_still, same_number, same_waves}

module _ {K : Type 0} (reads : K → List ℕ) (makes : K → List (Wave Value) → Wave Value) where
  -- what a key makes stays
  pub value_still : (old new : List (Wave Value)) → Grows old new → (k : K) → AreKnown old (reads k) →
      value_of reads makes new k ≡ value_of reads makes old k
  value_still old new g k known = ap (makes k) (same_waves old new g (reads k) known)

  still_value : (old new : List (Wave Value)) → Grows old new → (e : K × ℕ) → IsValue reads makes old e → IsValue reads makes new e
  still_value old new g e v = record {
    known = known_still old new g (reads e.0) v.known;
    is = same_number old new e.1 (value_of reads makes old e.0) g v.is ∙ ap Some (sym (value_still old new g e.0 v.known));
  }

  -- so what is remembered stays true
  pub still_values : (old new : List (Wave Value)) → Grows old new → (es : List (K × ℕ)) → AreValues reads makes old es → AreValues reads makes new es
  still_values old new g [] vs = tt
  still_values old new g (e ∷ es) vs = (still_value old new g e vs.0, still_values old new g es vs.1)

  -- a key that reads waves of the table, and the number of what it makes in the table that has grown
  pub made_value : (old new : List (Wave Value)) (k : K) (n : ℕ) (w : Wave Value) → Grows old new → AreKnown old (reads k) →
      w ≡ value_of reads makes old k → IsNumber new w n → IsValue reads makes new (k, n)
  made_value old new k n w g known made at = record {
    known = known_still old new g (reads k) known;
    is = at ∙ ap Some (made ∙ sym (value_still old new g k known));
  }

  module _ (table : List (Wave Value)) (eq : K → K → Bool) (exact : (j k : K) → eq j k ≡ true → j ≡ k) where
    found_value : (es : List (K × ℕ)) (k : K) (n : ℕ) → AreValues reads makes table es → lookup (eq k) es ≡ Some n →
        IsNumber table (value_of reads makes table k) n
    found_value [] k n vs found = cc
    found_value (e ∷ es) k n vs found = by (eq k e.0) refl (found_value es k n vs.1)
      where
        by : (b : Bool) → eq k e.0 ≡ b → (lookup (eq k) es ≡ Some n → IsNumber table (value_of reads makes table k) n) →
            IsNumber table (value_of reads makes table k) n
        by true same rest =
            let number : e.1 ≡ n = let h : Some e.1 ≡ Some n = sym (ap (λ b. cond b (Some e.1) (lookup (eq k) es)) same) ∙ found in cc in
            let key : e.0 ≡ k = sym (exact k e.0 same) in
            ap (slice_get table) (sym number) ∙ vs.0.is ∙ ap (λ j. Some (value_of reads makes table j)) key
        by false other rest = rest (sym (ap (λ b. cond b (Some e.1) (lookup (eq k) es)) other) ∙ found)

    -- what is found is the value of the key
    pub found_if : (es : List (K × ℕ)) (k : K) (r : Option ℕ) → AreValues reads makes table es → r ≡ lookup (eq k) es →
        IfSome r (IsNumber table (value_of reads makes table k))
    found_if es k None vs e = tt
    found_if es k (Some n) vs e = found_value es k n vs (sym e)

    put_in : (es : List (K × ℕ)) (k : K) (n : ℕ) → AreValues reads makes table es → IsValue reads makes table (k, n) →
        AreValues reads makes table (insert_entry eq es k n)
    put_in [] k n vs v = (v, tt)
    put_in (e ∷ es) k n vs v = by (eq k e.0) refl (put_in es k n vs.1 v)
      where
        by : (b : Bool) → eq k e.0 ≡ b → AreValues reads makes table (insert_entry eq es k n) →
            AreValues reads makes table (insert_entry eq (e ∷ es) k n)
        by true same rest =
            let here : IsValue reads makes table (e.0, n) = subst (λ j. IsValue reads makes table (j, n)) (exact k e.0 same) v in
            subst (λ b. AreValues reads makes table (if b then (e.0, n) ∷ es else e ∷ insert_entry eq es k n)) (sym same) (here, vs.1)
        by false other rest =
            subst (λ b. AreValues reads makes table (if b then (e.0, n) ∷ es else e ∷ insert_entry eq es k n)) (sym other) (vs.0, rest)

    -- one evaluation more
    pub more_values : (es new : List (K × ℕ)) (k : K) (n : ℕ) → new ≡ insert_entry eq es k n → AreValues reads makes table es →
        IsValue reads makes table (k, n) → AreValues reads makes table new
    more_values es new k n put vs v = subst (AreValues reads makes table) (sym put) (put_in es k n vs v)
