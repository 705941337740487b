-- Keys of a set that are compared by the waves that they show.
use Rattle.std.proofs.Common.{◌≡◌, ℕ, zero, suc, Bool, true, false, List, [], ◌∷◌, ◌++◌, map, refl, sym, ap, ◌∙◌, true≢false, slice_get, Some, if◌then◌else◌}
use Rattle.std.specs.List.{IsDistinct, AllByRecursion, list_any}
use Rattle.std.specs.Option.{option_map}
use Rattle.std.proofs.lemmas.List.{append-nil, map-append}
use Rattle.std.proofs.lemmas.Option.{slice_get-map}
use Rattle.indexmap.specs.IndexSet.{insert_key}
use Rattle.step_values.specs.declared.value.Value.{Value}
use Rattle.skew_algebra.specs.Wave.{Wave}
use Rattle.fixpoint_engine.specs.Same.{same_wave, same_wave_decides}
use Rattle.fixpoint_engine.specs.Table.{AreDistinct, Grows}

module _ {K : Type 0} (shown : K → Wave Value) where
  -- no key after it shows what this one does
  none_after : (k : K) (ks : List K) (j : ℕ) → AllByRecursion (λ y. same_wave (shown k) (shown y) ≡ false) ks →
      slice_get (map shown ks) j ≡ Some (shown k) → ⊥
  none_after k [] j apart at = cc
  none_after k (y ∷ ys) zero apart at =
      let e : shown k ≡ shown y = let same : Some (shown y) ≡ Some (shown k) = at in cc in
      true≢false (sym ((same_wave_decides (shown k) (shown y)).1 e) ∙ apart.0)
  none_after k (y ∷ ys) (suc j) apart at = none_after k ys j apart.1 at

  -- keys that the test tells apart show each wave once
  pub distinct : (ks : List K) → IsDistinct (λ a b. same_wave (shown a) (shown b)) ks → AreDistinct (map shown ks)
  unfolding IsDistinct
  distinct [] d i j w at at' = cc
  distinct (k ∷ ks) d zero zero w at at' = refl
  distinct (k ∷ ks) d zero (suc j) w at at' = absurd (none_after k ks j d.0 (at' ∙ sym at))
  distinct (k ∷ ks) d (suc i) zero w at at' = absurd (none_after k ks i d.0 (at ∙ sym at'))
  distinct (k ∷ ks) d (suc i) (suc j) w at at' = ap suc (distinct ks d.1 i j w at at')

  -- if a key is put in, the waves grow
  pub grows : (eq : K → K → Bool) (ks new : List K) (k : K) → new ≡ insert_key eq ks k → Grows (map shown ks) (map shown new)
  grows eq ks new k put = by (list_any (eq k) ks) refl
    where
      by : (b : Bool) → list_any (eq k) ks ≡ b → Grows (map shown ks) (map shown new)
      by true e =
          let same : new ≡ ks = put ∙ ap (λ c. if c then ks else ks ++ k ∷ []) e in
          ([], ap (map shown) same ∙ sym (append-nil (map shown ks)))
      by false e =
          let more : new ≡ ks ++ k ∷ [] = put ∙ ap (λ c. if c then ks else ks ++ k ∷ []) e in
          (shown k ∷ [], ap (map shown) more ∙ map-append shown ks (k ∷ []))

  -- the key at a place shows what an equal key does
  pub means : (ks : List K) (i : ℕ) (k found : K) → slice_get ks i ≡ Some found → same_wave (shown k) (shown found) ≡ true →
      slice_get (map shown ks) i ≡ Some (shown k)
  means ks i k found at same =
      slice_get-map shown ks i ∙ ap (option_map shown) at ∙ ap Some (sym ((same_wave_decides (shown k) (shown found)).0 same))
