-- From which kind on the one that a cell joins is looked for.
use Rattle.std.proofs.Common.{◌≡◌, ℕ, zero, suc, ◌+◌, ◌-◌, ◌≤◌, Bool, true, false, cond, ◌&&◌, ◌||◌, List, [], ◌∷◌, ◌++◌, length, take, drop, get_or, refl, sym, ap, subst, ◌∙◌, arith, Option, Some, None, is_some, length-drop, length-set, length-take-le, take-append-drop, take_all}
use Rattle.std.specs.Prelude.{slice_set, unwrap_or}
use Rattle.std.specs.List.{list_all, list_any}
use Rattle.std.specs.Map.{lookup}
use Rattle.std.specs.Str.{bytes_eq}
use Rattle.std.proofs.lemmas.List.{length_push, take-append-le}
use Rattle.std.proofs.lemmas.List.Folds.{list_any-append}
use Rattle.std.proofs.lemmas.Slice.Eq.{bytes_eq-Decides}
use Rattle.netlist_import.specs.declared.netlist.Cell.{Cell}
use Rattle.netlist_import.specs.declared.kinds.Kind.{Kind}
use Rattle.netlist_import.specs.declared.kinds.Sort.{Sort}
use Rattle.netlist_import.specs.declared.shapes.Formal.{Formal}
use Rattle.netlist_import.specs.Kinds.{agrees, fits, joins}
use Rattle.netlist_import.specs.Sorts.{AreStarts, IsStart, has_sort, is_sort, start_of}

-- what a slice from a place to the end has
pub rest_taken : {A : Type 0} (xs : List A) (n : ℕ) → take (length xs - n) (drop n xs) ≡ drop n xs
rest_taken xs n =
    let e = length-drop n xs in
    take_all (length xs - n) (drop n xs) (omega arith)

-- ---- what is of no sort

either_false : (a b : Bool) → (a || b) ≡ false → (a ≡ false) × (b ≡ false)
either_false true b h = absurd cc
either_false false b h = (refl, h)

same_bytes : (xs ys : List ℕ) → xs ≡ ys → bytes_eq xs ys ≡ true
same_bytes xs ys e = (bytes_eq-Decides xs ys).1 e

module _ (s : Sort) (cell : Cell) (kind : s.kind.now ≡ cell.kind)
    (parameters : s.parameters.now ≡ cell.parameters) where
  not_fits : (k : Kind) → has_sort s k ≡ false → fits cell k ≡ false
  not_fits k h = at (bytes_eq k.kind cell.kind) (bytes_eq k.parameters cell.parameters) refl refl
    where
      at : (a b : Bool) → bytes_eq k.kind cell.kind ≡ a →
          bytes_eq k.parameters cell.parameters ≡ b →
          (a && (b && list_all (agrees k.ports) cell.connections)) ≡ false
      at false b p q = refl
      at true false p q = refl
      at true true p q =
          let one = same_bytes s.kind.now k.kind
          (kind ∙ sym ((bytes_eq-Decides k.kind cell.kind).0 p)) in
          let other = same_bytes s.parameters.now k.parameters
          (parameters ∙ sym ((bytes_eq-Decides k.parameters cell.parameters).0 q)) in
          let both : has_sort s k ≡ true = rw (one, other) refl in
          absurd cc

  none_joins : (ks more : List Kind) → list_any (has_sort s) ks ≡ false →
      joins (ks ++ more) cell ≡ length ks + joins more cell
  unfolding joins
  none_joins [] more h = omega arith
  none_joins (k ∷ ks) more h =
      let parts = either_false (has_sort s k) (list_any (has_sort s) ks) h in
      let next = none_joins ks more parts.1 in
      let here = not_fits k parts.0 in
      rw here (omega (arith, next))

  -- The kinds before the start are not joined.
  pub joins_start : (kinds : List Kind) (start : ℕ) → IsStart kinds s start →
      joins kinds cell ≡ start + joins (drop start kinds) cell
  joins_start kinds start is =
      ap (λ (ks : List Kind). joins ks cell) (sym (take-append-drop start kinds))
      ∙ none_joins (take start kinds) (drop start kinds) is.none
      ∙ ap (λ (n : ℕ). n + joins (drop start kinds) cell)
      (length-take-le start kinds is.within)

  pub place_is : (kinds : List Kind) (starts : List (Sort × ℕ)) (count start among : ℕ) →
      AreStarts kinds starts → count ≡ length kinds → start ≡ start_of starts count s →
      among ≡ joins (drop start kinds) cell → start + among ≡ joins kinds cell
  place_is kinds starts count start among known many at there =
      let begin : start ≡ start_of starts (length kinds) s =
      at ∙ ap (λ (n : ℕ). start_of starts n s) many in
      ap (λ (n : ℕ). start + n) there
      ∙ sym (joins_start kinds start (subst (IsStart kinds s) (sym begin) (known s)))

-- ---- a kind that gets ports

any_set : (s : Sort) (n : ℕ) (kinds : List Kind) (i : ℕ) (k : Kind) (ports : List Formal) →
    k ≡ get_or kinds i k →
    list_any (has_sort s) (take n (slice_set kinds i (record k { ports = ports })))
    ≡ list_any (has_sort s) (take n kinds)
any_set s n [] i k ports h = refl
any_set s zero (x ∷ kinds) zero k ports h = refl
any_set s zero (x ∷ kinds) (suc i) k ports h = refl
any_set s (suc n) (x ∷ kinds) zero k ports h =
    ap (λ (y : Kind). has_sort s y || list_any (has_sort s) (take n kinds)) h
any_set s (suc n) (x ∷ kinds) (suc i) k ports h =
    ap (λ (b : Bool). has_sort s x || b) (any_set s n kinds i k ports h)

pub starts_set : (kinds : List Kind) (starts : List (Sort × ℕ)) (i : ℕ) (k : Kind)
    (ports : List Formal) → k ≡ get_or kinds i k → AreStarts kinds starts →
    AreStarts (slice_set kinds i (record k { ports = ports })) starts
starts_set kinds starts i k ports h known s =
    let same = length-set kinds i (record k { ports = ports }) in
    let old = known s in
    record {
      within = rw same old.within;
      none = rw same (any_set s (start_of starts (length kinds) s) kinds i k ports h ∙ old.none);
    }

-- ---- a kind more

-- a sort is found where another is that is the same
pub same_lookup : (s t : Sort) (starts : List (Sort × ℕ)) → is_sort s t ≡ true →
    lookup (is_sort s) starts ≡ lookup (is_sort t) starts
same_lookup s t starts h = at (bytes_eq s.kind.now t.kind.now)
    (bytes_eq s.parameters.now t.parameters.now) refl refl h
  where
    at : (a b : Bool) → bytes_eq s.kind.now t.kind.now ≡ a →
        bytes_eq s.parameters.now t.parameters.now ≡ b → (a && b) ≡ true →
        lookup (is_sort s) starts ≡ lookup (is_sort t) starts
    at false b p q h = absurd cc
    at true false p q h = absurd cc
    at true true p q h =
        ap (λ (x : List ℕ). lookup (λ (u : Sort). bytes_eq x u.kind.now
        && bytes_eq s.parameters.now u.parameters.now) starts)
        ((bytes_eq-Decides s.kind.now t.kind.now).0 p)
        ∙ ap (λ (x : List ℕ). lookup (λ (u : Sort). bytes_eq t.kind.now u.kind.now
        && bytes_eq x u.parameters.now) starts)
        ((bytes_eq-Decides s.parameters.now t.parameters.now).0 q)

pub starts_push : (kinds : List Kind) (starts : List (Sort × ℕ)) (t : Sort) (k : Kind) →
    t.kind.now ≡ k.kind → t.parameters.now ≡ k.parameters →
    is_some (lookup (is_sort t) starts) ≡ true → AreStarts kinds starts →
    AreStarts (kinds ++ k ∷ []) starts
starts_push kinds starts t k kind parameters there known s =
    at (lookup (is_sort s) starts) refl (known s)
  where
    at_sort : (b : Bool) → has_sort s k ≡ b → lookup (is_sort s) starts ≡ None → b ≡ false
    at_sort false p e = refl
    at_sort true p e =
        let same : is_sort s t ≡ true =
        ap (λ (x : List ℕ). bytes_eq s.kind.now x && bytes_eq s.parameters.now t.parameters.now)
        kind
        ∙ ap (λ (x : List ℕ). bytes_eq s.kind.now k.kind && bytes_eq s.parameters.now x)
        parameters
        ∙ p in
        let none : lookup (is_sort t) starts ≡ None = sym (same_lookup s t starts same) ∙ e in
        absurd (let f : is_some (lookup (is_sort t) starts) ≡ false = ap is_some none in cc)

    at : (o : Option ℕ) → lookup (is_sort s) starts ≡ o →
        IsStart kinds s (unwrap_or o (length kinds)) →
        IsStart (kinds ++ k ∷ []) s (unwrap_or o (length (kinds ++ k ∷ [])))
    at (Some p) e old = record {
      within = let more = length_push kinds k in let h = old.within in omega arith;
      none = rw (take-append-le p kinds (k ∷ []) old.within) old.none;
    }
    at None e old = record {
      within = omega arith;
      none =
          let all : list_any (has_sort s) kinds ≡ false =
          ap (list_any (has_sort s)) (sym (take_all (length kinds) kinds (omega arith)))
          ∙ old.none in
          let other : has_sort s k ≡ false = at_sort (has_sort s k) refl e in
          ap (list_any (has_sort s))
          (take_all (length (kinds ++ k ∷ [])) (kinds ++ k ∷ []) (omega arith))
          ∙ list_any-append (has_sort s) kinds (k ∷ []) ∙ rw (all, other) refl;
    }

-- ---- a start that is noted

pub start_noted : (old new : Option ℕ) (count : ℕ) (same : Bool) → new ≡ cond same (Some count) old →
    (same ≡ true → old ≡ None) → unwrap_or new count ≡ unwrap_or old count
start_noted old new count true e h = ap (λ (o : Option ℕ). unwrap_or o count) e
    ∙ ap (λ (o : Option ℕ). unwrap_or o count) (sym (h refl))
start_noted old new count false e h = ap (λ (o : Option ℕ). unwrap_or o count) e

pub starts_noted : (kinds : List Kind) (old new : List (Sort × ℕ)) →
    ((s : Sort) → start_of new (length kinds) s ≡ start_of old (length kinds) s) →
    AreStarts kinds old → AreStarts kinds new
starts_noted kinds old new same known s =
    subst (λ (n : ℕ). IsStart kinds s n) (sym (same s)) (known s)
