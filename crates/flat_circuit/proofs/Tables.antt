-- Nets and assertions in index maps.
use Rattle.std.proofs.Common.{◌≡◌, ◌≢◌, ℕ, zero, suc, ◌+◌, ◌<◌, Bool, true, false, cond, not, ◌&&◌, ◌||◌, nat_eq, nat_lt, List, [], ◌∷◌, ◌++◌, length, map, get_or, set, Option, Some, None, refl, ap, sym, subst, ◌∙◌, arith, inl, inr}
use Rattle.std.specs.Prelude.{MatchOption, MatchBool, is_some}
use Rattle.std.specs.Cmp.Lexicographic.{pointwise}
use Rattle.std.specs.List.{list_any, position, position_or_len}
use Rattle.std.specs.Str.{bytes_eq}
use Rattle.std.specs.Map.{keys_of, lookup}
use Rattle.std.specs.Global.{Vec}
use Rattle.std.proofs.lemmas.Slice.Eq.{bytes_eq-Decides}
use Rattle.std.proofs.lemmas.Bool.Decides.{nat_tests}
use Rattle.std.proofs.lemmas.List.{length_push, get_or_push, length-map, map_push}
use Rattle.std.proofs.lemmas.List.Quantifiers.{position-Some}
use Rattle.std.proofs.Math.ListN.{get_or-append}
use Rattle.indexmap.specs.IndexMap.{insert_entry, set_value_at}
use Rattle.scald_base.specs.Time.{Bounds}
use Rattle.scald_base.proofs.Below.{below_or_last}
use Rattle.scald_base.specs.declared.assertion.Span.{Span}
use Rattle.scald_base.specs.declared.assertion.AssertSpec.{AssertSpec}
use Rattle.scald_base.specs.declared.assertion.AssertSpec.TheVariants.{None as Unasserted}
use Rattle.flat_circuit.specs.declared.net_table.NetName.{NetName}
use Rattle.flat_circuit.specs.Name.{Name, name_at, nameless, AreDistinct, IsNumber}
use Rattle.flat_circuit.specs.Builder.{name_of_key, net_entries, IsNets, same_name, has_name, Asserted, asserted_entries, has_text, spec_of, is_asserted, with_asserted, Differ}

-- ---- names

pub same_name_is : (a b : Name) → same_name a b ≡ true → b ≡ a
same_name_is a b h = grind (arith, nat_tests, bytes_eq-Decides)

pub same_name_refl : (a : Name) → same_name a a ≡ true
same_name_refl a = grind (arith, nat_tests, bytes_eq-Decides)

pub not_there : (ns : List Name) (name : Name) (i : ℕ) → has_name ns name ≡ false → i < length ns → name_at ns i ≡ name → ⊥
not_there [] name i h l e = absurd (omega arith)
not_there (n ∷ ns) name zero h l e = let t : same_name name n ≡ true = subst (λ x. same_name name x ≡ true) (sym e) (same_name_refl name) in let f : true ≡ false = rw t at h in absurd (cc)
not_there (n ∷ ns) name (suc i) h l e = step (same_name name n) h (λ r. not_there ns name i r (omega arith) e) where
  step : (t : Bool) → (t || has_name ns name) ≡ false → (has_name ns name ≡ false → ⊥) → ⊥
  step true q more = absurd (cc)
  step false q more = more q

pub distinct_push : (ns : List Name) (name : Name) → AreDistinct ns → has_name ns name ≡ false → AreDistinct (ns ++ name ∷ [])
distinct_push ns name d h i j a b e =
    let n = length_push ns name in
    elim (below_or_last i (length ns) (omega arith)) as (λ _. i ≡ j) [
      | inl x ↦ elim (below_or_last j (length ns) (omega arith)) as (λ _. i ≡ j) [
        | inl y ↦ d i j x y (sym (get_or-append ns (name ∷ []) nameless i x) ∙ e ∙ get_or-append ns (name ∷ []) nameless j y)
        | inr y ↦ absurd (not_there ns name i h x (sym (get_or-append ns (name ∷ []) nameless i x) ∙ e ∙ get_or_push ns name nameless j (sym y)))
      ]
      | inr x ↦ elim (below_or_last j (length ns) (omega arith)) as (λ _. i ≡ j) [
        | inl y ↦ absurd (not_there ns name j h y (sym (get_or-append ns (name ∷ []) nameless j y) ∙ sym e ∙ get_or_push ns name nameless i (sym x)))
        | inr y ↦ x ∙ sym y
      ]
    ]

-- ---- keys of an index map

abbrev pub Entry : Type 0
Entry = NetName × Bounds

abbrev pub names : List Entry → List Name
names es = map (λ (p : Entry). name_of_key p.0) es

abbrev pub key_test : NetName → NetName → Bool
key_test k x = same_name (name_of_key k) (name_of_key x)

-- whether a test passes is whether it has a first place
place_any : {X : Type 0} (p : X → Bool) (xs : List X) → nat_lt (position_or_len p xs) (length xs) ≡ list_any p xs
place_any p [] = refl
place_any p (x ∷ xs) = step (p x) (place_any p xs) where
  step : (b : Bool) → nat_lt (position_or_len p xs) (length xs) ≡ list_any p xs → nat_lt (cond (not b) (1 + position_or_len p xs) 0) (suc (length xs)) ≡ (b || list_any p xs)
  step true h = grind (arith, nat_tests)
  step false h = shift (position_or_len p xs) (length xs) ∙ h where
    shift : (a n : ℕ) → nat_lt (1 + a) (suc n) ≡ nat_lt a n
    shift a n = grind (arith, nat_tests)

position_any : {X : Type 0} (p : X → Bool) (xs : List X) → position p xs ≡ None → list_any p xs ≡ false
position_any p xs h = step (nat_lt (position_or_len p xs) (length xs)) refl h where
  step : (b : Bool) → nat_lt (position_or_len p xs) (length xs) ≡ b → cond b (Some (position_or_len p xs)) None ≡ None → list_any p xs ≡ false
  step true e q = absurd (cc)
  step false e q = sym (place_any p xs) ∙ e

any_keys : (k : NetName) (es : List Entry) → list_any (key_test k) (keys_of es) ≡ has_name (names es) (name_of_key k)
any_keys k [] = refl
any_keys k (e ∷ es) = ap (λ b. key_test k e.0 || b) (any_keys k es)

named_at : (es : List Entry) (i : ℕ) (d : NetName) → i < length es → name_at (names es) i ≡ name_of_key (get_or (keys_of es) i d)
named_at [] i d h = absurd (omega arith)
named_at (e ∷ es) zero d h = refl
named_at (e ∷ es) (suc i) d h = named_at es i d (omega arith)

there : (es : List Entry) (k : NetName) (i : ℕ) → i < length es → key_test k (get_or (keys_of es) i k) ≡ true → has_name (names es) (name_of_key k) ≡ true
there [] k i l h = absurd (omega arith)
there (e ∷ es) k zero l h = rw h refl
there (e ∷ es) k (suc i) l h = step (key_test k e.0) (there es k i (omega arith) h) where
  step : (b : Bool) → has_name (names es) (name_of_key k) ≡ true → (b || has_name (names es) (name_of_key k)) ≡ true
  step true r = refl
  step false r = r

-- the place of a key is the number of its name
pub number_is : (es : List Entry) (k : NetName) (r : Option ℕ) → r ≡ position (key_test k) (keys_of es) →
    MatchOption r (has_name (names es) (name_of_key k) ≡ false) (λ i. (has_name (names es) (name_of_key k) ≡ true) × IsNumber (names es) (name_of_key k) i)
number_is es k None e = sym (any_keys k es) ∙ position_any (key_test k) (keys_of es) (sym e)
number_is es k (Some i) e =
    let p = position-Some (key_test k) (keys_of es) i k (sym e) in
    let n = length-map es (λ (x : Entry). x.0) in
    let m = length-map es (λ (x : Entry). name_of_key x.0) in
    let l : i < length es = omega (arith, p.0) in
    (there es k i l p.1, record { below = omega arith; is = named_at es i k l ∙ same_name_is (name_of_key k) (name_of_key (get_or (keys_of es) i k)) p.1 })

-- a new key goes last
pub entry_new : (es : List Entry) (k : NetName) (w : Bounds) → has_name (names es) (name_of_key k) ≡ false → insert_entry key_test es k w ≡ es ++ (k, w) ∷ []
entry_new [] k w h = refl
entry_new (e ∷ es) k w h = step (key_test k e.0) h (entry_new es k w) where
  step : (b : Bool) → (b || has_name (names es) (name_of_key k)) ≡ false → (has_name (names es) (name_of_key k) ≡ false →
      insert_entry key_test es k w ≡ es ++ (k, w) ∷ []) → cond b ((e.0, w) ∷ es) (e ∷ insert_entry key_test es k w) ≡ e ∷ (es ++ (k, w) ∷ [])
  step true q more = absurd (cc)
  step false q more = ap (λ x. e ∷ x) (more q)

pub nets_new : (es : List Entry) (k : NetName) (w : Bounds) → IsNets (net_entries es) → has_name (names es) (name_of_key k) ≡ false → IsNets (net_entries (es ++ (k, w) ∷ []))
nets_new es k w h n = record {
  distinct = subst AreDistinct (sym (map_push (λ (p : Entry). name_of_key p.0) es (k, w))) (distinct_push (names es) (name_of_key k) h.distinct n);
  bounded = length-map (es ++ (k, w) ∷ []) (λ (p : Entry). p.1) ∙ sym (length-map (es ++ (k, w) ∷ []) (λ (p : Entry). name_of_key p.0));
}

-- a value that is written
pub names_set : (es : List Entry) (i : ℕ) (w : Bounds) → names (set_value_at es i w) ≡ names es
names_set [] i w = refl
names_set (e ∷ es) zero w = refl
names_set (e ∷ es) (suc i) w = ap (λ x. name_of_key e.0 ∷ x) (names_set es i w)

pub wires_set : (es : List Entry) (i : ℕ) (w : Bounds) → map (λ (p : Entry). p.1) (set_value_at es i w) ≡ set (map (λ (p : Entry). p.1) es) i w
wires_set [] i w = refl
wires_set (e ∷ es) zero w = refl
wires_set (e ∷ es) (suc i) w = ap (λ x. e.1 ∷ x) (wires_set es i w)

pub nets_set : (es : List Entry) (i : ℕ) (w : Bounds) → IsNets (net_entries es) → IsNets (net_entries (set_value_at es i w))
nets_set es i w h = record {
  distinct = subst AreDistinct (sym (names_set es i w)) h.distinct;
  bounded = length-map (set_value_at es i w) (λ (p : Entry). p.1) ∙ sym (length-map (set_value_at es i w) (λ (p : Entry). name_of_key p.0));
}

-- ---- assertions

abbrev pub SpecEntry : Type 0
SpecEntry = Vec ℕ × AssertSpec

abbrev pub text_test : List ℕ → Vec ℕ → Bool
text_test text k = bytes_eq text k.items

pub spec_some : (es : List SpecEntry) (text : List ℕ) (spec : AssertSpec) → Some spec ≡ lookup (text_test text) es → spec_of (asserted_entries es) text ≡ spec
spec_some [] text spec h = absurd (cc)
spec_some (e ∷ es) text spec h = step (text_test text e.0) h (spec_some es text spec) where
  step : (b : Bool) → Some spec ≡ cond b (Some e.1) (lookup (text_test text) es) →
      (Some spec ≡ lookup (text_test text) es → spec_of (asserted_entries es) text ≡ spec) → cond b e.1 (spec_of (asserted_entries es) text) ≡ spec
  step true q more = cc
  step false q more = more q

pub spec_none : (es : List SpecEntry) (text : List ℕ) → None ≡ lookup (text_test text) es → spec_of (asserted_entries es) text ≡ Unasserted
spec_none [] text h = refl
spec_none (e ∷ es) text h = step (text_test text e.0) h (spec_none es text) where
  step : (b : Bool) → None ≡ cond b (Some e.1) (lookup (text_test text) es) → (None ≡ lookup (text_test text) es →
      spec_of (asserted_entries es) text ≡ Unasserted) → cond b e.1 (spec_of (asserted_entries es) text) ≡ Unasserted
  step true q more = absurd (cc)
  step false q more = more q

pub has_spec : (es : List SpecEntry) (text : List ℕ) → is_some (lookup (text_test text) es) ≡ has_text (asserted_entries es) text
has_spec [] text = refl
has_spec (e ∷ es) text = step (text_test text e.0) (has_spec es text) where
  step : (b : Bool) → is_some (lookup (text_test text) es) ≡ has_text (asserted_entries es) text →
      is_some (cond b (Some e.1) (lookup (text_test text) es))
      ≡ (b || has_text (asserted_entries es) text)
  step true h = refl
  step false h = h

pub spec_new : (es : List SpecEntry) (k : Vec ℕ) (spec : AssertSpec) → has_text (asserted_entries es) k.items ≡ false →
    insert_entry (λ (x y : Vec ℕ). bytes_eq x.items y.items) es k spec ≡ es ++ (k, spec) ∷ []
spec_new [] k spec h = refl
spec_new (e ∷ es) k spec h = step (text_test k.items e.0) h (spec_new es k spec) where
  step : (b : Bool) → (b || has_text (asserted_entries es) k.items) ≡ false →
      (has_text (asserted_entries es) k.items ≡ false → insert_entry (λ (x y : Vec ℕ). bytes_eq x.items y.items) es k spec ≡ es ++ (k, spec) ∷ []) →
      cond b ((e.0, spec) ∷ es) (e ∷ insert_entry (λ (x y : Vec ℕ). bytes_eq x.items y.items) es k spec) ≡ e ∷ (es ++ (k, spec) ∷ [])
  step true q more = absurd (cc)
  step false q more = ap (λ x. e ∷ x) (more q)

pub asserted_push : (es : List SpecEntry) (k : Vec ℕ) (spec : AssertSpec) → asserted_entries (es ++ (k, spec) ∷ []) ≡ asserted_entries es ++ record { text = k.items; spec = spec } ∷ []
asserted_push es k spec = map_push (λ (p : SpecEntry). let a : Asserted = record { text = p.0.items; spec = p.1 } in a) es (k, spec)

pub with_new : (given : List Asserted) (text : List ℕ) (spec : AssertSpec) → is_asserted spec ≡ true →
    has_text given text ≡ false → with_asserted given text spec ≡ given ++ record { text = text; spec = spec } ∷ []
with_new given text spec a h = rw (a, h) refl

pub none_differs : (spec before : AssertSpec) → before ≡ Unasserted → Differ spec before → ⊥
none_differs spec before e d = let w = d.was_one in let f : false ≡ true = sym (ap is_asserted e) ∙ w in absurd (cc)

-- ---- equal intervals

span_is : (s t : Span) → nat_eq s.lo t.lo && nat_eq s.hi t.hi ≡ true → s ≡ t
span_is s t h = grind (arith, nat_tests)

span_not : (s t : Span) → nat_eq s.lo t.lo && nat_eq s.hi t.hi ≡ false → s ≡ t → ⊥
span_not s t h e = grind (arith, nat_tests)

pub same_spans : (xs ys : List Span) → MatchBool (pointwise (λ (s t : Span). nat_eq s.lo t.lo && nat_eq s.hi t.hi) xs ys) (xs ≡ ys) (xs ≢ ys)
same_spans [] [] = refl
same_spans [] (y ∷ ys) = λ e. cc
same_spans (x ∷ xs) [] = λ e. cc
same_spans (x ∷ xs) (y ∷ ys) = step (nat_eq x.lo y.lo && nat_eq x.hi y.hi) refl (pointwise (λ (s t : Span). nat_eq s.lo t.lo && nat_eq s.hi t.hi) xs ys) (same_spans xs ys) where
  step : (b : Bool) → (nat_eq x.lo y.lo && nat_eq x.hi y.hi) ≡ b → (m : Bool) → MatchBool m (xs ≡ ys) (xs ≢ ys) → MatchBool (b && m) (x ∷ xs ≡ y ∷ ys) (x ∷ xs ≢ y ∷ ys)
  step true e true h = let s = span_is x y e in rw (s, h) refl
  step true e false h = λ q. h (cc)
  step false e m h = λ q. span_not x y e (cc)
