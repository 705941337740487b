-- What a map of names leads to.
use Rattle.std.proofs.Common.{◌≡◌, ℕ, ◌+◌, ◌<◌, Bool, true, false, cond, List, [], ◌∷◌, length, drop, get_or, Option, Some, refl, ap, sym, ◌∙◌, arith}
use Rattle.std.specs.Prelude.{slice_get}
use Rattle.std.specs.List.{find}
use Rattle.std.specs.Map.{lookup}
use Rattle.std.specs.Str.{bytes_eq}
use Rattle.std.specs.Global.{Vec}
use Rattle.std.proofs.lemmas.Slice.Eq.{bytes_eq-Decides}
use Rattle.std.proofs.lemmas.Bool.Decides.{nat_tests}
use Rattle.std.proofs.lemmas.List.{drop_more}
use Rattle.std.proofs.lemmas.Option.{slice_get-get_or}
use Rattle.indexmap.specs.IndexMap.{insert_entry}
use Rattle.macro_expander.specs.Terms.{bit_at_place}
use Rattle.macro_expander.specs.Places.{LeadTo}

abbrev pub Place : Type 0
Place = Vec ℕ × ℕ

bytes_eq_sym : (a b : List ℕ) → bytes_eq a b ≡ bytes_eq b a
bytes_eq_sym a b = grind (arith, nat_tests, bytes_eq-Decides)

same_tests : (a b c : List ℕ) → bytes_eq a b ≡ true → bytes_eq c a ≡ bytes_eq c b
same_tests a b c h = let e : a ≡ b = grind (arith, nat_tests, bytes_eq-Decides) in rw e refl

-- what is inserted is found, and all else as before
inserted : (base : List ℕ) (es : List Place) (k : Vec ℕ) (v : ℕ) →
    lookup (λ (x : Vec ℕ). bytes_eq base x.items) (insert_entry (λ (x y : Vec ℕ). bytes_eq x.items y.items) es k v)
    ≡ cond (bytes_eq base k.items) (Some v) (lookup (λ (x : Vec ℕ). bytes_eq base x.items) es)
inserted base [] k v = refl
inserted base (e ∷ es) k v = by (bytes_eq k.items e.0.items) refl (inserted base es k v)
  where
    others : (at_k at_e : Bool) (rest : Option ℕ) → (at_k ≡ true → at_e ≡ true → ⊥) → cond at_e (Some e.1) (cond at_k (Some v) rest) ≡ cond at_k (Some v) (cond at_e (Some e.1) rest)
    others true true rest h = absurd (h refl refl)
    others true false rest h = refl
    others false true rest h = refl
    others false false rest h = refl

    both : (a b c : List ℕ) → bytes_eq b c ≡ false → bytes_eq a b ≡ true → bytes_eq a c ≡ true → ⊥
    both a b c h p q = grind (arith, nat_tests, bytes_eq-Decides)

    again : (t : Bool) (rest : Option ℕ) → cond t (Some v) rest ≡ cond t (Some v) (cond t (Some e.1) rest)
    again true rest = refl
    again false rest = refl

    by : (b : Bool) → bytes_eq k.items e.0.items ≡ b →
        lookup (λ (x : Vec ℕ). bytes_eq base x.items) (insert_entry (λ (x y : Vec ℕ). bytes_eq x.items y.items) es k v) ≡ cond (bytes_eq base k.items)
        (Some v) (lookup (λ (x : Vec ℕ). bytes_eq base x.items) es) →
        lookup (λ (x : Vec ℕ). bytes_eq base x.items) (cond b ((e.0, v) ∷ es) (e ∷ insert_entry (λ (x y : Vec ℕ). bytes_eq x.items y.items) es k v))
        ≡ cond (bytes_eq base k.items) (Some v) (cond (bytes_eq base e.0.items) (Some e.1) (lookup (λ (x : Vec ℕ). bytes_eq base x.items) es))
    by true q h = rw (same_tests k.items e.0.items base q) (again (bytes_eq base e.0.items) (lookup (λ (x : Vec ℕ). bytes_eq base x.items) es))
    by false q h =
        ap (λ rest. cond (bytes_eq base e.0.items) (Some e.1) rest) h
        ∙ others (bytes_eq base k.items) (bytes_eq base e.0.items) (lookup (λ (x : Vec ℕ). bytes_eq base x.items) es) (both base k.items e.0.items q)

-- one item more is looked at, which stands before those that were
pub leads_more : {X : Type 0} (name_of : X → List ℕ) (es : List Place) (items : List X) (i : ℕ) (x : X) (k : Vec ℕ) →
    i < length items → x ≡ get_or items i x → k.items ≡ name_of x → LeadTo name_of es items (drop (i + 1) items) →
    LeadTo name_of (insert_entry (λ (x y : Vec ℕ). bytes_eq x.items y.items) es k i) items (drop i items)
leads_more {X} name_of es items i x k h e s l =
    let split : drop i items ≡ x ∷ drop (i + 1) items = rw (drop_more items i x h, sym e) refl in
    record {
      first = λ name.
          ap (bit_at_place items) (inserted name es k i)
          ∙ by name (bytes_eq name k.items) (bytes_eq (name_of x) name) (rw s (bytes_eq_sym name (name_of x)))
          ∙ ap (find (λ (y : X). bytes_eq (name_of y) name)) (sym split);
    }
  where
    at_get : (xs : List X) (j : ℕ) (y : X) → j < length xs → y ≡ get_or xs j y → slice_get xs j ≡ Some y
    at_get xs j y below is = slice_get-get_or xs j y below ∙ ap Some (sym is)

    by : (name : List ℕ) (t u : Bool) → t ≡ u → bit_at_place items (cond t (Some i) (lookup (λ (z : Vec ℕ). bytes_eq name z.items) es)) ≡ cond u
        (Some x) (find (λ (y : X). bytes_eq (name_of y) name) (drop (i + 1) items))
    by name true true q = at_get items i x h e
    by name false false q = l.first name
    by name true false q = absurd (cc)
    by name false true q = absurd (cc)
