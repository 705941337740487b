-- Names in a set, and their bytes.
use Rattle.std.proofs.Common.{◌≡◌, ℕ, List, [], ◌∷◌, ◌++◌, ◌||◌, Bool, true, false, Option, Some, None, is_some, if◌then◌else◌, refl, sym, ap, ◌∙◌}
use Rattle.std.specs.Prelude.{not, option_map}
use Rattle.std.specs.List.{list_any}
use Rattle.std.specs.Str.{bytes_eq}
use Rattle.std.specs.Borrow.{Bor}
use Rattle.netlist_import.specs.Placed.{Member}
use Rattle.netlist_import.specs.Parsed.{texts, in_object, with_name}

pub text_known : (k : Bor (List ℕ)) (ks : List (Bor (List ℕ))) →
    list_any (bytes_eq k.now) (texts ks) ≡ list_any (λ x. bytes_eq k.now x.now) ks
text_known k [] = refl
text_known k (x ∷ xs) = ap (λ (b : Bool). bytes_eq k.now x.now || b) (text_known k xs)

pub texts_more : (ks : List (Bor (List ℕ))) (k : Bor (List ℕ)) → texts (ks ++ k ∷ []) ≡ texts ks
    ++ k.now ∷ []
texts_more [] k = refl
texts_more (x ∷ xs) k = ap (λ (ts : List (List ℕ)). x.now ∷ ts) (texts_more xs k)

-- ---- a name, where one may come

abbrev has : Bor (List ℕ) → List (Bor (List ℕ)) → Bool
has k ks = list_any (λ x. bytes_eq k.now x.now) ks

pub new_name : (n : ℕ) (ks : List (Bor (List ℕ))) (ms : List Member) (next : Option (Bor (List ℕ)))
    (k : Bor (List ℕ)) (more : List (Bor (List ℕ))) →
    is_some next ≡ false → true ≡ not (has k ks) → more ≡ (if has k ks then ks else ks ++ k ∷ []) →
    with_name k.now (in_object n (texts ks) ms (option_map (λ name. name.now) next))
    ≡ Some (in_object n (texts more) ms (Some k.now))
new_name n ks ms (Some x) k more h t e = absurd cc
new_name n ks ms None k more h t e = at (has k ks) refl t e
  where
    at : (b : Bool) → has k ks ≡ b → true ≡ not b → more ≡ (if b then ks else ks ++ k ∷ []) →
        with_name k.now (in_object n (texts ks) ms None)
        ≡ Some (in_object n (texts more) ms (Some k.now))
    at true f t e = absurd cc
    at false f t e = rw (text_known k ks ∙ f)
        (ap (λ (ts : List (List ℕ)). Some (in_object n ts ms (Some k.now)))
        (sym (ap texts e ∙ texts_more ks k)))

pub old_name : (n : ℕ) (ks : List (Bor (List ℕ))) (ms : List Member) (next : Option (Bor (List ℕ)))
    (k : Bor (List ℕ)) →
    is_some next ≡ false → false ≡ not (has k ks) →
    with_name k.now (in_object n (texts ks) ms (option_map (λ name. name.now) next)) ≡ None
old_name n ks ms (Some x) k h t = absurd cc
old_name n ks ms None k h t = at (has k ks) refl t
  where
    at : (b : Bool) → has k ks ≡ b → false ≡ not b →
        with_name k.now (in_object n (texts ks) ms None) ≡ None
    at true f t = rw (text_known k ks ∙ f) refl
    at false f t = absurd cc
