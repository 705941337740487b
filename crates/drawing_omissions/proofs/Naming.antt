-- The names of which there are other bits, one net after the other.
use Rattle.std.proofs.Common.{◌≡◌, ℕ, ◌+◌, ◌<◌, ◌==◌, ◌&&◌, ◌||◌, not, Bool, true, false, List, [], ◌∷◌, ◌++◌, length, take, get_or, refl, sym, ap, subst, ◌∙◌, append-nil, slice_get, Option, Some}
use Rattle.std.specs.Global.{Vec}
use Rattle.std.specs.List.{flat_map, list_any}
use Rattle.std.specs.Prelude.{if◌then◌else◌}
use Rattle.std.specs.Str.{bytes_eq}
use Rattle.std.proofs.Math.Bool.{or-false}
use Rattle.std.proofs.lemmas.List.{take_more}
use Rattle.std.proofs.lemmas.List.Concat.{flat_map-append}
use Rattle.std.proofs.lemmas.List.Folds.{list_any-append}
use Rattle.std.proofs.lemmas.Slice.Eq.{bytes_eq-Decides}
use Rattle.indexmap.specs.IndexSet.{insert_key}
use Rattle.flat_circuit.specs.declared.net.Net.{Net}
use Rattle.drawing_omissions.specs.Lines.{Lines, Adds}
use Rattle.drawing_omissions.proofs.Adding.{adds_both}
use Rattle.drawing_omissions.proofs.Anys.{any_more, kept_same}
use Rattle.drawing_omissions.specs.Spread.{AreNames, is_among, is_other_bit, is_other_of}

-- of one net more
pub names_more : (nets : List Net) (k : ℕ) (old new : List (Vec ℕ)) → AreNames (take k nets) old →
    ((name : List ℕ) → is_among new name ≡ (is_among old name || is_other_of (slice_get nets k) name)) → AreNames (take (k + 1) nets) new
names_more nets k old new before put name =
    put name ∙ ap (λ b. b || is_other_of (slice_get nets k) name) (before name)
    ∙ sym (any_more (is_other_bit name) (λ o. is_other_of o name) refl (λ n. refl) nets k)

-- ---- a name is put

pub puts_name : {eq : Vec ℕ → Vec ℕ → Bool} (old new : List (Vec ℕ)) (k : Vec ℕ) → new ≡ insert_key eq old k →
    ((a b : Vec ℕ) → eq a b ≡ bytes_eq a.items b.items) → (name : List ℕ) → is_among new name ≡ (is_among old name || bytes_eq name k.items)
puts_name {eq} old new k put same name = by (list_any (eq k) old) refl
  where
    there : list_any (eq k) old ≡ is_among old k.items
    there = ap (λ (p : Vec ℕ → Bool). list_any p old) (λ i x. same k x i)

    by : (b : Bool) → list_any (eq k) old ≡ b → is_among new name ≡ (is_among old name || bytes_eq name k.items)
    by true e =
        let kept : new ≡ old = put ∙ ap (λ c. if c then old else old ++ k ∷ []) e in
        ap (λ keys. is_among keys name) kept
        ∙ kept_same (is_among old name) (bytes_eq name k.items)
        (λ is. ap (is_among old) ((bytes_eq-Decides name k.items).0 is) ∙ sym there ∙ e)
    by false e =
        let more : new ≡ old ++ k ∷ [] = put ∙ ap (λ c. if c then old else old ++ k ∷ []) e in
        ap (λ keys. is_among keys name) more
        ∙ list_any-append (λ (x : Vec ℕ). bytes_eq name x.items) old (k ∷ [])
        ∙ ap (λ b. is_among old name || b) (or-false (bytes_eq name k.items))

and_true : (b c : Bool) → c ≡ true → b ≡ (b && c)
and_true true c is = sym is
and_true false c is = refl

pub puts_net : {eq : Vec ℕ → Vec ℕ → Bool} (old new : List (Vec ℕ)) (k : Vec ℕ) (n : Net) (o : Option Net) → new ≡ insert_key eq old k →
    ((a b : Vec ℕ) → eq a b ≡ bytes_eq a.items b.items) → k.items ≡ n.name → not (n.bit == 0) ≡ true → o ≡ Some n → (name : List ℕ) →
    is_among new name ≡ (is_among old name || is_other_of o name)
puts_net old new k n o put same is other at name =
    puts_name old new k put same name
    ∙ ap (λ b. is_among old name || b) (ap (bytes_eq name) is ∙ and_true (bytes_eq name n.name) (not (n.bit == 0)) other)
    ∙ ap (λ (x : Option Net). is_among old name || is_other_of x name) (sym at)

-- ---- notes on items of a list, one after the other

pub adds_next : {X : Type 0} (f : X → List (List ℕ)) (xs : List X) (k : ℕ) (x : X)
    (old between new : Lines) → k < length xs → x ≡ get_or xs k x →
    Adds old between (flat_map f (take k xs)) → Adds between new (f x) → Adds old new (flat_map f (take (k + 1) xs))
adds_next f xs k x old between new below is before one =
    subst (Adds old new)
    (ap (λ (l : List (List ℕ)). flat_map f (take k xs) ++ l) (sym (append-nil (f x)))
    ∙ sym (flat_map-append f (take k xs) (x ∷ [])) ∙ ap (flat_map f) (ap (λ y. take k xs ++ y ∷ []) is ∙ sym (take_more xs k x below)))
    (adds_both (flat_map f (take k xs)) (f x) old between new before one)
