-- The names of driven nets, one net after the other.
use Rattle.std.proofs.Common.{◌≡◌, ℕ, ◌+◌, ◌&&◌, ◌||◌, Bool, true, false, cond, List, [], ◌∷◌, ◌++◌, is_some, take, refl, sym, ap, subst, ◌∙◌, append-nil, slice_get, Option, Some, None}
use Rattle.std.specs.Global.{Vec}
use Rattle.std.specs.Str.{bytes_eq}
use Rattle.indexmap.specs.IndexSet.{insert_key}
use Rattle.flat_circuit.specs.declared.net.Net.{Net}
use Rattle.flat_circuit.specs.Circuit.{Circuit}
use Rattle.drawing_omissions.specs.Loose.{name_of}
use Rattle.drawing_omissions.specs.Part.{AreDriven, is_among, is_driven, is_driven_bit, is_driven_of, part_at, part_line}
use Rattle.drawing_omissions.proofs.Anys.{any_more}
use Rattle.drawing_omissions.proofs.Naming.{puts_name}

pub driven_more : (nets : List Net) (k : ℕ) (old new : List (Vec ℕ)) → AreDriven (take k nets) old →
    ((name : List ℕ) → is_among new name ≡ (is_among old name || is_driven_of (slice_get nets k) name)) → AreDriven (take (k + 1) nets) new
driven_more nets k old new before put name =
    put name ∙ ap (λ b. b || is_driven_of (slice_get nets k) name) (before name)
    ∙ sym (any_more (is_driven_bit name) (λ o. is_driven_of o name) refl (λ n. refl) nets k)

and_true : (b c : Bool) → c ≡ true → b ≡ (b && c)
and_true true c is = sym is
and_true false c is = refl

pub puts_driven : {eq : Vec ℕ → Vec ℕ → Bool} (old new : List (Vec ℕ)) (k : Vec ℕ) (n : Net) (o : Option Net) → new ≡ insert_key eq old k →
    ((a b : Vec ℕ) → eq a b ≡ bytes_eq a.items b.items) → k.items ≡ n.name → is_some n.driver ≡ true → o ≡ Some n →
    (name : List ℕ) → is_among new name ≡ (is_among old name || is_driven_of o name)
puts_driven old new k n o put same items driven at name =
    puts_name old new k put same name
    ∙ ap (λ b. is_among old name || b)
    (ap (bytes_eq name) items ∙ and_true (bytes_eq name n.name) (is_some n.driver) driven ∙ ap (λ p. is_driven_of p name) (sym at))

pub part_noted : (c : Circuit) (i : ℕ) → is_driven c (name_of c i) ≡ true → part_at c i ≡ part_line c i ∷ []
part_noted c i is = ap (λ b. cond b (part_line c i ∷ []) []) is

pub part_none : (c : Circuit) (i : ℕ) → is_driven c (name_of c i) ≡ false → part_at c i ≡ []
part_none c i is = ap (λ b. cond b (part_line c i ∷ []) []) is
