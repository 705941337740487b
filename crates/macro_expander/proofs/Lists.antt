-- Lists whose items are seen otherwise.
use Rattle.std.proofs.Common.{◌≡◌, ℕ, ◌+◌, Bool, true, false, cond, ◌||◌, List, [], ◌∷◌, map, Option, Some, None, refl, ap, sym, subst, ◌∙◌}
use Rattle.std.specs.Prelude.{IfSome}
use Rattle.std.specs.List.{All, find, fold, count_by, sum_by, list_any}
use Rattle.std.specs.Option.{option_map, option_copied, is_some}
use Rattle.std.proofs.lemmas.List.Elements.{All-head, All-tail}
use denote.Ref.{Bor}

pub two : {A B C : Type 0} (f : A → B → C) {a a' : A} {b b' : B} → a ≡ a' → b ≡ b' → f a b ≡ f a' b'
two f {a} {a'} {b} {b'} p q = ap (λ x. f x b) p ∙ ap (λ y. f a' y) q

fold_map : {A X Y : Type 0} (g : A → Y → A) (f : X → Y) (a : A) (xs : List X) → fold g a (map f xs) ≡ fold (λ c x. g c (f x)) a xs
fold_map g f a [] = refl
fold_map g f a (x ∷ xs) = fold_map g f (g a (f x)) xs

pub count_by_map : {X Y : Type 0} (p : Y → Bool) (f : X → Y) (xs : List X) → count_by p (map f xs) ≡ count_by (λ x. p (f x)) xs
count_by_map p f xs = fold_map (λ a y. a + cond (p y) 1 0) f 0 xs

pub sum_by_map : {X Y : Type 0} (p : Y → ℕ) (f : X → Y) (xs : List X) → sum_by p (map f xs) ≡ sum_by (λ x. p (f x)) xs
sum_by_map p f xs = fold_map (λ a y. a + p y) f 0 xs

pub find_map : {X Y : Type 0} (p : Y → Bool) (f : X → Y) (xs : List X) → find p (map f xs) ≡ option_map f (find (λ x. p (f x)) xs)
find_map p f [] = refl
find_map p f (x ∷ xs) = step (p (f x)) (find_map p f xs)
  where
    step : (b : Bool) → find p (map f xs) ≡ option_map f (find (λ z. p (f z)) xs) → cond b (Some (f x)) (find p (map f xs)) ≡ option_map f (cond b (Some x) (find (λ z. p (f z)) xs))
    step true h = refl
    step false h = h

-- what is found is one of the list
found_step : {X : Type 0} (P : X → Type 0) (b : Bool) (x f : X) (o : Option X) → P x → (o ≡ Some f → P f) → cond b (Some x) o ≡ Some f → P f
found_step P true x f o h k q = let s : x ≡ f = cc in subst P s h
found_step P false x f o h k q = k q

pub found_is : {X : Type 0} (P : X → Type 0) (test : X → Bool) (xs : List X) (f : X) → All P xs → find test xs ≡ Some f → P f
found_is P test [] f h e = absurd (cc)
found_is P test (x ∷ xs) f h e = found_step P (test x) x f (find test xs) (All-head P x xs h) (found_is P test xs f (All-tail P x xs h)) e

pub found_has : {X : Type 0} (P : X → Type 0) (test : X → Bool) (xs : List X) (r : Option (Bor X)) → option_copied r ≡ find test xs → All P xs → IfSome r (λ b. P b.now)
found_has P test xs None e h = tt
found_has P test xs (Some b) e h = found_is P test xs b.now h (sym e)

-- something is found if something passes the test
pub found_any : {X : Type 0} (test : X → Bool) (xs : List X) → is_some (find test xs) ≡ list_any test xs
found_any test [] = refl
found_any test (x ∷ xs) = by (test x) (found_any test xs)
  where
    by : (b : Bool) → is_some (find test xs) ≡ list_any test xs → is_some (cond b (Some x) (find test xs)) ≡ (b || list_any test xs)
    by true h = refl
    by false h = h
