-- What holds of each element of a list.
use Rattle.std.proofs.Common.{ℕ, zero, suc, Bool, true, false, if◌then◌else◌, List, [], ◌∷◌, ◌++◌, map, Some}
use Rattle.std.specs.Prelude.{slice_get, IfSome}
use Rattle.std.specs.List.{AllByRecursion, find}

pub every_append : {A : Type 0} (P : A → Type 0) (xs ys : List A) → AllByRecursion P xs → AllByRecursion P ys → AllByRecursion P (xs ++ ys)
every_append P [] ys a b = b
every_append P (x ∷ xs) ys a b = (a.0, every_append P xs ys a.1 b)

-- the one that stands between others
pub every_between : {A : Type 0} (P : A → Type 0) (xs : List A) (x : A) (ys : List A) → AllByRecursion P (xs ++ x ∷ ys) → P x
every_between P [] x ys a = a.0
every_between P (y ∷ xs) x ys a = every_between P xs x ys a.1

-- by what holds of what each is made from, and the other way round
pub every_map : {A B : Type 0} (P : B → Type 0) (f : A → B) (xs : List A) → AllByRecursion (λ x. P (f x)) xs → AllByRecursion P (map f xs)
every_map P f [] a = tt
every_map P f (x ∷ xs) a = (a.0, every_map P f xs a.1)

pub every_mapped : {A B : Type 0} (P : B → Type 0) (f : A → B) (xs : List A) → AllByRecursion P (map f xs) → AllByRecursion (λ x. P (f x)) xs
every_mapped P f [] a = tt
every_mapped P f (x ∷ xs) a = (a.0, every_mapped P f xs a.1)

-- the one that is found
pub every_find : {A : Type 0} (P : A → Type 0) (test : A → Bool) (xs : List A) → AllByRecursion P xs → IfSome (find test xs) P
every_find P test [] a = tt
every_find {A} P test (x ∷ xs) a = one (test x) (every_find P test xs a.1)
  where
    one : (b : Bool) → IfSome (find test xs) P → IfSome (if b then Some x else find test xs) P
    one true more = a.0
    one false more = more

-- the one that stands at a number
pub every_get : {A : Type 0} (P : A → Type 0) (xs : List A) (k : ℕ) → AllByRecursion P xs → IfSome (slice_get xs k) P
every_get P [] k a = tt
every_get P (x ∷ xs) zero a = a.0
every_get P (x ∷ xs) (suc k) a = every_get P xs k a.1
