-- The numbers that are tried behind each front of a name.
use Rattle.std.proofs.Common.{◌≡◌, ℕ, ◌≤◌, ◌^◌, Bool, true, false, cond, ◌||◌, List, [], ◌∷◌, ◌++◌, take, refl, sym, subst, arith, Some}
use Rattle.std.specs.Prelude.{not, IfSome}
use Rattle.std.specs.List.{list_any}
use Rattle.std.specs.Map.{lookup}
use Rattle.std.specs.Str.{bytes_eq}
use Rattle.std.proofs.lemmas.List.Folds.{list_any-append}
use Rattle.std.proofs.lemmas.Slice.Eq.{bytes_eq-Decides}
use Rattle.indexmap.specs.IndexMap.{insert_entry}
use Rattle.netlist_import.specs.Fresh.{is_new, numbered, stem_length, AreTaken, IsTried, AreTried}
use Rattle.netlist_import.proofs.Digits.{stem_stays}

-- ---- the names only become more

still_taken : (taken : List (List ℕ)) (more name : List ℕ) → is_new taken name ≡ false →
    is_new (taken ++ more ∷ []) name ≡ false
still_taken taken more name e = rw (list_any-append (bytes_eq name) taken (more ∷ []))
    (at (list_any (bytes_eq name) taken) e)
  where
    at : (b : Bool) → not b ≡ false → not (b || (bytes_eq name more || false)) ≡ false
    at true e = refl
    at false e = absurd (cc)

pub tried_more : (taken : List (List ℕ)) (more : List ℕ) (next : List (List ℕ × ℕ)) →
    AreTried taken next → AreTried (taken ++ more ∷ []) next
tried_more taken more [] tried = tt
tried_more taken more (e ∷ next) tried = (
  record {
    each = λ name k same less. still_taken taken more (numbered name k)
        (tried.0.each name k same less);
  },
  tried_more taken more next tried.1,
)

-- ---- what is known of a front

pub tried_at : (taken : List (List ℕ)) (next : List (List ℕ × ℕ)) (stem : List ℕ) →
    AreTried taken next →
    IfSome (lookup (bytes_eq stem) next) (λ n. IsTried taken (stem, n))
tried_at taken [] stem tried = tt
tried_at taken ((front, m) ∷ next) stem tried =
    at (bytes_eq stem front) refl (tried_at taken next stem tried.1)
  where
    at : (b : Bool) → bytes_eq stem front ≡ b →
        IfSome (lookup (bytes_eq stem) next) (λ n. IsTried taken (stem, n)) →
        IfSome (cond b (Some m) (lookup (bytes_eq stem) next)) (λ n. IsTried taken (stem, n))
    at true is more = subst (λ (s : List ℕ). IsTried taken (s, m))
        (sym ((bytes_eq-Decides stem front).0 is)) tried.0
    at false is more = more

pub tried_with : (taken : List (List ℕ)) (next : List (List ℕ × ℕ)) (stem : List ℕ) (n : ℕ) →
    AreTried taken next → IsTried taken (stem, n) →
    AreTried taken (insert_entry bytes_eq next stem n)
tried_with taken [] stem n tried here = (here, tt)
tried_with taken ((front, m) ∷ next) stem n tried here =
    at (bytes_eq stem front) refl (tried_with taken next stem n tried.1 here)
  where
    at : (b : Bool) → bytes_eq stem front ≡ b → AreTried taken (insert_entry bytes_eq next stem n) →
        AreTried taken (cond b ((front, n) ∷ next) ((front, m) ∷ insert_entry bytes_eq next stem n))
    at true is more = (
      subst (λ (s : List ℕ). IsTried taken (s, n))
          ((bytes_eq-Decides stem front).0 is) here,
      tried.1,
    )
    at false is more = (tried.0, more)

-- What is taken behind a name is taken behind each name with its front.
pub tried_by_name : (taken : List (List ℕ)) (name : List ℕ) (n : ℕ) → n ≤ 2 ^ 64 →
    AreTaken taken name n → IsTried taken (take stem_length name, n)
tried_by_name taken name n h all = record {
  each = λ other k same less. rw (stem_stays other name k (omega arith) same) (all.each k less);
}
