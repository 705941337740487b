-- The primitives are different, and so is what is declared after them.
use Rattle.std.proofs.Common.{◌≡◌, ℕ, ◌<◌, zero, suc, Bool, true, false, not, ◌&&◌, ◌||◌, List, [], ◌∷◌, length, get_or, refl, ap, ◌∙◌, subst, arith}
use Rattle.std.specs.Prelude.{Result, Ok, Err, MatchResult}
use Rattle.std.specs.List.{list_any}
use Rattle.std.specs.Str.{bytes_eq}
use Rattle.std.proofs.lemmas.Slice.Eq.{bytes_eq-Decides}
use Rattle.std.proofs.Math.Bool.{or-true}
use Rattle.std.proofs.lemmas.Bool.{and_parts}
use Rattle.scald_base.specs.declared.refusal.Stop.{Stop}
use Rattle.scald_base.specs.declared.refusal.Stop.TheVariants.{Refused, NoMemory}
use Rattle.drawing_grammar.specs.DoubleNames.{Key, Declaration, primitives, AreDifferent, IsDistinct, IsDoubleStop, Declares, IsStopAt}

abbrev pub named_in : List ℕ → List Key → Bool
named_in name keys = list_any (λ k. bytes_eq name k.name) keys

-- no name stands twice
abbrev pub all_fresh : List Key → Bool
all_fresh [] = true
all_fresh (k ∷ ks) = not (named_in k.name ks) && all_fresh ks

is_named : (k : Key) (ks : List Key) (j : ℕ) (d : Key) → j < length ks → k ≡ get_or ks j d → named_in k.name ks ≡ true
is_named k [] j d below e = absurd (omega arith)
is_named k (l ∷ ks) zero d below e =
    let names : k.name ≡ l.name = ap (λ (x : Key). x.name) e in
    let test : bytes_eq k.name l.name ≡ true = grind (arith, bytes_eq-Decides) in
    ap (λ (b : Bool). b || named_in k.name ks) test
is_named k (l ∷ ks) (suc j) d below e = ap (λ (b : Bool). bytes_eq k.name l.name || b) (is_named k ks j d (omega arith) e) ∙ or-true (bytes_eq k.name l.name)

not_both : (a : Bool) → not a ≡ true → a ≡ true → ⊥
not_both true f t = cc
not_both false f t = cc

pub differ : (ks : List Key) → all_fresh ks ≡ true → (i j : ℕ) (d : Key) → i < j → j < length ks → get_or ks i d ≡ get_or ks j d → ⊥
differ [] h i j d before below e = absurd (omega arith)
differ (k ∷ ks) h zero zero d before below e = absurd (omega arith)
differ (k ∷ ks) h zero (suc j) d before below e = not_both (named_in k.name ks) (and_parts (not (named_in k.name ks)) (all_fresh ks) h).0 (is_named k ks j d (omega arith) e)
differ (k ∷ ks) h (suc i) zero d before below e = absurd (omega arith)
differ (k ∷ ks) h (suc i) (suc j) d before below e = differ ks (and_parts (not (named_in k.name ks)) (all_fresh ks) h).1 i j d (omega arith) (omega arith) e

primitives_differ : AreDifferent primitives
unfolding primitives
primitives_differ = differ primitives refl

pub distinct_stop : (ds : List Declaration) (s : Stop) → IsStopAt primitives ds s → IsDoubleStop ds s
distinct_stop ds (Refused r) found = record {
  before = found.before;
  again = found.again;
  after = found.after;
  parts = found.parts;
  first = found.first primitives_differ;
  double = found.double;
  refusal = found.refusal;
}
distinct_stop ds NoMemory found = tt

pub distinct_given : {A : Type 0} (r : Result A Stop) (now : List Key) (ds : List Declaration) →
    MatchResult r (λ _. Declares primitives now ds) (IsStopAt primitives ds) → MatchResult r (λ _. IsDistinct ds) (IsDoubleStop ds)
distinct_given (Ok x) now ds given = let F : List Key → Type 0 = λ ks. AreDifferent ks in subst F given.added (given.different primitives_differ)
distinct_given (Err s) now ds given = distinct_stop ds s given
