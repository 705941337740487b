-- The nets that come from other sections, gathered one after the other.
use Rattle.std.proofs.Common.{◌≡◌, ℕ, ◌+◌, ◌<◌, ◌≤◌, Bool, true, false, cond, ◌&&◌, ◌||◌, List, [], ◌∷◌, ◌++◌}
use Rattle.std.proofs.Common.{length, refl, sym, ap, subst, ◌∙◌, arith, inl, inr}
use Rattle.std.specs.Prelude.{◌==◌, nat_lt}
use Rattle.std.proofs.lemmas.Bool.{cases_lt, eqb-true, lt-ltb}
use Rattle.std.proofs.lemmas.Bool.Decides.{nat_tests}
use Rattle.std.proofs.lemmas.List.Elements.{All-nil, All-push}
use Rattle.std.proofs.lemmas.Option.{slice_get_past}
use Rattle.flat_circuit.specs.declared.case.CaseValue.{CaseValue}
use Rattle.flat_circuit.specs.Circuit.{Circuit}
use Rattle.case_analysis.specs.Case.{NetsExist, is_set}
use Rattle.section_compose.specs.Evaluated.{across, comes_in}
use Rattle.section_compose.specs.Settled.{IsCase}
use Rattle.section_compose.proofs.Started.{set_more}

-- the case sets those of the first n nets that come in
pub record IsCaseTo (whole : List Circuit) (c : Circuit) (n : ℕ) (values : List CaseValue) : Type 0 where
  pub exist : NetsExist c values
  pub sets : (i : ℕ) → is_set values i ≡ (nat_lt i n && across whole c i)

below_next : (i n : ℕ) → nat_lt i (n + 1) ≡ (nat_lt i n || (n == i))
below_next i n = grind (arith, nat_tests)

none_below : (i : ℕ) → nat_lt i 0 ≡ false
none_below i = grind (arith, nat_tests)

here_too : (below comes here : Bool) → (here ≡ true → comes ≡ true) → ((below && comes) || here) ≡ ((below || here) && comes)
here_too true true here is = refl
here_too true false true is = let e : false ≡ true = is refl in cc
here_too true false false is = refl
here_too false comes true is = sym (is refl)
here_too false comes false is = refl

not_here : (below comes here : Bool) → (here ≡ true → comes ≡ false) → (below && comes) ≡ ((below || here) && comes)
not_here true comes here is = refl
not_here false comes true is = sym (is refl)
not_here false comes false is = refl

module _ (whole : List Circuit) (c : Circuit) (n : ℕ) (values : List CaseValue) (so_far : IsCaseTo whole c n values) where
  case_more : (more : List CaseValue) → more ≡ values ++ record { net = n; one = false } ∷ [] → n < length c.nets → across whole c n ≡ true →
      NetsExist c more → IsCaseTo whole c (n + 1) more
  case_more more put below comes exist = record {
    exist = exist;
    sets = λ i.
        ap (λ (vs : List CaseValue). is_set vs i) put
        ∙ set_more values (record { net = n; one = false }) i
        ∙ ap (λ (b : Bool). b || (n == i)) (so_far.sets i)
        ∙ here_too (nat_lt i n) (across whole c i) (n == i) (λ here. ap (across whole c) (sym (eqb-true n i here)) ∙ comes)
        ∙ ap (λ (b : Bool). b && across whole c i) (sym (below_next i n));
  }

  case_same : across whole c n ≡ false → IsCaseTo whole c (n + 1) values
  case_same stays = record {
    exist = so_far.exist;
    sets = λ i.
        so_far.sets i
        ∙ not_here (nat_lt i n) (across whole c i) (n == i) (λ here. ap (across whole c) (sym (eqb-true n i here)) ∙ stays)
        ∙ ap (λ (b : Bool). b && across whole c i) (sym (below_next i n));
  }

-- one net more, which is set if it comes in
pub case_next : (whole : List Circuit) (c : Circuit) (n : ℕ) (values more : List CaseValue) (comes : Bool) → comes ≡ across whole c n → n < length c.nets →
    more ≡ cond comes (values ++ record { net = n; one = false } ∷ []) values → IsCaseTo whole c n values → IsCaseTo whole c (n + 1) more
case_next whole c n values more true comes below put so_far =
    case_more whole c n values so_far more put below (sym comes)
    (subst (NetsExist c) (sym put) (All-push (λ (v : CaseValue). v.net < length c.nets) values (record { net = n; one = false }) so_far.exist below))
case_next whole c n values more false stays below put so_far =
    subst (IsCaseTo whole c (n + 1)) (sym put) (case_same whole c n values so_far (sym stays))

pub case_none : (whole : List Circuit) (c : Circuit) (values : List CaseValue) → values ≡ [] → IsCaseTo whole c 0 values
case_none whole c values none = record {
  exist = subst (NetsExist c) (sym none) (All-nil (λ (v : CaseValue). v.net < length c.nets));
  sets = λ i. ap (λ (vs : List CaseValue). is_set vs i) none ∙ sym (ap (λ (b : Bool). b && across whole c i) (none_below i));
}

pub case_whole : (whole : List Circuit) (c : Circuit) (n : ℕ) (values : List CaseValue) → length c.nets ≤ n → IsCaseTo whole c n values → IsCase whole c values
case_whole whole c n values past is = record {
  exist = is.exist;
  sets = λ i. is.sets i ∙ by i;
}
  where
    by : (i : ℕ) → (nat_lt i n && across whole c i) ≡ across whole c i
    by i = elim (cases_lt i (length c.nets)) [
      | inl below ↦ ap (λ (b : Bool). b && across whole c i) (lt-ltb i n (omega (arith, below, past)))
      | inr outside ↦ both (nat_lt i n) (across whole c i) (ap (comes_in whole) (slice_get_past c.nets i (omega (arith, outside))))
    ]
      where
        both : (a b : Bool) → b ≡ false → (a && b) ≡ b
        both true b e = refl
        both false b e = sym e
