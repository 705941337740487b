-- The entries of a case one after the other, and the cases of a drawing.
use Rattle.std.proofs.Common.{◌≡◌, ℕ, ◌+◌, ◌<◌, ◌≤◌, ◌==◌, ◌||◌, Bool, true, false, List, [], ◌∷◌, ◌++◌, length, map, set, replicate, refl, sym, ap, subst, ◌∙◌, arith, slice_get, Option, Some, None, cond}
use Rattle.std.specs.Prelude.{Result, Ok, Err, IfOk, MatchResult}
use Rattle.std.specs.List.{All}
use Rattle.std.proofs.lemmas.Bool.{eqb-true, eqb-false, or_parts}
use Rattle.std.proofs.lemmas.Bool.Decides.{nat_tests}
use Rattle.std.proofs.lemmas.List.{length-map, length-append, map_push, length-set}
use Rattle.std.proofs.lemmas.List.Elements.{All-head, All-tail, All-nil, All-push}
use Rattle.std.proofs.Math.Bool.{or-false, or_assoc}
use Rattle.scald_base.specs.declared.refusal.Refusal.{Refusal}
use Rattle.scald_base.specs.declared.refusal.RefusalKind.TheVariants.{CaseNet, TooMany}
use Rattle.scald_base.specs.declared.refusal.Stop.{Stop}
use Rattle.scald_base.specs.declared.refusal.Stop.TheVariants.{Refused, NoMemory}
use Rattle.flat_circuit.specs.declared.case.CaseValue.{CaseValue}
use Rattle.flat_circuit.specs.Name.{Name, name_at}
use Rattle.flat_circuit.specs.Builder.{same_name}
use Rattle.flat_circuit.specs.Circuit.{Circuit, IsCircuit, net_name, net_names}
use Rattle.flat_circuit.proofs.Tables.{same_name_is, same_name_refl}
use Rattle.fixpoint_engine.specs.Settled.{marked_in}
use Rattle.fixpoint_engine.proofs.Waiting.{unmarked, marked_set}
use Rattle.drawing_tree.specs.declared.drawing.CaseEntry.{CaseEntry}
use Rattle.drawing_tree.specs.declared.drawing.CaseStmt.{CaseStmt}
use Rattle.macro_expander.specs.Named.{State}
use Rattle.macro_expander.specs.Cases.{CaseBit, entry_bit, is_set as is_named, may_set, case_bits, cases_behind, most_cases, unless_many}
use Rattle.macro_expander.specs.Stands.{Stands}
use Rattle.case_analysis.specs.Case.{NetsExist, is_set}
use Rattle.case_analysis.proofs.Entries.{none_past}
use Rattle.case_analysis.specs.Listed.{is_free, bit_of, bits_of, AreOnce, none, one_more, IsListed, AreNamed, IsJudged, MaySet, IsCaseOf, IsCaseStop, AreCases, AreCasesOf, AreCasesStop, AreNoCases}

-- ---- values after others

set_push : (vs : List CaseValue) (v : CaseValue) (i : ℕ) → is_set (vs ++ v ∷ []) i ≡ (is_set vs i || (v.net == i))
set_push [] v i = or-false (v.net == i)
set_push (w ∷ vs) v i = ap (λ b. (w.net == i) || b) (set_push vs v i) ∙ sym (or_assoc (w.net == i) (is_set vs i) (v.net == i))

eq_turned : (a b : ℕ) → (a == b) ≡ false → (b == a) ≡ false
eq_turned a b h = grind (arith, nat_tests)

once_push : (vs : List CaseValue) (v : CaseValue) → AreOnce vs → is_set vs v.net ≡ false → AreOnce (vs ++ v ∷ [])
once_push [] v once free = one_more refl none
once_push (w ∷ vs) v (one_more first others) free =
    let both = or_parts (w.net == v.net) (is_set vs v.net) free in
    one_more (set_push vs v w.net ∙ (λ k. first k || eq_turned w.net v.net both.0 k)) (once_push vs v others both.1)

-- ---- nets that were named before

module _ (c : Circuit) (known : IsCircuit c) where
  abbrev names : List Name
  names = net_names c.nets

  seen_set : (vs : List CaseValue) (i : ℕ) → NetsExist c vs → i < length c.nets → is_named (bits_of c.nets vs) (name_at names i) ≡ is_set vs i
  seen_set [] i exist below = refl
  seen_set (v ∷ vs) i exist below =
      let here : v.net < length c.nets = All-head (λ (x : CaseValue). x.net < length c.nets) v vs exist in
      (λ k. one v.net i here below k || seen_set vs i (All-tail (λ (x : CaseValue). x.net < length c.nets) v vs exist) below k)
    where
      one : (a b : ℕ) → a < length c.nets → b < length c.nets → same_name (name_at names b) (name_at names a) ≡ (a == b)
      one a b p q = by (a == b) refl (same_name (name_at names b) (name_at names a)) refl
        where
          by : (x : Bool) → (a == b) ≡ x → (y : Bool) → same_name (name_at names b) (name_at names a) ≡ y → y ≡ x
          by true e true f = refl
          by false e false f = refl
          by true e false f =
              let is : same_name (name_at names b) (name_at names a) ≡ true =
              subst (λ (k : ℕ). same_name (name_at names b) (name_at names k) ≡ true) (sym (eqb-true a b e)) (same_name_refl (name_at names b)) in
              let clash : false ≡ true = sym f ∙ is in cc
          by false e true f =
              let long = length-map c.nets net_name in
              let same : a ≡ b = known.distinct a b (omega (arith, long, p)) (omega (arith, long, q)) (same_name_is (name_at names b) (name_at names a) f) in
              absurd (eqb-false a b e same)

-- Of the entries of a case, the rest is still to be looked at.
pub record Going (c : Circuit) (entries rest : List CaseEntry) (marks : List Bool) (case : List CaseValue) : Type 0 where
  pub each_net : length marks ≡ length c.nets
  pub listed : IsListed c case
  pub marks_are : (i : ℕ) → marked_in marks i ≡ is_set case i
  pub left : (s : State) → Stands s c → case_bits s [] entries ≡ case_bits s (bits_of c.nets case) rest

pub going_start : (c : Circuit) (entries rest : List CaseEntry) (marks : List Bool) (n : ℕ) →
    n ≡ length c.nets → marks ≡ replicate n false → length marks ≡ n → rest ≡ entries → Going c entries rest marks []
going_start c entries rest marks n count is long whole = record {
  each_net = long ∙ count;
  listed = record { exist = All-nil (λ (v : CaseValue). v.net < length c.nets); free = All-nil (λ (v : CaseValue). is_free (slice_get c.nets v.net) ≡ true); once = none };
  marks_are = λ i. ap (λ (ms : List Bool). marked_in ms i) is ∙ unmarked n i;
  left = λ s stands. ap (case_bits s []) (sym whole);
}

pub named_so : (c : Circuit) (entries rest : List CaseEntry) (marks : List Bool) (case : List CaseValue) → IsCircuit c → Going c entries rest marks case → AreNamed c marks (bits_of c.nets case)
named_so c entries rest marks case known going = record {
  each_net = going.each_net;
  are = λ i below. going.marks_are i ∙ sym (seen_set c known case i going.listed.exist below);
}

module _ (c : Circuit) (known : IsCircuit c) (entries rest later : List CaseEntry) (marks : List Bool)
    (case : List CaseValue) (e : CaseEntry) (next : rest ≡ e ∷ later) (going : Going c entries rest marks case) where
  value_below : (v : CaseValue) → MaySet c marks e v → v.net < length c.nets
  value_below v may = let long = length-map c.nets net_name in let below = may.number.below in omega (arith, long, below)

  pub going_more : (after : List Bool) (v : CaseValue) → IsJudged c marks e true → MaySet c marks e v → after ≡ set marks v.net true → Going c entries later after (case ++ v ∷ [])
  going_more after v judged may is = record {
    each_net = ap length is ∙ length-set marks v.net true ∙ going.each_net;
    listed = record {
      exist = All-push (λ (x : CaseValue). x.net < length c.nets) case v going.listed.exist (value_below v may);
      free = All-push (λ (x : CaseValue). is_free (slice_get c.nets x.net) ≡ true) case v going.listed.free may.free;
      once = once_push case v going.listed.once (sym (going.marks_are v.net) ∙ may.first);
    };
    marks_are = λ i.
        let long = going.each_net in let below = value_below v may in
        ap (λ (ms : List Bool). marked_in ms i) is ∙ marked_set marks v.net i true (omega (arith, long, below))
        ∙ ap (λ b. cond (v.net == i) true b) (going.marks_are i) ∙ turned (v.net == i) (is_set case i) ∙ sym (set_push case v i);
    left = λ s stands.
        let may_be : may_set s (bits_of c.nets case) e ≡ true = judged s (bits_of c.nets case) stands (named_so c entries rest marks case known going) in
        going.left s stands ∙ ap (case_bits s (bits_of c.nets case)) next ∙ taken s may_be ∙ ap (λ (bs : List CaseBit). case_bits s bs later) (bits s);
  }
    where
      turned : (a b : Bool) → cond a true b ≡ (b || a)
      turned true true = refl
      turned true false = refl
      turned false true = refl
      turned false false = refl

      taken : (s : State) → may_set s (bits_of c.nets case) e ≡ true → case_bits s (bits_of c.nets case) (e ∷ later) ≡ case_bits s (bits_of c.nets case ++ entry_bit e ∷ []) later
      taken s h = rw h refl

      bit : entry_bit e ≡ bit_of c.nets v
      bit = (λ k. record { name = sym may.number.is k; one = sym may.one k })

      bits : State → (bits_of c.nets case ++ entry_bit e ∷ []) ≡ bits_of c.nets (case ++ v ∷ [])
      bits s = ap (λ (b : CaseBit). bits_of c.nets case ++ b ∷ []) bit ∙ sym (map_push (bit_of c.nets) case v)

  pub going_wrong : IsJudged c marks e false → (s : State) → Stands s c → case_bits s [] entries ≡ Err (record { kind = CaseNet; place = e.place })
  going_wrong judged s stands =
      let may_not : may_set s (bits_of c.nets case) e ≡ false = judged s (bits_of c.nets case) stands (named_so c entries rest marks case known going) in
      going.left s stands ∙ ap (case_bits s (bits_of c.nets case)) next ∙ refused may_not
    where
      refused : may_set s (bits_of c.nets case) e ≡ false → case_bits s (bits_of c.nets case) (e ∷ later) ≡ Err (record { kind = CaseNet; place = e.place })
      refused h = rw h refl

-- ---- cases

-- Of the cases of a drawing, the rest is still to be looked at.
pub record Passing (c : Circuit) (written rest : List CaseStmt) (cases : List (List CaseValue)) : Type 0 where
  pub each : length cases + length rest ≡ length written
  pub listed : All (IsListed c) cases
  pub left : (s : State) → Stands s c → cases_behind s [] written ≡ cases_behind s (map (bits_of c.nets) cases) rest

module _ (c : Circuit) (written rest later : List CaseStmt) (cases : List (List CaseValue)) (w : CaseStmt) (next : rest ≡ w ∷ later) (passing : Passing c written rest cases) where
  pub passing_more : (case : List CaseValue) → IsCaseOf c w.entries case → IsListed c case → Passing c written later (cases ++ case ∷ [])
  passing_more case is listed = record {
    each = let before = passing.each in omega (arith, length-append cases (case ∷ []), ap length next, before);
    listed = All-push (IsListed c) cases case passing.listed listed;
    left = λ s stands. passing.left s stands ∙ ap (cases_behind s (map (bits_of c.nets) cases)) next
        ∙ taken s (is s stands) ∙ ap (λ (bs : List (List CaseBit)). cases_behind s bs later) (sym (map_push (bits_of c.nets) cases case));
  }
    where
      taken : (s : State) → case_bits s [] w.entries ≡ Ok (bits_of c.nets case) →
          cases_behind s (map (bits_of c.nets) cases) (w ∷ later) ≡ cases_behind s (map (bits_of c.nets) cases ++ bits_of c.nets case ∷ []) later
      taken s h = rw h refl

  pub passing_wrong : (stop : Stop) → IsCaseStop c w.entries stop → AreNoCases c written stop
  passing_wrong NoMemory is = tt
  passing_wrong (Refused r) is = λ s stands. passing.left s stands ∙ ap (cases_behind s (map (bits_of c.nets) cases)) next ∙ refused r s (is s stands)
    where
      refused : (r : Refusal) (s : State) → case_bits s [] w.entries ≡ Err r → cases_behind s (map (bits_of c.nets) cases) (w ∷ later) ≡ Err r
      refused r s h = rw h refl

module _ (c : Circuit) (written : List CaseStmt) where
  pub too_many : (w : CaseStmt) → slice_get written most_cases ≡ Some w → AreCasesStop c written (Refused (record { kind = TooMany; place = w.place }))
  too_many w at s stands = ap (λ (o : Option CaseStmt). unless_many o (cases_behind s [] written)) at

  pub first_wrong : (stop : Stop) → slice_get written most_cases ≡ None → AreNoCases c written stop → AreCasesStop c written stop
  first_wrong NoMemory few wrong = tt
  first_wrong (Refused r) few wrong = λ s stands. ap (λ (o : Option CaseStmt). unless_many o (cases_behind s [] written)) few ∙ wrong s stands

  pub all_listed : (cases : List (List CaseValue)) → slice_get written most_cases ≡ None → AreCases c written cases → AreCasesOf c written cases
  all_listed cases few are s stands = ap (λ (o : Option CaseStmt). unless_many o (cases_behind s [] written)) few ∙ are s stands

  pub whole_answer : (answer : Result (List (List CaseValue)) Stop) → slice_get written most_cases ≡ None →
      MatchResult answer (AreCases c written) (AreNoCases c written) → MatchResult answer (AreCasesOf c written) (AreCasesStop c written)
  whole_answer (Ok cases) few is = all_listed cases few is
  whole_answer (Err stop) few is = first_wrong stop few is

-- no more than the most cases
pub few_listed : (written : List CaseStmt) (answer : Result (List (List CaseValue)) Stop) → slice_get written most_cases ≡ None →
    IfOk answer (λ cases. length cases ≡ length written) → IfOk answer (λ cases. length cases ≤ 256)
few_listed written (Ok cases) few each = let most = none_past written most_cases few in omega (arith, each, most)
few_listed written (Err stop) few each = tt
