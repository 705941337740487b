-- Drawings with the same cases, places aside, have the same cases in circuits that are alike.
use Rattle.std.proofs.Common.{◌≡◌, ◌∙◌, Bool, true, false, ◌||◌, if◌then◌else◌, List, [], ◌∷◌, ◌++◌, map, Option, Some, None, Result, Ok, Err, refl, ap, sym, subst}
use Rattle.std.specs.Prelude.{slice_get, is_some}
use Rattle.scald_base.specs.Time.{Bounds}
use Rattle.std.specs.List.{list_any}
use Rattle.std.specs.Option.{option_map}
use Rattle.std.proofs.lemmas.Option.{slice_get-map}
use Rattle.scald_base.specs.declared.refusal.Refusal.{Refusal}
use Rattle.scald_base.specs.declared.refusal.RefusalKind.TheVariants.{CaseNet}
use Rattle.flat_circuit.specs.Name.{Name}
use Rattle.flat_circuit.specs.Builder.{has_name}
use Rattle.drawing_tree.specs.declared.drawing.CaseEntry.{CaseEntry}
use Rattle.drawing_tree.specs.declared.drawing.CaseStmt.{CaseStmt}
use Rattle.drawing_tree.specs.Tree.{Drawing}
use Rattle.drawing_tree.specs.Places.{unplaced_entry, unplaced_case}
use Rattle.macro_expander.specs.Named.{NamedInstance, State}
use Rattle.macro_expander.specs.Cases.{CaseBit, entry_name, is_on, is_driven, may_set, entry_bit, case_bits, with_case, cases_behind, most_cases, unless_many, cases_of}
use Rattle.format_upgrade.specs.SameCircuit.{unplaced_instance, SameCases}
use Rattle.format_upgrade.proofs.Sights.{has_wire}
use Rattle.format_upgrade.proofs.Exchange.{AreAlike}

-- ---- what a case asks of the circuit

pub has_same : (s t : State) → AreAlike s t → (name : Name) → has_name t.names name ≡ has_name s.names name
has_same s t alike name =
    has_wire t.names t.wires name alike.second.bounded
    ∙ ap (λ (o : Option Bounds). is_some o) (ap (λ v. v.wires name) alike.same)
    ∙ sym (has_wire s.names s.wires name alike.first.bounded)

any_map : {X Y : Type 0} (p : Y → Bool) (f : X → Y) (xs : List X) → list_any p (map f xs) ≡ list_any (λ x. p (f x)) xs
any_map p f [] = refl
any_map p f (x ∷ xs) = ap (λ b. p (f x) || b) (any_map p f xs)

driven_same : (s t : State) → AreAlike s t → (name : Name) → is_driven t name ≡ is_driven s name
driven_same s t alike name =
    let p : NamedInstance → Bool = λ j. is_on name j.out in
    sym (any_map p unplaced_instance t.instances)
    ∙ ap (λ js. list_any p js) (ap (λ v. v.instances) alike.same)
    ∙ any_map p unplaced_instance s.instances

may_same : (s t : State) → AreAlike s t → (before : List CaseBit) (e : CaseEntry) → may_set t before e ≡ may_set s before e
may_same s t alike before e =
    rw (has_same s t alike (entry_name e), driven_same s t alike (entry_name e), ap (λ v. v.specs (entry_name e).text) alike.same) refl

-- ---- cases

-- the same value, or refused for the same reason
abbrev AreSame : {A : Type 0} → Result A Refusal → Result A Refusal → Type 0
AreSame (Ok a) (Ok b) = b ≡ a
AreSame (Err r) (Err q) = q.kind ≡ r.kind
AreSame _ _ = ⊥

if_same : {A : Type 0} (b c : Bool) (x y z w : Result A Refusal) → c ≡ b → AreSame x z → AreSame y w → AreSame (if b then x else y) (if c then z else w)
if_same true c x y z w e h k = rw e h
if_same false c x y z w e h k = rw e k

module _ (s t : State) (alike : AreAlike s t) where
  bits_same : (before : List CaseBit) (es fs : List CaseEntry) → map unplaced_entry fs ≡ map unplaced_entry es → AreSame (case_bits s before es) (case_bits t before fs)
  bits_same before [] [] h = refl
  bits_same before [] (f ∷ fs) h = absurd (cc)
  bits_same before (e ∷ es) [] h = absurd (cc)
  bits_same before (e ∷ es) (f ∷ fs) h =
      let one : unplaced_entry f ≡ unplaced_entry e = cc in
      let rest : map unplaced_entry fs ≡ map unplaced_entry es = cc in
      let bit : entry_bit f ≡ entry_bit e = ap entry_bit one in
      if_same (may_set s before e) (may_set t before f) (case_bits s (before ++ entry_bit e ∷ []) es) (Err (record { kind = CaseNet; place = e.place }))
      (case_bits t (before ++ entry_bit f ∷ []) fs) (Err (record { kind = CaseNet; place = f.place }))
      (ap (may_set t before) one ∙ may_same s t alike before e)
      (subst (λ x. AreSame (case_bits s (before ++ entry_bit e ∷ []) es) (case_bits t (before ++ x ∷ []) fs)) (sym bit)
      (bits_same (before ++ entry_bit e ∷ []) es fs rest))
      refl

  with_same : (o p : Result (List CaseBit) Refusal) (f g : List CaseBit → Result (List (List CaseBit)) Refusal) → AreSame o p →
      ((bits : List CaseBit) → AreSame (f bits) (g bits)) → AreSame (with_case o f) (with_case p g)
  with_same (Ok a) (Ok b) f g h k = subst (λ x. AreSame (f a) (g x)) (sym h) (k a)
  with_same (Ok a) (Err q) f g h k = absurd h
  with_same (Err r) (Ok b) f g h k = absurd h
  with_same (Err r) (Err q) f g h k = h

  behind_same : (before : List (List CaseBit)) (cs ds : List CaseStmt) → map unplaced_case ds ≡ map unplaced_case cs →
      AreSame (cases_behind s before cs) (cases_behind t before ds)
  behind_same before [] [] h = refl
  behind_same before [] (d ∷ ds) h = absurd (cc)
  behind_same before (c ∷ cs) [] h = absurd (cc)
  behind_same before (c ∷ cs) (d ∷ ds) h =
      let one : unplaced_case d ≡ unplaced_case c = cc in
      let rest : map unplaced_case ds ≡ map unplaced_case cs = cc in
      with_same (case_bits s [] c.entries) (case_bits t [] d.entries) _ _
      (bits_same [] c.entries d.entries (ap (λ (x : CaseStmt). x.entries) one))
      (λ bits. behind_same (before ++ bits ∷ []) cs ds rest)

  many_same : (c d : Option CaseStmt) (x y : Result (List (List CaseBit)) Refusal) → option_map unplaced_case d ≡ option_map unplaced_case c → AreSame x y →
      AreSame (unless_many c x) (unless_many d y)
  many_same None None x y e h = h
  many_same None (Some d) x y e h = absurd (cc)
  many_same (Some c) None x y e h = absurd (cc)
  many_same (Some c) (Some d) x y e h = refl

  all_same : (d e : Drawing) → map unplaced_case e.cases ≡ map unplaced_case d.cases → AreSame (cases_of s d) (cases_of t e)
  unfolding cases_of
  all_same d e h =
      many_same (slice_get d.cases most_cases) (slice_get e.cases most_cases) (cases_behind s [] d.cases) (cases_behind t [] e.cases)
      (sym (slice_get-map unplaced_case e.cases most_cases) ∙ ap (λ cs. slice_get cs most_cases) h ∙ slice_get-map unplaced_case d.cases most_cases)
      (behind_same [] d.cases e.cases h)

  -- The cases of both are the same.
  pub same_cases : (d e : Drawing) → map unplaced_case e.cases ≡ map unplaced_case d.cases → SameCases (cases_of s d) (cases_of t e)
  same_cases d e h = by (cases_of s d) (cases_of t e) (all_same d e h)
    where
      by : (x y : Result (List (List CaseBit)) Refusal) → AreSame x y → SameCases x y
      by (Ok a) (Ok b) h = h
      by (Ok a) (Err q) h = absurd h
      by (Err r) (Ok b) h = absurd h
      by (Err r) (Err q) h = h
