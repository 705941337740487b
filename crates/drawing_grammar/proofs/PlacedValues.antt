-- Each place of what a text stands for is that of one of its tokens.
use Rattle.std.proofs.Common.{◌≡◌, ℕ, List, [], ◌∷◌, ◌++◌, Some, subst}
use Rattle.std.specs.Prelude.{IfSome, ⊤}
use Rattle.std.specs.List.{AllByRecursion}
use Rattle.std.proofs.lemmas.Option.{same_Some}
use Rattle.scald_base.specs.declared.refusal.Place.{Place}
use Rattle.drawing_tree.specs.EachPlace.{IsConnectionAt, IsStatementAt, AreStatementsAt, IsOtherwiseAt, IsMacroAt, IsEntryAt, IsCaseAt}
use Rattle.drawing_grammar.specs.declared.head.Head.{Head}
use Rattle.drawing_grammar.specs.declared.header.NumberPair.{NumberPair}
use Rattle.drawing_grammar.specs.declared.header.WrittenHeader.{WrittenHeader}
use Rattle.drawing_grammar.specs.declared.edition.Edition.TheVariants.{First, Second}
use Rattle.drawing_grammar.specs.Lexeme.{Lexeme}
use Rattle.drawing_grammar.specs.Grammar.{Part, Group, Need, mark, item, keyword, fresh, part, group, Choice, following, others, lead}
use Rattle.drawing_grammar.specs.Grammar as g
use Rattle.drawing_grammar.specs.Sketch.{PlacedConstants, HeadedMacro, HeadedMacros, Sketch, Meaning, GroupMeaning, Values, front, behind, choice_value, group_value}
use Rattle.drawing_grammar.specs.Absent.{absent_value, absent_group}
use Rattle.drawing_grammar.specs.Written.{Written, nothing, marked, token, worded, begun, chosen, left_out, grouped, lacking, spelling, values}

-- ---- what has places besides the tree

abbrev pub IsPairAt : (Place → Type 0) → NumberPair → Type 0
IsPairAt P pair = P pair.place

pub record IsHeaderAt (P : Place → Type 0) (w : WrittenHeader) : Type 0 where
  pub place : P w.place
  pub clock : IsPairAt P w.clock
  pub wire : IfSome w.wire (IsPairAt P)
  pub pskew : IfSome w.pskew (IsPairAt P)
  pub cskew : IfSome w.cskew (IsPairAt P)

pub record IsHeadAt (P : Place → Type 0) (h : Head) : Type 0 where
  pub parameters : AllByRecursion P h.parameters
  pub ins : AllByRecursion P h.ins
  pub outs : AllByRecursion P h.outs

pub record IsHeadedAt (P : Place → Type 0) (m : HeadedMacro) : Type 0 where
  pub macro : IsMacroAt P m.macro
  pub head : IsHeadAt P m.head

pub record AreMacrosAt (P : Place → Type 0) (ms : HeadedMacros) : Type 0 where
  pub macros : AllByRecursion (IsMacroAt P) ms.macros
  pub heads : AllByRecursion (IsHeadAt P) ms.heads

pub record AreConstantsAt (P : Place → Type 0) (cs : PlacedConstants) : Type 0 where
  pub places : AllByRecursion P cs.places
  pub name_places : AllByRecursion P cs.name_places

pub record IsSketchAt (P : Place → Type 0) (s : Sketch) : Type 0 where
  pub header : IsHeaderAt P s.header
  pub consts : AreConstantsAt P s.consts
  pub macros : AreMacrosAt P s.macros
  pub body : AreStatementsAt P s.body
  pub cases : AllByRecursion (IsCaseAt P) s.cases

-- ---- what parts, groups and needs stand for

abbrev IsPartAt : (Place → Type 0) → (p : Part) → Meaning p → Type 0
IsPartAt P g.Parameters v = AllByRecursion P v.places
IsPartAt P g.Assign v = P v.place
IsPartAt P g.MoreAssigns v = AllByRecursion P v.places
IsPartAt P g.Formal v = P v.place
IsPartAt P g.MoreFormals v = AllByRecursion P v.places
IsPartAt P g.FormalOutputs v = AllByRecursion P v.places
IsPartAt P g.Term v = P v.place
IsPartAt P g.MoreConns v = AllByRecursion (IsConnectionAt P) v
IsPartAt P g.Outputs v = AllByRecursion (IsConnectionAt P) v
IsPartAt P g.Constant v = P v.place × P v.name_place
IsPartAt P (g.Statement e) v = IsStatementAt P v
IsPartAt P (g.Otherwise e) v = IsOtherwiseAt P v
IsPartAt P (g.Macro e) v = IsHeadedAt P v
IsPartAt P g.Entry v = IsEntryAt P v
IsPartAt P g.MoreEntries v = AllByRecursion (IsEntryAt P) v
IsPartAt P g.CaseStatement v = IsCaseAt P v
IsPartAt P g.WireBounds v = IfSome v (IsPairAt P)
IsPartAt P g.PrecisionSkew v = IfSome v (IsPairAt P)
IsPartAt P g.ClockSkew v = IfSome v (IsPairAt P)
IsPartAt P (g.Text e) v = IsSketchAt P v
IsPartAt P _ v = ⊤

abbrev IsGroupAt : (Place → Type 0) → (h : Group) → GroupMeaning h → Type 0
IsGroupAt P g.Conn v = IsConnectionAt P v
IsGroupAt P g.SomeConns v = AllByRecursion (IsConnectionAt P) v
IsGroupAt P g.Conns v = AllByRecursion (IsConnectionAt P) v
IsGroupAt P g.SomeFormals v = AllByRecursion P v.places
IsGroupAt P g.Formals v = AllByRecursion P v.places
IsGroupAt P g.Assigns v = AllByRecursion P v.places
IsGroupAt P g.Entries v = AllByRecursion (IsEntryAt P) v
IsGroupAt P g.Constants v = AreConstantsAt P v
IsGroupAt P (g.Statements e) v = AreStatementsAt P v
IsGroupAt P (g.Macros e) v = AreMacrosAt P v
IsGroupAt P g.Cases v = AllByRecursion (IsCaseAt P) v
IsGroupAt P _ v = ⊤

abbrev AreAt : (Place → Type 0) → (needs : List Need) → Values needs → Type 0
AreAt P [] v = ⊤
AreAt P (mark l ∷ rest) v = AreAt P rest v
AreAt P (item l ∷ rest) v = P v.0.place × AreAt P rest v.1
AreAt P (keyword x ∷ rest) v = AreAt P rest v
AreAt P (fresh ∷ rest) v = AreAt P rest v
AreAt P (part p n ∷ rest) v = IsPartAt P p v.0 × AreAt P rest v.1
AreAt P (group h n ∷ rest) v = IsGroupAt P h v.0 × AreAt P rest v.1

front_at : (P : Place → Type 0) (needs rest : List Need) (v : Values (needs ++ rest)) → AreAt P (needs ++ rest) v → AreAt P needs (front needs rest v)
front_at P [] rest v a = tt
front_at P (mark l ∷ needs) rest v a = front_at P needs rest v a
front_at P (item l ∷ needs) rest v a = (a.0, front_at P needs rest v.1 a.1)
front_at P (keyword x ∷ needs) rest v a = front_at P needs rest v a
front_at P (fresh ∷ needs) rest v a = front_at P needs rest v a
front_at P (part p n ∷ needs) rest v a = (a.0, front_at P needs rest v.1 a.1)
front_at P (group h n ∷ needs) rest v a = (a.0, front_at P needs rest v.1 a.1)

behind_at : (P : Place → Type 0) (needs rest : List Need) (v : Values (needs ++ rest)) → AreAt P (needs ++ rest) v → AreAt P rest (behind needs rest v)
behind_at P [] rest v a = a
behind_at P (mark l ∷ needs) rest v a = behind_at P needs rest v a
behind_at P (item l ∷ needs) rest v a = behind_at P needs rest v.1 a.1
behind_at P (keyword x ∷ needs) rest v a = behind_at P needs rest v a
behind_at P (fresh ∷ needs) rest v a = behind_at P needs rest v a
behind_at P (part p n ∷ needs) rest v a = behind_at P needs rest v.1 a.1
behind_at P (group h n ∷ needs) rest v a = behind_at P needs rest v.1 a.1

-- ---- each choice

choice_at : (P : Place → Type 0) {p : Part} (c : Choice p) (n : ℕ) (t : Lexeme) (v : Values (following c n)) → P t.place → AreAt P (following c n) v → IsPartAt P p (choice_value c n t v)
choice_at P g.parameters n t v p a = a.0
choice_at P g.assign n t v p a = p
choice_at P g.next_assign n t v p a = (a.0, a.1.0)
choice_at P g.formal n t v p a = p
choice_at P g.next_formal n t v p a = (a.0, a.1.0)
choice_at P g.formal_outputs n t v p a = a.0
choice_at P g.complement n t v p a = p
choice_at P g.zero_term n t v p a = p
choice_at P g.one_term n t v p a = p
choice_at P g.named_term n t v p a = p
choice_at P g.next_conn n t v p a = (a.0, a.1.0)
choice_at P g.outputs n t v p a = a.0
choice_at P g.constant n t v p a = (p, a.0)
choice_at P g.use_ n t v p a = record { place = p; ins = a.1.1.1.0; outs = a.1.1.1.1.0 }
choice_at P g.wire n t v p a = p
choice_at P g.if_ n t v p a = (p, a.1.0, a.1.1.0)
choice_at P g.for_ n t v p a = (p, a.1.1.1.0)
choice_at P g.else_ n t v p a = a.0
choice_at P g.macro n t v p a = record { macro = record { place = a.0; body = a.1.1.1.1.0 }; head = record { parameters = a.1.0; ins = a.1.1.0; outs = a.1.1.1.0 } }
choice_at P g.entry n t v p a = p
choice_at P g.next_entry n t v p a = (a.0, a.1.0)
choice_at P g.case_ n t v p a = record { place = p; entries = a.0 }
choice_at P g.wire_bounds n t v p a = p
choice_at P g.precision_skew n t v p a = p
choice_at P g.clock_skew n t v p a = p
choice_at P (g.text {v = First}) n t v p a =
    let b = a.1.1.1.1.1.1.1 in
    record {
      header = record { place = p; clock = a.1.0; wire = a.1.1.1.1.0; pskew = a.1.1.1.1.1.0; cskew = a.1.1.1.1.1.1.0 };
      consts = record { places = tt; name_places = tt };
      macros = b.0;
      body = b.1.1.0;
      cases = b.1.1.1.0;
    }
choice_at P (g.text {v = Second}) n t v p a =
    let b = a.1.1.1.1.1.1.1 in
    record {
      header = record { place = p; clock = a.1.0; wire = a.1.1.1.1.0; pskew = a.1.1.1.1.1.0; cskew = a.1.1.1.1.1.1.0 };
      consts = b.0;
      macros = b.1.0;
      body = b.1.1.1.0;
      cases = b.1.1.1.1.0;
    }
choice_at P _ n t v p a = tt

-- ---- each group

group_at : (P : Place → Type 0) (h : Group) (n : ℕ) (first : Meaning (lead h)) (v : Values (others h n)) → IsPartAt P (lead h) first → AreAt P (others h n) v → IsGroupAt P h (group_value h n first v)
group_at P g.Conn n first v p a = p
group_at P g.SomeConns n first v p a = (p, a.1.1.0)
group_at P g.Conns n first v p a = (p, a.1.1.0)
group_at P g.SomeFormals n first v p a = (p, a.0)
group_at P g.Formals n first v p a = (p, a.0)
group_at P g.Assigns n first v p a = (p, a.0)
group_at P g.Entries n first v p a = (p, a.0)
group_at P g.Constants n first v p a = record { places = (p.0, a.0.places); name_places = (p.1, a.0.name_places) }
group_at P (g.Statements e) n first v p a = (p, a.0)
group_at P (g.Macros e) n first v p a = record { macros = (p.macro, a.0.macros); heads = (p.head, a.0.heads) }
group_at P g.Cases n first v p a = (p, a.0)
group_at P _ n first v p a = tt

-- ---- what is left out

absent_at : (P : Place → Type 0) (p : Part) (v : Meaning p) → absent_value p ≡ Some v → IsPartAt P p v
absent_at P g.Parameters v e = subst (IsPartAt P g.Parameters) (same_Some _ v e) tt
absent_at P g.Assign v e = absurd cc
absent_at P g.MoreAssigns v e = subst (IsPartAt P g.MoreAssigns) (same_Some _ v e) tt
absent_at P g.Formal v e = absurd cc
absent_at P g.MoreFormals v e = subst (IsPartAt P g.MoreFormals) (same_Some _ v e) tt
absent_at P g.FormalOutputs v e = subst (IsPartAt P g.FormalOutputs) (same_Some _ v e) tt
absent_at P g.Term v e = absurd cc
absent_at P g.MoreConns v e = subst (IsPartAt P g.MoreConns) (same_Some _ v e) tt
absent_at P g.Outputs v e = subst (IsPartAt P g.Outputs) (same_Some _ v e) tt
absent_at P g.Constant v e = absurd cc
absent_at P (g.Statement i) v e = absurd cc
absent_at P (g.Otherwise i) v e = subst (IsPartAt P (g.Otherwise i)) (same_Some _ v e) tt
absent_at P (g.Macro i) v e = absurd cc
absent_at P g.Entry v e = absurd cc
absent_at P g.MoreEntries v e = subst (IsPartAt P g.MoreEntries) (same_Some _ v e) tt
absent_at P g.CaseStatement v e = absurd cc
absent_at P g.WireBounds v e = subst (IsPartAt P g.WireBounds) (same_Some _ v e) tt
absent_at P g.PrecisionSkew v e = subst (IsPartAt P g.PrecisionSkew) (same_Some _ v e) tt
absent_at P g.ClockSkew v e = subst (IsPartAt P g.ClockSkew) (same_Some _ v e) tt
absent_at P (g.Text i) v e = absurd cc
absent_at P _ v e = tt

lacking_at : (P : Place → Type 0) (h : Group) (v : GroupMeaning h) → absent_group h ≡ Some v → IsGroupAt P h v
lacking_at P g.Conn v e = absurd cc
lacking_at P g.SomeConns v e = absurd cc
lacking_at P g.Conns v e = subst (IsGroupAt P g.Conns) (same_Some _ v e) tt
lacking_at P g.SomeFormals v e = absurd cc
lacking_at P g.Formals v e = subst (IsGroupAt P g.Formals) (same_Some _ v e) tt
lacking_at P g.Assigns v e = absurd cc
lacking_at P g.Entries v e = absurd cc
lacking_at P g.Constants v e = subst (IsGroupAt P g.Constants) (same_Some _ v e) (record { places = tt; name_places = tt })
lacking_at P (g.Statements i) v e = subst (IsGroupAt P (g.Statements i)) (same_Some _ v e) tt
lacking_at P (g.Macros i) v e = subst (IsGroupAt P (g.Macros i)) (same_Some _ v e) (record { macros = tt; heads = tt })
lacking_at P g.Cases v e = subst (IsGroupAt P g.Cases) (same_Some _ v e) tt
lacking_at P _ v e = tt

-- ---- all of it

pub values_at : (P : Place → Type 0) {needs : List Need} (w : Written needs) → AllByRecursion (λ (t : Lexeme). P t.place) (spelling w) → AreAt P needs (values w)
values_at P nothing ps = tt
values_at P (marked t e w) ps = values_at P w ps.1
values_at P (token t e w) ps = (ps.0, values_at P w ps.1)
values_at P (worded t e f w) ps = values_at P w ps.1
values_at P (begun w) ps = values_at P w ps
values_at P (chosen {n = n} {rest = rest} c t e w) ps =
    let a = values_at P w ps.1 in
    (choice_at P c n t (front (following c n) rest (values w)) ps.0 (front_at P (following c n) rest (values w) a), behind_at P (following c n) rest (values w) a)
values_at P (left_out {p = p} v e w) ps = (absent_at P p v e, values_at P w ps)
values_at P (grouped {g = h} {n = n} {rest = rest} w) ps =
    let a = values_at P w ps in
    (group_at P h n (values w).0 (front (others h n) rest (values w).1) a.0 (front_at P (others h n) rest (values w).1 a.1), behind_at P (others h n) rest (values w).1 a.1)
values_at P (lacking {g = h} v e w) ps = (lacking_at P h v e, values_at P w ps)
