-- What a text stands for is made of words, numbers and names as its tokens are.
use Rattle.std.proofs.Common.{◌≡◌, ℕ, ◌<◌, ◌^◌, suc, List, [], ◌∷◌, ◌++◌, Some, refl, ap, subst, arith}
use Rattle.std.specs.Prelude.{IfSome, ⊤}
use Rattle.std.specs.List.{AllByRecursion}
use Rattle.std.proofs.lemmas.Option.{same_Some}
use Rattle.drawing_tree.specs.Expression.{Expression}
use Rattle.assertion_syntax.specs.declared.name.SignalName.{SignalName}
use Rattle.assertion_syntax.specs.Name.{IsName}
use Rattle.drawing_tree.specs.Tree as tree
use Rattle.drawing_tree.specs.WellFormed.{IsFreeWord}
use Rattle.drawing_grammar.specs.declared.terminal.Terminal.{Terminal}
use Rattle.drawing_grammar.specs.declared.terminal.Terminal.TheVariants as is
use Rattle.drawing_grammar.specs.declared.edition.Edition.TheVariants.{First, Second}
use Rattle.drawing_grammar.specs.Lexeme.{Lexeme, terminal, number_of}
use Rattle.drawing_grammar.specs.Grammar.{Part, Group, Need, mark, item, keyword, fresh, part, group, Choice, following, others, lead}
use Rattle.drawing_grammar.specs.Grammar as g
use Rattle.drawing_grammar.specs.Sketch.{Placed, PlacedList, Meaning, GroupMeaning, Values, front, behind, choice_value, group_value, signal_of, capped}
use Rattle.drawing_grammar.specs.Absent.{absent_value, absent_group}
use Rattle.drawing_grammar.specs.Written.{MayOpen, Written, nothing, marked, token, worded, begun, chosen, left_out, grouped, lacking, spelling, values}
use Rattle.drawing_grammar.proofs.ProperTrees.{IsItemOf, IsTermOf, IsConnectionOf, IsStatementOf, AreStatementsOf, IsOtherwiseOf, IsEntryOf, IsCaseOf, IsHeadedOf, AreMacrosOf, AreConstantsOf, IsSketchOf, AllPlaced}
use Rattle.drawing_grammar.proofs.Drawable.{IsDrawnNumber, HasOne, IsDrawn, IsBeside, IsDrawnRange, IsDrawnAssignment, IsDrawnFormal}

-- ---- tokens

-- A word is free, a number is one of a token, and a name is good.
pub record IsProper (G : SignalName → Type 0) (t : Lexeme) : Type 0 where
  pub word : terminal t ≡ is.Word → IsFreeWord t.text
  pub number : terminal t ≡ is.Number → IsDrawnNumber (number_of t)
  pub name : terminal t ≡ is.Name → G (signal_of t)

pub record IsTokenOf (G : SignalName → Type 0) (l : Terminal) (t : Lexeme) : Type 0 where
  pub is : terminal t ≡ l
  pub proper : IsProper G t

-- ---- what parts, groups and needs stand for

abbrev KeepsDrawn : (Expression → Expression) → Type 0
KeepsDrawn f = (e : Expression) → IsDrawn e → IsDrawn (f e)

abbrev pub IsPartOf : (SignalName → Type 0) → (p : Part) → Meaning p → Type 0
IsPartOf G g.Unary v = IsDrawn v
IsPartOf G g.Factors v = KeepsDrawn v
IsPartOf G g.Terms v = KeepsDrawn v
IsPartOf G g.Comparison v = KeepsDrawn v
IsPartOf G g.OrEqual v = ⊤
IsPartOf G g.Range v = IfSome v IsDrawnRange
IsPartOf G g.RangeEnd v = IfSome v IsDrawn
IsPartOf G g.Parameters v = AllPlaced IsDrawnAssignment v
IsPartOf G g.Assign v = IsDrawnAssignment v.item
IsPartOf G g.MoreAssigns v = AllPlaced IsDrawnAssignment v
IsPartOf G g.Formal v = IsDrawnFormal v.item
IsPartOf G g.MoreFormals v = AllPlaced IsDrawnFormal v
IsPartOf G g.FormalOutputs v = AllPlaced IsDrawnFormal v
IsPartOf G g.Delay v = tree.EachDelay IsDrawn v.delay v.fall × IsBeside v.delay v.fall
IsPartOf G g.Fall v = IfSome v (λ d. IsDrawn d.0 × IsDrawn d.1)
IsPartOf G g.Term v = IsTermOf G v.item
IsPartOf G g.Atom v = IsItemOf G v
IsPartOf G g.MoreTerms v = AllByRecursion (IsTermOf G) v
IsPartOf G g.Hold v = ⊤
IsPartOf G g.MoreConns v = AllByRecursion (IsConnectionOf G) v
IsPartOf G g.Outputs v = AllByRecursion (IsConnectionOf G) v
IsPartOf G g.Constant v = IsDrawnAssignment v.constant
IsPartOf G (g.Statement e) v = IsStatementOf G e v
IsPartOf G (g.Otherwise e) v = IsOtherwiseOf G e v
IsPartOf G (g.Macro e) v = IsHeadedOf G e v
IsPartOf G g.Index v = v < 2 ^ 32
IsPartOf G g.Entry v = IsEntryOf G v
IsPartOf G g.MoreEntries v = AllByRecursion (IsEntryOf G) v
IsPartOf G g.CaseStatement v = IsCaseOf G v
IsPartOf G g.WireBounds v = ⊤
IsPartOf G g.PrecisionSkew v = ⊤
IsPartOf G g.ClockSkew v = ⊤
IsPartOf G (g.Text e) v = IsSketchOf G e v

abbrev pub IsGroupOf : (SignalName → Type 0) → (h : Group) → GroupMeaning h → Type 0
IsGroupOf G g.Product v = IsDrawn v
IsGroupOf G g.Sum v = IsDrawn v
IsGroupOf G g.Expr v = IsDrawn v
IsGroupOf G g.Conn v = IsConnectionOf G v
IsGroupOf G g.SomeConns v = AllByRecursion (IsConnectionOf G) v
IsGroupOf G g.Conns v = AllByRecursion (IsConnectionOf G) v
IsGroupOf G g.SomeFormals v = AllPlaced IsDrawnFormal v
IsGroupOf G g.Formals v = AllPlaced IsDrawnFormal v
IsGroupOf G g.Assigns v = AllPlaced IsDrawnAssignment v
IsGroupOf G g.Entries v = HasOne v × AllByRecursion (IsEntryOf G) v
IsGroupOf G g.Constants v = AreConstantsOf v
IsGroupOf G (g.Statements e) v = AreStatementsOf G e v
IsGroupOf G (g.Macros e) v = AreMacrosOf G e v
IsGroupOf G g.Cases v = AllByRecursion (IsCaseOf G) v

abbrev pub AreOf : (SignalName → Type 0) → (needs : List Need) → Values needs → Type 0
AreOf G [] v = ⊤
AreOf G (mark l ∷ rest) v = AreOf G rest v
AreOf G (item l ∷ rest) v = IsTokenOf G l v.0 × AreOf G rest v.1
AreOf G (keyword x ∷ rest) v = AreOf G rest v
AreOf G (fresh ∷ rest) v = AreOf G rest v
AreOf G (part p n ∷ rest) v = IsPartOf G p v.0 × AreOf G rest v.1
AreOf G (group h n ∷ rest) v = IsGroupOf G h v.0 × AreOf G rest v.1

front_of : (G : SignalName → Type 0) (needs rest : List Need) (v : Values (needs ++ rest)) → AreOf G (needs ++ rest) v → AreOf G needs (front needs rest v)
front_of G [] rest v a = tt
front_of G (mark l ∷ needs) rest v a = front_of G needs rest v a
front_of G (item l ∷ needs) rest v a = (a.0, front_of G needs rest v.1 a.1)
front_of G (keyword x ∷ needs) rest v a = front_of G needs rest v a
front_of G (fresh ∷ needs) rest v a = front_of G needs rest v a
front_of G (part p n ∷ needs) rest v a = (a.0, front_of G needs rest v.1 a.1)
front_of G (group h n ∷ needs) rest v a = (a.0, front_of G needs rest v.1 a.1)

behind_of : (G : SignalName → Type 0) (needs rest : List Need) (v : Values (needs ++ rest)) → AreOf G (needs ++ rest) v → AreOf G rest (behind needs rest v)
behind_of G [] rest v a = a
behind_of G (mark l ∷ needs) rest v a = behind_of G needs rest v a
behind_of G (item l ∷ needs) rest v a = behind_of G needs rest v.1 a.1
behind_of G (keyword x ∷ needs) rest v a = behind_of G needs rest v a
behind_of G (fresh ∷ needs) rest v a = behind_of G needs rest v a
behind_of G (part p n ∷ needs) rest v a = behind_of G needs rest v.1 a.1
behind_of G (group h n ∷ needs) rest v a = behind_of G needs rest v.1 a.1

-- ---- each choice

capped_fits : (t : Lexeme) → capped t < 2 ^ 32
capped_fits t = omega arith

with_item_of : {A : Type 0} (P : A → Type 0) (x : Placed A) (xs : PlacedList A) → P x.item → AllPlaced P xs → AllPlaced P (record { items = x.item ∷ xs.items; places = x.place ∷ xs.places })
with_item_of P x xs p ps = record { items = (p, ps.items); places = ap suc ps.places }

choice_of : (G : SignalName → Type 0) → ((name : SignalName) → G name → IsName name) → {p : Part} (c : Choice p) (n : ℕ) (t : Lexeme)
    (v : Values (following c n)) → IsProper G t → MayOpen c t → AreOf G (following c n) v → IsPartOf G p (choice_value c n t v)
choice_of G k g.number n t v p e a = p.number e
choice_of G k g.parameter n t v p e a = p.word e
choice_of G k g.negated n t v p e a = a.0
choice_of G k g.bracketed n t v p e a = a.0
choice_of G k g.times n t v p e a = λ left h. a.1.0 _ (h, a.0)
choice_of G k g.divided n t v p e a = λ left h. a.1.0 _ (h, a.0)
choice_of G k g.plus n t v p e a = λ left h. a.1.0 _ (h, a.0)
choice_of G k g.less n t v p e a = λ left h. a.1.0 _ (h, a.0)
choice_of G k g.equal n t v p e a = λ left h. (h, a.0)
choice_of G k g.unequal n t v p e a = λ left h. (h, a.0)
choice_of G k g.below n t v p e a = λ left h. (h, a.1.0)
choice_of G k g.above n t v p e a = λ left h. (h, a.1.0)
choice_of G k g.or_equal n t v p e a = tt
choice_of G k g.range n t v p e a = record { first = a.0; last = a.1.0 }
choice_of G k g.last n t v p e a = a.0
choice_of G k g.parameters n t v p e a = a.0
choice_of G k g.assign n t v p e a = record { name = p.word e; value = a.0 }
choice_of G k g.next_assign n t v p e a = with_item_of IsDrawnAssignment v.0 v.1.0 a.0 a.1.0
choice_of G k g.formal n t v p e a = record { base = (k (signal_of t) (p.name e)).base; range = a.0 }
choice_of G k g.next_formal n t v p e a = with_item_of IsDrawnFormal v.0 v.1.0 a.0 a.1.0
choice_of G k g.formal_outputs n t v p e a = a.0
choice_of G k g.delay n t v p e a = (((a.0, a.1.0), a.1.1.0), tt)
choice_of G k g.fall n t v p e a = (a.0, a.1.0)
choice_of G k g.complement n t v p e a = a.0
choice_of G k g.zero_term n t v p e a = tt
choice_of G k g.one_term n t v p e a = tt
choice_of G k g.named_term n t v p e a = (p.name e, a.0)
choice_of G k g.zero_atom n t v p e a = tt
choice_of G k g.one_atom n t v p e a = tt
choice_of G k g.named_atom n t v p e a = (p.name e, a.0)
choice_of G k g.next_term n t v p e a = (a.0, a.1.0)
choice_of G k g.hold n t v p e a = tt
choice_of G k g.next_conn n t v p e a = (a.0, a.1.0)
choice_of G k g.outputs n t v p e a = a.0
choice_of G k g.constant n t v p e a = record { name = a.0.proper.word a.0.is; value = a.1.0 }
choice_of G k g.use_ n t v p e a = record { label = p.word e; kind = a.0.proper.word a.0.is; delays = a.1.0.0; beside = a.1.0.1; params = a.1.1.0.items; ins = a.1.1.1.0; outs = a.1.1.1.1.0 }
choice_of G k g.wire n t v p e a = record { name = a.0.proper.name a.0.is; range = a.1.0; min = a.1.1.0; max = a.1.1.1.0 }
choice_of G k g.if_ n t v p e a = (a.0, a.1.0, a.1.1.0)
choice_of G k g.for_ n t v p e a = (refl, a.0.proper.word a.0.is, a.1.0, a.1.1.0, a.1.1.1.0)
choice_of G k g.else_ n t v p e a = a.0
choice_of G k g.macro n t v p e a =
    record {
      macro = record {
        name = a.0.proper.word a.0.is;
        params = a.1.0.items;
        ins = a.1.1.0.items;
        outs =
            a.1.1.1.0.items;
        body = a.1.1.1.1.0;
      };
      head = record { parameters = a.1.0.places; ins = a.1.1.0.places; outs = a.1.1.1.0.places };
    }
choice_of G k g.index n t v p e a = capped_fits v.0
choice_of G k g.entry n t v p e a = record { name = p.name e; bit = a.0; value = capped_fits v.1.0 }
choice_of G k g.next_entry n t v p e a = (a.0, a.1.0)
choice_of G k g.case_ n t v p e a = record { some = a.0.0; entries = a.0.1 }
choice_of G k g.wire_bounds n t v p e a = tt
choice_of G k g.precision_skew n t v p e a = tt
choice_of G k g.clock_skew n t v p e a = tt
choice_of G k (g.text {v = First}) n t v p e a =
    let b = a.1.1.1.1.1.1.1 in
    record {
      consts = record { constants = tt; places = refl; name_places = refl };
      no_consts = λ i. refl;
      macros = b.0;
      name = b.1.0.proper.word b.1.0.is;
      body = b.1.1.0;
      cases = b.1.1.1.0;
    }
choice_of G k (g.text {v = Second}) n t v p e a =
    let b = a.1.1.1.1.1.1.1 in
    record {
      consts = b.0;
      no_consts = λ i. absurd cc;
      macros = b.1.0;
      name = b.1.1.0.proper.word b.1.1.0.is;
      body = b.1.1.1.0;
      cases = b.1.1.1.1.0;
    }

-- ---- each group

group_of : (G : SignalName → Type 0) (h : Group) (n : ℕ) (first : Meaning (lead h)) (v : Values (others h n)) →
    IsPartOf G (lead h) first → AreOf G (others h n) v → IsGroupOf G h (group_value h n first v)
group_of G g.Product n first v p a = a.0 _ p
group_of G g.Sum n first v p a = a.1.0 _ (a.0 _ p)
group_of G g.Expr n first v p a = a.1.1.0 _ (a.1.0 _ (a.0 _ p))
group_of G g.Conn n first v p a = record { some = tt; terms = (p, a.0) }
group_of G g.SomeConns n first v p a = (record { some = tt; terms = (p, a.0) }, a.1.1.0)
group_of G g.Conns n first v p a = (record { some = tt; terms = (p, a.0) }, a.1.1.0)
group_of G g.SomeFormals n first v p a = with_item_of IsDrawnFormal first v.0 p a.0
group_of G g.Formals n first v p a = with_item_of IsDrawnFormal first v.0 p a.0
group_of G g.Assigns n first v p a = with_item_of IsDrawnAssignment first v.0 p a.0
group_of G g.Entries n first v p a = (tt, (p, a.0))
group_of G g.Constants n first v p a = record {
  constants = (p, a.0.constants);
  places = ap suc a.0.places;
  name_places = ap suc a.0.name_places;
}
group_of G (g.Statements e) n first v p a = (p, a.0)
group_of G (g.Macros e) n first v p a = record { macros = (p.macro, a.0.macros); heads = (p.head, a.0.heads) }
group_of G g.Cases n first v p a = (p, a.0)

-- ---- what is left out

absent_of : (G : SignalName → Type 0) (p : Part) (v : Meaning p) → absent_value p ≡ Some v → IsPartOf G p v
absent_of G g.Unary v e = absurd cc
absent_of G g.Factors v e = subst (IsPartOf G g.Factors) (same_Some _ v e) (λ left h. h)
absent_of G g.Terms v e = subst (IsPartOf G g.Terms) (same_Some _ v e) (λ left h. h)
absent_of G g.Comparison v e = subst (IsPartOf G g.Comparison) (same_Some _ v e) (λ left h. h)
absent_of G g.OrEqual v e = tt
absent_of G g.Range v e = subst (IsPartOf G g.Range) (same_Some _ v e) tt
absent_of G g.RangeEnd v e = subst (IsPartOf G g.RangeEnd) (same_Some _ v e) tt
absent_of G g.Parameters v e = subst (IsPartOf G g.Parameters) (same_Some _ v e) (record { items = tt; places = refl })
absent_of G g.Assign v e = absurd cc
absent_of G g.MoreAssigns v e = subst (IsPartOf G g.MoreAssigns) (same_Some _ v e) (record { items = tt; places = refl })
absent_of G g.Formal v e = absurd cc
absent_of G g.MoreFormals v e = subst (IsPartOf G g.MoreFormals) (same_Some _ v e) (record { items = tt; places = refl })
absent_of G g.FormalOutputs v e = subst (IsPartOf G g.FormalOutputs) (same_Some _ v e) (record { items = tt; places = refl })
absent_of G g.Delay v e = subst (IsPartOf G g.Delay) (same_Some _ v e) (tt, refl)
absent_of G g.Fall v e = subst (IsPartOf G g.Fall) (same_Some _ v e) tt
absent_of G g.Term v e = absurd cc
absent_of G g.Atom v e = absurd cc
absent_of G g.MoreTerms v e = subst (IsPartOf G g.MoreTerms) (same_Some _ v e) tt
absent_of G g.Hold v e = tt
absent_of G g.MoreConns v e = subst (IsPartOf G g.MoreConns) (same_Some _ v e) tt
absent_of G g.Outputs v e = subst (IsPartOf G g.Outputs) (same_Some _ v e) tt
absent_of G g.Constant v e = absurd cc
absent_of G (g.Statement i) v e = absurd cc
absent_of G (g.Otherwise i) v e = subst (IsPartOf G (g.Otherwise i)) (same_Some _ v e) tt
absent_of G (g.Macro i) v e = absurd cc
absent_of G g.Index v e = subst (IsPartOf G g.Index) (same_Some _ v e) (omega arith)
absent_of G g.Entry v e = absurd cc
absent_of G g.MoreEntries v e = subst (IsPartOf G g.MoreEntries) (same_Some _ v e) tt
absent_of G g.CaseStatement v e = absurd cc
absent_of G g.WireBounds v e = tt
absent_of G g.PrecisionSkew v e = tt
absent_of G g.ClockSkew v e = tt
absent_of G (g.Text i) v e = absurd cc

lacking_of : (G : SignalName → Type 0) (h : Group) (v : GroupMeaning h) → absent_group h ≡ Some v → IsGroupOf G h v
lacking_of G g.Product v e = absurd cc
lacking_of G g.Sum v e = absurd cc
lacking_of G g.Expr v e = absurd cc
lacking_of G g.Conn v e = absurd cc
lacking_of G g.SomeConns v e = absurd cc
lacking_of G g.Conns v e = subst (IsGroupOf G g.Conns) (same_Some _ v e) tt
lacking_of G g.SomeFormals v e = absurd cc
lacking_of G g.Formals v e = subst (IsGroupOf G g.Formals) (same_Some _ v e) (record { items = tt; places = refl })
lacking_of G g.Assigns v e = absurd cc
lacking_of G g.Entries v e = absurd cc
lacking_of G g.Constants v e = subst (IsGroupOf G g.Constants) (same_Some _ v e) (record { constants = tt; places = refl; name_places = refl })
lacking_of G (g.Statements i) v e = subst (IsGroupOf G (g.Statements i)) (same_Some _ v e) tt
lacking_of G (g.Macros i) v e = subst (IsGroupOf G (g.Macros i)) (same_Some _ v e) (record { macros = tt; heads = tt })
lacking_of G g.Cases v e = subst (IsGroupOf G g.Cases) (same_Some _ v e) tt

-- ---- all of it

abbrev pub AreProper : (SignalName → Type 0) → List Lexeme → Type 0
AreProper G [] = ⊤
AreProper G (t ∷ ts) = IsProper G t × AreProper G ts

pub values_of : (G : SignalName → Type 0) → ((name : SignalName) → G name → IsName name) → {needs : List Need} (w : Written needs) → AreProper G (spelling w) → AreOf G needs (values w)
values_of G k nothing ps = tt
values_of G k (marked t e w) ps = values_of G k w ps.1
values_of G k (token t e w) ps = (record { is = e; proper = ps.0 }, values_of G k w ps.1)
values_of G k (worded t e f w) ps = values_of G k w ps.1
values_of G k (begun w) ps = values_of G k w ps
values_of G k (chosen {n = n} {rest = rest} c t e w) ps =
    let a = values_of G k w ps.1 in
    (choice_of G k c n t (front (following c n) rest (values w)) ps.0 e (front_of G (following c n) rest (values w) a), behind_of G (following c n) rest (values w) a)
values_of G k (left_out {p = p} v e w) ps = (absent_of G p v e, values_of G k w ps)
values_of G k (grouped {g = h} {n = n} {rest = rest} w) ps =
    let a = values_of G k w ps in
    (group_of G h n (values w).0 (front (others h n) rest (values w).1) a.0 (front_of G (others h n) rest (values w).1 a.1), behind_of G (others h n) rest (values w).1 a.1)
values_of G k (lacking {g = h} v e w) ps = (lacking_of G h v e, values_of G k w ps)
