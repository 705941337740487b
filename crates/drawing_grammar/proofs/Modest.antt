-- What a text within the limits stands for: how many operators its expressions have, and how many IFs and FORs hold one another.
use Rattle.std.proofs.Common.{◌≡◌, ℕ, suc, ◌+◌, ◌≤◌, List, [], ◌∷◌, ◌++◌, Some, refl, sym, subst, arith}
use Rattle.std.specs.Prelude.{IfSome, ⊤}
use Rattle.std.specs.List.{AllByRecursion}
use Rattle.std.proofs.lemmas.Option.{same_Some}
use Rattle.drawing_tree.specs.Expression.{Expression}
use Rattle.drawing_tree.specs.Expression as e
use Rattle.drawing_tree.specs.declared.expr.Op.{Op}
use Rattle.drawing_tree.specs.declared.expr.Op.TheVariants as op
use Rattle.drawing_tree.specs.Tree as tree
use Rattle.drawing_grammar.specs.Nesting.{operators}
use Rattle.drawing_grammar.specs.declared.edition.Edition.{Edition}
use Rattle.drawing_grammar.specs.declared.edition.Edition.TheVariants.{First, Second}
use Rattle.drawing_grammar.specs.Lexeme.{Lexeme}
use Rattle.drawing_grammar.specs.Grammar.{Part, Group, Need, mark, item, keyword, fresh, part, group, Choice, following, others, lead, cost}
use Rattle.drawing_grammar.specs.Grammar as g
use Rattle.drawing_grammar.specs.Sketch.{Sketch, Meaning, GroupMeaning, Values, front, behind, binary, less_or, greater_or, choice_value, group_value}
use Rattle.drawing_grammar.specs.Absent.{absent_value, absent_group}
use Rattle.drawing_grammar.specs.Written.{Written, nothing, marked, token, worded, begun, chosen, left_out, grouped, lacking, spelling, weights, weight, counted, values, limit, Within}

-- ---- trees within the limits

abbrev pub IsFew : Expression → Type 0
IsFew x = operators x ≤ limit

pub record IsFewRange (range : tree.Range) : Type 0 where
  pub first : IsFew range.first
  pub last : IfSome range.last IsFew

abbrev pub IsFewItem : tree.Item → Type 0
IsFewItem tree.Zero = ⊤
IsFewItem tree.One = ⊤
IsFewItem (tree.Named name range) = IfSome range IsFewRange

abbrev pub IsFewConnection : tree.Connection → Type 0
IsFewConnection c = AllByRecursion (λ t. IsFewItem t.item) c.terms

abbrev pub IsFewAssignment : tree.Assignment → Type 0
IsFewAssignment a = IsFew a.value

pub record IsFewUse (u : tree.UseStatement) : Type 0 where
  pub delays : tree.EachDelay IsFew u.delay u.fall
  pub params : AllByRecursion IsFewAssignment u.params
  pub ins : AllByRecursion IsFewConnection u.ins
  pub outs : AllByRecursion IsFewConnection u.outs

pub record IsFewWire (w : tree.WireStatement) : Type 0 where
  pub range : IfSome w.range IsFewRange
  pub min : IsFew w.min
  pub max : IsFew w.max

-- if n IFs and FORs are open
abbrev mutual
  pub IsModestStatement : ℕ → tree.Statement → Type 0
  IsModestStatement n (tree.Use u) = IsFewUse u
  IsModestStatement n (tree.Wire w) = IsFewWire w
  IsModestStatement n (tree.If test ss other place) = (suc n ≤ limit) × IsFew test × AreModest (suc n) ss × IsModestOtherwise (suc n) other
  IsModestStatement n (tree.For var first last ss place) = (suc n ≤ limit) × IsFew first × IsFew last × AreModest (suc n) ss

  pub AreModest : ℕ → tree.Statements → Type 0
  AreModest n tree.nil = ⊤
  AreModest n (tree.cons s ss) = IsModestStatement n s × AreModest n ss

  pub IsModestOtherwise : ℕ → tree.Otherwise → Type 0
  IsModestOtherwise n tree.no_else = ⊤
  IsModestOtherwise n (tree.else_ ss) = AreModest n ss

abbrev pub IsFewFormal : tree.Formal → Type 0
IsFewFormal f = IfSome f.range IsFewRange

pub record IsModestMacro (m : tree.Macro) : Type 0 where
  pub params : AllByRecursion IsFewAssignment m.params
  pub ins : AllByRecursion IsFewFormal m.ins
  pub outs : AllByRecursion IsFewFormal m.outs
  pub body : AreModest 0 m.body

pub record IsModestSketch (s : Sketch) : Type 0 where
  pub consts : AllByRecursion IsFewAssignment s.consts.constants
  pub macros : AllByRecursion IsModestMacro s.macros.macros
  pub body : AreModest 0 s.body

-- ---- what parts, groups and needs stand for, if a operators came before and b with them

pub record Counts (x : Expression) (a b : ℕ) : Type 0 where
  pub sum : a + operators x ≡ b
  pub few : a ≤ limit → b ≤ limit

pub record Adds (f : Expression → Expression) (a b : ℕ) : Type 0 where
  pub more : ℕ
  pub sum : a + more ≡ b
  pub adds : (x : Expression) → operators (f x) ≡ operators x + more
  pub few : a ≤ limit → b ≤ limit

abbrev IsPartOk : (p : Part) → ℕ → Meaning p → ℕ → ℕ → Type 0
IsPartOk g.Unary n v a b = Counts v a b
IsPartOk g.Factors n v a b = Adds v a b
IsPartOk g.Terms n v a b = Adds v a b
IsPartOk g.Comparison n v a b = Adds v a b
IsPartOk g.OrEqual n v a b = a ≡ b
IsPartOk g.Range n v a b = IfSome v IsFewRange
IsPartOk g.RangeEnd n v a b = IfSome v IsFew
IsPartOk g.Parameters n v a b = AllByRecursion IsFewAssignment v.items
IsPartOk g.Assign n v a b = IsFewAssignment v.item
IsPartOk g.MoreAssigns n v a b = AllByRecursion IsFewAssignment v.items
IsPartOk g.Formal n v a b = IsFewFormal v.item
IsPartOk g.MoreFormals n v a b = AllByRecursion IsFewFormal v.items
IsPartOk g.FormalOutputs n v a b = AllByRecursion IsFewFormal v.items
IsPartOk g.Delay n v a b = tree.EachDelay IsFew v.delay v.fall
IsPartOk g.Fall n v a b = IfSome v (λ d. IsFew d.0 × IsFew d.1)
IsPartOk g.Term n v a b = IsFewItem v.item.item
IsPartOk g.Atom n v a b = IsFewItem v
IsPartOk g.MoreTerms n v a b = AllByRecursion (λ t. IsFewItem t.item) v
IsPartOk g.Hold n v a b = ⊤
IsPartOk g.MoreConns n v a b = AllByRecursion IsFewConnection v
IsPartOk g.Outputs n v a b = AllByRecursion IsFewConnection v
IsPartOk g.Constant n v a b = IsFewAssignment v.constant
IsPartOk (g.Statement i) n v a b = IsModestStatement n v
IsPartOk (g.Otherwise i) n v a b = IsModestOtherwise n v
IsPartOk (g.Macro i) n v a b = IsModestMacro v.macro
IsPartOk g.Index n v a b = ⊤
IsPartOk g.Entry n v a b = ⊤
IsPartOk g.MoreEntries n v a b = ⊤
IsPartOk g.CaseStatement n v a b = ⊤
IsPartOk g.WireBounds n v a b = ⊤
IsPartOk g.PrecisionSkew n v a b = ⊤
IsPartOk g.ClockSkew n v a b = ⊤
IsPartOk (g.Text i) n v a b = IsModestSketch v

abbrev IsGroupOk : (h : Group) → ℕ → GroupMeaning h → ℕ → ℕ → Type 0
IsGroupOk g.Product n v a b = Counts v a b
IsGroupOk g.Sum n v a b = Counts v a b
IsGroupOk g.Expr n v a b = Counts v a b
IsGroupOk g.Conn n v a b = IsFewConnection v
IsGroupOk g.SomeConns n v a b = AllByRecursion IsFewConnection v
IsGroupOk g.Conns n v a b = AllByRecursion IsFewConnection v
IsGroupOk g.SomeFormals n v a b = AllByRecursion IsFewFormal v.items
IsGroupOk g.Formals n v a b = AllByRecursion IsFewFormal v.items
IsGroupOk g.Assigns n v a b = AllByRecursion IsFewAssignment v.items
IsGroupOk g.Entries n v a b = ⊤
IsGroupOk g.Constants n v a b = AllByRecursion IsFewAssignment v.constants
IsGroupOk (g.Statements i) n v a b = AreModest n v
IsGroupOk (g.Macros i) n v a b = AllByRecursion IsModestMacro v.macros
IsGroupOk g.Cases n v a b = ⊤

abbrev Moderate : (needs : List Need) → Values needs → ℕ → ℕ → Type 0
Moderate [] v a b = a ≡ b
Moderate (mark l ∷ rest) v a b = Moderate rest v a b
Moderate (item l ∷ rest) v a b = Moderate rest v.1 a b
Moderate (keyword x ∷ rest) v a b = Moderate rest v a b
Moderate (fresh ∷ rest) v a b = Moderate rest v 0 b
Moderate (part p n ∷ rest) v a b = (c : ℕ) × IsPartOk p n v.0 a c × Moderate rest v.1 c b
Moderate (group h n ∷ rest) v a b = (c : ℕ) × IsGroupOk h n v.0 a c × Moderate rest v.1 c b

record Splits (needs rest : List Need) (v : Values (needs ++ rest)) (a b : ℕ) : Type 0 where
  middle : ℕ
  first : Moderate needs (front needs rest v) a middle
  second : Moderate rest (behind needs rest v) middle b

split : (needs rest : List Need) (v : Values (needs ++ rest)) (a b : ℕ) → Moderate (needs ++ rest) v a b → Splits needs rest v a b
split [] rest v a b m = record { middle = a; first = refl; second = m }
split (mark l ∷ needs) rest v a b m = let s = split needs rest v a b m in record { middle = s.middle; first = s.first; second = s.second }
split (item l ∷ needs) rest v a b m = let s = split needs rest v.1 a b m in record { middle = s.middle; first = s.first; second = s.second }
split (keyword x ∷ needs) rest v a b m = let s = split needs rest v a b m in record { middle = s.middle; first = s.first; second = s.second }
split (fresh ∷ needs) rest v a b m = let s = split needs rest v 0 b m in record { middle = s.middle; first = s.first; second = s.second }
split (part p n ∷ needs) rest v a b m = let s = split needs rest v.1 m.0 b m.2 in record { middle = s.middle; first = (m.0, m.1, s.first); second = s.second }
split (group h n ∷ needs) rest v a b m = let s = split needs rest v.1 m.0 b m.2 in record { middle = s.middle; first = (m.0, m.1, s.first); second = s.second }

-- ---- expressions

few_of : (x : Expression) (c : ℕ) → Counts x 0 c → IsFew x
few_of x c h = let s = h.sum in let f = h.few (omega arith) in omega arith

up_to : (x : Expression) (a b c : ℕ) → Counts x a b → b ≡ c → Counts x a c
up_to x a b c h e = subst (λ (n : ℕ). Counts x a n) e h

then_adds : (x : Expression) (f : Expression → Expression) (a b c : ℕ) → Counts x a b → Adds f b c → Counts (f x) a c
then_adds x f a b c h k =
    let s = h.sum in let t = k.sum in let u = k.adds x in
    record { sum = omega arith; few = λ l. k.few (h.few l) }

-- an operator and its right operand, and what follows
with_operand : (o : Op) (x : Expression) (f : Expression → Expression) (a b c d : ℕ) → suc a ≤ limit → Counts x (suc a) b → Adds f b c → c ≡ d → Adds (λ left. f (binary o left x)) a d
unfolding operators
with_operand o x f a b c d fits h k e =
    let s = h.sum in
    let t = k.sum in
    record {
      more = suc (operators x) + k.more;
      sum = omega arith;
      adds = λ y. let u = k.adds (binary o y x) in omega arith;
      few = λ l. let m = k.few (h.few fits) in omega arith;
    }

compared : (o : Op) (x : Expression) (a b c : ℕ) → suc a ≤ limit → Counts x (suc a) b → b ≡ c → Adds (λ left. binary o left x) a c
unfolding operators
compared o x a b c fits h e =
    let s = h.sum in
    record {
      more = suc (operators x);
      sum = omega arith;
      adds = λ y. refl;
      few = λ l. let m = h.few fits in omega arith;
    }

nothing_added : (a : ℕ) → Adds (λ left. left) a a
nothing_added a = record { more = 0; sum = omega arith; adds = λ x. omega arith; few = λ l. l }

negates : (x : Expression) (a b c : ℕ) → Counts x a b → b ≡ c → Counts (e.Negate x) a c
unfolding operators
negates x a b c h k = let s = h.sum in record { sum = omega arith; few = λ l. let m = h.few l in omega arith }

leaf_number : (k : _) (a b : ℕ) → a ≡ b → Counts (e.Number k) a b
unfolding operators
leaf_number k a b h = record { sum = omega arith; few = λ l. omega arith }

leaf_word : (text : List ℕ) (a b : ℕ) → a ≡ b → Counts (e.Param text) a b
unfolding operators
leaf_word text a b h = record { sum = omega arith; few = λ l. omega arith }

-- ---- each choice

choice_ok : {p : Part} (c : Choice p) (n : ℕ) (t : Lexeme) (v : Values (following c n)) (a b : ℕ) →
    weight (cost c) n a ≤ limit → Moderate (following c n) v (counted (cost c) a) b → IsPartOk p n (choice_value c n t v) a b
choice_ok g.number n t v a b l m = leaf_number _ a b m
choice_ok g.parameter n t v a b l m = leaf_word t.text a b m
choice_ok g.negated n t v a b l m = negates v.0 a m.0 b m.1 m.2
choice_ok g.bracketed n t v a b l m = up_to v.0 a m.0 b m.1 m.2
choice_ok g.times n t v a b l m = with_operand op.Mul v.0 v.1.0 a m.0 m.2.0 b l m.1 m.2.1 m.2.2
choice_ok g.divided n t v a b l m = with_operand op.Div v.0 v.1.0 a m.0 m.2.0 b l m.1 m.2.1 m.2.2
choice_ok g.plus n t v a b l m = with_operand op.Add v.0 v.1.0 a m.0 m.2.0 b l m.1 m.2.1 m.2.2
choice_ok g.less n t v a b l m = with_operand op.Sub v.0 v.1.0 a m.0 m.2.0 b l m.1 m.2.1 m.2.2
choice_ok g.equal n t v a b l m = compared op.Eq v.0 a m.0 b l m.1 m.2
choice_ok g.unequal n t v a b l m = compared op.Ne v.0 a m.0 b l m.1 m.2
choice_ok g.below n t v a b l m = compared (less_or v.0) v.1.0 a m.2.0 b l (subst (λ (k : ℕ). Counts v.1.0 k m.2.0) (sym m.1) m.2.1) m.2.2
choice_ok g.above n t v a b l m = compared (greater_or v.0) v.1.0 a m.2.0 b l (subst (λ (k : ℕ). Counts v.1.0 k m.2.0) (sym m.1) m.2.1) m.2.2
choice_ok g.or_equal n t v a b l m = m
choice_ok g.range n t v a b l m = record { first = few_of v.0 m.0 m.1; last = m.2.1 }
choice_ok g.last n t v a b l m = few_of v.0 m.0 m.1
choice_ok g.parameters n t v a b l m = m.1
choice_ok g.assign n t v a b l m = few_of v.0 m.0 m.1
choice_ok g.next_assign n t v a b l m = (m.1, m.2.1)
choice_ok g.formal n t v a b l m = m.1
choice_ok g.next_formal n t v a b l m = (m.1, m.2.1)
choice_ok g.formal_outputs n t v a b l m = m.1
choice_ok g.delay n t v a b l m = ((few_of v.0 m.0 m.1, few_of v.1.0 m.2.0 m.2.1), m.2.2.1)
choice_ok g.fall n t v a b l m = (few_of v.0 m.0 m.1, few_of v.1.0 m.2.0 m.2.1)
choice_ok g.complement n t v a b l m = m.1
choice_ok g.zero_term n t v a b l m = tt
choice_ok g.one_term n t v a b l m = tt
choice_ok g.named_term n t v a b l m = m.1
choice_ok g.zero_atom n t v a b l m = tt
choice_ok g.one_atom n t v a b l m = tt
choice_ok g.named_atom n t v a b l m = m.1
choice_ok g.next_term n t v a b l m = (m.1, m.2.1)
choice_ok g.hold n t v a b l m = tt
choice_ok g.next_conn n t v a b l m = (m.1, m.2.1)
choice_ok g.outputs n t v a b l m = m.1
choice_ok g.constant n t v a b l m = few_of v.1.0 m.0 m.1
choice_ok g.use_ n t v a b l m = record { delays = m.1; params = m.2.1; ins = m.2.2.1; outs = m.2.2.2.1 }
choice_ok g.wire n t v a b l m = record { range = m.1; min = few_of v.1.1.0 m.2.0 m.2.1; max = few_of v.1.1.1.0 m.2.2.0 m.2.2.1 }
choice_ok g.if_ n t v a b l m = (l, few_of v.0 m.0 m.1, m.2.1, m.2.2.1)
choice_ok g.for_ n t v a b l m = (l, few_of v.1.0 m.0 m.1, few_of v.1.1.0 m.2.0 m.2.1, m.2.2.1)
choice_ok g.else_ n t v a b l m = m.1
choice_ok g.macro n t v a b l m = record { params = m.1; ins = m.2.1; outs = m.2.2.1; body = m.2.2.2.1 }
choice_ok g.index n t v a b l m = tt
choice_ok g.entry n t v a b l m = tt
choice_ok g.next_entry n t v a b l m = tt
choice_ok g.case_ n t v a b l m = tt
choice_ok g.wire_bounds n t v a b l m = tt
choice_ok g.precision_skew n t v a b l m = tt
choice_ok g.clock_skew n t v a b l m = tt
choice_ok (g.text {v = First}) n t v a b l m = record { consts = tt; macros = m.2.2.2.1; body = m.2.2.2.2.1 }
choice_ok (g.text {v = Second}) n t v a b l m = record { consts = m.2.2.2.1; macros = m.2.2.2.2.1; body = m.2.2.2.2.2.1 }

group_ok : (h : Group) (n : ℕ) (first : Meaning (lead h)) (v : Values (others h n)) (a c b : ℕ) →
    IsPartOk (lead h) n first a c → Moderate (others h n) v c b → IsGroupOk h n (group_value h n first v) a b
group_ok g.Product n first v a c b p m = up_to _ a m.0 b (then_adds first v.0 a c m.0 p m.1) m.2
group_ok g.Sum n first v a c b p m = up_to _ a m.2.0 b (then_adds (v.0 first) v.1.0 a m.0 m.2.0 (then_adds first v.0 a c m.0 p m.1) m.2.1) m.2.2
group_ok g.Expr n first v a c b p m =
    up_to _ a m.2.2.0 b (then_adds (v.1.0 (v.0 first)) v.1.1.0 a m.2.0 m.2.2.0
    (then_adds (v.0 first) v.1.0 a m.0 m.2.0 (then_adds first v.0 a c m.0 p m.1) m.2.1) m.2.2.1) m.2.2.2
group_ok g.Conn n first v a c b p m = (p, m.1)
group_ok g.SomeConns n first v a c b p m = ((p, m.1), m.2.2.1)
group_ok g.Conns n first v a c b p m = ((p, m.1), m.2.2.1)
group_ok g.SomeFormals n first v a c b p m = (p, m.1)
group_ok g.Formals n first v a c b p m = (p, m.1)
group_ok g.Assigns n first v a c b p m = (p, m.1)
group_ok g.Entries n first v a c b p m = tt
group_ok g.Constants n first v a c b p m = (p, m.1)
group_ok (g.Statements i) n first v a c b p m = (p, m.1)
group_ok (g.Macros i) n first v a c b p m = (p, m.1)
group_ok g.Cases n first v a c b p m = tt

-- ---- what is left out

absent_ok : (p : Part) (n : ℕ) (v : Meaning p) (a : ℕ) → absent_value p ≡ Some v → IsPartOk p n v a a
absent_ok g.Unary n v a h = absurd cc
absent_ok g.Factors n v a h = subst (λ (f : Expression → Expression). Adds f a a) (same_Some _ v h) (nothing_added a)
absent_ok g.Terms n v a h = subst (λ (f : Expression → Expression). Adds f a a) (same_Some _ v h) (nothing_added a)
absent_ok g.Comparison n v a h = subst (λ (f : Expression → Expression). Adds f a a) (same_Some _ v h) (nothing_added a)
absent_ok g.OrEqual n v a h = refl
absent_ok g.Range n v a h = subst (λ (o : Meaning g.Range). IsPartOk g.Range n o a a) (same_Some _ v h) tt
absent_ok g.RangeEnd n v a h = subst (λ (o : Meaning g.RangeEnd). IsPartOk g.RangeEnd n o a a) (same_Some _ v h) tt
absent_ok g.Parameters n v a h = subst (λ (o : Meaning g.Parameters). IsPartOk g.Parameters n o a a) (same_Some _ v h) tt
absent_ok g.Assign n v a h = absurd cc
absent_ok g.MoreAssigns n v a h = subst (λ (o : Meaning g.MoreAssigns). IsPartOk g.MoreAssigns n o a a) (same_Some _ v h) tt
absent_ok g.Formal n v a h = absurd cc
absent_ok g.MoreFormals n v a h = subst (λ (o : Meaning g.MoreFormals). IsPartOk g.MoreFormals n o a a) (same_Some _ v h) tt
absent_ok g.FormalOutputs n v a h = subst (λ (o : Meaning g.FormalOutputs). IsPartOk g.FormalOutputs n o a a) (same_Some _ v h) tt
absent_ok g.Delay n v a h = subst (λ (o : Meaning g.Delay). IsPartOk g.Delay n o a a) (same_Some _ v h) tt
absent_ok g.Fall n v a h = subst (λ (o : Meaning g.Fall). IsPartOk g.Fall n o a a) (same_Some _ v h) tt
absent_ok g.Term n v a h = absurd cc
absent_ok g.Atom n v a h = absurd cc
absent_ok g.MoreTerms n v a h = subst (λ (o : Meaning g.MoreTerms). IsPartOk g.MoreTerms n o a a) (same_Some _ v h) tt
absent_ok g.Hold n v a h = tt
absent_ok g.MoreConns n v a h = subst (λ (o : Meaning g.MoreConns). IsPartOk g.MoreConns n o a a) (same_Some _ v h) tt
absent_ok g.Outputs n v a h = subst (λ (o : Meaning g.Outputs). IsPartOk g.Outputs n o a a) (same_Some _ v h) tt
absent_ok g.Constant n v a h = absurd cc
absent_ok (g.Statement i) n v a h = absurd cc
absent_ok (g.Otherwise i) n v a h = subst (λ (o : Meaning (g.Otherwise i)). IsPartOk (g.Otherwise i) n o a a) (same_Some _ v h) tt
absent_ok (g.Macro i) n v a h = absurd cc
absent_ok g.Index n v a h = tt
absent_ok g.Entry n v a h = absurd cc
absent_ok g.MoreEntries n v a h = tt
absent_ok g.CaseStatement n v a h = absurd cc
absent_ok g.WireBounds n v a h = tt
absent_ok g.PrecisionSkew n v a h = tt
absent_ok g.ClockSkew n v a h = tt
absent_ok (g.Text i) n v a h = absurd cc

lacking_ok : (h : Group) (n : ℕ) (v : GroupMeaning h) (a : ℕ) → absent_group h ≡ Some v → IsGroupOk h n v a a
lacking_ok g.Product n v a h = absurd cc
lacking_ok g.Sum n v a h = absurd cc
lacking_ok g.Expr n v a h = absurd cc
lacking_ok g.Conn n v a h = absurd cc
lacking_ok g.SomeConns n v a h = absurd cc
lacking_ok g.Conns n v a h = subst (λ (o : GroupMeaning g.Conns). IsGroupOk g.Conns n o a a) (same_Some _ v h) tt
lacking_ok g.SomeFormals n v a h = absurd cc
lacking_ok g.Formals n v a h = subst (λ (o : GroupMeaning g.Formals). IsGroupOk g.Formals n o a a) (same_Some _ v h) tt
lacking_ok g.Assigns n v a h = absurd cc
lacking_ok g.Entries n v a h = tt
lacking_ok g.Constants n v a h = subst (λ (o : GroupMeaning g.Constants). IsGroupOk g.Constants n o a a) (same_Some _ v h) tt
lacking_ok (g.Statements i) n v a h = subst (λ (o : GroupMeaning (g.Statements i)). IsGroupOk (g.Statements i) n o a a) (same_Some _ v h) tt
lacking_ok (g.Macros i) n v a h = subst (λ (o : GroupMeaning (g.Macros i)). IsGroupOk (g.Macros i) n o a a) (same_Some _ v h) tt
lacking_ok g.Cases n v a h = tt

-- ---- all of it

record Reaches (needs : List Need) (v : Values needs) (a : ℕ) : Type 0 where
  end : ℕ
  moderate : Moderate needs v a end

reaches : {needs : List Need} (w : Written needs) (a : ℕ) → Within (spelling w) (weights w a) → Reaches needs (values w) a
reaches nothing a h = record { end = a; moderate = refl }
reaches (marked t e w) a h = let r = reaches w a h.1 in record { end = r.end; moderate = r.moderate }
reaches (token t e w) a h = let r = reaches w a h.1 in record { end = r.end; moderate = r.moderate }
reaches (worded t e f w) a h = let r = reaches w a h.1 in record { end = r.end; moderate = r.moderate }
reaches (begun w) a h = let r = reaches w 0 h in record { end = r.end; moderate = r.moderate }
reaches (chosen {n = n} {rest = rest} c t e w) a h =
    let r = reaches w (counted (cost c) a) h.1 in
    let s = split (following c n) rest (values w) (counted (cost c) a) r.end r.moderate in
    record { end = r.end; moderate = (s.middle, choice_ok c n t (front (following c n) rest (values w)) a s.middle h.0 s.first, s.second) }
reaches (left_out {p = p} {n = n} v e w) a h = let r = reaches w a h in record { end = r.end; moderate = (a, absent_ok p n v a e, r.moderate) }
reaches (grouped {g = k} {n = n} {rest = rest} w) a h =
    let r = reaches w a h in
    let m = r.moderate in
    let s = split (others k n) rest (values w).1 m.0 r.end m.2 in
    record { end = r.end; moderate = (s.middle, group_ok k n (values w).0 (front (others k n) rest (values w).1) a m.0 s.middle m.1 s.first, s.second) }
reaches (lacking {g = k} {n = n} v e w) a h = let r = reaches w a h in record { end = r.end; moderate = (a, lacking_ok k n v a e, r.moderate) }

pub sketch_modest : (e : Edition) (w : Written (part (g.Text e) 0 ∷ [])) → Within (spelling w) (weights w 0) → IsModestSketch (values w).0
sketch_modest e w h = let r = reaches w 0 h in let m = r.moderate in m.1
