-- What a part of a text stands for: the tree of its drawing, with the numbers of the header as they
-- are written.
use Rattle.std.specs.Prelude.{ℕ, ◌-◌, ◌^◌, min, Bool, true, false, List, [], ◌∷◌, ◌++◌, length, slice_range, Option, Some, None}
use Rattle.scald_base.specs.declared.refusal.Place.{Place}
use Rattle.scald_base.specs.declared.assertion.AssertSpec.TheVariants.{None as Unasserted}
use Rattle.assertion_syntax.specs.declared.name.SignalName.{SignalName}
use Rattle.assertion_syntax.specs.Reading.{name_at, either}
use Rattle.drawing_tree.specs.declared.expr.Op.{Op}
use Rattle.drawing_tree.specs.declared.expr.Op.TheVariants as op
use Rattle.drawing_tree.specs.Expression.{Expression}
use Rattle.drawing_tree.specs.Expression as e
use Rattle.drawing_tree.specs.declared.drawing.CaseEntry.{CaseEntry}
use Rattle.drawing_tree.specs.declared.drawing.CaseStmt.{CaseStmt}
use Rattle.drawing_tree.specs.Tree as tree
use Rattle.drawing_grammar.specs.declared.head.Head.{Head}
use Rattle.drawing_grammar.specs.declared.header.NumberPair.{NumberPair}
use Rattle.drawing_grammar.specs.declared.header.WrittenHeader.{WrittenHeader}
use Rattle.drawing_grammar.specs.Header.{natural}
use Rattle.drawing_grammar.specs.Lexeme.{Lexeme, number_of}
use Rattle.drawing_grammar.specs.Grammar.{Part, Group, Need, mark, item, keyword, fresh, part, group, Choice, constants, from_macros, following, others, lead}
use Rattle.drawing_grammar.specs.Grammar as g
use Rattle.drawing_grammar.specs.declared.edition.Edition.{Edition}
use Rattle.drawing_grammar.specs.declared.edition.Edition.TheVariants.{First, Second}

-- ---- what tokens stand for

-- the name that stands in for one that has not the form of a name
abbrev pub blank : SignalName
blank = record { base = []; global = false; spec = Unasserted }

abbrev pub unquoted : List ℕ → List ℕ
unquoted text = slice_range text 1 (length text - 1)

-- the name between the quotes
unfoldable pub signal_named : List ℕ → SignalName
signal_named text = either (name_at (unquoted text)) blank (λ name. name)

abbrev pub signal_of : Lexeme → SignalName
signal_of t = signal_named t.text

-- the number, and the greatest of 32 bits for one above it
abbrev pub capped : Lexeme → ℕ
capped t = min (natural (number_of t)) (2 ^ 32 - 1)

-- ---- what parts stand for

-- with the place of its first token
pub record Placed (A : Type 0) : Type 0 where
  pub item : A
  pub place : Place

-- a list, with the places of its items beside it
pub record PlacedList (A : Type 0) : Type 0 where
  pub items : List A
  pub places : List Place

abbrev pub no_items : {A : Type 0} → PlacedList A
no_items = record { items = []; places = [] }

abbrev pub with_item : {A : Type 0} → Placed A → PlacedList A → PlacedList A
with_item first more =
    record { items = first.item ∷ more.items; places = first.place ∷ more.places }

-- the delays of a use: the one in common or of rises, and the one of falls
pub record Delays : Type 0 where
  pub delay : Option (Expression × Expression)
  pub fall : Option (Expression × Expression)

abbrev pub no_delays : Delays
no_delays = record { delay = None; fall = None }

-- a constant, with the place of its word CONST and that of its name
pub record PlacedConstant : Type 0 where
  pub constant : tree.Assignment
  pub place : Place
  pub name_place : Place

-- constants, with these places beside them
pub record PlacedConstants : Type 0 where
  pub constants : List tree.Assignment
  pub places : List Place
  pub name_places : List Place

abbrev pub no_constants : PlacedConstants
no_constants = record { constants = []; places = []; name_places = [] }

abbrev pub with_constant : PlacedConstant → PlacedConstants → PlacedConstants
with_constant first more = record {
  constants = first.constant ∷ more.constants;
  places = first.place ∷ more.places;
  name_places = first.name_place ∷ more.name_places;
}

-- a macro, and where its head names what it declares
pub record HeadedMacro : Type 0 where
  pub macro : tree.Macro
  pub head : Head

pub record HeadedMacros : Type 0 where
  pub macros : List tree.Macro
  pub heads : List Head

-- A text's drawing, before its numbers and names are judged.
pub record Sketch : Type 0 where
  pub header : WrittenHeader
  pub consts : PlacedConstants
  pub macros : HeadedMacros
  pub name : List ℕ
  pub body : tree.Statements
  pub cases : List CaseStmt

-- What follows an operand takes the tree so far: so operators group from the left.
abbrev pub Meaning : Part → Type 0
Meaning g.Unary = Expression
Meaning g.Factors = Expression → Expression
Meaning g.Terms = Expression → Expression
Meaning g.Comparison = Expression → Expression
Meaning g.OrEqual = Bool
Meaning g.Range = Option tree.Range
Meaning g.RangeEnd = Option Expression
Meaning g.Parameters = PlacedList tree.Assignment
Meaning g.Assign = Placed tree.Assignment
Meaning g.MoreAssigns = PlacedList tree.Assignment
Meaning g.Formal = Placed tree.Formal
Meaning g.MoreFormals = PlacedList tree.Formal
Meaning g.FormalOutputs = PlacedList tree.Formal
Meaning g.Delay = Delays
Meaning g.Fall = Option (Expression × Expression)
Meaning g.Term = Placed tree.Term
Meaning g.Atom = tree.Item
Meaning g.MoreTerms = List tree.Term
Meaning g.Hold = Bool
Meaning g.MoreConns = List tree.Connection
Meaning g.Outputs = List tree.Connection
Meaning g.Constant = PlacedConstant
Meaning (g.Statement v) = tree.Statement
Meaning (g.Otherwise v) = tree.Otherwise
Meaning (g.Macro v) = HeadedMacro
Meaning g.Index = ℕ
Meaning g.Entry = CaseEntry
Meaning g.MoreEntries = List CaseEntry
Meaning g.CaseStatement = CaseStmt
Meaning g.WireBounds = Option NumberPair
Meaning g.PrecisionSkew = Option NumberPair
Meaning g.ClockSkew = Option NumberPair
Meaning (g.Text v) = Sketch

abbrev pub GroupMeaning : Group → Type 0
GroupMeaning g.Product = Expression
GroupMeaning g.Sum = Expression
GroupMeaning g.Expr = Expression
GroupMeaning g.Conn = tree.Connection
GroupMeaning g.SomeConns = List tree.Connection
GroupMeaning g.Conns = List tree.Connection
GroupMeaning g.SomeFormals = PlacedList tree.Formal
GroupMeaning g.Formals = PlacedList tree.Formal
GroupMeaning g.Assigns = PlacedList tree.Assignment
GroupMeaning g.Entries = List CaseEntry
GroupMeaning g.Constants = PlacedConstants
GroupMeaning (g.Statements v) = tree.Statements
GroupMeaning (g.Macros v) = HeadedMacros
GroupMeaning g.Cases = List CaseStmt

-- what all that is needed stands for, one after another
abbrev pub Values : List Need → Type 0
Values [] = Unit {0}
Values (mark l ∷ rest) = Values rest
Values (item l ∷ rest) = Lexeme × Values rest
Values (keyword w ∷ rest) = Values rest
Values (fresh ∷ rest) = Values rest
Values (part p n ∷ rest) = Meaning p × Values rest
Values (group g n ∷ rest) = GroupMeaning g × Values rest

-- the values of the first needs, and of those after them
abbrev pub front : (needs rest : List Need) → Values (needs ++ rest) → Values needs
front [] rest v = tt
front (mark l ∷ needs) rest v = front needs rest v
front (item l ∷ needs) rest v = (v.0, front needs rest v.1)
front (keyword w ∷ needs) rest v = front needs rest v
front (fresh ∷ needs) rest v = front needs rest v
front (part p n ∷ needs) rest v = (v.0, front needs rest v.1)
front (group g n ∷ needs) rest v = (v.0, front needs rest v.1)

abbrev pub behind : (needs rest : List Need) → Values (needs ++ rest) → Values rest
behind [] rest v = v
behind (mark l ∷ needs) rest v = behind needs rest v
behind (item l ∷ needs) rest v = behind needs rest v.1
behind (keyword w ∷ needs) rest v = behind needs rest v
behind (fresh ∷ needs) rest v = behind needs rest v
behind (part p n ∷ needs) rest v = behind needs rest v.1
behind (group g n ∷ needs) rest v = behind needs rest v.1

-- what a text's constants stand for, and what follows them
abbrev pub constants_of : (v : Edition) (rest : List Need) → Values (constants v rest) →
    PlacedConstants
constants_of First rest x = no_constants
constants_of Second rest x = x.0

abbrev pub behind_constants : (v : Edition) (rest : List Need) → Values (constants v rest) →
    Values rest
behind_constants First rest x = x
behind_constants Second rest x = x.1

-- ---- the trees

abbrev pub binary : Op → Expression → Expression → Expression
binary o a b = e.Binary o a b

abbrev pub placed_term : Bool → tree.Item → Lexeme → Placed tree.Term
placed_term minus what t = record { item = record { minus = minus; item = what }; place = t.place }

abbrev pub less_or : Bool → Op
less_or true = op.Le
less_or false = op.Lt

abbrev pub greater_or : Bool → Op
greater_or true = op.Ge
greater_or false = op.Gt

abbrev pub connection : Placed tree.Term → List tree.Term → Bool → tree.Connection
connection first more hold = record { terms = first.item ∷ more; hold = hold; place = first.place }

-- two numbers of the header, in the statement that begins with this token
abbrev pub number_pair : Lexeme → Lexeme → Lexeme → NumberPair
number_pair begin first second =
    record { first = number_of first; second = number_of second; place = begin.place }

abbrev pub headed_macro : Lexeme → PlacedList tree.Assignment → PlacedList tree.Formal →
    PlacedList tree.Formal → tree.Statements → HeadedMacro
headed_macro name params ins outs body = record {
  macro =
      record {
        name = name.text;
        params = params.items;
        ins = ins.items;
        outs = outs.items;
        body = body;
        place = name.place;
      };
  head = record { parameters = params.places; ins = ins.places; outs = outs.places };
}

abbrev pub with_macro : HeadedMacro → HeadedMacros → HeadedMacros
with_macro first more =
    record { macros = first.macro ∷ more.macros; heads = first.head ∷ more.heads }

abbrev pub placed_constant : Lexeme → Lexeme → Expression → PlacedConstant
placed_constant begin name value = record {
  constant = record { name = name.text; value = value };
  place = begin.place;
  name_place = name.place;
}

-- a text's drawing, by its header, its constants and the values of what follows them
abbrev pub sketch_from : (v : Edition) → WrittenHeader → PlacedConstants → Values (from_macros v) →
    Sketch
sketch_from v header consts (macros, (name, (body, (cases, _)))) =
    record {
      header = header;
      consts = consts;
      macros = macros;
      name = name.text;
      body = body;
      cases = cases;
    }

-- What a choice stands for: its first token, and the values of what follows.
abbrev pub choice_value : {p : Part} (c : Choice p) (n : ℕ) → Lexeme → Values (following c n) →
    Meaning p
choice_value g.number n t v = e.Number (number_of t)
choice_value g.parameter n t v = e.Param t.text
choice_value g.negated n t (operand, _) = e.Negate operand
choice_value g.bracketed n t (inner, _) = inner
choice_value g.times n t (right, (more, _)) = λ left. more (binary op.Mul left right)
choice_value g.divided n t (right, (more, _)) = λ left. more (binary op.Div left right)
choice_value g.plus n t (right, (more, _)) = λ left. more (binary op.Add left right)
choice_value g.less n t (right, (more, _)) = λ left. more (binary op.Sub left right)
choice_value g.equal n t (right, _) = λ left. binary op.Eq left right
choice_value g.unequal n t (right, _) = λ left. binary op.Ne left right
choice_value g.below n t (or_equal, (right, _)) = λ left. binary (less_or or_equal) left right
choice_value g.above n t (or_equal, (right, _)) = λ left. binary (greater_or or_equal) left right
choice_value g.or_equal n t v = true
choice_value g.range n t (first, (last, _)) = Some (record { first = first; last = last })
choice_value g.last n t (last, _) = Some last
choice_value g.parameters n t (assigns, _) = assigns
choice_value g.assign n t (value, _) =
    record { item = record { name = t.text; value = value }; place = t.place }
choice_value g.next_assign n t (assign, (more, _)) = with_item assign more
choice_value g.formal n t (range, _) =
    record { item = record { base = (signal_of t).base; range = range }; place = t.place }
choice_value g.next_formal n t (formal, (more, _)) = with_item formal more
choice_value g.formal_outputs n t (formals, _) = formals
choice_value g.delay n t (min, (max, (fall, _))) = record { delay = Some (min, max); fall = fall }
choice_value g.fall n t (min, (max, _)) = Some (min, max)
choice_value g.complement n t (atom, _) = placed_term true atom t
choice_value g.zero_term n t v = placed_term false tree.Zero t
choice_value g.one_term n t v = placed_term false tree.One t
choice_value g.named_term n t (range, _) =
    placed_term false (tree.Named (signal_of t) range) t
choice_value g.zero_atom n t v = tree.Zero
choice_value g.one_atom n t v = tree.One
choice_value g.named_atom n t (range, _) = tree.Named (signal_of t) range
choice_value g.next_term n t (term, (more, _)) = term.item ∷ more
choice_value g.hold n t v = true
choice_value g.next_conn n t (connection, (more, _)) = connection ∷ more
choice_value g.outputs n t (connections, _) = connections
choice_value g.constant n t (name, (value, _)) = placed_constant t name value
choice_value g.use_ n t (kind, (delays, (params, (ins, (outs, _))))) =
    tree.Use (record {
      label = t.text;
      kind = kind.text;
      delay = delays.delay;
      fall = delays.fall;
      params = params.items;
      ins = ins;
      outs = outs;
      place = t.place;
    })
choice_value g.wire n t (name, (range, (min, (max, _)))) =
    tree.Wire (record {
      name = signal_of name;
      range = range;
      min = min;
      max = max;
      place = t.place;
    })
choice_value g.if_ n t (test, (taken, (other, _))) = tree.If test taken other t.place
choice_value g.for_ n t (variable, (first, (last, (body, _)))) =
    tree.For variable.text first last body t.place
choice_value g.else_ n t (body, _) = tree.else_ body
choice_value g.macro n t (name, (params, (ins, (outs, (body, _))))) =
    headed_macro name params ins outs body
choice_value g.index n t (number, _) = capped number
choice_value g.entry n t (bit, (value, _)) =
    record { name = signal_of t; bit = bit; value = capped value; place = t.place }
choice_value g.next_entry n t (entry, (more, _)) = entry ∷ more
choice_value g.case_ n t (entries, _) = record { entries = entries; place = t.place }
choice_value g.wire_bounds n t (min, (max, _)) = Some (number_pair t min max)
choice_value g.precision_skew n t (early, (late, _)) = Some (number_pair t early late)
choice_value g.clock_skew n t (early, (late, _)) = Some (number_pair t early late)
choice_value (g.text {v = e}) n t
    (version, (clock, (units, (ticks, (wire, (pskew, (cskew, more))))))) =
    sketch_from e (record {
      version = number_of version;
      place = t.place;
      clock = number_pair clock units ticks;
      wire = wire;
      pskew = pskew;
      cskew = cskew;
    }) (constants_of e (from_macros e) more) (behind_constants e (from_macros e) more)

abbrev pub group_value : (g : Group) (n : ℕ) → Meaning (lead g) → Values (others g n) →
    GroupMeaning g
group_value g.Product n first (factors, _) = factors first
group_value g.Sum n first (factors, (terms, _)) = terms (factors first)
group_value g.Expr n first (factors, (terms, (comparison, _))) = comparison (terms (factors first))
group_value g.Conn n first (terms, (hold, _)) = connection first terms hold
group_value g.SomeConns n first (terms, (hold, (more, _))) = connection first terms hold ∷ more
group_value g.Conns n first (terms, (hold, (more, _))) = connection first terms hold ∷ more
group_value g.SomeFormals n first (more, _) = with_item first more
group_value g.Formals n first (more, _) = with_item first more
group_value g.Assigns n first (more, _) = with_item first more
group_value g.Entries n first (more, _) = first ∷ more
group_value g.Constants n first (more, _) = with_constant first more
group_value (g.Statements e) n first (more, _) = tree.cons first more
group_value (g.Macros e) n first (more, _) = with_macro first more
group_value g.Cases n first (more, _) = first ∷ more
