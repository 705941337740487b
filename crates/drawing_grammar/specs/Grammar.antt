-- The grammar of drawings: what each part of a text begins with, and what follows. One table has
-- both versions of the language. Statements, macros and the text itself are parts of a version: a
-- choice that the second version alone has says so, and only a text of that version has constants.
use Rattle.std.specs.Prelude.{ℕ, suc, List, [], ◌∷◌, codes}
use Rattle.drawing_grammar.specs.declared.terminal.Keyword.{Keyword}
use Rattle.drawing_grammar.specs.declared.terminal.Keyword.TheVariants.{By, Hazard, Const, To, Do}
use Rattle.drawing_grammar.specs.declared.terminal.Keyword.TheVariants.{For as ForWord}
use Rattle.drawing_grammar.specs.declared.edition.Edition.{Edition}
use Rattle.drawing_grammar.specs.declared.edition.Edition.TheVariants.{First, Second}
use Rattle.drawing_grammar.specs.declared.terminal.Terminal.{Terminal}
use Rattle.drawing_grammar.specs.declared.terminal.Terminal.TheVariants.{Scald, Clock, Wire, Pskew, Cskew, Drawing, Case, If, Then, Else, End, Zero, One, Word, Number, Name, Arrow, Semicolon, Colon, Comma, OpenParenthesis, CloseParenthesis, Less, Greater, OpenBracket, CloseBracket, OpenBrace, CloseBrace, Equals, Plus, Minus, Star, Slash, Ampersand, Exclamation, EndOfText}
use Rattle.drawing_grammar.specs.declared.terminal.Terminal.TheVariants.{Macro as MacroWord}

-- Parts of a text that begin with a token of their own, by which they are known.
pub data Part : Type 0 where
  Unary : Part
  Factors : Part
  Terms : Part
  Comparison : Part
  OrEqual : Part
  Range : Part
  RangeEnd : Part
  Parameters : Part
  Assign : Part
  MoreAssigns : Part
  Formal : Part
  MoreFormals : Part
  FormalOutputs : Part
  Delay : Part
  Fall : Part
  Term : Part
  Atom : Part
  MoreTerms : Part
  Hold : Part
  MoreConns : Part
  Outputs : Part
  Constant : Part
  Statement : Edition → Part
  Otherwise : Edition → Part
  Macro : Edition → Part
  Index : Part
  Entry : Part
  MoreEntries : Part
  CaseStatement : Part
  WireBounds : Part
  PrecisionSkew : Part
  ClockSkew : Part
  Text : Edition → Part

-- Parts of a text that begin as the first of their members does.
pub data Group : Type 0 where
  Product : Group
  Sum : Group
  Expr : Group
  Conn : Group
  SomeConns : Group
  Conns : Group
  SomeFormals : Group
  Formals : Group
  Assigns : Group
  Entries : Group
  Constants : Group
  Statements : Edition → Group
  Macros : Edition → Group
  Cases : Group

-- the words that stand for themselves where they are asked for, and are not reserved
abbrev pub keyword_text : Keyword → List ℕ
keyword_text By = codes "x"
keyword_text Hazard = codes "H"
keyword_text Const = codes "CONST"
keyword_text ForWord = codes "FOR"
keyword_text To = codes "TO"
keyword_text Do = codes "DO"

-- What has to be written: a token that stands for itself, one whose text counts, a keyword, an
-- expression of its own, or a part or a group where so many parentheses and minus signs, or IFs and
-- FORs, are open.
pub data Need : Type 0 where
  mark : Terminal → Need
  item : Terminal → Need
  keyword : Keyword → Need
  fresh : Need
  part : Part → ℕ → Need
  group : Group → ℕ → Need

-- The choices of each part.
pub data Choice : Part → Type 0 where
  number : Choice Unary
  parameter : Choice Unary
  negated : Choice Unary
  bracketed : Choice Unary
  times : Choice Factors
  divided : Choice Factors
  plus : Choice Terms
  less : Choice Terms
  equal : Choice Comparison
  unequal : Choice Comparison
  below : Choice Comparison
  above : Choice Comparison
  or_equal : Choice OrEqual
  range : Choice Range
  last : Choice RangeEnd
  parameters : Choice Parameters
  assign : Choice Assign
  next_assign : Choice MoreAssigns
  formal : Choice Formal
  next_formal : Choice MoreFormals
  formal_outputs : Choice FormalOutputs
  delay : Choice Delay
  fall : Choice Fall
  complement : Choice Term
  zero_term : Choice Term
  one_term : Choice Term
  named_term : Choice Term
  zero_atom : Choice Atom
  one_atom : Choice Atom
  named_atom : Choice Atom
  next_term : Choice MoreTerms
  hold : Choice Hold
  next_conn : Choice MoreConns
  outputs : Choice Outputs
  constant : Choice Constant
  use_ : {v : Edition} → Choice (Statement v)
  wire : {v : Edition} → Choice (Statement v)
  if_ : {v : Edition} → Choice (Statement v)
  for_ : Choice (Statement Second)
  else_ : {v : Edition} → Choice (Otherwise v)
  macro : {v : Edition} → Choice (Macro v)
  index : Choice Index
  entry : Choice Entry
  next_entry : Choice MoreEntries
  case_ : Choice CaseStatement
  wire_bounds : Choice WireBounds
  precision_skew : Choice PrecisionSkew
  clock_skew : Choice ClockSkew
  text : {v : Edition} → Choice (Text v)

-- the token that a choice begins with
abbrev pub opening : {p : Part} → Choice p → Terminal
opening number = Number
opening parameter = Word
opening negated = Minus
opening bracketed = OpenParenthesis
opening times = Star
opening divided = Slash
opening plus = Plus
opening less = Minus
opening equal = Equals
opening unequal = Exclamation
opening below = Less
opening above = Greater
opening or_equal = Equals
opening range = Less
opening last = Colon
opening parameters = OpenBrace
opening assign = Word
opening next_assign = Comma
opening formal = Name
opening next_formal = Comma
opening formal_outputs = Arrow
opening delay = OpenBracket
opening fall = Comma
opening complement = Minus
opening zero_term = Zero
opening one_term = One
opening named_term = Name
opening zero_atom = Zero
opening one_atom = One
opening named_atom = Name
opening next_term = Ampersand
opening hold = Exclamation
opening next_conn = Comma
opening outputs = Arrow
opening constant = Word
opening use_ = Word
opening wire = Wire
opening if_ = If
opening for_ = Word
opening else_ = Else
opening macro = MacroWord
opening index = Less
opening entry = Name
opening next_entry = Comma
opening case_ = Case
opening wire_bounds = Wire
opening precision_skew = Pskew
opening clock_skew = Cskew
opening text = Scald

-- a sum that is an expression of its own
abbrev pub own_sum : List Need → List Need
own_sum rest = fresh ∷ group Sum 0 ∷ rest

-- two numbers
abbrev pub bounds : List Need → List Need
bounds rest = item Number ∷ mark Colon ∷ item Number ∷ mark Semicolon ∷ rest

-- the constants of a text, which version 2 has, before these
abbrev pub constants : Edition → List Need → List Need
constants First rest = rest
constants Second rest = group Constants 0 ∷ rest

-- a text from its macros on
abbrev pub from_macros : Edition → List Need
from_macros v =
    group (Macros v) 0 ∷ mark Drawing ∷ item Word ∷ mark Semicolon ∷ group (Statements v) 0
    ∷ mark End ∷ mark Semicolon ∷ group Cases 0 ∷ mark EndOfText ∷ []

-- What follows that token, if n are open.
abbrev pub following : {p : Part} → Choice p → ℕ → List Need
following number n = []
following parameter n = []
following negated n = part Unary (suc n) ∷ []
following bracketed n = group Expr (suc n) ∷ mark CloseParenthesis ∷ []
following times n = part Unary n ∷ part Factors n ∷ []
following divided n = part Unary n ∷ part Factors n ∷ []
following plus n = group Product n ∷ part Terms n ∷ []
following less n = group Product n ∷ part Terms n ∷ []
following equal n = group Sum n ∷ []
following unequal n = mark Equals ∷ group Sum n ∷ []
following below n = part OrEqual n ∷ group Sum n ∷ []
following above n = part OrEqual n ∷ group Sum n ∷ []
following or_equal n = []
following range n = own_sum (part RangeEnd 0 ∷ mark Greater ∷ [])
following last n = own_sum []
following parameters n = group Assigns 0 ∷ mark CloseBrace ∷ []
following assign n = mark Equals ∷ own_sum []
following next_assign n = part Assign 0 ∷ part MoreAssigns 0 ∷ []
following formal n = part Range 0 ∷ []
following next_formal n = part Formal 0 ∷ part MoreFormals 0 ∷ []
following formal_outputs n = mark OpenParenthesis ∷ group SomeFormals 0 ∷ mark CloseParenthesis ∷ []
following delay n = own_sum (mark Colon ∷ own_sum (part Fall 0 ∷ mark CloseBracket ∷ []))
following fall n = own_sum (mark Colon ∷ own_sum [])
following complement n = part Atom 0 ∷ []
following zero_term n = []
following one_term n = []
following named_term n = part Range 0 ∷ []
following zero_atom n = []
following one_atom n = []
following named_atom n = part Range 0 ∷ []
following next_term n = part Term 0 ∷ part MoreTerms 0 ∷ []
following hold n = keyword Hazard ∷ []
following next_conn n = group Conn 0 ∷ part MoreConns 0 ∷ []
following outputs n = mark OpenParenthesis ∷ group SomeConns 0 ∷ mark CloseParenthesis ∷ []
following constant n = item Word ∷ mark Equals ∷ own_sum (mark Semicolon ∷ [])
following use_ n =
    mark Colon ∷ item Word ∷ part Delay 0 ∷ part Parameters 0 ∷ mark OpenParenthesis ∷ group Conns 0
    ∷ mark CloseParenthesis ∷ part Outputs 0 ∷ mark Semicolon ∷ []
following wire n = item Name ∷ part Range 0 ∷ own_sum (mark Colon ∷ own_sum (mark Semicolon ∷ []))
following (if_ {v = v}) n =
    fresh ∷ group Expr 0 ∷ mark Then ∷ group (Statements v) (suc n) ∷ part (Otherwise v) (suc n)
    ∷ mark End ∷ mark Semicolon ∷ []
following for_ n =
    item Word ∷ mark Equals ∷ own_sum (keyword To ∷ own_sum (keyword Do
    ∷ group (Statements Second) (suc n) ∷ mark End ∷ mark Semicolon ∷ []))
following (else_ {v = v}) n = group (Statements v) n ∷ []
following (macro {v = v}) n =
    item Word ∷ part Parameters 0 ∷ mark OpenParenthesis ∷ group Formals 0 ∷ mark CloseParenthesis
    ∷ part FormalOutputs 0 ∷ mark Semicolon ∷ group (Statements v) 0 ∷ mark End
    ∷ mark Semicolon ∷ []
following index n = item Number ∷ mark Greater ∷ []
following entry n = part Index 0 ∷ mark Equals ∷ item Number ∷ []
following next_entry n = part Entry 0 ∷ part MoreEntries 0 ∷ []
following case_ n = group Entries 0 ∷ mark Semicolon ∷ []
following wire_bounds n = bounds []
following precision_skew n = bounds []
following clock_skew n = bounds []
following (text {v = v}) n =
    item Number ∷ mark Semicolon ∷ item Clock ∷ item Number ∷ keyword By ∷ item Number
    ∷ mark Semicolon ∷ part WireBounds 0 ∷ part PrecisionSkew 0 ∷ part ClockSkew 0
    ∷ constants v (from_macros v)

-- what a group begins with
abbrev pub lead : Group → Part
lead Product = Unary
lead Sum = Unary
lead Expr = Unary
lead Conn = Term
lead SomeConns = Term
lead Conns = Term
lead SomeFormals = Formal
lead Formals = Formal
lead Assigns = Assign
lead Entries = Entry
lead Constants = Constant
lead (Statements v) = Statement v
lead (Macros v) = Macro v
lead Cases = CaseStatement

-- and what follows it
abbrev pub others : Group → ℕ → List Need
others Product n = part Factors n ∷ []
others Sum n = part Factors n ∷ part Terms n ∷ []
others Expr n = part Factors n ∷ part Terms n ∷ part Comparison n ∷ []
others Conn n = part MoreTerms n ∷ part Hold n ∷ []
others SomeConns n = part MoreTerms n ∷ part Hold n ∷ part MoreConns n ∷ []
others Conns n = part MoreTerms n ∷ part Hold n ∷ part MoreConns n ∷ []
others SomeFormals n = part MoreFormals n ∷ []
others Formals n = part MoreFormals n ∷ []
others Assigns n = part MoreAssigns n ∷ []
others Entries n = part MoreEntries n ∷ []
others Constants n = group Constants n ∷ []
others (Statements v) n = group (Statements v) n ∷ []
others (Macros v) n = group (Macros v) n ∷ []
others Cases n = group Cases n ∷ []

-- What a choice costs: it opens one more parenthesis, minus sign, IF or FOR, it is a binary
-- operator, or nothing.
pub data Cost : Type 0 where
  plain : Cost
  opens : Cost
  operator : Cost

abbrev pub cost : {p : Part} → Choice p → Cost
cost number = plain
cost parameter = plain
cost negated = opens
cost bracketed = opens
cost times = operator
cost divided = operator
cost plus = operator
cost less = operator
cost equal = operator
cost unequal = operator
cost below = operator
cost above = operator
cost or_equal = plain
cost range = plain
cost last = plain
cost parameters = plain
cost assign = plain
cost next_assign = plain
cost formal = plain
cost next_formal = plain
cost formal_outputs = plain
cost delay = plain
cost fall = plain
cost complement = plain
cost zero_term = plain
cost one_term = plain
cost named_term = plain
cost zero_atom = plain
cost one_atom = plain
cost named_atom = plain
cost next_term = plain
cost hold = plain
cost next_conn = plain
cost outputs = plain
cost constant = plain
cost use_ = plain
cost wire = plain
cost if_ = opens
cost for_ = opens
cost else_ = plain
cost macro = plain
cost index = plain
cost entry = plain
cost next_entry = plain
cost case_ = plain
cost wire_bounds = plain
cost precision_skew = plain
cost clock_skew = plain
cost text = plain
