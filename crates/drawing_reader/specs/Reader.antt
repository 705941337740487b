-- What a cursor has before it.
use Rattle.std.specs.Prelude.{◌≡◌, ℕ, List, [], ◌∷◌, map, Option, Some, None, option_map, Result, Ok, Err}
use Rattle.std.specs.Global.{Vec, Box}
use Rattle.scald_base.specs.declared.refusal.Place.{Place}
use Rattle.scald_base.specs.declared.refusal.Stop.{Stop}
use Rattle.drawing_grammar.specs.declared.header.NumberPair.{NumberPair}
use Rattle.scald_lex.specs.declared.token.Token as lex
use Rattle.assertion_syntax.specs.declared.name.SignalName.{SignalName}
use Rattle.drawing_tree.specs.declared.connection.RangeExpr.{RangeExpr}
use Rattle.drawing_tree.specs.declared.statement.Stmt.{Stmt}
use Rattle.drawing_tree.specs.Tree.{Assignment, written_range_of, assignment_of, both_of, written_fall_of, connection_of, statements_of}
use Rattle.drawing_grammar.specs.declared.terminal.Keyword.TheVariants.{By, To, Do}
use Rattle.drawing_grammar.specs.declared.edition.Edition.{Edition}
use Rattle.drawing_tree.specs.declared.expr.Expr.{Expr}
use Rattle.drawing_tree.specs.Expression.{expression_of}
use Rattle.drawing_grammar.specs.declared.terminal.Terminal.TheVariants.{Clock, Drawing, End, Word, Number, Name, Semicolon, Equals, OpenParenthesis, CloseParenthesis, EndOfText}
use Rattle.drawing_reader.specs.declared.use_statement.Details.{Details}
use Rattle.drawing_reader.specs.declared.cursor.Cursor.{Cursor}
use Rattle.drawing_grammar.specs.Lexeme.{Lexeme, lexeme_of, lexemes, number_of}
use Rattle.drawing_grammar.specs.Grammar.{Need, mark, item, keyword, part, group, own_sum, bounds, Range, Delay, Parameters, Conns, Outputs, Statements}
use Rattle.drawing_grammar.specs.Sketch.{Delays, PlacedList, signal_of, number_pair}
use Rattle.drawing_grammar.specs.Machine.{Verdict, Complete, verdict, Moves, Fails}

-- the tokens before it
abbrev pub tokens_at : Cursor → List Lexeme
tokens_at c = lexemes c.text.now c.rest

-- what they give of these needs
abbrev pub ahead : Cursor → (needs : List Need) → Verdict needs
ahead c needs = verdict (tokens_at c) needs c.operators

-- a token with its text
abbrev pub at : Cursor → lex.Token → Lexeme
at c t = lexeme_of c.text.now t

abbrev pub first_token : List lex.Token → Option lex.Token
first_token [] = None
first_token (t ∷ ts) = Some t

abbrev pub other_tokens : List lex.Token → List lex.Token
other_tokens [] = []
other_tokens (t ∷ ts) = ts

-- The first token was taken.
pub record Taken (old new : Cursor) : Type 0 where
  pub token : Lexeme
  pub tokens : tokens_at old ≡ token ∷ tokens_at new

-- Two numbers with a colon between them and a semicolon after them, in a statement that begins at
-- this place.
pub record ReadsPair (pair : NumberPair) (place : Place) (old new : Cursor) : Type 0 where
  pub first : Lexeme
  pub second : Lexeme
  pub is : pair ≡ record { first = number_of first; second = number_of second; place = place }
  pub leads : (rest : List Need) →
      Moves (ahead old (bounds rest)) (ahead new rest) (λ v. (first, (second, v)))

abbrev pub PairAt : Result NumberPair Stop → Place → Cursor → Cursor → Type 0
PairAt (Ok pair) place old new = ReadsPair pair place old new
PairAt (Err s) place old new = (rest : List Need) → Fails (ahead old (bounds rest)) s

-- The units and ticks of the clock.
abbrev pub clock_needs : List Need → List Need
clock_needs rest =
    item Clock ∷ item Number ∷ keyword By ∷ item Number ∷ mark Semicolon ∷ rest

pub record ReadsClock (pair : NumberPair) (old new : Cursor) : Type 0 where
  pub begin : Lexeme
  pub units : Lexeme
  pub ticks : Lexeme
  pub is : pair ≡ number_pair begin units ticks
  pub leads : (rest : List Need) → Moves (ahead old (clock_needs rest)) (ahead new rest)
      (λ v. (begin, (units, (ticks, v))))

abbrev pub ClockAt : Result NumberPair Stop → Cursor → Cursor → Type 0
ClockAt (Ok pair) old new = ReadsClock pair old new
ClockAt (Err s) old new = (rest : List Need) → Fails (ahead old (clock_needs rest)) s

-- A net, with its range if one is written.
abbrev pub net_needs : List Need → List Need
net_needs rest = item Name ∷ part Range 0 ∷ rest

pub record ReadsNet (name : SignalName) (range : Option (Box RangeExpr)) (old new : Cursor) :
    Type 0 where
  pub token : Lexeme
  pub is : name ≡ signal_of token
  pub leads : (rest : List Need) → Moves (ahead old (net_needs rest)) (ahead new rest)
      (λ v. (token, (written_range_of range, v)))

abbrev pub NetAt : Result (SignalName × Option (Box RangeExpr)) Stop → Cursor → Cursor → Type 0
NetAt (Ok (name, range)) old new = ReadsNet name range old new
NetAt (Err s) old new = (rest : List Need) → Fails (ahead old (net_needs rest)) s

-- The variable of a FOR, and the first and the last value that it takes.
abbrev pub value_needs : List Need → List Need
value_needs rest = item Word ∷ mark Equals ∷ own_sum (keyword To ∷ own_sum (keyword Do ∷ rest))

pub record ReadsValues (variable : List ℕ) (first last : Expr) (old new : Cursor) : Type 0 where
  pub word : Lexeme
  pub is : variable ≡ word.text
  pub leads : (rest : List Need) → Moves (ahead old (value_needs rest)) (ahead new rest)
      (λ v. (word, (expression_of first, (expression_of last, v))))

abbrev pub ValuesAt : Result (List ℕ × Expr × Expr) Stop → Cursor → Cursor → Type 0
ValuesAt (Ok (variable, first, last)) old new = ReadsValues variable first last old new
ValuesAt (Err s) old new = (rest : List Need) → Fails (ahead old (value_needs rest)) s

-- What stands between the kind of a use and its end, wherever its parameters are named.
abbrev pub details : List Need → List Need
details rest =
    part Delay 0 ∷ part Parameters 0 ∷ mark OpenParenthesis ∷ group Conns 0 ∷ mark CloseParenthesis
    ∷ part Outputs 0 ∷ mark Semicolon ∷ rest

abbrev pub delays_in : Details → Delays
delays_in x = record { delay = option_map both_of x.delay; fall = written_fall_of x.fall }

abbrev pub parameters_in : Details → List Place → PlacedList Assignment
parameters_in x places = record { items = map assignment_of x.params; places = places }

pub record ReadsDetails (x : Details) (old new : Cursor) : Type 0 where
  pub places : List Place
  pub leads : (rest : List Need) → Moves (ahead old (details rest)) (ahead new rest) (λ v. (
    delays_in x,
    (
      parameters_in x places,
      (map connection_of x.ins, (map connection_of x.outs, v)),
    ),
  ))

abbrev pub DetailsAt : Result Details Stop → Cursor → Cursor → Type 0
DetailsAt (Ok x) old new = ReadsDetails x old new
DetailsAt (Err s) old new = (rest : List Need) → Fails (ahead old (details rest)) s

-- The statements of a macro or of a drawing, from the semicolon in front of them to the END after
-- them.
abbrev pub body : Edition → List Need → List Need
body e rest = mark Semicolon ∷ group (Statements e) 0 ∷ mark End ∷ mark Semicolon ∷ rest

-- The name of a drawing, and its statements.
abbrev pub drawing_needs : Edition → List Need → List Need
drawing_needs e rest = mark Drawing ∷ item Word ∷ body e rest

pub record ReadsDrawing (e : Edition) (name : List ℕ) (statements : Vec Stmt) (old new : Cursor) :
    Type 0 where
  pub word : Lexeme
  pub is : name ≡ word.text
  pub leads : (rest : List Need) → Moves (ahead old (drawing_needs e rest)) (ahead new rest)
      (λ v. (word, (statements_of statements.items, v)))

abbrev pub DrawingAt : Edition → Result (List ℕ × Vec Stmt) Stop → Cursor → Cursor → Type 0
DrawingAt e (Ok (name, statements)) old new = ReadsDrawing e name statements old new
DrawingAt e (Err s) old new = (rest : List Need) → Fails (ahead old (drawing_needs e rest)) s

-- The cursor is at the end and nothing follows, or reading stops so.
abbrev pub EndAt : {X : Type 0} → Result X Stop → Cursor → Type 0
EndAt (Ok x) old = ahead old (mark EndOfText ∷ []) ≡ Complete tt
EndAt (Err s) old = Fails (ahead old (mark EndOfText ∷ [])) s
