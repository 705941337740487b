-- Small drawings, and the names that they spread.
use Rattle.std.proofs.Common.{◌≡◌, ℕ, pos, Bool, true, false, List, [], ◌∷◌, ◌++◌, Option, Some, None, refl}
use Rattle.std.specs.Prelude.{codes}
use Rattle.std.specs.Fmt.{digits}
use Rattle.scald_base.specs.Time.{Header}
use Rattle.scald_base.specs.declared.refusal.Place.{Place}
use Rattle.scald_base.specs.declared.assertion.AssertSpec.TheVariants.{None as Unasserted}
use Rattle.drawing_tree.specs.Expression.{Expression, Number, Param, Binary}
use Rattle.drawing_tree.specs.declared.expr.Op.TheVariants.{Sub}
use Rattle.drawing_tree.specs.Tree.{Range, Item, Zero, One, Named, Term, Connection, Use, Statement, If, For, Statements, nil, cons, else_, Formal, Macro, Drawing}
use Rattle.macro_expander.specs.Macros.{given_to, inside_of}
use Rattle.drawing_omissions.specs.declared.spread.Finding.{Finding}
use Rattle.drawing_omissions.specs.declared.spread.Finding.TheVariants.{Spread as ASpread, Loop}
use Rattle.drawing_tree.specs.declared.drawing.CaseStmt.{CaseStmt}
use Rattle.drawing_omissions.specs.CaseBits.{bits_of}
use Rattle.drawing_omissions.specs.Fors.{fors}
use Rattle.drawing_omissions.specs.Spreads.{spreading_at, spreads}

-- ---- drawings

-- the connection at a column
abbrev at : ℕ → Place
at col = record { line = 4; col = col }

abbrev header : Header
header = record {
  units = 8;
  ticks = 50;
  wire = record { min = 0; max = 0 };
  pskew = (0, 0);
  cskew = (0, 0);
}

abbrev number : ℕ → Expression
number n = Number (pos n)

abbrev bits : Expression → Expression → Option Range
bits first last = Some (record { first = first; last = Some last })

abbrev to : ℕ → Option Range
to last = bits (number 0) (number last)

abbrev term : Item → Term
term item = record { minus = false; item = item }

abbrev signal : Bool → List ℕ → Option Range → Item
signal global base range = Named (record { base = base; global = global; spec = Unasserted }) range

abbrev local : List ℕ → Option Range → Term
local base range = term (signal false base range)

abbrev connection : ℕ → List Term → Connection
connection col terms = record { terms = terms; hold = false; place = at col }

-- one name
abbrev name : ℕ → List ℕ → Option Range → Connection
name col base range = connection col (local base range ∷ [])

abbrev used : List ℕ → List ℕ → List Connection → List Connection → Statement
used label kind ins outs = Use (record {
  label = label;
  kind = kind;
  delay = None;
  fall = None;
  params = [];
  ins = ins;
  outs = outs;
  place = at 1;
})

-- a buffer from this to bits 0 to 3 of "X"
abbrev buffer : Connection → Statement
buffer input = used (codes "b") (codes "BUF") (input ∷ []) (name 9 (codes "X") (to 3) ∷ [])

abbrev formal : List ℕ → Option Range → Formal
formal base range = record { base = base; range = range }

abbrev drawn : List Macro → Statements → Drawing
drawn macros body = record {
  version = 1;
  header = header;
  consts = [];
  const_places = [];
  macros = macros;
  name = codes "ROW";
  body = body;
  cases = [];
}

abbrev alone : Statement → Drawing
alone s = drawn [] (cons s nil)

abbrev spread : ℕ → List ℕ → ℕ → Finding
spread col text width = ASpread (record { place = at col; name = text; width = width })

-- the FOR at a column
abbrev loop : ℕ → Bool → Finding
loop col has_turn = Loop (record { place = at col; has_turn = has_turn })

-- ---- one connection

name_without_range : spreads (alone (buffer (name 7 (codes "A") None))) ≡ spread 7 (codes "A") 4 ∷ []
unfolding spreads spreading_at
name_without_range = refl

complemented_name : spreads (alone (buffer (connection 7 ((record {
  minus = true;
  item = signal false (codes "A") None;
}) ∷ [])))) ≡ spread 7 (codes "A") 4 ∷ []
unfolding spreads spreading_at
complemented_name = refl

-- bit 0 is what it says
one_bit_by_its_range : spreads (alone (buffer (name 7 (codes "A") (to 0)))) ≡ []
unfolding spreads spreading_at
one_bit_by_its_range = refl

constant_is_no_name : spreads (alone (buffer (connection 7 (term Zero ∷ [])))) ≡ []
unfolding spreads spreading_at
constant_is_no_name = refl

two_names_are_two_bits :
    spreads (alone (used (codes "b") (codes "BUF")
    (connection 7 (local (codes "A") None ∷ local (codes "B") None ∷ []) ∷ [])
    (name 9 (codes "X") (to 1) ∷ []))) ≡ []
unfolding spreads spreading_at
two_names_are_two_bits = refl

-- ---- one use

-- there is nothing to spread over
one_bit_over_one :
    spreads (alone (used (codes "b") (codes "BUF") (name 7 (codes "A") None ∷ [])
    (name 9 (codes "X") None ∷ []))) ≡ []
unfolding spreads spreading_at
one_bit_over_one = refl

-- the output decides, which is never spread, and each input is spread by itself
inputs_in_their_order :
    spreads (alone (used (codes "g") (codes "AND")
    (name 6 (codes "A") None ∷ name 7 (codes "B") (to 1) ∷ name 8 (codes "C") None ∷ [])
    (name 9 (codes "X") (to 1) ∷ [])))
    ≡ spread 6 (codes "A") 2 ∷ spread 8 (codes "C") 2 ∷ []
unfolding spreads spreading_at
inputs_in_their_order = refl

-- a change function takes all bits of all its inputs
change_function :
    spreads (alone (used (codes "c") (codes "CHG")
    (name 6 (codes "A") None ∷ name 7 (codes "B") (to 3) ∷ [])
    (name 9 (codes "X") (to 3) ∷ []))) ≡ []
unfolding spreads spreading_at
change_function = refl

-- a checker is as wide as its widest input
checker :
    spreads (alone (used (codes "k") (codes "SETUP_HOLD_CHK")
    (name 6 (codes "CK") None ∷ name 7 (codes "D") (to 2) ∷ []) []))
    ≡ spread 6 (codes "CK") 3 ∷ []
unfolding spreads spreading_at
checker = refl

-- the terms of a connection have their bits together
terms_of_an_output :
    spreads (alone (used (codes "b") (codes "BUF") (name 7 (codes "A") None ∷ [])
    (connection 9 (local (codes "X") (to 1) ∷ local (codes "Y") None ∷ []) ∷ [])))
    ≡ spread 7 (codes "A") 3 ∷ []
unfolding spreads spreading_at
terms_of_an_output = refl

terms_of_an_input :
    spreads (alone (used (codes "k") (codes "SETUP_HOLD_CHK")
    (name 6 (codes "CK") None ∷ connection 7 (term Zero ∷ term One ∷ local (codes "D") (to 1) ∷ []) ∷ [])
    [])) ≡ spread 6 (codes "CK") 4 ∷ []
unfolding spreads spreading_at
terms_of_an_input = refl

-- a range of more than 256 bits is refused, and has none
no_range :
    spreads (alone (used (codes "b") (codes "BUF") (name 7 (codes "A") None ∷ [])
    (name 9 (codes "X") (to 256) ∷ []))) ≡ []
unfolding spreads spreading_at
no_range = refl

-- ---- macros

-- four bits of "D" in, and in the body "C" and its formals over four bits
abbrev wide : Macro
wide = record {
  name = codes "WIDE";
  params = (record { name = codes "N"; value = number 4 }) ∷ [];
  ins = formal (codes "D") (bits (number 0) (Binary Sub (Param (codes "N")) (number 1)))
      ∷ formal (codes "E") None ∷ [];
  outs = [];
  body = cons (buffer (name 20 (codes "D") None))
      (cons (buffer (name 21 (codes "E") None))
      (cons (buffer (name 22 (codes "C") None))
      (cons (buffer (connection 23 (term (signal true (codes "D") None) ∷ []))) nil)));
  place = at 2;
}

-- over the formal of four bits, and in the body the names that are no formals, with their path
over_a_formal :
    spreads (drawn (wide ∷ []) (cons (used (codes "u") (codes "WIDE")
    (name 6 (codes "A") None ∷ name 7 (codes "B") None ∷ []) []) nil))
    ≡ spread 6 (codes "A") 4 ∷ spread 22 (codes "u/C") 4 ∷ spread 23 (codes "/D") 4 ∷ []
unfolding spreads spreading_at given_to inside_of
over_a_formal = refl

as_wide_as_its_formal :
    spreads (drawn (wide ∷ []) (cons (used (codes "u") (codes "WIDE")
    (name 6 (codes "A") (to 3) ∷ name 7 (codes "B") None ∷ []) []) nil))
    ≡ spread 22 (codes "u/C") 4 ∷ spread 23 (codes "/D") 4 ∷ []
unfolding spreads spreading_at given_to inside_of
as_wide_as_its_formal = refl

-- four bits of "Q" out, and in the body names over it and over as many bits by the parameter
abbrev driving : Macro
driving = record {
  name = codes "DRIVING";
  params = (record { name = codes "N"; value = number 4 }) ∷ [];
  ins = [];
  outs = formal (codes "Q") (bits (number 0) (Binary Sub (Param (codes "N")) (number 1))) ∷ [];
  body = cons (used (codes "b") (codes "BUF") (name 20 (codes "C") None ∷ []) (name 9 (codes "Q") None ∷ []))
      (cons (buffer (name 21 (codes "Q") None))
      (cons (used (codes "c") (codes "BUF") (name 22 (codes "E") None ∷ [])
      (name 9 (codes "Y") (bits (number 1) (Param (codes "N"))) ∷ [])) nil));
  place = at 2;
}

-- the net outside is driven, and not spread
over_an_output :
    spreads (drawn (driving ∷ []) (cons (used (codes "u") (codes "DRIVING") []
    (name 6 (codes "X") None ∷ [])) nil))
    ≡ spread 20 (codes "u/C") 4 ∷ spread 22 (codes "u/E") 4 ∷ []
unfolding spreads spreading_at given_to inside_of
over_an_output = refl

-- ---- IF and FOR

-- once for each value, and in the body of a macro by the path of each use
abbrev simple : Macro
simple = record {
  name = codes "SIMPLE";
  params = [];
  ins = [];
  outs = [];
  body = cons (buffer (name 20 (codes "C") None)) nil;
  place = at 2;
}

each_turn :
    spreads (drawn (simple ∷ []) (cons (For (codes "i") (number 1) (number 2)
    (cons (buffer (name 7 (codes "A") None)) (cons (used (codes "u") (codes "SIMPLE") [] []) nil))
    (at 1)) nil))
    ≡ loop 1 true ∷ spread 7 (codes "A") 4 ∷ spread 20 (codes "u#1/C") 4
    ∷ spread 7 (codes "A") 4 ∷ spread 20 (codes "u#2/C") 4 ∷ []
unfolding digits spreads spreading_at given_to inside_of
each_turn = refl

-- a macro in a macro: the value of a FOR stands where the use is, and not again below it
abbrev outer : Macro
outer = record {
  name = codes "OUTER";
  params = [];
  ins = [];
  outs = [];
  body = cons (For (codes "i") (number 1) (number 1)
      (cons (used (codes "v") (codes "SIMPLE") [] []) nil) (at 1)) nil;
  place = at 2;
}

macro_in_a_macro :
    spreads (drawn (simple ∷ outer ∷ []) (cons (For (codes "j") (number 2) (number 2)
    (cons (used (codes "u") (codes "OUTER") [] []) nil) (at 1)) nil))
    ≡ loop 1 true ∷ loop 1 true ∷ spread 20 (codes "u#2/v#1/C") 4 ∷ []
unfolding digits spreads spreading_at given_to inside_of
macro_in_a_macro = refl

-- what is not chosen spreads nothing
abbrev choice : ℕ → Drawing
choice test = alone (If (number test) (cons (buffer (name 7 (codes "A") None)) nil)
    (else_ (cons (buffer (name 8 (codes "B") None)) nil)) (at 1))

chosen : spreads (choice 1) ++ spreads (choice 0) ≡ spread 7 (codes "A") 4 ∷ spread 8 (codes "B") 4 ∷ []
unfolding spreads spreading_at
chosen = refl

-- nothing says which is chosen
no_choice :
    spreads (alone (If (Param (codes "P")) (cons (buffer (name 7 (codes "A") None)) nil)
    (else_ (cons (buffer (name 8 (codes "B") None)) nil)) (at 1))) ≡ []
unfolding spreads spreading_at
no_choice = refl

no_turn :
    spreads (alone (For (codes "i") (number 2) (number 1)
    (cons (buffer (name 7 (codes "A") None)) nil) (at 1))) ≡ loop 1 false ∷ []
unfolding spreads spreading_at
no_turn = refl

-- ---- the FORs of a text: of macros first, and each before those in it, whether they are chosen or not

abbrev for_at : ℕ → Statements → Statement
for_at col body = For (codes "i") (number 1) (number 2) body (at col)

abbrev looping : Macro
looping = record {
  name = codes "LOOPING";
  params = [];
  ins = [];
  outs = [];
  body = cons (for_at 3 nil) nil;
  place = at 2;
}

in_text_order : fors (drawn (looping ∷ []) (cons (for_at 5 (cons (for_at 6 nil) nil))
    (cons (If (number 0) (cons (for_at 7 nil) nil) (else_ (cons (for_at 8 nil) nil)) (at 1)) nil)))
    ≡ at 3 ∷ at 5 ∷ at 6 ∷ at 7 ∷ at 8 ∷ []
in_text_order = refl

-- ---- the entries of a case

abbrev case : CaseStmt
case = record {
  entries = record { name = record { base = codes "S"; global = true; spec = Unasserted }; bit = 2; value = 1; place = at 7 }
      ∷ record { name = record { base = codes "T"; global = false; spec = Unasserted }; bit = 0; value = 0; place = at 8 }
      ∷ [];
  place = at 1;
}

entries_of_a_case : bits_of case
    ≡ record { name = codes "/S"; bit = 2; one = true } ∷ record { name = codes "T"; bit = 0; one = false } ∷ []
entries_of_a_case = refl
