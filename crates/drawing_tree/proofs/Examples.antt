-- Canonical texts of small trees, one for each rule of spacing and of parentheses.
use Rattle.std.proofs.Common.{◌≡◌, ℕ, pos, negsuc, Bool, true, false, List, [], ◌∷◌, Option, Some, None, refl}
use Rattle.std.specs.Prelude.{codes, ⊤}
use Rattle.std.specs.Fmt.{digits}
use Rattle.scald_base.specs.declared.refusal.Place.{Place}
use Rattle.scald_base.specs.declared.assertion.AssertSpec.TheVariants.{None as Unasserted}
use Rattle.drawing_tree.specs.declared.expr.Op.TheVariants.{Add, Sub, Mul, Div, Eq, Ne, Lt, Le, Gt, Ge}
use Rattle.drawing_tree.specs.Expression.{Expression, Number, Param, Negate, Binary}
use Rattle.assertion_syntax.specs.declared.name.SignalName.{SignalName}
use Rattle.drawing_tree.specs.declared.drawing.CaseStmt.{CaseStmt}
use Rattle.drawing_tree.specs.Tree.{Range, Item, Zero, One, Named, Term, Connection, UseStatement, Use, If, For, nil, cons, no_else, else_, EachDelay}
use Rattle.drawing_tree.specs.ExpressionText.{condition_text, sum_text}
use Rattle.drawing_tree.specs.Canonical.{connection_text, bracketed, bracketed_if_some, use_head, use_text, wire_text, statement_lines, statements_lines, else_lines, header_lines, constant_line, body_lines, macro_head, macro_lines, case_lines, canonical}

-- ---- expressions

abbrev num : ℕ → Expression
num n = Number (pos n)

abbrev pub a : Expression
a = Param (codes "A")

abbrev b : Expression
b = Param (codes "B")

-- (1+2)*3-(-(4))
mixed : condition_text (Binary Sub (Binary Mul (Binary Add (num 1) (num 2)) (num 3)) (Negate (num 4))) ≡ codes "(1 + 2) * 3 - -4"
unfolding digits condition_text
mixed = refl

sum_on_the_right : condition_text (Binary Sub a (Binary Add b (num 1))) ≡ codes "A - (B + 1)"
unfolding digits condition_text
sum_on_the_right = refl

sum_on_the_left : condition_text (Binary Add (Binary Sub a b) (num 1)) ≡ codes "A - B + 1"
unfolding digits condition_text
sum_on_the_left = refl

product_on_the_right : condition_text (Binary Div a (Binary Mul b (num 2))) ≡ codes "A / (B * 2)"
unfolding digits condition_text
product_on_the_right = refl

product_on_the_left : condition_text (Binary Mul (Binary Div a b) (num 2)) ≡ codes "A / B * 2"
unfolding digits condition_text
product_on_the_left = refl

minus_of_a_minus : condition_text (Negate (Negate a)) ≡ codes "-(-A)"
unfolding digits condition_text
minus_of_a_minus = refl

minus_of_a_product : condition_text (Negate (Binary Mul (Negate a) (Negate b))) ≡ codes "-(-A * -B)"
unfolding digits condition_text
minus_of_a_product = refl

minus_of_a_sum : condition_text (Negate (Binary Add a b)) ≡ codes "-(A + B)"
unfolding digits condition_text
minus_of_a_sum = refl

at_most : condition_text (Binary Le a b) ≡ codes "A <= B"
unfolding digits condition_text
at_most = refl

above : condition_text (Binary Gt a b) ≡ codes "A > B"
unfolding digits condition_text
above = refl

comparison_of_comparisons : condition_text (Binary Ne (Binary Lt a b) (Binary Ge (Binary Add a b) (num 0))) ≡ codes "(A < B) != (A + B >= 0)"
unfolding digits condition_text
comparison_of_comparisons = refl

comparison_as_a_sum : sum_text (Binary Eq a (num 8)) ≡ codes "(A = 8)"
unfolding digits condition_text
comparison_as_a_sum = refl

-- no text has such a number
negative_number : condition_text (Binary Sub (Number (negsuc 2)) (Number (negsuc 4))) ≡ codes "-3 - -5"
unfolding digits condition_text
negative_number = refl

-- ---- connections

abbrev pub here : Place
here = record { line = 1; col = 1 }

abbrev plain : List ℕ → SignalName
plain base = record { base = base; global = false; spec = Unasserted }

abbrev term : Bool → Item → Term
term minus item = record { minus = minus; item = item }

abbrev pub single : Item → Connection
single item = record { terms = term false item ∷ []; hold = false; place = here }

abbrev pub named : List ℕ → Item
named base = Named (plain base) None

abbrev bits : Expression → Option Expression → Option Range
bits first last = Some (record { first = first; last = last })

terms_and_hold : connection_text
    (record {
      terms = term true (named (codes "A")) ∷ term false Zero ∷ term true One ∷ term false
          (Named (record { base = codes "CK"; global = true; spec = Unasserted }) (bits (num 0) (Some (Binary Sub a (num 1))))) ∷ [];
      hold =
          true;
      place = here;
    }) ≡ codes "-\"A\" & ZERO & -ONE & \"/CK\"<0:A - 1> !H"
unfolding digits condition_text
terms_and_hold = refl

one_bit : connection_text (single (Named (plain (codes "D")) (bits (num 3) None))) ≡ codes "\"D\"<3>"
unfolding digits condition_text
one_bit = refl

-- ---- statements

abbrev buffer : UseStatement
buffer = record {
  label = codes "b1";
  kind = codes "BUF";
  delay = Some (num 0, num 0);
  fall = None;
  params = [];
  ins = record { terms = term true (named (codes "A")) ∷ []; hold = false; place = here } ∷ [];
  outs = single (named (codes "B")) ∷ [];
  place = here;
}

abbrev pub checker : UseStatement
checker = record {
  label = codes "c";
  kind = codes "CHK";
  delay = None;
  fall = None;
  params = record { name = codes "SETUP"; value = num 20 } ∷ record { name = codes "HOLD"; value = Binary Lt a b } ∷ [];
  ins = single (named (codes "CK")) ∷ single (named (codes "D")) ∷ [];
  outs = [];
  place = here;
}

params_and_no_outputs : use_text checker ≡ codes "c : CHK {SETUP=20, HOLD=(A < B)} (\"CK\", \"D\");"
unfolding digits condition_text bracketed bracketed_if_some use_head use_text
params_and_no_outputs = refl

two_delays : use_text (record buffer { delay = Some (a, Binary Add b (num 1)); fall = Some (Negate a, Binary Lt a b) }) ≡ codes "b1 : BUF [A:B + 1, -A:(A < B)] (-\"A\") -> (\"B\");"
unfolding digits condition_text bracketed bracketed_if_some use_head use_text
two_delays = refl

-- no text draws such a use
fall_alone : use_text (record buffer { delay = None; fall = Some (num 2, num 3) }) ≡ codes "b1 : BUF (-\"A\") -> (\"B\");"
unfolding digits condition_text bracketed bracketed_if_some use_head use_text
fall_alone = refl

no_connections : use_text (record checker { params = []; ins = [] }) ≡ codes "c : CHK ();"
unfolding digits condition_text bracketed bracketed_if_some use_head use_text
no_connections = refl

wire : wire_text (record { name = plain (codes "D"); range = bits (num 0) (Some (num 7)); min = num 0; max = Negate a; place = here }) ≡ codes "WIRE \"D\"<0:7> 0:-A;"
unfolding digits condition_text wire_text
wire = refl

choices : statement_lines (codes "  ")
    (If (Binary Eq a (num 1)) (cons (If b nil no_else here) nil) (else_ (cons (Use (record checker { params = [] })) nil)) here)
    ≡ codes "  IF A = 1 THEN\n    IF B THEN\n    END;\n  ELSE\n    c : CHK (\"CK\", \"D\");\n  END;\n"
unfolding digits condition_text bracketed bracketed_if_some use_head use_text statement_lines
choices = refl

empty_else : statement_lines [] (If a nil (else_ nil) here) ≡ codes "IF A THEN\nELSE\nEND;\n"
unfolding digits condition_text statement_lines
empty_else = refl

-- its values are sums, so a comparison stands in parentheses
loop : statement_lines (codes "  ")
    (For (codes "I") (Negate (num 1)) (Binary Lt a b) (cons (For (codes "J") a b nil here) nil) here)
    ≡ codes "  FOR I = -1 TO (A < B) DO\n    FOR J = A TO B DO\n    END;\n  END;\n"
unfolding digits condition_text statement_lines
loop = refl

a_constant : constant_line (record { name = codes "N"; value = Binary Eq a (num 4) }) ≡ codes "CONST N = (A = 4);\n"
unfolding digits condition_text constant_line
a_constant = refl

-- ---- the bounds of delays

abbrev IsParam : Expression → Type 0
IsParam (Number n) = ⊥
IsParam (Param name) = ⊤
IsParam (Negate operand) = ⊥
IsParam (Binary op left right) = ⊥

each_bound : EachDelay IsParam (Some (a, b)) (Some (b, a))
each_bound = ((tt, tt), (tt, tt))

not_the_greatest : EachDelay IsParam (Some (a, num 1)) None → ⊥
not_the_greatest h = h.0.1

not_the_greatest_of_falls : EachDelay IsParam (Some (a, b)) (Some (b, num 1)) → ⊥
not_the_greatest_of_falls h = h.1.1

-- without a delay nothing is asked of a fall delay
falls_alone : EachDelay IsParam None (Some (num 1, num 1))
falls_alone = tt

-- ---- drawings

a_macro : macro_lines (record {
  name = codes "M";
  params = record { name = codes "A"; value = num 8 } ∷ [];
  ins =
      record { base = codes "D"; range = bits (num 0) (Some a) } ∷ [];
  outs =
      record { base = codes "Q"; range = None } ∷ [];
  body = nil;
  place = here;
}) ≡ codes "MACRO M {A=8} (\"D\"<0:A>) -> (\"Q\");\nEND;\n"
unfolding digits condition_text bracketed bracketed_if_some macro_head macro_lines body_lines statements_lines
a_macro = refl

abbrev case : CaseStmt
case = record {
  entries = record { name = plain (codes "A"); bit = 3; value = 0; place = here } ∷ record {
    name =
        plain (codes "B");
    bit = 0;
    value = 1;
    place = here;
  } ∷ [];
  place = here;
}

a_case : case_lines case ≡ codes "CASE \"A\"<3>=0, \"B\"<0>=1;\n"
unfolding digits
a_case = refl

whole : canonical (record {
  version = 1;
  header =
      record { units = 8; ticks = 50; wire = record { min = 0; max = 0 }; pskew = (0, 0); cskew = (0, 0) };
  consts = [];
  const_places = [];
  macros = [];
  name = codes "T";
  body =
      cons (Use buffer) nil;
  cases =
      case ∷ [];
}) ≡ codes "SCALD 1;\nCLOCK 8 x 50;\nWIRE 0:0;\nPSKEW 0:0;\nCSKEW 0:0;\nDRAWING T;\n  b1 : BUF [0:0] (-\"A\") -> (\"B\");\nEND;\nCASE \"A\"<3>=0, \"B\"<0>=1;\n"
unfolding digits condition_text bracketed bracketed_if_some use_head use_text statement_lines statements_lines else_lines header_lines body_lines
whole = refl

-- constants before macros
constants : canonical (record {
  version = 2;
  header =
      record { units = 8; ticks = 50; wire = record { min = 0; max = 0 }; pskew = (0, 0); cskew = (0, 0) };
  consts = record { name = codes "N"; value = num 4 } ∷ record { name = codes "M"; value = Binary Add (Param (codes "N")) (num 1) } ∷ [];
  const_places = here ∷ here ∷ [];
  macros =
      record {
        name = codes "W";
        params = [];
        ins = [];
        outs = [];
        body = nil;
        place = here;
      } ∷ [];
  name = codes "T";
  body =
      nil;
  cases =
      [];
}) ≡ codes "SCALD 2;\nCLOCK 8 x 50;\nWIRE 0:0;\nPSKEW 0:0;\nCSKEW 0:0;\nCONST N = 4;\nCONST M = N + 1;\nMACRO W ();\nEND;\nDRAWING T;\nEND;\n"
unfolding digits condition_text bracketed bracketed_if_some statements_lines header_lines constant_line macro_head macro_lines body_lines
constants = refl
