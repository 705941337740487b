-- What statements and cases stand for: each part of a use, the operators of a condition, and the
-- numbers of a case.
use Rattle.std.proofs.Common.{◌≡◌, ℕ, true, false, List, [], ◌∷◌, ◌++◌, map, Some, None, pos, refl}
use Rattle.std.specs.Prelude.{codes, option_map}
use Rattle.scald_lex.specs.Piece.{word_at, number_at, name_behind, dash_before, piece_at}
use Rattle.drawing_tree.specs.declared.expr.Op.TheVariants.{Sub, Mul, Div, Le, Gt}
use Rattle.drawing_tree.specs.Expression.{Negate, Binary}
use Rattle.drawing_tree.specs.Tree.{Zero, One, Named, Connection, Use, Wire, If, nil, cons, no_else, else_}
use Rattle.drawing_grammar.specs.Lexeme.{word_terminal, symbol_terminal}
use Rattle.drawing_grammar.specs.Machine.{verdict}
use Rattle.drawing_grammar.specs.Sketch.{signal_named}
use Rattle.drawing_grammar.proofs.ExamplesVersions.{place, read, text, body, one, use_at, second, num, param}

-- ---- a use, and WIRE

abbrev bits_of_a : Connection
bits_of_a = record {
  terms =
      record {
        minus = true;
        item = Named (signal_named (codes "\"A\"")) (Some (record {
          first = num 1;
          last = Some (num 2);
        }));
      }
      ∷ record { minus = false; item = One } ∷ [];
  hold = true;
  place = place 1 55;
}

abbrev zero : Connection
zero = record {
  terms = record { minus = false; item = Zero } ∷ [];
  hold = false;
  place = place 1 71;
}

abbrev output : Connection
output = record {
  terms = record { minus = false; item = Named (signal_named (codes "\"Q\"")) None } ∷ [];
  hold = false;
  place = place 1 79;
}

a_use : body (text second (codes "b:BUF [1:2,3:4] {P=5} (-\"A\"<1:2>&ONE!H,ZERO)->(\"Q\");"))
    ≡ one (Use (record {
      label = codes "b";
      kind = codes "BUF";
      delay = Some (num 1, num 2);
      fall = Some (num 3, num 4);
      params = record { name = codes "P"; value = num 5 } ∷ [];
      ins = bits_of_a ∷ zero ∷ [];
      outs = output ∷ [];
      place = place 1 32;
    }))
unfolding verdict piece_at word_at number_at name_behind dash_before word_terminal symbol_terminal
a_use = refl

a_wire : body (text second (codes "WIRE \"A\"<3> 6:7;"))
    ≡ one (Wire (record {
      name = signal_named (codes "\"A\"");
      range = Some (record { first = num 3; last = None });
      min = num 6;
      max = num 7;
      place = place 1 32;
    }))
unfolding verdict piece_at word_at number_at name_behind word_terminal symbol_terminal
a_wire = refl

-- ---- conditions

-- Operators of one rank group from the left, and products before sums.
a_choice : body (text second (codes "IF A-B-2*C/D<=-4 THEN ELSE u:BUF();END;"))
    ≡ one (If
    (Binary Le
    (Binary Sub (Binary Sub (param (codes "A")) (param (codes "B")))
    (Binary Div (Binary Mul (num 2) (param (codes "C"))) (param (codes "D"))))
    (Negate (num 4)))
    nil (else_ (cons (use_at 59 (codes "u") (codes "BUF")) nil)) (place 1 32))
unfolding verdict piece_at word_at number_at dash_before word_terminal symbol_terminal
a_choice = refl

in_parentheses : body (text second (codes "IF A>(B-(C-D)) THEN END;"))
    ≡ one (If
    (Binary Gt (param (codes "A"))
    (Binary Sub (param (codes "B")) (Binary Sub (param (codes "C")) (param (codes "D")))))
    nil no_else (place 1 32))
unfolding verdict piece_at word_at number_at dash_before word_terminal symbol_terminal
in_parentheses = refl

-- ---- cases

-- Without an index an entry is of bit 0, and a number above those of 32 bits is their greatest.
numbers_of_a_case :
    option_map (λ s. map (λ c. map (λ e. e.bit ∷ e.value ∷ []) c.entries) s.cases)
    (read (text second [] ++ codes "CASE \"A\"=1,\"B\"<3>=4294967296;"))
    ≡ Some (((0 ∷ 1 ∷ []) ∷ (3 ∷ 4294967295 ∷ []) ∷ []) ∷ [])
unfolding verdict piece_at word_at number_at name_behind word_terminal symbol_terminal
numbers_of_a_case = refl
