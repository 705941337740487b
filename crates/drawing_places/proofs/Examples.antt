-- Where names stand in a drawing that uses a macro twice, the second time in a FOR, and has a WIRE
-- in each branch of an IF.
use Rattle.std.proofs.Common.{◌≡◌, ℕ, pos, Bool, true, false, List, [], ◌∷◌, Option, Some, None, refl}
use Rattle.std.specs.Prelude.{codes}
use Rattle.scald_base.specs.declared.refusal.Place.{Place}
use Rattle.scald_base.specs.declared.assertion.AssertSpec.{AssertSpec}
use Rattle.scald_base.specs.declared.assertion.AssertSpec.TheVariants.{None as Unasserted, Stable}
use Rattle.assertion_syntax.specs.declared.name.SignalName.{SignalName}
use Rattle.drawing_tree.specs.Expression.{Expression, Number}
use Rattle.drawing_tree.specs.Tree.{Named, Connection, UseStatement, Use, Wire, If, For, Statement, nil, cons, else_, Drawing}
use Rattle.drawing_places.specs.Names.{Spot, spot_of}
use Rattle.drawing_places.specs.Path.{is_global_text, labels_of, last_part, scope_part}
use Rattle.drawing_places.specs.Uses.{uses_through}

-- ---- paths

scope_of_a_net : scope_part (codes "u1/left/X") ≡ codes "u1/left/"
scope_of_a_net = refl

name_of_a_net : last_part (codes "u1/left/X") ≡ codes "X"
name_of_a_net = refl

scope_of_the_drawing : scope_part (codes "X") ≡ []
scope_of_the_drawing = refl

global_begins_with_a_slash : is_global_text (codes "/CK") ≡ true
global_begins_with_a_slash = refl

net_of_a_macro_is_not_global : is_global_text (codes "u/CK") ≡ false
net_of_a_macro_is_not_global = refl

labels_without_turns : labels_of (codes "u#2/left#-1#3/") ≡ codes "u" ∷ codes "left" ∷ []
labels_without_turns = refl

label_without_a_slash : labels_of (codes "u") ≡ []
label_without_a_slash = refl

-- ---- a drawing

abbrev at : ℕ → Place
at col = record { line = 4; col = col }

abbrev number : ℕ → Expression
number n = Number (pos n)

abbrev signal : Bool → List ℕ → AssertSpec → SignalName
signal global base spec = record { base = base; global = global; spec = spec }

abbrev connection : ℕ → Bool → List ℕ → Connection
connection col global base = record {
  terms = record { minus = false; item = Named (signal global base Unasserted) None } ∷ [];
  hold = false;
  place = at col;
}

abbrev used : ℕ → List ℕ → List ℕ → Connection → Connection → UseStatement
used col label kind from to = record {
  label = label;
  kind = kind;
  delay = None;
  fall = None;
  params = [];
  ins = from ∷ [];
  outs = to ∷ [];
  place = at col;
}

abbrev wired : ℕ → List ℕ → AssertSpec → Statement
wired col base spec = Wire (record {
  name = signal false base spec;
  range = None;
  min = number 0;
  max = number 0;
  place = at col;
})

abbrev buffer : UseStatement
buffer =
    used 20 (codes "b") (codes "BUF") (connection 21 true (codes "G"))
    (connection 22 false (codes "X"))

abbrev first_use : UseStatement
first_use =
    used 40 (codes "u") (codes "M") (connection 41 false (codes "A"))
    (connection 42 false (codes "B"))

abbrev turned_use : UseStatement
turned_use =
    used 50 (codes "v") (codes "M") (connection 51 false (codes "A"))
    (connection 52 false (codes "C"))

abbrev wires : Statement
wires =
    If (number 1) (cons (wired 61 (codes "W") Unasserted) nil)
    (else_ (cons (wired 62 (codes "V") (Stable [])) nil)) (at 60)

abbrev d : Drawing
d = record {
  version = 2;
  header =
      record {
        units = 8;
        ticks = 50;
        wire = record { min = 0; max = 0 };
        pskew = (0, 0);
        cskew = (0, 0);
      };
  consts = [];
  const_places = [];
  macros =
      record {
        name = codes "M";
        params = [];
        ins = [];
        outs = [];
        body = cons (Use buffer) nil;
        place = at 10;
      }
      ∷ [];
  name = codes "ROW";
  body =
      cons (Use first_use) (cons
      (For (codes "I") (number 0) (number 1) (cons (Use turned_use) nil) (at 45))
      (cons wires nil));
  cases = [];
}

abbrev spot : ℕ → Bool → List ℕ → AssertSpec → Option Spot
spot col global base spec = Some (record { name = signal global base spec; place = at col })

-- ---- uses

through_one_use : uses_through d (codes "u/") ≡ first_use ∷ []
through_one_use = refl

through_a_use_of_a_turn : uses_through d (codes "v#1/") ≡ turned_use ∷ []
through_a_use_of_a_turn = refl

through_two : uses_through d (codes "u/b/") ≡ first_use ∷ buffer ∷ []
through_two = refl

as_far_as_labels_lead : uses_through d (codes "u/w/b/") ≡ first_use ∷ []
as_far_as_labels_lead = refl

through_no_use : uses_through d (codes "w/") ≡ []
through_no_use = refl

-- ---- names

first_of_two : spot_of d (codes "A") Unasserted ≡ spot 41 false (codes "A") Unasserted
first_of_two = refl

in_a_for : spot_of d (codes "C") Unasserted ≡ spot 52 false (codes "C") Unasserted
in_a_for = refl

after_then : spot_of d (codes "W") Unasserted ≡ spot 61 false (codes "W") Unasserted
after_then = refl

after_else : spot_of d (codes "V") (Stable []) ≡ spot 62 false (codes "V") (Stable [])
after_else = refl

not_without_its_assertion : spot_of d (codes "V") Unasserted ≡ None
not_without_its_assertion = refl

not_with_one_that_it_has_not : spot_of d (codes "W") (Stable []) ≡ None
not_with_one_that_it_has_not = refl

in_a_macro : spot_of d (codes "v#1/X") Unasserted ≡ spot 22 false (codes "X") Unasserted
in_a_macro = refl

not_in_the_drawing : spot_of d (codes "X") Unasserted ≡ None
not_in_the_drawing = refl

not_in_the_macro : spot_of d (codes "u/A") Unasserted ≡ None
not_in_the_macro = refl

global_of_a_macro : spot_of d (codes "/G") Unasserted ≡ spot 21 true (codes "G") Unasserted
global_of_a_macro = refl

not_global : spot_of d (codes "/A") Unasserted ≡ None
not_global = refl

not_the_global : spot_of d (codes "u/G") Unasserted ≡ None
not_the_global = refl
