-- Small drawings with constants and FOR, and the order of selects.
use Rattle.std.proofs.Common.{◌≡◌, ℕ, pos, negsuc, List, [], ◌∷◌, ◌++◌, map, Some, None, false, refl}
use Rattle.std.specs.Prelude.{codes}
use Rattle.std.specs.Fmt.{digits}
use Rattle.scald_base.specs.Time.{Header}
use Rattle.scald_base.specs.declared.refusal.Place.{Place}
use Rattle.scald_base.specs.declared.refusal.RefusalKind.TheVariants.{UnknownName, ZeroDivisor}
use Rattle.scald_base.specs.declared.assertion.AssertSpec.TheVariants.{None as Unasserted}
use Rattle.drawing_tree.specs.Expression.{Expression, Number, Param, Negate, Binary}
use Rattle.drawing_tree.specs.declared.environment.Binding.{Binding}
use Rattle.drawing_tree.specs.declared.expr.Op.TheVariants.{Add, Div}
use Rattle.element_kinds.specs.declared.kind.Kind.TheVariants.{Buf, Mux2, Mux4, Mux8}
use Rattle.drawing_tree.specs.Tree.{Named, Connection, Assignment, Use, Statement, For, Statements, nil, cons, Macro, Drawing}
use Rattle.macro_expander.specs.Named.{On, NamedInstance}
use Rattle.macro_expander.specs.Outcome.{Outcome, Gives, Fails}
use Rattle.macro_expander.specs.Loops.{values_between}
use Rattle.macro_expander.specs.Flat.{flat, use_act, body_at, const_values, nothing_yet}
use Rattle.macro_expander.specs.Primitives.{in_pin_order, is_least_first, primitive_use, plan_of, all_added}
use Rattle.macro_expander.specs.Macros.{given_to, inside_of, bound_scope, inner_scope}
use Rattle.macro_expander.specs.Terms.{term_bits, joined, all_joined, wires_of, named_bits}
use Rattle.flat_circuit.specs.declared.limits.Limits.TheVariants.{None as Unlimited}

-- ---- values

three_upwards : values_between (negsuc 0) (pos 1) ≡ negsuc 0 ∷ pos 0 ∷ pos 1 ∷ []
three_upwards = refl

one_alone : values_between (pos 7) (pos 7) ≡ pos 7 ∷ []
one_alone = refl

none_where_the_first_is_greater : values_between (pos 1) (pos 0) ≡ []
none_where_the_first_is_greater = refl

-- ---- selects

selects_of_both_versions :
    in_pin_order {X = ℕ} (is_least_first 1) Mux4 (1 ∷ 0 ∷ 5 ∷ 6 ∷ 7 ∷ 8 ∷ [])
    ∷ in_pin_order (is_least_first 2) Mux4 (0 ∷ 1 ∷ 5 ∷ 6 ∷ 7 ∷ 8 ∷ [])
    ∷ in_pin_order (is_least_first 2) Mux8 (0 ∷ 1 ∷ 2 ∷ 5 ∷ [])
    ∷ in_pin_order (is_least_first 2) Mux2 (0 ∷ 5 ∷ 6 ∷ [])
    ∷ []
    ≡ (1 ∷ 0 ∷ 5 ∷ 6 ∷ 7 ∷ 8 ∷ [])
    ∷ (1 ∷ 0 ∷ 5 ∷ 6 ∷ 7 ∷ 8 ∷ [])
    ∷ (2 ∷ 1 ∷ 0 ∷ 5 ∷ [])
    ∷ (0 ∷ 5 ∷ 6 ∷ [])
    ∷ []
selects_of_both_versions = refl

-- ---- constants

abbrev at : ℕ → Place
at line = record { line = line; col = 1 }

abbrev header : Header
header = record {
  units = 8;
  ticks = 50;
  wire = record { min = 0; max = 0 };
  pskew = (0, 0);
  cskew = (0, 0);
}

abbrev constant : List ℕ → Expression → Assignment
constant name value = record { name = name; value = value }

abbrev value : List ℕ → ℕ → Binding
value name n = record { name = name; value = pos n }

-- each is evaluated with those before it, and no other
constants_in_order :
    const_values [] (constant (codes "N") (Number (pos 2))
    ∷ constant (codes "M") (Binary Add (Param (codes "N")) (Number (pos 1)))
    ∷ []) (at 3 ∷ at 4 ∷ []) (nothing_yet header)
    ≡ Gives (value (codes "N") 2 ∷ value (codes "M") 3 ∷ []) (nothing_yet header)
constants_in_order = refl

later_constant_is_unknown :
    const_values [] (constant (codes "N") (Param (codes "M"))
    ∷ constant (codes "M") (Number (pos 1))
    ∷ []) (at 3 ∷ at 4 ∷ []) (nothing_yet header)
    ≡ Fails UnknownName (at 3)
later_constant_is_unknown = refl

-- ---- FOR

abbrev number : ℕ → Expression
number n = Number (pos n)

abbrev alone : List ℕ → Connection
alone base = record {
  terms = (record {
    minus = false;
    item = Named (record { base = base; global = false; spec = Unasserted }) None;
  }) ∷ [];
  hold = false;
  place = at 0;
}

-- a buffer from "A" to "X"
abbrev buffer : List ℕ → Expression → Statement
buffer label delay = Use (record {
  label = label;
  kind = codes "BUF";
  delay = Some (delay, delay);
  fall = None;
  params = [];
  ins = alone (codes "A") ∷ [];
  outs = alone (codes "X") ∷ [];
  place = at 5;
})

abbrev loop : List ℕ → Expression → Expression → Statements → Statement
loop var first last body = For var first last body (at 4)

abbrev drawn : List Assignment → List Macro → Statements → Drawing
drawn consts macros body = record {
  version = 2;
  header = header;
  consts = consts;
  const_places = map (λ (c : Assignment). at 3) consts;
  macros = macros;
  name = codes "ROW";
  body = body;
  cases = [];
}

abbrev looped : Expression → Expression → Drawing
looped first last =
    drawn [] [] (cons (loop (codes "I") first last (cons (buffer (codes "b") (number 0)) nil)) nil)

-- the bit of a buffer in a scope
abbrev buffered : List ℕ → List ℕ → ℕ → NamedInstance
buffered scope label delay = record {
  path = scope ++ label;
  bit = 0;
  kind = Buf;
  delay = record { min = delay; max = delay };
  split = None;
  limits = Unlimited;
  pins = (record {
    target = On (record { text = scope ++ codes "A"; bit = 0 });
    inverted = false;
    hold = false;
  }) ∷ [];
  out = Some (On (record { text = scope ++ codes "X"; bit = 0 }));
  out_inverted = false;
  place = at 5;
}

-- buffers in one scope, after so many statements
abbrev circuit : ℕ → List ℕ → List NamedInstance → Outcome (Unit {0})
circuit statements scope instances = Gives tt (record {
  header = header;
  statements = statements;
  names = (record { text = scope ++ codes "A"; bit = 0 })
      ∷ (record { text = scope ++ codes "X"; bit = 0 }) ∷ [];
  wires = header.wire ∷ header.wire ∷ [];
  asserted = [];
  instances = instances;
})

-- Each value counts, and its statement; labels have the value, nets have not.
two_turns : flat (looped (Negate (number 1)) (number 0))
    ≡ circuit 5 [] (buffered [] (codes "b#-1") 0 ∷ buffered [] (codes "b#0") 0 ∷ [])
unfolding digits flat use_act body_at primitive_use plan_of all_added named_bits term_bits joined all_joined wires_of given_to inside_of bound_scope inner_scope
two_turns = refl

no_turn : flat (looped (number 1) (number 0)) ≡ Gives tt (record {
  header = header;
  statements = 1;
  names = [];
  wires = [];
  asserted = [];
  instances = [];
})
unfolding flat
no_turn = refl

-- the ends are refused at the word FOR, and know no variable
divided_end :
    flat (looped (number 0) (Binary Div (number 1) (number 0))) ≡ Fails ZeroDivisor (at 4)
unfolding flat
divided_end = refl

own_variable : flat (looped (number 0) (Param (codes "I"))) ≡ Fails UnknownName (at 4)
unfolding flat
own_variable = refl

-- a label has the values of all FORs around it, from the outermost
abbrev inner_loop : Statements
inner_loop =
    cons (loop (codes "J") (number 2) (number 3) (cons (buffer (codes "b") (number 0)) nil)) nil

loop_in_loop : flat (drawn [] [] (cons (loop (codes "I") (number 1) (number 1) inner_loop) nil))
    ≡ circuit 7 [] (buffered [] (codes "b#1#2") 0 ∷ buffered [] (codes "b#1#3") 0 ∷ [])
unfolding digits flat use_act body_at primitive_use plan_of all_added named_bits term_bits joined all_joined wires_of given_to inside_of bound_scope inner_scope
loop_in_loop = refl

-- ---- which value a name has

-- a constant I
abbrev seven : List Assignment
seven = constant (codes "I") (number 7) ∷ []

abbrev delayed : List ℕ → List ℕ → Statement
delayed label name = buffer label (Param name)

-- a variable hides a constant, within its FOR
variable_or_constant : flat (drawn seven [] (
    cons (loop (codes "I") (number 2) (number 2) (cons (delayed (codes "b") (codes "I")) nil))
    (cons (delayed (codes "c") (codes "I")) nil)))
    ≡ circuit 4 [] (buffered [] (codes "b#2") 2 ∷ buffered [] (codes "c") 7 ∷ [])
unfolding digits flat use_act body_at primitive_use plan_of all_added named_bits term_bits joined all_joined wires_of given_to inside_of bound_scope inner_scope
variable_or_constant = refl

-- the use of a macro M, in a FOR
abbrev used : Statements
used = cons (loop (codes "K") (number 0) (number 0) (cons (Use (record {
  label = codes "u";
  kind = codes "M";
  delay = None;
  fall = None;
  params = [];
  ins = [];
  outs = [];
  place = at 6;
})) nil)) nil

abbrev macro : List Assignment → Statements → Macro
macro params body = record {
  name = codes "M";
  params = params;
  ins = [];
  outs = [];
  body = body;
  place = at 2;
}

-- a parameter hides a constant, and a variable hides that parameter
parameter_or_variable : flat (drawn seven (macro (constant (codes "I") (number 5) ∷ []) (
    cons (delayed (codes "b") (codes "I"))
    (cons (loop (codes "I") (number 1) (number 1) (cons (delayed (codes "c") (codes "I")) nil))
    nil)) ∷ []) used)
    ≡ circuit 7 (codes "u#0/")
    (buffered (codes "u#0/") (codes "b") 5 ∷ buffered (codes "u#0/") (codes "c#1") 1 ∷ [])
unfolding digits flat use_act body_at primitive_use plan_of all_added named_bits term_bits joined all_joined wires_of given_to inside_of bound_scope inner_scope
parameter_or_variable = refl

-- a default may name a constant, and a body too
known_in_macros : flat (drawn seven (macro (constant (codes "P") (Param (codes "I")) ∷ []) (
    cons (delayed (codes "b") (codes "P")) (cons (delayed (codes "c") (codes "I")) nil)) ∷ []) used)
    ≡ circuit 5 (codes "u#0/")
    (buffered (codes "u#0/") (codes "b") 7 ∷ buffered (codes "u#0/") (codes "c") 7 ∷ [])
unfolding digits flat use_act body_at primitive_use plan_of all_added named_bits term_bits joined all_joined wires_of given_to inside_of bound_scope inner_scope
known_in_macros = refl

-- the body of a macro does not know the variable of a FOR around its use
variable_unseen :
    flat (drawn [] (macro [] (cons (delayed (codes "b") (codes "K")) nil) ∷ []) used)
    ≡ Fails UnknownName (at 5)
unfolding digits flat use_act body_at primitive_use plan_of all_added named_bits term_bits joined all_joined wires_of given_to inside_of bound_scope inner_scope
variable_unseen = refl
