-- Small drawings and their circuits.
use Rattle.std.proofs.Common.{◌≡◌, ℕ, pos, List, [], ◌∷◌, Option, Some, None, false, refl}
use Rattle.std.specs.Prelude.{codes}
use Rattle.scald_base.specs.Time.{Header}
use Rattle.scald_base.specs.declared.refusal.Place.{Place}
use Rattle.scald_base.specs.declared.refusal.RefusalKind.TheVariants.{TooDeep, Width, ZeroDivisor, UnknownKind}
use Rattle.scald_base.specs.declared.assertion.AssertSpec.{AssertSpec}
use Rattle.scald_base.specs.declared.assertion.AssertSpec.TheVariants.{None as Unasserted, Precision, Stable}
use Rattle.assertion_syntax.specs.declared.name.SignalName.{SignalName}
use Rattle.drawing_tree.specs.Expression.{Expression, Number, Param, Binary}
use Rattle.drawing_tree.specs.declared.expr.Op.TheVariants.{Sub, Div}
use Rattle.element_kinds.specs.declared.kind.Kind.TheVariants.{SetupHold}
use Rattle.drawing_tree.specs.Tree.{Range, Named, Term, Connection, Use, Statement, Statements, nil, cons, Formal, Macro, Drawing}
use Rattle.macro_expander.specs.Named.{On, NamedInstance}
use Rattle.macro_expander.specs.Outcome.{Gives, Fails}
use Rattle.macro_expander.specs.Flat.{flat, use_act, wire_act, body_at}
use Rattle.macro_expander.specs.Primitives.{primitive_use, plan_of, all_added}
use Rattle.macro_expander.specs.Macros.{given_to, inside_of, bound_scope, inner_scope}
use Rattle.macro_expander.specs.Terms.{named_bits, formal_term, bit_numbered, term_bits, joined, all_joined, wires_of}
use Rattle.flat_circuit.specs.declared.limits.Limits.TheVariants.{Edges}

at : ℕ → Place
at line = record { line = line; col = 1 }

header : Header
header = record { units = 8; ticks = 50; wire = record { min = 0; max = 0 }; pskew = (0, 0); cskew = (0, 0) }

number : ℕ → Expression
number n = Number (pos n)

signal : List ℕ → AssertSpec → SignalName
signal base spec = record { base = base; global = false; spec = spec }

term : SignalName → Option Range → Term
term name range = record { minus = false; item = Named name range }

one : Term → Connection
one t = record { terms = t ∷ []; hold = false; place = at 0 }

alone : List ℕ → Connection
alone base = one (term (signal base Unasserted) None)

range : Expression → Expression → Option Range
range first last = Some (record { first = first; last = Some last })

drawing : List Macro → Statements → Drawing
drawing macros body = record { version = 1; header = header; consts = []; const_places = []; macros = macros; name = codes "ROW"; body = body; cases = [] }

simple : List ℕ → List ℕ → Option (Expression × Expression) → List Connection → List Connection → ℕ → Statement
simple label kind delay ins outs line = Use (record { label = label; kind = kind; delay = delay; fall = None; params = []; ins = ins; outs = outs; place = at line })

zero_delay : Option (Expression × Expression)
zero_delay = Some (number 0, number 0)

formal : List ℕ → Option Range → Formal
formal base range = record { base = base; range = range }

-- a macro that uses itself goes too deep at that use
loopy : Macro
unfolding simple alone one term signal formal at
loopy = record {
  name = codes "LOOPY";
  params = [];
  ins = formal (codes "A") None ∷ [];
  outs = formal (codes "Z") None ∷ [];
  body = cons (simple (codes "x") (codes "LOOPY") None (alone (codes "A") ∷ []) (alone (codes "Z") ∷ []) 4) nil;
  place = at 3;
}

too_deep : flat (drawing (loopy ∷ []) (cons (simple (codes "u") (codes "LOOPY") None (alone (codes "A") ∷ []) (alone (codes "Z") ∷ []) 6) nil)) ≡ Fails TooDeep (at 4)
unfolding flat use_act wire_act body_at primitive_use plan_of all_added given_to inside_of bound_scope inner_scope
    named_bits formal_term bit_numbered term_bits joined all_joined wires_of loopy drawing simple alone one term signal formal at header
too_deep = refl

-- a drawing without statements
empty : flat (drawing [] nil) ≡ Gives tt (record { header = header; statements = 0; names = []; wires = []; asserted = []; instances = [] })
unfolding flat drawing header
empty = refl

-- a parameter takes its default, a connection of one bit is spread, and a checker has a bit for each bit of its widest connection
checks : Macro
unfolding alone one term signal formal at number range
checks = record {
  name = codes "CHK2";
  params = (record { name = codes "N"; value = number 2 }) ∷ [];
  ins = formal (codes "CK") None ∷ formal (codes "D") (range (number 0) (Binary Sub (Param (codes "N")) (number 1))) ∷ [];
  outs = [];
  body = cons (Use (record {
    label = codes "c";
    kind = codes "SETUP_HOLD_CHK";
    delay = None;
    fall = None;
    params = (record { name = codes "SETUP"; value = number 20 }) ∷ (record { name = codes "HOLD"; value = number 10 }) ∷ [];
    ins = alone (codes "CK") ∷ one (term (signal (codes "D") Unasserted) (range (number 0) (Binary Sub (Param (codes "N")) (number 1)))) ∷ [];
    outs = [];
    place = at 4;
  })) nil;
  place = at 3;
}

checked_bit : ℕ → NamedInstance
unfolding at
checked_bit k = record {
  path = codes "u1/c";
  bit = k;
  kind = SetupHold;
  delay = record { min = 0; max = 0 };
  split = None;
  limits = Edges 20 10;
  pins = (record { target = On (record { text = codes "CK"; bit = 0 }); inverted = false; hold = false })
      ∷ (record { target = On (record { text = codes "D"; bit = k }); inverted = false; hold = false }) ∷ [];
  out = None;
  out_inverted = false;
  place = at 4;
}

clock : AssertSpec
clock = Precision (record { spans = (record { lo = 2; hi = 3 }) ∷ []; skew = None; low = false })

input : AssertSpec
input = Stable ((record { lo = 1; hi = 4 }) ∷ [])

macro_checks : flat (drawing (checks ∷ [])
    (cons (simple (codes "u1") (codes "CHK2")
    None (one (term (signal (codes "CK") clock) None) ∷ one (term (signal (codes "D") input) (range (number 0) (number 1))) ∷ []) [] 7) nil))
    ≡ Gives tt (record {
      header = header;
      statements = 2;
      names = (record { text = codes "CK"; bit = 0 }) ∷ (record { text = codes "D"; bit = 0 }) ∷ (record { text = codes "D"; bit = 1 }) ∷ [];
      asserted = (record { text = codes "CK"; spec = clock }) ∷ (record { text = codes "D"; spec = input }) ∷ [];
      wires = header.wire ∷ header.wire ∷ header.wire ∷ [];
      instances = checked_bit 0 ∷ checked_bit 1 ∷ [];
    })
unfolding flat use_act wire_act body_at primitive_use plan_of all_added given_to inside_of bound_scope inner_scope named_bits formal_term bit_numbered
    term_bits joined all_joined wires_of checks checked_bit drawing simple alone one term signal formal at header number range clock input
macro_checks = refl

-- the widths of a buffer's connections differ, and none is 1
narrow : flat (drawing []
    (cons (simple (codes "b1") (codes "BUF") zero_delay (one (term (signal (codes "A") Unasserted) (range (number 0) (number 2))) ∷ [])
    (one (term (signal (codes "X") Unasserted) (range (number 0) (number 3))) ∷ []) 4) nil)) ≡ Fails Width (at 4)
unfolding flat use_act wire_act body_at primitive_use plan_of all_added given_to inside_of bound_scope inner_scope
    named_bits formal_term bit_numbered term_bits joined all_joined wires_of drawing simple alone one term signal at header number range zero_delay
narrow = refl

divided : flat (drawing []
    (cons (simple (codes "b1") (codes "BUF") (Some (number 0, Binary Div (number 1) (number 0))) (alone (codes "A") ∷ []) (alone (codes "X") ∷ []) 4)
    nil)) ≡ Fails ZeroDivisor (at 4)
unfolding flat use_act wire_act body_at primitive_use plan_of all_added given_to inside_of bound_scope
    inner_scope named_bits formal_term bit_numbered term_bits joined all_joined wires_of drawing simple alone one term signal at header number
divided = refl

unknown_kind : flat (drawing [] (cons (simple (codes "b1") (codes "BUFF") zero_delay (alone (codes "A") ∷ []) (alone (codes "X") ∷ []) 4) nil)) ≡ Fails UnknownKind (at 4)
unfolding flat use_act wire_act body_at primitive_use plan_of all_added given_to inside_of bound_scope inner_scope
    named_bits formal_term bit_numbered term_bits joined all_joined wires_of drawing simple alone one term signal at header number zero_delay
unknown_kind = refl
