-- The flat circuit of a drawing: its statements in the order of the text, a macro's body at each of
-- its uses and a FOR's body once for each value.
use Rattle.std.specs.Prelude.{ℕ, zero, suc, ◌+◌, Bool, false, List, [], ◌∷◌, ◌++◌, nat_lt, if◌then◌else◌, Option, Some, None, ℤ, pos}
use Rattle.scald_base.specs.Time.{Bounds, Header, period}
use Rattle.scald_base.specs.declared.refusal.Place.{Place}
use Rattle.scald_base.specs.declared.refusal.RefusalKind.TheVariants.{TooDeep, TooMany, UnknownKind}
use Rattle.drawing_tree.specs.declared.environment.Binding.{Binding}
use Rattle.drawing_tree.specs.Tree.{Statement, Use, Wire, If, For, Statements, nil, cons, Otherwise, no_else, else_, Assignment, UseStatement, WireStatement, Macro, Drawing}
use Rattle.element_kinds.specs.declared.kind.Kind.{Kind}
use Rattle.element_kinds.specs.Kinds.{kind_of}
use Rattle.flat_circuit.specs.Name.{Name}
use Rattle.flat_circuit.specs.Builder.{same_name}
use Rattle.macro_expander.specs.Named.{Where, On, Fixed, Bit, State}
use Rattle.macro_expander.specs.Outcome.{Outcome, Gives, Fails, after, judged}
use Rattle.macro_expander.specs.Terms.{Scope, valued, written_ends, named_bits}
use Rattle.macro_expander.specs.Primitives.{primitive_use, delay_between}
use Rattle.macro_expander.specs.Macros.{macro_of, given_to, inner_scope}
use Rattle.macro_expander.specs.Setting.{Setting}
use Rattle.macro_expander.specs.Loops.{binding, in_turn, for_act}

-- what a piece of a body does in a scope
abbrev pub Act : Type 0
Act = Scope → State → Outcome (Unit {0})

-- ---- WIRE

-- the bounds of one net's wire are set
abbrev pub set_wire : List Name → List Bounds → Name → Bounds → List Bounds
set_wire (n ∷ ns) (w ∷ ws) name wire =
    if same_name name n then wire ∷ ws else w ∷ set_wire ns ws name wire
set_wire _ ws name wire = ws

-- a constant keeps its wire without delay
abbrev pub with_wire : Bounds → Where → State → State
with_wire wire (On name) s = record s { wires = set_wire s.names s.wires name wire }
with_wire wire (Fixed one) s = s

abbrev pub with_wires : Bounds → List Bit → State → State
with_wires wire [] s = s
with_wires wire (b ∷ bs) s = with_wires wire bs (with_wire wire b.target s)

unfoldable pub wire_act : WireStatement → Act
wire_act w scope s =
    judged (written_ends scope.env w.range) w.place (λ ends.
    judged (valued scope.env w.min) w.place (λ min.
    judged (valued scope.env w.max) w.place (λ max.
    after (named_bits scope w.name ends w.place s) (λ bits s1.
    judged (delay_between min max) w.place (λ wire.
    Gives tt (with_wires wire bits s1))))))

-- ---- uses

-- A macro's body is too deep if no body may go below.
abbrev pub expanded : Setting → Option (Macro → Act) → Macro → List Binding → UseStatement → Act
expanded setting None m given u scope s = Fails TooDeep u.place
expanded setting (Some body) m given u scope s =
    after (inner_scope setting.consts m given scope u s) (λ inner s1. body m inner s1)

abbrev pub macro_use : Setting → Option (Macro → Act) → Option Macro → UseStatement → Act
macro_use setting body None u scope s = Fails UnknownKind u.place
macro_use setting body (Some m) u scope s =
    judged (given_to m scope.env u) u.place (λ given. expanded setting body m given u scope s)

abbrev pub use_act_of : Option Kind → Setting → Option (Macro → Act) → UseStatement → Act
use_act_of (Some kind) setting body u scope s = primitive_use setting kind scope u s
use_act_of None setting body u scope s =
    macro_use setting body (macro_of u.kind setting.macros) u scope s

unfoldable pub use_act : Setting → Option (Macro → Act) → UseStatement → Act
use_act setting body u scope s = use_act_of (kind_of u.kind) setting body u scope s

-- ---- statements

abbrev pub most_statements : ℕ
most_statements = 262144

-- a statement counts before anything else of it
abbrev pub counted : Place → Act → Act
counted place act scope s =
    if nat_lt s.statements most_statements
    then act scope (record s { statements = s.statements + 1 }) else Fails TooMany place

abbrev pub is_zero : ℤ → Bool
is_zero (pos n) = nat_lt n 1
is_zero _ = false

-- the body of a FOR for one value, which counts by itself
abbrev pub turn_act : List ℕ → Place → Act → ℤ → Act
turn_act var place body v scope s = counted place (λ around. body (in_turn var v around)) scope s

abbrev mutual
  pub statement_act : Setting → Option (Macro → Act) → Statement → Act
  statement_act setting body (Use u) = counted u.place (use_act setting body u)
  statement_act setting body (Wire w) = counted w.place (wire_act w)
  statement_act setting body (If test taken other place) =
      counted place (λ scope s.
      judged (valued scope.env test) place (λ v.
      (if is_zero v
      then otherwise_act setting body other
      else statements_act setting body taken) scope s))
  statement_act setting body (For var first last ss place) =
      counted place (for_act (turn_act var place (statements_act setting body ss)) first last place)

  pub statements_act : Setting → Option (Macro → Act) → Statements → Act
  statements_act setting body nil scope s = Gives tt s
  statements_act setting body (cons first others) scope s =
      after (statement_act setting body first scope s) (λ _ s1.
      statements_act setting body others scope s1)

  pub otherwise_act : Setting → Option (Macro → Act) → Otherwise → Act
  otherwise_act setting body no_else scope s = Gives tt s
  otherwise_act setting body (else_ ss) scope s = statements_act setting body ss scope s

-- what a macro's body does if uses may go so many levels deeper: if none, there is no body
unfoldable pub body_at : Setting → ℕ → Option (Macro → Act)
body_at setting zero = None
body_at setting (suc n) = Some (λ m. statements_act setting (body_at setting n) m.body)

abbrev pub deepest : ℕ
deepest = 64

-- ---- constants

-- the constants with their values, each evaluated with those before it and refused at its own place
abbrev pub const_values : List Binding → List Assignment → List Place → State →
    Outcome (List Binding)
const_values known (c ∷ cs) (place ∷ places) s =
    judged (valued known c.value) place (λ v.
    const_values (known ++ binding c.name v ∷ []) cs places s)
const_values known _ _ s = Gives known s

-- ---- the whole

-- the scope of the drawing's own statements
abbrev pub top : List Binding → Scope
top consts = record { path = []; suffix = []; env = consts; formals = [] }

abbrev pub nothing_yet : Header → State
nothing_yet header =
    record {
      header = header;
      statements = 0;
      names = [];
      wires = [];
      asserted = [];
      instances = [];
    }

abbrev pub setting_of : Drawing → List Binding → Setting
setting_of d consts = record {
  version = d.version;
  ticks = period d.header;
  consts = consts;
  macros = d.macros;
}

-- a drawing's statements, if its constants have these values
abbrev pub body_act : Drawing → List Binding → State → Outcome (Unit {0})
body_act d consts s =
    let setting = setting_of d consts in
    statements_act setting (body_at setting deepest) d.body (top consts) s

-- the constants, before any statement, and then the drawing's statements, in the empty circuit
unfoldable pub flat : Drawing → Outcome (Unit {0})
flat d =
    after (const_values [] d.consts d.const_places (nothing_yet d.header)) (λ consts s.
    body_act d consts s)
