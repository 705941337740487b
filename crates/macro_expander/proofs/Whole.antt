-- The whole of a drawing: what fits in a well formed one, how its expansion begins, and how it ends.
use Rattle.std.proofs.Common.{◌≡◌, ℕ, List, [], map, Result, Ok, Err, refl, sym, ◌∙◌, subst, inl, inr}
use Rattle.std.specs.Prelude.{MatchResult}
use Rattle.std.specs.List.{All}
use Rattle.std.proofs.lemmas.List.Elements.{All-weaker}
use Rattle.scald_base.specs.Time.{Header, period}
use Rattle.scald_base.specs.declared.refusal.Stop.{Stop}
use Rattle.scald_base.specs.declared.refusal.Stop.TheVariants.{Refused, NoMemory}
use Rattle.flat_circuit.specs.Circuit.{Circuit}
use Rattle.flat_circuit.specs.Builder.{Built, IsBuilt, IsRefusal, empty}
use Rattle.flat_circuit.specs.Builder.{Stands as Finished}
use Rattle.drawing_tree.specs.declared.drawing.Drawing as written_drawing
use Rattle.drawing_tree.specs.declared.statement.Stmt.{Stmt}
use Rattle.drawing_tree.specs.Tree.{Item, Zero, One, Named, Term, Connection, UseStatement, Statement, Use, Wire, If, For, Statements, nil, cons, Otherwise, no_else, else_, Drawing, assignment_of, statements_of, drawing_of, macro_of}
use Rattle.drawing_tree.specs.WellFormed.{IsGoodItem, IsGoodConnection, IsGoodUse, IsGoodStatement, AreGoodStatements, IsGoodOtherwise, IsGoodMacro, IsWellFormed}
use Rattle.macro_expander.specs.declared.expansion.Expansion.{Expansion}
use Rattle.macro_expander.specs.declared.library.Library.{Library}
use Rattle.macro_expander.specs.declared.scope.Scope as numbered_scope
use Rattle.macro_expander.specs.Outcome.{Outcome, Gives}
use Rattle.macro_expander.specs.Fitting.{ItemFits, TermFits, ConnectionFits, UseFits, StatementFits, StatementsFit, OtherwiseFits, MacroFits, DrawingFits}
use Rattle.drawing_tree.specs.declared.environment.Binding.{Binding}
use Rattle.macro_expander.specs.Named.{State}
use Rattle.macro_expander.specs.Flat.{flat, const_values, nothing_yet, deepest}
use Rattle.macro_expander.specs.Library.{HoldsMacros, IsLibrary}
use Rattle.macro_expander.specs.Numbered.{Failed, GivesDone, state_of, scope_of}
use Rattle.macro_expander.specs.Statements.{statements_in}
use Rattle.macro_expander.specs.Stands.{IsCircuitOf, IsExpansionOf, IsStopOf}

-- ---- well formed drawings fit

item_fits : (h : Header) (i : Item) → IsGoodItem h i → ItemFits h i
item_fits h Zero g = tt
item_fits h One g = tt
item_fits h (Named name range) g = g.0.fits

connection_fits : (h : Header) (c : Connection) → IsGoodConnection h c → ConnectionFits h c
connection_fits h c g = record { terms = All-weaker (λ (t : Term). IsGoodItem h t.item) (TermFits h) (λ t x. record { item = item_fits h t.item x }) c.terms g }

use_fits : (h : Header) (u : UseStatement) → IsGoodUse h u → UseFits h u
use_fits h u g = record {
  ins = All-weaker (IsGoodConnection h) (ConnectionFits h) (connection_fits h) u.ins g.ins;
  outs = All-weaker (IsGoodConnection h) (ConnectionFits h) (connection_fits h) u.outs g.outs;
}

mutual
  statement_fits : (h : Header) (s : Statement) → IsGoodStatement h s → StatementFits h s
  statement_fits h (Use u) g = use_fits h u g
  statement_fits h (Wire w) g = g.name.fits
  statement_fits h (If test taken other place) g = (statements_fit h taken g.1, otherwise_fits h other g.2)
  statement_fits h (For var first last ss place) g = statements_fit h ss g.3

  statements_fit : (h : Header) (ss : Statements) → AreGoodStatements h ss → StatementsFit h ss
  statements_fit h nil g = tt
  statements_fit h (cons s ss) g = (statement_fits h s g.0, statements_fit h ss g.1)

  otherwise_fits : (h : Header) (o : Otherwise) → IsGoodOtherwise h o → OtherwiseFits h o
  otherwise_fits h no_else g = tt
  otherwise_fits h (else_ ss) g = statements_fit h ss g

pub well_formed_fits : (d : Drawing) → IsWellFormed d → DrawingFits d
well_formed_fits d w = record {
  macros = All-weaker (IsGoodMacro d.header) (MacroFits d.header) (λ m g. statements_fit d.header m.body g.body.statements) d.macros w.macros;
  body = statements_fit d.header d.body w.body.statements;
}

-- ---- the end

module _ (d : Drawing) (e : Expansion) (expanded : IsExpansionOf d e) where
  circuit_is : (c : Circuit) → Finished e.builder c → IsCircuitOf d c
  circuit_is c f = record {
    state = state_of e;
    expanded = expanded;
    stands = record {
      header = f.head;
      names = f.names_are;
      wires = f.wires_are;
      assertions = f.specs_are;
      instances = rw (f.names_are, f.instances_are) refl;
    };
  }

  rule_stops : IsBuilt e.builder → (stop : Stop) → IsRefusal e.builder stop → IsStopOf d stop
  rule_stops built NoMemory h = tt
  rule_stops built (Refused r) h = inr (record {
    state = state_of e;
    expanded = expanded;
    numbered = e.builder;
    is_numbered = record { header = refl; names = refl; wires = refl; asserted = refl; instances = refl };
    is_built = built;
    broken = h;
  })

pub finished : (d : Drawing) (e : Expansion) → IsExpansionOf d e → IsBuilt e.builder → (r : Result Circuit Stop) →
    MatchResult r (Finished e.builder) (IsRefusal e.builder) → MatchResult r (IsCircuitOf d) (IsStopOf d)
finished d e is built (Ok c) h = circuit_is d e is c h
finished d e is built (Err stop) h = rule_stops d e is built stop h

pub expansion_stops : (d : Drawing) (stop : Stop) → Failed stop (flat d) → IsStopOf d stop
expansion_stops d NoMemory h = tt
expansion_stops d (Refused r) h = inl (h.agrees r refl)

-- ---- the beginning

-- the scope of the drawing's own statements, with a copy of the constants
pub top_is : {s : numbered_scope.Scope} {copy consts : List Binding} → s ≡ record { path = []; suffix = []; env = copy; formals = [] } → copy ≡ consts →
    s ≡ record { path = []; suffix = []; env = consts; formals = [] }
top_is is same = rw (is, same) refl

-- where a constant has no value
pub consts_stop : (d : written_drawing.Drawing) (stop : Stop) →
    ((s : State) → Failed stop (const_values [] (map assignment_of d.consts) d.const_places s)) → IsStopOf (drawing_of d) stop
unfolding flat
consts_stop d stop h = expansion_stops (drawing_of d) stop (record { agrees = λ r is. rw ((h (nothing_yet d.header)).agrees r is) refl })

module _ (d : written_drawing.Drawing) (ticks : ℕ) (l : Library) (ticks_are : ticks ≡ period d.header) (consts : List Binding)
    (consts_are : (s : State) → const_values [] (map assignment_of d.consts) d.const_places s ≡ Gives consts s)
    (holds : HoldsMacros d.version ticks consts d.macros l) (b : Built) (b_is : b ≡ empty d.header) (s : numbered_scope.Scope)
    (s_is : s ≡ record { path = []; suffix = []; env = consts; formals = [] }) (ss : List Stmt) (ss_are : ss ≡ d.body.items) where
  abbrev begun : Expansion
  begun = record { statements = 0; builder = b }

  pub library_is : DrawingFits (drawing_of d) → IsLibrary b.header l
  library_is f =
      let fit : All (MacroFits d.header) (map macro_of l.macros.now) = rw holds.macros f.macros in
      let is : IsLibrary d.header l = record { ticks = holds.ticks ∙ ticks_are; places = holds.places; fit = fit } in
      subst (λ (x : Built). IsLibrary x.header l) (sym b_is) is

  pub body_fits : DrawingFits (drawing_of d) → StatementsFit b.header (statements_of ss)
  body_fits f = rw (b_is, ss_are) f.body

  abbrev the_act : Outcome (Unit {0})
  the_act = statements_in l deepest (statements_of ss) (scope_of b.names s) (state_of begun)

  act_is : the_act ≡ flat (drawing_of d)
  unfolding flat
  act_is = rw (b_is, s_is, ss_are, holds.version, holds.ticks, ticks_are, holds.consts, holds.macros, consts_are (nothing_yet d.header)) refl

  pub body_stops : (stop : Stop) → Failed stop the_act → IsStopOf (drawing_of d) stop
  body_stops stop h = expansion_stops (drawing_of d) stop (subst (λ (o : Outcome (Unit {0})). Failed stop o) act_is h)

  pub expansion_is : (e : Expansion) → GivesDone begun e the_act → IsExpansionOf (drawing_of d) e
  expansion_is e g = sym act_is ∙ g.is
