-- What is found while a drawing is expanded: the FORs that are reached, and the names that are
-- spread. A connection that is a name alone, without a range and on no formal, means bit 0 of that
-- name, which is taken for all bits of its place.
use Rattle.std.specs.Prelude.{ℕ, Bool, true, false, zero, suc, List, [], ◌∷◌, ◌++◌, length, map, nat_lt, if◌then◌else◌, Option, Some, None, Ok, Err, ℤ}
use Rattle.std.specs.List.{flat_map, zip}
use Rattle.scald_base.specs.declared.refusal.Place.{Place}
use Rattle.assertion_syntax.specs.declared.name.SignalName.{SignalName}
use Rattle.drawing_tree.specs.declared.environment.Binding.{Binding}
use Rattle.element_kinds.specs.declared.kind.Kind.{Kind}
use Rattle.element_kinds.specs.Kinds.{kind_of, is_change}
use Rattle.drawing_tree.specs.Tree.{Statement, Use, Wire, If, For, Statements, nil, cons, Otherwise, no_else, else_, Item, Zero, One, Named, Term, Connection, UseStatement, Macro, Drawing}
use Rattle.macro_expander.specs.declared.formal.Shape.{Shape}
use Rattle.macro_expander.specs.declared.formal.Inside.{Inside}
use Rattle.macro_expander.specs.Outcome.{Outcome, Gives, Fails, Judged, judging}
use Rattle.macro_expander.specs.Terms.{Bound, Scope, formal_of, net_text, valued}
use Rattle.macro_expander.specs.Primitives.{width_of}
use Rattle.macro_expander.specs.Macros.{bound, given_to, inner_path, inside_of, macro_of}
use Rattle.macro_expander.specs.Loops.{in_turn, loop_ends, values_between}
use Rattle.macro_expander.specs.Setting.{Setting}
use Rattle.macro_expander.specs.Flat.{const_values, deepest, is_zero, nothing_yet, setting_of, top}
use Rattle.drawing_omissions.specs.declared.spread.Finding.{Finding}
use Rattle.drawing_omissions.specs.declared.spread.Finding.TheVariants.{Spread as ASpread, Loop}
use Rattle.drawing_omissions.specs.Widths.{widths}

-- ---- one connection

abbrev pub unless_formal : SignalName → Option Bound → Option SignalName
unless_formal name None = Some name
unless_formal name (Some f) = None

-- a name without a range, on no formal
abbrev pub plain_name : Scope → Item → Option SignalName
plain_name scope Zero = None
plain_name scope One = None
plain_name scope (Named name None) = unless_formal name (formal_of scope.formals name)
plain_name scope (Named name (Some range)) = None

-- that alone
abbrev pub lone_name : Scope → List Term → Option SignalName
lone_name scope (t ∷ []) = plain_name scope t.item
lone_name scope _ = None

-- over so many bits, if they are more than one
abbrev pub spread_to : Scope → ℕ → Place → Option SignalName → List Finding
spread_to scope n place None = []
spread_to scope n place (Some name) =
    if nat_lt 1 n
    then ASpread (record { place = place; name = net_text scope.path name; width = n }) ∷ []
    else []

abbrev pub spread_over : Scope → ℕ → Connection → List Finding
spread_over scope n c = spread_to scope n c.place (lone_name scope c.terms)

-- ---- one use

abbrev pub use_width : Kind → Scope → UseStatement → ℕ
use_width kind scope u = width_of kind (widths scope u.ins) (widths scope u.outs)

-- the inputs of a change function may have any width, so none of them is spread
abbrev pub in_primitive : Kind → Scope → UseStatement → List Finding
in_primitive kind scope u =
    if is_change kind then [] else flat_map (spread_over scope (use_width kind scope u)) u.ins

abbrev pub in_formal : Scope → Shape × Connection → List Finding
in_formal scope pair = spread_over scope (length pair.0.numbers) pair.1

-- what names mean in a macro's body, whichever bits are bound to its formals
abbrev pub body_scope : Scope → List ℕ → Inside → Scope
body_scope scope label inside = record {
  path = inner_path scope label;
  suffix = [];
  env = inside.env;
  formals = map (λ shape. bound shape []) (inside.ins ++ inside.outs);
}

-- what is spread in a scope
abbrev pub Spreading : Type 0
Spreading = Scope → List Finding

abbrev pub in_body : Option (Macro → Spreading) → Macro → Scope → List ℕ → Inside → List Finding
in_body None m scope label inside = []
in_body (Some body) m scope label inside = body m (body_scope scope label inside)

-- over its formals, and then in its body
abbrev pub in_macro_with : Option (Macro → Spreading) → Macro → Scope → UseStatement →
    Judged Inside → List Finding
in_macro_with body m scope u (Ok inside) =
    flat_map (in_formal scope) (zip inside.ins u.ins) ++ in_body body m scope u.label inside
in_macro_with body m scope u (Err kind) = []

abbrev pub inside_at : List Binding → Macro → Scope → UseStatement → Judged Inside
inside_at consts m scope u = judging (given_to m scope.env u) (inside_of consts m)

abbrev pub in_macro : Setting → Option (Macro → Spreading) → Option Macro → UseStatement → Spreading
in_macro setting body None u scope = []
in_macro setting body (Some m) u scope =
    in_macro_with body m scope u (inside_at setting.consts m scope u)

abbrev pub in_use_of : Option Kind → Setting → Option (Macro → Spreading) → UseStatement → Spreading
in_use_of (Some kind) setting body u scope = in_primitive kind scope u
in_use_of None setting body u scope =
    in_macro setting body (macro_of u.kind setting.macros) u scope

-- ---- statements

abbrev pub is_some_turn : List ℤ → Bool
is_some_turn [] = false
is_some_turn (v ∷ vs) = true

-- a FOR that is reached, whose variable takes these values
abbrev pub reached : Place → List ℤ → Finding
reached place values = Loop (record { place = place; has_turn = is_some_turn values })

abbrev pub in_turns : List ℕ → Place → Spreading → Judged (ℤ × ℤ) → Spreading
in_turns var place body (Ok ends) scope =
    reached place (values_between ends.0 ends.1)
    ∷ flat_map (λ (v : ℤ). body (in_turn var v scope)) (values_between ends.0 ends.1)
in_turns var place body (Err kind) scope = []

abbrev pub if_chosen : Judged ℤ → List Finding → List Finding → List Finding
if_chosen (Ok v) taken other = if is_zero v then other else taken
if_chosen (Err kind) taken other = []

abbrev mutual
  pub in_statement : Setting → Option (Macro → Spreading) → Statement → Spreading
  in_statement setting body (Use u) scope = in_use_of (kind_of u.kind) setting body u scope
  in_statement setting body (Wire w) scope = []
  in_statement setting body (If test taken other place) scope =
      if_chosen (valued scope.env test)
      (in_statements setting body taken scope) (in_otherwise setting body other scope)
  in_statement setting body (For var first last ss place) scope =
      in_turns var place (in_statements setting body ss) (loop_ends scope.env first last) scope

  pub in_statements : Setting → Option (Macro → Spreading) → Statements → Spreading
  in_statements setting body nil scope = []
  in_statements setting body (cons first others) scope =
      in_statement setting body first scope ++ in_statements setting body others scope

  pub in_otherwise : Setting → Option (Macro → Spreading) → Otherwise → Spreading
  in_otherwise setting body no_else scope = []
  in_otherwise setting body (else_ ss) scope = in_statements setting body ss scope

-- in a macro's body, if uses may go so many levels deeper: if none, there is no body
unfoldable pub spreading_at : Setting → ℕ → Option (Macro → Spreading)
spreading_at setting zero = None
spreading_at setting (suc n) = Some (λ m. in_statements setting (spreading_at setting n) m.body)

-- ---- the whole

abbrev pub spreads_with : Drawing → Outcome (List Binding) → List Finding
spreads_with d (Gives consts s) =
    let setting = setting_of d consts in
    in_statements setting (spreading_at setting deepest) d.body (top consts)
spreads_with d (Fails kind place) = []

-- In the order of expansion, and in one use in the order of its inputs. Where the drawing is
-- refused, what is not reached has none.
unfoldable pub spreads : Drawing → List Finding
spreads d = spreads_with d (const_values [] d.consts d.const_places (nothing_yet d.header))
