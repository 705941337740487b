-- What the names, terms and connections of a statement mean in the scope that it stands in.
use Rattle.std.specs.Prelude.{ℕ, Bool, true, false, not, ◌&&◌, position, slice_get, List, [], ◌∷◌, ◌++◌, length, map, nat_lt, nat_le, ◌==◌, if◌then◌else◌, Option, Some, None, Result, Ok, Err, ℤ, codes}
use Rattle.std.specs.List.{find}
use Rattle.std.specs.Str.{bytes_eq}
use Rattle.scald_base.specs.declared.assertion.AssertSpec.{AssertSpec}
use Rattle.scald_base.specs.declared.assertion.AssertSpec.TheVariants.{None as Unasserted}
use Rattle.scald_base.specs.declared.refusal.Place.{Place}
use Rattle.scald_base.specs.declared.refusal.RefusalKind.{RefusalKind}
use Rattle.scald_base.specs.declared.refusal.RefusalKind.TheVariants.{AssertionClash, BadRange, Overflow as OverflowKind, TooMany, UnknownName, Width, ZeroDivisor as ZeroDivisorKind}
use Rattle.assertion_syntax.specs.declared.name.SignalName.{SignalName}
use Rattle.drawing_tree.specs.declared.environment.Binding.{Binding}
use Rattle.drawing_tree.specs.declared.evaluation.ExprFault.{ExprFault}
use Rattle.drawing_tree.specs.declared.evaluation.ExprFault.TheVariants.{Unknown, Overflow, ZeroDivisor}
use Rattle.drawing_tree.specs.Expression.{Expression}
use Rattle.drawing_tree.specs.Value.{value}
use Rattle.vector_names.specs.Bits.{bits_of, widest}
use Rattle.drawing_tree.specs.Tree.{Range, Item, Zero, One, Named, Term, Connection, UseStatement}
use Rattle.flat_circuit.specs.Name.{Name}
use Rattle.flat_circuit.specs.Instances.{most_bits}
use Rattle.flat_circuit.specs.Builder.{Asserted, is_asserted, spec_of, with_asserted, has_name}
use Rattle.macro_expander.specs.Named.{Where, On, Fixed, Bit, State}
use Rattle.macro_expander.specs.Assertions.{same_assertion}
use Rattle.macro_expander.specs.Outcome.{Outcome, Gives, Fails, after, Judged, judging, judged, or_refuse, collected, gathered}

-- ---- scopes

-- a formal of the macro that is expanded: the numbers of its bits, in the order of its declaration,
-- and the outer bits bound to them
pub record Bound : Type 0 where
  pub base : List ℕ
  pub numbers : List ℕ
  pub bits : List Bit

-- The labels of the uses from the drawing down, each with a slash after it; what follows each label
-- of the body, for the FORs around it; the names that have values, the innermost first: the
-- variables of those FORs, the parameters and the constants; and the formals.
pub record Scope : Type 0 where
  pub path : List ℕ
  pub suffix : List ℕ
  pub env : List Binding
  pub formals : List Bound

-- the whole text of a label
abbrev pub labelled : Scope → List ℕ → List ℕ
labelled scope label = scope.path ++ label ++ scope.suffix

-- the formal that a name means: a global name means none
abbrev pub formal_of : List Bound → SignalName → Option Bound
formal_of formals name = if name.global then None else find (λ f. bytes_eq f.base name.base) formals

-- the whole text of a net's name
abbrev pub net_text : List ℕ → SignalName → List ℕ
net_text path name = (if name.global then codes "/" else path) ++ name.base

-- ---- expressions and ranges

abbrev pub kind_of_fault : ExprFault → RefusalKind
kind_of_fault Unknown = UnknownName
kind_of_fault Overflow = OverflowKind
kind_of_fault ZeroDivisor = ZeroDivisorKind

abbrev pub as_judged : Result ℤ ExprFault → Judged ℤ
as_judged (Ok n) = Ok n
as_judged (Err fault) = Err (kind_of_fault fault)

abbrev pub valued : List Binding → Expression → Judged ℤ
valued env e = as_judged (value env e)

-- where a range begins and ends: with one number, at it
abbrev pub last_of : List Binding → Option Expression → ℤ → Judged ℤ
last_of env None first = Ok first
last_of env (Some e) first = valued env e

abbrev pub ends_of : List Binding → Range → Judged (ℤ × ℤ)
ends_of env range =
    judging (valued env range.first) (λ first.
    judging (last_of env range.last first) (λ last. Ok (first, last)))

abbrev pub written_ends : List Binding → Option Range → Judged (Option (ℤ × ℤ))
written_ends env None = Ok None
written_ends env (Some range) = judging (ends_of env range) (λ ends. Ok (Some ends))

abbrev pub numbers_between : ℤ × ℤ → Judged (List ℕ)
numbers_between ends = or_refuse (bits_of ends.0 ends.1) BadRange

-- without a range bit 0 is meant
abbrev pub numbers_of : Option (ℤ × ℤ) → Judged (List ℕ)
numbers_of None = Ok (0 ∷ [])
numbers_of (Some ends) = numbers_between ends

-- ---- formals

-- the outer bit of a formal's bit: it stands where the number does
abbrev pub bit_at_place : {B : Type 0} → List B → Option ℕ → Option B
bit_at_place bits None = None
bit_at_place bits (Some k) = slice_get bits k

unfoldable pub bit_numbered : {B : Type 0} → List ℕ → List B → ℕ → Option B
bit_numbered numbers bits i = bit_at_place bits (position (λ n. n == i) numbers)

abbrev pub outer_bit : {B : Type 0} → List ℕ → List B → ℕ → Judged B
outer_bit numbers bits i = or_refuse (bit_numbered numbers bits i) BadRange

abbrev pub outer_bits : {B : Type 0} → List ℕ → List B → List ℕ → Judged (List B)
outer_bits numbers bits chosen = collected (outer_bit numbers bits) [] chosen

-- without a range all bits of the formal are meant
abbrev pub formal_bits : {B : Type 0} → List ℕ → List B → Option (ℤ × ℤ) → Judged (List B)
formal_bits numbers bits None = Ok bits
formal_bits numbers bits (Some ends) =
    judging (numbers_between ends) (λ chosen. outer_bits numbers bits chosen)

-- a formal has no assertion
abbrev pub if_unasserted : {A : Type 0} → AssertSpec → A → Judged A
if_unasserted Unasserted a = Ok a
if_unasserted _ a = Err AssertionClash

unfoldable pub formal_term : {B : Type 0} → List ℕ → List B → AssertSpec → Option (ℤ × ℤ) →
    Judged (List B)
formal_term numbers bits spec ends =
    judging (formal_bits numbers bits ends) (λ chosen. if_unasserted spec chosen)

-- ---- nets

-- it is an assertion, and another than the one that the base name of a scope has
abbrev pub clashes : List Asserted → List ℕ → AssertSpec → Bool
clashes asserted text spec =
    is_asserted spec && (is_asserted (spec_of asserted text)
    && not (same_assertion spec (spec_of asserted text)))

-- the circuit with the net, whose wire has the header's bounds
abbrev pub with_net : State → Name → State
with_net s name = record s { names = s.names ++ name ∷ []; wires = s.wires ++ s.header.wire ∷ [] }

abbrev pub with_assertion : State → List ℕ → AssertSpec → State
with_assertion s text spec = record s { asserted = with_asserted s.asserted text spec }

abbrev pub naming : Name → Place → State → Outcome (Unit {0})
naming name place s =
    if has_name s.names name then Gives tt s
    else if nat_lt (length s.names) most_bits then Gives tt (with_net s name)
    else Fails TooMany place

abbrev pub plain : Where → Bit
plain target = record { target = target; inverted = false }

-- An assertion belongs to all bits of its base name. A net that is named again is the same net.
abbrev pub net_bit : List ℕ → AssertSpec → Place → ℕ → State → Outcome (List Bit)
net_bit text spec place i s =
    if clashes s.asserted text spec then Fails AssertionClash place
    else after (naming (record { text = text; bit = i }) place s) (λ _ s1.
    Gives (plain (On (record { text = text; bit = i })) ∷ []) (with_assertion s1 text spec))

abbrev pub net_bits : List ℕ → AssertSpec → Place → List ℕ → State → Outcome (List Bit)
net_bits text spec place numbers s = gathered (net_bit text spec place) [] numbers s

-- ---- terms

-- the bits that a name means, followed by a range with these ends, or by none
abbrev pub meant : Option Bound → List ℕ → AssertSpec → Option (ℤ × ℤ) → Place → State →
    Outcome (List Bit)
meant (Some f) text spec ends place s =
    judged (formal_term f.numbers f.bits spec ends) place (λ bits. Gives bits s)
meant None text spec ends place s =
    judged (numbers_of ends) place (λ numbers. net_bits text spec place numbers s)

unfoldable pub named_bits : Scope → SignalName → Option (ℤ × ℤ) → Place → State → Outcome (List Bit)
named_bits scope name ends place s =
    meant (formal_of scope.formals name) (net_text scope.path name) name.spec ends place s

abbrev pub item_bits : Scope → Item → Place → State → Outcome (List Bit)
item_bits scope Zero place s = Gives (plain (Fixed false) ∷ []) s
item_bits scope One place s = Gives (plain (Fixed true) ∷ []) s
item_bits scope (Named name range) place s =
    judged (written_ends scope.env range) place (λ ends. named_bits scope name ends place s)

abbrev pub turned_bit : Bool → Bit → Bit
turned_bit minus b = record b { inverted = if minus then not b.inverted else b.inverted }

unfoldable pub term_bits : Scope → Place → Term → State → Outcome (List Bit)
term_bits scope place t s =
    after (item_bits scope t.item place s) (λ bits s1. Gives (map (turned_bit t.minus) bits) s1)

-- ---- connections

-- the bits of a connection, and whether it is marked
pub record Joined : Type 0 where
  pub bits : List Bit
  pub hold : Bool

-- A connection has a bit at least: one without a term, which no text draws, is refused as one that
-- is too wide.
abbrev pub has_width : List Bit → Bool
has_width bits = nat_le 1 (length bits) && nat_le (length bits) widest

abbrev pub terms_bits : Scope → Place → List Term → State → Outcome (List Bit)
terms_bits scope place terms s = gathered (term_bits scope place) [] terms s

unfoldable pub joined : Scope → Place → Connection → State → Outcome (List Joined)
joined scope place c s =
    after (terms_bits scope place c.terms s) (λ bits s1.
    if has_width bits then Gives ((record { bits = bits; hold = c.hold }) ∷ []) s1
    else Fails Width place)

unfoldable pub all_joined : Scope → Place → List Connection → State → Outcome (List Joined)
all_joined scope place connections s = gathered (joined scope place) [] connections s

-- the connections of a use, from left to right
pub record Wires : Type 0 where
  pub ins : List Joined
  pub outs : List Joined

unfoldable pub wires_of : Scope → UseStatement → State → Outcome Wires
wires_of scope u s =
    after (all_joined scope u.place u.ins s) (λ ins s1.
    after (all_joined scope u.place u.outs s1) (λ outs s2.
    Gives (record { ins = ins; outs = outs }) s2))
