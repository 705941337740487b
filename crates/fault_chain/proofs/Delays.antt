-- The wires, the elements and the gates with two delays of a drawn circuit have bounds in their order: each is refused
-- where it is expanded, or has such bounds.
use Rattle.std.proofs.Common.{◌≡◌, ℕ, zero, suc, ◌+◌, ◌≤◌, ℤ, pos, negsuc, Bool, true, false, if◌then◌else◌, ◌&&◌, nat_le, nat_lt, List, [], ◌∷◌, ◌++◌, length, map, Option, Some, None, Ok, Err, refl, sym, subst, arith}
use Rattle.std.specs.Prelude.{⊤}
use Rattle.std.specs.List.{All, AllByRecursion, range_with_len}
use Rattle.std.proofs.lemmas.Bool.Decides.{nat_tests}
use Rattle.std.proofs.lemmas.List.Elements.{All-from_recursion, All-weaker}
use Rattle.scald_base.specs.Time.{Bounds, IsDelay, IsHeader}
use Rattle.scald_base.specs.declared.assertion.AssertSpec.{AssertSpec}
use Rattle.scald_base.specs.declared.refusal.Place.{Place}
use Rattle.scald_base.specs.declared.refusal.RefusalKind.{RefusalKind}
use Rattle.scald_base.specs.declared.refusal.RefusalKind.TheVariants.{AssertionClash, Bounds as BoundsKind, BadParameter, PinCount, TooMany, Width}
use Rattle.assertion_syntax.specs.declared.name.SignalName.{SignalName}
use Rattle.drawing_tree.specs.declared.environment.Binding.{Binding}
use Rattle.element_kinds.specs.declared.kind.Kind.{Kind}
use Rattle.element_kinds.specs.Kinds.{kind_of}
use Rattle.flat_circuit.specs.declared.instance.Instance.{Instance}
use Rattle.flat_circuit.specs.declared.net.Net.{Net}
use Rattle.flat_circuit.specs.declared.split.Split.{Split}
use Rattle.flat_circuit.specs.Split.{either_delay}
use Rattle.flat_circuit.specs.Name.{Name}
use Rattle.flat_circuit.specs.Instances.{most_bits}
use Rattle.flat_circuit.specs.Builder.{has_name, same_name}
use Rattle.flat_circuit.specs.Circuit.{Circuit, net_names}
use Rattle.drawing_tree.specs.Tree.{Item, Zero, One, Named, Term, Connection, UseStatement, WireStatement, Statement, Use, Wire, If, For, Statements, nil, cons, Otherwise, no_else, else_, Assignment, Macro, Drawing}
use Rattle.drawing_tree.proofs.Every.{every_append, every_mapped}
use Rattle.macro_expander.specs.declared.primitive.Plan.{Plan}
use Rattle.macro_expander.specs.Named.{Where, On, Fixed, Bit, NamedInstance, State}
use Rattle.macro_expander.specs.Outcome.{Outcome, Gives, Fails, after, Judged, judging, judged, gathered, each}
use Rattle.macro_expander.specs.Terms.{Bound, Scope, labelled, Joined, formal_of, net_text, valued, written_ends, numbers_of, formal_term, clashes, with_net, naming, net_bit, meant, named_bits, item_bits, term_bits, has_width, terms_bits, joined, all_joined, wires_of}
use Rattle.macro_expander.specs.Primitives.{Delays, delay_within, delays_of, split_of, longest_delay, longest_split, written_delay, fall_of, values_given, limits_of, demanded, takes, takes_delays, are_of, are_connected, plan_of, inputs_fit, in_pin_order, is_least_first, width, width_in, instance_at, are_few, with_instance, adding, all_added, primitive_use, delay_between}
use Rattle.macro_expander.specs.Macros.{macro_of, given_to, inside_of, inner_path, bound_scope, inner_scope}
use Rattle.macro_expander.specs.Flat.{Act, set_wire, with_wire, with_wires, wire_act, expanded, macro_use, use_act_of, use_act, most_statements, counted, is_zero, turn_act, statement_act, statements_act, otherwise_act, body_at, deepest, const_values, setting_of, top, nothing_yet, flat}
use Rattle.macro_expander.specs.Setting.{Setting}
use Rattle.macro_expander.specs.Loops.{binding, in_turn, loop_ends, values_between}
use Rattle.macro_expander.specs.Numbered.{instance_of}
use Rattle.macro_expander.specs.Stands.{IsCircuitOf}
use Rattle.fault_chain.specs.Laws.{AreTwoDelays, HasDelays}

-- ---- what is judged

-- a value of which this holds, if there is one
abbrev IsOkWith : {A : Type 0} → (A → Type 0) → Judged A → Type 0
IsOkWith Q (Ok a) = Q a
IsOkWith Q (Err kind) = ⊤

judging_with : {A B : Type 0} (Q : A → Type 0) (R : B → Type 0) (j : Judged A) (next : A → Judged B) → IsOkWith Q j →
    ((a : A) → Q a → IsOkWith R (next a)) → IsOkWith R (judging j next)
judging_with Q R (Ok a) next h k = k a h
judging_with Q R (Err kind) next h k = tt

judging_any : {A B : Type 0} (R : B → Type 0) (j : Judged A) (next : A → Judged B) → ((a : A) → IsOkWith R (next a)) → IsOkWith R (judging j next)
judging_any R (Ok a) next k = k a
judging_any R (Err kind) next k = tt

demanded_with : {A : Type 0} (R : A → Type 0) (b : Bool) (kind : RefusalKind) (rest : Judged A) → IsOkWith R rest → IsOkWith R (demanded b kind rest)
demanded_with R true kind rest h = h
demanded_with R false kind rest h = tt

-- ---- delays

abbrev between : ℕ → ℕ → Bounds
between a b = record { min = a; max = b }

within_by : (longest a b : ℕ) (t : Bool) → longest ≤ 4095 → (nat_le a b && nat_le b longest) ≡ t →
    IsOkWith IsDelay (if t then Ok (between a b) else Err BoundsKind)
within_by longest a b true h e = record { ordered = grind (arith, nat_tests); bounded = grind (arith, nat_tests) }
within_by longest a b false h e = tt

within_is : (longest : ℕ) (min max : ℤ) → longest ≤ 4095 → IsOkWith IsDelay (delay_within longest min max)
within_is longest (pos a) (pos b) h = within_by longest a b (nat_le a b && nat_le b longest) h refl
within_is longest (pos a) (negsuc b) h = tt
within_is longest (negsuc a) b h = tt

abbrev IsSplit : Split → Type 0
IsSplit s = IsDelay s.rise × IsDelay s.fall

split_is : (rise fall : ℤ × ℤ) → IsOkWith IsSplit (split_of rise fall)
split_is rise fall =
    judging_with IsDelay IsSplit (delay_within longest_split rise.0 rise.1) _ (within_is longest_split rise.0 rise.1 (omega arith)) (λ r h.
    judging_with IsDelay IsSplit (delay_within longest_split fall.0 fall.1) _ (within_is longest_split fall.0 fall.1 (omega arith)) (λ f k. (h, k)))

either_is : (s : Split) → IsSplit s → IsDelay (either_delay s)
either_is s h =
    let a = h.0.ordered in
    let b = h.1.ordered in
    let c = h.0.bounded in
    let d = h.1.bounded in
    record { ordered = omega (arith, a, b); bounded = omega (arith, c, d) }

abbrev AreDelays : Delays → Type 0
AreDelays d = IsDelay d.0 × AreTwoDelays d.1

delays_are : (delay fall : Option (ℤ × ℤ)) → IsOkWith AreDelays (delays_of delay fall)
delays_are None fall = (record { ordered = omega arith; bounded = omega arith }, tt)
delays_are (Some delay) None =
    judging_with IsDelay AreDelays (delay_between delay.0 delay.1) _ (within_is longest_delay delay.0 delay.1 (omega arith)) (λ d h. (h, tt))
delays_are (Some rise) (Some fall) = judging_with IsSplit AreDelays (split_of rise fall) _ (split_is rise fall) (λ s h. (either_is s h, h))

abbrev IsPlan : Plan → Type 0
IsPlan p = IsDelay p.delay × AreTwoDelays p.split

plan_is : (ticks : ℕ) (kind : Kind) (env : List Binding) (u : UseStatement) → IsOkWith IsPlan (plan_of ticks kind env u)
unfolding plan_of
plan_is ticks kind env u =
    demanded_with IsPlan (takes_delays kind u) BoundsKind _ (
    demanded_with IsPlan (are_of (takes kind) u.params) BadParameter _ (
    judging_any IsPlan (written_delay env u.delay) _ (λ ends.
    judging_any IsPlan (written_delay env (fall_of u)) _ (λ fall.
    judging_any IsPlan (values_given env u.params) _ (λ given.
    judging_with AreDelays IsPlan (delays_of ends fall) _ (delays_are ends fall) (λ delays h.
    judging_any IsPlan (limits_of ticks kind given) _ (λ limits.
    demanded_with IsPlan (are_connected kind u) PinCount _ h)))))))

-- ---- what is expanded so far

abbrev IsDelayed : NamedInstance → Type 0
IsDelayed j = IsDelay j.delay × AreTwoDelays j.split

-- the header, whose wire nets have that no WIRE sets; and the wires of all nets, and all instances
abbrev IsTimed : State → Type 0
IsTimed s = IsHeader s.header × AllByRecursion IsDelay s.wires × AllByRecursion IsDelayed s.instances

abbrev IsTimedIn : {A : Type 0} → Outcome A → Type 0
IsTimedIn (Gives a s) = IsTimed s
IsTimedIn (Fails kind place) = ⊤

abbrev Keeps : Act → Type 0
Keeps act = (scope : Scope) (s : State) → IsTimed s → IsTimedIn (act scope s)

abbrev BodyKeeps : Option (Macro → Act) → Type 0
BodyKeeps None = ⊤
BodyKeeps (Some body) = (m : Macro) → Keeps (body m)

-- ---- steps one after another

after_keeps : {A B : Type 0} (o : Outcome A) (next : A → State → Outcome B) → IsTimedIn o →
    ((a : A) (s : State) → IsTimed s → IsTimedIn (next a s)) → IsTimedIn (after o next)
after_keeps (Gives a s) next h k = k a s h
after_keeps (Fails kind place) next h k = tt

judged_keeps : {A B : Type 0} (j : Judged A) (place : Place) (next : A → Outcome B) → ((a : A) → IsTimedIn (next a)) → IsTimedIn (judged j place next)
judged_keeps (Ok a) place next k = k a
judged_keeps (Err kind) place next k = tt

judged_with : {A B : Type 0} (Q : A → Type 0) (j : Judged A) (place : Place) (next : A → Outcome B) → IsOkWith Q j →
    ((a : A) → Q a → IsTimedIn (next a)) → IsTimedIn (judged j place next)
judged_with Q (Ok a) place next h k = k a h
judged_with Q (Err kind) place next h k = tt

either_keeps : {A : Type 0} (b : Bool) (x y : Outcome A) → IsTimedIn x → IsTimedIn y → IsTimedIn (if b then x else y)
either_keeps true x y h k = h
either_keeps false x y h k = k

gathered_keeps : {X Y : Type 0} (step : X → State → Outcome (List Y)) → ((x : X) (s : State) → IsTimed s → IsTimedIn (step x s)) →
    (ys : List Y) (xs : List X) (s : State) → IsTimed s → IsTimedIn (gathered step ys xs s)
gathered_keeps step k ys [] s h = h
gathered_keeps step k ys (x ∷ xs) s h = after_keeps (step x s) _ (k x s h) (λ more s1 h1. gathered_keeps step k (ys ++ more) xs s1 h1)

each_keeps : {X : Type 0} (step : X → State → Outcome (Unit {0})) →
    ((x : X) (s : State) → IsTimed s → IsTimedIn (step x s)) → (xs : List X) (s : State) → IsTimed s → IsTimedIn (each step xs s)
each_keeps step k [] s h = h
each_keeps step k (x ∷ xs) s h = after_keeps (step x s) _ (k x s h) (λ _ s1 h1. each_keeps step k xs s1 h1)

-- ---- names, terms and connections

naming_keeps : (name : Name) (place : Place) (s : State) → IsTimed s → IsTimedIn (naming name place s)
naming_keeps name place s h =
    either_keeps (has_name s.names name) (Gives tt s) _ h
    (either_keeps (nat_lt (length s.names) most_bits) (Gives tt (with_net s name)) (Fails TooMany place)
    (h.0, every_append IsDelay s.wires (s.header.wire ∷ []) h.1 (h.0.wire, tt), h.2) tt)

net_bit_keeps : (text : List ℕ) (spec : AssertSpec) (place : Place) (i : ℕ) (s : State) → IsTimed s → IsTimedIn (net_bit text spec place i s)
net_bit_keeps text spec place i s h =
    either_keeps (clashes s.asserted text spec) (Fails AssertionClash place) _ tt
    (after_keeps (naming (record { text = text; bit = i }) place s) _ (naming_keeps (record { text = text; bit = i }) place s h) (λ _ s1 h1. h1))

meant_keeps : (f : Option Bound) (text : List ℕ) (spec : AssertSpec) (ends : Option (ℤ × ℤ)) (place : Place) (s : State) →
    IsTimed s → IsTimedIn (meant f text spec ends place s)
meant_keeps (Some f) text spec ends place s h = judged_keeps (formal_term f.numbers f.bits spec ends) place _ (λ bits. h)
meant_keeps None text spec ends place s h =
    judged_keeps (numbers_of ends) place _ (λ numbers.
    gathered_keeps (net_bit text spec place) (λ i s1 h1. net_bit_keeps text spec place i s1 h1) [] numbers s h)

named_bits_keeps : (scope : Scope) (name : SignalName) (ends : Option (ℤ × ℤ)) (place : Place) (s : State) → IsTimed s → IsTimedIn (named_bits scope name ends place s)
unfolding named_bits
named_bits_keeps scope name ends place s h = meant_keeps (formal_of scope.formals name) (net_text scope.path name) name.spec ends place s h

item_bits_keeps : (scope : Scope) (i : Item) (place : Place) (s : State) → IsTimed s → IsTimedIn (item_bits scope i place s)
item_bits_keeps scope Zero place s h = h
item_bits_keeps scope One place s h = h
item_bits_keeps scope (Named name range) place s h = judged_keeps (written_ends scope.env range) place _ (λ ends. named_bits_keeps scope name ends place s h)

term_bits_keeps : (scope : Scope) (place : Place) (t : Term) (s : State) → IsTimed s → IsTimedIn (term_bits scope place t s)
unfolding term_bits
term_bits_keeps scope place t s h = after_keeps (item_bits scope t.item place s) _ (item_bits_keeps scope t.item place s h) (λ bits s1 h1. h1)

joined_keeps : (scope : Scope) (place : Place) (c : Connection) (s : State) → IsTimed s → IsTimedIn (joined scope place c s)
unfolding joined
joined_keeps scope place c s h =
    after_keeps (terms_bits scope place c.terms s) _
    (gathered_keeps (term_bits scope place) (λ t s1 h1. term_bits_keeps scope place t s1 h1) [] c.terms s h)
    (λ bits s1 h1. either_keeps (has_width bits) (Gives ((record { bits = bits; hold = c.hold }) ∷ []) s1) (Fails Width place) h1 tt)

all_joined_keeps : (scope : Scope) (place : Place) (cs : List Connection) (s : State) → IsTimed s → IsTimedIn (all_joined scope place cs s)
unfolding all_joined
all_joined_keeps scope place cs s h = gathered_keeps (joined scope place) (λ c s1 h1. joined_keeps scope place c s1 h1) [] cs s h

wires_of_keeps : (scope : Scope) (u : UseStatement) (s : State) → IsTimed s → IsTimedIn (wires_of scope u s)
unfolding wires_of
wires_of_keeps scope u s h =
    after_keeps (all_joined scope u.place u.ins s) _ (all_joined_keeps scope u.place u.ins s h) (λ ins s1 h1.
    after_keeps (all_joined scope u.place u.outs s1) _ (all_joined_keeps scope u.place u.outs s1 h1) (λ outs s2 h2. h2))

-- ---- the uses of primitives

adding_keeps : (j : NamedInstance) (s : State) → IsDelayed j → IsTimed s → IsTimedIn (adding j s)
adding_keeps j s d h =
    either_keeps (are_few (s.instances ++ j ∷ [])) (Gives tt (with_instance s j)) (Fails TooMany j.place)
    (h.0, h.1, every_append IsDelayed s.instances (j ∷ []) h.2 (d, tt)) tt

all_added_keeps : (path : List ℕ) (u : UseStatement) (kind : Kind) (plan : Plan) (n : ℕ) (ins outs : List Joined) (s : State) →
    IsPlan plan → IsTimed s → IsTimedIn (all_added path u kind plan n ins outs s)
unfolding all_added
all_added_keeps path u kind plan n ins outs s p h =
    each_keeps (λ k. adding (instance_at path u kind plan ins outs k)) (λ k s1 h1. adding_keeps (instance_at path u kind plan ins outs k) s1 p h1) (range_with_len 0 n) s h

primitive_use_keeps : (setting : Setting) (kind : Kind) (u : UseStatement) (scope : Scope) (s : State) → IsTimed s → IsTimedIn (primitive_use setting kind scope u s)
unfolding primitive_use
primitive_use_keeps setting kind u scope s h =
    judged_with IsPlan (plan_of setting.ticks kind scope.env u) u.place _ (plan_is setting.ticks kind scope.env u) (λ plan p.
    after_keeps (wires_of scope u s) _ (wires_of_keeps scope u s h) (λ w s1 h1.
    let ins = in_pin_order (is_least_first setting.version) kind w.ins in
    either_keeps (inputs_fit kind (width_in kind w) (map width w.ins))
    (all_added (labelled scope u.label) u kind plan (width_in kind w) ins w.outs s1) (Fails Width u.place)
    (all_added_keeps (labelled scope u.label) u kind plan (width_in kind w) ins w.outs s1 p h1) tt))

-- ---- WIRE

set_wire_keeps : (names : List Name) (wires : List Bounds) (name : Name) (wire : Bounds) → IsDelay wire → AllByRecursion IsDelay wires →
    AllByRecursion IsDelay (set_wire names wires name wire)
set_wire_keeps (n ∷ ns) (w ∷ ws) name wire d h = by (same_name name n) (set_wire_keeps ns ws name wire d h.1)
  where
    by : (b : Bool) → AllByRecursion IsDelay (set_wire ns ws name wire) →
        AllByRecursion IsDelay (if b then wire ∷ ws else w ∷ set_wire ns ws name wire)
    by true others = (d, h.1)
    by false others = (h.0, others)
set_wire_keeps (n ∷ ns) [] name wire d h = tt
set_wire_keeps [] ws name wire d h = h

with_wire_keeps : (wire : Bounds) (t : Where) (s : State) → IsDelay wire → IsTimed s → IsTimed (with_wire wire t s)
with_wire_keeps wire (On name) s d h = (h.0, set_wire_keeps s.names s.wires name wire d h.1, h.2)
with_wire_keeps wire (Fixed one) s d h = h

with_wires_keeps : (wire : Bounds) (bits : List Bit) (s : State) → IsDelay wire → IsTimed s → IsTimed (with_wires wire bits s)
with_wires_keeps wire [] s d h = h
with_wires_keeps wire (b ∷ bits) s d h = with_wires_keeps wire bits (with_wire wire b.target s) d (with_wire_keeps wire b.target s d h)

wire_act_keeps : (w : WireStatement) → Keeps (wire_act w)
unfolding wire_act
wire_act_keeps w scope s h =
    judged_keeps (written_ends scope.env w.range) w.place _ (λ ends.
    judged_keeps (valued scope.env w.min) w.place _ (λ min.
    judged_keeps (valued scope.env w.max) w.place _ (λ max.
    after_keeps (named_bits scope w.name ends w.place s) _ (named_bits_keeps scope w.name ends w.place s h) (λ bits s1 h1.
    judged_with IsDelay (delay_between min max) w.place _ (within_is longest_delay min max (omega arith)) (λ wire d. with_wires_keeps wire bits s1 d h1)))))

-- ---- the uses of macros

inner_scope_keeps : (consts : List Binding) (m : Macro) (given : List Binding) (scope : Scope) (u : UseStatement) (s : State) →
    IsTimed s → IsTimedIn (inner_scope consts m given scope u s)
unfolding inner_scope
inner_scope_keeps consts m given scope u s h =
    judged_keeps (inside_of consts m given) u.place _ (λ inside.
    after_keeps (wires_of scope u s) _ (wires_of_keeps scope u s h) (λ w s1 h1.
    judged_keeps (bound_scope (inner_path scope u.label) inside w.ins w.outs) u.place _ (λ inner. h1)))

expanded_keeps : (setting : Setting) (body : Option (Macro → Act)) (m : Macro) (given : List Binding) (u : UseStatement) →
    BodyKeeps body → Keeps (expanded setting body m given u)
expanded_keeps setting None m given u b scope s h = tt
expanded_keeps setting (Some body) m given u b scope s h =
    after_keeps (inner_scope setting.consts m given scope u s) _ (inner_scope_keeps setting.consts m given scope u s h) (λ inner s1 h1. b m inner s1 h1)

macro_use_keeps : (setting : Setting) (body : Option (Macro → Act)) (found : Option Macro) (u : UseStatement) → BodyKeeps body → Keeps (macro_use setting body found u)
macro_use_keeps setting body None u b scope s h = tt
macro_use_keeps setting body (Some m) u b scope s h = judged_keeps (given_to m scope.env u) u.place _ (λ given. expanded_keeps setting body m given u b scope s h)

module _ (setting : Setting) where
  use_act_of_keeps : (found : Option Kind) (body : Option (Macro → Act)) (u : UseStatement) → BodyKeeps body → Keeps (use_act_of found setting body u)
  use_act_of_keeps (Some kind) body u b scope s h = primitive_use_keeps setting kind u scope s h
  use_act_of_keeps None body u b scope s h = macro_use_keeps setting body (macro_of u.kind setting.macros) u b scope s h

  use_act_keeps : (body : Option (Macro → Act)) (u : UseStatement) → BodyKeeps body → Keeps (use_act setting body u)
  unfolding use_act
  use_act_keeps body u b scope s h = use_act_of_keeps (kind_of u.kind) body u b scope s h

  -- ---- statements

  counted_keeps : (place : Place) (act : Act) → Keeps act → Keeps (counted place act)
  counted_keeps place act k scope s h =
      either_keeps (nat_lt s.statements most_statements) (act scope (record s { statements = s.statements + 1 })) (Fails TooMany place)
      (k scope (record s { statements = s.statements + 1 }) h) tt

  chosen_keeps : (b : Bool) (x y : Act) → Keeps x → Keeps y → Keeps (if b then x else y)
  chosen_keeps true x y h k = h
  chosen_keeps false x y h k = k

  turn_keeps : (var : List ℕ) (place : Place) (body : Act) → Keeps body → (v : ℤ) → Keeps (turn_act var place body v)
  turn_keeps var place body k v scope s h = counted_keeps place (λ around. body (in_turn var v around)) (λ around s1 h1. k (in_turn var v around) s1 h1) scope s h

  mutual
    statement_keeps : (body : Option (Macro → Act)) (s : Statement) → BodyKeeps body → Keeps (statement_act setting body s)
    statement_keeps body (Use u) b = counted_keeps u.place (use_act setting body u) (use_act_keeps body u b)
    statement_keeps body (Wire w) b = counted_keeps w.place (wire_act w) (wire_act_keeps w)
    statement_keeps body (If test taken other place) b =
        let yes = statements_keep body taken b in
        let no = otherwise_keeps body other b in
        counted_keeps place _ (λ scope s h.
        judged_keeps (valued scope.env test) place _
        (λ v. chosen_keeps (is_zero v) (otherwise_act setting body other)
        (statements_act setting body taken) no yes scope s h))
    statement_keeps body (For var first last ss place) b =
        counted_keeps place _ (λ scope s h.
        judged_keeps (loop_ends scope.env first last) place _ (λ ends.
        each_keeps (λ v. turn_act var place (statements_act setting body ss) v scope)
        (λ v s1 h1. turn_keeps var place (statements_act setting body ss) (statements_keep body ss b) v scope s1 h1)
        (values_between ends.0 ends.1) s h))

    statements_keep : (body : Option (Macro → Act)) (ss : Statements) → BodyKeeps body → Keeps (statements_act setting body ss)
    statements_keep body nil b scope s h = h
    statements_keep body (cons first others) b scope s h =
        after_keeps (statement_act setting body first scope s) _ (statement_keeps body first b scope s h) (λ _ s1 h1. statements_keep body others b scope s1 h1)

    otherwise_keeps : (body : Option (Macro → Act)) (o : Otherwise) → BodyKeeps body → Keeps (otherwise_act setting body o)
    otherwise_keeps body no_else b scope s h = h
    otherwise_keeps body (else_ ss) b scope s h = statements_keep body ss b scope s h

  bodies_keep : (n : ℕ) → BodyKeeps (body_at setting n)
  unfolding body_at
  bodies_keep zero = tt
  bodies_keep (suc n) = λ m. statements_keep (body_at setting n) m.body (bodies_keep n)

const_values_keep : (known : List Binding) (cs : List Assignment) (places : List Place) (s : State) → IsTimed s → IsTimedIn (const_values known cs places s)
const_values_keep known [] places s h = h
const_values_keep known (c ∷ cs) [] s h = h
const_values_keep known (c ∷ cs) (place ∷ places) s h =
    judged_keeps (valued known c.value) place _ (λ v. const_values_keep (known ++ binding c.name v ∷ []) cs places s h)

flat_is_timed : (d : Drawing) → IsHeader d.header → IsTimedIn (flat d)
unfolding flat
flat_is_timed d header =
    after_keeps (const_values [] d.consts d.const_places (nothing_yet d.header)) _
    (const_values_keep [] d.consts d.const_places (nothing_yet d.header) (header, tt, tt))
    (λ consts s h.
    let setting = setting_of d consts in
    statements_keep setting (body_at setting deepest) d.body (bodies_keep setting deepest) (top consts) s h)

-- ---- the circuit

module _ (d : Drawing) (c : Circuit) (header : IsHeader d.header) (is : IsCircuitOf d c) where
  timed : IsTimed is.state
  timed = subst IsTimedIn is.expanded (flat_is_timed d header)

  pub has_header : IsHeader c.header
  has_header = subst IsHeader (sym is.stands.header) timed.0

  -- If the header is one, the delays of the drawing's circuit are.
  pub has_delays : HasDelays c
  has_delays =
      let wires : AllByRecursion IsDelay (map (λ (n : Net). n.wire) c.nets) = subst (AllByRecursion IsDelay) (sym is.stands.wires) timed.1 in
      let instances : AllByRecursion IsDelayed (map (instance_of (net_names c.nets)) c.instances) =
      subst (AllByRecursion IsDelayed) (sym is.stands.instances) timed.2 in
      let each : All (λ (j : Instance). IsDelay j.delay × AreTwoDelays j.split) c.instances =
      All-from_recursion (λ (j : Instance). IsDelay j.delay × AreTwoDelays j.split) c.instances
      (every_mapped IsDelayed (instance_of (net_names c.nets)) c.instances instances) in
      record {
        wires = All-from_recursion (λ (n : Net). IsDelay n.wire) c.nets (every_mapped IsDelay (λ (n : Net). n.wire) c.nets wires);
        delays = All-weaker (λ (j : Instance). IsDelay j.delay × AreTwoDelays j.split) (λ (j : Instance). IsDelay j.delay) (λ j h. h.0) c.instances each;
        splits = All-weaker (λ (j : Instance). IsDelay j.delay × AreTwoDelays j.split) (λ (j : Instance). AreTwoDelays j.split) (λ j h. h.1) c.instances each;
      }
