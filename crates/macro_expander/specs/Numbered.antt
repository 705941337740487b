-- What the numbers of nets stand for while a circuit is expanded, and what it is to take a step by
-- them.
use Rattle.std.specs.Prelude.{◌≡◌, ℕ, ◌<◌, ◌≤◌, Bool, true, false, not, if◌then◌else◌, List, [], ◌∷◌, ◌++◌, length, map, nat_le, Option, Some, None, Result, Ok, Err}
use Rattle.std.specs.List.{All, flat_map, zip}
use Rattle.scald_base.specs.declared.refusal.Refusal.{Refusal}
use Rattle.scald_base.specs.declared.refusal.Stop.{Stop}
use Rattle.scald_base.specs.declared.refusal.Stop.TheVariants.{Refused}
use Rattle.vector_names.specs.declared.bits.Target.{Target}
use Rattle.vector_names.specs.declared.bits.Target.TheVariants.{Net as OnNet, Constant}
use Rattle.vector_names.specs.declared.bits.BitRef.{BitRef}
use Rattle.vector_names.specs.Bits.{widest}
use Rattle.element_kinds.specs.declared.kind.Kind.{Kind}
use Rattle.element_kinds.specs.Kinds.{is_change}
use Rattle.drawing_tree.specs.declared.statement.UseStmt.{UseStmt}
use Rattle.macro_expander.specs.declared.primitive.Plan.{Plan}
use Rattle.macro_expander.specs.Primitives.{bit_at}
use Rattle.flat_circuit.specs.Name.{Name, name_at}
use Rattle.flat_circuit.specs.Instances.{TargetExists}
use Rattle.flat_circuit.specs.declared.instance.Pin.{Pin}
use Rattle.flat_circuit.specs.declared.instance.Instance.{Instance}
use Rattle.macro_expander.specs.declared.expansion.Expansion.{Expansion}
use Rattle.macro_expander.specs.declared.scope.Bound as numbered_bound
use Rattle.macro_expander.specs.declared.scope.Scope as numbered_scope
use Rattle.macro_expander.specs.declared.connection.Joined as numbered_joined
use Rattle.macro_expander.specs.declared.connection.Wires as numbered_wires
use Rattle.macro_expander.specs.Named.{Where, On, Fixed, Bit, NamedPin, NamedInstance, State}
use Rattle.macro_expander.specs.declared.formal.Shape.{Shape}
use Rattle.macro_expander.specs.declared.formal.Inside.{Inside}
use Rattle.macro_expander.specs.Outcome.{Outcome, Gives, Fails, Judged, judging, collected, gathered, each}
use Rattle.macro_expander.specs.Macros.{input_bits, output_bits}
use Rattle.macro_expander.specs.Runs.{IsRun}
use Rattle.macro_expander.specs.Terms.{Bound, Scope, Joined, Wires}

-- ---- what they stand for

abbrev pub where_of : List Name → Target → Where
where_of names (OnNet i) = On (name_at names i)
where_of names (Constant b) = Fixed b

abbrev pub bit_of : List Name → BitRef → Bit
bit_of names b = record { target = where_of names b.target; inverted = b.inverted }

-- a bit complemented if a minus stands before it
abbrev pub turned_ref : Bool → BitRef → BitRef
turned_ref minus b = record b { inverted = if minus then not b.inverted else b.inverted }

abbrev pub pin_of : List Name → Pin → NamedPin
pin_of names p = record { target = where_of names p.target; inverted = p.inverted; hold = p.hold }

abbrev pub out_of : List Name → Option Target → Option Where
out_of names None = None
out_of names (Some t) = Some (where_of names t)

abbrev pub instance_of : List Name → Instance → NamedInstance
instance_of names j = record {
  path = j.path;
  bit = j.bit;
  kind = j.kind;
  delay = j.delay;
  split = j.split;
  limits = j.limits;
  pins = map (pin_of names) j.pins;
  out = out_of names j.out;
  out_inverted = j.out_inverted;
  place = j.place;
}

-- ---- the bits of a use, by numbers

abbrev pub no_ref : BitRef
no_ref = record { target = Constant false; inverted = false }

abbrev pub pin_ref : Bool → BitRef → Pin
pin_ref hold b = record { target = b.target; inverted = b.inverted; hold = hold }

abbrev pub all_refs : numbered_joined.Joined → List Pin
all_refs c = map (pin_ref c.hold) c.bits

abbrev pub column_ref : ℕ → numbered_joined.Joined → Pin
column_ref k c = pin_ref c.hold (bit_at no_ref c.bits k)

abbrev pub refs_by : Bool → List numbered_joined.Joined → ℕ → List Pin
refs_by true ins k = flat_map all_refs ins
refs_by false ins k = map (column_ref k) ins

abbrev pub pin_refs : Kind → List numbered_joined.Joined → ℕ → List Pin
pin_refs kind ins k = refs_by (is_change kind) ins k

abbrev pub output_ref : List numbered_joined.Joined → ℕ → Option BitRef
output_ref [] k = None
output_ref (c ∷ _) k = Some (bit_at no_ref c.bits k)

abbrev pub target_ref : Option BitRef → Option Target
target_ref None = None
target_ref (Some b) = Some b.target

abbrev pub inverted_ref : Option BitRef → Bool
inverted_ref None = false
inverted_ref (Some b) = b.inverted

abbrev pub instance_ref : List ℕ → UseStmt → Kind → Plan → List numbered_joined.Joined →
    List numbered_joined.Joined → ℕ → Instance
instance_ref path u kind plan ins outs k = record {
  path = path;
  bit = k;
  kind = kind;
  delay = plan.delay;
  split = plan.split;
  limits = plan.limits;
  pins = pin_refs kind ins k;
  out = target_ref (output_ref outs k);
  out_inverted = inverted_ref (output_ref outs k);
  place = u.place;
}

-- the circuit so far
abbrev pub state_of : Expansion → State
state_of e = record {
  header = e.builder.header;
  statements = e.statements;
  names = e.builder.names;
  wires = e.builder.wires;
  asserted = e.builder.asserted;
  instances = map (instance_of e.builder.names) e.builder.instances;
}

abbrev pub joined_of : List Name → numbered_joined.Joined → Joined
joined_of names c = record { bits = map (bit_of names) c.bits; hold = c.hold }

-- how many bits a connection has
abbrev pub bits_in : numbered_joined.Joined → ℕ
bits_in c = length c.bits

abbrev pub bound_of : List Name → numbered_bound.Bound → Bound
bound_of names f = record { base = f.base; numbers = f.numbers; bits = map (bit_of names) f.bits }

abbrev pub scope_of : List Name → numbered_scope.Scope → Scope
scope_of names s = record {
  path = s.path;
  suffix = s.suffix;
  env = s.env;
  formals = map (bound_of names) s.formals;
}

-- ---- the formals of a use, by numbers

-- the numbers of a formal are those of a range
pub record IsRange (shape : Shape) : Type 0 where
  pub few : length shape.numbers ≤ widest
  pub run : IsRun shape.numbers

abbrev pub bound_ref : Shape → List BitRef → numbered_bound.Bound
bound_ref shape bits = record { base = shape.base; numbers = shape.numbers; bits = bits }

abbrev pub input_bound_ref : Shape × numbered_joined.Joined → Judged numbered_bound.Bound
input_bound_ref pair = judging (input_bits pair.0 pair.1.bits) (λ bits. Ok (bound_ref pair.0 bits))

abbrev pub output_bound_ref : Shape × numbered_joined.Joined → Judged numbered_bound.Bound
output_bound_ref pair =
    judging (output_bits pair.0 pair.1.bits) (λ bits. Ok (bound_ref pair.0 bits))

-- the formals of a macro, the inputs' and then the outputs', bound to the connections of a use
abbrev pub bound_formals_ref : Inside → numbered_wires.Wires → Judged (List numbered_bound.Bound)
bound_formals_ref inside w =
    judging (collected input_bound_ref [] (zip inside.ins w.ins)) (λ inputs.
    collected output_bound_ref inputs (zip inside.outs w.outs))

-- ---- numbers that there are

pub record BitExists (nets : ℕ) (b : BitRef) : Type 0 where
  pub target : TargetExists nets b.target

pub record JoinedExists (nets : ℕ) (c : numbered_joined.Joined) : Type 0 where
  pub bits : All (BitExists nets) c.bits

pub record BoundExists (nets : ℕ) (f : numbered_bound.Bound) : Type 0 where
  pub bits : All (BitExists nets) f.bits

pub record ScopeExists (nets : ℕ) (s : numbered_scope.Scope) : Type 0 where
  pub formals : All (BoundExists nets) s.formals

abbrev pub names_in : Expansion → List Name
names_in e = e.builder.names

abbrev pub nets_in : Expansion → ℕ
nets_in e = length e.builder.names

-- later there are the same nets under the same numbers, and more
pub record Grows (old new : Expansion) : Type 0 where
  pub more : List Name
  pub names : names_in new ≡ names_in old ++ more
  pub header : new.builder.header ≡ old.builder.header
  pub statements : old.statements ≤ new.statements

-- ---- steps

-- the refusal of a step, or want of memory
pub record Failed {A : Type 0} (stop : Stop) (o : Outcome A) : Type 0 where
  pub agrees : (r : Refusal) → stop ≡ Refused r → o ≡ Fails r.kind r.place

pub record GivesBits (old new : Expansion) (bits : List BitRef)
    (o : Outcome (List Bit)) : Type 0 where
  pub is : o ≡ Gives (map (bit_of (names_in new)) bits) (state_of new)
  pub grows : Grows old new
  pub exist : All (BitExists (nets_in new)) bits

abbrev pub BitsAt : Expansion → Expansion → Result (List BitRef) Stop → Outcome (List Bit) → Type 0
BitsAt old new (Ok bits) o = GivesBits old new bits o
BitsAt old new (Err stop) o = Failed stop o

abbrev pub BitAt : Expansion → Expansion → Result BitRef Stop → Outcome (List Bit) → Type 0
BitAt old new (Ok bit) o = GivesBits old new (bit ∷ []) o
BitAt old new (Err stop) o = Failed stop o

-- the bits of a further term after those that are kept, unless these are more than a connection may
-- have
abbrev pub kept_with : {B : Type 0} → List B → List B → List B
kept_with kept more = if nat_le (length kept) widest then kept ++ more else kept

-- What is kept of all bits: all, if they are no more than a connection may have, and else more
-- than that.
pub record Keeps {B : Type 0} (kept all : List B) : Type 0 where
  pub narrow : length kept ≤ widest → kept ≡ all
  pub wide : widest < length kept → widest < length all

-- all bits, of which these are kept
pub record GivesFront (old new : Expansion) (kept : List BitRef)
    (o : Outcome (List Bit)) : Type 0 where
  pub all : List BitRef
  pub keeps : Keeps kept all
  pub gives : GivesBits old new all o

abbrev pub FrontAt : Expansion → Expansion → Result (List BitRef) Stop → Outcome (List Bit) → Type 0
FrontAt old new (Ok kept) o = GivesFront old new kept o
FrontAt old new (Err stop) o = Failed stop o

pub record GivesJoined (old new : Expansion) (c : numbered_joined.Joined)
    (o : Outcome (List Joined)) : Type 0 where
  pub is : o ≡ Gives (joined_of (names_in new) c ∷ []) (state_of new)
  pub grows : Grows old new
  pub exists : JoinedExists (nets_in new) c

abbrev pub JoinedAt : Expansion → Expansion → Result numbered_joined.Joined Stop →
    Outcome (List Joined) → Type 0
JoinedAt old new (Ok c) o = GivesJoined old new c o
JoinedAt old new (Err stop) o = Failed stop o

pub record GivesAllJoined (old new : Expansion) (cs : List numbered_joined.Joined)
    (o : Outcome (List Joined)) : Type 0 where
  pub is : o ≡ Gives (map (joined_of (names_in new)) cs) (state_of new)
  pub grows : Grows old new
  pub exist : All (JoinedExists (nets_in new)) cs

abbrev pub AllJoinedAt : Expansion → Expansion → Result (List numbered_joined.Joined) Stop →
    Outcome (List Joined) → Type 0
AllJoinedAt old new (Ok cs) o = GivesAllJoined old new cs o
AllJoinedAt old new (Err stop) o = Failed stop o

abbrev pub named_wires : List Name → numbered_wires.Wires → Wires
named_wires names w =
    record { ins = map (joined_of names) w.ins; outs = map (joined_of names) w.outs }

pub record GivesWires (old new : Expansion) (w : numbered_wires.Wires)
    (o : Outcome Wires) : Type 0 where
  pub is : o ≡ Gives (named_wires (names_in new) w) (state_of new)
  pub grows : Grows old new
  pub ins : All (JoinedExists (nets_in new)) w.ins
  pub outs : All (JoinedExists (nets_in new)) w.outs

abbrev pub WiresAt : Expansion → Expansion → Result numbered_wires.Wires Stop → Outcome Wires →
    Type 0
WiresAt old new (Ok w) o = GivesWires old new w o
WiresAt old new (Err stop) o = Failed stop o

pub record GivesScope (old new : Expansion) (s : numbered_scope.Scope)
    (o : Outcome Scope) : Type 0 where
  pub is : o ≡ Gives (scope_of (names_in new) s) (state_of new)
  pub grows : Grows old new
  pub exists : ScopeExists (nets_in new) s

abbrev pub ScopeAt : Expansion → Expansion → Result numbered_scope.Scope Stop → Outcome Scope →
    Type 0
ScopeAt old new (Ok s) o = GivesScope old new s o
ScopeAt old new (Err stop) o = Failed stop o

pub record GivesDone (old new : Expansion) (o : Outcome (Unit {0})) : Type 0 where
  pub is : o ≡ Gives tt (state_of new)
  pub grows : Grows old new

abbrev pub DoneAt : Expansion → Expansion → Result (Unit {0}) Stop → Outcome (Unit {0}) → Type 0
DoneAt old new (Ok done) o = GivesDone old new o
DoneAt old new (Err stop) o = Failed stop o

-- no net is new
pub record SameNets (old new : Expansion) : Type 0 where
  pub names : names_in new ≡ names_in old
  pub header : new.builder.header ≡ old.builder.header

-- the circuit is this, with the same nets
pub record Wired (old new : Expansion) (s : State) : Type 0 where
  pub is : state_of new ≡ s
  pub names : names_in new ≡ names_in old
  pub header : new.builder.header ≡ old.builder.header
  pub statements : new.statements ≡ old.statements

-- ---- loops

-- What is left gives, after the bits so far, what the whole gives.
pub record Gathered {X : Type 0} (step : X → State → Outcome (List Bit)) (start : Expansion)
    (want : Outcome (List Bit)) (rest : List X) (bits : List BitRef) (e : Expansion) : Type 0 where
  pub agrees : gathered step (map (bit_of (names_in e)) bits) rest (state_of e) ≡ want
  pub grows : Grows start e
  pub exist : All (BitExists (nets_in e)) bits

-- The same, if of the bits so far only more than a connection may have are kept.
pub record GatheredFront {X : Type 0} (step : X → State → Outcome (List Bit)) (start : Expansion)
    (want : Outcome (List Bit)) (rest : List X) (kept : List BitRef) (e : Expansion) : Type 0 where
  pub all : List BitRef
  pub keeps : Keeps kept all
  pub gathered : Gathered step start want rest all e

-- the same, of connections
pub record GatheredJoined {X : Type 0} (step : X → State → Outcome (List Joined))
    (start : Expansion)
    (want : Outcome (List Joined)) (rest : List X) (cs : List numbered_joined.Joined)
    (e : Expansion) : Type 0 where
  pub agrees : gathered step (map (joined_of (names_in e)) cs) rest (state_of e) ≡ want
  pub grows : Grows start e
  pub exist : All (JoinedExists (nets_in e)) cs

-- What is left does what the whole does.
pub record Went {X : Type 0} (step : X → State → Outcome (Unit {0})) (start : Expansion)
    (want : Outcome (Unit {0})) (rest : List X) (e : Expansion) : Type 0 where
  pub agrees : each step rest (state_of e) ≡ want
  pub grows : Grows start e

-- the same, if no net is new
pub record WentOn {X : Type 0} (step : X → State → Outcome (Unit {0})) (start : Expansion)
    (want : Outcome (Unit {0})) (rest : List X) (e : Expansion) : Type 0 where
  pub went : Went step start want rest e
  pub same : SameNets start e

-- what is left makes of the circuit so far what the whole makes
pub record WiredSoFar (old new : Expansion) (rest whole : State) : Type 0 where
  pub agrees : rest ≡ whole
  pub names : names_in new ≡ names_in old
  pub header : new.builder.header ≡ old.builder.header
  pub statements : new.statements ≡ old.statements
