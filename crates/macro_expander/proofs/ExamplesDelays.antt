-- The delays of a use: what they give, and which are refused, in which order.
use Rattle.std.proofs.Common.{◌≡◌, ℕ, pos, Bool, true, false, List, [], ◌∷◌, map, Option, Some, None, Ok, Err, refl}
use Rattle.std.specs.Prelude.{codes, replicate, ◌++◌}
use Rattle.scald_base.specs.Time.{Header}
use Rattle.scald_base.specs.declared.refusal.Place.{Place}
use Rattle.scald_base.specs.declared.refusal.RefusalKind.TheVariants.{BadParameter, Bounds, PinCount, UnknownName, ZeroDivisor}
use Rattle.drawing_tree.specs.Expression.{Expression, Number, Param, Binary}
use Rattle.drawing_tree.specs.declared.expr.Op.TheVariants.{Sub, Div}
use Rattle.element_kinds.specs.declared.kind.Kind.{Kind}
use Rattle.element_kinds.specs.declared.kind.Kind.TheVariants.{Buf, Chg, Reg, MinPulse}
use Rattle.element_kinds.specs.Kinds.{kinds}
use Rattle.drawing_tree.specs.Tree.{Zero, Connection, UseStatement, Use, nil, cons, Macro, Drawing}
use Rattle.macro_expander.specs.declared.primitive.Plan.{Plan}
use Rattle.macro_expander.specs.Named.{Fixed, NamedInstance}
use Rattle.macro_expander.specs.Outcome.{Judged, Gives}
use Rattle.macro_expander.specs.Terms.{term_bits, joined, all_joined, wires_of}
use Rattle.macro_expander.specs.Primitives.{takes_delays, plan_of, all_added, primitive_use}
use Rattle.macro_expander.specs.Macros.{given_to}
use Rattle.macro_expander.specs.Flat.{flat, use_act, body_at}
use Rattle.flat_circuit.specs.declared.limits.Limits.TheVariants.{None as Unlimited, Pulses}

-- ---- uses

abbrev here : Place
here = record { line = 4; col = 1 }

abbrev number : ℕ → Expression
number n = Number (pos n)

abbrev Written : Type 0
Written = Option (Expression × Expression)

abbrev from : ℕ → ℕ → Written
from min max = Some (number min, number max)

-- the least is negative
abbrev from_negative : Written
from_negative = Some (Binary Sub (number 0) (number 1), number 0)

-- the greatest has no value
abbrev to_a_fault : Written
to_a_fault = Some (number 0, Binary Div (number 1) (number 0))

abbrev to_a_name : Written
to_a_name = Some (number 0, Param (codes "N"))

abbrev constant : Connection
constant = record {
  terms = (record { minus = false; item = Zero }) ∷ [];
  hold = false;
  place = here;
}

-- of one input and one output
abbrev use_of : Written → Written → UseStatement
use_of delay fall = record {
  label = codes "u";
  kind = codes "KIND";
  delay = delay;
  fall = fall;
  params = [];
  ins = constant ∷ [];
  outs = constant ∷ [];
  place = here;
}

-- the same with a parameter that no primitive has
abbrev with_parameter : UseStatement → UseStatement
with_parameter u = record u { params = (record { name = codes "N"; value = number 1 }) ∷ [] }

abbrev with_two_inputs : UseStatement → UseStatement
with_two_inputs u = record u { ins = constant ∷ constant ∷ [] }

abbrev without_output : UseStatement → UseStatement
without_output u = record u { outs = [] }

abbrev plan : Kind → UseStatement → Judged Plan
plan kind u = plan_of 400 kind [] u

-- ---- what they give

abbrev one_delay : ℕ → ℕ → Judged Plan
one_delay min max = Ok (record { delay = record { min = min; max = max }; split = None; limits = Unlimited })

-- a checker's, of pulses of any width
abbrev no_widths : Judged Plan
no_widths = Ok (record {
  delay = record { min = 0; max = 0 };
  split = None;
  limits = Pulses 0 0;
})

abbrev two_delays : ℕ × ℕ → ℕ × ℕ → ℕ × ℕ → Judged Plan
two_delays either rise fall = Ok (record {
  delay = record { min = either.0; max = either.1 };
  split = Some (record {
    rise = record { min = rise.0; max = rise.1 };
    fall = record { min = fall.0; max = fall.1 };
  });
  limits = Unlimited;
})

alone : plan Buf (use_of (from 2 4) None) ≡ one_delay 2 4
unfolding plan_of
alone = refl

longest_alone : plan Buf (use_of (from 0 4095) None) ≡ one_delay 0 4095
unfolding plan_of
longest_alone = refl

rise_first : plan Buf (use_of (from 2 4) (from 6 8)) ≡ two_delays (2, 8) (2, 4) (6, 8)
unfolding plan_of
rise_first = refl

fall_first : plan Buf (use_of (from 6 8) (from 2 4)) ≡ two_delays (2, 8) (6, 8) (2, 4)
unfolding plan_of
fall_first = refl

fall_between : plan Buf (use_of (from 3 9) (from 5 7)) ≡ two_delays (3, 9) (3, 9) (5, 7)
unfolding plan_of
fall_between = refl

rise_between : plan Buf (use_of (from 5 7) (from 3 9)) ≡ two_delays (3, 9) (5, 7) (3, 9)
unfolding plan_of
rise_between = refl

-- two delays stay two if they are equal
equal : plan Buf (use_of (from 1 2) (from 1 2)) ≡ two_delays (1, 2) (1, 2) (1, 2)
unfolding plan_of
equal = refl

longest : plan Buf (use_of (from 0 255) (from 255 255)) ≡ two_delays (0, 255) (0, 255) (255, 255)
unfolding plan_of
longest = refl

-- ---- and so does the bit that the use makes

abbrev header : Header
header = record { units = 8; ticks = 50; wire = record { min = 0; max = 0 }; pskew = (0, 0); cskew = (0, 0) }

abbrev drawing : Drawing
drawing = record {
  version = 1;
  consts = [];
  const_places = [];
  header = header;
  macros = [];
  name = codes "ROW";
  body = cons (Use (record (use_of (from 6 8) (from 2 4)) { kind = codes "BUF" })) nil;
  cases = [];
}

abbrev drawn_bit : NamedInstance
drawn_bit = record {
  path = codes "u";
  bit = 0;
  kind = Buf;
  delay = record { min = 2; max = 8 };
  split = Some (record { rise = record { min = 6; max = 8 }; fall = record { min = 2; max = 4 } });
  limits = Unlimited;
  pins = (record { target = Fixed false; inverted = false; hold = false }) ∷ [];
  out = Some (Fixed false);
  out_inverted = false;
  place = here;
}

drawn : flat drawing ≡ Gives tt (record {
  header = header;
  statements = 1;
  names = [];
  wires = [];
  asserted = [];
  instances = drawn_bit ∷ [];
})
unfolding flat use_act body_at primitive_use plan_of all_added term_bits joined all_joined wires_of
drawn = refl

-- ---- bounds

too_long_alone : plan Buf (use_of (from 0 4096) None) ≡ Err Bounds
unfolding plan_of
too_long_alone = refl

rise_too_long : plan Buf (use_of (from 0 256) (from 0 0)) ≡ Err Bounds
unfolding plan_of
rise_too_long = refl

fall_too_long : plan Buf (use_of (from 0 0) (from 0 256)) ≡ Err Bounds
unfolding plan_of
fall_too_long = refl

rise_turned : plan Buf (use_of (from 3 2) (from 0 0)) ≡ Err Bounds
unfolding plan_of
rise_turned = refl

fall_turned : plan Buf (use_of (from 0 0) (from 3 2)) ≡ Err Bounds
unfolding plan_of
fall_turned = refl

rise_negative : plan Buf (use_of from_negative (from 0 0)) ≡ Err Bounds
unfolding plan_of
rise_negative = refl

fall_negative : plan Buf (use_of (from 0 0) from_negative) ≡ Err Bounds
unfolding plan_of
fall_negative = refl

-- ---- kinds, in the order of `kinds`: seven gates, CHG, four kinds of storage, three checkers

abbrev takers : Written → Written → List Bool
takers delay fall = map (λ kind. takes_delays kind (use_of delay fall)) kinds

no_delay : takers None None ≡ replicate 12 false ++ replicate 3 true
no_delay = refl

a_delay : takers (from 0 0) None ≡ replicate 12 true ++ replicate 3 false
a_delay = refl

both : takers (from 0 0) (from 0 0) ≡ replicate 7 true ++ replicate 8 false
both = refl

-- a fall delay without a delay counts as not there
fall_alone : takers None (from 0 0) ≡ replicate 12 false ++ replicate 3 true
fall_alone = refl

fall_is_not_looked_at : plan MinPulse (without_output (use_of None to_a_fault)) ≡ no_widths
unfolding plan_of
fall_is_not_looked_at = refl

-- ---- the order of refusals

-- the kind, before a parameter and before any expression
register_first : plan Reg (with_parameter (use_of (from 1 2) to_a_fault)) ≡ Err Bounds
unfolding plan_of
register_first = refl

change_first : plan Chg (use_of to_a_fault (from 1 2)) ≡ Err Bounds
unfolding plan_of
change_first = refl

checker_first : plan MinPulse (without_output (use_of to_a_name to_a_name)) ≡ Err Bounds
unfolding plan_of
checker_first = refl

-- a parameter, before any expression and any bound
parameter_next : plan Buf (with_parameter (use_of (from 0 256) to_a_fault)) ≡ Err BadParameter
unfolding plan_of
parameter_next = refl

-- the expressions in the order of the text, before any bound
rise_before_fall : plan Buf (use_of to_a_fault to_a_name) ≡ Err ZeroDivisor
unfolding plan_of
rise_before_fall = refl

rise_before_fault : plan Buf (use_of to_a_name to_a_fault) ≡ Err UnknownName
unfolding plan_of
rise_before_fault = refl

expressions_before_bounds : plan Buf (use_of (from 0 256) to_a_fault) ≡ Err ZeroDivisor
unfolding plan_of
expressions_before_bounds = refl

turned_before_fault : plan Buf (use_of (from 3 2) to_a_name) ≡ Err UnknownName
unfolding plan_of
turned_before_fault = refl

-- the bounds, before the connections
bounds_before_pins : plan Buf (with_two_inputs (use_of (from 0 0) (from 3 2))) ≡ Err Bounds
unfolding plan_of
bounds_before_pins = refl

pins_last : plan Buf (with_two_inputs (use_of (from 2 4) (from 6 8))) ≡ Err PinCount
unfolding plan_of
pins_last = refl

-- ---- macros

-- a macro of one input and one output, without parameters
abbrev plain_macro : Macro
plain_macro = record {
  name = codes "KIND";
  params = [];
  ins = (record { base = codes "A"; range = None }) ∷ [];
  outs = (record { base = codes "Z"; range = None }) ∷ [];
  body = nil;
  place = here;
}

macro_with_two_delays : given_to plain_macro [] (use_of (from 0 0) to_a_fault) ≡ Err Bounds
unfolding given_to
macro_with_two_delays = refl

macro_with_a_fall_alone : given_to plain_macro [] (use_of None to_a_fault) ≡ Ok []
unfolding given_to
macro_with_a_fall_alone = refl
