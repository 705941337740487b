-- What a kind checks, by its row, and that a kind whose pins may be marked checks nothing.
use Rattle.std.proofs.Common.{◌≡◌, Bool, true, refl, Option, None}
use Rattle.element_kinds.specs.declared.kind.Kind.{Kind}
use Rattle.element_kinds.specs.declared.kind.Kind.TheVariants.{Buf, And, Or, Xor, Mux2, Mux4, Mux8, Chg, Reg, RegRs, Latch, LatchRs, SetupHold, RiseFall, MinPulse}
use Rattle.element_kinds.specs.declared.form.Check.{Check}
use Rattle.element_kinds.specs.Kinds.{check_of, checks_points, checks_pulses, checks_so, is_at_edges, is_of_widths, may_be_marked}

abbrev pub by_check : (Check → Bool) → Kind → Bool
by_check test kind = checks_so test (check_of kind)

pub points_by : (kind : Kind) → checks_points kind ≡ by_check is_at_edges kind
points_by Buf = refl
points_by And = refl
points_by Or = refl
points_by Xor = refl
points_by Mux2 = refl
points_by Mux4 = refl
points_by Mux8 = refl
points_by Chg = refl
points_by Reg = refl
points_by RegRs = refl
points_by Latch = refl
points_by LatchRs = refl
points_by SetupHold = refl
points_by RiseFall = refl
points_by MinPulse = refl

pub pulses_by : (kind : Kind) → checks_pulses kind ≡ by_check is_of_widths kind
pulses_by Buf = refl
pulses_by And = refl
pulses_by Or = refl
pulses_by Xor = refl
pulses_by Mux2 = refl
pulses_by Mux4 = refl
pulses_by Mux8 = refl
pulses_by Chg = refl
pulses_by Reg = refl
pulses_by RegRs = refl
pulses_by Latch = refl
pulses_by LatchRs = refl
pulses_by SetupHold = refl
pulses_by RiseFall = refl
pulses_by MinPulse = refl

pub marked_checks : (kind : Kind) → may_be_marked kind ≡ true → check_of kind ≡ None
marked_checks Buf marks = refl
marked_checks And marks = refl
marked_checks Or marks = refl
marked_checks Xor marks = refl
marked_checks Mux2 marks = refl
marked_checks Mux4 marks = refl
marked_checks Mux8 marks = refl
marked_checks Chg marks = refl
marked_checks Reg marks = refl
marked_checks RegRs marks = refl
marked_checks Latch marks = refl
marked_checks LatchRs marks = refl
marked_checks SetupHold marks = absurd (cc)
marked_checks RiseFall marks = absurd (cc)
marked_checks MinPulse marks = absurd (cc)
