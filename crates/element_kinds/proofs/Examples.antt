-- The rows, and what follows from them, worked out on paper, in the order of the kinds.
use Rattle.std.proofs.Common.{◌≡◌, true, false, [], ◌∷◌, map, refl, Some, None}
use Rattle.std.specs.Prelude.{codes}
use Rattle.element_kinds.specs.declared.kind.Kind.TheVariants.{And, Reg, RegRs, Latch, RiseFall, MinPulse}
use Rattle.element_kinds.specs.declared.form.Check.TheVariants.{SetupHold as AboutRise, RiseFall as RiseToFall, MinPulse as Widths}
use Rattle.element_kinds.specs.declared.form.Form.TheVariants.{Gate, Change, Register, Latch as Enabled, Checker}
use Rattle.element_kinds.specs.Kinds.{kinds, kind_names, kind_of, form_of, closes_of, by_form, is_function, keeps_bit, is_memoryless, has_output, listens, is_change, checks_points, checks_pulses, inputs_of, greatest_marks}

-- ---- names

names : kind_names
    ≡ codes "BUF" ∷ codes "AND" ∷ codes "OR" ∷ codes "XOR" ∷ codes "MUX2" ∷ codes "MUX4"
    ∷ codes "MUX8" ∷ codes "CHG" ∷ codes "REG" ∷ codes "REG_RS" ∷ codes "LATCH" ∷ codes "LATCH_RS"
    ∷ codes "SETUP_HOLD_CHK" ∷ codes "SETUP_RISE_HOLD_FALL_CHK" ∷ codes "MIN_PULSE_CHK" ∷ []
names = refl

a_gate : kind_of (codes "AND") ≡ Some And
a_gate = refl

-- a whole name, and not the front of one
registers : map kind_of (codes "REG" ∷ codes "REG_RS" ∷ codes "REG_" ∷ codes "RE" ∷ codes "reg" ∷ [])
    ≡ Some Reg ∷ Some RegRs ∷ None ∷ None ∷ None ∷ []
registers = refl

checkers : map kind_of (codes "SETUP_RISE_HOLD_FALL_CHK" ∷ codes "MIN_PULSE_CHK" ∷ [])
    ≡ Some RiseFall ∷ Some MinPulse ∷ []
checkers = refl

-- ---- what makes an output

-- seven gates, a change function, storage without and with a set and a reset, and three checkers
forms : map form_of kinds
    ≡ Gate ∷ Gate ∷ Gate ∷ Gate ∷ Gate ∷ Gate ∷ Gate ∷ Change
    ∷ Register false ∷ Register true ∷ Enabled false ∷ Enabled true
    ∷ Checker AboutRise ∷ Checker RiseToFall ∷ Checker Widths ∷ []
forms = refl

functions : map (by_form is_function) kinds
    ≡ true ∷ true ∷ true ∷ true ∷ true ∷ true ∷ true ∷ false ∷ false ∷ false ∷ false ∷ false
    ∷ false ∷ false ∷ false ∷ []
functions = refl

storage : map (by_form keeps_bit) kinds
    ≡ false ∷ false ∷ false ∷ false ∷ false ∷ false ∷ false ∷ false ∷ true ∷ true ∷ true ∷ true
    ∷ false ∷ false ∷ false ∷ []
storage = refl

memoryless : map (by_form is_memoryless) kinds
    ≡ true ∷ true ∷ true ∷ true ∷ true ∷ true ∷ true ∷ true ∷ false ∷ false ∷ false ∷ false
    ∷ false ∷ false ∷ false ∷ []
memoryless = refl

-- a 0 settles an AND, and a 1 an OR
settling : map closes_of kinds
    ≡ None ∷ Some false ∷ Some true ∷ None ∷ None ∷ None ∷ None ∷ None ∷ None ∷ None ∷ None ∷ None
    ∷ None ∷ None ∷ None ∷ []
settling = refl

-- ---- outputs and pins

outputs : map has_output kinds
    ≡ true ∷ true ∷ true ∷ true ∷ true ∷ true ∷ true ∷ true ∷ true ∷ true ∷ true ∷ true
    ∷ false ∷ false ∷ false ∷ []
outputs = refl

-- pin 1 of a register alone
hears_pin_1 : map (λ kind. listens kind 1) kinds
    ≡ true ∷ true ∷ true ∷ true ∷ true ∷ true ∷ true ∷ true ∷ false ∷ false ∷ true ∷ true
    ∷ true ∷ true ∷ true ∷ []
hears_pin_1 = refl

of_registers : map (listens Reg) (0 ∷ 1 ∷ []) ≡ true ∷ false ∷ []
of_registers = refl

of_reset_registers : map (listens RegRs) (0 ∷ 1 ∷ 2 ∷ 3 ∷ []) ≡ true ∷ false ∷ true ∷ true ∷ []
of_reset_registers = refl

of_latches : map (listens Latch) (0 ∷ 1 ∷ []) ≡ true ∷ true ∷ []
of_latches = refl

connections : map inputs_of kinds
    ≡ (1, 1) ∷ (1, 16) ∷ (1, 16) ∷ (1, 16) ∷ (3, 3) ∷ (6, 6) ∷ (11, 11) ∷ (1, 16) ∷ (2, 2) ∷ (4, 4)
    ∷ (2, 2) ∷ (4, 4) ∷ (2, 2) ∷ (2, 2) ∷ (1, 1) ∷ []
connections = refl

marks : map greatest_marks kinds
    ≡ 0 ∷ 1 ∷ 1 ∷ 0 ∷ 0 ∷ 0 ∷ 0 ∷ 0 ∷ 0 ∷ 0 ∷ 0 ∷ 0 ∷ 0 ∷ 0 ∷ 0 ∷ []
marks = refl

changes : map is_change kinds
    ≡ false ∷ false ∷ false ∷ false ∷ false ∷ false ∷ false ∷ true ∷ false ∷ false ∷ false ∷ false
    ∷ false ∷ false ∷ false ∷ []
changes = refl

-- ---- checks

points : map checks_points kinds
    ≡ false ∷ false ∷ false ∷ false ∷ false ∷ false ∷ false ∷ false ∷ false ∷ false ∷ false ∷ false
    ∷ true ∷ true ∷ false ∷ []
points = refl

pulses : map checks_pulses kinds
    ≡ false ∷ false ∷ false ∷ false ∷ false ∷ false ∷ false ∷ false ∷ false ∷ false ∷ false ∷ false
    ∷ false ∷ false ∷ true ∷ []
pulses = refl
