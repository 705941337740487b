-- The kinds of elements and checkers, a row each, and what follows from a row.
use Rattle.std.specs.Prelude.{ℕ, ◌==◌, Bool, true, false, not, List, [], ◌∷◌, map, codes, Option, Some, None, is_some}
use Rattle.std.specs.List.{find}
use Rattle.std.specs.Str.{bytes_eq}
use Rattle.element_kinds.specs.declared.kind.Kind.{Kind}
use Rattle.element_kinds.specs.declared.kind.Kind.TheVariants.{Buf, And, Or, Xor, Mux2, Mux4, Mux8, Chg, Reg, RegRs, Latch, LatchRs, SetupHold, RiseFall, MinPulse}
use Rattle.element_kinds.specs.declared.form.Check.{Check}
use Rattle.element_kinds.specs.declared.form.Check.TheVariants.{SetupHold as AboutRise, RiseFall as RiseToFall, MinPulse as Widths}
use Rattle.element_kinds.specs.declared.form.Form.{Form}
use Rattle.element_kinds.specs.declared.form.Form.TheVariants.{Gate, Change, Register, Latch as Enabled, Checker}

-- ---- the rows

-- A kind's name in a drawing, what makes its output, the fewest and the most input connections of
-- a use, and the bit at which a pin settles the output whatever the others show. One pin may be
-- marked exactly if there is such a bit.
pub record KindRow : Type 0 where
  pub name : List ℕ
  pub form : Form
  pub inputs : ℕ × ℕ
  pub closes : Option Bool

abbrev pub row : List ℕ → Form → ℕ × ℕ → Option Bool → KindRow
row name form inputs closes = record { name = name; form = form; inputs = inputs; closes = closes }

-- what is asked of a kind, by its row
abbrev pub by_row : {A : Type 0} → (List ℕ → Form → ℕ × ℕ → Option Bool → A) → Kind → A
by_row f Buf = f (codes "BUF") Gate (1, 1) None
by_row f And = f (codes "AND") Gate (1, 16) (Some false)
by_row f Or = f (codes "OR") Gate (1, 16) (Some true)
by_row f Xor = f (codes "XOR") Gate (1, 16) None
by_row f Mux2 = f (codes "MUX2") Gate (3, 3) None
by_row f Mux4 = f (codes "MUX4") Gate (6, 6) None
by_row f Mux8 = f (codes "MUX8") Gate (11, 11) None
by_row f Chg = f (codes "CHG") Change (1, 16) None
by_row f Reg = f (codes "REG") (Register false) (2, 2) None
by_row f RegRs = f (codes "REG_RS") (Register true) (4, 4) None
by_row f Latch = f (codes "LATCH") (Enabled false) (2, 2) None
by_row f LatchRs = f (codes "LATCH_RS") (Enabled true) (4, 4) None
by_row f SetupHold = f (codes "SETUP_HOLD_CHK") (Checker AboutRise) (2, 2) None
by_row f RiseFall = f (codes "SETUP_RISE_HOLD_FALL_CHK") (Checker RiseToFall) (2, 2) None
by_row f MinPulse = f (codes "MIN_PULSE_CHK") (Checker Widths) (1, 1) None

abbrev pub name_of : Kind → List ℕ
name_of kind = by_row (λ name form inputs closes. name) kind

-- what is asked of a kind, by its form
abbrev pub by_form : {A : Type 0} → (Form → A) → Kind → A
by_form f kind = by_row (λ name form inputs closes. f form) kind

abbrev pub form_of : Kind → Form
form_of kind = by_form (λ form. form) kind

abbrev pub inputs_of : Kind → ℕ × ℕ
inputs_of kind = by_row (λ name form inputs closes. inputs) kind

abbrev pub closes_of : Kind → Option Bool
closes_of kind = by_row (λ name form inputs closes. closes) kind

abbrev pub row_of : Kind → KindRow
row_of kind = row (name_of kind) (form_of kind) (inputs_of kind) (closes_of kind)

-- ---- selects

-- how many of its input connections, from the first on, select among those that follow
abbrev pub selects_of : Kind → ℕ
selects_of Buf = 0
selects_of And = 0
selects_of Or = 0
selects_of Xor = 0
selects_of Mux2 = 1
selects_of Mux4 = 2
selects_of Mux8 = 3
selects_of Chg = 0
selects_of Reg = 0
selects_of RegRs = 0
selects_of Latch = 0
selects_of LatchRs = 0
selects_of SetupHold = 0
selects_of RiseFall = 0
selects_of MinPulse = 0

-- ---- names

-- all kinds, in the order of their rows
abbrev pub kinds : List Kind
kinds =
    Buf ∷ And ∷ Or ∷ Xor ∷ Mux2 ∷ Mux4 ∷ Mux8 ∷ Chg ∷ Reg ∷ RegRs ∷ Latch ∷ LatchRs ∷ SetupHold
    ∷ RiseFall ∷ MinPulse ∷ []

abbrev pub kind_names : List (List ℕ)
kind_names = map name_of kinds

abbrev pub is_named : List ℕ → Kind → Bool
is_named name kind = bytes_eq name (name_of kind)

-- the kind of a name
abbrev pub kind_of : List ℕ → Option Kind
kind_of name = find (is_named name) kinds

-- ---- what follows from the form

-- checkers have no output
abbrev pub makes_output : Form → Bool
makes_output Gate = true
makes_output Change = true
makes_output (Register forced) = true
makes_output (Enabled forced) = true
makes_output (Checker check) = false

abbrev pub has_output : Kind → Bool
has_output kind = by_form makes_output kind

-- The pins, by their places, that an output changes with: all but a register's input, which counts
-- at its clock's rise.
abbrev pub listens_in : Form → ℕ → Bool
listens_in Gate place = true
listens_in Change place = true
listens_in (Register forced) place = not (place == 1)
listens_in (Enabled forced) place = true
listens_in (Checker check) place = true

abbrev pub listens : Kind → ℕ → Bool
listens kind place = by_form (λ form. listens_in form place) kind

-- a function of the bits that all pins show
abbrev pub is_function : Form → Bool
is_function Gate = true
is_function Change = false
is_function (Register forced) = false
is_function (Enabled forced) = false
is_function (Checker check) = false

-- the kinds that may have a rise delay and a fall delay
abbrev pub may_split : Kind → Bool
may_split kind = by_form is_function kind

-- changes may come from each pin by another delay
abbrev pub may_vary : Form → Bool
may_vary Gate = false
may_vary Change = true
may_vary (Register forced) = false
may_vary (Enabled forced) = false
may_vary (Checker check) = false

abbrev pub is_change : Kind → Bool
is_change kind = by_form may_vary kind

-- registers and latches keep a bit
abbrev pub keeps_bit : Form → Bool
keeps_bit Gate = false
keeps_bit Change = false
keeps_bit (Register forced) = true
keeps_bit (Enabled forced) = true
keeps_bit (Checker check) = false

-- an output by what the pins do alone: gates and change functions
abbrev pub is_memoryless : Form → Bool
is_memoryless Gate = true
is_memoryless Change = true
is_memoryless (Register forced) = false
is_memoryless (Enabled forced) = false
is_memoryless (Checker check) = false

-- what a checker checks
abbrev pub check_in : Form → Option Check
check_in Gate = None
check_in Change = None
check_in (Register forced) = None
check_in (Enabled forced) = None
check_in (Checker check) = Some check

abbrev pub check_of : Kind → Option Check
check_of kind = by_form check_in kind

-- at edges of a clock
abbrev pub is_at_edges : Check → Bool
is_at_edges AboutRise = true
is_at_edges RiseToFall = true
is_at_edges Widths = false

-- of the widths of pulses
abbrev pub is_of_widths : Check → Bool
is_of_widths AboutRise = false
is_of_widths RiseToFall = false
is_of_widths Widths = true

-- there is a check, and it passes the test
abbrev pub checks_so : (Check → Bool) → Option Check → Bool
checks_so test None = false
checks_so test (Some check) = test check

abbrev pub is_of_points : Form → Bool
is_of_points form = checks_so is_at_edges (check_in form)

abbrev pub is_of_pulses : Form → Bool
is_of_pulses form = checks_so is_of_widths (check_in form)

-- the kinds of checkers that hold an input against the edges of a clock
abbrev pub checks_points : Kind → Bool
checks_points kind = by_form is_of_points kind

-- the kind of checkers that measure pulses
abbrev pub checks_pulses : Kind → Bool
checks_pulses kind = by_form is_of_pulses kind

-- ---- what follows from the bit that settles

-- a pin may be marked
abbrev pub may_be_marked : Kind → Bool
may_be_marked kind = is_some (closes_of kind)

abbrev pub marks_by : Option Bool → ℕ
marks_by None = 0
marks_by (Some bit) = 1

-- how many pins may be marked `!H`
abbrev pub greatest_marks : Kind → ℕ
greatest_marks kind = marks_by (closes_of kind)
