-- What each kind of element makes of its arguments. Its image is the set of the steps of its output
-- over all choices of one permitted step for each argument, and its value is the cover of the
-- image. A name with a prime is the bit after the step, and the name without it the bit before.
use Rattle.std.specs.Prelude.{Bool, true, false, not, ◌&&◌, ◌||◌, if◌then◌else◌}
use Rattle.step_values.specs.declared.value.Value.{Value}
use Rattle.step_values.specs.Steps.{Steps, has, cover, is_unknown}
use Rattle.step_values.specs.Each.{agree}

-- some bit passes the test
abbrev pub some_bit : (Bool → Bool) → Bool
some_bit passes = passes false || passes true

-- some step that the value permits passes the test
abbrev pub some_step : Value → Steps → Bool
some_step v passes = some_bit (λ b. some_bit (λ b'. has v b b' && passes b b'))

-- the step from b to b' alone
abbrev pub one_step : Bool → Bool → Steps
one_step b b' before after = agree b before && agree b' after

unfoldable pub image1 : (Bool → Bool → Steps) → Value → Steps
image1 rule v before after = some_step v (λ b b'. rule b b' before after)

unfoldable pub image2 : (Bool → Bool → Bool → Bool → Steps) → Value → Value → Steps
image2 rule v w before after = some_step v (λ b b'. image1 (rule b b') w before after)

unfoldable pub image3 : (Bool → Bool → Bool → Bool → Bool → Bool → Steps) → Value → Value →
    Value → Steps
image3 rule u v w before after = some_step u (λ b b'. image2 (rule b b') v w before after)

unfoldable pub image4 : (Bool → Bool → Bool → Bool → Bool → Bool → Bool → Bool → Steps) → Value →
    Value → Value → Value → Steps
image4 rule t u v w before after = some_step t (λ b b'. image3 (rule b b') u v w before after)

-- Gates: the output follows from the pins at the same tick. A rule is named for the step that it
-- makes of one step of each pin.

abbrev pub and_step : Bool → Bool → Bool → Bool → Steps
and_step a a' b b' = one_step (a && b) (a' && b')

abbrev pub or_step : Bool → Bool → Bool → Bool → Steps
or_step a a' b b' = one_step (a || b) (a' || b')

-- one of two bits is 1, and not both
abbrev pub differ : Bool → Bool → Bool
differ a b = not (agree a b)

abbrev pub xor_step : Bool → Bool → Bool → Bool → Steps
xor_step a a' b b' = one_step (differ a b) (differ a' b')

-- the input that the select names
abbrev pub selected : Bool → Bool → Bool → Bool
selected select a b = if select then b else a

abbrev pub mux2_step : Bool → Bool → Bool → Bool → Bool → Bool → Steps
mux2_step select select' a a' b b' = one_step (selected select a b) (selected select' a' b')

unfoldable pub and_image : Value → Value → Steps
and_image = image2 and_step

unfoldable pub or_image : Value → Value → Steps
or_image = image2 or_step

unfoldable pub xor_image : Value → Value → Steps
xor_image = image2 xor_step

unfoldable pub mux2_image : Value → Value → Value → Steps
mux2_image = image3 mux2_step

-- Storage: a rule says which output it allows at a tick after which output at the tick before.

-- A register keeps its output, but when its clock rises it takes in its input, which is left open
-- here.
abbrev pub reg_rule : Bool → Bool → Steps
reg_rule clock clock' before after = (not clock && clock') || agree before after

-- A latch follows its input while its enable is 1, and else keeps its output.
abbrev pub latch_rule : Bool → Bool → Steps
latch_rule enable input before after = agree after (if enable then input else before)

-- Set alone gives 1, reset alone gives 0, both give any bit, and neither leaves it to the rest.
abbrev pub set_reset : Bool → Bool → Bool → Bool → Bool
set_reset true false rest output = output
set_reset false true rest output = not output
set_reset true true rest output = true
set_reset false false rest output = rest

abbrev pub reg_rs_rule : Bool → Bool → Bool → Bool → Steps
reg_rs_rule clock clock' set reset before after =
    set_reset set reset (reg_rule clock clock' before after) after

abbrev pub latch_rs_rule : Bool → Bool → Bool → Bool → Steps
latch_rs_rule enable input set reset before after =
    set_reset set reset (latch_rule enable input before after) after

-- the rule allows this output after some other
abbrev pub allowed : Steps → Bool → Bool
allowed rule output = some_bit (λ older. rule older output)

-- what a register's rule allows if its clock may have been either bit at the tick before
abbrev pub any_clock : (Bool → Steps) → Steps
any_clock rule before after = some_bit (λ earlier. rule earlier before after)

-- The output before a step is one that the rule allowed at the tick before.

abbrev pub reg_step : Bool → Bool → Steps
reg_step clock clock' before after =
    allowed (any_clock (λ earlier. reg_rule earlier clock)) before
    && reg_rule clock clock' before after

abbrev pub reg_rs_step : Bool → Bool → Bool → Bool → Bool → Bool → Steps
reg_rs_step clock clock' set set' reset reset' before after =
    allowed (any_clock (λ earlier. reg_rs_rule earlier clock set reset)) before
    && reg_rs_rule clock clock' set' reset' before after

abbrev pub latch_step : Bool → Bool → Bool → Bool → Steps
latch_step enable enable' input input' before after =
    allowed (latch_rule enable input) before && latch_rule enable' input' before after

abbrev pub latch_rs_step : Bool → Bool → Bool → Bool → Bool → Bool → Bool → Bool → Steps
latch_rs_step enable enable' input input' set set' reset reset' before after =
    allowed (latch_rs_rule enable input set reset) before
    && latch_rs_rule enable' input' set' reset' before after

unfoldable pub reg_image : Value → Steps
reg_image = image1 reg_step

unfoldable pub reg_rs_image : Value → Value → Value → Steps
reg_rs_image = image3 reg_rs_step

unfoldable pub latch_image : Value → Value → Steps
latch_image = image2 latch_step

unfoldable pub latch_rs_image : Value → Value → Value → Value → Steps
latch_rs_image = image4 latch_rs_step

-- The value of each, which is U only if some argument is.

unfoldable pub and_of : Value → Value → Value
and_of a b = cover (and_image a b) (is_unknown a || is_unknown b)

unfoldable pub or_of : Value → Value → Value
or_of a b = cover (or_image a b) (is_unknown a || is_unknown b)

unfoldable pub xor_of : Value → Value → Value
xor_of a b = cover (xor_image a b) (is_unknown a || is_unknown b)

unfoldable pub mux2_of : Value → Value → Value → Value
mux2_of select a b =
    cover (mux2_image select a b) (is_unknown select || is_unknown a || is_unknown b)

unfoldable pub reg_of : Value → Value
reg_of clock = cover (reg_image clock) (is_unknown clock)

unfoldable pub reg_rs_of : Value → Value → Value → Value
reg_rs_of clock set reset =
    cover (reg_rs_image clock set reset) (is_unknown clock || is_unknown set || is_unknown reset)

unfoldable pub latch_of : Value → Value → Value
latch_of enable input = cover (latch_image enable input) (is_unknown enable || is_unknown input)

unfoldable pub latch_rs_of : Value → Value → Value → Value → Value
latch_rs_of enable input set reset =
    cover (latch_rs_image enable input set reset)
    (is_unknown enable || is_unknown input || is_unknown set || is_unknown reset)
