-- What an element makes of one step of each of at most four pins.
use Rattle.std.specs.Prelude.{Bool}
use Rattle.step_values.specs.Steps.{Steps}
use Rattle.step_values.specs.Image.{and_step, or_step, xor_step, mux2_step, reg_rs_step, latch_rs_step}
use Rattle.element_kinds.specs.declared.kind.Kind.{Kind}
use Rattle.element_kinds.specs.declared.kind.Kind.TheVariants.{Buf, And, Or, Xor, Mux2, Mux4, Mux8, Chg, Reg, RegRs, Latch, LatchRs, SetupHold, RiseFall, MinPulse}
use Rattle.critical_paths.specs.Cause.{no_steps}

-- Of a gate two inputs, of a multiplexer a select and two inputs, and of storage its enable, input,
-- set and reset, of which a register's input does not count. What other kinds make is not said so.
unfoldable pub rule_of : Kind → Bool → Bool → Bool → Bool → Bool → Bool → Bool → Bool → Steps
rule_of Buf a a' b b' c c' d d' = no_steps
rule_of And a a' b b' c c' d d' = and_step a a' b b'
rule_of Or a a' b b' c c' d d' = or_step a a' b b'
rule_of Xor a a' b b' c c' d d' = xor_step a a' b b'
rule_of Mux2 a a' b b' c c' d d' = mux2_step a a' b b' c c'
rule_of Mux4 a a' b b' c c' d d' = mux2_step a a' b b' c c'
rule_of Mux8 a a' b b' c c' d d' = mux2_step a a' b b' c c'
rule_of Chg a a' b b' c c' d d' = no_steps
rule_of Reg a a' b b' c c' d d' = reg_rs_step a a' c c' d d'
rule_of RegRs a a' b b' c c' d d' = reg_rs_step a a' c c' d d'
rule_of Latch a a' b b' c c' d d' = latch_rs_step a a' b b' c c' d d'
rule_of LatchRs a a' b b' c c' d d' = latch_rs_step a a' b b' c c' d d'
rule_of SetupHold a a' b b' c c' d d' = no_steps
rule_of RiseFall a a' b b' c c' d d' = no_steps
rule_of MinPulse a a' b b' c c' d d' = no_steps
