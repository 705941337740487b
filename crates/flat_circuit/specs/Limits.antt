-- The limits of a checker, one by one. Each is 0 if there is none of its sort.
use Rattle.std.specs.Prelude.{ℕ}
use Rattle.flat_circuit.specs.declared.limits.Limits.{Limits}
use Rattle.flat_circuit.specs.declared.limits.Limits.TheVariants.{None as Unlimited, Edges, Pulses}

-- for how long the input is to be stable up to an edge of the clock, and for how long after one
abbrev pub setup_of : Limits → ℕ
setup_of Unlimited = 0
setup_of (Edges setup hold) = setup
setup_of (Pulses high low) = 0

abbrev pub hold_of : Limits → ℕ
hold_of Unlimited = 0
hold_of (Edges setup hold) = hold
hold_of (Pulses high low) = 0

-- the least widths of high pulses and of low ones
abbrev pub high_of : Limits → ℕ
high_of Unlimited = 0
high_of (Edges setup hold) = 0
high_of (Pulses high low) = high

abbrev pub low_of : Limits → ℕ
low_of Unlimited = 0
low_of (Edges setup hold) = 0
low_of (Pulses high low) = low
