-- A set of steps as a byte: a bit for each step that is in it.
use Rattle.std.specs.Prelude.{◌≡◌, ◌&&◌, ℕ, Bool, true, false, not, ◌||◌, ◌==◌, bit_and}
use Rattle.step_values.specs.Steps.{Steps}
use Rattle.step_values.specs.Image.{allowed}

abbrev pub step_bit : Bool → Bool → ℕ
step_bit false false = 1
step_bit false true = 2
step_bit true false = 4
step_bit true true = 8

-- the steps that a byte stands for
abbrev pub in_set : ℕ → Steps
in_set bits before after = not (bit_and bits (step_bit before after) == 0)

-- the byte has just the steps of the set
abbrev pub IsSet : ℕ → Steps → Type 0
IsSet bits steps = (before after : Bool) → in_set bits before after ≡ steps before after

-- the steps if they are wanted, else none
abbrev pub only_if : Bool → Steps → Steps
only_if wanted steps before after = wanted && steps before after

-- the steps of either
abbrev pub either : Steps → Steps → Steps
either some others before after = some before after || others before after

-- the steps of `next` that begin where some step of `steps` ends
abbrev pub followed_by : Steps → Steps → Steps
followed_by steps next before after = allowed steps before && next before after
