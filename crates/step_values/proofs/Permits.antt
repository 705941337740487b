-- What the cover of a set permits, and what a value permits if it is quiet.
use Rattle.std.proofs.Common.{◌≡◌, Bool, true, arith}
use Rattle.step_values.specs.declared.value.Value.{Value}
use Rattle.step_values.specs.declared.value.Value.TheVariants.{S}
use Rattle.step_values.specs.Steps.{Steps, has, cover, is_quiet}

-- the cover of a set permits each of its steps
pub cover_has : (steps : Steps) (unknown a b : Bool) → steps a b ≡ true → has (cover steps unknown) a b ≡ true
cover_has steps unknown a b h = grind arith

-- a bit that stays
pub still_has : (a b : Bool) → a ≡ b → has S a b ≡ true
still_has a b same = grind arith

pub quiet_same : (v : Value) (a b : Bool) → is_quiet v ≡ true → has v a b ≡ true → a ≡ b
quiet_same v a b q h = grind arith
