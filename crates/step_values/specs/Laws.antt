-- What holds of all values and of all sets of steps.
use Rattle.std.specs.Prelude.{◌≡◌, Bool, true, false, not, ◌&&◌}
use Rattle.step_values.specs.declared.value.Value.{Value}
use Rattle.step_values.specs.Steps.{Steps, has, cover, is_unknown, is_quiet, join, flip}

-- each step of the one is a step of the other
abbrev pub Within : Steps → Steps → Type 0
Within some more = (before after : Bool) → some before after ≡ true → more before after ≡ true

-- some step is in the set
abbrev pub IsInhabited : Steps → Type 0
IsInhabited steps = (before : Bool) × (after : Bool) × (steps before after ≡ true)

abbrev pub CoverPermits : Type 0
CoverPermits = (steps : Steps) (unknown : Bool) → Within steps (has (cover steps unknown))

abbrev pub CoverIsLeast : Type 0
CoverIsLeast =
    (steps : Steps) (unknown : Bool) (w : Value) → IsInhabited steps → Within steps (has w) →
    Within (has (cover steps unknown)) (has w)

abbrev pub CoverIsUnknown : Type 0
CoverIsUnknown = (steps : Steps) (unknown : Bool) →
    is_unknown (cover steps unknown) ≡ (steps false false && steps false true && steps true false
    && steps true true && unknown)

abbrev pub JoinPermits : Type 0
JoinPermits = (v w : Value) → Within (has v) (has (join v w)) × Within (has w) (has (join v w))

abbrev pub JoinIsLeast : Type 0
JoinIsLeast = (v w above : Value) → Within (has v) (has above) → Within (has w) (has above) →
    Within (has (join v w)) (has above)

abbrev pub FlipComplements : Type 0
FlipComplements =
    (v : Value) (before after : Bool) → has (flip v) (not before) (not after) ≡ has v before after

abbrev pub QuietKeeps : Type 0
QuietKeeps =
    (v : Value) (before after : Bool) → is_quiet v ≡ true → has v before after ≡ true → before
    ≡ after

abbrev pub CoverReturns : Type 0
CoverReturns = (v : Value) → cover (has v) (is_unknown v) ≡ v

-- neither the order of a join's values nor how often each comes matters
pub record JoinIsOrderless : Type 0 where
  pub turns : (v w : Value) → join v w ≡ join w v
  pub regroups : (u v w : Value) → join (join u v) w ≡ join u (join v w)
  pub absorbs : (v : Value) → join v v ≡ v
