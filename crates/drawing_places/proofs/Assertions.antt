-- Assertions that are the same are written alike.
use Rattle.std.proofs.Common.{◌≡◌, ◌≢◌, Bool, true, false, not, ◌&&◌, refl, sym, subst}
use Rattle.std.specs.Prelude.{MatchBool}
use mathlib.Core.Bool.{beq}
use Rattle.scald_base.specs.declared.assertion.AssertSpec.{AssertSpec}
use Rattle.macro_expander.specs.Assertions.{same_assertion, same_low}
use Rattle.macro_expander.proofs.Alike.{assertion_equal, assertion_self}

pub written_alike : (a b : AssertSpec) (same : Bool) → MatchBool same (a ≡ b) (a ≢ b) → same_assertion a b ≡ same
written_alike a b true is = subst (λ (s : AssertSpec). same_assertion a s ≡ true) is (assertion_self a)
written_alike a b false differ = by (same_assertion a b) refl
  where
    by : (found : Bool) → same_assertion a b ≡ found → same_assertion a b ≡ false
    by true is = absurd (differ (assertion_equal a b is))
    by false is = is

pub not_differ : (a b : Bool) → not (beq a b) ≡ false → same_low a b ≡ true
not_differ true true is = refl
not_differ true false is = absurd (cc)
not_differ false true is = absurd (cc)
not_differ false false is = refl

pub all_alike : (base global spec same : Bool) → base ≡ true → global ≡ true → spec ≡ same → same ≡ ((base && global) && spec)
all_alike base global spec same is alike written = rw (is, alike) (sym written)
