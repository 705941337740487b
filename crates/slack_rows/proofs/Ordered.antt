-- What nothing can break is the last of all.
use Rattle.std.proofs.Common.{◌≡◌, Bool, true, false, cond, refl}
use Rattle.std.specs.Prelude.{pos, int_lt}
use Rattle.slack_rows.specs.declared.slack.Slack.{Slack as Number}
use Rattle.slack_rows.specs.declared.slack.Slack.TheVariants.{NoNumber as NumberOfNone, Ticks as NumberOfTicks, Way as NumberOfWay}
use Rattle.slack_rows.specs.Slack.{Slack, Free, Ticks, Way, NoNumber, is_less}
use Rattle.slack_rows.specs.Views.{slack_by}

same_false : (b : Bool) → cond b false false ≡ false
same_false true = refl
same_false false = refl

same_true : (b : Bool) → cond b true true ≡ true
same_true true = refl
same_true false = refl

pub free_is_last : (a : Slack) → is_less Free a ≡ false
free_is_last Free = refl
free_is_last (Ticks n) = same_false (int_lt n (pos 0))
free_is_last (Way n) = refl
free_is_last NoNumber = refl

pub before_free : (a : Number) → is_less (slack_by a) Free ≡ true
before_free (NumberOfNone reason) = refl
before_free (NumberOfTicks n) = same_true (int_lt n (pos 0))
before_free (NumberOfWay n) = refl
