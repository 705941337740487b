-- Values meet the laws of cells: each law is a test that is made at all of the seven values.
use Rattle.std.specs.Prelude.{◌≡◌, Bool, true, false, not, ◌||◌, if◌then◌else◌, refl}
use Rattle.std.proofs.Common.{sym, ap, ◌∙◌}
use Rattle.wave_core.specs.Cell.{IsLawful}
use Rattle.step_values.specs.declared.value.Value.{Value}
use Rattle.step_values.specs.declared.value.Value.TheVariants.{Zero, One, S, C, R, F, U}
use Rattle.step_values.specs.Steps.{has, join, flip, is_quiet}
use Rattle.step_values.specs.Cell.{same, values}
use Rattle.step_values.specs.Each.{each_bit, each_value, implied, agree, agree_is, at_value, at_values, at_step}

-- of two that are the same, the one is as good as the other
keeps : (v w : Value) → (if same v w then w else v) ≡ v
keeps Zero Zero = refl
keeps One One = refl
keeps S S = refl
keeps C C = refl
keeps R R = refl
keeps F F = refl
keeps U U = refl
keeps v w = refl

pub same_means : (v w : Value) → same v w ≡ true → v ≡ w
same_means v w h = sym (keeps v w) ∙ ap (λ b. if b then w else v) h

-- an equation of two values, at each of them
equal2 : (f g : Value → Value → Value) →
    each_value (λ v. each_value (λ w. same (f v w) (g v w))) ≡ true → (v w : Value) → f v w ≡ g v w
equal2 f g h v w = same_means (f v w) (g v w) (at_values (λ v w. same (f v w) (g v w)) h v w)

regroups : (u v w : Value) → join (join u v) w ≡ join u (join v w)
regroups u v w = same_means _ _ (at_values (λ v w. same (join (join u v) w) (join u (join v w)))
    (at_value (λ u. each_value (λ v. each_value (λ w. same (join (join u v) w)
    (join u (join v w))))) refl u) v w)

-- what the one value permits the other permits, at each step
more : (v w : Value) → each_bit (λ a. each_bit (λ b. not (has v a b) || has w a b)) ≡ true →
    (before after : Bool) → has v before after ≡ true → has w before after ≡ true
more v w h before after =
    implied (has v before after) (has w before after)
    (at_step (λ a b. not (has v a b) || has w a b) h before after)

quiet_is : (v : Value) (before after : Bool) →
    (not (is_quiet v) || agree (has v before after) false) ≡ true →
    is_quiet v ≡ true → has v before after ≡ false
quiet_is v before after h quiet =
    agree_is (has v before after) false (implied (is_quiet v) _ h quiet)

pub values_lawful : IsLawful values
values_lawful = record {
  same_is = same_means;
  same_self = at_value (λ v. same v v) refl;
  join_above_left = equal2 (λ v w. join (join v w) v) join refl;
  join_above_right = equal2 (λ v w. join (join v w) w) join refl;
  join_least = λ v w above h h'. sym (regroups above v w) ∙ ap (λ u. join u w) h ∙ h';
  join_regroups = regroups;
  join_turns = equal2 join (λ v w. join w v) refl;
  join_absorbs = λ v. same_means (join v v) v (at_value (λ v. same (join v v) v) refl v);
  join_has_left = λ v w. more v (join v w)
      (at_values (λ v w. each_bit (λ a. each_bit (λ b. not (has v a b)
      || has (join v w) a b))) refl v w);
  join_has_right = λ v w. more w (join v w)
      (at_values (λ v w. each_bit (λ a. each_bit (λ b. not (has w a b)
      || has (join v w) a b))) refl v w);
  flip_returns = λ v. same_means (flip (flip v)) v (at_value (λ v. same (flip (flip v)) v) refl v);
  flip_joins = equal2 (λ v w. flip (join v w)) (λ v w. join (flip v) (flip w)) refl;
  flip_quiet = λ v. agree_is _ _ (at_value (λ v. agree (is_quiet (flip v)) (is_quiet v)) refl v);
  flip_has = λ v before after. agree_is _ _
      (at_step (λ a b. agree (has (flip v) (not a) (not b)) (has v a b))
      (at_value (λ v. each_bit (λ a. each_bit (λ b. agree (has (flip v) (not a) (not b))
      (has v a b)))) refl v) before after);
  quiet_rise = λ v. quiet_is v false true (at_value (λ v. not (is_quiet v)
      || agree (has v false true) false) refl v);
  quiet_fall = λ v. quiet_is v true false (at_value (λ v. not (is_quiet v)
      || agree (has v true false) false) refl v);
}
