-- Cells of a wave: each permits some steps of a net, a step being the bit before and the bit after.
use Rattle.std.specs.Prelude.{◌≡◌, Bool, true, false, not}

-- What a kind of cells means. `has` says which steps a cell permits, and `any` is some cell: it
-- stands where a list has none, and nothing depends on which it is.
pub record Cells (T : Type 0) : Type 0 where
  pub has : T → Bool → Bool → Bool
  pub join : T → T → T
  pub flip : T → T
  pub quiet : T → Bool
  pub same : T → T → Bool
  pub any : T

-- The laws of cells. A cell is above another if their join is the first.
pub record IsLawful {T : Type 0} (k : Cells T) : Type 0 where
  pub same_is : (v w : T) → k.same v w ≡ true → v ≡ w
  pub same_self : (v : T) → k.same v v ≡ true
  pub join_above_left : (v w : T) → k.join (k.join v w) v ≡ k.join v w
  pub join_above_right : (v w : T) → k.join (k.join v w) w ≡ k.join v w
  pub join_least : (v w above : T) → k.join above v ≡ above → k.join above w ≡ above →
      k.join above (k.join v w) ≡ above
  pub join_regroups : (u v w : T) → k.join (k.join u v) w ≡ k.join u (k.join v w)
  pub join_turns : (v w : T) → k.join v w ≡ k.join w v
  pub join_absorbs : (v : T) → k.join v v ≡ v
  pub join_has_left : (v w : T) (before after : Bool) → k.has v before after ≡ true →
      k.has (k.join v w) before after ≡ true
  pub join_has_right : (v w : T) (before after : Bool) → k.has w before after ≡ true →
      k.has (k.join v w) before after ≡ true
  pub flip_returns : (v : T) → k.flip (k.flip v) ≡ v
  pub flip_joins : (v w : T) → k.flip (k.join v w) ≡ k.join (k.flip v) (k.flip w)
  pub flip_quiet : (v : T) → k.quiet (k.flip v) ≡ k.quiet v
  pub flip_has : (v : T) (before after : Bool) → k.has (k.flip v) (not before) (not after)
      ≡ k.has v before after
  pub quiet_rise : (v : T) → k.quiet v ≡ true → k.has v false true ≡ false
  pub quiet_fall : (v : T) → k.quiet v ≡ true → k.has v true false ≡ false
