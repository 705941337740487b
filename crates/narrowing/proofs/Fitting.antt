-- Instances that fit a circuit fit it with other delays.
use Rattle.std.proofs.Common.{◌≡◌, ℕ, ◌+◌, ◌<◌, true, List, drop, get_or, length, refl, sym, ap, Option, Some, None}
use Rattle.std.proofs.lemmas.List.{drop_more}
use Rattle.scald_base.specs.Time.{Bounds, Header}
use Rattle.element_kinds.specs.declared.kind.Kind.{Kind}
use Rattle.element_kinds.specs.Kinds.{may_split}
use Rattle.flat_circuit.specs.declared.instance.Instance.{Instance}
use Rattle.flat_circuit.specs.declared.split.Split.{Split}
use Rattle.flat_circuit.specs.Split.{SplitFits}
use Rattle.flat_circuit.specs.Instances.{InstanceFits}
use Rattle.narrowing.specs.declared.part.Part.{Part}
use Rattle.narrowing.specs.Narrowed.{by_part, by_parts, with_split}

none_fits : (kind : Kind) (d : Bounds) (split : Option Split) → split ≡ None → SplitFits kind d split
none_fits kind d None none = tt
none_fits kind d (Some s) none = cc

pub delay_fits : (h : Header) (nets : ℕ) (j : Instance) (d : Bounds) → j.split ≡ None → InstanceFits h nets j →
    InstanceFits h nets (record j { delay = d })
delay_fits h nets j d none fits = record {
  pins = fits.pins;
  has_out = fits.has_out;
  lim = fits.lim;
  split = none_fits j.kind d j.split none;
  exists = record { reads = fits.exists.reads; drives = fits.exists.drives };
}

may_be : (kind : Kind) (d : Bounds) (split : Option Split) (s : Split) → split ≡ Some s → SplitFits kind d split →
    may_split kind ≡ true
may_be kind d None s is fits = cc
may_be kind d (Some o) s is fits = fits.0

pub split_fits : (h : Header) (nets : ℕ) (j : Instance) (s r : Split) → j.split ≡ Some s → InstanceFits h nets j →
    InstanceFits h nets (with_split j r)
split_fits h nets j s r is fits = record {
  pins = fits.pins;
  has_out = fits.has_out;
  lim = fits.lim;
  split = (may_be j.kind j.delay j.split s is fits.split, refl);
  exists = record { reads = fits.exists.reads; drives = fits.exists.drives };
}

-- by the part at a place, and then by those behind it
pub more_parts : (k : ℕ) (j : Instance) (ps : List Part) (i : ℕ) (p : Part) → i < length ps →
    by_parts k (by_part k j (get_or ps i p)) (drop (i + 1) ps) ≡ by_parts k j (drop i ps)
more_parts k j ps i p inside = ap (by_parts k j) (sym (drop_more ps i p inside))
