use Rattle.std.proofs.Common.{◌∙◌, sym, ap}
use Rattle.std.specs.Str.{bytes_eq}
use Rattle.macro_expander.specs.Assertions.{same_assertion, same_low}
use Rattle.drawing_places.proofs.Assertions.{all_alike, not_differ, written_alike}
use Rattle.drawing_places.proofs.names.is_wanted.Goals as goal

pub returns : goal.returns
returns c =
    all_alike (bytes_eq c.args.name.now.base c.args.wanted.base.now) (same_low c.args.name.now.global c.args.wanted.global)
    (same_assertion c.args.name.now.spec c.args.wanted.spec.now) c.is_same_assertion.result
    (ap (λ text. bytes_eq text c.args.wanted.base.now) (sym c.as_slice.ensures) ∙ sym c.same_bytes.ensures ∙ c.if-not-same_bytes.false)
    (not_differ c.args.name.now.global c.args.wanted.global c.if-name-wanted.false)
    (written_alike c.args.name.now.spec c.args.wanted.spec.now c.is_same_assertion.result c.is_same_assertion.ensures)
