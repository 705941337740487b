use Rattle.std.proofs.Common.{ap, not, refl, slice_get, sym, ◌∙◌}
use Rattle.drawing_omissions.proofs.Driving.{puts_driven}
use Rattle.drawing_omissions.proofs.part.add_name.Goals as goal

pub returns : goal.returns
returns c =
    puts_driven c.args.names.now.keys c.insert.new.self.keys c.in_ok-from_slice.field-0 c.in-Some.net.now (slice_get c.args.c.now.nets c.args.number)
    c.in_ok-insert.ensures.keys (λ a b. refl) (c.in_ok-from_slice.ensures.items ∙ c.as_slice.ensures)
    (c.is_none.ensures ∙ ap not c.if-is_none.false) (sym c.in-Some.ensures)
