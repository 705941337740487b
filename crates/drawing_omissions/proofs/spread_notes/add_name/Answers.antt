use Rattle.std.proofs.Common.{ap, not, refl, slice_get, sym, ◌∙◌}
use Rattle.std.proofs.lemmas.Bool.{ne_eqb}
use Rattle.drawing_omissions.proofs.Naming.{puts_net}
use Rattle.drawing_omissions.proofs.spread_notes.add_name.Goals as goal

pub returns : goal.returns
returns c =
    puts_net c.args.names.now.keys c.insert.new.self.keys c.in_ok-from_slice.field-0 c.in-Some.net.now (slice_get c.args.c.now.nets c.args.number)
    c.in_ok-insert.ensures.keys (λ a b. refl) (c.in_ok-from_slice.ensures.items ∙ c.as_slice.ensures)
    (ap not (ne_eqb c.in-Some.net.now.bit 0 c.if-net-eq0.false)) (sym c.in-Some.ensures)
