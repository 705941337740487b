use Rattle.std.proofs.Common.{◌∙◌, drop, length, ap, arith}
use Rattle.drawing_notes.specs.Common.{skew_at}
use Rattle.drawing_notes.proofs.Raising.{skews_are}
use Rattle.drawing_omissions.proofs.Written.{written_back}
use Rattle.drawing_notes.proofs.common.skews.Goals as goal

pub returns : goal.returns
returns g c =
    let old = c.in_ok-skews.skews in
    let new = c.add_skews.new.skews in
    let raised = rw c.deref_mut.ensures.value at c.add_skews.ensures in
    let long = raised.long in
    ap skew_at (written_back new (drop (length new) old.items) old.len (omega (arith, long, old.ok.0)))
    ∙ skews_are c.args.waves.now c.net_count.result old.items new (c.in_ok-skews.ensures.items_if_clones_equal (λ y same. same)) raised
