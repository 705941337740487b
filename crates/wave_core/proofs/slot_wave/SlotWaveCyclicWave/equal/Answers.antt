use Rattle.std.proofs.Common.{◌≡◌, rules, sym, ◌∙◌, ap}
use Rattle.std.specs.Cmp.Lexicographic.{pointwise, pointwise_decides}
use Rattle.wave_core.proofs.slot_wave.SlotWaveCyclicWave.equal.Goals as goal

pub returns : goal.returns
returns g c =
    let xs = c.args.self.now.cells.items in
    let ys = c.args.other.now.cells.items in
    let is : c.eq.result ≡ pointwise g.T.PartialEq.eq xs ys = search rules in
    let decides = pointwise_decides {E = g.T.PartialEq.eq} (λ x y. (
      λ e. g.met.T.Cell.laws.same_is x y (sym (g.met.T.Cell.equal x y) ∙ e),
      λ e. g.met.T.Cell.equal x y ∙ ap (λ z. g.T.Cell.kind.same x z) (sym e) ∙ g.met.T.Cell.laws.same_self x,
    )) xs ys in
    (λ t. decides.0 (sym is ∙ t), λ e. is ∙ decides.1 e)
