use Rattle.std.proofs.Common.{◌≡◌, ◌+◌, ◌++◌, ◌∷◌, [], ℕ, List, Some, ap, sym, subst, ◌∙◌}
use Rattle.std.specs.Prelude.{slice_get}
use Rattle.std.specs.Option.{option_copied}
use Rattle.trace_sim.specs.Drawn.{ArePicks}
use Rattle.trace_sim.proofs.OnePick.{next_picks, one_fits}
use Rattle.trace_sim.proofs.picks.draw_picks.Goals as goal

pub loop-k-preserved : goal.loop-k-preserved
loop-k-preserved g c =
    let here : slice_get c.args.c.now.instances c.loop-k.k ≡ Some c.unwrap.result.now =
    sym c.instance.ensures ∙ ap option_copied c.unwrap.ensures in
    let known = c.loop-k.invariant in
    let next = next_picks c.args.c.now c.loop-k.k c.unwrap.result.now (g.R.Rng.stream c.args.rng.now) (g.R.Rng.stream c.loop-k.rng) (g.R.Rng.stream c.draw_pick.new.rng)
    c.loop-k.delays c.loop-k.wires c.in_ok-pick.pick c.in_ok-pick.row here known.delays known.wires known.rest c.in_ok-pick.ensures.is in
    let fit = one_fits c.args.c.now c.loop-k.k c.unwrap.result.now c.loop-k.delays c.loop-k.wires c.in_ok-pick.pick c.in_ok-pick.row here known.fit c.in_ok-pick.ensures.fits in
    record {
      delays = c.in_ok-push.ensures.ok ∙ next.are_delays;
      wires = c.in_ok-push-2.ensures.ok ∙ next.are_wires;
      rest = next.rest;
      fit =
          subst (λ (ds : List (ℕ × ℕ)). ArePicks c.args.c.now (c.loop-k.k + 1) ds c.push-in-loop-k.new.self) (sym c.in_ok-push.ensures.ok)
          (subst (λ (ws : List (List ℕ)). ArePicks c.args.c.now (c.loop-k.k + 1) (c.loop-k.delays ++ c.in_ok-pick.pick ∷ []) ws) (sym c.in_ok-push-2.ensures.ok) fit);
    }
