use Rattle.std.proofs.Common.{◌≡◌, ℕ, ◌+◌, ◌*◌, ◌^◌, ◌≤◌, ◌++◌, ◌∷◌, [], List, length, drop, sym, ap, subst, ◌∙◌, arith, ℤ, ◌-ℤ◌, to_z, of_z, w64}
use Rattle.std.proofs.lemmas.Int.{ints}
use Rattle.critical_paths.specs.declared.path.Node.{Node}
use Rattle.critical_paths.specs.declared.path.Step.{Step}
use Rattle.critical_paths.specs.Known.{IsNear, step_at, steps_from, way_of}
use Rattle.critical_paths.proofs.Stepping.{short_near, steps_done, steps_more, way_long}
use Rattle.critical_paths.proofs.path.Paths.steps.Goals as goal

-- a tick of a way is near enough to go one step further back
fits_less : (now taken : ℤ) (place : ℕ) → IsNear (2 ^ 60 + 131072 * place) now →
    IsNear 131072 taken → place ≤ 2 ^ 40 →
    to_z w64 (of_z w64 (now -ℤ to_z w64 (of_z w64 taken))) ≡ now -ℤ taken
fits_less now taken place near more short =
    let low = near.low in
    let high = near.high in
    let below = more.low in
    let above = more.high in
    omega (arith, ints, low, high, below, above, short)

near_less : (now taken : ℤ) (place : ℕ) → IsNear (2 ^ 60 + 131072 * place) now →
    IsNear 131072 taken →
    IsNear (2 ^ 60 + 131072 * (place + 1)) (now -ℤ taken)
near_less now taken place near more =
    let low = near.low in
    let high = near.high in
    let below = more.low in
    let above = more.high in
    record {
      low =
          omega (arith, ints, low, below, above);
      high = omega (arith, ints, high, below, above);
    }

pub loop-place-init : goal.loop-place-init
loop-place-init c =
    let way = c.as_slice-nodes.result.now in
    let tick = c.args.at.tick in
    let same : to_z w64 (of_z w64 tick) ≡ tick = omega (arith, ints) in
    let near = short_near c.args.self.now.nodes c.args.at.node tick c.requires.node
    c.requires.near in
    let low = near.low in
    let high = near.high in
    record {
      steps =
          ap (λ (l : List Step). l ++ steps_from (to_z w64 (of_z w64 tick)) way) c.new-steps.ensures
          ∙ ap (λ (z : ℤ). steps_from z way) same;
      near = record { low = omega (arith, ints, low); high = omega (arith, ints, high) };
    }

pub overflow_sub-tick : goal.overflow_sub-tick
overflow_sub-tick c =
    let long = way_long c.args.self.now.nodes c.args.at.node c.args.at.tick c.requires.near in
    let is : length c.as_slice-nodes.result.now
    ≡ length (way_of c.args.self.now.nodes c.args.at.node) =
    ap length (c.as_slice-nodes.ensures ∙ c.in_ok-way.ensures) in
    let inside = c.loop-place-test.true in
    let near = c.loop-place.invariant.near in
    let low = near.low in
    let high = near.high in
    let below = c.taken-tick.ensures.near.low in
    let above = c.taken-tick.ensures.near.high in
    omega (arith, ints, long, is, inside, low, high, below, above)

pub loop-place-preserved : goal.loop-place-preserved
loop-place-preserved c =
    let way = c.as_slice-nodes.result.now in
    let place = c.loop-place.place in
    let now = to_z w64 c.loop-place.tick-bits in
    let taken = c.taken-tick.result in
    let steps = c.loop-place.steps in
    let node = c.node_at-node.result in
    let rest = drop (place + 1) way in
    let less = to_z w64 (of_z w64 (now -ℤ to_z w64 (of_z w64 taken))) in
    let long = way_long c.args.self.now.nodes c.args.at.node c.args.at.tick c.requires.near in
    let long_is : length way ≡ length (way_of c.args.self.now.nodes c.args.at.node) = ap length
    (c.as_slice-nodes.ensures ∙ c.in_ok-way.ensures) in
    let inside = c.loop-place-test.true in
    let short : place ≤ 2 ^ 40 = omega (arith, long, long_is, inside) in
    let near = c.loop-place.invariant.near in
    let more = c.taken-tick.ensures.near in
    let is : less ≡ now -ℤ taken = fits_less now taken place near more short in
    let made : c.push.new.self ≡ steps ++ step_at now node ∷ [] =
    c.in_ok-push.ensures.ok ∙ ap (λ (s : Step). steps ++ s ∷ []) c.step_at.ensures in
    record {
      steps = ap (λ (l : List Step). l ++ steps_from less rest) made
          ∙ ap (λ (z : ℤ). (steps ++ step_at now node ∷ []) ++ steps_from z rest) is
          ∙ steps_more way place now taken steps (steps_from c.args.at.tick way) node
          c.node_at-node.ensures c.taken-tick.ensures.is
          c.loop-place.invariant.steps;
      near = subst (IsNear (2 ^ 60 + 131072 * (place + 1))) (sym is) (near_less now taken place near
          more);
    }

pub returns : goal.returns
returns c =
    let way = c.as_slice-nodes.result.now in
    let past = c.loop-place-test.false in
    steps_done way c.loop-place.place (to_z w64 c.loop-place.tick-bits) c.loop-place.steps
    (steps_from c.args.at.tick way) past
    c.loop-place.invariant.steps
    ∙ ap (λ (l : List Node). steps_from c.args.at.tick l) (c.as_slice-nodes.ensures
    ∙ c.in_ok-way.ensures)
