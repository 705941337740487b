use Rattle.std.proofs.Common.{◌∙◌, ◌++◌, ap, sym, map, append-nil, List}
use Rattle.std.proofs.lemmas.List.{take_all}
use Rattle.critical_paths.specs.declared.region.Region.{Region}
use Rattle.critical_paths.specs.Reached.{end_time, gathered}
use Rattle.critical_paths.proofs.Appended.{map_one}
use Rattle.critical_paths.proofs.gather.add_each.Goals as goal

pub loop-region-init : goal.loop-region-init
loop-region-init g c = record {
  is = sym (append-nil (gathered c.args.out.now));
  ways = λ nodes own old. old;
}

pub add_edge-requires-clause-edge : goal.add_edge-requires-clause-edge
add_edge-requires-clause-edge g c = c.requires.edges c.loop-region.region-index _ c.loop-region-test.true

pub loop-region-preserved : goal.loop-region-preserved
loop-region-preserved g c = record {
  is = map_one (end_time c.args.view.now.circuit.now c.args.place) (gathered c.args.out.now)
      (gathered c.loop-region.out) _ c.args.regions.now c.loop-region.region-index _
      c.loop-region-test.true c.in_ok-add_edge.ensures.gathered c.loop-region.invariant.is;
  ways = λ nodes own old. c.in_ok-add_edge.ensures.ways nodes own
      (c.loop-region.invariant.ways nodes own old);
}

pub returns-clause-gathered : goal.returns-clause-gathered
returns-clause-gathered g c =
    c.loop-region.invariant.is
    ∙ ap (λ (l : List Region). gathered c.args.out.now ++ map (end_time c.args.view.now.circuit.now c.args.place) l)
    (take_all c.loop-region.region-index c.args.regions.now c.loop-region-test.false)

pub returns-clause-ways : goal.returns-clause-ways
returns-clause-ways g c = c.loop-region.invariant.ways
