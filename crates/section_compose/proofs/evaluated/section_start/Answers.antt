use Rattle.std.proofs.Common.{◌∙◌, take, sym}
use Rattle.std.proofs.lemmas.List.{length-map}
use Rattle.fixpoint_engine.specs.Table.{wave_at, waves_at}
use Rattle.fixpoint_engine.proofs.Growing.{grows_trans}
use Rattle.case_analysis.specs.Case.{is_set}
use Rattle.section_compose.proofs.Started.{begun_each, begun_fits, begun_known, begun_more}
use Rattle.section_compose.proofs.evaluated.section_start.Goals as goal

pub loop-value-init : goal.loop-value-init
loop-value-init g c =
    let fit = c.in_ok-numbers.ensures.fit in
    record {
      grows = c.start_numbers.ensures.grows;
      each_net = sym (length-map c.in_ok-numbers.numbers (wave_at c.start_numbers.new.store)) ∙ fit.each_net;
      known = c.in_ok-numbers.ensures.known;
      is = c.in_ok-numbers.ensures.is;
    }

pub loop-value-preserved : goal.loop-value-preserved
loop-value-preserved g c =
    let circuit = c.args.c.now in
    let case = c.args.case.now in
    let items = c.as_slice-value-items.result.now in
    let k = c.loop-value.value-index in
    let old = c.loop-value.store in
    let new = c.number_across.new.store in
    let numbers = c.loop-value.numbers in
    let after = c.set.new.self in
    let n = c.in_ok-number.number in
    let so_far = c.loop-value.invariant in
    let grows = c.in_ok-number.ensures.grows in
    record {
      grows = grows_trans c.args.store.now old new so_far.grows grows;
      each_net = begun_each circuit case items k _ old new numbers after n
          c.as_slice-value-items.ensures c.loop-value-test.true c.requires so_far.each_net c.set.ensures grows so_far.known c.in_ok-number.ensures.is;
      known = begun_known circuit case items k _ old new numbers after n
          c.as_slice-value-items.ensures c.loop-value-test.true c.requires so_far.each_net c.set.ensures grows so_far.known c.in_ok-number.ensures.is;
      is = begun_more circuit case items k _ old new numbers after n
          c.as_slice-value-items.ensures c.loop-value-test.true c.requires so_far.each_net c.set.ensures grows so_far.known c.in_ok-number.ensures.is so_far.is;
    }

pub returns-clause-fit : goal.returns-clause-fit
returns-clause-fit g c =
    begun_fits c.args.c.now (is_set (take c.loop-value.value-index c.args.case.now)) (waves_at c.loop-value.store c.loop-value.numbers)
    (length-map c.loop-value.numbers (wave_at c.loop-value.store) ∙ c.loop-value.invariant.each_net) c.loop-value.invariant.is
