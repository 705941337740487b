use Rattle.std.proofs.Common.{◌≡◌, ◌∙◌, Some, length, map, sym, subst, ap, arith}
use Rattle.std.specs.List.{range_with_len}
use Rattle.fixpoint_engine.specs.Table.{AreKnown, waves_at}
use Rattle.fixpoint_engine.proofs.Growing.{grows_trans, same_number}
use Rattle.fixpoint_engine.proofs.TableByNumber.{known_more, number_below}
use Rattle.fixpoint_engine.specs.Start.{base_start, unknown_wave}
use Rattle.case_analysis.proofs.Numbered.{begun_more}
use Rattle.case_analysis.proofs.Start.{start_fits, start_is}
use Rattle.case_analysis.proofs.base_rounds.start_numbers.Goals as goal

pub loop-net-init : goal.loop-net-init
loop-net-init g c = record {
  grows = c.in_ok-unknown.ensures.grows;
  unknown = c.in_ok-unknown.ensures.means ∙ ap Some (c.in_ok-unknown_wave.ensures ∙ ap unknown_wave c.header.ensures);
  known = subst (AreKnown c.number.new.self) (sym c.new-numbers.ensures) tt;
  begun = ap (waves_at c.number.new.self) c.new-numbers.ensures;
}

pub loop-net-preserved : goal.loop-net-preserved
loop-net-preserved g c =
    let old = c.loop-net.store in
    let new = c.number_after.new.store in
    let before = c.loop-net.invariant in
    let n = c.in_ok-number.number in
    let grows = c.in_ok-number.ensures.grows in
    let at = c.in_ok-number.ensures.is in
    record {
      grows = grows_trans c.args.store.now old new before.grows grows;
      unknown = same_number old new c.in_ok-unknown.unknown _ grows before.unknown;
      known = known_more old new c.loop-net.numbers c.push.new.self n grows before.known (number_below new _ n at) c.in_ok-push.ensures.ok;
      begun = begun_more c.args.c.now old c.loop-net.numbers c.loop-net.net before.begun new c.push.new.self n grows before.known at c.in_ok-push.ensures.ok;
    }

pub returns-clause-is : goal.returns-clause-is
returns-clause-is g c i =
    let whole : c.loop-net.net ≡ length c.args.c.now.nets = omega (arith, c.loop-net-test.false, c.loop-net.auto.net-end, c.net_count-net-end.ensures) in
    λ k. start_is c.args.c.now (waves_at c.loop-net.store c.loop-net.numbers) (c.loop-net.invariant.begun ∙ ap (λ n. map (base_start c.args.c.now) (range_with_len 0 n)) whole) k i

pub returns-clause-fit : goal.returns-clause-fit
returns-clause-fit g c =
    let whole : c.loop-net.net ≡ length c.args.c.now.nets = omega (arith, c.loop-net-test.false, c.loop-net.auto.net-end, c.net_count-net-end.ensures) in
    start_fits c.args.c.now (waves_at c.loop-net.store c.loop-net.numbers) (c.loop-net.invariant.begun ∙ ap (λ n. map (base_start c.args.c.now) (range_with_len 0 n)) whole)
