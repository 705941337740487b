use Rattle.std.proofs.Common.{◌∙◌, [], Some, length, take, sym, ap, subst}
use Rattle.std.proofs.lemmas.List.{length-map}
use Rattle.scald_base.specs.Time.{Header}
use Rattle.fixpoint_engine.specs.Key.{AreConstants}
use Rattle.fixpoint_engine.specs.Table.{AreKnown, IsNumber, wave_at, waves_at}
use Rattle.fixpoint_engine.proofs.Growing.{grows_trans, known_still, same_number, same_waves}
use Rattle.fixpoint_engine.proofs.TableByNumber.{number_below, number_reads}
use Rattle.fixpoint_engine.specs.Waves.{waves_of}
use Rattle.fixpoint_engine.specs.Settled.{marked_in}
use Rattle.fixpoint_engine.specs.Start.{unknown_wave}
use Rattle.fixpoint_engine.proofs.Added.{known_set}
use Rattle.fixpoint_engine.proofs.KeyPins.{constant_number}
use Rattle.case_analysis.specs.Case.{case_start}
use Rattle.case_analysis.proofs.Cases.{case_fits, case_more, long_more}
use Rattle.case_analysis.proofs.Numbered.{put_wave}
use Rattle.case_analysis.proofs.case_rounds.start_numbers.Goals as goal

pub loop-value-init : goal.loop-value-init
loop-value-init g c =
    let store = c.constant_numbers.new.store in
    let before = c.args.before.now in
    let grown = grows_trans c.args.store.now c.number.new.self store c.in_ok-unknown.ensures.grows c.in_ok-constants.ensures.grows in
    let at : IsNumber store (unknown_wave c.args.c.now.header) c.in_ok-unknown.unknown =
    same_number c.number.new.self store c.in_ok-unknown.unknown c.in_ok-unknown_wave.field-0 c.in_ok-constants.ensures.grows c.in_ok-unknown.ensures.means
    ∙ ap Some (c.in_ok-unknown_wave.ensures ∙ ap unknown_wave c.header.ensures) in
    record {
      each_net = c.in_ok-numbers.ensures.each_net;
      known = c.in_ok-numbers.ensures.known store
          (subst (AreKnown store) (sym c.as_slice.ensures) (known_still c.args.store.now store grown before c.requires.known))
          (number_below store (unknown_wave c.args.c.now.header) c.in_ok-unknown.unknown at);
      is = λ i. c.in_ok-numbers.ensures.is store at i
          ∙ ap (λ ws. case_start c.args.c.now [] (marked_in c.args.cone.now) (waves_of ws) i)
          (ap (waves_at store) c.as_slice.ensures ∙ same_waves c.args.store.now store grown before c.requires.known);
    }

pub loop-value-preserved : goal.loop-value-preserved
loop-value-preserved g c =
    let store = c.constant_numbers.new.store in
    let n = c.of.result in
    let so_far = c.loop-value.invariant in
    let at = constant_number c.header-2.result.now store c.in_ok-constants.constants _ n c.in_ok-constants.ensures.are c.of.ensures in
    record {
      each_net = long_more (length c.args.c.now.nets) c.loop-value.value-index c.as_slice-value-items.result.now
          _ c.loop-value.numbers c.set.new.self n c.set.ensures so_far.each_net;
      known = known_set store c.loop-value.numbers c.set.new.self _ n c.set.ensures so_far.known (number_below store _ n at);
      is = case_more c.args.c.now c.header-2.result.now c.args.case.now c.as_slice-value-items.result.now c.loop-value.value-index _ (marked_in c.args.cone.now)
          (waves_of (waves_at c.args.store.now c.args.before.now)) (waves_at store c.loop-value.numbers) (waves_at store c.set.new.self) (wave_at store n)
          c.as_slice-value-items.ensures c.loop-value-test.true c.requires.exist
          (length-map c.loop-value.numbers (wave_at store) ∙ so_far.each_net) (put_wave store c.loop-value.numbers c.set.new.self _ n c.set.ensures)
          c.header-2.ensures (number_reads store _ n at) so_far.is;
    }

pub returns-clause-fit : goal.returns-clause-fit
returns-clause-fit g c =
    let store = c.constant_numbers.new.store in
    case_fits c.args.c.now (take c.loop-value.value-index c.args.case.now) (marked_in c.args.cone.now) (waves_at c.args.store.now c.args.before.now)
    (waves_at store c.loop-value.numbers) c.requires.fit (length-map c.loop-value.numbers (wave_at store) ∙ c.loop-value.invariant.each_net) c.loop-value.invariant.is

pub returns-clause-constants : goal.returns-clause-constants
returns-clause-constants g c =
    subst (λ (h : Header). AreConstants h c.constant_numbers.new.store c.in_ok-constants.constants)
    c.header-2.ensures c.in_ok-constants.ensures.are
