use Rattle.std.proofs.Common.{◌≡◌, ◌+◌, [], ap, refl, subst, sym, ◌∙◌, arith}
use Rattle.fixpoint_engine.specs.Table.{waves_at}
use Rattle.fixpoint_engine.specs.Waves.{waves_of}
use Rattle.case_analysis.specs.Case.{PermitCase}
use Rattle.timing_analysis.specs.Case.{faults_of}
use Rattle.timing_analysis.proofs.Settling.{base_permits, base_settles, case_settled}
use Rattle.timing_analysis.proofs.settled.SettledBase.only_case.Goals as goal

pub returns : goal.returns
returns g c =
    let same : c.new-waves.result ≡ waves_at c.args.self.store c.args.self.base.numbers =
    c.new-waves.ensures ∙ ap (λ t. waves_at t c.as_slice.result.now) c.waves.ensures ∙ ap (waves_at c.args.self.store) c.as_slice.ensures in
    let base = c.requires.settled.settled in
    let permits = base_permits c.args.subject.now.circuit c.args.self.base.rounds _ base.permits in
    record {
      are = c.requires.settled.are;
      settled = case_settled c.args.subject.now.circuit c.args.limit c.args.self.base.rounds (record { number = 0; values = [] }) 0
          (waves_at c.args.self.store c.args.self.base.numbers) c.in_ok-found.found 0 c.tick-tick.result c.args.subject.now.reach refl (omega arith) base.fit
          (base_settles c.args.subject.now.circuit c.args.limit c.args.self.base.rounds _ base.settled)
          c.tick-tick.ensures c.requires.is.reach_is
          (c.in_ok-found.ensures.are ∙ ap (λ ws. faults_of c.args.subject.now.circuit (waves_of ws)) same) c.in_ok-found.ensures.few
          (c.in_ok-found.ensures.keep [] c.args.self.base.rounds 0
          (subst (λ ws. PermitCase c.args.subject.now.circuit [] (c.args.self.base.rounds + 0) (waves_of ws)) (sym same) permits));
    }
