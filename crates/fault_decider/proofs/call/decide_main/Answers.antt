use Rattle.fault_decider.proofs.Replying.{of_told}
use Rattle.fault_decider.proofs.call.decide_main.Goals as goal

pub returns-clause-settled : goal.returns-clause-settled
returns-clause-settled g c =
    of_told c.args.words.now _ _ _ _ _ (λ spoken. c.main_call.ensures.replied spoken)
