use Rattle.std.proofs.Common.{◌≡◌, drop}
use Rattle.fixpoint_engine.specs.Waves.{waves_of}
use Rattle.storage_eval.specs.Storage.{listening_from}
use Rattle.fault_chain.specs.Chain.{next_link, through_first}
use Rattle.fault_chain.proofs.link.next_link.Given as goal

-- no pin before this place has a change: the link is that of the pins from here on
abbrev pub invariant-loop-place : goal.invariant-loop-place
invariant-loop-place g l =
    next_link l.c (waves_of l.waves) l.element l.slot
    ≡ through_first l.c (waves_of l.waves) l.slot l.element.delay (listening_from l.element.kind l.place (drop l.place l.element.pins))
