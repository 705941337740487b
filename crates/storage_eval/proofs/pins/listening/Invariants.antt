use Rattle.std.proofs.Common.{map}
use Rattle.storage_eval.proofs.Kept.{Kept}
use Rattle.storage_eval.proofs.pins.listening.Given as goal

abbrev pub invariant-loop-place : goal.invariant-loop-place
invariant-loop-place g l =
    Kept l.kind (λ p. p.wave) l.pins l.place
    (map (λ p. p.wave) l.heard.items)
