use Rattle.std.proofs.Common.{◌≡◌, map, sym, ◌∙◌, subst}
use Rattle.std.specs.List.{position}
use Rattle.std.proofs.lemmas.Result.{IfOk-weaker}
use Rattle.flat_circuit.specs.Split.{SplitFits}
use Rattle.gate_eval.specs.Split.{split_wave}
use Rattle.fixpoint_engine.specs.Value.{made_by}
use Rattle.fixpoint_engine.proofs.Made.{made_split}
use Rattle.fixpoint_engine.proofs.value.made_by.Goals as goal

pub eval_split-requires-clause-kind : goal.eval_split-requires-clause-kind
eval_split-requires-clause-kind g c = (subst (SplitFits c.args.kind c.args.d) c.in-Some.is c.requires.split).0

pub returns-in-Some : goal.returns-in-Some
returns-in-Some g c =
    IfOk-weaker c.eval_split.result
    (λ r. r ≡ split_wave c.args.kind (map (λ p. p.wave) c.args.pins.now) (position (λ p. p.hold) c.args.pins.now) c.in-Some.s)
    (λ r. r ≡ made_by c.args.kind (map (λ p. p.wave) c.args.pins.now) (position (λ p. p.hold) c.args.pins.now) c.args.d c.args.split)
    (λ r e. e ∙ sym (made_split c.args.kind (map (λ p. p.wave) c.args.pins.now) (position (λ p. p.hold) c.args.pins.now) c.args.d c.args.split c.in-Some.s
    c.in-Some.is c.requires.split))
    c.eval_split.ensures.wave
