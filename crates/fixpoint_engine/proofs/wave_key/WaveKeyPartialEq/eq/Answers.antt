use Rattle.std.specs.Bool.{one_answer}
use Rattle.fixpoint_engine.specs.Same.{same_wave, same_wave_decides}
use Rattle.fixpoint_engine.proofs.wave_key.WaveKeyPartialEq.eq.Goals as goal

pub returns : goal.returns
returns g c =
    let w = c.args.self.now.wave in
    let v = c.args.other.now.wave in
    one_answer c.same.result (same_wave w v) c.same.ensures (same_wave_decides w v)
