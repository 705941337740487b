use Rattle.std.proofs.Common.{◌≡◌, ◌∙◌, map, ap, sym, None, is_some}
use Rattle.scald_base.specs.Time.{Bounds}
use Rattle.flat_circuit.specs.declared.instance.Instance.{Instance}
use Rattle.fixpoint_engine.specs.Table.{waves_at}
use Rattle.fixpoint_engine.specs.Waves.{pin_wave, waves_of}
use Rattle.fixpoint_engine.proofs.KeyPins.{none_kept, split_kept}
use Rattle.fixpoint_engine.proofs.key.key_of.Goals as goal
use Rattle.fixpoint_engine.proofs.key.key_of.Goals.{in-Some, in-None}

pub returns : goal.returns
returns g c =
    let own = ap (λ (j : Instance). j.split) c.instance.view_is in
    let some : c.is_some.result ≡ is_some c.args.instance.now.split = c.is_some.ensures ∙ ap is_some own in
    record {
      kind = ap (λ (j : Instance). j.kind) c.instance.view_is;
      delay = ap (λ (j : Instance). j.delay) c.instance.view_is;
      split = elim c.match-instance.branch [
        | in-Some w ↦ split_kept c.args.instance.now.split w.in-Some.split _ _ c.is_some.result (sym own ∙ w.in-Some.is)
            (c.rise.view_is ∙ ap (λ (both : Bounds × Bounds). both.0) w.rise-is) (c.fall.view_is ∙ ap (λ (both : Bounds × Bounds). both.1) w.rise-is) some
        | in-None w ↦
            let none : c.args.instance.now.split ≡ None = sym own ∙ w.in-None.is in
            none_kept c.args.instance.now.split _ _ c.is_some.result none some
      ];
      inverted = ap (λ (j : Instance). j.out_inverted) c.instance.view_is;
      marks = c.in_ok-pins.ensures.marks ∙ ap (map (λ p. p.hold)) c.as_slice.ensures ∙ ap (λ (j : Instance). map (λ p. p.hold) j.pins) c.instance.view_is;
      known = c.in_ok-pins.ensures.known c.args.store.now c.requires.constants c.requires.known;
      shows = c.in_ok-pins.ensures.shows c.args.store.now c.requires.constants
          ∙ ap (map (pin_wave c.args.c.now (waves_of (waves_at c.args.store.now c.args.numbers.now)))) c.as_slice.ensures
          ∙ ap (λ (j : Instance). map (pin_wave c.args.c.now (waves_of (waves_at c.args.store.now c.args.numbers.now))) j.pins) c.instance.view_is;
    }
