use Rattle.std.proofs.Common.{ℕ, List, [], ◌∷◌, ◌++◌, ap, sym, ◌∙◌}
use Rattle.std.specs.Global.{Vec}
use Rattle.drawing_notes.specs.Arrivals.{open_net}
use Rattle.drawing_notes.specs.Parts.{together}
use Rattle.drawing_notes.specs.Paths.{is_looped}
use Rattle.drawing_notes.proofs.Opening.{filter_none, filter_some, is_free, on_loop, open_free, open_looped, open_none}
use Rattle.drawing_notes.proofs.launched.open_nets.Goals as goal
use Rattle.drawing_notes.proofs.launched.open_nets.Goals.{in-Some+then-is_none+in_ok-push, in-Some+else-is_none, in_default}

pub loop-pin-preserved : goal.loop-pin-preserved
loop-pin-preserved c =
    let below = c.loop-pin-test.true in
    elim c.match-target_net.branch [
      | in-Some+then-is_none+in_ok-push w ↦
          let free = is_free c.args.parts.now w.in-Some.net w.part_at.result w.is_none.result w.part_at.ensures w.is_none.ensures w.if-is_none.true in
          ap (λ (v : Vec ℕ). v.items) w.nets-is ∙ w.in_ok-push.ensures.items ∙ ap (λ (l : List ℕ). l ++ w.in-Some.net ∷ []) c.loop-pin.invariant
          ∙ sym (filter_some (open_net (is_looped (together c.args.parts.now))) c.args.pins.now c.loop-pin.pin-index _ below w.in-Some.net
          (open_free (is_looped (together c.args.parts.now)) _ w.in-Some.net (sym c.target_net.ensures ∙ w.in-Some.is) free))
      | in-Some+else-is_none w ↦
          let on = on_loop c.args.parts.now w.in-Some.net w.part_at.result w.is_none.result w.part_at.ensures w.is_none.ensures w.if-is_none.false in
          ap (λ (v : Vec ℕ). v.items) w.nets-is ∙ c.loop-pin.invariant
          ∙ sym (filter_none (open_net (is_looped (together c.args.parts.now))) c.args.pins.now c.loop-pin.pin-index _ below
          (open_looped (is_looped (together c.args.parts.now)) _ w.in-Some.net (sym c.target_net.ensures ∙ w.in-Some.is) on))
      | in_default w ↦
          ap (λ (v : Vec ℕ). v.items) w.nets-is ∙ c.loop-pin.invariant
          ∙ sym (filter_none (open_net (is_looped (together c.args.parts.now))) c.args.pins.now c.loop-pin.pin-index _ below
          (open_none (is_looped (together c.args.parts.now)) _ (sym c.target_net.ensures ∙ w.in_default.is)))
    ]
