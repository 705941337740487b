use Rattle.std.proofs.Common.{◌≡◌, ◌++◌, ◌∷◌, [], ℕ, rules, sym, ap, ◌∙◌, arith}
use Rattle.std.specs.Prelude.{replicate}
use Rattle.std.proofs.lemmas.List.{append-nil, append_assoc, replicate-append-replicate}
use Rattle.gate_eval.proofs.meeting.push_slots.Goals as goal

pub loop-slot-init : goal.loop-slot-init
loop-slot-init c = sym (append-nil c.args.cells.now.items)

pub loop-slot-preserved : goal.loop-slot-preserved
loop-slot-preserved c =
    let pushed : c.push.new.self.items ≡ c.loop-slot.cells.items ++ c.args.value ∷ [] = search rules in
    pushed ∙ ap (λ l. l ++ c.args.value ∷ []) c.loop-slot.invariant
    ∙ append_assoc c.args.cells.now.items (replicate c.loop-slot._slot c.args.value) (c.args.value ∷ [])
    ∙ ap (λ l. c.args.cells.now.items ++ l) (replicate-append-replicate c.loop-slot._slot 1 c.args.value)

pub returns : goal.returns
returns c =
    let end : c.loop-slot._slot ≡ c.args.count = omega arith in
    c.loop-slot.invariant ∙ ap (λ (n : ℕ). c.args.cells.now.items ++ replicate n c.args.value) end
