use Rattle.std.proofs.Common.{◌≡◌, ◌∙◌, ◌++◌, ◌∷◌, [], ap, sym, List, true, false, rules}
use Rattle.flat_circuit.specs.Builder.{Asserted, asserted_entries, has_text, is_asserted}
use Rattle.flat_circuit.proofs.Tables.{spec_new, asserted_push, with_new}
use Rattle.flat_circuit.proofs.assertions.Assertions.add.Goals as goal

pub returns-clause-ok : goal.returns-clause-ok
returns-clause-ok c =
    let es = c.self.inside.by_text.entries in
    let a : is_asserted c.args.spec.now ≡ true = search rules in
    let h : has_text c.args.self.now c.args.text.now ≡ false = search rules in
    let n : has_text (asserted_entries es) c.in_ok-key.key.items ≡ false = rw c.in_ok-key.ensures.items (ap (λ (given : List Asserted). has_text given c.args.text.now) c.self.view_is ∙ h) in
    ap asserted_entries (c.in_ok-insert.ensures.entries ∙ spec_new es c.in_ok-key.key c.in_ok-value.value n) ∙ asserted_push es c.in_ok-key.key c.in_ok-value.value
    ∙ rw (c.in_ok-key.ensures.items, c.in_ok-value.ensures) (ap (λ (given : List Asserted). given ++ record { text = c.args.text.now; spec = c.args.spec.now } ∷ []) c.self.view_is)
    ∙ sym (with_new c.args.self.now c.args.text.now c.args.spec.now a h)
