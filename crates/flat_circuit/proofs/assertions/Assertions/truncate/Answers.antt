use Rattle.std.proofs.Common.{◌∙◌, ap, sym, take}
use Rattle.std.proofs.lemmas.List.{take-map}
use Rattle.flat_circuit.specs.Builder.{Asserted, asserted_entries}
use Rattle.flat_circuit.proofs.Tables.{SpecEntry}
use Rattle.flat_circuit.proofs.assertions.Assertions.truncate.Goals as goal

pub returns : goal.returns
returns c =
    ap asserted_entries c.truncate.ensures.entries ∙ sym (take-map (λ (p : SpecEntry). let a : Asserted =
    record { text = p.0.items; spec = p.1 } in a) c.args.count c.self.inside.by_text.entries) ∙ ap (take c.args.count) c.self.view_is
