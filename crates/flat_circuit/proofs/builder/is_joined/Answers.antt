use Rattle.std.proofs.Common.{◌++◌, ◌∙◌, sym, take, take-append-drop, length}
use Rattle.std.proofs.lemmas.Slice.Eq.{bytes_eq-Decides}
use Rattle.flat_circuit.proofs.builder.is_joined.Goals as goal

pub returns-in-Some : goal.returns-in-Some
returns-in-Some c is =
    let text = c.args.text.now in
    let path = c.args.path.now in
    let cases = c.in-Some.ensures.cases in
    let front = (bytes_eq-Decides (take (length path) text) path).0 cases.0 in
    let rest = (bytes_eq-Decides c.in-Some.rest.now c.args.base.now).0 (sym c.eq.ensures ∙ is) in
    sym (take-append-drop (length path) text) ∙ (λ i. front i ++ (sym cases.1 ∙ rest) i)
