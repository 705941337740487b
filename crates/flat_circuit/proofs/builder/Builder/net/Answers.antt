use Rattle.std.proofs.Common.{◌++◌, ◌∙◌, ℕ, sym, subst}
use Rattle.flat_circuit.specs.Name.{Name}
use Rattle.flat_circuit.specs.Builder.{Built, GivesNet}
use Rattle.flat_circuit.proofs.Given.{given_again}
use Rattle.flat_circuit.proofs.builder.Builder.net.Goals as goal
use Rattle.flat_circuit.proofs.builder.Builder.net.Goals.{in-Some, in-None+in_ok-number-in-None}

pub returns-clause-given : goal.returns-clause-given
returns-clause-given c =
    let name : Name = record { text = c.args.path.now ++ c.args.base.now; bit = c.args.bit } in
    let old = c.args.self.now in
    let spec = c.args.spec.now in
    let i = c.match-next_found.number in
    elim c.match-next_found.branch [
      | in-Some w ↦ subst (λ (b : Built). GivesNet old b name spec i) (sym (c.self-2.view_is ∙ w.self-is))
          (subst (λ (k : ℕ). GivesNet old old name spec k) (sym w.number-is)
          (given_again old name spec w.in-Some.number w.in-Some.ensures.0 w.in-Some.ensures.1))
      | in-None+in_ok-number-in-None w ↦ subst (λ (b : Built). GivesNet old b name spec i) (sym (c.self-2.view_is ∙ w.self-is))
          (subst (λ (k : ℕ). GivesNet old w.net_by_name.new.self name spec k) (sym w.number-is)
          w.in_ok-number-in-None.ensures.given)
    ]
