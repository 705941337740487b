use Rattle.std.proofs.Common.{◌∙◌, ℕ, List, ap, subst, Option}
use Rattle.std.specs.Prelude.{is_some}
use Rattle.flat_circuit.specs.declared.net.Net.{Net}
use Rattle.flat_circuit.specs.Circuit.{net_name, net_names}
use Rattle.flat_circuit.specs.Name.{IsNumber}
use Rattle.section_compose.specs.Tests.{passes}
use Rattle.section_compose.proofs.Named.{stands_at, stands_none, tells_at, tells_none}
use Rattle.section_compose.proofs.globals.same_net.Goals as goal

pub returns-in-Some-clause-stands : goal.returns-in-Some-clause-stands
returns-in-Some-clause-stands c =
    ap (λ (o : Option Net). is_some o) c.net.ensures
    ∙ stands_at c.args.circuit.now (net_name c.args.net.now) c.in-Some.number
    (subst (λ (text : List ℕ). IsNumber (net_names c.args.circuit.now.nets) (record { text = text; bit = c.args.net.now.bit }) c.in-Some.number) c.as_slice.ensures c.in-Some.ensures)

pub returns-in-Some-clause-tells : goal.returns-in-Some-clause-tells
returns-in-Some-clause-tells c = λ test.
    ap (passes test) c.net.ensures
    ∙ tells_at c.args.circuit.now (net_name c.args.net.now) c.known.ensures test c.in-Some.number
    (subst (λ (text : List ℕ). IsNumber (net_names c.args.circuit.now.nets) (record { text = text; bit = c.args.net.now.bit }) c.in-Some.number) c.as_slice.ensures c.in-Some.ensures)

pub returns-in-None-clause-stands : goal.returns-in-None-clause-stands
returns-in-None-clause-stands c =
    stands_none c.args.circuit.now (net_name c.args.net.now)
    (subst (λ (text : List ℕ). (i : ℕ) → ¬ (IsNumber (net_names c.args.circuit.now.nets) (record { text = text; bit = c.args.net.now.bit }) i)) c.as_slice.ensures c.in-None.ensures)

pub returns-in-None-clause-tells : goal.returns-in-None-clause-tells
returns-in-None-clause-tells c = λ test.
    tells_none c.args.circuit.now (net_name c.args.net.now) test
    (subst (λ (text : List ℕ). (i : ℕ) → ¬ (IsNumber (net_names c.args.circuit.now.nets) (record { text = text; bit = c.args.net.now.bit }) i)) c.as_slice.ensures c.in-None.ensures)
