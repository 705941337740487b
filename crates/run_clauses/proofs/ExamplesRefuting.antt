-- Of which runs a refutation speaks: not of a circuit that has a run with a break, and of one whose
-- runs cannot be in the case, or whose constraint is none.
use Rattle.std.proofs.Common.{◌≡◌, ◌<◌, ℕ, true, false, true≢false, [], ◌∷◌, refl, sym, subst, ◌∙◌, arith}
use Rattle.std.proofs.lemmas.List.Elements.{All-head, All-nil, All-tail}
use Rattle.element_kinds.specs.declared.kind.Kind.TheVariants.{Buf, SetupHold}
use Rattle.flat_circuit.specs.declared.case.CaseValue.{CaseValue}
use Rattle.flat_circuit.specs.declared.instance.Instance.{Instance}
use Rattle.flat_circuit.specs.declared.net.Net.{Net}
use Rattle.flat_circuit.specs.Circuit.{Circuit}
use Rattle.flat_circuit.specs.Run.{IsRun, Run, net_signal}
use Rattle.flat_circuit.proofs.RunTables.{bounds, checker, circuit, driven_by, element, input, late, on, run}
use Rattle.flat_circuit.proofs.RunTest.{run_tells}
use Rattle.fixpoint_engine.specs.Interface.{MeetsInterface}
use Rattle.fixpoint_engine.proofs.Tables.{inputs_is}
use Rattle.point_check.specs.Break.{Asserts, BreaksKind, BreaksSetupHold}
use Rattle.narrowing.specs.declared.constraint.Constraint.TheVariants.{Instance as OfInstance, Net as OfNet}
use Rattle.narrowing.specs.Constraint.{BreaksOf}
use Rattle.run_clauses.specs.Refuting.{NeverBreaksFrom}

-- ---- two buffers of five ticks, so that a run of three has any bits, and a checker of both

abbrev of_both : Instance
of_both = checker SetupHold (on 1 ∷ on 2 ∷ [])

abbrev free : Circuit
free =
    circuit (input ∷ driven_by 0 ∷ driven_by 1 ∷ [])
    (element Buf (bounds 5 5) (on 0 ∷ []) 1 ∷ element Buf (bounds 5 5) (on 0 ∷ []) 2 ∷ of_both
    ∷ [])

-- the clock rises as the input falls
abbrev broken : Run
broken =
    run (late 5 (0 ∷ []) ∷ late 5 (0 ∷ []) ∷ late 0 (0 ∷ 0 ∷ []) ∷ [])
    ("000" ∷ "001" ∷ "110" ∷ [])

is_run : IsRun free broken
is_run = (run_tells free broken).0 refl

meets : MeetsInterface free broken
meets = inputs_is free broken refl

breaks : BreaksOf free broken (OfInstance 2) 2
breaks = record {
  instance = of_both;
  choice = late 0 (0 ∷ 0 ∷ []);
  instance_is = refl;
  choice_is = refl;
  breaks = record {
    edge = 2;
    change = 2;
    at = record {
      edge_in = record { after = omega arith; begins = omega arith; ends = omega arith };
      change_in = record { after = omega arith; begins = omega arith; ends = omega arith };
      rises = (refl, refl);
      changes = true≢false;
      not_before = omega arith;
      not_after = omega arith;
    };
  };
}

abbrev Keeps : Run → CaseValue → Type 0
Keeps a_run v = (t : ℕ) → t < a_run.ticks → net_signal a_run v.net t ≡ v.one

does_break : ¬ NeverBreaksFrom free [] (OfInstance 2) 2
does_break never = never broken is_run meets (All-nil (Keeps broken)) breaks

-- ---- no run breaks what is no constraint

no_instance : NeverBreaksFrom free [] (OfInstance 9) 0
no_instance a_run is keeps inside b = absurd (cc (b.instance_is))

no_assertion : NeverBreaksFrom free [] (OfNet 1) 0
no_assertion a_run is keeps inside b =
    let same : b.net ≡ driven_by 0 = cc (b.at.net_is) in
    subst (λ (n : Net). Asserts n.spec) same b.at.asserts

-- ---- and none of a case in which there is no run

abbrev one : CaseValue
one = record { net = 0; one = true }

abbrev zero_too : CaseValue
zero_too = record { net = 0; one = false }

no_such_run : NeverBreaksFrom free (one ∷ zero_too ∷ []) (OfInstance 2) 0
no_such_run a_run is keeps inside b =
    true≢false (sym (is_one broken_here.edge ends) ∙ is_zero broken_here.edge ends)
  where
    is_one : (t : ℕ) → t < a_run.ticks → net_signal a_run 0 t ≡ true
    is_one = All-head (Keeps a_run) one (zero_too ∷ []) inside

    is_zero : (t : ℕ) → t < a_run.ticks → net_signal a_run 0 t ≡ false
    is_zero = All-head (Keeps a_run) zero_too [] (All-tail (Keeps a_run) one (zero_too ∷ []) inside)

    same : b.instance ≡ of_both
    same = cc (b.instance_is)

    broken_here : BreaksSetupHold a_run of_both b.choice 0
    broken_here = subst (λ (j : Instance). BreaksKind j.kind a_run j b.choice 0) same b.breaks

    ends : broken_here.edge < a_run.ticks
    ends = broken_here.at.edge_in.ends
