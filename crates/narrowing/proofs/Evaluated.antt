-- What a settled case says of a constraint, where it is the only case of a circuit or its base.
use Rattle.std.proofs.Common.{◌≡◌, ℕ, ◌≤◌, false, List, [], ◌∷◌, length, refl, sym, ap, subst, arith, Option}
use Rattle.std.specs.List.{list_any}
use Rattle.step_values.specs.declared.value.Value.{Value}
use Rattle.skew_algebra.specs.Wave.{Wave}
use Rattle.flat_circuit.specs.declared.case.CaseValue.{CaseValue}
use Rattle.flat_circuit.specs.declared.fault.Fault.{Fault}
use Rattle.flat_circuit.specs.Circuit.{Circuit}
use Rattle.fixpoint_engine.specs.Start.{default_limit}
use Rattle.fixpoint_engine.specs.Rounds.{SettlesAt}
use Rattle.fixpoint_engine.specs.Waves.{waves_of}
use Rattle.case_analysis.specs.Base.{base_round}
use Rattle.case_analysis.specs.Case.{case_at}
use Rattle.timing_analysis.specs.Case.{IsSettled, Listed, faults_of}
use Rattle.timing_analysis.specs.Promise.{KeepsFaultless}
use Rattle.timing_analysis.specs.Settled.{IsSettledBase, IsSettledCase, settled_case}
use Rattle.timing_analysis.specs.declared.case_faults.KnownFaults.{KnownFaults}
use Rattle.narrowing.specs.declared.constraint.Constraint.{Constraint}
use Rattle.narrowing.specs.Constraint.{is_of}
use Rattle.narrowing.specs.Leaf.{IsFree, IsSaid, KeepsFree}
use Rattle.narrowing.specs.Narrowed.{only_case}
use Rattle.narrowing.specs.declared.leaf.Leaf.{Leaf}
use Rattle.narrowing.specs.declared.leaf.Leaf.TheVariants.{Free}

pub first_case : (values : List CaseValue) (cases : List (List CaseValue)) → cases ≡ only_case values → 1 ≤ length cases →
    case_at cases 0 ≡ values
first_case [] cases are some = let none : length cases ≡ 0 = ap length are in absurd (omega arith)
first_case (v ∷ vs) cases are some = ap (λ ks. case_at ks 0) are

pub no_values : (values : List CaseValue) (cases : List (List CaseValue)) → cases ≡ only_case values → length cases ≡ 0 →
    [] ≡ values
no_values [] cases are none = refl
no_values (v ∷ vs) cases are none = let one : length cases ≡ 1 = ap length are in absurd (omega arith)

pub is_free : (c : Circuit) (limit base : ℕ) (listed : Listed) (number rounds tick : ℕ) (ws : List (Wave Value))
    (fs : List Fault) (bases : List (Wave Value)) (known : Option KnownFaults) (values : List CaseValue) (x : Constraint) →
    limit ≡ default_limit c → listed.values ≡ values → IsSettledBase c limit base bases known →
    IsSettledCase c limit base listed number rounds tick ws fs → list_any (is_of x) fs ≡ false → IsFree c values x tick
is_free c limit base listed number rounds tick ws fs bases known values x own sets settled_base case free = record {
  base = base;
  settles = subst (λ n. SettlesAt (base_round c) n base) own settled_base.settled.settles;
  case = settled_case listed rounds ws;
  sets = sets;
  settled = subst (λ n. IsSettled c n base (settled_case listed rounds ws)) own case.settled;
  free = subst (λ (found : List Fault). list_any (is_of x) found ≡ false) case.found free;
  printed = case.printed;
}

pub keeps_free : (c : Circuit) (limit base : ℕ) (listed : Listed) (number rounds tick : ℕ) (ws : List (Wave Value))
    (fs : List Fault) (values : List CaseValue) (x : Constraint) → listed.values ≡ values →
    IsSettledCase c limit base listed number rounds tick ws fs → list_any (is_of x) fs ≡ false → KeepsFree c values x tick
keeps_free c limit base listed number rounds tick ws fs values x sets case free = record {
  faults = fs;
  keeps = subst (λ (vs : List CaseValue). KeepsFaultless c vs fs tick) sets
      (subst (λ (found : List Fault). KeepsFaultless c listed.values found tick) (sym case.found)
      (subst (λ n. KeepsFaultless c listed.values (faults_of c (waves_of ws)) n) (sym case.printed) case.kept));
  free = free;
}

-- what a leaf says of one settled case, by its printed tick and its faults
abbrev pub OfCase : ℕ → List Fault → Constraint → Leaf → Type 0
OfCase printed fs x said = (tick : ℕ) → said ≡ Free tick → (tick ≡ printed) × (list_any (is_of x) fs ≡ false)

pub said_of : (c : Circuit) (limit base : ℕ) (listed : Listed) (number rounds printed : ℕ) (ws : List (Wave Value))
    (fs : List Fault) (bases : List (Wave Value)) (known : Option KnownFaults) (values : List CaseValue) (x : Constraint)
    (tick : ℕ) → limit ≡ default_limit c → listed.values ≡ values → IsSettledBase c limit base bases known →
    IsSettledCase c limit base listed number rounds printed ws fs → tick ≡ printed → list_any (is_of x) fs ≡ false →
    IsSaid c values x tick
said_of c limit base listed number rounds printed ws fs bases known values x tick own sets settled_base case is free =
    subst (IsSaid c values x) (sym is)
    (record {
      free = is_free c limit base listed number rounds printed ws fs bases known values x own sets settled_base case free;
      keeps = keeps_free c limit base listed number rounds printed ws fs values x sets case free;
    })
