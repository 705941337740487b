-- The net of a name in a circuit.
use Rattle.std.proofs.Common.{◌≡◌, ℕ, zero, suc, Bool, true, false, ◌&&◌, List, [], ◌∷◌, refl, sym, ap, ◌∙◌, arith, inl, inr}
use Rattle.std.specs.Prelude.{Option, Some, is_some, slice_get}
use Rattle.std.specs.List.{list_any}
use Rattle.std.proofs.lemmas.Bool.{and_from, and_parts}
use Rattle.std.proofs.lemmas.List.{length-map}
use Rattle.std.proofs.lemmas.Option.{slice_get_cases, slice_get_within}
use Rattle.flat_circuit.specs.declared.net.Net.{Net}
use Rattle.flat_circuit.specs.Builder.{same_name}
use Rattle.flat_circuit.specs.Circuit.{Circuit, IsCircuit, net_name, net_names}
use Rattle.flat_circuit.specs.Name.{IsNumber, Name, name_at}
use Rattle.flat_circuit.proofs.Tables.{same_name_is, same_name_refl}
use Rattle.section_compose.specs.Globals.{has_name, stands_in}
use Rattle.section_compose.specs.Tests.{passes}
use Rattle.section_compose.proofs.Lists.{Finds, any_at, finds, same_truth}

pub named_so : (name : Name) (net : Net) → has_name name net ≡ true → net_name net ≡ name
named_so name net e = same_name_is name (net_name net) e

pub has_its_name : (name : Name) (net : Net) → net_name net ≡ name → has_name name net ≡ true
has_its_name name net e = ap (same_name name) e ∙ same_name_refl name

name_here : (nets : List Net) (i : ℕ) (net : Net) → slice_get nets i ≡ Some net → name_at (net_names nets) i ≡ net_name net
name_here [] i net is = absurd (cc)
name_here (n ∷ nets) zero net is = let same : n ≡ net = cc in ap net_name same
name_here (n ∷ nets) (suc i) net is = name_here nets i net is

number_of : (nets : List Net) (name : Name) (i : ℕ) (net : Net) → slice_get nets i ≡ Some net → net_name net ≡ name → IsNumber (net_names nets) name i
number_of nets name i net is same = record {
  below = let long = length-map nets net_name in let below = slice_get_within nets i net is in omega (arith, long, below);
  is = name_here nets i net is ∙ same;
}

-- two nets of one name are one net
pub distinct_nets : (c : Circuit) (i j : ℕ) (net other : Net) → IsCircuit c → slice_get c.nets i ≡ Some net →
    slice_get c.nets j ≡ Some other → net_name net ≡ net_name other → i ≡ j
distinct_nets c i j net other known is is' same =
    let a = number_of c.nets (net_name other) i net is same in
    let b = number_of c.nets (net_name other) j other is' refl in
    known.distinct i j a.below b.below (a.is ∙ sym b.is)

pub once : (c : Circuit) (i j : ℕ) (net other : Net) → IsCircuit c → slice_get c.nets i ≡ Some net →
    slice_get c.nets j ≡ Some other → net_name net ≡ net_name other → net ≡ other
once c i j net other known is is' same =
    let one : i ≡ j = distinct_nets c i j net other known is is' same in
    let again : Some net ≡ Some other = sym is ∙ ap (slice_get c.nets) one ∙ is' in cc

module _ (c : Circuit) (name : Name) where
  -- A test of the net of a name is one of the net that is found by it.
  tells_of : (known : IsCircuit c) (test : Net → Bool) (i : ℕ) (net : Net) → IsNumber (net_names c.nets) name i → slice_get c.nets i ≡ Some net →
      test net ≡ list_any (λ (other : Net). has_name name other && test other) c.nets
  tells_of known test i net number is =
      same_truth (test net) (list_any named c.nets)
      (λ passes. any_at named c.nets i net is (and_from (has_name name net) (test net) (has_its_name name net here) passes))
      (λ any.
      let f : Finds named c.nets = finds named c.nets any in
      let both = and_parts (has_name name f.found) (test f.found) f.passes in
      ap test (once c i f.at net f.found known is f.is (here ∙ sym (named_so name f.found both.0))) ∙ both.1)
    where
      named : Net → Bool
      named other = has_name name other && test other

      here : net_name net ≡ name
      here = sym (name_here c.nets i net is) ∙ number.is

  pub tells_at : IsCircuit c → (test : Net → Bool) (i : ℕ) → IsNumber (net_names c.nets) name i →
      passes test (slice_get c.nets i) ≡ list_any (λ (other : Net). has_name name other && test other) c.nets
  tells_at known test i number = elim (slice_get_cases c.nets i).1 [
    | inl found ↦ ap (passes test) found.2 ∙ tells_of known test i found.0 number found.2
    | inr past ↦ absurd (let far = past.0 in let below = number.below in let long = length-map c.nets net_name in omega (arith, far, below, long))
  ]

  stands_found : (i : ℕ) (net : Net) → IsNumber (net_names c.nets) name i → slice_get c.nets i ≡ Some net → true ≡ stands_in name c
  stands_found i net number is =
      sym (any_at (has_name name) c.nets i net is (has_its_name name net (sym (name_here c.nets i net is) ∙ number.is)))

  pub stands_at : (i : ℕ) → IsNumber (net_names c.nets) name i → is_some (slice_get c.nets i) ≡ stands_in name c
  stands_at i number = elim (slice_get_cases c.nets i).1 [
    | inl found ↦ ap (λ (o : Option Net). is_some o) found.2 ∙ stands_found i found.0 number found.2
    | inr past ↦ absurd (let far = past.0 in let below = number.below in let long = length-map c.nets net_name in omega (arith, far, below, long))
  ]

  none_of : (test : Net → Bool) → ((net : Net) → test net ≡ true → net_name net ≡ name) → ((i : ℕ) → IsNumber (net_names c.nets) name i → ⊥) →
      false ≡ list_any test c.nets
  none_of test names none =
      same_truth false (list_any test c.nets) (λ e. absurd (cc))
      (λ any.
      let f : Finds test c.nets = finds test c.nets any in
      absurd (none f.at (number_of c.nets name f.at f.found f.is (names f.found f.passes))))

  pub tells_none : (test : Net → Bool) → ((i : ℕ) → IsNumber (net_names c.nets) name i → ⊥) →
      false ≡ list_any (λ (other : Net). has_name name other && test other) c.nets
  tells_none test none =
      none_of (λ other. has_name name other && test other)
      (λ net passes. named_so name net (and_parts (has_name name net) (test net) passes).0) none

  pub stands_none : ((i : ℕ) → IsNumber (net_names c.nets) name i → ⊥) → false ≡ stands_in name c
  stands_none none = none_of (has_name name) (named_so name) none
