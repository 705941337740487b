-- A net that is there is given again, if nothing is asserted of it.
use Rattle.std.proofs.Common.{◌≡◌, ℕ, Bool, true, false, cond, ◌&&◌, List, refl, sym, ap, ◌∙◌}
use Rattle.std.specs.Prelude.{not, ◌++◌, ◌∷◌, []}
use Rattle.scald_base.specs.declared.assertion.AssertSpec.{AssertSpec}
use Rattle.flat_circuit.specs.Name.{Name, IsNumber}
use Rattle.flat_circuit.specs.Builder.{Built, Asserted, is_asserted, has_name, has_text, with_asserted, after_number, after_assertion, GivesNet}
use Rattle.flat_circuit.proofs.Tables.{not_there}

module _ (b : Built) (name : Name) (spec : AssertSpec) (i : ℕ) (plain : is_asserted spec ≡ false) (number : IsNumber b.names name i) where
  there : has_name b.names name ≡ true
  there = by (has_name b.names name) refl
    where
      by : (t : Bool) → has_name b.names name ≡ t → has_name b.names name ≡ true
      by true e = e
      by false e = absurd (not_there b.names name i e number.below number.is)

  named : after_number b name ≡ b
  named = ap (λ (t : Bool). cond t b (record b { names = b.names ++ name ∷ []; wires = b.wires ++ b.header.wire ∷ [] })) there

  kept : with_asserted b.asserted name.text spec ≡ b.asserted
  kept = ap (λ (t : Bool). cond (t && not (has_text b.asserted name.text)) (b.asserted ++ record { text = name.text; spec = spec } ∷ []) b.asserted) plain

  pub given_again : GivesNet b b name spec i
  given_again = record {
    agrees = λ differ. let one = differ.is_one in cc (one, plain);
    after = sym (ap (λ (n : Built). after_assertion n name.text spec) named ∙ ap (λ (g : List Asserted). record b { asserted = g }) kept);
    number = number;
  }
