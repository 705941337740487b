-- The greatest number of a fault that may be asked for.
use Rattle.std.specs.Prelude.{◌&&◌, ◌==◌, nat_le, codes, decimal, if◌then◌else◌}
use Rattle.std.specs.Fmt.{digits}
use Rattle.std.specs.Str.{bytes_eq}
use Rattle.std.proofs.Common.{◌≡◌, ℕ, Bool, true, false, true≢false, List, Option, Some, None, refl, sym, ap, ◌∙◌, arith}
use Rattle.std.proofs.lemmas.Bool.{eqb-true, leb-false, leb-true}
use Rattle.std.proofs.lemmas.Slice.Eq.{bytes_eq-Decides}
use Rattle.scald_lex.specs.Bytes.{value_of}
use Rattle.program_call.specs.Numbers.{number_in}

abbrev most : List ℕ
most = codes "4294967295"

greatest : number_in 4294967295 most ≡ Some 4294967295
unfolding digits number_in
greatest = refl

most_is : decimal 4294967295 ≡ most
unfolding digits
most_is = refl

pub number_greatest : (ds : List ℕ) → ds ≡ most → Some 4294967295 ≡ number_in 4294967295 ds
number_greatest ds same = sym (ap (number_in 4294967295) same ∙ greatest)

same_le : (v : ℕ) → (v ≡ 4294967295 → ⊥) → nat_le v 4294967294 ≡ nat_le v 4294967295
same_le v other = by (nat_le v 4294967294) (nat_le v 4294967295) refl refl
  where
    by : (a b : Bool) → nat_le v 4294967294 ≡ a → nat_le v 4294967295 ≡ b →
        nat_le v 4294967294 ≡ nat_le v 4294967295
    by true true p q = p ∙ sym q
    by false false p q = p ∙ sym q
    by true false p q =
        let within = leb-true v 4294967294 p in
        let past = leb-false v 4294967295 q in
        absurd (omega (arith, within, past))
    by false true p q =
        let past = leb-false v 4294967294 p in
        let within = leb-true v 4294967295 q in
        absurd (other (omega (arith, within, past)))

abbrev among : Bool → Bool → ℕ → Option ℕ
among same within v = if same && within then Some v else None

differ : (ds : List ℕ) → (ds ≡ most → ⊥) → value_of ds ≡ 4294967295 →
    bytes_eq ds (decimal (value_of ds)) ≡ false
differ ds other is = by (bytes_eq ds (decimal (value_of ds))) refl
  where
    by : (b : Bool) → bytes_eq ds (decimal (value_of ds)) ≡ b →
        bytes_eq ds (decimal (value_of ds)) ≡ false
    by true same =
        absurd (other ((bytes_eq-Decides ds (decimal (value_of ds))).0 same ∙ ap decimal is ∙ most_is))
    by false same = same

pub number_fewer : (ds : List ℕ) → (ds ≡ most → ⊥) → number_in 4294967294 ds ≡ number_in 4294967295 ds
unfolding number_in
number_fewer ds other = by (value_of ds == 4294967295) refl
  where
    by : (b : Bool) → (value_of ds == 4294967295) ≡ b →
        among (bytes_eq ds (decimal (value_of ds))) (nat_le 1 (value_of ds) && nat_le (value_of ds) 4294967294) (value_of ds)
        ≡ among (bytes_eq ds (decimal (value_of ds))) (nat_le 1 (value_of ds) && nat_le (value_of ds) 4294967295) (value_of ds)
    by true e =
        let none = differ ds other (eqb-true (value_of ds) 4294967295 e) in
        ap (λ (b : Bool). among b (nat_le 1 (value_of ds) && nat_le (value_of ds) 4294967294) (value_of ds)) none
        ∙ sym (ap (λ (b : Bool). among b (nat_le 1 (value_of ds) && nat_le (value_of ds) 4294967295) (value_of ds)) none)
    by false e =
        ap (λ (b : Bool). among (bytes_eq ds (decimal (value_of ds))) (nat_le 1 (value_of ds) && b) (value_of ds))
        (same_le (value_of ds) (λ s. true≢false (sym (ap (λ (n : ℕ). n == 4294967295) s) ∙ e)))
