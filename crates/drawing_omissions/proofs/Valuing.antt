-- The net of a name, and the value that a case gives to it.
use Rattle.std.proofs.Common.{◌≡◌, ℕ, zero, suc, ◌+◌, ◌<◌, ◌≤◌, ◌==◌, ◌&&◌, Bool, true, false, cond, List, [], ◌∷◌, ◌++◌, length, map, take, get_or, Option, Some, None, inl, inr, refl, sym, ap, ◌∙◌, arith, slice_get}
use Rattle.std.specs.Prelude.{nat_le, option_map}
use Rattle.std.specs.List.{All, AllByRecursion, filter_map, find, range_with_len}
use Rattle.std.specs.Str.{bytes_eq}
use Rattle.std.proofs.lemmas.Bool.{and_parts, cases_lt, eqb-true, eq-eqb, false_from_ne_true}
use Rattle.std.proofs.lemmas.Slice.Eq.{bytes_eq-Decides}
use Rattle.std.proofs.lemmas.List.{length-map, map_more, take_more}
use Rattle.std.proofs.lemmas.List.Elements.{All-from_recursion, filter_map-append}
use Rattle.vector_names.proofs.Ranges.{range_more}
use Rattle.flat_circuit.specs.declared.case.CaseValue.{CaseValue}
use Rattle.flat_circuit.specs.declared.net.Net.{Net}
use Rattle.flat_circuit.specs.Name.{AreDistinct, IsNumber, Name, name_at}
use Rattle.flat_circuit.specs.Circuit.{Circuit, net_name, net_names}
use Rattle.drawing_omissions.specs.declared.case_bits.CaseBit.{CaseBit}
use Rattle.drawing_omissions.specs.CaseBits.{case_values, is_its_net, is_named_by, listed, value_for, value_of, values_of}
use Rattle.drawing_omissions.specs.Same.{AreWithin}
use Rattle.drawing_omissions.specs.Near.{first_or}
use Rattle.drawing_omissions.proofs.Nearing.{find_last}

-- ---- the first of some numbers that passes

module _ (p : ℕ → Bool) where
  find_next : (n : ℕ) (o : Option ℕ) (b : Bool) → find p (range_with_len 0 n) ≡ o → p n ≡ b → find p (range_with_len 0 (n + 1)) ≡ first_or o n b
  find_next n o b so_far is =
      ap (find p) (range_more 0 n n (omega arith)) ∙ find_last p (range_with_len 0 n) n
      ∙ ap (λ (q : Option ℕ). first_or q n (p n)) so_far ∙ ap (first_or o n) is

  pub find_none : (n : ℕ) → ((j : ℕ) → j < n → p j ≡ false) → find p (range_with_len 0 n) ≡ None
  find_none zero none = refl
  find_none (suc n) none =
      let one : suc n ≡ n + 1 = omega arith in
      ap (λ m. find p (range_with_len 0 m)) one
      ∙ find_next n None false (find_none n (λ j below. none j (omega (arith, below)))) (none n (omega arith))

  pub find_only : (n i : ℕ) → i < n → p i ≡ true → ((j : ℕ) → j < n → p j ≡ true → j ≡ i) → find p (range_with_len 0 n) ≡ Some i
  find_only zero i below is only = absurd (omega (arith, below))
  find_only (suc n) i below is only =
      let one : suc n ≡ n + 1 = omega arith in
      ap (λ m. find p (range_with_len 0 m)) one ∙ elim (cases_lt i n) [
        | inl less ↦ find_next n (Some i) (p n) (find_only n i less is (λ j under. only j (omega (arith, under)))) refl
        | inr past ↦
            let same : i ≡ n = omega (arith, below, past) in
            find_next n None true (find_none n (λ j under. false_from_ne_true (p j) (λ e. let at = only j (omega (arith, under)) e in omega (arith, at, same, under))))
            (sym (ap p same) ∙ is)
            ∙ ap (λ m. Some m) (sym same)
      ]

-- ---- names

abbrev wanted : List ℕ → ℕ → Name
wanted text bit = record { text = text; bit = bit }

abbrev fits : List ℕ → ℕ → Option Net → Bool
fits text bit None = false
fits text bit (Some n) = bytes_eq text n.name && (bit == n.bit)

both_true : (a b : Bool) → a ≡ true → b ≡ true → (a && b) ≡ true
both_true a b one two = ap (λ x. x && b) one ∙ two

at_number : (text : List ℕ) (bit : ℕ) (nets : List Net) (i : ℕ) → i < length (net_names nets) → name_at (net_names nets) i ≡ wanted text bit →
    fits text bit (slice_get nets i) ≡ true
at_number text bit [] i below is = absurd (omega (arith, below))
at_number text bit (n ∷ nets) zero below is =
    both_true (bytes_eq text n.name) (bit == n.bit) ((bytes_eq-Decides text n.name).1 (sym (ap (λ (x : Name). x.text) is)))
    (eq-eqb bit n.bit (sym (ap (λ (x : Name). x.bit) is)))
at_number text bit (n ∷ nets) (suc i) below is = at_number text bit nets i (omega (arith, below)) is

number_at : (text : List ℕ) (bit : ℕ) (nets : List Net) (i : ℕ) → fits text bit (slice_get nets i) ≡ true → IsNumber (net_names nets) (wanted text bit) i
number_at text bit [] i is = absurd cc
number_at text bit (n ∷ nets) zero is =
    let parts = and_parts (bytes_eq text n.name) (bit == n.bit) is in
    let name = sym ((bytes_eq-Decides text n.name).0 parts.0) in
    let number = sym (eqb-true bit n.bit parts.1) in
    record { below = omega arith; is = λ k. record { text = name k; bit = number k } }
number_at text bit (n ∷ nets) (suc i) is =
    let rest = number_at text bit nets i is in
    let under = rest.below in
    record { below = omega (arith, under); is = rest.is }

-- ---- values

module _ (c : Circuit) (b : CaseBit) (bit : ℕ) (same : bit ≡ b.bit) (low : b.bit ≤ 65535) where
  as_fits : (j : ℕ) → fits b.name bit (slice_get c.nets j) ≡ is_its_net c b j
  as_fits j = ap (λ m. fits b.name m (slice_get c.nets j)) same ∙ by (slice_get c.nets j)
    where
      by : (o : Option Net) → fits b.name b.bit o ≡ is_named_by b o
      by None = refl
      by (Some n) = refl

  low_is : nat_le b.bit 65535 ≡ true
  low_is = grind (arith, low)

  whole : (o : Option ℕ) → find (is_its_net c b) (range_with_len 0 (length c.nets)) ≡ o → value_of c b ≡ option_map (value_for b.one) o
  whole o is =
      ap (λ t. cond t (option_map (value_for b.one) (find (is_its_net c b) (range_with_len 0 (length c.nets)))) None) low_is
      ∙ ap (option_map (value_for b.one)) is

  pub net_value : (i : ℕ) → AreDistinct (net_names c.nets) → IsNumber (net_names c.nets) (wanted b.name bit) i → Some (value_for b.one i) ≡ value_of c b
  net_value i distinct number =
      let under = number.below in
      let long = length-map c.nets net_name in
      sym (whole (Some i) (find_only (is_its_net c b) (length c.nets) i (omega (arith, under, long))
      (sym (as_fits i) ∙ at_number b.name bit c.nets i number.below number.is)
      (λ j below is.
      let other = number_at b.name bit c.nets j (as_fits j ∙ is) in
      distinct j i other.below number.below (other.is ∙ sym number.is))))

  pub no_value : ((i : ℕ) → IsNumber (net_names c.nets) (wanted b.name bit) i → ⊥) → None ≡ value_of c b
  no_value none =
      sym (whole None (find_none (is_its_net c b) (length c.nets)
      (λ j below. false_from_ne_true (is_its_net c b j) (λ e. none j (number_at b.name bit c.nets j (as_fits j ∙ e))))))

-- ---- one item more

pub pushed_more : {X Y : Type 0} (f : X → Y) (xs : List X) (k : ℕ) (x : X) (y : Y) (old new : List Y) → k < length xs → x ≡ get_or xs k x →
    old ≡ map f (take k xs) → y ≡ f x → new ≡ old ++ y ∷ [] → new ≡ map f (take (k + 1) xs)
pushed_more f xs k x y old new below at before is more =
    more ∙ ap (λ l. l ++ y ∷ []) before ∙ ap (λ z. map f (take k xs) ++ z ∷ []) (is ∙ ap f at) ∙ sym (map_more f xs k x below)

one_listed : (h : CaseBit → Option CaseValue) (b : CaseBit) → filter_map h (b ∷ []) ≡ listed (h b)
one_listed h b = by (h b) refl
  where
    by : (o : Option CaseValue) → h b ≡ o → filter_map h (b ∷ []) ≡ listed o
    by None e = rw e refl
    by (Some v) e = rw e refl

pub values_more : (c : Circuit) (bits : List CaseBit) (k : ℕ) (b : CaseBit) (o : Option CaseValue) (old new : List CaseValue) → k < length bits → b ≡ get_or bits k b →
    old ≡ values_of c (take k bits) → o ≡ value_of c b → new ≡ old ++ listed o → new ≡ values_of c (take (k + 1) bits)
values_more c bits k b o old new below at before is more =
    more ∙ ap (λ l. l ++ listed o) before ∙ ap (λ q. values_of c (take k bits) ++ listed q) (is ∙ ap (value_of c) at)
    ∙ ap (λ l. values_of c (take k bits) ++ l) (sym (one_listed (value_of c) (get_or bits k b)))
    ∙ sym (filter_map-append (value_of c) (take k bits) (get_or bits k b ∷ [])) ∙ ap (filter_map (value_of c)) (sym (take_more bits k b below))

-- ---- no net has a greater number

find_below : (p : ℕ → Bool) (n i : ℕ) → find p (range_with_len 0 n) ≡ Some i → i < n
find_below p zero i is = absurd cc
find_below p (suc n) i is = by (find_below p n) (find p (range_with_len 0 n)) refl (p n) refl
  where
    one : suc n ≡ n + 1
    one = omega arith

    by : ((j : ℕ) → find p (range_with_len 0 n) ≡ Some j → j < n) → (o : Option ℕ) → find p (range_with_len 0 n) ≡ o → (b : Bool) → p n ≡ b → i < suc n
    by below (Some j) e b t =
        let at : Some j ≡ Some i = sym (find_next p n (Some j) b e t) ∙ ap (λ m. find p (range_with_len 0 m)) (sym one) ∙ is in
        let same : j ≡ i = cc in
        let under = below j e in omega (arith, under, same)
    by below None e true t =
        let at : Some n ≡ Some i = sym (find_next p n None true e t) ∙ ap (λ m. find p (range_with_len 0 m)) (sym one) ∙ is in
        let same : n ≡ i = cc in
        omega (arith, same)
    by below None e false t =
        let at : None ≡ Some i = sym (find_next p n None false e t) ∙ ap (λ m. find p (range_with_len 0 m)) (sym one) ∙ is in
        absurd cc

module _ (c : Circuit) where
  below_by : (b : CaseBit) (o : Option ℕ) → find (is_its_net c b) (range_with_len 0 (length c.nets)) ≡ o → (t : Bool) → (v : CaseValue) →
      cond t (option_map (value_for b.one) o) None ≡ Some v → v.net < length c.nets
  below_by b (Some i) e true v is =
      let same : value_for b.one i ≡ v = cc in
      let at : i ≡ v.net = ap (λ (w : CaseValue). w.net) same in
      let under = find_below (is_its_net c b) (length c.nets) i e in omega (arith, under, at)
  below_by b None e true v is = absurd cc
  below_by b o e false v is = absurd cc

  value_below : (b : CaseBit) (v : CaseValue) → value_of c b ≡ Some v → v.net < length c.nets
  value_below b v is = below_by b (find (is_its_net c b) (range_with_len 0 (length c.nets))) refl (nat_le b.bit 65535) v is

  values_below : (bits : List CaseBit) → AllByRecursion (λ (v : CaseValue). v.net < length c.nets) (values_of c bits)
  values_below [] = tt
  values_below (b ∷ bits) = by (values_below bits) (value_of c b) refl
    where
      by : AllByRecursion (λ (v : CaseValue). v.net < length c.nets) (values_of c bits) → (o : Option CaseValue) → value_of c b ≡ o →
          AllByRecursion (λ (v : CaseValue). v.net < length c.nets) (filter_map (value_of c) (b ∷ bits))
      by rest None e = rw e rest
      by rest (Some v) e = rw e (value_below b v e, rest)

  all_below : (cases : List (List CaseBit)) → AllByRecursion (All (λ (v : CaseValue). v.net < length c.nets)) (case_values c cases)
  all_below [] = tt
  all_below (bits ∷ cases) = (All-from_recursion (λ (v : CaseValue). v.net < length c.nets) (values_of c bits) (values_below bits), all_below cases)

  pub are_within : (cases : List (List CaseBit)) → AreWithin (length c.nets) (case_values c cases)
  are_within cases = All-from_recursion (All (λ (v : CaseValue). v.net < length c.nets)) (case_values c cases) (all_below cases)
