-- Whole names: what is read is the text's name, and the name that a text spells is read.
use Rattle.std.proofs.Common.{◌≡◌, ℕ, zero, suc, ◌+◌, ◌-◌, ◌<◌, ◌≤◌, Bool, true, false, ◌&&◌, cond, eqb, leb, List, [], ◌∷◌, ◌++◌, length, take, drop, Option, Some, None, ◌⊎◌, inl, inr, refl, sym, ap, subst, ◌∙◌, append_assoc, arith, length-append}
use Rattle.std.specs.Prelude.{codes}
use Rattle.std.specs.List.{list_all, prefix_len}
use Rattle.std.proofs.lemmas.Bool.{and_parts, and_from, eqb-true, eq-eqb, ne_eqb, leb-true, le-leb, false≢true}
use Rattle.std.proofs.lemmas.Option.{same_Some, cond_some, none-some}
use Rattle.std.proofs.lemmas.List.Sums.{prefix_len-le-length}
use Rattle.std.proofs.lemmas.List.{nil_from_length, take-append-drop, take_at, drop_at}
use Rattle.scald_base.specs.declared.assertion.AssertSpec.{AssertSpec}
use Rattle.scald_base.specs.declared.assertion.AssertSpec.TheVariants.{None as Unasserted, Precision, Clock, Stable}
use Rattle.assertion_syntax.specs.declared.name.SignalName.{SignalName}
use Rattle.assertion_syntax.specs.Name.{is_base_byte, well_spaced, IsBase, IsAssertion, clock_text, assertion_text, global_text, spans_text, IsTextOf}
use Rattle.assertion_syntax.specs.Reading.{◌>>=◌, either, literal_at, clock_at, stable_at, assertion_at, base_len, base_at, global_at, name_at}
use Rattle.assertion_syntax.proofs.Pieces.{bind_some, either_parts, chosen, literal_takes, literal_again}
use Rattle.assertion_syntax.proofs.Parts.{clock_takes, clock_again, stable_takes, stable_again}

-- ---- an assertion

-- what stands after a base
abbrev precision_dot : List ℕ
precision_dot = codes " .P"

abbrev clock_dot : List ℕ
clock_dot = codes " .C"

abbrev stable_dot : List ℕ
stable_dot = codes " .S"

IsRead : List ℕ → AssertSpec → Type 0
IsRead rest a = (rest ≡ assertion_text a) × IsAssertion a

read_precision : (rest inside : List ℕ) (a : AssertSpec) → literal_at precision_dot rest ≡ Some inside → (clock_at inside >>= λ spec. Some (Precision spec)) ≡ Some a → IsRead rest a
unfolding IsRead
read_precision rest inside a at e =
    let s = bind_some (clock_at inside) (λ spec. Some (Precision spec)) a e in
    let is = clock_takes inside s.0 s.1 in
    subst (λ (y : AssertSpec). (rest ≡ assertion_text y) × IsAssertion y) (same_Some (Precision s.0) a s.2)
    (literal_takes precision_dot rest inside at ∙ ap (λ (l : List ℕ). precision_dot ++ l) is.0, is.1)

read_clock : (rest inside : List ℕ) (a : AssertSpec) → literal_at clock_dot rest ≡ Some inside → (clock_at inside >>= λ spec. Some (Clock spec)) ≡ Some a → IsRead rest a
unfolding IsRead
read_clock rest inside a at e =
    let s = bind_some (clock_at inside) (λ spec. Some (Clock spec)) a e in
    let is = clock_takes inside s.0 s.1 in
    subst (λ (y : AssertSpec). (rest ≡ assertion_text y) × IsAssertion y) (same_Some (Clock s.0) a s.2)
    (literal_takes clock_dot rest inside at ∙ ap (λ (l : List ℕ). clock_dot ++ l) is.0, is.1)

read_stable : (rest inside : List ℕ) (a : AssertSpec) → literal_at stable_dot rest ≡ Some inside → (stable_at inside >>= λ spans. Some (Stable spans)) ≡ Some a → IsRead rest a
unfolding IsRead
read_stable rest inside a at e =
    let s = bind_some (stable_at inside) (λ spans. Some (Stable spans)) a e in
    let is = stable_takes inside s.0 s.1 in
    subst (λ (y : AssertSpec). (rest ≡ assertion_text y) × IsAssertion y) (same_Some (Stable s.0) a s.2)
    (literal_takes stable_dot rest inside at ∙ ap (λ (l : List ℕ). stable_dot ++ l) is.0, is.1)

abbrev with_precision : List ℕ → Option AssertSpec
with_precision inside = clock_at inside >>= λ spec. Some (Precision spec)

abbrev with_clock : List ℕ → Option AssertSpec
with_clock inside = clock_at inside >>= λ spec. Some (Clock spec)

abbrev with_stable : List ℕ → Option AssertSpec
with_stable inside = stable_at inside >>= λ spans. Some (Stable spans)

assertion_takes : (rest : List ℕ) (a : AssertSpec) → assertion_at rest ≡ Some a → IsRead rest a
unfolding assertion_at IsRead
assertion_takes rest a e =
    elim (chosen (eqb (length rest) 0) (Some Unasserted) (either (literal_at precision_dot rest)
    (either (literal_at clock_dot rest) (either (literal_at stable_dot rest) None with_stable) with_clock) with_precision) (Some a) e) [
      | inl none ↦
          subst (λ (y : AssertSpec). (rest ≡ assertion_text y) × IsAssertion y) (same_Some Unasserted a none.1)
          (nil_from_length rest (eqb-true (length rest) 0 none.0), tt)
      | inr some ↦ elim (either_parts (literal_at precision_dot rest)
          (either (literal_at clock_dot rest) (either (literal_at stable_dot rest) None with_stable) with_clock) with_precision (Some a) some.1) [
            | inr on ↦ read_precision rest on.0 a on.1 on.2
            | inl other ↦ elim (either_parts (literal_at clock_dot rest) (either (literal_at stable_dot rest) None with_stable) with_clock (Some a) other.1) [
              | inr on ↦ read_clock rest on.0 a on.1 on.2
              | inl third ↦ elim (either_parts (literal_at stable_dot rest) None with_stable (Some a) third.1) [
                | inr on ↦ read_stable rest on.0 a on.1 on.2
                | inl nothing ↦ absurd (none-some a nothing.1)
              ]
            ]
          ]
    ]

some_length : (b : ℕ) (rest : List ℕ) → eqb (length (b ∷ rest)) 0 ≡ false
some_length b rest = ne_eqb (length (b ∷ rest)) 0 (λ z. omega arith)

no_precision_clock : (t : List ℕ) → literal_at precision_dot (clock_dot ++ t) ≡ None
unfolding literal_at
no_precision_clock t = refl

no_precision_stable : (t : List ℕ) → literal_at precision_dot (stable_dot ++ t) ≡ None
unfolding literal_at
no_precision_stable t = refl

no_clock_stable : (t : List ℕ) → literal_at clock_dot (stable_dot ++ t) ≡ None
unfolding literal_at
no_clock_stable t = refl

assertion_again : (a : AssertSpec) → IsAssertion a → assertion_at (assertion_text a) ≡ Some a
unfolding assertion_at
assertion_again Unasserted is = refl
assertion_again (Precision c) is = rw (some_length 32 (46 ∷ 80 ∷ clock_text c), literal_again precision_dot (clock_text c), clock_again c is) refl
assertion_again (Clock c) is = rw (some_length 32 (46 ∷ 67 ∷ clock_text c), no_precision_clock (clock_text c), literal_again clock_dot (clock_text c), clock_again c is) refl
assertion_again (Stable ss) is =
    rw (some_length 32 (46 ∷ 83 ∷ spans_text ss), no_precision_stable (spans_text ss), no_clock_stable (spans_text ss), literal_again stable_dot (spans_text ss), stable_again ss is) refl

-- ---- a base

all_in_front : (p : ℕ → Bool) (xs : List ℕ) (n : ℕ) → n ≤ prefix_len p xs → list_all p (take n xs) ≡ true
all_in_front p [] zero l = refl
all_in_front p [] (suc n) l = refl
all_in_front p (x ∷ xs) zero l = refl
all_in_front p (x ∷ xs) (suc n) l = go (p x) refl l (all_in_front p xs n)
  where
    go : (b : Bool) → p x ≡ b → suc n ≤ cond b (1 + prefix_len p xs) 0 → (n ≤ prefix_len p xs → list_all p (take n xs) ≡ true) → (p x && list_all p (take n xs)) ≡ true
    go true e l' more = and_from (p x) (list_all p (take n xs)) e (more (omega arith))
    go false e l' more = absurd (omega arith)

all_counted : (p : ℕ → Bool) (xs ys : List ℕ) → list_all p xs ≡ true → prefix_len p (xs ++ ys) ≡ length xs + prefix_len p ys
all_counted p [] ys all = omega arith
all_counted p (x ∷ xs) ys all =
    let parts = and_parts (p x) (list_all p xs) all in
    rw (parts.0, all_counted p xs ys parts.1) (omega arith)

take_short : (n : ℕ) (xs : List ℕ) → length (take n xs) ≤ n
take_short zero xs = omega arith
take_short (suc n) [] = omega arith
take_short (suc n) (x ∷ xs) = let l = take_short n xs in omega (arith, l)

not_more : (b : Bool) (n : ℕ) → cond b n (n - 1) ≤ n
not_more true n = omega arith
not_more false n = omega arith

pub base_len_le : (rest : List ℕ) → base_len rest ≤ length rest
base_len_le rest =
    omega (arith, prefix_len-le-length is_base_byte rest, not_more (eqb (prefix_len is_base_byte rest) (length rest)) (prefix_len is_base_byte rest))

base_takes : (rest : List ℕ) (x : List ℕ × List ℕ) → base_at rest ≡ Some x → (rest ≡ x.0 ++ x.1) × IsBase x.0
unfolding base_at
base_takes rest x e =
    let n = base_len rest in
    let c = cond_some (leb n 64 && well_spaced false (take n rest)) (take n rest, drop n rest) x e in
    let tests = and_parts (leb n 64) (well_spaced false (take n rest)) c.0 in
    let short : n ≤ 64 = leb-true n 64 tests.0 in
    let taken = take_short n rest in
    subst (λ (y : List ℕ × List ℕ). (rest ≡ y.0 ++ y.1) × IsBase y.0) c.1 (
      sym (take-append-drop n rest),
      record {
        bytes = all_in_front is_base_byte rest n (not_more (eqb (prefix_len is_base_byte rest) (length rest)) (prefix_len is_base_byte rest));
        short = omega (arith, taken);
        spaced = tests.1;
      },
    )

-- a base ends where the text does, or at the space before a dot
Behind : List ℕ → Type 0
Behind tail = (tail ≡ []) ⊎ ((t : List ℕ) × (tail ≡ 32 ∷ 46 ∷ t))

last_len : (n l k : ℕ) → n ≡ l → n ≡ k → cond (eqb n l) n (n - 1) ≡ k
last_len n l k at is = rw (eq-eqb n l at) is

inner_len : (n l k : ℕ) → n < l → n ≡ k + 1 → cond (eqb n l) n (n - 1) ≡ k
inner_len n l k before is = rw (ne_eqb n l (λ z. omega arith)) (omega arith)

base_len_is : (base tail : List ℕ) → IsBase base → Behind tail → base_len (base ++ tail) ≡ length base
unfolding Behind
base_len_is base tail is (inl e) =
    rw e (last_len (prefix_len is_base_byte (base ++ [])) (length (base ++ [])) (length base)
    (all_counted is_base_byte base [] is.bytes ∙ sym (length-append base []))
    (all_counted is_base_byte base [] is.bytes ∙ omega arith))
base_len_is base tail is (inr s) =
    let behind : List ℕ = 32 ∷ 46 ∷ s.0 in
    let counted : prefix_len is_base_byte (base ++ behind) ≡ length base + 1 = all_counted is_base_byte base behind is.bytes in
    rw s.1 (inner_len (prefix_len is_base_byte (base ++ behind)) (length (base ++ behind)) (length base)
    (omega (arith, counted, length-append base behind)) counted)

base_again : (base tail : List ℕ) → IsBase base → Behind tail → base_at (base ++ tail) ≡ Some (base, tail)
unfolding base_at
base_again base tail is behind =
    let test : (leb (length base) 64 && well_spaced false base) ≡ true = and_from (leb (length base) 64) (well_spaced false base) (le-leb (length base) 64 is.short) is.spaced in
    rw (base_len_is base tail is behind, take_at base tail (length base) refl, drop_at base tail (length base) refl, test) refl

assertion_behind : (a : AssertSpec) → Behind (assertion_text a)
unfolding Behind
assertion_behind Unasserted = inl refl
assertion_behind (Precision c) = inr (80 ∷ clock_text c, refl)
assertion_behind (Clock c) = inr (67 ∷ clock_text c, refl)
assertion_behind (Stable ss) = inr (83 ∷ spans_text ss, refl)

-- ---- the slash of a global

abbrev slash : List ℕ
slash = codes "/"

abbrev global_read : List ℕ → Option (List ℕ) → Bool × List ℕ
global_read text r = either r (false, text) (λ rest. (true, rest))

global_takes : (text : List ℕ) → text ≡ global_text (global_at text).0 ++ (global_at text).1
unfolding global_at
global_takes text = go (literal_at slash text) refl
  where
    go : (r : Option (List ℕ)) → literal_at slash text ≡ r → text ≡ global_text (global_read text r).0 ++ (global_read text r).1
    go None e = refl
    go (Some rest) e = literal_takes slash text rest e

slash_test : (b : ℕ) (rest : List ℕ) → eqb b 47 ≡ false → literal_at slash (b ∷ rest) ≡ None
unfolding literal_at
slash_test b rest e = rw e refl

no_slash : (base tail : List ℕ) → IsBase base → literal_at slash (base ++ tail) ≡ None
no_slash [] tail is = absurd (false≢true is.spaced)
no_slash (b ∷ bs) tail is =
    let parts = and_parts (is_base_byte b) (list_all is_base_byte bs) is.bytes in
    slash_test b (bs ++ tail) (ne_eqb b 47 (λ e. false≢true (rw e at parts.0)))

global_again : (g : Bool) (base tail : List ℕ) → IsBase base → global_at (global_text g ++ (base ++ tail)) ≡ (g, base ++ tail)
unfolding global_at
global_again true base tail is = rw (literal_again slash (base ++ tail)) refl
global_again false base tail is = rw (no_slash base tail is) refl

-- ---- the text

name_parts : (a b c : List ℕ) → a ++ b ++ c ≡ a ++ (b ++ c)
name_parts a b c = append_assoc a b c

-- What is read is the text's name.
pub name_takes : (text : List ℕ) (n : SignalName) → name_at text ≡ Some n → IsTextOf n text
unfolding name_at IsRead
name_takes text n e =
    let g = global_at text in
    let s1 = bind_some (base_at g.1) (λ base. assertion_at base.1 >>= λ spec. Some (record { base = base.0; global = g.0; spec = spec })) n e in
    let base = s1.0 in
    let s2 = bind_some (assertion_at base.1) (λ spec. Some (record { base = base.0; global = g.0; spec = spec })) n s1.2 in
    let spec = s2.0 in
    let base-is = base_takes g.1 base s1.1 in
    let spec_is : (base.1 ≡ assertion_text spec) × IsAssertion spec = assertion_takes base.1 spec s2.1 in
    let made : SignalName = record { base = base.0; global = g.0; spec = spec } in
    subst (λ (y : SignalName). IsTextOf y text) (same_Some made n s2.2) record {
      is_name = record { base = base-is.1; assertion = spec_is.1 };
      spelled = global_takes text ∙ ap (λ (l : List ℕ). global_text g.0 ++ l) (base-is.0 ∙ ap (λ (l : List ℕ). base.0 ++ l) spec_is.0)
          ∙ sym (name_parts (global_text g.0) base.0 (assertion_text spec));
    }

-- The name that a text spells is read.
pub name_again : (text : List ℕ) (n : SignalName) → IsTextOf n text → name_at text ≡ Some n
unfolding name_at
name_again text n is =
    let base = is.is_name.base in
    let tail = assertion_text n.spec in
    ap name_at (is.spelled ∙ name_parts (global_text n.global) n.base tail)
    ∙ rw (global_again n.global n.base tail base, base_again n.base tail base (assertion_behind n.spec), assertion_again n.spec is.is_name.assertion) refl

-- A text is of one name alone.
pub names_one : (n m : SignalName) (text : List ℕ) → IsTextOf n text → IsTextOf m text → n ≡ m
names_one n m text p q = same_Some n m (sym (name_again text n p) ∙ name_again text m q)

-- If nothing is read the text is of no name.
pub none_again : (text : List ℕ) → name_at text ≡ None → (n : SignalName) → IsTextOf n text → ⊥
none_again text none n is = none-some n (sym none ∙ name_again text n is)
