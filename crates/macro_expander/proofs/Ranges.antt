-- The numbers of a macro's formals are those of ranges.
use Rattle.std.proofs.Common.{◌≡◌, ℕ, ◌+◌, ◌-◌, ◌<◌, ◌≤◌, ℤ, Bool, true, false, cond, List, [], ◌∷◌, ◌++◌, length, get_or, reverse, nat_le, Option, Some, None, Ok, Err, refl, subst, ◌∙◌, arith}
use Rattle.std.specs.Int.{abs_diff}
use Rattle.std.specs.List.{All, zip, range_with_len}
use Rattle.std.proofs.lemmas.Bool.{leb-true}
use Rattle.std.proofs.lemmas.List.{get_or-reverse, length-reverse}
use Rattle.std.proofs.lemmas.List.FromFn.{get_or-range_with_len, length-range_with_len}
use Rattle.std.proofs.lemmas.List.Elements.{All-nil, All-cons, All-push, All-head, All-tail}
use Rattle.scald_base.specs.declared.refusal.RefusalKind.TheVariants.{BadRange}
use Rattle.drawing_tree.specs.declared.environment.Binding.{Binding}
use Rattle.vector_names.specs.declared.bits.BitRef.{BitRef}
use Rattle.vector_names.specs.Bits.{widest, from_to, bit_number, bits_of, range_of}
use Rattle.drawing_tree.specs.Tree.{Formal, Macro}
use Rattle.macro_expander.specs.declared.formal.Shape.{Shape}
use Rattle.macro_expander.specs.declared.formal.Inside.{Inside}
use Rattle.macro_expander.specs.declared.scope.Bound as numbered_bound
use Rattle.macro_expander.specs.declared.connection.Joined as numbered_joined
use Rattle.macro_expander.specs.Outcome.{Judged, judging, or_refuse, collected}
use Rattle.macro_expander.specs.Terms.{written_ends, numbers_of}
use Rattle.macro_expander.specs.Macros.{input_bits, output_bits, parameters_of, shape_of, shapes_of, inside_of}
use Rattle.macro_expander.specs.Runs.{IsRun, HasRun}
use Rattle.macro_expander.specs.Numbered.{IsRange, bound_ref, input_bound_ref, output_bound_ref}
use Rattle.macro_expander.proofs.Binding.{collected_are}

-- both steps of a judgement that has a value have one
both_give : {A B : Type 0} (j : Judged A) (next : A → Judged B) (b : B) → judging j next ≡ Ok b → (a : A) × (j ≡ Ok a) × (next a ≡ Ok b)
both_give (Ok a) next b e = (a, refl, e)
both_give (Err kind) next b e = absurd (cc)

-- ---- ranges

up_apart : (a n i : ℕ) → i < n → abs_diff (get_or (range_with_len a n) 0 0) (get_or (range_with_len a n) i 0) ≡ i
up_apart a n i h =
    let first : get_or (range_with_len a n) 0 0 ≡ a + 0 = get_or-range_with_len a n 0 0 (omega arith) in
    rw (first, get_or-range_with_len a n i 0 h) (omega arith)

down_at : (a n i : ℕ) → i < n → get_or (reverse (range_with_len a n)) i 0 ≡ a + (n - 1 - i)
down_at a n i h =
    let long = length-range_with_len a n in
    get_or-reverse (range_with_len a n) i 0 (omega arith) ∙ rw long (get_or-range_with_len a n (n - 1 - i) 0 (omega arith))

up_run : (a n : ℕ) → IsRun (range_with_len a n)
up_run a n = record { apart = λ i h. up_apart a n i (let long = length-range_with_len a n in omega arith) }

down_run : (a n : ℕ) → IsRun (reverse (range_with_len a n))
down_run a n = record {
  apart = λ i h.
      let long = length-range_with_len a n in
      let turned = length-reverse (range_with_len a n) in
      let below : i < n = omega arith in
      let some : 0 < n = omega arith in
      rw (down_at a n 0 some, down_at a n i below) (omega arith);
}

run_between : (first last : ℕ) → IsRun (from_to first last)
run_between first last = by (nat_le first last)
  where
    by : (b : Bool) → IsRun (cond b (range_with_len first (last - first + 1)) (reverse (range_with_len last (first - last + 1))))
    by true = up_run first (last - first + 1)
    by false = down_run last (first - last + 1)

pub record AreNumbers (ns : List ℕ) : Type 0 where
  pub few : length ns ≤ widest
  pub run : IsRun ns

between : (first last : Option ℕ) (ns : List ℕ) → range_of first last ≡ Some ns → AreNumbers ns
between None last ns e = absurd (cc)
between (Some first) None ns e = absurd (cc)
between (Some first) (Some last) ns e = by (nat_le (length (from_to first last)) widest) refl e
  where
    by : (b : Bool) → nat_le (length (from_to first last)) widest ≡ b → cond b (Some (from_to first last)) None ≡ Some ns → AreNumbers ns
    by true h q = let s : from_to first last ≡ ns = cc in subst AreNumbers s (record { few = leb-true (length (from_to first last)) widest h; run = run_between first last })
    by false h q = absurd (cc)

unless_refused : (o : Option (List ℕ)) (ns : List ℕ) → ((xs : List ℕ) → o ≡ Some xs → AreNumbers xs) → or_refuse o BadRange ≡ Ok ns → AreNumbers ns
unless_refused None ns h e = absurd (cc)
unless_refused (Some xs) ns h e = let s : xs ≡ ns = cc in subst AreNumbers s (h xs refl)

are_numbers : (ends : Option (ℤ × ℤ)) (ns : List ℕ) → numbers_of ends ≡ Ok ns → AreNumbers ns
are_numbers None ns e = let s : 0 ∷ [] ≡ ns = cc in subst AreNumbers s (record { few = omega arith; run = up_run 0 1 })
are_numbers (Some ends) ns e = unless_refused (bits_of ends.0 ends.1) ns (λ xs q. between (bit_number ends.0) (bit_number ends.1) xs q) e

-- ---- the formals of a macro

shape_range : (env : List Binding) (f : Formal) (shape : Shape) → shape_of env f ≡ Ok shape → IsRange shape
shape_range env f shape e =
    let a = both_give (written_ends env f.range) (λ ends. judging (numbers_of ends) (λ numbers. Ok (record { base = f.base; numbers = numbers }))) shape e in
    let b = both_give (numbers_of a.0) (λ numbers. Ok (record { base = f.base; numbers = numbers })) shape a.2 in
    let made : Shape = record { base = f.base; numbers = b.0 } in
    let is : made ≡ shape = cc in
    let n = are_numbers a.0 b.0 b.1 in
    subst IsRange is (record { few = n.few; run = n.run })

all_ranges : (env : List Binding) (got : List Shape) (formals : List Formal) (out : List Shape) → All IsRange got → collected (shape_of env) got formals ≡ Ok out → All IsRange out
all_ranges env got [] out g e = let s : got ≡ out = cc in subst (All IsRange) s g
all_ranges env got (f ∷ formals) out g e =
    let a = both_give (shape_of env f) (λ shape. collected (shape_of env) (got ++ shape ∷ []) formals) out e in
    all_ranges env (got ++ a.0 ∷ []) formals out (All-push IsRange got a.0 g (shape_range env f a.0 a.1)) a.2

-- the formals that a body is expanded with
pub shapes_are : (consts : List Binding) (m : Macro) (given : List Binding) (inside : Inside) → inside_of consts m given ≡ Ok inside →
    All IsRange inside.ins × All IsRange inside.outs
unfolding inside_of
shapes_are consts m given inside e =
    let params = both_give (parameters_of consts given m.params) (λ params. judging (shapes_of (params ++ consts) m.ins)
    (λ ins. judging (shapes_of (params ++ consts) m.outs) (λ outs. Ok (record { env = params ++ consts; ins = ins; outs = outs })))) inside e in
    let env = params.0 ++ consts in
    let ins = both_give (shapes_of env m.ins) (λ ins. judging (shapes_of env m.outs) (λ outs. Ok (record { env = env; ins = ins; outs = outs }))) inside params.2 in
    let outs = both_give (shapes_of env m.outs) (λ outs. Ok (record { env = env; ins = ins.0; outs = outs })) inside ins.2 in
    let made : Inside = record { env = env; ins = ins.0; outs = outs.0 } in
    let is : made ≡ inside = cc in
    subst (λ (i : Inside). All IsRange i.ins × All IsRange i.outs) {x = made} is (
      all_ranges env [] m.ins ins.0 (All-nil IsRange) ins.1,
      all_ranges env [] m.outs outs.0 (All-nil IsRange) outs.1,
    )

-- ---- what is bound to them keeps their numbers

bound_has_run : (shape : Shape) (j : Judged (List BitRef)) (f : numbered_bound.Bound) → IsRange shape → judging j (λ bits. Ok (bound_ref shape bits)) ≡ Ok f → HasRun f
bound_has_run shape (Ok bits) f h e = let s : bound_ref shape bits ≡ f = cc in subst HasRun s (record { numbers = h.run })
bound_has_run shape (Err kind) f h e = absurd (cc)

abbrev PairRange : Shape × numbered_joined.Joined → Type 0
PairRange p = IsRange p.0

zip_firsts : {A B : Type 0} (P : A → Type 0) (xs : List A) (ys : List B) → All P xs → All (λ (p : A × B). P p.0) (zip xs ys)
zip_firsts {A = A} {B = B} P [] ys h = All-nil (λ (p : A × B). P p.0)
zip_firsts {A = A} {B = B} P (x ∷ xs) [] h = All-nil (λ (p : A × B). P p.0)
zip_firsts {A = A} {B = B} P (x ∷ xs) (y ∷ ys) h = All-cons (λ (p : A × B). P p.0) (x, y) (zip xs ys) (All-head P x xs h) (zip_firsts P xs ys (All-tail P x xs h))

pub inputs_have_runs : (shapes : List Shape) (ins : List numbered_joined.Joined) (out : List numbered_bound.Bound) →
    All IsRange shapes → collected input_bound_ref [] (zip shapes ins) ≡ Ok out → All HasRun out
inputs_have_runs shapes ins out h e =
    collected_are PairRange HasRun input_bound_ref (λ p f r q. bound_has_run p.0 (input_bits p.0 p.1.bits) f r q) [] (zip shapes ins) out (All-nil HasRun) (zip_firsts IsRange shapes ins h) e

pub outputs_have_runs : (inputs : List numbered_bound.Bound) (shapes : List Shape) (outs : List numbered_joined.Joined) (out : List
    numbered_bound.Bound) → All HasRun inputs → All IsRange shapes → collected output_bound_ref inputs (zip shapes outs) ≡ Ok out → All HasRun out
outputs_have_runs inputs shapes outs out g h e =
    collected_are PairRange HasRun output_bound_ref (λ p f r q. bound_has_run p.0 (output_bits p.0 p.1.bits) f r q) inputs (zip shapes outs) out g (zip_firsts IsRange shapes outs h) e
