-- What holds of the bits of a use that is not refused.
use Rattle.std.proofs.Common.{◌≡◌, ℕ, ℤ, pos, negsuc, zero, suc, ◌+◌, ◌*◌, ◌≤◌, Bool, true, false, not, ◌&&◌, ◌||◌, cond, List, [], ◌∷◌, length, map, Ok, Err, Option, Some, None, is_some, refl, ap, sym, ◌∙◌, subst, arith}
use Rattle.std.specs.Prelude.{◌==◌, nat_le, slice_index_or}
use Rattle.std.specs.List.{All, count_by, flat_map}
use Rattle.std.proofs.lemmas.Bool.{and_parts, eqb-true, leb-true}
use Rattle.std.proofs.lemmas.List.{length-map, length-append}
use Rattle.std.proofs.lemmas.List.Sums.{sum_by-cons, sum_by-append}
use Rattle.std.proofs.lemmas.List.Elements.{All-head, All-tail, All-nil, All-cons, All-append, All-map, All-weaker}
use Rattle.scald_base.specs.Time.{Header, period}
use Rattle.scald_base.specs.declared.refusal.RefusalKind.{RefusalKind}
use Rattle.scald_base.specs.declared.refusal.RefusalKind.TheVariants.{BadParameter, Bounds, PinCount}
use Rattle.drawing_tree.specs.declared.environment.Binding.{Binding}
use Rattle.drawing_tree.specs.Expression.{Expression}
use Rattle.vector_names.specs.declared.bits.BitRef.{BitRef}
use Rattle.element_kinds.specs.declared.kind.Kind.{Kind}
use Rattle.element_kinds.specs.declared.kind.Kind.TheVariants.{Chg}
use Rattle.element_kinds.specs.declared.form.Check.{Check}
use Rattle.element_kinds.specs.declared.form.Check.TheVariants.{SetupHold as AboutRise, RiseFall as RiseToFall, MinPulse as Widths}
use Rattle.flat_circuit.specs.declared.instance.Pin.{Pin}
use Rattle.element_kinds.specs.Kinds.{has_output, check_of, may_split}
use Rattle.flat_circuit.specs.declared.limits.Limits.{Limits}
use Rattle.flat_circuit.specs.declared.limits.Limits.TheVariants.{None as Unlimited, Edges, Pulses}
use Rattle.flat_circuit.specs.Kind.{PinsFit, EdgesFit, PulsesFit, LimitsFitCheck, LimitsFit}
use Rattle.flat_circuit.specs.Split.{either_delay, SplitFits}
use Rattle.flat_circuit.specs.Name.{Name}
use Rattle.flat_circuit.specs.Instances.{PinExists, OutExists, InstanceFits}
use Rattle.drawing_tree.specs.declared.statement.UseStmt.{UseStmt}
use Rattle.drawing_tree.specs.Tree.{UseStatement}
use Rattle.macro_expander.specs.declared.primitive.Plan.{Plan}
use Rattle.macro_expander.specs.declared.connection.Joined as numbered_joined
use Rattle.macro_expander.specs.Outcome.{Judged, judging}
use Rattle.macro_expander.specs.Terms.{Joined}
use Rattle.macro_expander.specs.Primitives.{demanded, are_of, takes, same_truth, fall_of, written_delay, values_given, Delays, delay_between, split_of, delays_of, takes_delays, limits_for, limits_of, setup_and_hold, high_and_low, are_connected, plan_of, fewest_inputs, most_inputs, most_marks, outputs, marks, bit_at}
use Rattle.macro_expander.specs.Numbered.{bit_of, joined_of, no_ref, pin_ref, all_refs, column_ref, pin_refs, output_ref, target_ref, instance_ref, BitExists, JoinedExists}
use Rattle.macro_expander.proofs.Lists.{count_by_map}
use Rattle.macro_expander.proofs.Joints.{HasWidth, AreJoined}

-- ---- judgements that are not refused

pub demanded_ok : {A : Type 0} (b : Bool) (kind : RefusalKind) (rest : Judged A) (a : A) → demanded b kind rest ≡ Ok a → (b ≡ true) × (rest ≡ Ok a)
demanded_ok true kind rest a h = (refl, h)
demanded_ok false kind rest a h = absurd (cc)

pub record Ran {A B : Type 0} (j : Judged A) (next : A → Judged B) (b : B) : Type 0 where
  pub value : A
  pub was : j ≡ Ok value
  pub goes_on : next value ≡ Ok b

pub judging_ok : {A B : Type 0} (j : Judged A) (next : A → Judged B) (b : B) → judging j next ≡ Ok b → Ran j next b
judging_ok (Ok a) next b h = record { value = a; was = refl; goes_on = h }
judging_ok (Err kind) next b h = absurd (cc)

-- ---- limits

sum_by_test : (b : Bool) (h : Header) (setup hold : ℕ) (l : Limits) → nat_le (setup + hold) (period h) ≡ b →
    cond b (Ok (Edges setup hold)) (Err Bounds) ≡ Ok l → EdgesFit h l
sum_by_test true h setup hold l t e =
    let is : Edges setup hold ≡ l = cc in
    subst (λ (x : Limits). EdgesFit h x) is (leb-true (setup + hold) (period h) t)
sum_by_test false h setup hold l t e = absurd (cc)

setup_fits : (h : Header) (setup hold : ℤ) (l : Limits) → setup_and_hold (period h) setup hold ≡ Ok l → EdgesFit h l
setup_fits h (pos setup) (pos hold) l e =
    sum_by_test (nat_le (setup + hold) (period h)) h setup hold l refl e
setup_fits h (pos setup) (negsuc hold) l e = absurd (cc)
setup_fits h (negsuc setup) (pos hold) l e = absurd (cc)
setup_fits h (negsuc setup) (negsuc hold) l e = absurd (cc)

each_by_test : (b : Bool) (h : Header) (high low : ℕ) (l : Limits) →
    (nat_le high (period h) && nat_le low (period h)) ≡ b →
    cond b (Ok (Pulses high low)) (Err Bounds) ≡ Ok l → PulsesFit h l
each_by_test true h high low l t e =
    let is : Pulses high low ≡ l = cc in
    let q = and_parts (nat_le high (period h)) (nat_le low (period h)) t in
    subst (λ (x : Limits). PulsesFit h x) is
    (leb-true high (period h) q.0, leb-true low (period h) q.1)
each_by_test false h high low l t e = absurd (cc)

high_fits : (h : Header) (high low : ℤ) (l : Limits) → high_and_low (period h) high low ≡ Ok l → PulsesFit h l
high_fits h (pos high) (pos low) l e =
    each_by_test (nat_le high (period h) && nat_le low (period h)) h high low l refl e
high_fits h (pos high) (negsuc low) l e = absurd (cc)
high_fits h (negsuc high) (pos low) l e = absurd (cc)
high_fits h (negsuc high) (negsuc low) l e = absurd (cc)

limits_fit : (h : Header) (kind : Kind) (given : List Binding) (l : Limits) →
    limits_of (period h) kind given ≡ Ok l → LimitsFit h kind l
limits_fit h kind given l e = by (check_of kind) e
  where
    by : (check : Option Check) → limits_for (period h) check given ≡ Ok l → LimitsFitCheck h check l
    by None e = let is : Unlimited ≡ l = cc in sym is
    by (Some AboutRise) e = setup_fits h _ _ l e
    by (Some RiseToFall) e = setup_fits h _ _ l e
    by (Some Widths) e = high_fits h _ _ l e

-- ---- delays

ends_where_written : (env : List Binding) (written : Option (Expression × Expression)) (ends : ℤ × ℤ) →
    written_delay env written ≡ Ok (Some ends) → is_some written ≡ true
ends_where_written env None ends e = absurd (cc)
ends_where_written env (Some pair) ends e = refl

where_two : (two allowed : Bool) → (not two || allowed) ≡ true → two ≡ true → allowed ≡ true
where_two true allowed h is = h
where_two false allowed h is = absurd (cc)

split_fits : (kind : Kind) (delay fall : Option (ℤ × ℤ)) (d : Delays) →
    ((ends : ℤ × ℤ) → fall ≡ Some ends → may_split kind ≡ true) → delays_of delay fall ≡ Ok d → SplitFits kind d.0 d.1
split_fits kind None fall d may e = let is : (record { min = 0; max = 0 }, None) ≡ d = cc in subst (λ (x : Delays). SplitFits kind x.0 x.1) is tt
split_fits kind (Some delay) None d may e =
    let a = judging_ok (delay_between delay.0 delay.1) _ d e in
    let is : (a.value, None) ≡ d = cc (a.goes_on) in
    subst (λ (x : Delays). SplitFits kind x.0 x.1) is tt
split_fits kind (Some rise) (Some fall) d may e =
    let a = judging_ok (split_of rise fall) _ d e in
    let is : (either_delay a.value, Some a.value) ≡ d = cc (a.goes_on) in
    subst (λ (x : Delays). SplitFits kind x.0 x.1) is (may fall refl, refl)

pub record PlanFits (h : Header) (kind : Kind) (u : UseStatement) (plan : Plan) : Type 0 where
  pub split : SplitFits kind plan.delay plan.split
  pub limits : LimitsFit h kind plan.limits
  pub connected : are_connected kind u ≡ true

pub plan_fits : (h : Header) (kind : Kind) (env : List Binding) (u : UseStatement) (plan : Plan) → plan_of (period h) kind env u ≡ Ok plan → PlanFits h kind u plan
unfolding plan_of
plan_fits h kind env u plan e =
    let a = demanded_ok (takes_delays kind u) Bounds _ plan e in
    let b = demanded_ok (are_of (takes kind) u.params) BadParameter _ plan a.1 in
    let ends = judging_ok (written_delay env u.delay) _ plan b.1 in
    let fall = judging_ok (written_delay env (fall_of u)) _ plan ends.goes_on in
    let given = judging_ok (values_given env u.params) _ plan fall.goes_on in
    let delays = judging_ok (delays_of ends.value fall.value) _ plan given.goes_on in
    let limits = judging_ok (limits_of (period h) kind given.value) _ plan delays.goes_on in
    let i = demanded_ok (are_connected kind u) PinCount _ plan limits.goes_on in
    let made : Plan = record { delay = delays.value.0; split = delays.value.1; limits = limits.value } in
    let is : made ≡ plan = cc (i.1) in
    let taken = and_parts (same_truth (is_some u.delay) (has_output kind)) (not (is_some (fall_of u)) || may_split kind) a.0 in
    let may : (two : ℤ × ℤ) → fall.value ≡ Some two → may_split kind ≡ true = λ two is.
    where_two (is_some (fall_of u)) (may_split kind) taken.1 (ends_where_written env (fall_of u) two (fall.was ∙ ap Ok is)) in
    subst (λ (p : Plan). PlanFits h kind u p) is (record {
      split = split_fits kind ends.value fall.value delays.value may delays.was;
      limits = limits_fit h kind given.value limits.value limits.was;
      connected = i.0;
    })

-- ---- numbers that there are

bit_at_exists : (nets : ℕ) (bits : List BitRef) (k : ℕ) → All (BitExists nets) bits → BitExists nets (slice_index_or bits k no_ref)
bit_at_exists nets [] k h = record { target = tt }
bit_at_exists nets (b ∷ bits) zero h = All-head (BitExists nets) b bits h
bit_at_exists nets (b ∷ bits) (suc k) h = bit_at_exists nets bits k (All-tail (BitExists nets) b bits h)

spread_exists : (nets : ℕ) (bits : List BitRef) (k : ℕ) → All (BitExists nets) bits → BitExists nets (bit_at no_ref bits k)
spread_exists nets [] k h = record { target = tt }
spread_exists nets (b ∷ []) k h = All-head (BitExists nets) b [] h
spread_exists nets (b ∷ c ∷ bits) k h = bit_at_exists nets (b ∷ c ∷ bits) k h

columns_exist : (nets k : ℕ) (ins : List numbered_joined.Joined) → All (JoinedExists nets) ins → All (PinExists nets) (map (column_ref k) ins)
columns_exist nets k ins h = All-map (PinExists nets) (column_ref k)
    ins (All-weaker (JoinedExists nets) (λ c. PinExists nets (column_ref k c)) (λ c x. (spread_exists nets c.bits k x.bits).target) ins h)

refs_exist : (nets : ℕ) (c : numbered_joined.Joined) → All (BitExists nets) c.bits → All (PinExists nets) (all_refs c)
refs_exist nets c h = All-map (PinExists nets) (pin_ref c.hold) c.bits (All-weaker (BitExists nets) (λ b. PinExists nets (pin_ref c.hold b)) (λ b x. x.target) c.bits h)

all_refs_exist : (nets : ℕ) (ins : List numbered_joined.Joined) → All (JoinedExists nets) ins → All (PinExists nets) (flat_map all_refs ins)
all_refs_exist nets [] h = All-nil (PinExists nets)
all_refs_exist nets (c ∷ ins) h =
    All-append (PinExists nets) (all_refs c) (flat_map all_refs ins) (refs_exist nets c (All-head (JoinedExists nets) c ins h).bits) (all_refs_exist nets ins (All-tail (JoinedExists nets) c ins h))

pins_exist : (nets k : ℕ) (kind : Kind) (ins : List numbered_joined.Joined) → All (JoinedExists nets) ins → All (PinExists nets) (pin_refs kind ins k)
pins_exist nets k Chg ins h = all_refs_exist nets ins h
pins_exist nets k kind ins h = columns_exist nets k ins h

out_exists : (nets k : ℕ) (outs : List numbered_joined.Joined) → All (JoinedExists nets) outs → OutExists nets (target_ref (output_ref outs k))
out_exists nets k [] h = tt
out_exists nets k (c ∷ outs) h = (spread_exists nets c.bits k (All-head (JoinedExists nets) c outs h).bits).target

-- ---- how many pins

pub record Counted (kind : Kind) (ins : List numbered_joined.Joined) : Type 0 where
  pub least : fewest_inputs kind ≤ length ins
  pub most : length ins ≤ most_inputs kind
  pub marked : count_by (λ (c : numbered_joined.Joined). c.hold) ins ≤ most_marks kind

cols : (k lo hi m : ℕ) (ins : List numbered_joined.Joined) → lo ≤ length ins → length ins ≤ hi → count_by (λ (c : numbered_joined.Joined). c.hold) ins ≤ m →
    (lo ≤ length (map (column_ref k) ins)) × (length (map (column_ref k) ins) ≤ hi) × (count_by (λ (p : Pin). p.hold) (map (column_ref k) ins) ≤ m)
cols k lo hi m ins a b c = rw (length-map ins (column_ref k), count_by_map (λ (p : Pin). p.hold) (column_ref k) ins) (a, b, c)

pub record Wide (c : numbered_joined.Joined) : Type 0 where
  pub some : 1 ≤ length c.bits
  pub few : length c.bits ≤ 256

refs_least : (ins : List numbered_joined.Joined) → All Wide ins → length ins ≤ length (flat_map all_refs ins)
refs_least [] h = omega arith
refs_least (c ∷ ins) h =
    let w = All-head Wide c ins h in
    let more = refs_least ins (All-tail Wide c ins h) in
    omega (arith, length-append (all_refs c) (flat_map all_refs ins), length-map c.bits (pin_ref c.hold), w.some, more)

refs_most : (ins : List numbered_joined.Joined) → All Wide ins → length (flat_map all_refs ins) ≤ 256 * length ins
refs_most [] h = omega arith
refs_most (c ∷ ins) h =
    let w = All-head Wide c ins h in
    let more = refs_most ins (All-tail Wide c ins h) in
    omega (arith, length-append (all_refs c) (flat_map all_refs ins), length-map c.bits (pin_ref c.hold), w.few, more)

held_none : (hold : Bool) (bits : List BitRef) → hold ≡ false → count_by (λ (p : Pin). p.hold) (map (pin_ref hold) bits) ≡ 0
held_none hold [] h = refl
held_none hold (b ∷ bits) h = sum_by-cons (λ (p : Pin). cond p.hold 1 0) (pin_ref hold b) (map (pin_ref hold) bits) ∙ rw (h, held_none false bits refl) refl

zero_of : (b : Bool) (n : ℕ) → cond b 1 0 + n ≤ 0 → (b ≡ false) × (n ≤ 0)
zero_of true n h = absurd (omega arith)
zero_of false n h = (refl, omega arith)

refs_none : (ins : List numbered_joined.Joined) → count_by (λ (c : numbered_joined.Joined). c.hold) ins ≤ 0 → count_by (λ (p : Pin). p.hold) (flat_map all_refs ins) ≤ 0
refs_none [] h = omega arith
refs_none (c ∷ ins) h =
    let z = zero_of c.hold (count_by (λ (x : numbered_joined.Joined). x.hold) ins) (rw (sum_by-cons (λ (x : numbered_joined.Joined). cond x.hold 1 0) c ins) at h) in
    let here = held_none c.hold c.bits z.0 in
    let more = refs_none ins z.1 in
    omega (arith, sum_by-append (λ (p : Pin). cond p.hold 1 0) (all_refs c) (flat_map all_refs ins), here, more)

pins_fit : (k : ℕ) (kind : Kind) (ins : List numbered_joined.Joined) → Counted kind ins → All Wide ins → PinsFit kind (pin_refs kind ins k)
pins_fit k Chg ins f w = record {
  least = let a = refs_least ins w in omega (arith, f.least);
  most = let a = refs_most ins w in omega (arith, f.most);
  marks = refs_none ins f.marked;
}
pins_fit k kind ins f w =
    let r = cols k (fewest_inputs kind) (most_inputs kind) (most_marks kind) ins f.least f.most f.marked in
    record { least = r.0; most = r.1; marks = r.2 }

-- ---- the whole

named_wide : (names : List Name) (ins : List numbered_joined.Joined) → All HasWidth (map (joined_of names) ins) → All Wide ins
named_wide names [] h = All-nil Wide
named_wide names (c ∷ ins) h =
    let w = All-head HasWidth (joined_of names c) (map (joined_of names) ins) h in
    All-cons Wide c ins (record {
      some = omega (arith, w.some, length-map c.bits (bit_of names));
      few =
          omega (arith, w.few, length-map c.bits (bit_of names));
    })
    (named_wide names ins (All-tail HasWidth (joined_of names c) (map (joined_of names) ins) h))

some_out : (kind : Kind) (outs : List numbered_joined.Joined) (k : ℕ) (b : Bool) → length outs ≡ cond b 1 0 → is_some (target_ref (output_ref outs k)) ≡ b
some_out kind [] k true h = absurd (omega arith)
some_out kind [] k false h = refl
some_out kind (c ∷ outs) k true h = refl
some_out kind (c ∷ outs) k false h = absurd (omega arith)

module _ (h : Header) (names : List Name) (kind : Kind) (u : UseStatement) (plan : Plan) (ins outs : List numbered_joined.Joined) (fits : PlanFits h kind u plan)
    (ins_are : AreJoined u.ins (map (joined_of names) ins)) (outs_are : AreJoined u.outs (map (joined_of names) outs)) where
  pub counted : Counted kind ins
  counted =
      let a = and_parts (nat_le (fewest_inputs kind) (length u.ins) && nat_le (length u.ins) (most_inputs kind))
      ((length u.outs == outputs kind) && (nat_le (marks u.ins) (most_marks kind) && (marks u.outs == 0))) fits.connected in
      let b = and_parts (nat_le (fewest_inputs kind) (length u.ins)) (nat_le (length u.ins) (most_inputs kind)) a.0 in
      let c = and_parts (length u.outs == outputs kind) (nat_le (marks u.ins) (most_marks kind) && (marks u.outs == 0)) a.1 in
      let d = and_parts (nat_le (marks u.ins) (most_marks kind)) (marks u.outs == 0) c.1 in
      let least = leb-true (fewest_inputs kind) (length u.ins) b.0 in
      let most = leb-true (length u.ins) (most_inputs kind) b.1 in
      let marked = leb-true (marks u.ins) (most_marks kind) d.0 in
      let count : length ins ≡ length u.ins = sym (length-map ins (joined_of names)) ∙ ins_are.count in
      let held : count_by (λ (x : numbered_joined.Joined). x.hold) ins ≡ marks u.ins = sym (count_by_map (λ (j : Joined). j.hold) (joined_of names) ins) ∙ ins_are.marked in
      record { least = rw count least; most = rw count most; marked = rw held marked }

  pub one_out : length outs ≡ outputs kind
  one_out =
      let a = and_parts (nat_le (fewest_inputs kind) (length u.ins) && nat_le (length u.ins) (most_inputs kind))
      ((length u.outs == outputs kind) && (nat_le (marks u.ins) (most_marks kind) && (marks u.outs == 0))) fits.connected in
      let c = and_parts (length u.outs == outputs kind) (nat_le (marks u.ins) (most_marks kind) && (marks u.outs == 0)) a.1 in
      sym (length-map outs (joined_of names)) ∙ (outs_are.count ∙ eqb-true (length u.outs) (outputs kind) c.0)

  pub bit_fits : (nets k : ℕ) (path : List ℕ) (code : UseStmt) → All (JoinedExists nets) ins →
      All (JoinedExists nets) outs → InstanceFits h nets (instance_ref path code kind plan ins outs k)
  bit_fits nets k path code x y = record {
    pins = pins_fit k kind ins counted (named_wide names ins ins_are.wide);
    has_out = some_out kind outs k (has_output kind) one_out;
    lim = fits.limits;
    split = fits.split;
    exists = record { reads = pins_exist nets k kind ins x; drives = out_exists nets k outs y };
  }
