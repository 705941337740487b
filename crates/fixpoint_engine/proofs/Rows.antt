-- Rows of the nets that hear each class.
use Rattle.std.proofs.Common.{◌≡◌, ℕ, zero, suc, ◌+◌, ◌<◌, ◌≤◌, ◌==◌, Bool, true, false, ◌&&◌, ◌||◌, List, [], ◌∷◌, ◌++◌, length, map, set, take, drop, get_or, refl, sym, ap, ◌∙◌, arith, nat_lt, Some}
use Rattle.std.specs.Cmp.{both_ways}
use Rattle.std.specs.List.{range_with_len}
use Rattle.std.proofs.Math.Bool.{or-false}
use Rattle.std.proofs.lemmas.Bool.{and_parts, or_right, false_from_ne_true, eqb-true, eqb-false, eq-eqb, lt-ltb, ltb-true}
use Rattle.std.proofs.lemmas.List.{take_more, drop_more, drop_all, get_or-set_same, get_or-set_other}
use Rattle.std.proofs.lemmas.List.Folds.{list_any-append}
use Rattle.std.proofs.lemmas.List.FromFn.{length-map-range_with_len}
use Rattle.vector_names.specs.declared.bits.Target.{Target}
use Rattle.vector_names.specs.declared.bits.Target.TheVariants.{Net as OnNet}
use Rattle.element_kinds.specs.declared.kind.Kind.{Kind}
use Rattle.element_kinds.specs.Kinds.{listens}
use Rattle.flat_circuit.specs.declared.instance.Pin.{Pin}
use Rattle.flat_circuit.specs.Circuit.{Circuit, driver}
use Rattle.flat_circuit.specs.Alike.{class_of}
use Rattle.fixpoint_engine.specs.Classes.{is_first}
use Rattle.fixpoint_engine.specs.Members.{leads_in}
use Rattle.fixpoint_engine.specs.Work.{is_on_any, hears_from, hears_in}
use Rattle.fixpoint_engine.specs.Worklist.{among}
use Rattle.fixpoint_engine.specs.Hearers.{AreHearers, hears_class, row_of}
use Rattle.fixpoint_engine.proofs.Members.{one_first}

-- ---- one row

pub row_read : (rows : List (List ℕ)) (i : ℕ) (v : List ℕ) → i < length rows → v ≡ get_or rows i v → row_of rows i ≡ v
row_read [] i v below is = absurd (omega arith)
row_read (x ∷ xs) zero v below is = sym is
row_read (x ∷ xs) (suc i) v below is = row_read xs i v (omega arith) is

one_more : (nets : List ℕ) (net i : ℕ) → among (nets ++ net ∷ []) i ≡ (among nets i || (net == i))
one_more nets net i = list_any-append (λ n. n == i) nets (net ∷ []) ∙ ap (λ b. among nets i || b) (or-false (net == i))

pub row_added : (rows : List (List ℕ)) (first net : ℕ) (v w : List ℕ) → first < length rows → v ≡ get_or rows first v → w ≡ v ++ net ∷ [] →
    (other i : ℕ) → among (row_of (set rows first w) other) i ≡ (among (row_of rows other) i || ((first == other) && (net == i)))
row_added rows first net v w below is pushed other i = by (first == other) refl
  where
    by : (here : Bool) → (first == other) ≡ here →
        among (row_of (set rows first w) other) i ≡ (among (row_of rows other) i || (here && (net == i)))
    by true e =
        let same : first ≡ other = eqb-true first other e in
        ap (λ (k : ℕ). among (row_of (set rows first w) k) i) (sym same)
        ∙ ap (λ (row : List ℕ). among row i) (get_or-set_same rows first w [] below ∙ pushed ∙ ap (λ (row : List ℕ). row ++ net ∷ []) (sym (row_read rows first v below is)))
        ∙ one_more (row_of rows first) net i ∙ ap (λ (k : ℕ). among (row_of rows k) i || (net == i)) same
    by false e =
        ap (λ (row : List ℕ). among row i) (get_or-set_other rows first other w [] (λ same. eqb-false first other e (sym same)))
        ∙ sym (or-false (among (row_of rows other) i))

-- ---- the net that stands for the class of a pin's net

pub lead_below : (ks : List ℕ) (i : ℕ) → leads_in (Some ks) i ≡ true → i < length ks
lead_below ks i leads = ltb-true i (length ks) (and_parts (nat_lt i (length ks)) (is_first ks i) leads).0

pub lead_first : (ks : List ℕ) (i : ℕ) → leads_in (Some ks) i ≡ true → is_first ks i ≡ true
lead_first ks i leads = (and_parts (nat_lt i (length ks)) (is_first ks i) leads).1

pub one_leader : (ks : List ℕ) (found net on : ℕ) → leads_in (Some ks) found ≡ true → class_of ks found ≡ class_of ks on → leads_in (Some ks) net ≡ true →
    (found == net) ≡ (class_of ks net == class_of ks on)
one_leader ks found net on leads alike first = both_ways (found == net) (class_of ks net == class_of ks on)
    (λ same. eq-eqb (class_of ks net) (class_of ks on) (ap (class_of ks) (sym (eqb-true found net same)) ∙ alike))
    (λ same. eq-eqb found net (one_first ks found net (lead_first ks found leads) (lead_first ks net first) (alike ∙ sym (eqb-true (class_of ks net) (class_of ks on) same))))

pub heard_net : (ks : List ℕ) (kind : Kind) (place : ℕ) (t : Target) (found net on : ℕ) → t ≡ OnNet on → listens kind place ≡ true → leads_in (Some ks) found ≡ true →
    class_of ks found ≡ class_of ks on → leads_in (Some ks) net ≡ true → (found == net) ≡ (listens kind place && is_on_any (λ j. class_of ks net == class_of ks j) t)
heard_net ks kind place t found net on is hears leads alike first =
    one_leader ks found net on leads alike first ∙ (λ k. sym hears k && is_on_any (λ j. class_of ks net == class_of ks j) (sym is k))

-- ---- one pin after another

-- The pins that are left add what they hear.
pub pin_added : (nets : ℕ → Bool) (kind : Kind) (place : ℕ) (ps : List Pin) (x : Pin) (here before after all : Bool) → place < length ps → x ≡ get_or ps place x →
    (before || (hears_from nets kind place (drop place ps) && here)) ≡ all → after ≡ (before || ((listens kind place && is_on_any nets x.target) && here)) →
    (after || (hears_from nets kind (place + 1) (drop (place + 1) ps) && here)) ≡ all
pin_added nets kind place ps x here before after all below is left adds =
    let rest : drop place ps ≡ x ∷ drop (place + 1) ps = drop_more ps place x below ∙ ap (λ (p : Pin). p ∷ drop (place + 1) ps) (sym is) in
    ap (λ b. b || (hears_from nets kind (place + 1) (drop (place + 1) ps) && here)) adds
    ∙ turned before (listens kind place && is_on_any nets x.target) (hears_from nets kind (place + 1) (drop (place + 1) ps)) here
    ∙ ap (λ (qs : List Pin). before || (hears_from nets kind place qs && here)) (sym rest) ∙ left
  where
    turned : (a h r e : Bool) → ((a || (h && e)) || (r && e)) ≡ (a || ((h || r) && e))
    turned true h r e = refl
    turned false true true true = refl
    turned false true true false = refl
    turned false true false true = refl
    turned false true false false = refl
    turned false false r e = refl

pub pins_added : (nets : ℕ → Bool) (kind : Kind) (place : ℕ) (ps : List Pin) (here before all : Bool) → length ps ≤ place →
    (before || (hears_from nets kind place (drop place ps) && here)) ≡ all → before ≡ all
pins_added nets kind place ps here before all past left =
    sym (or-false before) ∙ ap (λ (qs : List Pin). before || (hears_from nets kind place qs && here)) (sym (drop_all place ps past)) ∙ left

-- ---- one net after another

none_among : (n i first from : ℕ) → among (row_of (map (λ _. []) (range_with_len from n)) first) i ≡ false
none_among zero i first from = refl
none_among (suc n) i zero from = refl
none_among (suc n) i (suc first) from = none_among n i first (from + 1)

-- the nets below a number that hear each class are in its row
pub record HearersTo (c : Circuit) (ks : List ℕ) (rows : List (List ℕ)) (n : ℕ) : Type 0 where
  pub long : length rows ≡ length ks
  pub are : (first i : ℕ) → leads_in (Some ks) first ≡ true → among (row_of rows first) i ≡ (nat_lt i n && hears_class c ks (class_of ks first) i)

pub hearers_none : (c : Circuit) (ks : List ℕ) (rows : List (List ℕ)) (n : ℕ) → rows ≡ map (λ _. []) (range_with_len 0 n) → n ≡ length ks → HearersTo c ks rows 0
hearers_none c ks rows n is each = record {
  long = ap length is ∙ length-map-range_with_len (λ _. []) 0 n ∙ each;
  are = λ first i leads. ap (λ (rs : List (List ℕ)). among (row_of rs first) i) is ∙ none_among n i first 0
      ∙ ap (λ b. b && hears_class c ks (class_of ks first) i) (sym (not_below i));
}
  where
    not_below : (i : ℕ) → nat_lt i 0 ≡ false
    not_below i = false_from_ne_true (nat_lt i 0) (λ less. let below = ltb-true i 0 less in omega (arith, below))

pub hearers_more : (c : Circuit) (ks : List ℕ) (old new : List (List ℕ)) (n : ℕ) → HearersTo c ks old n → length new ≡ length old →
    ((first i : ℕ) → leads_in (Some ks) first ≡ true → among (row_of new first) i ≡ (among (row_of old first) i || (hears_class c ks (class_of ks first) n && (n == i)))) →
    HearersTo c ks new (n + 1)
hearers_more c ks old new n before long added = record {
  long = long ∙ before.long;
  are = λ first i leads. added first i leads ∙ ap (λ b. b || (hears_class c ks (class_of ks first) n && (n == i))) (before.are first i leads)
      ∙ by first i (n == i) refl;
}
  where
    below_next : (i : ℕ) → ¬ (n ≡ i) → nat_lt i n ≡ nat_lt i (n + 1)
    below_next i apart = both_ways (nat_lt i n) (nat_lt i (n + 1))
        (λ less. let below = ltb-true i n less in lt-ltb i (n + 1) (omega (arith, below)))
        (λ less. let below = ltb-true i (n + 1) less in lt-ltb i n (omega (arith, below, apart)))

    joined : (b h : Bool) → ((b && h) || (h && true)) ≡ h
    joined true true = refl
    joined true false = refl
    joined false true = refl
    joined false false = refl

    by : (first i : ℕ) (same : Bool) → (n == i) ≡ same →
        ((nat_lt i n && hears_class c ks (class_of ks first) i) || (hears_class c ks (class_of ks first) n && same)) ≡ (nat_lt i (n + 1) && hears_class c ks (class_of ks first) i)
    by first i true e =
        let is : n ≡ i = eqb-true n i e in
        let next : nat_lt i (n + 1) ≡ true = lt-ltb i (n + 1) (omega (arith, is)) in
        ap (λ (k : ℕ). (nat_lt i n && hears_class c ks (class_of ks first) i) || (hears_class c ks (class_of ks first) k && true)) is
        ∙ joined (nat_lt i n) (hears_class c ks (class_of ks first) i) ∙ ap (λ b. b && hears_class c ks (class_of ks first) i) (sym next)
    by first i false e =
        none (nat_lt i n && hears_class c ks (class_of ks first) i) (hears_class c ks (class_of ks first) n)
        ∙ ap (λ b. b && hears_class c ks (class_of ks first) i) (below_next i (eqb-false n i e))
      where
        none : (a h : Bool) → (a || (h && false)) ≡ a
        none true h = refl
        none false true = refl
        none false false = refl

pub hearers_done : (c : Circuit) (ks : List ℕ) (rows : List (List ℕ)) (n : ℕ) → HearersTo c ks rows n → length ks ≤ n → AreHearers c ks rows
hearers_done c ks rows n all past = record {
  each_net = all.long;
  are = λ first i leads. all.are first i leads ∙ by (class_of ks first) i (leads_in (Some ks) i) refl;
}
  where
    by : (class i : ℕ) (lead : Bool) → leads_in (Some ks) i ≡ lead →
        (nat_lt i n && (lead && hears_in (λ j. class == class_of ks j) (driver c i))) ≡ (lead && hears_in (λ j. class == class_of ks j) (driver c i))
    by class i true e = let below = lead_below ks i e in ap (λ b. b && hears_in (λ j. class == class_of ks j) (driver c i)) (lt-ltb i n (omega (arith, below, past)))
    by class i false e = none (nat_lt i n)
      where
        none : (b : Bool) → (b && false) ≡ false
        none true = refl
        none false = refl

-- ---- a net of a row

pub hearer_below : (c : Circuit) (ks : List ℕ) (rows : List (List ℕ)) (first i : ℕ) → AreHearers c ks rows → leads_in (Some ks) first ≡ true →
    among (row_of rows first) i ≡ true → i < length ks
hearer_below c ks rows first i hearers leads is =
    lead_below ks i (and_parts (leads_in (Some ks) i) (hears_in (λ j. class_of ks first == class_of ks j) (driver c i)) (sym (hearers.are first i leads) ∙ is)).0

pub among_at : (nets : List ℕ) (k : ℕ) → k < length nets → among nets (get_or nets k 0) ≡ true
among_at [] k below = absurd (omega arith)
among_at (net ∷ nets) zero below = ap (λ b. b || among nets net) (eq-eqb net net refl)
among_at (net ∷ nets) (suc k) below = or_right (net == get_or nets k 0) (among nets (get_or nets k 0)) (among_at nets k (omega arith))

pub among_more : (nets : List ℕ) (k i : ℕ) → k < length nets → among (take (k + 1) nets) i ≡ (among (take k nets) i || (get_or nets k 0 == i))
among_more nets k i below = ap (λ (ns : List ℕ). among ns i) (take_more nets k 0 below) ∙ one_more (take k nets) (get_or nets k 0) i

-- one net more of a row waits, if it is active
pub adds_one_more : (row : List ℕ) (k i net : ℕ) (active old before after : Bool) → k < length row → net ≡ get_or row k 0 →
    before ≡ (old || (active && among (take k row) i)) → after ≡ (before || (active && (net == i))) → after ≡ (old || (active && among (take (k + 1) row) i))
adds_one_more row k i net active old before after below is was adds =
    adds ∙ (λ t. was t || (active && (is t == i))) ∙ spread old active (among (take k row) i) (get_or row k 0 == i)
    ∙ ap (λ b. old || (active && b)) (sym (among_more row k i below))
  where
    spread : (o a x y : Bool) → ((o || (a && x)) || (a && y)) ≡ (o || (a && (x || y)))
    spread true a x y = refl
    spread false true x y = refl
    spread false false x y = refl

pub all_heard : (active leads hears listed : Bool) → listed ≡ (leads && hears) → (active && listed) ≡ ((active && leads) && hears)
all_heard active leads hears listed is = ap (λ b. active && b) is ∙ turned active
  where
    turned : (a : Bool) → (a && (leads && hears)) ≡ ((a && leads) && hears)
    turned true = refl
    turned false = refl
