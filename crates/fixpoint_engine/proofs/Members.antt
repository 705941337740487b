-- The nets of a class, found from the last to the first, and changes for all of them.
use Rattle.std.proofs.Common.{◌≡◌, ℕ, zero, suc, ◌+◌, ◌<◌, ◌≤◌, ◌==◌, set, length-append, length-set, Bool, true, false, ◌&&◌, ◌||◌, cond, below_more, All, List, [], ◌∷◌, ◌++◌, append-nil, length, map, take, get_or, refl, sym, ap, subst, ◌∙◌, arith, nat_lt, Option, Some, None, is_some, not}
use Rattle.std.specs.Cmp.{both_ways}
use Rattle.std.specs.List.{list_any, range_with_len}
use Rattle.std.proofs.lemmas.Bool.{eqb-true, eqb-false, eq-eqb, lt-ltb, ltb-true}
use Rattle.std.proofs.lemmas.List.{append_assoc, map-append, take_more, get_or_default, get_or-set_same, get_or-set_other}
use Rattle.std.proofs.lemmas.List.Elements.{All-nil, All-cons, All-append, All-map, All-head, All-tail}
use Rattle.std.proofs.Math.ListN.{get_or-append}
use Rattle.std.proofs.Math.Seq.{get_or-append_seam}
use Rattle.std.proofs.lemmas.Grind.{get_or_default_zero}
use Rattle.std.proofs.lemmas.List.Concat.{flat_map-append}
use Rattle.std.proofs.lemmas.List.Sums.{fold-append}
use Rattle.std.proofs.lemmas.List.Folds.{Any-from_list_any, list_any-append}
use Rattle.step_values.specs.declared.value.Value.{Value}
use Rattle.skew_algebra.specs.Wave.{Wave}
use Rattle.vector_names.proofs.Ranges.{range_more}
use Rattle.flat_circuit.specs.Alike.{class_of}
use Rattle.fixpoint_engine.specs.Waves.{Waves}
use Rattle.fixpoint_engine.specs.Worklist.{Change, among, changed}
use Rattle.fixpoint_engine.specs.Classes.{is_first}
use Rattle.fixpoint_engine.specs.Members.{is_with, AreFirsts, AreLasts, last_below, members_below, for_class, for_classes, leads_in}

-- ---- from one net of a class to the one before

-- the number after a net's
abbrev pub above : Option ℕ → ℕ
above None = 0
above (Some i) = suc i

pub last_some : (ks : List ℕ) (class m t : ℕ) → last_below ks class m ≡ Some t → (class_of ks t ≡ class) × (t < m)
unfolding last_below
last_some ks class zero t is = cc
last_some ks class (suc m) t is = by (class_of ks m == class) refl (last_some ks class m t) is
  where
    by : (here : Bool) → (class_of ks m == class) ≡ here → (last_below ks class m ≡ Some t → (class_of ks t ≡ class) × (t < m)) →
        cond here (Some m) (last_below ks class m) ≡ Some t → (class_of ks t ≡ class) × (t < suc m)
    by true e earlier is = let same : m ≡ t = cc in (ap (class_of ks) (sym same) ∙ eqb-true (class_of ks m) class e, omega (arith, same))
    by false e earlier is = let found = earlier is in (found.0, let below : t < m = found.1 in omega (arith, below))

-- below the last net there are as many as below all
pub members_above : (ks : List ℕ) (class m : ℕ) → members_below ks class m ≡ members_below ks class (above (last_below ks class m))
unfolding last_below members_below
members_above ks class zero = refl
members_above ks class (suc m) = by (class_of ks m == class) refl (members_above ks class m)
  where
    by : (here : Bool) → (class_of ks m == class) ≡ here → members_below ks class m ≡ members_below ks class (above (last_below ks class m)) →
        cond here (m ∷ members_below ks class m) (members_below ks class m) ≡ members_below ks class (above (cond here (Some m) (last_below ks class m)))
    by true e rest = ap (λ (b : Bool). cond b (m ∷ members_below ks class m) (members_below ks class m)) (sym e)
    by false e rest = rest

one_more : (ks : List ℕ) (class t : ℕ) → class_of ks t ≡ class → members_below ks class (suc t) ≡ t ∷ members_below ks class t
unfolding members_below
one_more ks class t is = ap (λ (b : Bool). cond b (t ∷ members_below ks class t) (members_below ks class t)) (eq-eqb (class_of ks t) class is)

-- a change is added for one net more, and the others of the class are left
pub member_added : {A : Type 0} (pair : A → Change) (ks : List ℕ) (class t : ℕ) (w : Wave Value)
    (made more : List A) (one : A) (at next : Option ℕ) (all : List Change) → at ≡ Some t → class_of ks t ≡ class →
    next ≡ last_below ks (class_of ks t) t → more ≡ made ++ one ∷ [] → pair one ≡ (t, w) → map pair made ++ map (λ i. (i, w)) (members_below ks class (above at)) ≡ all →
    map pair more ++ map (λ i. (i, w)) (members_below ks class (above next)) ≡ all
member_added pair ks class t w made more one at next all is of goes pushed pairs left =
    let rest : members_below ks class (above next) ≡ members_below ks class t =
    ap (λ (n : Option ℕ). members_below ks class (above n)) (goes ∙ ap (λ (k : ℕ). last_below ks k t) of) ∙ sym (members_above ks class t) in
    let here : members_below ks class (above at) ≡ t ∷ members_below ks class t = ap (λ (n : Option ℕ). members_below ks class (above n)) is ∙ one_more ks class t of in
    let new : map pair more ≡ map pair made ++ (t, w) ∷ [] = ap (map pair) pushed ∙ map-append pair made (one ∷ []) ∙ (λ k. map pair made ++ pairs k ∷ []) in
    (λ k. new k ++ map (λ i. (i, w)) (rest k)) ∙ append_assoc (map pair made) ((t, w) ∷ []) (map (λ i. (i, w)) (members_below ks class t))
    ∙ ap (λ (ms : List ℕ). map pair made ++ map (λ i. (i, w)) ms) (sym here) ∙ left

-- a net more has its wave, and the others of the class are left
pub member_applied : (ks : List ℕ) (class t : ℕ) (w : Wave Value) (ws more : List (Wave Value)) (at next : Option ℕ) (all : List (Wave Value)) → at ≡ Some t →
    class_of ks t ≡ class → next ≡ last_below ks (class_of ks t) t → more ≡ set ws t w →
    changed ws (map (λ i. (i, w)) (members_below ks class (above at))) ≡ all → changed more (map (λ i. (i, w)) (members_below ks class (above next))) ≡ all
member_applied ks class t w ws more at next all is of goes put left =
    let rest : members_below ks class (above next) ≡ members_below ks class t =
    ap (λ (n : Option ℕ). members_below ks class (above n)) (goes ∙ ap (λ (k : ℕ). last_below ks k t) of) ∙ sym (members_above ks class t) in
    let here : members_below ks class (above at) ≡ t ∷ members_below ks class t = ap (λ (n : Option ℕ). members_below ks class (above n)) is ∙ one_more ks class t of in
    (λ k. changed (put k) (map (λ i. (i, w)) (rest k))) ∙ ap (λ (ms : List ℕ). changed ws (map (λ i. (i, w)) ms)) (sym here) ∙ left

-- all have it
pub all_applied : (ks : List ℕ) (class : ℕ) (w : Wave Value) (ws : List (Wave Value)) (at : Option ℕ) (all : List (Wave Value)) → at ≡ None →
    changed ws (map (λ i. (i, w)) (members_below ks class (above at))) ≡ all → ws ≡ all
unfolding members_below
all_applied ks class w ws at all is left = ap (λ (o : Option ℕ). changed ws (map (λ i. (i, w)) (members_below ks class (above o)))) (sym is) ∙ left

-- the one before is of the class too
pub goes_down : (ks : List ℕ) (class t s n : ℕ) → (class_of ks t ≡ class) × (t < n) → last_below ks (class_of ks t) t ≡ Some s → (class_of ks s ≡ class) × (s < n)
goes_down ks class t s n of is =
    let found = last_some ks (class_of ks t) t s is in
    (found.0 ∙ of.0, let below : t < n = of.1 in let less : s < t = found.1 in omega (arith, below, less))

pub falls : (ks : List ℕ) (t : ℕ) (at next : Option ℕ) → at ≡ Some t → next ≡ last_below ks (class_of ks t) t → above next < above at
falls ks t at next is goes = subst (λ (o : Option ℕ). above next < above o) (sym is) (by next goes)
  where
    by : (found : Option ℕ) → found ≡ last_below ks (class_of ks t) t → above found < suc t
    by None goes = omega arith
    by (Some s) goes = let less : s < t = (last_some ks (class_of ks t) t s (sym goes)).1 in omega (arith, less)

-- none is left below none
pub none_left : {A : Type 0} (pair : A → Change) (ks : List ℕ) (class : ℕ) (w : Wave Value) (made : List A) (at : Option ℕ) (all : List Change) →
    map pair made ++ map (λ i. (i, w)) (members_below ks class (above at)) ≡ all →
    at ≡ None → map pair made ≡ all
unfolding members_below
none_left pair ks class w made at all left is =
    sym (append-nil (map pair made)) ∙ ap (λ (o : Option ℕ). map pair made ++ map (λ i. (i, w)) (members_below ks class (above o))) (sym is) ∙ left

-- ---- the last nets as they are found, one net after another

pub none_below : (ks : List ℕ) (class : ℕ) → last_below ks class 0 ≡ None
unfolding last_below
none_below ks class = refl

pub class_read : (ks : List ℕ) (i x : ℕ) → i < length ks → x ≡ get_or ks i x → x ≡ class_of ks i
class_read ks i x below is = is ∙ get_or_default_zero ks i x below

pub last_more : (ks : List ℕ) (old new : ℕ → Option ℕ) (key m : ℕ) → ((q : ℕ) → new q ≡ cond (key == q) (Some m) (old q)) → key ≡ class_of ks m → ((q : ℕ) → old q ≡ last_below ks q m) →
    (q : ℕ) → new q ≡ last_below ks q (m + 1)
unfolding last_below
last_more ks old new key m updates is before q =
    updates q ∙ (λ k. cond (is k == q) (Some m) (before q k)) ∙ ap (last_below ks q) (let e : suc m ≡ m + 1 = omega arith in e)

pub before_more : (ks : List ℕ) (m : ℕ) (old new : List (Option ℕ)) (found : Option ℕ) → length old ≡ m → new ≡ old ++ found ∷ [] → found ≡ last_below ks (class_of ks m) m →
    ((i : ℕ) → i < m → get_or old i None ≡ last_below ks (class_of ks i) i) → (i : ℕ) → i < m + 1 → get_or new i None ≡ last_below ks (class_of ks i) i
before_more ks m old new found long pushed is before =
    below_more (λ i. get_or new i None ≡ last_below ks (class_of ks i) i) m
    (λ i below. ap (λ (xs : List (Option ℕ)). get_or xs i None) pushed ∙ get_or-append old (found ∷ []) None i (omega (arith, below, long)) ∙ before i below)
    (ap (λ (xs : List (Option ℕ)). get_or xs m None) pushed ∙ pushed_last ∙ is)
  where
    pushed_last : get_or (old ++ found ∷ []) m None ≡ found
    pushed_last = ap (λ (k : ℕ). get_or (old ++ found ∷ []) k None) (sym long) ∙ get_or-append_seam old found [] None

-- ---- which nets they are

abbrev IsMember : List ℕ → ℕ → ℕ → ℕ → Type 0
IsMember ks class m i = (class_of ks i ≡ class) × (i < m)

members_are : (ks : List ℕ) (class m : ℕ) → All (IsMember ks class m) (members_below ks class m)
unfolding members_below
members_are ks class zero = All-nil (IsMember ks class zero)
members_are ks class (suc m) = by (class_of ks m == class) refl (λ k d below. let found = members_are ks class m k d below in (found.0, let less = found.1 in omega (arith, less)))
  where
    by : (here : Bool) → (class_of ks m == class) ≡ here → All (IsMember ks class (suc m)) (members_below ks class m) →
        All (IsMember ks class (suc m)) (cond here (m ∷ members_below ks class m) (members_below ks class m))
    by true e rest = All-cons (IsMember ks class (suc m)) m (members_below ks class m) (eqb-true (class_of ks m) class e, omega arith) rest
    by false e rest = rest

pub among_members : (ks : List ℕ) (class m i : ℕ) → i < m → class_of ks i ≡ class → among (members_below ks class m) i ≡ true
unfolding members_below
among_members ks class zero i below is = absurd (omega arith)
among_members ks class (suc m) i below is = by (class_of ks m == class) refl (λ less. among_members ks class m i less is)
  where
    at : (same : Bool) → (m == i) ≡ same → (i < m → among (members_below ks class m) i ≡ true) → (same || among (members_below ks class m) i) ≡ true
    at true s rest = refl
    at false s rest = let apart : m ≡ i → ⊥ = eqb-false m i s in rest (omega (arith, apart, below))

    by : (here : Bool) → (class_of ks m == class) ≡ here → (i < m → among (members_below ks class m) i ≡ true) →
        among (cond here (m ∷ members_below ks class m) (members_below ks class m)) i ≡ true
    by true e rest = at (m == i) refl rest
    by false e rest = let apart : m ≡ i → ⊥ = λ same. eqb-false (class_of ks m) class e (ap (class_of ks) same ∙ is) in rest (omega (arith, apart, below))

-- the net is of the class, if it is a net
member_tests : (ks : List ℕ) (class i : ℕ) → i < length ks → among (members_below ks class (length ks)) i ≡ (class == class_of ks i)
member_tests ks class i below = both_ways (among (members_below ks class (length ks)) i) (class == class_of ks i) to from
  where
    to : among (members_below ks class (length ks)) i ≡ true → (class == class_of ks i) ≡ true
    to any =
        let at = Any-from_list_any (λ net. net == i) (members_below ks class (length ks)) any in
        let found = members_are ks class (length ks) at.0 at.1 at.2 in
        eq-eqb class (class_of ks i) (sym found.0 ∙ ap (class_of ks) (at.3 ∙ eqb-true at.1 i at.4))

    from : (class == class_of ks i) ≡ true → among (members_below ks class (length ks)) i ≡ true
    from is = among_members ks class (length ks) i below (sym (eqb-true class (class_of ks i) is))

-- ---- changes for all nets of their classes

abbrev pub nets_in : List Change → List ℕ
nets_in changes = map (λ (ch : Change). ch.0) changes

same_nets : (w : Wave Value) (is : List ℕ) → nets_in (map (λ i. (i, w)) is) ≡ is
same_nets w [] = refl
same_nets w (i ∷ is) = ap (λ (rest : List ℕ). i ∷ rest) (same_nets w is)

-- Their nets are those whose class is that of one of the changes.
pub nets_for_classes : (ks : List ℕ) (changes : List Change) (i : ℕ) → i < length ks → among (nets_in (for_classes ks changes)) i ≡ is_with ks (nets_in changes) i
nets_for_classes ks [] i below = refl
nets_for_classes ks (ch ∷ changes) i below =
    ap (λ (nets : List ℕ). among nets i) (map-append (λ (ch : Change). ch.0) (for_class ks ch) (for_classes ks changes))
    ∙ list_any-append (λ net. net == i) (nets_in (for_class ks ch)) (nets_in (for_classes ks changes))
    ∙ (λ k. (ap (λ (nets : List ℕ). among nets i) (same_nets ch.1 (members_below ks (class_of ks ch.0) (length ks))) ∙ member_tests ks (class_of ks ch.0) i below) k
    || nets_for_classes ks changes i below k)

pub exist_for_classes : (ks : List ℕ) (changes : List Change) → All (λ (ch : Change). ch.0 < length ks) (for_classes ks changes)
exist_for_classes ks [] = All-nil (λ (ch : Change). ch.0 < length ks)
exist_for_classes ks (ch ∷ changes) =
    All-append (λ (one : Change). one.0 < length ks) (for_class ks ch) (for_classes ks changes)
    (All-map (λ (one : Change). one.0 < length ks) (λ i. (i, ch.1)) (members_below ks (class_of ks ch.0) (length ks)) (λ k d below. (members_are ks (class_of ks ch.0) (length ks) k d below).1))
    (exist_for_classes ks changes)

-- the changes for the classes of one more
pub class_more : {A : Type 0} (pair : A → Change) (ks : List ℕ) (xs : List A) (i : ℕ) (x : A) (made more : List Change) →
    i < length xs → x ≡ get_or xs i x → made ≡ for_classes ks (map pair (take i xs)) →
    more ≡ made ++ for_class ks (pair x) → more ≡ for_classes ks (map pair (take (i + 1) xs))
class_more pair ks xs i x made more below is before grows =
    let taken : map pair (take (i + 1) xs) ≡ map pair (take i xs) ++ pair x ∷ [] =
    ap (map pair) (take_more xs i x below) ∙ map-append pair (take i xs) (get_or xs i x ∷ []) ∙ (λ k. map pair (take i xs) ++ pair (sym is k) ∷ []) in
    grows ∙ (λ k. before k ++ sym (append-nil (for_class ks (pair x))) k) ∙ sym (flat_map-append (for_class ks) (map pair (take i xs)) (pair x ∷ [])) ∙ ap (for_classes ks) (sym taken)

-- the changes for the classes of one more are applied
pub classes_applied : {A : Type 0} (pair : A → Change) (ks : List ℕ) (xs : List A) (i : ℕ) (d : A) (ws old new : List (Wave Value)) → i < length xs →
    old ≡ changed ws (for_classes ks (map pair (take i xs))) → new ≡ changed old (for_class ks (pair (get_or xs i d))) →
    new ≡ changed ws (for_classes ks (map pair (take (i + 1) xs)))
classes_applied pair ks xs i d ws old new below before put =
    let x = get_or xs i d in
    put ∙ ap (λ (waves : List (Wave Value)). changed waves (for_class ks (pair x))) before
    ∙ sym (fold-append (λ after (ch : Change). set after ch.0 ch.1) ws (for_classes ks (map pair (take i xs))) (for_class ks (pair x)))
    ∙ ap (changed ws) (class_more pair ks xs i x (for_classes ks (map pair (take i xs))) (for_classes ks (map pair (take i xs)) ++ for_class ks (pair x)) below
    (get_or_default xs i d x below) refl refl)

-- the nets of one class have one wave
abbrev pub AreOne : List ℕ → Waves → Type 0
AreOne ks ws = (i j : ℕ) → i < length ks → j < length ks → class_of ks i ≡ class_of ks j → ws i ≡ ws j

abbrev pub IsTo : Waves → Change → Type 0
IsTo ws ch = ch.1 ≡ ws ch.0

-- Changes to waves that are one in each class are so for all nets of their classes.
pub waves_for_classes : (ks : List ℕ) (changes : List Change) (ws : Waves) → AreOne ks ws →
    All (λ (ch : Change). ch.0 < length ks) changes → All (IsTo ws) changes → All (IsTo ws) (for_classes ks changes)
waves_for_classes ks [] ws one exist to = All-nil (IsTo ws)
waves_for_classes ks (ch ∷ changes) ws one exist to =
    All-append (IsTo ws) (for_class ks ch) (for_classes ks changes)
    (All-map (IsTo ws) (λ i. (i, ch.1)) (members_below ks (class_of ks ch.0) (length ks))
    (λ k d below. let found = members_are ks (class_of ks ch.0) (length ks) k d below in
    All-head (IsTo ws) ch changes to ∙ one ch.0 _ (All-head (λ (ch : Change). ch.0 < length ks) ch changes exist) found.1 (sym found.0)))
    (waves_for_classes ks changes ws one (All-tail (λ (ch : Change). ch.0 < length ks) ch changes exist) (All-tail (IsTo ws) ch changes to))

-- ---- whether a net is the first of its class

some_below : (ks : List ℕ) (class m : ℕ) → list_any (λ j. class_of ks j == class) (range_with_len 0 m) ≡ is_some (last_below ks class m)
unfolding last_below
some_below ks class zero = refl
some_below ks class (suc m) =
    ap (list_any (λ j. class_of ks j == class)) range ∙ list_any-append (λ j. class_of ks j == class) (range_with_len 0 m) (m ∷ [])
    ∙ (λ k. some_below ks class m k || ((class_of ks m == class) || false)) ∙ by (class_of ks m == class) (last_below ks class m)
  where
    range : range_with_len 0 (suc m) ≡ range_with_len 0 m ++ m ∷ []
    range = ap (range_with_len 0) (let e : suc m ≡ m + 1 = omega arith in e) ∙ range_more 0 m m (omega arith)

    by : (here : Bool) (found : Option ℕ) → (is_some found || (here || false)) ≡ is_some (cond here (Some m) found)
    by true None = refl
    by true (Some t) = refl
    by false None = refl
    by false (Some t) = refl

pub first_is : (ks : List ℕ) (i : ℕ) → is_first ks i ≡ not (is_some (last_below ks (class_of ks i) i))
first_is ks i = ap not (some_below ks (class_of ks i) i)

pub leads_found : (ks now : List ℕ) (before items : List (Option ℕ)) (i : ℕ) (found : Option ℕ) (none : Bool) →
    length items ≡ length ks → ((j : ℕ) → j < length ks → get_or items j None ≡ last_below ks (class_of ks j) j) →
    ks ≡ now → before ≡ items → true ≡ nat_lt i (length before) →
    found ≡ get_or before i found → is_some found ≡ not none → none ≡ leads_in (Some now) i
leads_found ks now before items i found none each are view same within is tells =
    let below : i < length items = subst (λ (xs : List (Option ℕ)). i < length xs) same (ltb-true i (length before) (sym within)) in
    let there : i < length ks = omega (arith, each, below) in
    let one : found ≡ last_below ks (class_of ks i) i = is ∙ ap (λ (xs : List (Option ℕ)). get_or xs i found) same ∙ get_or_default items i found None below ∙ are i there in
    twice none ∙ ap not (sym tells ∙ ap is_some one) ∙ sym (first_is ks i) ∙ ap (λ (b : Bool). b && is_first ks i) (sym (lt-ltb i (length ks) there))
    ∙ ap (λ (xs : List ℕ). leads_in (Some xs) i) view
  where
    twice : (b : Bool) → b ≡ not (not b)
    twice true = refl
    twice false = refl

-- ---- the first net of each class, as nets are gone over

-- a net of the class is found below
found_below : (ks : List ℕ) (class m j : ℕ) → j < m → class_of ks j ≡ class → is_some (last_below ks class m) ≡ true
unfolding last_below
found_below ks class zero j below is = absurd (omega arith)
found_below ks class (suc m) j below is = by (class_of ks m == class) refl (λ less. found_below ks class m j less is)
  where
    by : (here : Bool) → (class_of ks m == class) ≡ here → (j < m → is_some (last_below ks class m) ≡ true) → is_some (cond here (Some m) (last_below ks class m)) ≡ true
    by true e rest = refl
    by false e rest = let apart : m ≡ j → ⊥ = λ same. eqb-false (class_of ks m) class e (ap (class_of ks) same ∙ is) in rest (omega (arith, apart, below))

-- before a first net there is none of its class
pub none_before : (ks : List ℕ) (i j : ℕ) → is_first ks i ≡ true → j < i → class_of ks j ≡ class_of ks i → ⊥
none_before ks i j first below same =
    let some : is_some (last_below ks (class_of ks i) i) ≡ true = found_below ks (class_of ks i) i j below same in
    let f : true ≡ false = sym first ∙ first_is ks i ∙ ap not some in absurd (cc)

pub one_first : (ks : List ℕ) (i j : ℕ) → is_first ks i ≡ true → is_first ks j ≡ true → class_of ks i ≡ class_of ks j → i ≡ j
one_first ks i j first second same =
    let not_less : i < j → ⊥ = λ below. none_before ks j i second below same in
    let not_more : j < i → ⊥ = λ below. none_before ks i j first below (sym same) in
    omega (arith, not_less, not_more)

-- the first net of the class of the next one
pub record IsFirstOf (ks : List ℕ) (m first : ℕ) : Type 0 where
  pub is : is_first ks first ≡ true
  pub alike : class_of ks first ≡ class_of ks m
  pub below : first ≤ m

pub first_none : (ks : List ℕ) (m : ℕ) → None ≡ last_below ks (class_of ks m) m → IsFirstOf ks m m
first_none ks m is = record { is = first_is ks m ∙ ap (λ (o : Option ℕ). not (is_some o)) (sym is); alike = refl; below = omega arith }

pub first_some : (ks firsts : List ℕ) (m one first : ℕ) → AreFirsts ks firsts m → Some one ≡ last_below ks (class_of ks m) m → first ≡ get_or firsts one first → IsFirstOf ks m first
first_some ks firsts m one first are is read =
    let found = last_some ks (class_of ks m) m one (sym is) in
    let there : one < length firsts = let each = are.each_net in let less = found.1 in omega (arith, each, less) in
    let at : first ≡ get_or firsts one 0 = read ∙ get_or_default firsts one first 0 there in
    let low = are.below one found.1 in
    record {
      is = ap (is_first ks) at ∙ are.is one found.1;
      alike = ap (class_of ks) at ∙ are.alike one found.1 ∙ found.0;
      below = let less = found.1 in omega (arith, at, low, less);
    }

pub firsts_more : (ks old new : List ℕ) (m first : ℕ) → AreFirsts ks old m → new ≡ old ++ first ∷ [] → IsFirstOf ks m first → AreFirsts ks new (m + 1)
firsts_more ks old new m first are pushed one = record {
  each_net = ap length pushed ∙ length-append old (first ∷ []) ∙ ap (λ (n : ℕ). n + 1) are.each_net;
  is = each (λ i x. is_first ks x ≡ true) are.is one.is;
  alike = each (λ i x. class_of ks x ≡ class_of ks i) are.alike one.alike;
  below = each (λ i x. x ≤ i) are.below one.below;
}
  where
    each : (P : ℕ → ℕ → Type 0) → ((i : ℕ) → i < m → P i (get_or old i 0)) → P m first → (i : ℕ) → i < m + 1 → P i (get_or new i 0)
    each P before here = below_more (λ i. P i (get_or new i 0)) m
        (λ i less. subst (P i) (sym (ap (λ (xs : List ℕ). get_or xs i 0) pushed ∙ get_or-append old (first ∷ []) 0 i (let long = are.each_net in omega (arith, less, long)))) (before i less))
        (subst (P m) (sym (ap (λ (xs : List ℕ). get_or xs m 0) pushed ∙ ap (λ (k : ℕ). get_or (old ++ first ∷ []) k 0) (sym are.each_net) ∙ get_or-append_seam old first [] 0)) here)

last_own : (ks : List ℕ) (class m : ℕ) → class_of ks m ≡ class → last_below ks class (suc m) ≡ Some m
unfolding last_below
last_own ks class m is = ap (λ (b : Bool). cond b (Some m) (last_below ks class m)) (eq-eqb (class_of ks m) class is)

last_other : (ks : List ℕ) (class m : ℕ) → (class_of ks m ≡ class → ⊥) → last_below ks class (suc m) ≡ last_below ks class m
unfolding last_below
last_other ks class m apart = by (class_of ks m == class) refl
  where
    by : (here : Bool) → (class_of ks m == class) ≡ here → cond here (Some m) (last_below ks class m) ≡ last_below ks class m
    by true e = absurd (apart (eqb-true (class_of ks m) class e))
    by false e = refl

pub lasts_more : (ks old pushed new : List ℕ) (m first : ℕ) → AreLasts ks old m → pushed ≡ old ++ m ∷ [] → new ≡ set pushed first m → IsFirstOf ks m first → AreLasts ks new (m + 1)
lasts_more ks old pushed new m first are grows put one =
    let long : length pushed ≡ m + 1 = ap length grows ∙ length-append old (m ∷ []) ∙ ap (λ (n : ℕ). n + 1) are.each_net in
    let up : suc m ≡ m + 1 = omega arith in
    let there : first < length pushed = let low = one.below in omega (arith, low, long) in
    record {
      each_net = ap length put ∙ length-set pushed first m ∙ long;
      is = λ i below leads. ap (λ (xs : List ℕ). Some (get_or xs i 0)) put ∙ by i below leads (first == i) refl there ∙ ap (last_below ks (class_of ks i)) up;
    }
  where
    by : (i : ℕ) → i < m + 1 → is_first ks i ≡ true → (same : Bool) → (first == i) ≡ same → first < length pushed →
        Some (get_or (set pushed first m) i 0) ≡ last_below ks (class_of ks i) (suc m)
    by i below leads true e there =
        let is : first ≡ i = eqb-true first i e in
        ap Some (ap (λ (k : ℕ). get_or (set pushed first m) k 0) (sym is) ∙ get_or-set_same pushed first m 0 there)
        ∙ sym (last_own ks (class_of ks i) m (sym one.alike ∙ ap (class_of ks) is))
    by i below leads false e there =
        let apart : first ≡ i → ⊥ = eqb-false first i e in
        let other : class_of ks m ≡ class_of ks i → ⊥ = λ same. apart (one_first ks first i one.is leads (one.alike ∙ same)) in
        let less : i < m = (let no : m ≡ i → ⊥ = λ s. other (ap (class_of ks) s) in omega (arith, below, no)) in
        ap Some (get_or-set_other pushed first i m 0 (λ e. apart (sym e)) ∙ ap (λ (xs : List ℕ). get_or xs i 0) grows
        ∙ get_or-append old (m ∷ []) 0 i (let each = are.each_net in omega (arith, less, each)))
        ∙ are.is i less leads ∙ sym (last_other ks (class_of ks i) m other)
