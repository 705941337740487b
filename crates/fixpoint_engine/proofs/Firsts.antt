-- The changes of first nets, and those of all nets for which they stand.
use Rattle.std.proofs.Common.{◌≡◌, ℕ, suc, ◌+◌, ◌<◌, Bool, true, ◌&&◌, ◌||◌, not, All, List, [], ◌∷◌, length, map, get_or, refl, sym, ap, subst, ◌∙◌, arith, Option, Some, None}
use Rattle.std.proofs.lemmas.Bool.{and_parts}
use Rattle.std.proofs.lemmas.List.{length-map, length-append}
use Rattle.std.proofs.lemmas.List.Elements.{All-filter, All-map, All-same, All-head, All-tail}
use Rattle.step_values.specs.declared.value.Value.{Value}
use Rattle.skew_algebra.specs.Wave.{Wave}
use Rattle.vector_names.specs.declared.bits.Target.{Target}
use Rattle.vector_names.specs.declared.bits.Target.TheVariants.{Net as OnNet, Constant}
use Rattle.element_kinds.specs.declared.kind.Kind.{Kind}
use Rattle.element_kinds.specs.Kinds.{listens}
use Rattle.flat_circuit.specs.declared.instance.Pin.{Pin}
use Rattle.flat_circuit.specs.declared.instance.Instance.{Instance}
use Rattle.flat_circuit.specs.Instances.{PinExists, TargetExists}
use Rattle.flat_circuit.specs.Circuit.{Circuit, IsCircuit, driver}
use Rattle.flat_circuit.specs.Alike.{class_of}
use Rattle.fixpoint_engine.specs.Same.{same_wave}
use Rattle.fixpoint_engine.specs.Waves.{Waves}
use Rattle.fixpoint_engine.specs.Rounds.{evaluated, round}
use Rattle.fixpoint_engine.specs.Work.{is_due, is_on_any, hears_from, hears_in}
use Rattle.fixpoint_engine.specs.Worklist.{Queue, IsQueue, Change, among, changes_of}
use Rattle.fixpoint_engine.specs.Classes.{OneStandsForAll, is_first}
use Rattle.fixpoint_engine.specs.Members.{for_all, for_class, for_classes, is_with_any, leads_in, members_below, numbers_in}
use Rattle.fixpoint_engine.proofs.Alone.{leads_first}
use Rattle.fixpoint_engine.proofs.Changing.{all_read}
use Rattle.fixpoint_engine.proofs.Drivers.{driver_fits}
use Rattle.fixpoint_engine.proofs.Kept.{Kept, waiting_exist}
use Rattle.fixpoint_engine.proofs.Members.{nets_in, nets_for_classes, among_members}
use Rattle.fixpoint_engine.proofs.Turns.{nets_of}
use Rattle.std.proofs.lemmas.List.Elements.{Contains-get_or}

-- ---- the nets that change

changes_all : (P : ℕ → Type 0) (c : Circuit) (ws : Waves) (nets : List ℕ) → All P nets → All (λ (ch : Change). P ch.0) (changes_of c ws nets)
changes_all P c ws nets all =
    All-filter (λ (ch : Change). not (same_wave ch.1 (ws ch.0))) (λ (ch : Change). P ch.0)
    (map (λ i. (i, evaluated c ws i)) nets) (All-map (λ (ch : Change). P ch.0) (λ i. (i, evaluated c ws i)) nets all)

-- what holds of the nets that wait holds of those that change, as code has them
pub made_all : {A : Type 0} (pair : A → Change) (P : ℕ → Type 0) (c : Circuit) (ws : Waves) (nets waiting : List ℕ) (xs ys : List A) →
    All P waiting → nets ≡ waiting → map pair xs ≡ changes_of c ws nets → ys ≡ xs → All (λ x. P (pair x).0) ys
made_all pair P c ws nets waiting xs ys all same made is =
    All-same (λ x. P (pair x).0) ys xs is
    (all_read pair (λ (ch : Change). P ch.0) xs
    (subst (λ (chs : List Change). All (λ (ch : Change). P ch.0) chs) (sym made) (changes_all P c ws nets (All-same P nets waiting same all))))

pub firsts_below : (c : Circuit) (ws : Waves) (nets waiting : List ℕ) (changes : List Change) → All (λ i. i < length c.nets) waiting → nets ≡ waiting → changes ≡ changes_of c ws nets →
    All (λ (ch : Change). ch.0 < length c.nets) changes
firsts_below c ws nets waiting changes all same made =
    subst (λ (chs : List Change). All (λ (ch : Change). ch.0 < length c.nets) chs) (sym made)
    (changes_all (λ i. i < length c.nets) c ws nets (All-same (λ i. i < length c.nets) nets waiting same all))

-- those that wait stand for their classes
pub waiting_lead : (c : Circuit) (active : ℕ → Bool) (classes : Option (List ℕ)) (start : Waves)
    (are : OneStandsForAll c active (numbers_in (length c.nets) classes) start) (waves : List (Wave Value)) (q : Queue) (r evals : ℕ) →
    Kept c active (numbers_in (length c.nets) classes) start waves q r evals → IsQueue q → All (λ net. leads_in classes net ≡ true) q.nets
waiting_lead c active classes start are waves q r evals kept queue k d below =
    let there = waiting_exist c active (numbers_in (length c.nets) classes) start are waves q r evals kept queue k d below in
    leads_first (length c.nets) classes (get_or q.nets k d) are.each_net there
    ∙ (and_parts (is_first (numbers_in (length c.nets) classes) (get_or q.nets k d)) (is_due c active (round c active start) (suc r) (get_or q.nets k d))
    (sym (kept.due (get_or q.nets k d)) ∙ (queue.are (get_or q.nets k d)).1 (Contains-get_or q.nets k d below))).0

-- ---- none or some

pub none_for_all : (classes : Option (List ℕ)) (changes : List Change) → length changes ≡ 0 → length (for_all classes changes) ≡ 0
none_for_all None changes none = none
none_for_all (Some ks) [] none = refl
none_for_all (Some ks) (ch ∷ changes) none = absurd (omega (arith, none))

some_among : (nets : List ℕ) (i : ℕ) → among nets i ≡ true → 0 < length nets
some_among [] i is = cc
some_among (net ∷ nets) i is = omega arith

pub some_for_all : (n : ℕ) (classes : Option (List ℕ)) (changes : List Change) → length (numbers_in n classes) ≡ n → All (λ (ch : Change). ch.0 < n) changes →
    0 < length changes → 0 < length (for_all classes changes)
some_for_all n None changes each exist some = some
some_for_all n (Some ks) [] each exist some = absurd (omega (arith, some))
some_for_all n (Some ks) (ch ∷ changes) each exist some =
    let there = All-head (λ (one : Change). one.0 < n) ch changes exist in
    let members = members_below ks (class_of ks ch.0) (length ks) in
    let own = some_among members ch.0 (among_members ks (class_of ks ch.0) (length ks) ch.0 (omega (arith, each, there)) refl) in
    let long = length-map {B = Change} members (λ i. (i, ch.1)) in
    let joined = length-append (for_class ks ch) (for_classes ks changes) in
    omega (arith, own, long, joined)

pub some_read : {A : Type 0} (pair : A → Change) (xs ys : List A) (changes : List Change) → ys ≡ xs → map pair xs ≡ changes → 0 < length changes → 0 < length ys
some_read pair xs ys changes same is some =
    let long : length ys ≡ length changes = ap length same ∙ sym (length-map xs pair) ∙ ap length is in omega (arith, long, some)

-- ---- what hears them

from_exist : (nets others : ℕ → Bool) (n : ℕ) (kind : Kind) (place : ℕ) (ps : List Pin) → All (PinExists n) ps → ((j : ℕ) → j < n → nets j ≡ others j) →
    hears_from nets kind place ps ≡ hears_from others kind place ps
from_exist nets others n kind place [] exist same = refl
from_exist nets others n kind place (p ∷ ps) exist same =
    (λ k. (listens kind place && on p.target (All-head (PinExists n) p ps exist) k) || from_exist nets others n kind (place + 1) ps (All-tail (PinExists n) p ps exist) same k)
  where
    on : (t : Target) → TargetExists n t → is_on_any nets t ≡ is_on_any others t
    on (OnNet i) below = same i below
    on (Constant one) there = refl

-- A driver hears those of the nets that exist.
hears_exist : (nets others : ℕ → Bool) (c : Circuit) (i : ℕ) → IsCircuit c → ((j : ℕ) → j < length c.nets → nets j ≡ others j) → hears_in nets (driver c i) ≡ hears_in others (driver c i)
hears_exist nets others c i known same = by (driver c i) refl
  where
    by : (d : Option Instance) → driver c i ≡ d → hears_in nets d ≡ hears_in others d
    by None is = refl
    by (Some j) is = from_exist nets others (length c.nets) j.kind 0 j.pins (driver_fits c i j known is).exists.reads same

pub heard_for_all : (c : Circuit) (classes : Option (List ℕ)) (changes : List Change) (i : ℕ) → IsCircuit c → length (numbers_in (length c.nets) classes) ≡ length c.nets →
    hears_in (is_with_any classes (nets_in changes)) (driver c i) ≡ hears_in (nets_of (for_all classes changes)) (driver c i)
heard_for_all c None changes i known each = refl
heard_for_all c (Some ks) changes i known each =
    hears_exist (is_with_any (Some ks) (nets_in changes)) (nets_of (for_classes ks changes)) c i known
    (λ j below. sym (nets_for_classes ks changes j (omega (arith, each, below))))
