-- Which nets are due, found through the instances that listen to what changed.
use Rattle.std.proofs.Common.{◌≡◌, ℕ, zero, suc, ◌+◌, ◌<◌, ◌==◌, Bool, true, false, ◌&&◌, ◌||◌, cond, inl, inr, List, [], ◌∷◌, ◌++◌, length, map, take, get_or, refl, sym, ap, ◌∙◌, arith, slice_get, Option, Some, None, is_some}
use Rattle.std.specs.Cmp.{both_ways}
use Rattle.std.specs.List.{list_any}
use Rattle.std.proofs.Math.Bool.{or-false}
use Rattle.std.proofs.lemmas.Bool.{and_parts, or_cases, or_left, or_right, eqb-true, eq-eqb}
use Rattle.std.proofs.lemmas.Bool.Decides.{nat_tests}
use Rattle.std.proofs.lemmas.List.{take_more, map-append}
use Rattle.std.proofs.lemmas.List.Folds.{list_any-append}
use Rattle.vector_names.specs.declared.bits.Target.{Target}
use Rattle.vector_names.specs.declared.bits.Target.TheVariants.{Net as OnNet, Constant}
use Rattle.element_kinds.specs.declared.kind.Kind.{Kind}
use Rattle.flat_circuit.specs.declared.instance.Pin.{Pin}
use Rattle.flat_circuit.specs.declared.instance.Instance.{Instance}
use Rattle.element_kinds.specs.Kinds.{listens}
use Rattle.flat_circuit.specs.Instances.{is_on, any_listens, reads, numbers_from, readers_of, out_of, out_at}
use Rattle.flat_circuit.specs.Circuit.{Circuit, IsCircuit, driver_at, instance_in, driver}
use Rattle.flat_circuit.specs.Alike.{class_of}
use Rattle.fixpoint_engine.specs.Members.{is_with}
use Rattle.fixpoint_engine.specs.Settled.{marked_in}
use Rattle.fixpoint_engine.specs.Work.{is_on_any, hears_from, hears_in}
use Rattle.fixpoint_engine.specs.Worklist.{Queue, Adds, among, drives_in}

-- ---- listening to one set or another

pub hears_same : (nets others : ℕ → Bool) (d : Option Instance) → ((j : ℕ) → nets j ≡ others j) → hears_in nets d ≡ hears_in others d
hears_same nets others d same = λ k. hears_in (λ j. same j k) d

on_either : (nets others : ℕ → Bool) (t : Target) → is_on_any (λ j. nets j || others j) t ≡ (is_on_any nets t || is_on_any others t)
on_either nets others (OnNet i) = refl
on_either nets others (Constant one) = refl

either_first : (heard a b r s : Bool) → ((heard && (a || b)) || (r || s)) ≡ (((heard && a) || r) || ((heard && b) || s))
either_first false a b r s = refl
either_first true true b r s = refl
either_first true false true true s = refl
either_first true false true false s = refl
either_first true false false r s = refl

from_either : (nets others : ℕ → Bool) (kind : Kind) (place : ℕ) (ps : List Pin) →
    hears_from (λ j. nets j || others j) kind place ps ≡ (hears_from nets kind place ps || hears_from others kind place ps)
from_either nets others kind place [] = refl
from_either nets others kind place (p ∷ ps) =
    (λ k. (listens kind place && on_either nets others p.target k) || from_either nets others kind (place + 1) ps k)
    ∙ either_first (listens kind place) (is_on_any nets p.target) (is_on_any others p.target) (hears_from nets kind (place + 1) ps) (hears_from others kind (place + 1) ps)

hears_either : (nets others : ℕ → Bool) (d : Option Instance) → hears_in (λ j. nets j || others j) d ≡ (hears_in nets d || hears_in others d)
hears_either nets others None = refl
hears_either nets others (Some j) = from_either nets others j.kind 0 j.pins

from_none : (kind : Kind) (place : ℕ) (ps : List Pin) → hears_from (λ j. false) kind place ps ≡ false
from_none kind place [] = refl
from_none kind place (p ∷ ps) = by (listens kind place) p.target (from_none kind (place + 1) ps)
  where
    by : (heard : Bool) (t : Target) → hears_from (λ j. false) kind (place + 1) ps ≡ false → ((heard && is_on_any (λ j. false) t) || hears_from (λ j. false) kind (place + 1) ps) ≡ false
    by false t rest = rest
    by true (OnNet i) rest = rest
    by true (Constant one) rest = rest

pub hears_none : (d : Option Instance) → hears_in (λ j. false) d ≡ false
hears_none None = refl
hears_none (Some j) = from_none j.kind 0 j.pins

pub hears_more : (nets : List ℕ) (net : ℕ) (d : Option Instance) → hears_in (among (nets ++ net ∷ [])) d ≡ (hears_in (among nets) d || hears_in (λ j. net == j) d)
hears_more nets net d =
    hears_same (among (nets ++ net ∷ [])) (λ j. among nets j || (net == j)) d
    (λ j. list_any-append (λ n. n == j) nets (net ∷ []) ∙ ap (λ b. among nets j || b) (or-false (net == j)))
    ∙ hears_either (among nets) (λ j. net == j) d

pub heard_more : (d : Option Instance) (active : Bool) (nets more : List ℕ) (net : ℕ) (before after : Bool) → more ≡ nets ++ net ∷ [] → before ≡ (active && hears_in (among nets) d) →
    after ≡ (before || (active && hears_in (λ j. net == j) d)) → after ≡ (active && hears_in (among more) d)
heard_more d active nets more net before after ends was is =
    is ∙ (λ k. was k || (active && hears_in (λ j. net == j) d)) ∙ spread active (hears_in (among nets) d) (hears_in (λ j. net == j) d)
    ∙ ap (λ b. active && b) (sym (ap (λ (ns : List ℕ). hears_in (among ns) d) ends ∙ hears_more nets net d))
  where
    spread : (a b c : Bool) → ((a && b) || (a && c)) ≡ (a && (b || c))
    spread true b c = refl
    spread false b c = refl

-- the same of the classes of the nets
with_more : (ks nets : List ℕ) (net : ℕ) (d : Option Instance) → hears_in (is_with ks (nets ++ net ∷ [])) d ≡ (hears_in (is_with ks nets) d || hears_in (λ j. class_of ks net == class_of ks j) d)
with_more ks nets net d =
    hears_same (is_with ks (nets ++ net ∷ [])) (λ j. is_with ks nets j || (class_of ks net == class_of ks j)) d
    (λ j. list_any-append (λ n. class_of ks n == class_of ks j) nets (net ∷ []) ∙ ap (λ b. is_with ks nets j || b) (or-false (class_of ks net == class_of ks j)))
    ∙ hears_either (is_with ks nets) (λ j. class_of ks net == class_of ks j) d

pub class_heard : (ks : List ℕ) (d : Option Instance) (active : Bool) (nets more : List ℕ) (net : ℕ) (before after : Bool) → more ≡ nets ++ net ∷ [] →
    before ≡ (active && hears_in (is_with ks nets) d) → after ≡ (before || (active && hears_in (λ j. class_of ks net == class_of ks j) d)) →
    after ≡ (active && hears_in (is_with ks more) d)
class_heard ks d active nets more net before after ends was is =
    is ∙ (λ k. was k || (active && hears_in (λ j. class_of ks net == class_of ks j) d))
    ∙ spread active (hears_in (is_with ks nets) d) (hears_in (λ j. class_of ks net == class_of ks j) d)
    ∙ ap (λ b. active && b) (sym (ap (λ (ns : List ℕ). hears_in (is_with ks ns) d) ends ∙ with_more ks nets net d))
  where
    spread : (a b c : Bool) → ((a && b) || (a && c)) ≡ (a && (b || c))
    spread true b c = refl
    spread false b c = refl

pub taken_more : {A : Type 0} (net : A → ℕ) (xs : List A) (i : ℕ) (x : A) → i < length xs → x ≡ get_or xs i x → map net (take (i + 1) xs) ≡ map net (take i xs) ++ net x ∷ []
taken_more net xs i x below is =
    ap (map net) (take_more xs i x below) ∙ map-append net (take i xs) (get_or xs i x ∷ []) ∙ (λ k. map net (take i xs) ++ net (sym is k) ∷ [])

-- ---- the instances that listen

listed : {X : Type 0} (test : X → Bool) (P : ℕ → Bool) (xs : List X) (from k : ℕ) (x : X) → slice_get xs k ≡ Some x → test x ≡ true → P (from + k) ≡ true →
    list_any P (numbers_from test from xs) ≡ true
listed test P [] from k x at passes is = cc
listed test P (y ∷ ys) from zero x at passes is = by (test y) (let same : y ≡ x = cc in ap test same ∙ passes)
  where
    by : (b : Bool) → b ≡ true → list_any P (cond b (from ∷ numbers_from test (from + 1) ys) (numbers_from test (from + 1) ys)) ≡ true
    by true e = or_left (P from) (list_any P (numbers_from test (from + 1) ys)) (let same : from + 0 ≡ from = omega arith in ap P (sym same) ∙ is)
    by false e = cc
listed test P (y ∷ ys) from (suc k) x at passes is = by (test y) (listed test P ys (from + 1) k x at passes (let same : from + 1 + k ≡ from + suc k = omega arith in ap P same ∙ is))
  where
    by : (b : Bool) → list_any P (numbers_from test (from + 1) ys) ≡ true → list_any P (cond b (from ∷ numbers_from test (from + 1) ys) (numbers_from test (from + 1) ys)) ≡ true
    by true later = or_right (P from) (list_any P (numbers_from test (from + 1) ys)) later
    by false later = later

-- a number that is listed and passes
pub record IsListed {X : Type 0} (test : X → Bool) (P : ℕ → Bool) (xs : List X) (from : ℕ) : Type 0 where
  pub k : ℕ
  pub x : X
  pub at : slice_get xs k ≡ Some x
  pub passes : test x ≡ true
  pub is : P (from + k) ≡ true

found : {X : Type 0} (test : X → Bool) (P : ℕ → Bool) (xs : List X) (from : ℕ) → list_any P (numbers_from test from xs) ≡ true → IsListed test P xs from
found test P [] from any = cc
found test P (y ∷ ys) from any = by (found test P ys (from + 1)) (test y) refl any
  where
    later : IsListed test P ys (from + 1) → IsListed test P (y ∷ ys) from
    later f = record { k = suc f.k; x = f.x; at = f.at; passes = f.passes; is = let same : from + suc f.k ≡ from + 1 + f.k = omega arith in ap P same ∙ f.is }

    here : test y ≡ true → P from ≡ true → IsListed test P (y ∷ ys) from
    here passes is = record { k = 0; x = y; at = refl; passes = passes; is = let same : from + 0 ≡ from = omega arith in ap P same ∙ is }

    by : (list_any P (numbers_from test (from + 1) ys) ≡ true → IsListed test P ys (from + 1)) →
        (b : Bool) → test y ≡ b → list_any P (cond b (from ∷ numbers_from test (from + 1) ys) (numbers_from test (from + 1) ys)) ≡ true →
        IsListed test P (y ∷ ys) from
    by rest false passes any = later (rest any)
    by rest true passes any = elim (or_cases (P from) (list_any P (numbers_from test (from + 1) ys)) any) [ inl is ↦ here passes is | inr more ↦ later (rest more) ]

-- ---- what they drive

pub same_order : (m n : ℕ) → (m == n) ≡ (n == m)
same_order m n = grind (arith, nat_tests)

on_one : (net : ℕ) (t : Target) → is_on_any (λ j. net == j) t ≡ is_on net t
on_one net (OnNet i) = same_order net i
on_one net (Constant one) = refl

hears_one : (net : ℕ) (kind : Kind) (place : ℕ) (ps : List Pin) → hears_from (λ j. net == j) kind place ps ≡ any_listens kind net place ps
hears_one net kind place [] = refl
hears_one net kind place (p ∷ ps) = λ k. (listens kind place && on_one net p.target k) || hears_one net kind (place + 1) ps k

drives_is : (out : Option Target) (i : ℕ) → drives_in out i ≡ true → out ≡ Some (OnNet i)
drives_is None i drives = cc
drives_is (Some (OnNet n)) i drives = ap (λ m. Some (OnNet m)) (eqb-true n i drives)
drives_is (Some (Constant one)) i drives = cc

is_drives : (out : Option Target) (i : ℕ) → out ≡ Some (OnNet i) → drives_in out i ≡ true
is_drives out i is = ap (λ (o : Option Target). drives_in o i) is ∙ eq-eqb i i refl

-- The driver of a net is listed, if it listens.
driver_listed : (c : Circuit) (net i k : ℕ) (found : Option Instance) → slice_get c.instances k ≡ found → hears_in (λ j. net == j) found ≡ true → out_of found ≡ Some (OnNet i) →
    list_any (λ k. drives_in (out_at c.instances k) i) (readers_of c.instances net) ≡ true
driver_listed c net i k None at heard out = cc
driver_listed c net i k (Some j) at heard out =
    let own : is_some j.out ≡ true = ap is_some out in
    let hears : any_listens j.kind net 0 j.pins ≡ true = sym (hears_one net j.kind 0 j.pins) ∙ heard in
    let same : 0 + k ≡ k = omega arith in
    listed (reads net) (λ k. drives_in (out_at c.instances k) i) c.instances 0 k j at (λ n. own n && hears n)
    (ap (λ k. drives_in (out_at c.instances k) i) same ∙ is_drives (out_at c.instances k) i (ap out_of at ∙ out))

-- Of the instances that listen to a net, the one that drives another is that one's driver.
pub heard_by_reader : (c : Circuit) (net i : ℕ) → IsCircuit c → list_any (λ k. drives_in (out_at c.instances k) i) (readers_of c.instances net) ≡ hears_in (λ j. net == j) (driver c i)
heard_by_reader c net i known = both_ways _ _ to (λ heard. from (driver_at c.nets i) refl heard)
  where
    to : list_any (λ k. drives_in (out_at c.instances k) i) (readers_of c.instances net) ≡ true → hears_in (λ j. net == j) (driver c i) ≡ true
    to any =
        let f = found (reads net) (λ k. drives_in (out_at c.instances k) i) c.instances 0 any in
        let k : 0 + f.k ≡ f.k = omega arith in
        let drives : drives_in (out_at c.instances f.k) i ≡ true = ap (λ k. drives_in (out_at c.instances k) i) (sym k) ∙ f.is in
        let by : driver_at c.nets i ≡ Some f.k = known.drivers.of i f.k (drives_is (out_at c.instances f.k) i drives) in
        let instance : driver c i ≡ Some f.x = ap (instance_in c) by ∙ f.at in
        ap (hears_in (λ j. net == j)) instance ∙ hears_one net f.x.kind 0 f.x.pins ∙ (and_parts (is_some f.x.out) (any_listens f.x.kind net 0 f.x.pins) f.passes).1

    from : (found : Option ℕ) → driver_at c.nets i ≡ found → hears_in (λ j. net == j) (instance_in c found) ≡ true →
        list_any (λ k. drives_in (out_at c.instances k) i) (readers_of c.instances net) ≡ true
    from None at heard = cc
    from (Some k) at heard = driver_listed c net i k (slice_get c.instances k) refl heard (known.drivers.is i k at)

-- ---- queues

pub adds_same : (set other : ℕ → Bool) (old new : Queue) → Adds set old new → ((i : ℕ) → set i ≡ other i) → Adds other old new
adds_same set other old new adds same = record { each_net = adds.each_net; marks = λ i. adds.marks i ∙ ap (λ b. marked_in old.marks i || b) (same i) }
