-- How the parts of a circuit come together.
use Rattle.std.proofs.Common.{◌≡◌, ℕ, zero, suc, ◌+◌, ◌<◌, ◌≤◌, Bool, true, false, cond, List, [], ◌∷◌, ◌++◌, length, map, get_or, take, drop, Option, refl, ap, sym, subst, ◌∙◌, arith, inl, inr}
use Rattle.std.specs.List.{All}
use Rattle.std.specs.Str.{bytes_eq}
use Rattle.std.proofs.lemmas.List.{length-map, length_push, map_push, take_all, take_more}
use Rattle.std.proofs.Math.ListN.{get_or-map}
use Rattle.std.proofs.lemmas.List.Elements.{All-nil, All-cons, All-head, All-tail}
use Rattle.scald_base.specs.Time.{Header, Bounds}
use Rattle.scald_base.specs.Fitting.{Fits}
use Rattle.scald_base.specs.declared.refusal.Stop.{Stop}
use Rattle.scald_base.specs.declared.refusal.Stop.TheVariants.{Refused, NoMemory}
use Rattle.flat_circuit.specs.declared.net.Net.{Net}
use Rattle.flat_circuit.specs.declared.instance.Instance.{Instance}
use Rattle.flat_circuit.specs.Name.{Name, name_at, nameless, IsNameOrder}
use Rattle.flat_circuit.specs.Instances.{IsTaken}
use Rattle.flat_circuit.specs.Loop.{HoldsOfNone}
use Rattle.flat_circuit.specs.Circuit.{IsCircuit, net_name, net_names, wire_at, driver_at}
use Rattle.flat_circuit.specs.Builder.{built, Nets, name_of_key, net_entries, Asserted, spec_of, bounds_at, IsBuilt, IsRefusal, IsRuleBroken, Stands}
use Rattle.flat_circuit.specs.Steps.{DrivenTo, AreNets, AreRuled, IsNet, specs_of, entry, StopsAtLoop, StopsAtRule, StopsAtTaken}
use Rattle.flat_circuit.proofs.Driven.{drivers_are, not_taken}
use Rattle.flat_circuit.proofs.Tables.{Entry}
use Rattle.flat_circuit.proofs.Loops.{none_looped_by}

-- ---- the nets, one after another

map_step : {B : Type 0} (f : Net → B) (nets : List Net) (n : Net) (xs : List B) (i : ℕ) (d : B) →
    i < length xs → map f nets ≡ take i xs → f n ≡ get_or xs i d → map f (nets ++ n ∷ []) ≡ take (i + 1) xs
map_step {B} f nets n xs i d l e g = map_push f nets n ∙ ap (λ (x : List B). x ++ f n ∷ []) e ∙ ap (λ (x : B). take i xs ++ x ∷ []) g ∙ sym (take_more xs i d l)

pub nets_step : (names : List Name) (ws : List Bounds) (given : List Asserted) (ds : List (Option ℕ)) (nets : List Net) (n : Net) (i : ℕ) (d : Option ℕ) →
    i < length names → length ws ≡ length names → length ds ≡ length names → IsNet names ws given (get_or ds i d) i n →
    AreNets (take i names) (take i ws) (take i (specs_of given names)) (take i ds) nets →
    AreNets (take (i + 1) names) (take (i + 1) ws) (take (i + 1) (specs_of given names)) (take (i + 1) ds) (nets ++ n ∷ [])
nets_step names ws given ds nets n i d l lw ld h a =
    let s : n.spec ≡ get_or (specs_of given names) i (spec_of given nameless.text) =
    h.spec_is ∙ ap (λ (x : Name). spec_of given x.text) h.name_is ∙ sym (get_or-map (λ (x : Name). spec_of given x.text) names i nameless) in
    record {
      names_are = map_step net_name nets n names i nameless l a.names_are h.name_is;
      wires_are = map_step (λ (x : Net). x.wire) nets n ws i (record { min = 0; max = 0 }) (omega arith) a.wires_are h.wire_is;
      specs_are = map_step (λ (x : Net). x.spec) nets n (specs_of given names) i (spec_of given nameless.text) (omega (arith, length-map names (λ (x : Name). spec_of given x.text))) a.specs_are s;
      drivers_are = map_step (λ (x : Net). x.driver) nets n ds i d (omega arith) a.drivers_are h.driver_is;
    }

-- what is left of the entries from the place of the next net on, and the first of it
pub entry_at : (es rest : List Entry) (i : ℕ) (e : Entry) → drop i es ≡ e ∷ rest →
    (i < length es) × (rest ≡ drop (suc i) es) × (name_at (net_entries es).names i ≡ name_of_key e.0) × (bounds_at (net_entries es).wires i ≡ e.1)
entry_at [] rest zero e h = absurd (cc)
entry_at [] rest (suc i) e h = absurd (cc)
entry_at (x ∷ xs) rest zero e h = (omega arith, cc, cc, cc)
entry_at (x ∷ xs) rest (suc i) e h = let p = entry_at xs rest i e h in let b = p.0 in (omega arith, p.1, p.2, p.3)

-- the nets of the first entries, and the entries that are left
pub record NetsTo (es : List Entry) (given : List Asserted) (ds : List (Option ℕ)) (nets : List Net) (left : List Entry) : Type 0 where
  pub are : AreNets (take (length nets) (net_entries es).names) (take (length nets) (net_entries es).wires)
      (take (length nets) (specs_of given (net_entries es).names)) (take (length nets) ds) nets
  pub left_are : left ≡ drop (length nets) es

pub net_next : (es rest left : List Entry) (given : List Asserted) (ds : List (Option ℕ)) (nets : List Net) (n : Net) (e : Entry) (d : Option ℕ) →
    length ds ≡ length (net_entries es).names → NetsTo es given ds nets left → left ≡ e ∷ rest → net_name n ≡ name_of_key e.0 → n.wire ≡ e.1 →
    n.spec ≡ spec_of given n.name → n.driver ≡ get_or ds (length nets) d → NetsTo es given ds (nets ++ n ∷ []) rest
net_next es rest left given ds nets n e d long to here name wire spec driver =
    let t = net_entries es in
    let p = entry_at es rest (length nets) e (sym to.left_are ∙ here) in
    let below = p.0 in
    let names_long = length-map es (λ (x : Entry). name_of_key x.0) in
    let wires_long = length-map es (λ (x : Entry). x.1) in
    let is : IsNet t.names t.wires given (get_or ds (length nets) d) (length nets) n =
    record { name_is = name ∙ sym p.2; wire_is = wire ∙ sym p.3; spec_is = spec; driver_is = driver } in
    let one_more = length_push nets n in
    let next : length (nets ++ n ∷ []) ≡ suc (length nets) = omega (arith, one_more) in
    record {
      are = rw one_more (nets_step t.names t.wires given ds nets n (length nets) d (omega arith) (omega arith) (omega arith) is to.are);
      left_are = rw next p.1;
    }

none_left : (i : ℕ) (es : List Entry) → [] ≡ drop i es → length es ≤ i
none_left i [] h = omega arith
none_left zero (e ∷ es) h = absurd (cc)
none_left (suc i) (e ∷ es) h = let below = none_left i es h in omega arith

pub nets_end : (es : List Entry) (t : Nets) (given : List Asserted) (ds : List (Option ℕ)) (nets : List Net) →
    net_entries es ≡ t → length ds ≡ length t.names → NetsTo es given ds nets [] → AreNets t.names t.wires (specs_of given t.names) ds nets
nets_end es t given ds nets same long to =
    let k = length nets in
    let ns = (net_entries es).names in
    let ws = (net_entries es).wires in
    let all = none_left k es to.left_are in
    let names_long = length-map es (λ (x : Entry). name_of_key x.0) in
    let wires_long = length-map es (λ (x : Entry). x.1) in
    let specs_long = length-map ns (λ (n : Name). spec_of given n.text) in
    let ds_long = long ∙ sym (ap (λ (x : Nets). length x.names) same) in
    subst (λ (x : Nets). AreNets x.names x.wires (specs_of given x.names) ds nets) same
    (rw (take_all k ns (omega arith), take_all k ws (omega arith), take_all k (specs_of given ns) (omega arith), take_all k ds (omega arith)) at to.are)

-- nets with the specs of the first names have each that of its own
pub specs_by_names : (given : List Asserted) (names : List Name) (i : ℕ) (nets : List Net) →
    net_names nets ≡ take i names → map (λ (n : Net). n.spec) nets ≡ take i (specs_of given names) → All (λ (n : Net). n.spec ≡ spec_of given n.name) nets
specs_by_names given names i [] e s = All-nil (λ (n : Net). n.spec ≡ spec_of given n.name)
specs_by_names given names zero (n ∷ ns) e s = absurd (cc)
specs_by_names given [] (suc i) (n ∷ ns) e s = absurd (cc)
specs_by_names given (x ∷ xs) (suc i) (n ∷ ns) e s =
    let name : net_name n ≡ x = cc in
    let more : net_names ns ≡ take i xs = cc in
    let spec : n.spec ≡ spec_of given x.text = cc in
    let rest : map (λ (m : Net). m.spec) ns ≡ take i (specs_of given xs) = cc in
    All-cons (λ (m : Net). m.spec ≡ spec_of given m.name) n ns (spec ∙ ap (λ (y : Name). spec_of given y.text) (sym name)) (specs_by_names given xs i ns more rest)

-- ---- what holds of the nets

all_unmap : {B : Type 0} (P : B → Type 0) (f : Net → B) (nets : List Net) → All P (map f nets) → All (λ (n : Net). P (f n)) nets
all_unmap P f [] a = All-nil (λ (n : Net). P (f n))
all_unmap P f (n ∷ ns) a = All-cons (λ (x : Net). P (f x)) n ns (All-head P (f n) (map f ns) a) (all_unmap P f ns (All-tail P (f n) (map f ns) a))

fits_spec : (h : Header) (given : List Asserted) (text : List ℕ) → All (λ (a : Asserted). Fits h a.spec) given → Fits h (spec_of given text)
fits_spec h [] text a = record { intervals = tt; edges = λ e. e }
fits_spec h (x ∷ xs) text a = step (bytes_eq text x.text) (fits_spec h xs text (All-tail (λ (y : Asserted). Fits h y.spec) x xs a)) where
  step : (b : Bool) → Fits h (spec_of xs text) → Fits h (cond b x.spec (spec_of xs text))
  step true f = All-head (λ (y : Asserted). Fits h y.spec) x xs a
  step false f = f

fits_all : (h : Header) (given : List Asserted) (names : List Name) → All (λ (a : Asserted). Fits h a.spec) given → All (Fits h) (specs_of given names)
fits_all h given [] a = All-nil (Fits h)
fits_all h given (n ∷ ns) a = All-cons (Fits h) (spec_of given n.text) (specs_of given ns) (fits_spec h given n.text a) (fits_all h given ns a)

driver_by_entry : (nets : List Net) (i : ℕ) → driver_at nets i ≡ entry (map (λ (n : Net). n.driver) nets) i
driver_by_entry [] i = refl
driver_by_entry (n ∷ ns) zero = refl
driver_by_entry (n ∷ ns) (suc i) = driver_by_entry ns i

pub wire_by_bounds : (nets : List Net) (i : ℕ) → wire_at nets i ≡ bounds_at (map (λ (n : Net). n.wire) nets) i
wire_by_bounds [] i = refl
wire_by_bounds (n ∷ ns) zero = refl
wire_by_bounds (n ∷ ns) (suc i) = wire_by_bounds ns i

pub nets_long : (nets : List Net) (names : List Name) → net_names nets ≡ names → length nets ≡ length names
nets_long nets names e = sym (length-map nets net_name) ∙ ap length e

-- ---- the end

-- if the drivers stand, no output is taken
pub none_taken : (js : List Instance) (n : ℕ) (ds : List (Option ℕ)) → DrivenTo js n (length js) ds → HoldsOfNone (IsTaken js) js
none_taken js n ds dr = λ k l x. not_taken js n (length js) ds dr k l x

pub circuit_is : (h : Header) (t : Nets) (given : List Asserted) (js : List Instance) (nets : List Net) (order : List ℕ) →
    IsBuilt (built h t given js) → AreRuled t.names t.wires (specs_of given t.names) js nets →
    IsNameOrder (net_names nets) order → IsCircuit (record { header = h; nets = nets; instances = js; order = order })
circuit_is h t given js nets order b r o =
    let ds = r.drivers in
    let dr = r.driven in
    let nl = r.none_looped in
    let an = r.are in
    let l = nets_long nets t.names an.names_are in
    let da = drivers_are js (length t.names) ds dr in
    let same : (i : ℕ) → driver_at nets i ≡ entry ds i = λ i. driver_by_entry nets i ∙ ap (λ (x : List (Option ℕ)). entry x i) an.drivers_are in
    let bounds : (i : ℕ) → bounds_at t.wires i ≡ wire_at nets i = λ i. sym (wire_by_bounds nets i ∙ ap (λ (x : List Bounds). bounds_at x i) an.wires_are) in
    record {
      few_nets = rw l b.few_nets;
      few = b.few;
      distinct = rw an.names_are b.distinct;
      asserted = all_unmap (Fits h) (λ (n : Net). n.spec) nets (rw an.specs_are (fits_all h given t.names b.fit));
      each = rw l b.each;
      drivers = record { is = λ i k e. da.is i k (sym (same i) ∙ e); of = λ i k e. same i ∙ da.of i k e; steady = da.steady };
      no_loop = none_looped_by (bounds_at t.wires) (wire_at nets) js bounds nl;
      by_name = o;
    }

pub stands_is : (h : Header) (t : Nets) (given : List Asserted) (js : List Instance) (nets : List Net) (order : List ℕ) →
    AreRuled t.names t.wires (specs_of given t.names) js nets →
    Stands (built h t given js) (record { header = h; nets = nets; instances = js; order = order })
stands_is h t given js nets order r = record {
  head = refl;
  names_are = r.are.names_are;
  wires_are = r.are.wires_are;
  specs_are = r.are.specs_are;
  instances_are = refl;
  none_taken = none_taken js (length t.names) r.drivers r.driven;
  none_looped = r.none_looped;
}

refusal_taken : (h : Header) (t : Nets) (given : List Asserted) (js : List Instance) (stop : Stop) → StopsAtTaken js stop → IsRefusal (built h t given js) stop
refusal_taken h t given js NoMemory s = tt
refusal_taken h t given js (Refused r) s = subst (IsRuleBroken (built h t given js) r.place) (sym s.0) s.1

refusal_looped : (h : Header) (t : Nets) (given : List Asserted) (js : List Instance) (stop : Stop) → HoldsOfNone (IsTaken js) js → StopsAtLoop t.wires js stop → IsRefusal (built h t given js) stop
refusal_looped h t given js NoMemory n s = tt
refusal_looped h t given js (Refused r) n s = subst (IsRuleBroken (built h t given js) r.place) (sym s.0) (n, s.1)

pub refusal_ruled : (h : Header) (t : Nets) (given : List Asserted) (js : List Instance) (stop : Stop) → StopsAtRule t.wires js stop → IsRefusal (built h t given js) stop
refusal_ruled h t given js stop s = elim s as (λ _. IsRefusal (built h t given js) stop) [
  | inl a ↦ refusal_taken h t given js stop a
  | inr b ↦ refusal_looped h t given js stop b.0 b.1
]
