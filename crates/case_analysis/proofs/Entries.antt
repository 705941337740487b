-- One entry of a case: the net of its name, and whether it may be set.
use Rattle.std.proofs.Common.{◌≡◌, ℕ, zero, suc, ◌+◌, ◌<◌, ◌≤◌, ◌&&◌, ◌||◌, Bool, true, false, not, nat_le, List, [], ◌∷◌, length, map, take, refl, sym, ap, subst, ◌∙◌, arith, slice_get, Option, Some, None}
use Rattle.std.specs.Prelude.{is_some, is_none}
use Rattle.std.specs.List.{All, list_any}
use Rattle.std.proofs.lemmas.List.{length-map}
use Rattle.std.proofs.lemmas.List.Elements.{All-head, All-tail, All-cons, All-nil}
use Rattle.scald_base.specs.declared.assertion.AssertSpec.{AssertSpec}
use Rattle.vector_names.specs.declared.bits.Target.{Target}
use Rattle.vector_names.specs.declared.bits.Target.TheVariants.{Net as OnNet, Constant}
use Rattle.flat_circuit.specs.declared.net.Net.{Net}
use Rattle.flat_circuit.specs.declared.instance.Instance.{Instance}
use Rattle.flat_circuit.specs.Name.{Name, IsNumber, name_at}
use Rattle.flat_circuit.specs.Builder.{same_name, has_name, spec_of, is_asserted}
use Rattle.flat_circuit.specs.Instances.{OutExists, InstanceFits, out_at}
use Rattle.flat_circuit.specs.Circuit.{Circuit, IsCircuit, net_name, net_names, driver_at, driver_in}
use Rattle.flat_circuit.proofs.Tables.{same_name_is, same_name_refl, not_there}
use Rattle.fixpoint_engine.specs.Settled.{marked_in}
use Rattle.drawing_tree.specs.declared.drawing.CaseEntry.{CaseEntry}
use Rattle.macro_expander.specs.Named.{State, NamedInstance}
use Rattle.macro_expander.specs.Numbered.{out_of, instance_of}
use Rattle.macro_expander.specs.Cases.{CaseBit, entry_name, is_on, is_driven, is_clock, is_set as is_named, may_set}
use Rattle.macro_expander.specs.Stands.{Stands}
use Rattle.case_analysis.specs.Listed.{AreNamed, IsJudged, may_set_at}

-- ---- bits

abbrev pub AreNarrow : List Net → Type 0
AreNarrow nets = All (λ (n : Net). n.bit < 65536) nets

narrow_next : (nets : List Net) (i : ℕ) (net : Net) → slice_get nets i ≡ Some net → net.bit < 65536 → AreNarrow (take i nets) → AreNarrow (take (suc i) nets)
narrow_next [] i net is below before = cc
narrow_next (n ∷ nets) zero net is below before =
    let same : n ≡ net = cc in
    All-cons (λ (x : Net). x.bit < 65536) n [] (subst (λ (x : Net). x.bit < 65536) (sym same) below) (All-nil (λ (x : Net). x.bit < 65536))
narrow_next (n ∷ nets) (suc i) net is below before =
    All-cons (λ (x : Net). x.bit < 65536) n (take (suc i) nets) (All-head (λ (x : Net). x.bit < 65536) n (take i nets) before)
    (narrow_next nets i net is below (All-tail (λ (x : Net). x.bit < 65536) n (take i nets) before))

pub narrow_more : (nets : List Net) (i : ℕ) (net : Net) → slice_get nets i ≡ Some net → net.bit < 65536 → AreNarrow (take i nets) → AreNarrow (take (i + 1) nets)
narrow_more nets i net is below before =
    let next : suc i ≡ i + 1 = omega arith in
    subst (λ (k : ℕ). AreNarrow (take k nets)) next (narrow_next nets i net is below before)

narrow_at : (nets : List Net) (i : ℕ) → AreNarrow nets → i < length nets → (name_at (net_names nets) i).bit < 65536
narrow_at [] i all below = absurd (omega arith)
narrow_at (n ∷ nets) zero all below = All-head (λ (x : Net). x.bit < 65536) n nets all
narrow_at (n ∷ nets) (suc i) all below = narrow_at nets i (All-tail (λ (x : Net). x.bit < 65536) n nets all) (omega arith)

-- a net that is there has a name that is narrow enough
pub wide_none : (nets : List Net) (name : Name) → AreNarrow nets → 65536 ≤ name.bit → (i : ℕ) → IsNumber (net_names nets) name i → ⊥
wide_none nets name all wide i is =
    let long = length-map nets net_name in
    let below = is.below in
    let narrow = narrow_at nets i all (omega (arith, long, below)) in
    let same : (name_at (net_names nets) i).bit ≡ name.bit = ap (λ (n : Name). n.bit) is.is in
    omega (arith, narrow, wide, same)

pub none_past : {X : Type 0} (xs : List X) (i : ℕ) → slice_get xs i ≡ None → length xs ≤ i
none_past [] i is = omega arith
none_past (x ∷ xs) zero is = cc
none_past (x ∷ xs) (suc i) is = let later = none_past xs i is in omega (arith, later)

-- ---- names

pub has_number : (names : List Name) (name : Name) (i : ℕ) → IsNumber names name i → has_name names name ≡ true
has_number names name i is = by (has_name names name) refl
  where
    by : (has : Bool) → has_name names name ≡ has → has ≡ true
    by true e = refl
    by false e = absurd (not_there names name i e is.below is.is)

pub no_number : (names : List Name) (name : Name) → ((i : ℕ) → IsNumber names name i → ⊥) → has_name names name ≡ false
no_number [] name none = refl
no_number (n ∷ names) name none = by (same_name name n) refl (no_number names name (λ i is. none (suc i) (record { below = let b = is.below in omega (arith, b); is = is.is })))
  where
    by : (same : Bool) → same_name name n ≡ same → has_name names name ≡ false → (same || has_name names name) ≡ false
    by true e later = absurd (none 0 (record { below = omega arith; is = same_name_is name n e }))
    by false e later = later

-- ---- drivers

any_seen : (names : List Name) (name : Name) (js : List Instance) →
    list_any (λ (j : NamedInstance). is_on name j.out) (map (instance_of names) js) ≡ list_any (λ (j : Instance). is_on name (out_of names j.out)) js
any_seen names name [] = refl
any_seen names name (j ∷ js) = ap (λ b. is_on name (out_of names j.out) || b) (any_seen names name js)

any_at : (names : List Name) (name : Name) (js : List Instance) (k i : ℕ) → out_at js k ≡ Some (OnNet i) →
    same_name name (name_at names i) ≡ true → list_any (λ (j : Instance). is_on name (out_of names j.out)) js ≡ true
any_at names name [] k i is same = cc
any_at names name (j ∷ js) zero i is same = rw (is, same) refl
any_at names name (j ∷ js) (suc k) i is same = by (is_on name (out_of names j.out)) (any_at names name js k i is same)
  where
    by : (here : Bool) → list_any (λ (x : Instance). is_on name (out_of names x.out)) js ≡ true → (here || list_any (λ (x : Instance). is_on name (out_of names x.out)) js) ≡ true
    by true later = refl
    by false later = later

-- no instance drives it
none_at : (names : List Name) (name : Name) (js : List Instance) → ((k i : ℕ) → out_at js k ≡ Some (OnNet i) →
    same_name name (name_at names i) ≡ false) → list_any (λ (j : Instance). is_on name (out_of names j.out)) js ≡ false
none_at names name [] none = refl
none_at names name (j ∷ js) none = rw (here j.out refl, none_at names name js (λ k i is. none (suc k) i is)) refl
  where
    here : (o : Option Target) → j.out ≡ o → is_on name (out_of names j.out) ≡ false
    here None e = rw e refl
    here (Some (Constant one)) e = rw e refl
    here (Some (OnNet i)) e = rw e (none 0 i e)

out_below : (n : ℕ) (h : Circuit) (js : List Instance) (k i : ℕ) → All (InstanceFits h.header n) js → out_at js k ≡ Some (OnNet i) → i < n
out_below n h [] k i all is = cc
out_below n h (j ∷ js) zero i all is = subst (OutExists n) is (All-head (InstanceFits h.header n) j js all).exists.drives
out_below n h (j ∷ js) (suc k) i all is = out_below n h js k i (All-tail (InstanceFits h.header n) j js all) is

module _ (c : Circuit) (known : IsCircuit c) (name : Name) (i : ℕ) (is : IsNumber (net_names c.nets) name i) where
  abbrev names : List Name
  names = net_names c.nets

  same_number : (m : ℕ) → m < length names → same_name name (name_at names m) ≡ true → m ≡ i
  same_number m below same = known.distinct m i below is.below (same_name_is name (name_at names m) same ∙ sym is.is)

  driven_by : (d : Option ℕ) → driver_at c.nets i ≡ d → list_any (λ (j : Instance). is_on name (out_of names j.out)) c.instances ≡ is_some d
  driven_by (Some k) e =
      any_at names name c.instances k i (known.drivers.is i k e) (subst (λ (n : Name). same_name name n ≡ true) (sym is.is) (same_name_refl name))
  driven_by None e = none_at names name c.instances (λ k m at. by k m at (same_name name (name_at names m)) refl)
    where
      by : (k m : ℕ) → out_at c.instances k ≡ Some (OnNet m) → (same : Bool) → same_name name (name_at names m) ≡ same → same ≡ false
      by k m at false q = refl
      by k m at true q =
          let long = length-map c.nets net_name in
          let below = out_below (length c.nets) c c.instances k m known.each at in
          let number : m ≡ i = same_number m (omega (arith, long, below)) q in
          let driven : driver_at c.nets m ≡ Some k = known.drivers.of m k at in
          let clash : None ≡ Some k = sym e ∙ ap (driver_at c.nets) (sym number) ∙ driven in
          absurd (cc)

  driven_is : (s : State) → Stands s c → is_driven s name ≡ is_some (driver_at c.nets i)
  driven_is s stands =
      ap (λ (js : List NamedInstance). list_any (λ (j : NamedInstance). is_on name j.out) js) (sym stands.instances)
      ∙ any_seen names name c.instances ∙ driven_by (driver_at c.nets i) refl

  -- what the net asserts
  spec_seen : (nets : List Net) (ns : List Name) (given : Name → AssertSpec) (k : ℕ) → map (λ (n : Net). n.spec) nets ≡ map given ns → net_names nets ≡ ns → k < length nets →
      (n : Net) → slice_get nets k ≡ Some n → n.spec ≡ given (name_at ns k)
  spec_seen [] ns given k specs named below n at = cc
  spec_seen (m ∷ nets) [] given k specs named below n at = cc
  spec_seen (m ∷ nets) (x ∷ ns) given zero specs named below n at =
      let same : m ≡ n = cc in
      let first : m.spec ≡ given x = cc in
      ap (λ (z : Net). z.spec) (sym same) ∙ first
  spec_seen (m ∷ nets) (x ∷ ns) given (suc k) specs named below n at =
      let later : map (λ (z : Net). z.spec) nets ≡ map given ns = cc in
      let rest : net_names nets ≡ ns = cc in
      spec_seen nets ns given k later rest (omega arith) n at

  clock_is : (s : State) → Stands s c → (n : Net) → slice_get c.nets i ≡ Some n → is_clock (spec_of s.asserted name.text) ≡ is_clock n.spec
  clock_is s stands n at =
      let long = length-map c.nets net_name in
      let within = is.below in
      let given : n.spec ≡ spec_of s.asserted (name_at s.names i).text =
      spec_seen c.nets s.names (λ (x : Name). spec_of s.asserted x.text) i stands.assertions stands.names (omega (arith, long, within)) n at in
      let here : name_at s.names i ≡ name = ap (λ (ns : List Name). name_at ns i) (sym stands.names) ∙ is.is in
      ap is_clock (ap (λ (x : Name). spec_of s.asserted x.text) (sym here) ∙ sym given)

  judged_by : (s : State) (before : List CaseBit) (marks : List Bool) (e : CaseEntry) → entry_name e ≡ name → Stands s c → AreNamed c marks before → (n : Net) → slice_get c.nets i ≡ Some n →
      may_set s before e ≡ may_set_at c marks e i
  judged_by s before marks e named stands are n at =
      let long = length-map c.nets net_name in
      let within = is.below in
      let has : has_name s.names (entry_name e) ≡ true = ap (λ (x : Name). has_name s.names x) named ∙ ap (λ (ns : List Name). has_name ns name) (sym stands.names) ∙ has_number names name i is in
      let driven : is_driven s (entry_name e) ≡ is_some n.driver = ap (is_driven s) named ∙ driven_is s stands ∙ ap (λ (o : Option Net). is_some (driver_in o)) at in
      let clock : is_clock (spec_of s.asserted (entry_name e).text) ≡ is_clock n.spec = ap (λ (x : Name). is_clock (spec_of s.asserted x.text)) named ∙ clock_is s stands n at in
      let again : is_named before (entry_name e) ≡ marked_in marks i = ap (is_named before) named ∙ ap (is_named before) (sym is.is) ∙ sym (are.are i (omega (arith, long, within))) in
      rw (has, driven, clock, again, at) (turned (is_asserted e.name.spec) n.driver (is_clock n.spec) (marked_in marks i) (nat_le e.value 1))
    where
      turned : (a : Bool) (d : Option ℕ) (k m b : Bool) → ((not a && true) && ((not (is_some d) && not k) && (not m && b))) ≡ (not a && ((is_none d && not k) && (not m && b)))
      turned true d k m b = refl
      turned false None k m b = refl
      turned false (Some x) k m b = refl

  pub judged : (marks : List Bool) (e : CaseEntry) → entry_name e ≡ name → IsJudged c marks e (may_set_at c marks e i)
  judged marks e named s before stands are = by (slice_get c.nets i) refl
    where
      by : (o : Option Net) → slice_get c.nets i ≡ o → may_set s before e ≡ may_set_at c marks e i
      by (Some n) at = judged_by s before marks e named stands are n at
      by None at =
          let long = length-map c.nets net_name in
          let within = is.below in
          absurd (let past : length c.nets ≤ i = none_past c.nets i at in omega (arith, long, within, past))

-- a name that no net has
pub unnamed : (c : Circuit) (marks : List Bool) (e : CaseEntry) → ((i : ℕ) → IsNumber (net_names c.nets) (entry_name e) i → ⊥) → IsJudged c marks e false
unnamed c marks e none s before stands are =
    let has : has_name s.names (entry_name e) ≡ false = ap (λ (ns : List Name). has_name ns (entry_name e)) (sym stands.names) ∙ no_number (net_names c.nets) (entry_name e) none in
    rw has (turned (is_asserted e.name.spec) ((not (is_driven s (entry_name e)) && not (is_clock (spec_of s.asserted (entry_name e).text)))
    && (not (is_named before (entry_name e)) && nat_le e.value 1)))
  where
    turned : (a b : Bool) → ((not a && false) && b) ≡ false
    turned true b = refl
    turned false b = refl
