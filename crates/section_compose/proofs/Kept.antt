-- What it is worth that sections break no rule.
use Rattle.std.proofs.Common.{◌≡◌, ℕ, zero, suc, ◌+◌, ◌<◌, ◌≤◌, Bool, true, false, not, ◌&&◌, if◌then◌else◌, List, [], ◌∷◌, ◌++◌}
use Rattle.std.proofs.Common.{length, slice_get, refl, sym, ap, subst, ◌∙◌, arith, inl, inr, Option, Some, None}
use Rattle.std.specs.Prelude.{◌==◌, count_by, is_some, nat_lt}
use Rattle.std.specs.List.{list_any}
use Rattle.std.proofs.lemmas.Bool.{and_parts, cases_lt}
use Rattle.std.proofs.lemmas.List.{get_or_default, length-map}
use Rattle.std.proofs.lemmas.Option.{slice_get_within}
use Rattle.scald_base.specs.Time.{Header}
use Rattle.flat_circuit.specs.declared.instance.Instance.{Instance}
use Rattle.flat_circuit.specs.declared.net.Net.{Net}
use Rattle.flat_circuit.specs.Builder.{is_asserted}
use Rattle.flat_circuit.specs.Circuit.{Circuit, IsCircuit, driver_in, net_name, net_names, instance_in}
use Rattle.flat_circuit.specs.Instances.{out_of}
use Rattle.vector_names.specs.declared.bits.Target.TheVariants.{Net as OnNet}
use Rattle.flat_circuit.specs.Name.{Name, net_at}
use Rattle.flat_circuit.proofs.Names.{order_has}
use Rattle.section_compose.specs.declared.rules.Broken.{Broken}
use Rattle.section_compose.specs.declared.rules.Rule.{Rule}
use Rattle.section_compose.specs.declared.rules.Rule.TheVariants as variant
use Rattle.section_compose.specs.declared.section.Section.{Section}
use Rattle.section_compose.specs.Globals.{begins_with_slash, crosses, crosses_by, has_name, is_driven, is_driven_in, stands_in}
use Rattle.section_compose.specs.Rules.{asserts_otherwise, broken_crossings, broken_globals, broken_headers, broken_nets, circuits, crossing_rule}
use Rattle.section_compose.specs.Rules.{first_broken, global_rule, header_break, header_rule, is_at_once, is_at_once_of, net_break, or_else, rule_at}
use Rattle.section_compose.specs.Same.{same_assertion, same_clocks}
use Rattle.section_compose.specs.Joined.{AreJoined, IsDrivenBy, SameClocks}
use Rattle.section_compose.specs.OneNet.{AreOneNet, IsNetOf}
use Rattle.section_compose.proofs.Alike.{clocks_back, clocks_on, assertion_is, clocks_are}
use Rattle.section_compose.proofs.Lists.{Finds, finds, get_end, get_front, none_at}
use Rattle.section_compose.proofs.Named.{has_its_name, named_so, once}

-- ---- rules of sections

header_none : (r : Option Rule) (n : ℕ) (later : Option Broken) → header_break r n later ≡ None → r ≡ None
header_none None n later e = refl
header_none (Some x) n later e = cc

header_later : (r : Option Rule) (n : ℕ) (later : Option Broken) → header_break r n later ≡ None → later ≡ None
header_later None n later e = e
header_later (Some x) n later e = cc

headers_kept : (h : Header) (n : ℕ) (sections : List Section) → broken_headers h n sections ≡ None →
    (s : ℕ) (section : Section) → slice_get sections s ≡ Some section → header_rule h section ≡ None
headers_kept h n [] none s section is = absurd (cc)
headers_kept h n (x ∷ rest) none zero section is =
    let same : x ≡ section = cc in
    subst (λ (y : Section). header_rule h y ≡ None) same (header_none (header_rule h x) n (broken_headers h (n + 1) rest) none)
headers_kept h n (x ∷ rest) none (suc s) section is =
    headers_kept h (n + 1) rest (header_later (header_rule h x) n (broken_headers h (n + 1) rest) none) s section is

clock_kept : (has same : Bool) → (if has then Some variant.Case else (if same then None else Some variant.Clock)) ≡ None → same ≡ true
clock_kept true same e = cc
clock_kept false true e = refl
clock_kept false false e = cc

-- ---- rules of nets

net_none : (r : Option Rule) (n place : ℕ) (later : Option Broken) → net_break r n place later ≡ None → r ≡ None
net_none None n place later e = refl
net_none (Some x) n place later e = cc

net_later : (r : Option Rule) (n place : ℕ) (later : Option Broken) → net_break r n place later ≡ None → later ≡ None
net_later None n place later e = e
net_later (Some x) n place later e = cc

else_first : (a later : Option Broken) → or_else a later ≡ None → a ≡ None
else_first None later e = refl
else_first (Some x) later e = cc

else_later : (a later : Option Broken) → or_else a later ≡ None → later ≡ None
else_later None later e = e
else_later (Some x) later e = cc

place_kept : (rule : Net → Option Rule) (c : Circuit) (n place : ℕ) (order : List ℕ) → broken_nets rule c n place order ≡ None →
    (k : ℕ) → k < length order → rule_at rule (slice_get c.nets (net_at order k)) ≡ None
place_kept rule c n place [] none k below = absurd (omega arith)
place_kept rule c n place (i ∷ rest) none zero below =
    net_none (rule_at rule (slice_get c.nets i)) n place (broken_nets rule c n (place + 1) rest) none
place_kept rule c n place (i ∷ rest) none (suc k) below =
    place_kept rule c n (place + 1) rest
    (net_later (rule_at rule (slice_get c.nets i)) n place (broken_nets rule c n (place + 1) rest) none) k (omega arith)

-- each net has a place in the order, so none breaks the rule
net_kept : (rule : Net → Option Rule) (c : Circuit) (n : ℕ) → IsCircuit c → broken_nets rule c n 0 c.order ≡ None →
    (i : ℕ) (net : Net) → slice_get c.nets i ≡ Some net → rule net ≡ None
net_kept rule c n known none i net is =
    let below : i < length c.nets = slice_get_within c.nets i net is in
    let at = order_has (net_names c.nets) c.order i known.by_name (omega (arith, below, length-map c.nets net_name)) in
    let here : net_at c.order at.0 ≡ i = sym (get_or_default c.order at.0 i 0 at.1) ∙ at.2 in
    sym (ap (rule_at rule) (ap (slice_get c.nets) here ∙ is)) ∙ place_kept rule c n 0 c.order none at.0 at.1

-- ---- a global net asserts the same everywhere

-- no net of the one section breaks a rule beside sections of which the other is one
record Beside (c c0 : Circuit) : Type 0 where
  pub before : List Circuit
  pub number : ℕ
  pub at : ℕ
  pub is : slice_get before at ≡ Some c0
  pub none : broken_nets (global_rule before) c number 0 c.order ≡ None

beside_before : (before : List Circuit) (n : ℕ) (sections : List Circuit) → broken_globals before n sections ≡ None →
    (k s : ℕ) (c0 c : Circuit) → slice_get before k ≡ Some c0 → slice_get sections s ≡ Some c → Beside c c0
beside_before before n [] none k s c0 c is0 is = absurd (cc)
beside_before before n (x ∷ rest) none k zero c0 c is0 is =
    let same : x ≡ c = cc in
    subst (λ (y : Circuit). Beside y c0) same (record {
      before = before;
      number = n;
      at = k;
      is = is0;
      none = else_first (broken_nets (global_rule before) x n 0 x.order) (broken_globals (before ++ x ∷ []) (n + 1) rest) none;
    })
beside_before before n (x ∷ rest) none k (suc s) c0 c is0 is =
    beside_before (before ++ x ∷ []) (n + 1) rest
    (else_later (broken_nets (global_rule before) x n 0 x.order) (broken_globals (before ++ x ∷ []) (n + 1) rest) none)
    k s c0 c (get_front before (x ∷ []) k c0 is0) is

beside : (before : List Circuit) (n : ℕ) (sections : List Circuit) → broken_globals before n sections ≡ None →
    (s0 s : ℕ) (c0 c : Circuit) → s0 < s → slice_get sections s0 ≡ Some c0 → slice_get sections s ≡ Some c → Beside c c0
beside before n [] none s0 s c0 c below is0 is = absurd (cc)
beside before n (x ∷ rest) none s0 zero c0 c below is0 is = absurd (omega arith)
beside before n (x ∷ rest) none zero (suc s) c0 c below is0 is =
    let same : x ≡ c0 = cc in
    beside_before (before ++ x ∷ []) (n + 1) rest
    (else_later (broken_nets (global_rule before) x n 0 x.order) (broken_globals (before ++ x ∷ []) (n + 1) rest) none)
    (length before) s c0 c (get_end before x ∙ ap Some same) is
beside before n (x ∷ rest) none (suc s0) (suc s) c0 c below is0 is =
    beside (before ++ x ∷ []) (n + 1) rest
    (else_later (broken_nets (global_rule before) x n 0 x.order) (broken_globals (before ++ x ∷ []) (n + 1) rest) none)
    s0 s c0 c (omega arith) is0 is

alike_kept : (is_global otherwise driven : Bool) → is_global ≡ true →
    (if not is_global then None else (if otherwise then Some variant.Assertion else (if driven then Some variant.Drivers else None))) ≡ None →
    otherwise ≡ false
alike_kept false otherwise driven is e = cc
alike_kept true true driven is e = cc
alike_kept true false driven is e = refl

unlike : (has same : Bool) → has ≡ true → (has && not same) ≡ false → same ≡ true
unlike false same is e = cc
unlike true true is e = refl
unlike true false is e = cc

beside_alike : (c c0 : Circuit) (i i0 : ℕ) (net other : Net) → IsCircuit c → Beside c c0 → slice_get c.nets i ≡ Some net →
    slice_get c0.nets i0 ≡ Some other → begins_with_slash net.name ≡ true → net_name other ≡ net_name net → net.spec ≡ other.spec
beside_alike c c0 i i0 net other known b is is0 slash same =
    let kept = net_kept (global_rule b.before) c b.number known b.none i net is in
    let alike = alike_kept (begins_with_slash net.name) (list_any (asserts_otherwise net) b.before)
    (is_driven net && list_any (is_driven_in (net_name net)) b.before) slash kept in
    let here = none_at (asserts_otherwise net) b.before b.at c0 alike b.is in
    let one = none_at (λ (o : Net). has_name (net_name net) o && not (same_assertion net.spec o.spec)) c0.nets i0 other here is0 in
    assertion_is net.spec other.spec
    (unlike (has_name (net_name net) other) (same_assertion net.spec other.spec) (has_its_name (net_name net) other same) one)

-- ---- a net that crosses has a driver that takes a tick

driver_of : (net : Net) → is_driven net ≡ true → (k : ℕ) × (net.driver ≡ Some k)
driver_of net e = by net.driver refl e
  where
    by : (d : Option ℕ) → net.driver ≡ d → is_some d ≡ true → (k : ℕ) × (net.driver ≡ Some k)
    by None is e = cc
    by (Some k) is e = (k, is)

crossing_kept : (driven cross asserted at_once : Bool) → driven ≡ true → cross ≡ true →
    (if not (driven && cross) then None
    else (if not asserted then Some variant.Unasserted else (if at_once then Some variant.Delay else None))) ≡ None →
    (asserted ≡ true) × (at_once ≡ false)
crossing_kept false cross asserted at_once d c e = cc
crossing_kept true false asserted at_once d c e = cc
crossing_kept true true false at_once d c e = cc
crossing_kept true true true true d c e = cc
crossing_kept true true true false d c e = (refl, refl)

crossings_kept : (whole : List Circuit) (n : ℕ) (sections : List Circuit) → broken_crossings whole n sections ≡ None →
    (s : ℕ) (c : Circuit) → slice_get sections s ≡ Some c →
    (number : ℕ) × (broken_nets (crossing_rule whole c) c number 0 c.order ≡ None)
crossings_kept whole n [] none s c is = absurd (cc)
crossings_kept whole n (x ∷ rest) none zero c is =
    let same : x ≡ c = cc in (
      n,
      subst (λ (y : Circuit). broken_nets (crossing_rule whole y) y n 0 y.order ≡ None) same
          (else_first (broken_nets (crossing_rule whole x) x n 0 x.order) (broken_crossings whole (n + 1) rest) none),
    )
crossings_kept whole n (x ∷ rest) none (suc s) c is =
    crossings_kept whole (n + 1) rest
    (else_later (broken_nets (crossing_rule whole x) x n 0 x.order) (broken_crossings whole (n + 1) rest) none) s c is

slow_of : (o : Option Instance) (j : Instance) → o ≡ Some j → is_at_once o ≡ false → 1 ≤ j.delay.min
slow_of None j is e = cc
slow_of (Some x) j is e =
    let same : x ≡ j = cc in
    subst (λ (y : Instance). 1 ≤ y.delay.min) same (by x.delay.min e)
  where
    by : (n : ℕ) → (n == 0) ≡ false → 1 ≤ n
    by zero e = cc
    by (suc n) e = omega arith

-- a driver's number is one of an instance
instance_of : (c : Circuit) (i k : ℕ) (net : Net) → IsCircuit c → slice_get c.nets i ≡ Some net → net.driver ≡ Some k →
    (j : Instance) × (slice_get c.instances k ≡ Some j)
instance_of c i k net known is driver = by (slice_get c.instances k) refl (known.drivers.is i k (ap driver_in is ∙ driver))
  where
    by : (o : Option Instance) → slice_get c.instances k ≡ o → out_of o ≡ Some (OnNet i) →
        (j : Instance) × (slice_get c.instances k ≡ Some j)
    by None at out = cc
    by (Some j) at out = (j, at)

-- ---- all facts

section_of : (sections : List Section) (s : ℕ) (c : Circuit) → slice_get (circuits sections) s ≡ Some c →
    (section : Section) × (slice_get sections s ≡ Some section) × (section.circuit ≡ c)
section_of [] s c is = absurd (cc)
section_of (x ∷ rest) zero c is = (x, refl, (let same : x.circuit ≡ c = cc in same))
section_of (x ∷ rest) (suc s) c is = section_of rest s c is

-- the section that drives a net which crosses
driven_by : (whole : List Circuit) (net : Net) → ((s : ℕ) (c : Circuit) → slice_get whole s ≡ Some c → IsCircuit c) →
    broken_crossings whole 1 whole ≡ None → crosses whole net ≡ true → IsDrivenBy whole net
driven_by whole net known crossings crossing = record {
  s = section.at;
  i = found.at;
  k = k.0;
  circuit = section.found;
  same = found.found;
  instance = j.0;
  is = record { section_is = section.is; net_is = found.is };
  one = record { global = ap (λ (n : Name). begins_with_slash n.text) same ∙ parts.0; same_name = same };
  crossing = ap (crosses_by whole) same ∙ crossing;
  driven = k.1;
  instance_is = j.1;
  slow = slow_of (instance_in section.found found.found.driver) j.0 (ap (instance_in section.found) k.1 ∙ j.1) facts.1;
  asserts = facts.0;
}
  where
    stands : Bool
    stands = list_any (is_driven_in (net_name net)) whole && nat_lt 1 (count_by (stands_in (net_name net)) whole)

    parts : (begins_with_slash net.name ≡ true) × (stands ≡ true)
    parts = and_parts (begins_with_slash net.name) stands crossing

    section : Finds (is_driven_in (net_name net)) whole
    section = finds (is_driven_in (net_name net)) whole
        (and_parts (list_any (is_driven_in (net_name net)) whole) (nat_lt 1 (count_by (stands_in (net_name net)) whole)) parts.1).0

    found : Finds (λ (n : Net). has_name (net_name net) n && is_driven n) section.found.nets
    found = finds (λ (n : Net). has_name (net_name net) n && is_driven n) section.found.nets section.passes

    both : (has_name (net_name net) found.found ≡ true) × (is_driven found.found ≡ true)
    both = and_parts (has_name (net_name net) found.found) (is_driven found.found) found.passes

    same : net_name found.found ≡ net_name net
    same = named_so (net_name net) found.found both.0

    k : (d : ℕ) × (found.found.driver ≡ Some d)
    k = driver_of found.found both.1

    j : (instance : Instance) × (slice_get section.found.instances k.0 ≡ Some instance)
    j = instance_of section.found found.at k.0 found.found (known section.at section.found section.is) found.is k.1

    kept : (number : ℕ) × (broken_nets (crossing_rule whole section.found) section.found number 0 section.found.order ≡ None)
    kept = crossings_kept whole 1 whole crossings section.at section.found section.is

    facts : (is_asserted found.found.spec ≡ true) × (is_at_once_of section.found found.found ≡ false)
    facts =
        crossing_kept (is_driven found.found) (crosses whole found.found) (is_asserted found.found.spec)
        (is_at_once_of section.found found.found) both.1 (ap (crosses_by whole) same ∙ crossing)
        (net_kept (crossing_rule whole section.found) section.found kept.0
        (known section.at section.found section.is) kept.1 found.at found.found found.is)

pub rules_hold : (sections : List Section) → first_broken sections ≡ None →
    ((s : ℕ) (c : Circuit) → slice_get (circuits sections) s ≡ Some c → IsCircuit c) → AreJoined (circuits sections)
rules_hold [] none known = record {
  clocks = λ s s' c c' is is'. absurd (cc);
  alike = λ s i s' i' c c' net other of of' one. let is = of.section_is in absurd (cc);
  driver = λ s i c net of crossing. let is = of.section_is in absurd (cc);
}
rules_hold (x ∷ rest) none known = record {
  clocks = λ s s' c c' is is'. clocks_on c.header x.circuit.header c'.header (clocks_back x.circuit.header c.header (clock s c is)) (clock s' c' is');
  alike = alike;
  driver = λ s i c net of crossing. driven_by whole net known crossings crossing;
}
  where
    all : List Section
    all = x ∷ rest

    whole : List Circuit
    whole = circuits all

    headers : broken_headers x.circuit.header 1 all ≡ None
    headers =
        else_first (broken_headers x.circuit.header 1 all)
        (or_else (broken_globals [] 1 whole) (broken_crossings whole 1 whole)) none

    nets : or_else (broken_globals [] 1 whole) (broken_crossings whole 1 whole) ≡ None
    nets =
        else_later (broken_headers x.circuit.header 1 all)
        (or_else (broken_globals [] 1 whole) (broken_crossings whole 1 whole)) none

    globals : broken_globals [] 1 whole ≡ None
    globals = else_first (broken_globals [] 1 whole) (broken_crossings whole 1 whole) nets

    crossings : broken_crossings whole 1 whole ≡ None
    crossings = else_later (broken_globals [] 1 whole) (broken_crossings whole 1 whole) nets

    clock : (s : ℕ) (c : Circuit) → slice_get whole s ≡ Some c → SameClocks x.circuit.header c.header
    clock s c is =
        let found = section_of all s c is in
        let kept = headers_kept x.circuit.header 1 all headers s found.0 found.1 in
        let same = clocks_are x.circuit.header found.0.circuit.header
        (clock_kept found.0.has_case (same_clocks x.circuit.header found.0.circuit.header) kept) in
        subst (λ (y : Circuit). SameClocks x.circuit.header y.header) found.2 same

    slash_of : (net other : Net) → AreOneNet net other → begins_with_slash other.name ≡ true
    slash_of net other one = sym (ap (λ (n : Name). begins_with_slash n.text) one.same_name) ∙ one.global

    alike : (s i s' i' : ℕ) (c c' : Circuit) (net other : Net) → IsNetOf whole s i c net →
        IsNetOf whole s' i' c' other → AreOneNet net other → net.spec ≡ other.spec
    alike s i s' i' c c' net other of of' one = elim (cases_lt s s') [
      | inl before ↦
          sym (beside_alike c' c i' i other net (known s' c' of'.section_is)
          (beside [] 1 whole globals s s' c c' before of.section_is of'.section_is)
          of'.net_is of.net_is (slash_of net other one) one.same_name)
      | inr not_before ↦ elim (cases_lt s' s) [
        | inl behind ↦
            beside_alike c c' i i' net other (known s c of.section_is)
            (beside [] 1 whole globals s' s c' c behind of'.section_is of.section_is)
            of.net_is of'.net_is one.global (sym one.same_name)
        | inr not_behind ↦
            let same : s ≡ s' = omega (arith, not_before, not_behind) in
            let circuit : Some c ≡ Some c' = sym of.section_is ∙ ap (slice_get whole) same ∙ of'.section_is in
            let one_circuit : c ≡ c' = cc in
            ap (λ (n : Net). n.spec)
            (once c i i' net other (known s c of.section_is) of.net_is
            (ap (λ (y : Circuit). slice_get y.nets i') one_circuit ∙ of'.net_is) one.same_name)
      ]
    ]
