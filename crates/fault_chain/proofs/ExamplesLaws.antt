-- Chains that are whole, and others that are not.
use Rattle.std.proofs.Common.{◌≡◌, ◌≤◌, ◌==◌, inl, inr, All, true, false, true≢false, List, [], ◌∷◌, ◌++◌, map, refl, sym, ap, subst, ◌∙◌, arith, codes, Some, None}
use Rattle.std.specs.Prelude.{◌≢◌}
use Rattle.std.proofs.lemmas.Bool.{false≢true}
use Rattle.std.specs.List.{list_any}
use Rattle.std.proofs.lemmas.Option.{same_Some}
use Rattle.std.proofs.lemmas.List.Elements.{All-cons, All-head, All-nil}
use Rattle.scald_base.specs.Time.{Bounds}
use Rattle.scald_base.specs.declared.assertion.AssertSpec.TheVariants.{None as Unasserted}
use Rattle.step_values.specs.Steps.{is_quiet}
use Rattle.step_values.specs.declared.value.Value.TheVariants.{One, C, F}
use Rattle.element_kinds.specs.declared.kind.Kind.{Kind}
use Rattle.element_kinds.specs.declared.kind.Kind.TheVariants.{LatchRs, Reg, RegRs}
use Rattle.flat_circuit.specs.declared.instance.Instance.{Instance}
use Rattle.flat_circuit.specs.declared.net.Net.{Net}
use Rattle.flat_circuit.specs.declared.fault.PointKind.TheVariants.{Setup}
use Rattle.flat_circuit.specs.declared.fault.Fault.TheVariants.{Point, Width, Hazard, Assertion}
use Rattle.flat_circuit.specs.Circuit.{Circuit, driver}
use Rattle.flat_circuit.proofs.RunTables.{element}
use Rattle.fault_chain.specs.declared.chain.Link.{Link}
use Rattle.fault_chain.specs.declared.chain.Chain.{Chain}
use Rattle.fault_chain.specs.declared.chain.End.{End}
use Rattle.fault_chain.specs.declared.chain.End.TheVariants.{Both, Level, Repeat, Undriven}
use Rattle.fault_chain.specs.Laws.{HasSetAndReset, IsForced, IsWhole, MayChange, is_of_assertion}

abbrev nobounds : Bounds
nobounds = record { min = 0; max = 0 }

-- two nets that nothing drives
abbrev circuit : Circuit
circuit =
    record {
      header = record { units = 8; ticks = 1; wire = nobounds; pskew = (0, 0); cskew = (0, 0) };
      nets = record { name = codes "A"; bit = 0; spec = Unasserted; wire = nobounds; driver = None }
          ∷ record { name = codes "X"; bit = 0; spec = Unasserted; wire = nobounds; driver = None } ∷ [];
      instances = [];
      order = 0 ∷ 1 ∷ [];
    }

abbrev falling : Link
falling = record { net = 0; slot = 4; value = F }

abbrev steady : Link
steady = record { net = 0; slot = 3; value = One }

changing_is_whole : IsWhole circuit (Width 0 true 4 2) (record { links = falling ∷ []; end = Undriven })
changing_is_whole = record {
  before = [];
  last = falling;
  links = refl;
  moving = All-nil MayChange;
  ends = (refl, refl);
  short = omega arith;
}

level_is_whole : IsWhole circuit (Assertion 0 3 49) (record { links = steady ∷ []; end = Level })
level_is_whole = record {
  before = [];
  last = steady;
  links = refl;
  moving = All-nil MayChange;
  ends = (refl, refl, refl);
  short = omega arith;
}

-- a level ends the chain of an assertion's fault alone
no_level : IsWhole circuit (Width 0 true 3 2) (record { links = steady ∷ []; end = Level }) → ⊥
no_level whole = let clash : false ≡ true = whole.ends.2 in absurd (cc)

-- the one link of a chain of one
last_is : (link : Link) (before : List Link) (last : Link) → link ∷ [] ≡ before ++ last ∷ [] → link ≡ last
last_is link [] last is = cc
last_is link (one ∷ []) last is = absurd (cc)
last_is link (one ∷ two ∷ before) last is = absurd (cc)

-- a net that does not change is no last link if nothing drives it
no_steady : IsWhole circuit (Width 0 true 3 2) (record { links = steady ∷ []; end = Undriven }) → ⊥
no_steady whole =
    let same : steady ≡ whole.last = last_is steady whole.before whole.last whole.links in
    let clash : true ≡ false = ap (λ (link : Link). is_quiet link.value) same ∙ whole.ends.0 in
    absurd (cc)

-- it has a link
no_empty : IsWhole circuit (Width 0 true 3 2) (record { links = []; end = Undriven }) → ⊥
no_empty whole = none whole.before whole.last whole.links
  where
    none : (before : List Link) (last : Link) → [] ≡ before ++ last ∷ [] → ⊥
    none [] last is = absurd (cc)
    none (one ∷ before) last is = absurd (cc)

-- ---- longer chains

-- X may change too
abbrev changing : Link
changing = record { net = 1; slot = 6; value = C }

-- the links of a chain of two
links_are : (one two : Link) (before : List Link) (last : Link) →
    one ∷ two ∷ [] ≡ before ++ last ∷ [] → (before ≡ one ∷ []) × (last ≡ two)
links_are one two [] last is = absurd (cc)
links_are one two (a ∷ []) last is = (cc, cc)
links_are one two (a ∷ b ∷ []) last is = absurd (cc)
links_are one two (a ∷ b ∷ c ∷ before) last is = absurd (cc)

-- round a loop of two nets there are three links
repeat_is_whole : IsWhole circuit (Width 0 true 4 2)
    (record { links = falling ∷ changing ∷ falling ∷ []; end = Repeat })
repeat_is_whole = record {
  before = falling ∷ changing ∷ [];
  last = falling;
  links = refl;
  moving = All-cons MayChange falling (changing ∷ []) refl
      (All-cons MayChange changing [] refl (All-nil MayChange));
  ends = (refl, refl);
  short = omega arith;
}

-- and not four
no_longer : ¬ IsWhole circuit (Width 0 true 4 2)
    (record { links = falling ∷ changing ∷ falling ∷ falling ∷ []; end = Repeat })
no_longer whole = let short : 4 ≤ 3 = whole.short in omega (arith, short)

-- the last net of a loop was met before
no_repeat : ¬ IsWhole circuit (Width 0 true 4 2)
    (record { links = changing ∷ falling ∷ []; end = Repeat })
no_repeat whole =
    let are = links_are changing falling whole.before whole.last whole.links in
    let met : list_any (λ (link : Link). link.net == 0) (changing ∷ []) ≡ true =
    subst (λ (links : List Link). list_any (λ (link : Link). link.net == 0) links ≡ true) are.0
    (subst (λ (end : Link). list_any (λ (link : Link). link.net == end.net) whole.before ≡ true)
    are.1 whole.ends.1) in
    false≢true met

-- and may change once more
no_steady_repeat : ¬ IsWhole circuit (Width 0 true 4 2)
    (record { links = falling ∷ steady ∷ []; end = Repeat })
no_steady_repeat whole =
    let are = links_are falling steady whole.before whole.last whole.links in
    true≢false (subst (λ (link : Link). MayChange link) are.1 whole.ends.0)

-- links before the last one may change
no_rest : ¬ IsWhole circuit (Width 0 true 4 2)
    (record { links = steady ∷ falling ∷ []; end = Undriven })
no_rest whole =
    let are = links_are steady falling whole.before whole.last whole.links in
    let moves : MayChange steady =
    All-head MayChange steady []
    (subst (λ (links : List Link). All MayChange links) are.0 whole.moving) in
    true≢false moves

-- a level has no link before it, and is quiet
no_link_to_level : ¬ IsWhole circuit (Assertion 0 3 49)
    (record { links = falling ∷ steady ∷ []; end = Level })
no_link_to_level whole =
    let are = links_are falling steady whole.before whole.last whole.links in
    let none : falling ∷ [] ≡ [] = sym are.0 ∙ whole.ends.0 in absurd (cc)

no_moving_level : ¬ IsWhole circuit (Assertion 0 4 70)
    (record { links = falling ∷ []; end = Level })
no_moving_level whole =
    let same : falling ≡ whole.last = last_is falling whole.before whole.last whole.links in
    false≢true (ap (λ (link : Link). is_quiet link.value) same ∙ whole.ends.1)

of_assertions_alone : map is_of_assertion
    (Point Setup 3 0 1 67 ∷ Width 3 true 0 1 ∷ Hazard 3 0 1 ∷ Assertion 3 0 67 ∷ [])
    ≡ false ∷ false ∷ false ∷ true ∷ []
of_assertions_alone = refl

-- ---- where A is driven

abbrev storage : Kind → Instance
storage kind = element kind nobounds [] 0

abbrev net_a : Net
net_a =
    record { name = codes "A"; bit = 0; spec = Unasserted; wire = nobounds; driver = Some 0 }

abbrev driven : Kind → Circuit
driven kind = record circuit {
  nets = net_a ∷ [];
  instances = storage kind ∷ [];
}

abbrev one_link : End → Chain
one_link end = record { links = falling ∷ []; end = end }

forced : (kind : Kind) → HasSetAndReset kind →
    IsWhole (driven kind) (Width 0 true 4 2) (one_link Both)
forced kind has = record {
  before = [];
  last = falling;
  links = refl;
  moving = All-nil MayChange;
  ends = (refl, record { storage = storage kind; drives = refl; kind = has });
  short = omega arith;
}

by_register : IsWhole (driven RegRs) (Width 0 true 4 2) (one_link Both)
by_register = forced RegRs (inl refl)

by_latch : IsWhole (driven LatchRs) (Width 0 true 4 2) (one_link Both)
by_latch = forced LatchRs (inr refl)

-- its output may change
no_steady_both : ¬ IsWhole (driven RegRs) (Width 0 true 3 2)
    (record { links = steady ∷ []; end = Both })
no_steady_both whole =
    let same : steady ≡ whole.last = last_is steady whole.before whole.last whole.links in
    true≢false (subst (λ (link : Link). MayChange link) (sym same) whole.ends.0)

-- no other element has set and reset
two_kinds_alone : (kind : Kind) → kind ≢ RegRs → kind ≢ LatchRs → ¬ HasSetAndReset kind
two_kinds_alone kind register latch (inl is) = register is
two_kinds_alone kind register latch (inr is) = latch is

-- without set and reset some pin changes
no_register : ¬ IsWhole (driven Reg) (Width 0 true 4 2) (one_link Both)
no_register whole =
    let same : falling ≡ whole.last = last_is falling whole.before whole.last whole.links in
    let force : IsForced (driven Reg) falling =
    subst (λ (link : Link). IsForced (driven Reg) link) (sym same) whole.ends.1 in
    let is : storage Reg ≡ force.storage = same_Some (storage Reg) force.storage force.drives in
    none (subst (λ (j : Instance). HasSetAndReset j.kind) (sym is) force.kind)
  where
    none : HasSetAndReset Reg → ⊥
    none (inl is) = absurd (cc)
    none (inr is) = absurd (cc)

no_driven : ¬ IsWhole (driven Reg) (Width 0 true 4 2) (one_link Undriven)
no_driven whole =
    let same : falling ≡ whole.last = last_is falling whole.before whole.last whole.links in
    let none : Some (storage Reg) ≡ None =
    ap (λ (link : Link). driver (driven Reg) link.net) same ∙ whole.ends.1 in
    absurd (cc)
