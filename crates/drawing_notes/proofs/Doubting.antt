-- The checkers whose clock may be late as a whole, and their marks.
use Rattle.std.proofs.Common.{◌≡◌, ◌≢◌, ℕ, zero, suc, ◌+◌, ◌<◌, ◌≤◌, inl, inr, Bool, true, false, cond, List, [], ◌∷◌, ◌++◌, length, get_or, nat_lt, refl, sym, ap, subst, ◌∙◌, arith, slice_get, Option, Some, None}
use Rattle.std.specs.Prelude.{◌↔◌}
use Rattle.std.specs.List.{All, Contains}
use Rattle.std.specs.List.Sorted.{IsPermutation}
use Rattle.std.proofs.Math.ListN.{set}
use Rattle.std.proofs.lemmas.Bool.{cases_eq, cases_lt}
use Rattle.std.proofs.lemmas.List.{append-nil, get_or-set_same, get_or-set_other, length-set, get_or_default}
use Rattle.std.proofs.lemmas.List.Elements.{All-get_or, All-head, All-tail, Contains-append_left, Contains-get_or, Contains-push, Contains-push_cases}
use Rattle.std.proofs.lemmas.List.Sorted.{Contains-permutation, IsPermutation-sym}
use Rattle.std.proofs.lemmas.Option.{get_or_from_slice_get, slice_get_within}
use Rattle.vector_names.specs.declared.bits.Target.{Target}
use Rattle.vector_names.specs.declared.bits.Target.TheVariants.{Net as OnNet, Constant}
use Rattle.element_kinds.specs.Kinds.{checks_points}
use Rattle.flat_circuit.specs.declared.instance.Instance.{Instance}
use Rattle.flat_circuit.specs.declared.instance.Pin.{Pin}
use Rattle.flat_circuit.specs.Instances.{InstanceFits, PinExists, TargetExists}
use Rattle.flat_circuit.specs.Circuit.{Circuit, IsCircuit}
use Rattle.fixpoint_engine.specs.Settled.{marked_in}
use Rattle.drawing_notes.specs.Pins.{clock_of, input_of, pin_net, target_net}
use Rattle.drawing_notes.specs.declared.doubts.Doubt.{Doubt}
use Rattle.drawing_notes.specs.Doubts.{AreCommon, AreDoubts, doubt_at, doubt_of, doubt_on, if_some, is_common_by}

-- ---- a doubt is about its own checker

on_own : (skew : ℕ → ℕ) (k : ℕ) (clock input : Option ℕ) (d : Doubt) →
    doubt_on skew k clock input ≡ Some d → d.checker ≡ k
on_own skew k None input d is = absurd cc
on_own skew k (Some clock) None d is = absurd cc
on_own skew k (Some clock) (Some input) d is = by (nat_lt 0 (skew clock)) is
  where
    here : Doubt
    here = record { checker = k; clock = clock; input = input }

    by : (b : Bool) → cond b (Some here) None ≡ Some d → d.checker ≡ k
    by true e = let same : here ≡ d = cc in sym (ap (λ (x : Doubt). x.checker) same)
    by false e = absurd cc

of_own : (skew : ℕ → ℕ) (k : ℕ) (o : Option Instance) (d : Doubt) → doubt_of skew k o ≡ Some d → d.checker ≡ k
of_own skew k None d is = absurd cc
of_own skew k (Some j) d is = by (checks_points j.kind) is
  where
    by : (b : Bool) → cond b (doubt_on skew k (pin_net (clock_of j)) (pin_net (input_of j))) None ≡ Some d → d.checker ≡ k
    by true e = on_own skew k (pin_net (clock_of j)) (pin_net (input_of j)) d e
    by false e = absurd cc

-- ---- its clock is on a net that there is

pin_exists : (n : ℕ) (ps : List Pin) (i net : ℕ) → All (PinExists n) ps → pin_net (slice_get ps i) ≡ Some net → net < n
pin_exists n [] i net all is = absurd cc
pin_exists n (p ∷ ps) zero net all is = by p.target (All-head (PinExists n) p ps all) is
  where
    by : (t : Target) → TargetExists n t → target_net t ≡ Some net → net < n
    by (OnNet i) exists e = let same : i ≡ net = cc in subst (λ m. m < n) same exists
    by (Constant one) exists e = absurd cc
pin_exists n (p ∷ ps) (suc i) net all is = pin_exists n ps i net (All-tail (PinExists n) p ps all) is

on_clock : (skew : ℕ → ℕ) (k : ℕ) (clock input : Option ℕ) (d : Doubt) →
    doubt_on skew k clock input ≡ Some d → clock ≡ Some d.clock
on_clock skew k None input d is = absurd cc
on_clock skew k (Some clock) None d is = absurd cc
on_clock skew k (Some clock) (Some input) d is = by (nat_lt 0 (skew clock)) is
  where
    here : Doubt
    here = record { checker = k; clock = clock; input = input }

    by : (b : Bool) → cond b (Some here) None ≡ Some d → Some clock ≡ Some d.clock
    by true e = let same : here ≡ d = cc in ap (λ (x : Doubt). Some x.clock) same
    by false e = absurd cc

of_clock : (skew : ℕ → ℕ) (k : ℕ) (j : Instance) (d : Doubt) → doubt_of skew k (Some j) ≡ Some d → pin_net (clock_of j) ≡ Some d.clock
of_clock skew k j d is = by (checks_points j.kind) is
  where
    by : (b : Bool) → cond b (doubt_on skew k (pin_net (clock_of j)) (pin_net (input_of j))) None ≡ Some d → pin_net (clock_of j) ≡ Some d.clock
    by true e = on_clock skew k (pin_net (clock_of j)) (pin_net (input_of j)) d e
    by false e = absurd cc

pub clock_exists : (c : Circuit) (skew : ℕ → ℕ) (k : ℕ) (d : Doubt) → IsCircuit c → doubt_at c skew k ≡ Some d → d.clock < length c.nets
clock_exists c skew k d known is = by (slice_get c.instances k) refl is
  where
    by : (o : Option Instance) → slice_get c.instances k ≡ o → doubt_of skew k o ≡ Some d → d.clock < length c.nets
    by None at e = absurd cc
    by (Some j) at e =
        let fits : InstanceFits c.header (length c.nets) j =
        subst (InstanceFits c.header (length c.nets)) (get_or_from_slice_get c.instances k j j at)
        (All-get_or (InstanceFits c.header (length c.nets)) c.instances k j (slice_get_within c.instances k j at) known.each) in
        pin_exists (length c.nets) j.pins 0 d.clock fits.exists.reads (of_clock skew k j d e)

module _ (c : Circuit) (skew : ℕ → ℕ) where
  pub own_doubt : (k : ℕ) (d : Doubt) → doubt_at c skew k ≡ Some d → d.checker ≡ k
  own_doubt k d is = of_own skew k (slice_get c.instances k) d is

  pub doubt_inside : (k : ℕ) (d : Doubt) → doubt_at c skew k ≡ Some d → k < length c.instances
  doubt_inside k d is = by (slice_get c.instances k) refl is
    where
      by : (o : Option Instance) → slice_get c.instances k ≡ o → doubt_of skew k o ≡ Some d → k < length c.instances
      by None at e = absurd cc
      by (Some j) at e = slice_get_within c.instances k j at

  -- ---- one instance after the other

  -- all doubts about the first instances
  abbrev pub DoubtsTo : ℕ → List Doubt → Type 0
  DoubtsTo n ds = (d : Doubt) → Contains ds d ↔ ((d.checker < n) × (doubt_at c skew d.checker ≡ Some d))

  pub doubts_start : DoubtsTo 0 []
  doubts_start d = (λ at. absurd (let below = at.1 in omega (arith, below)), λ h. absurd (let below = h.0 in omega (arith, below)))

  doubts_none : (n : ℕ) (ds : List Doubt) → doubt_at c skew n ≡ None → DoubtsTo n ds → DoubtsTo (n + 1) ds
  doubts_none n ds none is d = (
    λ at. let h = (is d).0 at in let below = h.0 in (omega (arith, below), h.1),
    λ h. elim (cases_lt d.checker n) [
      | inl less ↦ (is d).1 (less, h.1)
      | inr past ↦
          let below = h.0 in
          let here : d.checker ≡ n = omega (arith, below, past) in
          let no : None ≡ Some d = sym none ∙ ap (doubt_at c skew) (sym here) ∙ h.1 in
          absurd cc
    ],
  )

  doubts_some : (n : ℕ) (ds : List Doubt) (new : Doubt) → doubt_at c skew n ≡ Some new → DoubtsTo n ds → DoubtsTo (n + 1) (ds ++ new ∷ [])
  doubts_some n ds new doubted is d = (
    λ at. elim (Contains-push_cases ds new d at) [
      | inl before ↦ (let h = (is d).0 before in let below = h.0 in (omega (arith, below), h.1))
      | inr same ↦
          let own : new.checker ≡ n = own_doubt n new doubted in
          subst (λ (x : Doubt). (x.checker < n + 1) × (doubt_at c skew x.checker ≡ Some x)) same
          (omega (arith, own), ap (doubt_at c skew) own ∙ doubted)
    ],
    λ h. elim (cases_lt d.checker n) [
      | inl less ↦ Contains-append_left ds (new ∷ []) d ((is d).1 (less, h.1))
      | inr past ↦
          let below = h.0 in
          let here : d.checker ≡ n = omega (arith, below, past) in
          let both : Some new ≡ Some d = sym doubted ∙ ap (doubt_at c skew) (sym here) ∙ h.1 in
          let same : new ≡ d = cc in
          subst (λ (x : Doubt). Contains (ds ++ new ∷ []) x) same (Contains-push ds new)
    ],
  )

  pub doubts_more : (n : ℕ) (ds new : List Doubt) → new ≡ ds ++ if_some (doubt_at c skew n) → DoubtsTo n ds → DoubtsTo (n + 1) new
  doubts_more n ds new put is = subst (DoubtsTo (n + 1)) (sym put) (by (doubt_at c skew n) refl)
    where
      by : (o : Option Doubt) → doubt_at c skew n ≡ o → DoubtsTo (n + 1) (ds ++ if_some o)
      by None none = subst (DoubtsTo (n + 1)) (sym (append-nil ds)) (doubts_none n ds none is)
      by (Some d) doubted = doubts_some n ds d doubted is

  -- in whatever order
  pub doubts_all : (n : ℕ) (ds sorted : List Doubt) → length c.instances ≤ n → IsPermutation ds sorted → DoubtsTo n ds → AreDoubts c skew sorted
  doubts_all n ds sorted whole turned is d = (
    λ at. ((is d).0 (Contains-permutation sorted ds d (IsPermutation-sym ds sorted turned) at)).1,
    λ doubted.
        let inside = doubt_inside d.checker d doubted in
        Contains-permutation ds sorted d turned ((is d).1 (omega (arith, inside, whole), doubted)),
  )

  -- ---- marks, one doubt after the other

  module _ (ds : List Doubt) where
    abbrev pub nobody : Doubt
    nobody = record { checker = 0; clock = 0; input = 0 }

    abbrev pub at : ℕ → Doubt
    at j = get_or ds j nobody

    module _ (launched : ℕ → ℕ → Bool) where
      -- the first doubts are marked where their inputs are launched, and nothing else is marked
      pub record MarkedTo (n : ℕ) (marks : List Bool) : Type 0 where
        pub long : length marks ≡ length c.instances
        pub done : (j : ℕ) → j < n → marked_in marks (at j).checker ≡ launched (at j).clock (at j).input
        pub rest : (k : ℕ) → ((j : ℕ) → j < n → (at j).checker ≢ k) → marked_in marks k ≡ false

      pub marked_start : (marks : List Bool) → length marks ≡ length c.instances → ((k : ℕ) → marked_in marks k ≡ false) → MarkedTo 0 marks
      marked_start marks long none = record { long = long; done = λ j below. absurd (omega (arith, below)); rest = λ k other. none k }

    module _ (are : AreDoubts c skew ds) where
      pub doubted : (j : ℕ) → j < length ds → doubt_at c skew (at j).checker ≡ Some (at j)
      doubted j below = (are (at j)).0 (Contains-get_or ds j nobody below)

      module _ (launched : ℕ → ℕ → Bool) where
        pub marked_more : (n : ℕ) (marks new : List Bool) (b : Bool) → n < length ds → b ≡ launched (at n).clock (at n).input →
            new ≡ set marks (at n).checker b → MarkedTo launched n marks → MarkedTo launched (n + 1) new
        marked_more n marks new b within mark put before = record {
          long = ap length put ∙ length-set marks here.checker b ∙ before.long;
          done = λ j below. elim (cases_eq (at j).checker here.checker) [
            | inl same ↦
                let inside : j < length ds = omega (arith, below, within) in
                let both : Some (at j) ≡ Some here = sym (doubted j inside) ∙ ap (doubt_at c skew) same ∙ doubted n within in
                let one : at j ≡ here = cc in
                ap (marked_in new) same ∙ at_here ∙ mark ∙ sym (ap (λ (x : Doubt). launched x.clock x.input) one)
            | inr other ↦ elim (cases_lt j n) [
              | inl less ↦ elsewhere (at j).checker other ∙ before.done j less
              | inr past ↦
                  let last : j ≡ n = omega (arith, below, past) in
                  absurd (other (ap (λ m. (at m).checker) last))
            ]
          ];
          rest = λ k other.
              elsewhere k (λ same. other n (omega arith) (sym same))
              ∙ before.rest k (λ j below. other j (omega (arith, below)));
        }
          where
            here : Doubt
            here = at n

            exists : here.checker < length marks
            exists = let inside = doubt_inside here.checker here (doubted n within) in let long = before.long in omega (arith, inside, long)

            at_here : marked_in new here.checker ≡ b
            at_here = ap (λ (ms : List Bool). marked_in ms here.checker) put ∙ get_or-set_same marks here.checker b false exists

            elsewhere : (k : ℕ) → k ≢ here.checker → marked_in new k ≡ marked_in marks k
            elsewhere k other = ap (λ (ms : List Bool). marked_in ms k) put ∙ get_or-set_other marks here.checker k b false other

        pub marked_all : (n : ℕ) (marks : List Bool) → n ≡ length ds → MarkedTo launched n marks → AreCommon c launched skew marks
        marked_all n marks whole is k exists = by (doubt_at c skew k) refl
          where
            by : (o : Option Doubt) → doubt_at c skew k ≡ o → marked_in marks k ≡ is_common_by launched o
            by None none = is.rest k (λ j below same.
                let no : None ≡ Some (at j) = sym none ∙ ap (doubt_at c skew) (sym same) ∙ doubted j (omega (arith, below, whole)) in
                absurd cc)
            by (Some d) tells =
                let own : d.checker ≡ k = own_doubt k d tells in
                let in_list : Contains ds d = (are d).1 (ap (doubt_at c skew) own ∙ tells) in
                let here : at in_list.0 ≡ d = get_or_default ds in_list.0 nobody d in_list.1 ∙ in_list.2 in
                let below = in_list.1 in
                sym (ap (λ (x : Doubt). marked_in marks x.checker) here ∙ ap (marked_in marks) own)
                ∙ is.done in_list.0 (omega (arith, below, whole))
                ∙ ap (λ (x : Doubt). launched x.clock x.input) here
