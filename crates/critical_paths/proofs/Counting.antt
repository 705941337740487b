-- The parts of a path, node by node, and those that two paths have.
use Rattle.std.proofs.Common.{◌≡◌, ℕ, zero, suc, ◌+◌, ◌<◌, ◌≤◌, Bool, true, false, not, ◌&&◌, ◌||◌, cond, eqb, List, [], ◌∷◌, ◌++◌, length, slice_get, take, drop, refl, sym, ap, ◌∙◌, arith, append-nil, append_assoc, Option, Some, None, inl, inr}
use Rattle.std.specs.Prelude.{filter, nat_lt}
use Rattle.std.specs.List.{flat_map}
use Rattle.std.specs.Option.{option_map}
use Rattle.std.proofs.lemmas.Bool.{and_parts, eqb-true}
use Rattle.std.proofs.lemmas.Bool.Decides.{eqb_tells}
use Rattle.std.proofs.lemmas.List.{take_more}
use Rattle.std.proofs.lemmas.List.Folds.{list_any-append}
use Rattle.std.proofs.lemmas.Option.{get_or_from_slice_get, slice_get_within}
use Rattle.flat_circuit.specs.declared.instance.Instance.{Instance}
use Rattle.flat_circuit.specs.Circuit.{Circuit, IsCircuit, driver_at}
use Rattle.critical_paths.specs.declared.common.Counted.{Counted}
use Rattle.critical_paths.specs.declared.common.Part.{Part}
use Rattle.critical_paths.specs.declared.common.Part.TheVariants.{Delay, RiseOf, FallOf, Wire, Offset}
use Rattle.critical_paths.specs.declared.direction.Direction.{Direction}
use Rattle.critical_paths.specs.declared.path.Node.{Node}
use Rattle.critical_paths.specs.declared.path.Passage.{Passage}
use Rattle.critical_paths.specs.Common.{counted_twice_known, delay_parts, driver_parts, is_part_of, is_twice, link_parts, node_parts, of_both, once_from, parts, same_part, source_parts, step_parts, through_parts, wire_parts}
use Rattle.critical_paths.specs.Event.{Event, turned}
use Rattle.critical_paths.specs.Path.{End, Path}
use Rattle.critical_paths.specs.Known.{end_of, link_on, path_on, path_known, rest_of, known_by, way_by, way_of}
use Rattle.critical_paths.specs.Walk.{link}
use Rattle.critical_paths.proofs.Origins.{fits_at, split_counts}
use Rattle.critical_paths.proofs.Stepping.{drop_end, drop_here}

-- ---- through the driver of a net

module _ (c : Circuit) (e : Event) (i : ℕ) where
  pub no_number : (out : List Counted) → driver_at c.nets e.net ≡ None →
      out ≡ out ++ driver_parts c e i (driver_at c.nets e.net)
  no_number out none =
      sym (ap (λ (o : Option ℕ). out ++ driver_parts c e i o) none ∙ append-nil out)

  pub no_instance : (out : List Counted) (k : ℕ) → driver_at c.nets e.net ≡ Some k →
      slice_get c.instances k ≡ None →
      out ≡ out ++ driver_parts c e i (driver_at c.nets e.net)
  no_instance out k at none =
      sym (ap (λ (o : Option ℕ). out ++ driver_parts c e i o) at
      ∙ ap (λ (o : Option Instance). out ++ through_parts c e k i o) none
      ∙ append-nil out)

  pub through_is : (out with_delay new : List Counted) (k : ℕ) (j : Instance) (own : Direction) →
      IsCircuit c →
      driver_at c.nets e.net ≡ Some k → slice_get c.instances k ≡ Some j →
      own ≡ turned j.out_inverted e.direction →
      with_delay ≡ out ++ delay_parts k j own j.split →
      new ≡ with_delay ++ wire_parts c k i (slice_get j.pins i) →
      new ≡ out ++ driver_parts c e i (driver_at c.nets e.net)
  through_is out with_delay new k j own is at there own_is delay_is wire_is =
      let wire = wire_parts c k i (slice_get j.pins i) in
      let fits = fits_at c is k j there in
      wire_is ∙ ap (λ (l : List Counted). l ++ wire) delay_is
      ∙ append_assoc out (delay_parts k j own j.split) wire
      ∙ ap (λ (d : Direction). out ++ (delay_parts k j d j.split ++ wire)) own_is
      ∙ sym (ap (λ (o : Option ℕ). out ++ driver_parts c e i o) at
      ∙ ap (λ (o : Option Instance). out ++ through_parts c e k i o) there
      ∙ ap (λ two. out ++ (delay_parts k j (turned j.out_inverted e.direction) two ++ wire))
      (split_counts j.kind j.delay j.split fits.split))

-- ---- node by node

module _ (c : Circuit) (end : End) where
  abbrev pub parts_from : List Node → List Counted
  parts_from [] = []
  parts_from (n ∷ []) = source_parts c n.stop.net end
  parts_from (n ∷ m ∷ more) = step_parts c n.stop n.passage ++ parts_from (m ∷ more)

  pub parts_are : (n : Node) (rest : List Node) → parts c (path_on end n rest)
      ≡ parts_from (n ∷ rest)
  parts_are n [] = refl
  parts_are n (m ∷ more) = by n.passage (parts_are m more)
    where
      by : (o : Option Passage) → parts c (path_on end m more) ≡ parts_from (m ∷ more) →
          parts c (link_on n.stop (path_on end m more) o) ≡ step_parts c n.stop o ++ parts_from
          (m ∷ more)
      by None rest = rest
      by (Some p) rest =
          let path = path_on end m more in
          append_assoc (link_parts c (link n.stop p)) (flat_map (link_parts c) path.links)
          (source_parts c path.last.net path.end)
          ∙ ap (λ (l : List Counted). link_parts c (link n.stop p) ++ l) rest

  -- one node more
  pub parts_more : (way : List Node) (place : ℕ) (out all : List Counted) (n : Node) →
      slice_get way place ≡ Some n →
      out ++ parts_from (drop place way) ≡ all →
      (out ++ node_parts c end n (eqb (place + 1) (length way))) ++ parts_from
      (drop (place + 1) way) ≡ all
  parts_more way place out all n at so_far =
      let here : out ++ parts_from (n ∷ drop (place + 1) way) ≡ all =
      sym (ap (λ (l : List Node). out ++ parts_from l) (drop_here way place n at)) ∙ so_far in
      elim (eqb_tells (place + 1) (length way)) [
        | inl last ↦
            let past : length way ≤ place + 1 = (let e = last.1 in omega (arith, e)) in
            ap (λ (b : Bool). (out ++ node_parts c end n b) ++ parts_from (drop (place + 1) way))
            last.0
            ∙ ap (λ (l : List Node). (out ++ source_parts c n.stop.net end) ++ parts_from l)
            (drop_end way (place + 1) past)
            ∙ append-nil (out ++ source_parts c n.stop.net end)
            ∙ sym (ap (λ (l : List Node). out ++ parts_from (n ∷ l))
            (drop_end way (place + 1) past)) ∙ here
        | inr more ↦
            let inside = slice_get_within way place n at in
            let ne = more.1 in
            let below : place + 1 < length way = omega (arith, inside, ne) in
            ap (λ (b : Bool). (out ++ node_parts c end n b) ++ parts_from (drop (place + 1) way))
            more.0
            ∙ append_assoc out (step_parts c n.stop n.passage) (parts_from (drop (place + 1) way))
            ∙ sym (ap (λ (l : List Counted). out ++ l) (first_of_more n (drop (place + 1) way)
            (some_left way (place + 1) below))) ∙ here
      ]
    where
      some_left : (l : List Node) (k : ℕ) → k < length l → (m : Node) ×
          ((more : List Node) × (drop k l ≡ m ∷ more))
      some_left [] k less = absurd (omega (arith, less))
      some_left (x ∷ l) zero less = (x, (l, refl))
      some_left (x ∷ l) (suc k) less = some_left l k (omega (arith, less))

      first_of_more : (n : Node) (l : List Node) → (m : Node) ×
          ((more : List Node) × (l ≡ m ∷ more)) →
          parts_from (n ∷ l) ≡ step_parts c n.stop n.passage ++ parts_from l
      first_of_more n l (m, (more, is)) =
          ap (λ (x : List Node). parts_from (n ∷ x)) is
          ∙ sym (ap (λ (x : List Node). step_parts c n.stop n.passage ++ parts_from x) is)

  pub parts_done : (way : List Node) (place : ℕ) (out all : List Counted) → length way ≤ place →
      out ++ parts_from (drop place way) ≡ all → out ≡ all
  parts_done way place out all past so_far =
      sym (append-nil out)
      ∙ sym (ap (λ (l : List Node). out ++ parts_from l) (drop_end way place past)) ∙ so_far

-- of what the node of a number tells
pub parts_noted : (c : Circuit) (nodes : List Node) (i : ℕ) (n : Node) → slice_get nodes i ≡ Some n →
    Some (parts_from c (end_of n.end) (way_of nodes i)) ≡ option_map (parts c) (path_known nodes i)
parts_noted c nodes i n at =
    ap (λ (o : Option Node). Some (parts_from c (end_of n.end) (way_by nodes o))) at
    ∙ sym (ap Some (parts_are c (end_of n.end) n (rest_of nodes n)))
    ∙ sym (ap (λ (o : Option Node). option_map (parts c) (known_by nodes o)) at)

-- ---- those of both

same_is : (a b : Part) → same_part a b ≡ true → a ≡ b
same_is (Delay k) (Delay l) h = ap Delay (eqb-true k l h)
same_is (RiseOf k) (RiseOf l) h = ap RiseOf (eqb-true k l h)
same_is (FallOf k) (FallOf l) h = ap FallOf (eqb-true k l h)
same_is (Wire k i) (Wire l j) h =
    let both = and_parts (eqb k l) (eqb i j) h in
    ap (λ (x : ℕ). Wire x i) (eqb-true k l both.0) ∙ ap (Wire l) (eqb-true i j both.1)
same_is (Offset k) (Offset l) h = ap Offset (eqb-true k l h)
same_is a b h = absurd (cc)

-- the same parts are in both
abbrev Agree : List Counted → List Counted → Type 0
Agree one other = (q : Part) → is_part_of one q ≡ is_part_of other q

once_agrees : (one other xs : List Counted) → Agree one other → once_from one xs
    ≡ once_from other xs
once_agrees one other [] same = refl
once_agrees one other (x ∷ xs) same =
    ap (λ (b : Bool). cond b (once_from one xs) (x ∷ once_from (x ∷ one) xs)) (same x.part)
    ∙ by (is_part_of other x.part) (once_agrees one other xs same)
    (once_agrees (x ∷ one) (x ∷ other) xs (λ q. ap (λ (b : Bool). same_part x.part q || b)
    (same q)))
  where
    by : (b : Bool) → once_from one xs ≡ once_from other xs → once_from (x ∷ one) xs
        ≡ once_from (x ∷ other) xs →
        cond b (once_from one xs) (x ∷ once_from (x ∷ one) xs) ≡ cond b (once_from other xs)
        (x ∷ once_from (x ∷ other) xs)
    by true old new = old
    by false old new = ap (λ (l : List Counted). x ∷ l) new

or_turned : (a b : Bool) → (a || b) ≡ (b || a)
or_turned true true = refl
or_turned true false = refl
or_turned false true = refl
or_turned false false = refl

or_none : (a : Bool) → (a || false) ≡ a
or_none true = refl
or_none false = refl

-- one that is new comes to those before
new_agrees : (seen : List Counted) (x : Counted) → Agree (x ∷ seen) (seen ++ x ∷ [])
new_agrees seen x q =
    or_turned (same_part x.part q) (is_part_of seen q)
    ∙ sym (list_any-append (λ (y : Counted). same_part y.part q) seen (x ∷ [])
    ∙ ap (λ (b : Bool). is_part_of seen q || b) (or_none (same_part x.part q)))

-- one that is there already changes nothing
old_agrees : (seen : List Counted) (x : Counted) → is_part_of seen x.part ≡ true →
    Agree seen (seen ++ x ∷ [])
old_agrees seen x there q =
    by (same_part x.part q) refl
    ∙ sym (list_any-append (λ (y : Counted). same_part y.part q) seen (x ∷ [])
    ∙ ap (λ (b : Bool). is_part_of seen q || b) (or_none (same_part x.part q)))
  where
    or_true : (a : Bool) → (a || true) ≡ true
    or_true true = refl
    or_true false = refl

    by : (b : Bool) → same_part x.part q ≡ b → is_part_of seen q ≡ (is_part_of seen q || b)
    by true is =
        sym (ap (is_part_of seen) (same_is x.part q is)) ∙ there ∙ sym (or_true (is_part_of seen q))
    by false is = sym (or_none (is_part_of seen q))

module _ (other : List Counted) where
  abbrev passes : Counted → Bool
  passes x = nat_lt 0 x.amount && is_part_of other x.part

  abbrev pub left_of : List Counted → List Counted → List Counted
  left_of seen xs = filter passes (once_from seen xs)

  -- what one part adds
  abbrev pub added : Bool → Counted → List Counted
  added b x = cond b (x ∷ []) []

  first_left : (seen xs : List Counted) (x : Counted) →
      left_of seen (x ∷ xs) ≡ added (is_twice seen other x) x ++ left_of (seen ++ x ∷ []) xs
  first_left seen xs x = by (is_part_of seen x.part) refl
    where
      new : (b : Bool) → cond b (x ∷ left_of (x ∷ seen) xs) (left_of (x ∷ seen) xs)
          ≡ added b x ++ left_of (x ∷ seen) xs
      new true = refl
      new false = refl

      by : (b : Bool) → is_part_of seen x.part ≡ b →
          filter passes (cond b (once_from seen xs) (x ∷ once_from (x ∷ seen) xs)) ≡ added (not b &&
          passes x) x ++ left_of (seen ++ x ∷ []) xs
      by true there =
          ap (filter passes) (once_agrees seen (seen ++ x ∷ []) xs (old_agrees seen x there))
      by false fresh =
          new (passes x)
          ∙ ap (λ (l : List Counted). added (passes x) x ++ filter passes l)
          (once_agrees (x ∷ seen) (seen ++ x ∷ []) xs (new_agrees seen x))

  -- one place more
  pub twice_more : (own : List Counted) (place : ℕ) (twice now all : List Counted) (x : Counted)
      (noted : Bool) → slice_get own place ≡ Some x →
      noted ≡ is_twice (take place own) other x → now ≡ cond noted (twice ++ x ∷ []) twice →
      twice ++ left_of (take place own) (drop place own) ≡ all →
      now ++ left_of (take (place + 1) own) (drop (place + 1) own) ≡ all
  twice_more own place twice now all x noted at noted_is now_is so_far =
      let seen = take place own in
      let rest = drop (place + 1) own in
      let inside = slice_get_within own place x at in
      let taken : take (place + 1) own ≡ seen ++ x ∷ [] =
      take_more own place x inside
      ∙ ap (λ (y : Counted). seen ++ y ∷ []) (get_or_from_slice_get own place x x at) in
      ap (λ (l : List Counted). l ++ left_of (take (place + 1) own) rest) (now_is ∙ put noted)
      ∙ append_assoc twice (added noted x) (left_of (take (place + 1) own) rest)
      ∙ ap (λ (l : List Counted). twice ++ (added noted x ++ left_of l rest)) taken
      ∙ ap (λ (b : Bool). twice ++ (added b x ++ left_of (seen ++ x ∷ []) rest)) noted_is
      ∙ sym (ap (λ (l : List Counted). twice ++ l) (first_left seen rest x))
      ∙ sym (ap (λ (l : List Counted). twice ++ left_of seen l) (drop_here own place x at))
      ∙ so_far
    where
      put : (b : Bool) → cond b (twice ++ x ∷ []) twice ≡ twice ++ added b x
      put true = refl
      put false = sym (append-nil twice)

  pub twice_done : (own : List Counted) (place : ℕ) (twice all : List Counted) →
      length own ≤ place →
      twice ++ left_of (take place own) (drop place own) ≡ all → twice ≡ all
  twice_done own place twice all past so_far =
      sym (append-nil twice)
      ∙ sym (ap (λ (l : List Counted). twice ++ left_of (take place own) l)
      (drop_end own place past)) ∙ so_far

-- of two paths that are told
pub both_noted : (c : Circuit) (one other : Option Path) (own more found : List Counted) →
    Some own ≡ option_map (parts c) one →
    Some more ≡ option_map (parts c) other → found ≡ of_both own more →
    Some found ≡ counted_twice_known c one other
both_noted c None other own more found own_is more_is is = absurd (cc)
both_noted c (Some path) None own more found own_is more_is is = absurd (cc)
both_noted c (Some path) (Some clock) own more found own_is more_is is =
    let first : own ≡ parts c path = cc in
    let second : more ≡ parts c clock = cc in
    ap Some (is ∙ ap (λ (l : List Counted). of_both l more) first
    ∙ ap (of_both (parts c path)) second)
