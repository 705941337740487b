-- What the checkers of setup and hold see, gathered one instance after the other.
use Rattle.std.proofs.Common.{◌≡◌, ℕ, ◌+◌, ◌==◌, ◌&&◌, ◌||◌, Bool, true, false, cond, List, [], ◌∷◌, ◌++◌, take, refl, sym, ap, ◌∙◌, slice_get, Option, Some, None}
use mathlib.Core.Bool.{beq}
use Rattle.std.specs.Cmp.{booleans_Decides}
use Rattle.std.specs.List.{list_any}
use Rattle.std.specs.Prelude.{if◌then◌else◌}
use Rattle.std.proofs.Math.Bool.{or-false}
use Rattle.std.proofs.lemmas.Bool.{and_parts, eqb-true}
use Rattle.std.proofs.lemmas.List.Folds.{list_any-append}
use Rattle.indexmap.specs.IndexSet.{insert_key}
use Rattle.element_kinds.specs.Kinds.{checks_points}
use Rattle.flat_circuit.specs.declared.instance.Instance.{Instance}
use Rattle.flat_circuit.specs.Circuit.{Circuit}
use Rattle.drawing_notes.specs.declared.unchecked.Sampling.{Sampling}
use Rattle.drawing_notes.specs.Pins.{is_latch}
use Rattle.drawing_notes.specs.Unchecked.{AreSeen, is_among, is_checked, is_it, is_same, is_watched, sampling_of, seen_by, sees}
use Rattle.drawing_omissions.proofs.Anys.{any_more, kept_same}

sees_by : (s : Sampling) (j : Instance) (b : Bool) → checks_points j.kind ≡ b → sees s j ≡ is_it s (cond b (sampling_of j) None)
sees_by s j true is = ap (λ b. b && is_it s (sampling_of j)) is
sees_by s j false is = ap (λ b. b && is_it s (sampling_of j)) is

sees_seen : (s : Sampling) (j : Instance) → sees s j ≡ is_it s (seen_by (Some j))
sees_seen s j = sees_by s j (checks_points j.kind) refl

-- A sampling is put to those that are seen, where there is one.
abbrev pub Puts : Option Sampling → List Sampling → List Sampling → Type 0
Puts o old new = (s : Sampling) → list_any (is_same s) new ≡ (list_any (is_same s) old || is_it s o)

pub puts_none : (seen : List Sampling) → Puts None seen seen
puts_none seen s = sym (or-false (list_any (is_same s) seen))

same_is : (s t : Sampling) → is_same s t ≡ true → s ≡ t
same_is s t is =
    let both = and_parts (s.clock == t.clock) (beq s.inverted t.inverted && ((s.input == t.input) && beq s.across t.across)) is in
    let others = and_parts (beq s.inverted t.inverted) ((s.input == t.input) && beq s.across t.across) both.1 in
    let last = and_parts (s.input == t.input) (beq s.across t.across) others.1 in
    let clock = eqb-true s.clock t.clock both.0 in
    let inverted = (booleans_Decides s.inverted t.inverted).0 others.0 in
    let input = eqb-true s.input t.input last.0 in
    let across = (booleans_Decides s.across t.across).0 last.1 in
    λ k. record { clock = clock k; inverted = inverted k; input = input k; across = across k }

pub puts_key : (eq : Sampling → Sampling → Bool) → ((a b : Sampling) → eq a b ≡ is_same a b) → (old new : List Sampling) (k : Sampling) →
    new ≡ insert_key eq old k → Puts (Some k) old new
puts_key eq same old new k put s = by (list_any (eq k) old) refl
  where
    there : list_any (eq k) old ≡ list_any (is_same k) old
    there = ap (λ (p : Sampling → Bool). list_any p old) (λ i x. same k x i)

    by : (b : Bool) → list_any (eq k) old ≡ b → list_any (is_same s) new ≡ (list_any (is_same s) old || is_same s k)
    by true e =
        let kept : new ≡ old = put ∙ ap (λ c. if c then old else old ++ k ∷ []) e in
        ap (list_any (is_same s)) kept
        ∙ kept_same (list_any (is_same s) old) (is_same s k) (λ is. ap (λ (t : Sampling). list_any (is_same t) old) (same_is s k is) ∙ sym there ∙ e)
    by false e =
        let more : new ≡ old ++ k ∷ [] = put ∙ ap (λ c. if c then old else old ++ k ∷ []) e in
        ap (list_any (is_same s)) more ∙ list_any-append (is_same s) old (k ∷ []) ∙ ap (λ b. list_any (is_same s) old || b) (or-false (is_same s k))

pub seen_more : (js : List Instance) (k : ℕ) (old new : List Sampling) → AreSeen (take k js) old → Puts (seen_by (slice_get js k)) old new → AreSeen (take (k + 1) js) new
seen_more js k old new before puts s =
    puts s ∙ ap (λ b. b || is_it s (seen_by (slice_get js k))) (before s) ∙ sym (any_more (sees s) (λ j. is_it s (seen_by j)) refl (sees_seen s) js k)

-- ---- all of them

pub among_checked : (c : Circuit) (seen : List Sampling) → AreSeen c.instances seen → (o : Option Sampling) (j : Instance) → is_among seen j.kind o ≡ is_checked c j.kind o
among_checked c seen are None j = refl
among_checked c seen are (Some s) j = λ k. is_watched (λ t. are t k) (is_latch j.kind) s
