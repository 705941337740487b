-- What is drawn at one instance more.
use Rattle.std.proofs.Common.{◌≡◌, ℕ, zero, suc, ◌+◌, ◌<◌, List, [], ◌∷◌, ◌++◌, length, map, take, Some, refl, ap, sym, subst, ◌∙◌, arith, inl, inr}
use Rattle.std.specs.Prelude.{slice_get}
use Rattle.std.proofs.lemmas.Bool.{cases_eq}
use Rattle.std.proofs.lemmas.List.{take_more, map-append, length-append}
use Rattle.std.proofs.lemmas.Option.{get_or_from_slice_get, slice_get_within, same_Some}
use Rattle.rand_core.specs.Stream.{Stream}
use Rattle.flat_circuit.specs.declared.instance.Instance.{Instance}
use Rattle.flat_circuit.specs.Circuit.{Circuit}
use Rattle.trace_sim.specs.Choice.{PickFits}
use Rattle.trace_sim.specs.Draw.{draw_each}
use Rattle.trace_sim.specs.Drawn.{ArePicks, Pick, delays_of, draw_pick, wires_of}
use Rattle.trace_sim.proofs.Each.{at_last}

-- ---- a list with one item more

old_item : {X : Type 0} (xs : List X) (x : X) (k : ℕ) → k < length xs → slice_get (xs ++ x ∷ []) k ≡ slice_get xs k
old_item [] x k below = absurd (omega arith)
old_item (y ∷ ys) x zero below = refl
old_item (y ∷ ys) x (suc k) below = old_item ys x k (omega arith)

new_item : {X : Type 0} (xs : List X) (x : X) → slice_get (xs ++ x ∷ []) (length xs) ≡ Some x
new_item [] x = refl
new_item (y ∷ ys) x = new_item ys x

last_is : {X : Type 0} (xs : List X) (x y : X) (k : ℕ) → k ≡ length xs → slice_get (xs ++ x ∷ []) k ≡ Some y → x ≡ y
last_is xs x y k at is = same_Some x y (sym (new_item xs x) ∙ ap (slice_get (xs ++ x ∷ [])) (sym at) ∙ is)

-- ---- the picks of the first instances

abbrev first_picks : Circuit → ℕ → Stream → List Pick × Stream
first_picks c k s = draw_each (draw_pick c.nets) (take k c.instances) s

pub record NextPicks (c : Circuit) (k : ℕ) (s after : Stream) (delays : List (ℕ × ℕ)) (wires : List (List ℕ)) : Type 0 where
  pub are_delays : delays ≡ map delays_of (first_picks c (k + 1) s).0
  pub are_wires : wires ≡ map wires_of (first_picks c (k + 1) s).0
  pub rest : after ≡ (first_picks c (k + 1) s).1

pub next_picks : (c : Circuit) (k : ℕ) (i : Instance) (s middle after : Stream) (delays : List (ℕ × ℕ)) (wires : List (List ℕ)) (pick : ℕ × ℕ) (row : List ℕ) →
    slice_get c.instances k ≡ Some i → delays ≡ map delays_of (first_picks c k s).0 → wires ≡ map wires_of (first_picks c k s).0 →
    middle ≡ (first_picks c k s).1 → ((pick, row), after) ≡ draw_pick c.nets i middle →
    NextPicks c k s after (delays ++ pick ∷ []) (wires ++ row ∷ [])
next_picks c k i s middle after delays wires pick row here ds ws rest one =
    record {
      are_delays =
          ap (λ (xs : List (ℕ × ℕ)). xs ++ pick ∷ []) ds ∙ ap (λ (q : Pick × Stream). map delays_of before.0 ++ delays_of q.0 ∷ []) drawn
          ∙ sym (map-append delays_of before.0 (last.0 ∷ [])) ∙ ap (λ (q : List Pick × Stream). map delays_of q.0) (sym more);
      are_wires =
          ap (λ (xs : List (List ℕ)). xs ++ row ∷ []) ws ∙ ap (λ (q : Pick × Stream). map wires_of before.0 ++ wires_of q.0 ∷ []) drawn
          ∙ sym (map-append wires_of before.0 (last.0 ∷ [])) ∙ ap (λ (q : List Pick × Stream). map wires_of q.0) (sym more);
      rest = ap (λ (q : Pick × Stream). q.1) drawn ∙ ap (λ (q : List Pick × Stream). q.1) (sym more);
    }
  where
    before : List Pick × Stream
    before = first_picks c k s

    last : Pick × Stream
    last = draw_pick c.nets i (first_picks c k s).1

    taken : take (k + 1) c.instances ≡ take k c.instances ++ i ∷ []
    taken = take_more c.instances k i (slice_get_within c.instances k i here)
        ∙ ap (λ (j : Instance). take k c.instances ++ j ∷ []) (get_or_from_slice_get c.instances k i i here)

    more : first_picks c (k + 1) s ≡ (before.0 ++ last.0 ∷ [], last.1)
    more = ap (λ (is : List Instance). draw_each (draw_pick c.nets) is s) taken ∙ at_last (draw_pick c.nets) (take k c.instances) i s

    drawn : ((pick, row), after) ≡ last
    drawn = one ∙ ap (draw_pick c.nets i) rest

pub one_fits : (c : Circuit) (k : ℕ) (i : Instance) (delays : List (ℕ × ℕ)) (wires : List (List ℕ)) (pick : ℕ × ℕ) (row : List ℕ) →
    slice_get c.instances k ≡ Some i → ArePicks c k delays wires → PickFits c i pick row → ArePicks c (k + 1) (delays ++ pick ∷ []) (wires ++ row ∷ [])
one_fits c k i delays wires pick row here are fits = record {
  each_delays = (let n = length-append delays (pick ∷ []) in let m = are.each_delays in omega arith);
  each_wires = (let n = length-append wires (row ∷ []) in let m = are.each_wires in omega arith);
  fit = fit;
}
  where
    fit : (j : ℕ) (other : Instance) (p : ℕ × ℕ) (r : List ℕ) → slice_get c.instances j ≡ Some other →
        slice_get (delays ++ pick ∷ []) j ≡ Some p → slice_get (wires ++ row ∷ []) j ≡ Some r → PickFits c other p r
    fit j other p r there is_p is_r =
        let inside = slice_get_within (delays ++ pick ∷ []) j p is_p in
        let n = length-append delays (pick ∷ []) in
        let m = are.each_delays in
        let w = are.each_wires in
        elim (cases_eq j k) as (λ _. PickFits c other p r) [
          | inl same ↦
              let e : i ≡ other = same_Some i other (sym here ∙ ap (slice_get c.instances) (sym same) ∙ there) in
              let d = last_is delays pick p j (omega arith) is_p in
              let v = last_is wires row r j (omega arith) is_r in
              subst (λ (x : Instance). PickFits c x p r) e (subst (λ (x : ℕ × ℕ). PickFits c i x r) d (subst (λ (x : List ℕ). PickFits c i pick x) v fits))
          | inr apart ↦
              are.fit j other p r there (sym (old_item delays pick j (omega arith)) ∙ is_p) (sym (old_item wires row j (omega arith)) ∙ is_r)
        ]
