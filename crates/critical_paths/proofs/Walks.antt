-- A walk that goes one event further.
use Rattle.std.proofs.Common.{◌≡◌, ℕ, zero, suc, ◌+◌, ◌≤◌, false, List, [], ◌∷◌, ◌++◌, length, slice_get, refl, sym, ap, subst, ◌∙◌, arith, Some, ◌⊎◌, inl, inr}
use Rattle.std.specs.List.{AllByRecursion, IsDistinct}
use Rattle.std.proofs.lemmas.Bool.{or_parts}
use Rattle.std.proofs.lemmas.Option.{same_Some, slice_get_within}
use Rattle.std.specs.Map.{keys_of}
use Rattle.critical_paths.specs.declared.direction.Corner.{Corner}
use Rattle.critical_paths.specs.declared.event.Stop.{Stop}
use Rattle.critical_paths.specs.declared.path.Passage.{Passage}
use Rattle.critical_paths.specs.declared.path.Origin.TheVariants.{Earlier}
use Rattle.flat_circuit.specs.Circuit.{Circuit}
use Rattle.fixpoint_engine.specs.Waves.{Waves}
use Rattle.critical_paths.specs.Walk.{origin_of, same_stop, stop_count}
use Rattle.critical_paths.specs.Known.{AreApart, AreStops, IsEntry, IsShort, IsStop, Walked, are_met, stop_after}
use Rattle.critical_paths.proofs.Few.{few_stops}

abbrev Entry : Type 0
Entry = Stop × Passage

get_split : {X : Type 0} (xs : List X) (y : X) (k : ℕ) (x : X) → slice_get (xs ++ y ∷ []) k
    ≡ Some x →
    (slice_get xs k ≡ Some x) ⊎ ((k ≡ length xs) × (y ≡ x))
get_split [] y zero x is = inr (refl, same_Some y x is)
get_split [] y (suc k) x is = absurd (cc)
get_split (z ∷ xs) y zero x is = inl is
get_split (z ∷ xs) y (suc k) x is = elim (get_split xs y k x is)
    [ inl h ↦ inl h | inr h ↦ inr (ap suc h.0, h.1) ]

after_more : (chain : List Entry) (t : Stop) (p : Passage) (u : Stop) (k : ℕ) → k ≤ length chain →
    stop_after (chain ++ (t, p) ∷ []) u k ≡ stop_after chain t k
after_more [] t p u zero below = refl
after_more [] t p u (suc k) below = absurd (omega arith)
after_more (e ∷ chain) t p u zero below = refl
after_more (e ∷ chain) t p u (suc k) below = after_more chain t p u k (omega (arith, below))

after_end : (chain : List Entry) (e : Entry) (u : Stop) → stop_after (chain ++ e ∷ []) u
    (length chain + 1) ≡ u
after_end [] e u = refl
after_end (x ∷ chain) e u =
    let one : suc (length chain) + 1 ≡ suc (length chain + 1) = omega arith in
    ap (stop_after (x ∷ (chain ++ e ∷ [])) u) one ∙ after_end chain e u

module _ (c : Circuit) (ws : Waves) where
  pub walked_none : (met : List (Stop × ℕ)) (start : Stop) → IsStop c start.corner start →
      (chain : List Entry) → chain ≡ [] →
      Walked c ws met start chain start
  walked_none met start stop chain none =
      subst (λ (l : List Entry). Walked c ws met start l start) (sym none) record {
        leads = record { each = λ k e at. absurd (cc) };
        begins = refl;
        stop = stop;
        stops = λ k e at. absurd (cc);
        new = λ k e less at. absurd (omega (arith, less));
        apart = λ j k d e less one other. absurd (cc);
      }

  not_met : (chain : List Entry) (t : Stop) (k : ℕ) (e : Entry) → are_met chain t ≡ false →
      slice_get chain k ≡ Some e → same_stop t e.0 ≡ false
  not_met [] t k e none at = absurd (cc)
  not_met (x ∷ chain) t zero e none at =
      ap (λ (y : Entry). same_stop t y.0) (sym (same_Some x e at))
      ∙ (or_parts (same_stop t x.0) _ none).0
  not_met (x ∷ chain) t (suc k) e none at = not_met chain t k e
      (or_parts (same_stop t x.0) _ none).1 at

  pub walked_more : (turn : (a b : Stop) → same_stop a b ≡ same_stop b a) (met : List (Stop × ℕ))
      (start : Stop) (chain : List Entry) (t : Stop) (p : Passage) (u : Stop) →
      Walked c ws met start chain t → are_met met t ≡ false → are_met chain t ≡ false →
      origin_of c ws t ≡ Earlier p u →
      IsShort p → IsStop c t.corner u → Walked c ws met start (chain ++ (t, p) ∷ []) u
  walked_more turn met start chain t p u walked new fresh from short stop =
      let corner : t.corner ≡ u.corner = sym stop.side in
      record {
        leads = record {
          each = λ k e at. elim (get_split chain (t, p) k e at) [
            | inl old ↦ walked.leads.each k e old ∙ ap (Earlier e.1)
                (sym (after_more chain t p u (k + 1) (within k e old)))
            | inr here ↦ ap (λ (x : Entry). origin_of c ws x.0) (sym here.1) ∙ from
                ∙ ap (λ (x : Entry). Earlier x.1 u) here.1
                ∙ ap (Earlier e.1) (sym (ap (λ (i : ℕ). stop_after (chain ++ (t, p) ∷ []) u (i + 1))
                here.0 ∙ after_end chain (t, p) u))
          ];
        };
        begins = after_more chain t p u 0 (omega arith) ∙ walked.begins;
        stop = subst (λ (k : Corner). IsStop c k u) corner stop;
        stops = λ k e at. elim (get_split chain (t, p) k e at) [
          | inl old ↦ subst (λ (x : Corner). IsEntry c x e) corner (walked.stops k e old)
          | inr here ↦ subst (IsEntry c u.corner) here.1 record
              { stop = subst (λ (x : Corner). IsStop c x t) corner walked.stop; short = short }
        ];
        new = λ k e less at. elim (get_split chain (t, p) k e at) [
          | inl old ↦ walked.new k e (slice_get_within chain k e old) old
          | inr here ↦ ap (λ (x : Entry). are_met met x.0) (sym here.1) ∙ new
        ];
        apart = λ j k d e less one other. elim (get_split chain (t, p) j d one) [
          | inl old ↦ elim (get_split chain (t, p) k e other) [
            | inl old' ↦ walked.apart j k d e less old old'
            | inr here ↦ ap (λ (x : Entry). same_stop d.0 x.0) (sym here.1) ∙ turn d.0 t
                ∙ not_met chain t j d fresh old
          ]
          | inr here ↦ elim (get_split chain (t, p) k e other) [
            | inl old' ↦ let inside = slice_get_within chain k e old' in let at = here.0 in
                absurd (omega (arith, less, inside, at))
            | inr there ↦ let at = here.0 in let at' = there.0 in
                absurd (omega (arith, less, at, at'))
          ]
        ];
      }
    where
      within : (k : ℕ) (e : Entry) → slice_get chain k ≡ Some e → k + 1 ≤ length chain
      within k e old = let inside = slice_get_within chain k e old in omega (arith, inside)

  -- ---- a chain is short

  apart_first : (x : Entry) (chain : List Entry) →
      ((k : ℕ) (e : Entry) → slice_get chain k ≡ Some e → same_stop x.0 e.0 ≡ false) →
      AllByRecursion (λ y. same_stop x.0 y ≡ false) (keys_of chain)
  apart_first x [] each = tt
  apart_first x (y ∷ chain) each = (
    each 0 y refl,
    apart_first x chain
        (λ k e at. each (suc k) e at),
  )

  apart_distinct : (chain : List Entry) → AreApart chain → IsDistinct same_stop (keys_of chain)
  unfolding IsDistinct
  apart_distinct [] apart = tt
  apart_distinct (x ∷ chain) apart = (
    apart_first x chain (λ k e at. apart 0 (suc k) x e (omega arith) refl at),
    apart_distinct chain (λ j k d e less one other. apart (suc j) (suc k) d e (omega (arith, less))
        one other),
  )

  stops_each : (corner : Corner) (chain : List Entry) → AreStops c corner chain →
      AllByRecursion (IsStop c corner) (keys_of chain)
  stops_each corner [] stops = tt
  stops_each corner (x ∷ chain) stops = (
    (stops 0 x refl).stop,
    stops_each corner chain
        (λ k e at. stops (suc k) e at),
  )

  keys_long : (chain : List Entry) → length (keys_of chain) ≡ length chain
  keys_long [] = refl
  keys_long (x ∷ chain) = ap suc (keys_long chain)

  pub chain_short : (corner : Corner) (chain : List Entry) → AreStops c corner chain →
      AreApart chain → length chain ≤ stop_count c
  chain_short corner chain stops apart =
      let few = few_stops c corner (keys_of chain) (stops_each corner chain stops)
      (apart_distinct chain apart) in
      let long = keys_long chain in
      omega (arith, few, long)

pub push_long : {X : Type 0} (xs : List X) (y : X) → length (xs ++ y ∷ []) ≡ length xs + 1
push_long [] y = refl
push_long (x ∷ xs) y = let ih = push_long xs y in omega (arith, ih)
