-- The search for places that are not worked out: what it leaves begun comes from a loop.
use Rattle.std.proofs.Common.{◌≡◌, ℕ, ◌+◌, ◌-◌, ◌<◌, ◌≤◌, Bool, true, false, cond, List, [], ◌∷◌, ◌++◌, length, take, refl, sym, ap, subst, ◌∙◌, arith, Option, Some, None, inl, inr, is_some}
use Rattle.std.specs.Prelude.{IfNone, slice_get}
use Rattle.std.proofs.lemmas.Bool.{cases_lt}
use Rattle.std.proofs.lemmas.Option.{same_Some, slice_get_within}
use Rattle.flat_circuit.specs.Circuit.{Circuit, IsCircuit, driver}
use Rattle.flat_circuit.specs.declared.instance.Instance.{Instance}
use Rattle.fixpoint_engine.specs.Waves.{Waves}
use Rattle.critical_paths.specs.declared.frames.Frame.{Frame}
use Rattle.critical_paths.specs.declared.arrival.Known.{Known}
use Rattle.critical_paths.specs.declared.arrival.Known.TheVariants.{Begun, Done}
use Rattle.critical_paths.specs.declared.arrival.Place.{Place}
use Rattle.critical_paths.specs.declared.path.Passage.{Passage}
use Rattle.critical_paths.specs.Arrival.{arrivals}
use Rattle.critical_paths.specs.Reached.{AreDoneBehind, ArePassed, IsBehind, IsFew, IsSearch, StaysDone, behind_at, is_done, is_done_known, known_of, same_place}
use Rattle.critical_paths.proofs.Nodes.{get_end, get_more}
use Rattle.critical_paths.proofs.Places.{place_is, place_self}
use Rattle.critical_paths.proofs.Walks.{push_long}
use Rattle.critical_paths.proofs.Behind.{few_behind, pin_within}
use Rattle.critical_paths.proofs.Ways.{after_one}
use Rattle.critical_paths.proofs.Chains.{IsChain, before_chain, few_along, loop_never, pushed_chain}

pub either : {A : Type 0} (b : Bool) → (b ≡ true → A) → (b ≡ false → A) → A
either true so not = so refl
either false so not = not refl

pub none_then : {A : Type 0} {P Q : Type 0} (o : Option A) → IfNone o P → (P → Q) → IfNone o Q
none_then None holds then = then holds
none_then (Some x) holds then = tt

-- where nothing was taken from the end, nothing stood there
pub none_taken : {X : Type 0} (old new : List X) (n : ℕ) → n ≡ 0 → new ≡ take (n - 1) old →
    old ≡ new ++ [] → old ≡ []
none_taken old new n none rest is =
    is ∙ ap (λ (l : List _). l ++ []) (rest ∙ ap (λ (m : ℕ). take (m - 1) old) none)

-- ---- what is known of one place

begun_open : (o : Option Known) → o ≡ Some Begun → is_done_known o ≡ true → ⊥
begun_open o begun done = let other : is_done_known o ≡ false = ap is_done_known begun in absurd (cc)

open_begun : (o : Option Known) → is_some o ≡ true → is_done_known o ≡ false → o ≡ Some Begun
open_begun None some undone = absurd (cc)
open_begun (Some Begun) some undone = refl
open_begun (Some (Done from past)) some undone = absurd (cc)

none_open : (o : Option Known) → is_some o ≡ false → is_done_known o ≡ true → ⊥
none_open None none done = absurd (cc)
none_open (Some k) none done = absurd (cc)

some_done : (o : Option Known) → is_some o ≡ true → (o ≡ Some Begun → ⊥) → is_done_known o ≡ true
some_done None some none = absurd (cc)
some_done (Some Begun) some none = absurd (none refl)
some_done (Some (Done from past)) some none = refl

-- what is begun leaves what is done as it was
pub begun_stays : (entries after : List (Place × Known)) (b : Place) → is_some (known_of entries b) ≡ false →
    ((q : Place) → known_of after q ≡ cond (same_place b q) (Some Begun) (known_of entries q)) →
    StaysDone entries after
begun_stays entries after b new set q done = by (same_place b q) refl
  where
    by : (same : Bool) → same_place b q ≡ same → is_done after q ≡ true
    by true same =
        let one : b ≡ q = place_is b q same in
        absurd (none_open (known_of entries q)
        (sym (ap (λ (p : Place). is_some (known_of entries p)) one) ∙ new) done)
    by false other =
        ap is_done_known (set q ∙ ap (λ (x : Bool). cond x (Some Begun) (known_of entries q)) other)
        ∙ done

-- what is done stays so as another place is
pub done_stays : (entries after : List (Place × Known)) (place : Place) (from past : ℕ) →
    ((q : Place) →
    known_of after q ≡ cond (same_place place q) (Some (Done from past)) (known_of entries q)) →
    StaysDone entries after
done_stays entries after place from past set q done = by (same_place place q) refl
  where
    by : (same : Bool) → same_place place q ≡ same → is_done after q ≡ true
    by true same = ap is_done_known
        (set q ∙ ap (λ (x : Bool). cond x (Some (Done from past)) (known_of entries q)) same)
    by false other = ap is_done_known
        (set q ∙ ap (λ (x : Bool). cond x (Some (Done from past)) (known_of entries q)) other)
        ∙ done

-- ---- those behind all pins

pub passed_all : (c : Circuit) (entries : List (Place × Known)) (q : Place) (from past : ℕ)
    (j : Instance) → driver c q.net ≡ Some j → length j.pins ≡ past →
    ArePassed c entries q 0 from → ArePassed c entries q from past → AreDoneBehind c entries q
passed_all c entries q from past j driven long before after behind b =
    let one : b.element ≡ j = same_Some b.element j (sym b.driven ∙ driven) in
    let pins : length b.element.pins ≡ length j.pins = ap (λ (e : Instance). length e.pins) one in
    let within = pin_within c q behind b in
    elim (cases_lt b.pin from) [
      | inl less ↦ before behind b (omega arith) less
      | inr more ↦ after behind b more (omega (arith, within, pins, long))
    ]

-- what has no driver has nothing behind it
pub none_behind : (c : Circuit) (entries : List (Place × Known)) (q : Place) →
    driver c q.net ≡ None → AreDoneBehind c entries q
none_behind c entries q none behind b = absurd (let is = b.driven in cc)

-- with the one behind one pin more
pub passed_more : (c : Circuit) (entries : List (Place × Known)) (q : Place) (from at : ℕ)
    (j : Instance) → driver c q.net ≡ Some j →
    ((behind : Place × Passage) → behind_at c j q at ≡ Some behind →
    is_done entries behind.0 ≡ true) →
    ArePassed c entries q from at → ArePassed c entries q from (at + 1)
passed_more c entries q from at j driven done before behind b low high =
    elim (cases_lt b.pin at) [
      | inl less ↦ before behind b low less
      | inr more ↦
          let one : b.element ≡ j = same_Some b.element j (sym b.driven ∙ driven) in
          let here : b.pin ≡ at = omega (arith, more, high) in
          done behind (sym (λ i. behind_at c (one i) q (here i)) ∙ b.at)
    ]

-- ---- the steps of the search

module _ (c : Circuit) (ws : Waves) where
  module _ (entries after : List (Place × Known)) (rest : List Frame) (frame : Frame)
      (s : IsSearch c ws entries (rest ++ frame ∷ [])) where
    abbrev top : slice_get (rest ++ frame ∷ []) (length rest) ≡ Some frame
    top = get_end rest frame

    -- a place is ended
    pub search_finished : ((q : Place) → same_place frame.place q ≡ false →
        known_of after q ≡ known_of entries q) → StaysDone entries after →
        (IsFew c ws frame.place → is_done after frame.place ≡ true) → IsSearch c ws after rest
    search_finished others stays done = record {
      chain = before_chain c ws rest frame s.chain;
      passed = λ k f at behind b low high. stays behind.0
          (s.passed k f (get_more rest (frame ∷ []) k f at) behind b low high);
      ended = λ q begun few. by q begun few (same_place frame.place q) refl;
    }
      where
        by : (q : Place) → known_of after q ≡ Some Begun → IsFew c ws q → (same : Bool) →
            same_place frame.place q ≡ same →
            (k : ℕ) × ((f : Frame) × (slice_get rest k ≡ Some f) × (f.place ≡ q))
        by q begun few true same =
            let one : frame.place ≡ q = place_is frame.place q same in
            absurd (begun_open (known_of after q) begun
            (subst (λ (x : Place). is_done after x ≡ true) one
            (done (subst (IsFew c ws) (sym one) few))))
        by q begun few false other =
            let found = s.ended q (sym (others q other) ∙ begun) few in
            elim (after_one rest frame found.1.0 found.0 found.1.1) [
              | inl last ↦
                  let same : same_place frame.place q ≡ true =
                  subst (λ (x : Place). same_place frame.place x ≡ true)
                  (ap (λ (x : Frame). x.place) (sym last.1) ∙ found.1.2)
                  (place_self frame.place) in
                  absurd (cc)
              | inr before ↦ (found.0, (found.1.0, before, found.1.2))
            ]

    -- a place is needed that was begun before
    pub search_closed : IsCircuit c → (b : Place) (p : Passage) → IsBehind c frame.place (b, p) →
        is_some (known_of entries b) ≡ true → is_done entries b ≡ false →
        IsSearch c ws entries []
    search_closed is b p behind some undone = record {
      chain = λ k f g at next. absurd (cc);
      passed = λ k f at. absurd (cc);
      ended = λ q begun few. absurd (never q begun few);
    }
      where
        never : (q : Place) → known_of entries q ≡ Some Begun → IsFew c ws q → ⊥
        never q begun few =
            let found = s.ended q begun few in
            let f = found.1.0 in
            let within = slice_get_within (rest ++ frame ∷ []) found.0 f found.1.1 in
            let long = push_long rest frame in
            let to : found.0 + (length rest - found.0) ≡ length rest = omega (arith, within, long)
            in
            let last : IsFew c ws frame.place =
            few_along c ws is (rest ++ frame ∷ []) s.chain (length rest - found.0) found.0 f frame
            found.1.1 (ap (λ (n : ℕ). slice_get (rest ++ frame ∷ []) n) to ∙ top)
            (subst (IsFew c ws) (sym found.1.2) few) in
            let wanted = few_behind c ws frame.place (b, p) behind is last in
            let own = s.ended b (open_begun (known_of entries b) some undone) wanted in
            let g = own.1.0 in
            let inside = slice_get_within (rest ++ frame ∷ []) own.0 g own.1.1 in
            let back : own.0 + (length rest - own.0) ≡ length rest = omega (arith, inside, long) in
            loop_never c ws (rest ++ frame ∷ []) s.chain (length rest - own.0) own.0 g frame p own.1.1
            (ap (λ (n : ℕ). slice_get (rest ++ frame ∷ []) n) back ∙ top)
            (subst (λ (x : Place). IsBehind c frame.place (x, p)) (sym own.1.2) behind)
            (subst (IsFew c ws) (sym own.1.2) wanted)

    -- a place is begun that is needed
    module _ (b : Place) (p : Passage) (pin : ℕ) (behind : IsBehind c frame.place (b, p))
        (new : is_some (known_of entries b) ≡ false)
        (passed : ArePassed c entries frame.place frame.pin pin)
        (set : (q : Place) →
        known_of after q ≡ cond (same_place b q) (Some Begun) (known_of entries q)) where
      abbrev again : Frame
      again = record { place = frame.place; pin = pin }

      abbrev first : Frame
      first = record { place = b; pin = 0 }

      abbrev stays : StaysDone entries after
      stays = begun_stays entries after b new set

      again_chain : IsChain c ws (rest ++ again ∷ [])
      again_chain = pushed_chain c ws rest again (before_chain c ws rest frame s.chain)
          (λ k f last at. s.chain k f frame (get_more rest (frame ∷ []) k f at)
          (ap (λ (n : ℕ). slice_get (rest ++ frame ∷ []) n) last ∙ top))

      begun_chain : IsChain c ws ((rest ++ again ∷ []) ++ first ∷ [])
      begun_chain = pushed_chain c ws (rest ++ again ∷ []) first again_chain
          (λ k f last at. elim (after_one rest again f k at) [
            | inl here ↦ (
              p,
              subst (λ (q : Place). IsBehind c q (b, p))
                  (ap (λ (x : Frame). x.place) (sym here.1)) behind,
            )
            | inr before ↦
                absurd (let within = slice_get_within rest k f before in
                let long = push_long rest again in omega (arith, within, long, last))
          ])

      own_passed : ArePassed c entries frame.place 0 pin
      own_passed other d low high = elim (cases_lt d.pin frame.pin) [
        | inl less ↦ s.passed (length rest) frame top other d low less
        | inr more ↦ passed other d more high
      ]

      begun_passed : (k : ℕ) (f : Frame) →
          slice_get ((rest ++ again ∷ []) ++ first ∷ []) k ≡ Some f →
          ArePassed c after f.place 0 f.pin
      begun_passed k f at other d low high =
          elim (after_one (rest ++ again ∷ []) first f k at) [
            | inl here ↦
                let none : f.pin ≡ 0 = ap (λ (x : Frame). x.pin) here.1 in
                absurd (omega (arith, none, high))
            | inr before ↦ elim (after_one rest again f k before) [
              | inl here ↦
                  stays other.0 (subst (λ (x : Frame). ArePassed c entries x.place 0 x.pin)
                  (sym here.1) own_passed other d low high)
              | inr inside ↦
                  stays other.0 (s.passed k f (get_more rest (frame ∷ []) k f inside) other d low
                  high)
            ]
          ]

      begun_ended : (q : Place) → known_of after q ≡ Some Begun → IsFew c ws q → (same : Bool) →
          same_place b q ≡ same →
          (k : ℕ) × ((f : Frame)
          × (slice_get ((rest ++ again ∷ []) ++ first ∷ []) k ≡ Some f) × (f.place ≡ q))
      begun_ended q begun few true same = (
        length (rest ++ again ∷ []),
        (
          first,
          get_end (rest ++ again ∷ []) first,
          place_is b q same,
        ),
      )
      begun_ended q begun few false other =
          let old = sym (set q
          ∙ ap (λ (x : Bool). cond x (Some Begun) (known_of entries q)) other) ∙ begun in
          let found = s.ended q old few in
          elim (after_one rest frame found.1.0 found.0 found.1.1) [
            | inl here ↦ (
              length rest,
              (
                again,
                get_more (rest ++ again ∷ []) (first ∷ []) (length rest) again
                    (get_end rest again),
                ap (λ (x : Frame). x.place) (sym here.1) ∙ found.1.2,
              ),
            )
            | inr before ↦ (
              found.0,
              (
                found.1.0,
                get_more (rest ++ again ∷ []) (first ∷ []) found.0 found.1.0
                    (get_more rest (again ∷ []) found.0 found.1.0 before),
                found.1.2,
              ),
            )
          ]

      pub search_begun : IsSearch c ws after ((rest ++ again ∷ []) ++ first ∷ [])
      search_begun = record {
        chain = begun_chain;
        passed = begun_passed;
        ended = λ q begun few. begun_ended q begun few (same_place b q) refl;
      }

  -- ---- the whole search

  abbrev begun_frame : Place → Frame
  begun_frame b = record { place = b; pin = 0 }

  -- it begins with a place
  pub search_first : (entries after : List (Place × Known)) (b : Place) → IsSearch c ws entries [] →
      ((q : Place) →
      known_of after q ≡ cond (same_place b q) (Some Begun) (known_of entries q)) →
      IsSearch c ws after (record { place = b; pin = 0 } ∷ [])
  search_first entries after b s set = record {
    chain = λ k f g at next.
        absurd (let within = slice_get_within (begun_frame b ∷ []) (k + 1) g next in omega (arith, within));
    passed = λ k f at behind d low high.
        elim (after_one [] (begun_frame b) f k at) [
          | inl here ↦
              let none : f.pin ≡ 0 = ap (λ (x : Frame). x.pin) here.1 in
              absurd (omega (arith, none, high))
          | inr before ↦ absurd (cc)
        ];
    ended = λ q begun few. by q begun few (same_place b q) refl;
  }
    where
      by : (q : Place) → known_of after q ≡ Some Begun → IsFew c ws q → (same : Bool) →
          same_place b q ≡ same →
          (k : ℕ) × ((f : Frame) × (slice_get (begun_frame b ∷ []) k ≡ Some f) × (f.place ≡ q))
      by q begun few true same = (0, (begun_frame b, refl, place_is b q same))
      by q begun few false other =
          let found = s.ended q (sym (set q
          ∙ ap (λ (x : Bool). cond x (Some Begun) (known_of entries q)) other) ∙ begun) few in
          absurd (let none = found.1.1 in cc)

  -- and what it leaves begun is not of few ways
  pub search_over : (entries : List (Place × Known)) (q : Place) → IsSearch c ws entries [] →
      is_some (known_of entries q) ≡ true → IsFew c ws q → is_done entries q ≡ true
  search_over entries q s some few = some_done (known_of entries q) some
      (λ begun. let found = s.ended q begun few in absurd (let none = found.1.1 in cc))

  pub few_of : (q : Place) → length c.nets ≤ 65536 → q.net < length c.nets →
      is_some (arrivals c ws q.corner q.direction q.net) ≡ true → IsFew c ws q
  unfolding arrivals
  few_of q few net some = record {
    net = net;
    most = length c.nets + 1;
    few = omega (arith, few);
    ends = some;
  }
