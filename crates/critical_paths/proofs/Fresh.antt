-- What was known before a search stays as it was: only other places are begun and worked out.
use Rattle.std.proofs.Common.{◌≡◌, ℕ, Bool, true, false, cond, List, [], ◌∷◌, ◌++◌, length, refl, ap, sym, subst, ◌∙◌, Some, inl, inr}
use Rattle.std.specs.Prelude.{is_some}
use Rattle.critical_paths.specs.declared.arrival.Known.{Known}
use Rattle.critical_paths.specs.declared.arrival.Known.TheVariants.{Begun}
use Rattle.critical_paths.specs.declared.arrival.Place.{Place}
use Rattle.critical_paths.specs.declared.frames.Frame.{Frame}
use Rattle.critical_paths.specs.Reached.{IsFresh, StaysAs, known_of, same_place}
use Rattle.critical_paths.proofs.Nodes.{get_end, get_more}
use Rattle.critical_paths.proofs.Places.{place_is}
use Rattle.critical_paths.proofs.Ways.{after_one}

-- at another pin
abbrev pub pinned : Frame → ℕ → Frame
pinned frame pin = record { place = frame.place; pin = pin }

module _ (before entries after : List (Place × Known)) where
  -- what is not known now was not known then
  unknown_then : (q : Place) → StaysAs before entries → is_some (known_of entries q) ≡ false →
      is_some (known_of before q) ≡ false
  unknown_then q same none = by (is_some (known_of before q)) refl
    where
      by : (some : Bool) → is_some (known_of before q) ≡ some → is_some (known_of before q) ≡ false
      by true some =
          let now : is_some (known_of entries q) ≡ true = ap is_some (same q some) ∙ some in
          absurd (cc)
      by false none = none

  -- a place is ended
  pub fresh_finished : (rest : List Frame) (frame : Frame) →
      ((q : Place) → same_place frame.place q ≡ false → known_of after q ≡ known_of entries q) →
      IsFresh before entries (rest ++ frame ∷ []) → IsFresh before after rest
  fresh_finished rest frame others s = record {
    same = λ q some. by q some (same_place frame.place q) refl;
    fresh = λ k f at. s.fresh k f (get_more rest (frame ∷ []) k f at);
  }
    where
      by : (q : Place) → is_some (known_of before q) ≡ true → (same : Bool) →
          same_place frame.place q ≡ same → known_of after q ≡ known_of before q
      by q some true same =
          let none : is_some (known_of before q) ≡ false =
          subst (λ (p : Place). is_some (known_of before p) ≡ false) (place_is frame.place q same)
          (s.fresh (length rest) frame (get_end rest frame)) in
          absurd (cc)
      by q some false other = others q other ∙ s.same q some

  module _ (b : Place) (unknown : is_some (known_of entries b) ≡ false)
      (set : (q : Place) →
      known_of after q ≡ cond (same_place b q) (Some Begun) (known_of entries q)) where
    same_begun : StaysAs before entries → StaysAs before after
    same_begun same q some = by (same_place b q) refl
      where
        by : (own : Bool) → same_place b q ≡ own → known_of after q ≡ known_of before q
        by true own =
            let none : is_some (known_of before q) ≡ false =
            subst (λ (p : Place). is_some (known_of before p) ≡ false) (place_is b q own)
            (unknown_then b same unknown) in
            absurd (cc)
        by false other =
            set q ∙ ap (λ (x : Bool). cond x (Some Begun) (known_of entries q)) other ∙ same q some

    -- a place is begun that is needed
    pub fresh_begun : (rest : List Frame) (frame : Frame) (pin : ℕ) →
        IsFresh before entries (rest ++ frame ∷ []) →
        IsFresh before after
        ((rest ++ pinned frame pin ∷ []) ++ record { place = b; pin = 0 } ∷ [])
    fresh_begun rest frame pin s = record {
      same = same_begun s.same;
      fresh = λ k f at.
          elim (after_one (rest ++ pinned frame pin ∷ []) (record { place = b; pin = 0 }) f k at) [
            | inl last ↦ subst (λ (x : Frame). is_some (known_of before x.place) ≡ false)
                (sym last.1) (unknown_then b s.same unknown)
            | inr inside ↦ elim (after_one rest (pinned frame pin) f k inside) [
              | inl here ↦ subst (λ (x : Frame). is_some (known_of before x.place) ≡ false)
                  (sym here.1) (s.fresh (length rest) frame (get_end rest frame))
              | inr found ↦ s.fresh k f (get_more rest (frame ∷ []) k f found)
            ]
          ];
    }

    -- and the first
    pub fresh_first : StaysAs before entries →
        IsFresh before after (record { place = b; pin = 0 } ∷ [])
    fresh_first same = record {
      same = same_begun same;
      fresh = λ k f at. elim (after_one [] (record { place = b; pin = 0 }) f k at) [
        | inl here ↦ subst (λ (x : Frame). is_some (known_of before x.place) ≡ false)
            (sym here.1) (unknown_then b same unknown)
        | inr never ↦ absurd (cc)
      ];
    }

-- nothing more is worked out
pub fresh_closed : (before entries : List (Place × Known)) (frames : List Frame) →
    IsFresh before entries frames → IsFresh before entries []
fresh_closed before entries frames s = record { same = s.same; fresh = λ k f at. absurd (cc) }
