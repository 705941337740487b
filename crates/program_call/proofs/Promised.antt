-- What the reply to a text says of the outcome of the call, and of what was written.
use Rattle.std.proofs.Common.{inl, inr, ◌⊎◌, ◌≡◌, ℕ, ◌≤◌, Bool, true, false, List, [], ◌∷◌, length, refl, sym, ap, subst, IfSome, Ok, Err, Option, Some, None}
use Rattle.std.specs.Prelude.{if◌then◌else◌}
use Rattle.std.specs.Str.{bytes_eq}
use Rattle.std.specs.Io.KnownBytes.{Appends}
use Rattle.scald_base.specs.declared.outcome.Outcome.{Outcome}
use Rattle.scald_base.specs.declared.outcome.Outcome.TheVariants.{NoMemory}
use Rattle.program_call.specs.Program.{AreTold, by_source, IsAnswered, IsReplied, are_reading, asks, speaks, Answer, no_form, too_long, replied}
use Rattle.program_call.specs.declared.words.Request.{Request}
use Rattle.program_call.specs.declared.words.Request.TheVariants.{Reply}
use Rattle.program_call.specs.Wordless.{Replying, most_bytes, by_name, no_more, wordless}
use Rattle.program_call.specs.Promise.{SettlesLoopless, Writes}

-- of a program that its name alone asks for, by what it replies
module _ (name : List ℕ) (Replied : Replying) where
  -- ---- which outcomes there are

  pub given_by : (may_answer : Outcome → Bool) → ((text : List ℕ) (o : Outcome) (bytes : List ℕ) → Replied text o bytes → may_answer o ≡ true) →
      {promised : Request → List ℕ → Outcome → Type 0} (words : List (List ℕ)) (left left' taken taken' : Option (List ℕ)) (o : Outcome) →
      IsReplied (wordless name Replied) promised words left left' o taken taken' → may_answer o ≡ true
  given_by may_answer each words left left' taken taken' o r = each r.reply.text o r.bytes r.reply.is

  -- ---- what is written

  -- words that ask for something are the name alone
  none_asked : (words : List (List ℕ)) → asks (wordless name Replied) words ≡ true → by_name name words ≡ Ok Reply
  none_asked [] asked = absurd (cc)
  none_asked (w ∷ ws) asked = by (bytes_eq w name) ws asked
    where
      by : (is_name : Bool) (ws : List (List ℕ)) → are_reading (λ request. true) (if is_name then no_more ws else Err 0) ≡ true →
          (if is_name then no_more ws else Err 0) ≡ Ok Reply
      by true [] asked = refl
      by true (x ∷ xs) asked = absurd (cc)
      by false ws asked = absurd (cc)

  writes : (words : List (List ℕ)) (text : List ℕ) (o : Outcome) (taken taken' : Option (List ℕ)) → asks (wordless name Replied) words ≡ true → length text ≤ most_bytes →
      (o ≡ NoMemory) ⊎ IsAnswered (wordless name Replied) words text o taken taken' →
      (reply : Outcome) (bytes : List ℕ) → Replied text reply bytes →
      Writes reply bytes o taken taken'
  writes words text o taken taken' asked short (inl none) reply bytes is = inl none
  writes words text o taken taken' asked short (inr answered) reply bytes is =
      let same = answered.only reply bytes
      (replied Reply reply bytes (none_asked words asked) (λ reads. short) is) in
      inr (sym same.0, subst (Appends taken taken') (sym same.1) answered.written)

  -- if the source tells its bytes, and no device fails
  pub finished : (Finished : List ℕ → Type 0) (words : List (List ℕ)) (left taken taken' : Option (List ℕ)) (o : Outcome) (Read Written : Type 0) →
      ((text : List ℕ) → ((reply : Outcome) (bytes : List ℕ) → Replied text reply bytes →
      Writes reply bytes o taken taken') → Finished text) →
      ((text : List ℕ) → AreTold (wordless name Replied) words left text → (asks (wordless name Replied) words ≡ true → Read) → Written →
      (o ≡ NoMemory) ⊎ IsAnswered (wordless name Replied) words text o taken taken') →
      IfSome left (λ text. asks (wordless name Replied) words ≡ true → length text ≤ most_bytes → Read → Written → Finished text)
  finished Finished words None taken taken' o Read Written each whole = tt
  finished Finished words (Some text) taken taken' o Read Written each whole =
      λ asked short read written. each text
      (writes words text o taken taken' asked short
      (whole text (by_source refl) (λ asks. read) written))

  -- ---- without loops

  answer_settles : ((text : List ℕ) (o : Outcome) (bytes : List ℕ) → Replied text o bytes → SettlesLoopless text o) →
      (words : List (List ℕ)) (text : List ℕ) (o : Outcome) (bytes : List ℕ) → Answer (wordless name Replied) words text o bytes → SettlesLoopless text o
  answer_settles each words text _ _ (no_form i form) free place last still = absurd (cc)
  answer_settles each words text _ _ (too_long command form reads long) free place last still = absurd (cc)
  answer_settles each words text _ _ (replied command o bytes form short is) free place last still = each text o bytes is free place last still

  pub settles : ((text : List ℕ) (o : Outcome) (bytes : List ℕ) → Replied text o bytes → SettlesLoopless text o) →
      (words : List (List ℕ)) (text : List ℕ) (o : Outcome) (taken taken' : Option (List ℕ)) →
      (speaks (wordless name Replied) o ≡ true → IsAnswered (wordless name Replied) words text o taken taken') → SettlesLoopless text o
  settles each words text o taken taken' truthful free place last still =
      let answered = truthful (ap (speaks (wordless name Replied)) still) in
      answer_settles each words text o answered.bytes answered.is free place last still
