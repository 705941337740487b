-- The answers of a program that gives back what it reads, three bytes at most, and of one whose
-- replies may have any bytes.
use Rattle.std.proofs.Common.{◌≡◌, ℕ, zero, suc, ◌≤◌, Bool, true, false, List, [], ◌∷◌, length, take, refl, sym, ap, ◌∙◌, arith, Option, Some, None, Result, Ok, Err}
use Rattle.std.specs.Prelude.{slice_index_or}
use Rattle.scald_base.specs.declared.outcome.Outcome.{Outcome}
use Rattle.scald_base.specs.declared.outcome.Outcome.TheVariants.{Done, BadWords, TooLong}
use Rattle.scald_base.specs.Outcome.{ended, end_of}
use Rattle.program_call.specs.Program.{Meaning, IsLawful, Answer, no_form, too_long, replied, IsAnswered, IsCutShort}
use Rattle.program_call.proofs.Answering.{end_of_ended, one_answer}

-- ---- the programs

-- one word is the form that reads, none that which does not, and two go wrong at the second
abbrev pub form_of : List (List ℕ) → Result Bool ℕ
form_of [] = Ok false
form_of (word ∷ []) = Ok true
form_of (word ∷ other ∷ words) = Err 1

abbrev pub program : (Bool → List ℕ → Outcome → List ℕ → Type 0) →
    (Outcome → List ℕ → Outcome → List ℕ → Type 0) → Meaning Bool Outcome
program Replies AreOne = record {
  command_of = form_of;
  reads = λ command. command;
  most_bytes = λ command. 3;
  Replied = Replies;
  AreOne = AreOne;
  ended = ended;
  end_of = end_of;
}

abbrev pub Echoes : Bool → List ℕ → Outcome → List ℕ → Type 0
Echoes true text o bytes = (o ≡ Done) × (bytes ≡ text)
Echoes false text o bytes = (o ≡ Done) × (bytes ≡ [])

abbrev pub echo : Meaning Bool Outcome
echo = program Echoes (λ o bytes p others. (o ≡ p) × (bytes ≡ others))

pub lawful : IsLawful echo
lawful = record { ends = end_of_ended; replies = done; one = one; same = λ o bytes. (refl, refl); unread = unread }
  where
    done : (command : Bool) (text : List ℕ) (o : Outcome) (bytes : List ℕ) →
        Echoes command text o bytes → end_of o ≡ None
    done true text o bytes r = ap end_of r.0
    done false text o bytes r = ap end_of r.0

    one : (command : Bool) (text : List ℕ) (o o' : Outcome) (bytes bytes' : List ℕ) →
        Echoes command text o bytes → Echoes command text o' bytes' → (o ≡ o') × (bytes ≡ bytes')
    one true text o o' bytes bytes' r s = (r.0 ∙ sym s.0, r.1 ∙ sym s.1)
    one false text o o' bytes bytes' r s = (r.0 ∙ sym s.0, r.1 ∙ sym s.1)

    unread : (command : Bool) (text other : List ℕ) (o : Outcome) (bytes : List ℕ) →
        command ≡ false → Echoes command text o bytes → Echoes command other o bytes
    unread true text other o bytes is r = absurd (cc)
    unread false text other o bytes is r = r

abbrev babble : Meaning Bool Outcome
babble = program (λ command text o bytes. o ≡ Done)
    (λ o bytes p others. (o ≡ p) × (bytes ≡ others))

-- the same if replies of one outcome count as one
abbrev talk : Meaning Bool Outcome
talk = program (λ command text o bytes. o ≡ Done) (λ o bytes p others. o ≡ p)

abbrev pub word : List (List ℕ)
word = [] ∷ []

-- ---- answers

at_the_second_word : (text : List ℕ) → Answer echo ([] ∷ [] ∷ []) text (BadWords 1) []
at_the_second_word text = no_form 1 refl

at_the_limit : Answer echo word (1 ∷ 2 ∷ 3 ∷ []) Done (1 ∷ 2 ∷ 3 ∷ [])
at_the_limit = replied true Done (1 ∷ 2 ∷ 3 ∷ []) refl (λ asks. omega arith) (refl, refl)

past_the_limit : Answer echo word (1 ∷ 2 ∷ 3 ∷ 4 ∷ []) TooLong []
past_the_limit = too_long true refl refl (omega arith)

-- a form that does not read takes no text to be too long
without_a_word : Answer echo [] (1 ∷ 2 ∷ 3 ∷ 4 ∷ []) Done []
without_a_word = replied false Done [] refl (λ asks. absurd (cc)) (refl, refl)

-- ---- the only answer, with its bytes

-- other bytes are a reply as well
many_replies : (text : List ℕ) (taken taken' : Option (List ℕ)) →
    length text ≤ 3 → ¬ IsAnswered babble word text Done taken taken'
many_replies text taken taken' short answered =
    let other = answered.only Done (1 ∷ answered.bytes)
    (replied true Done (1 ∷ answered.bytes) refl (λ asks. short) refl) in
    absurd (omega (arith, ap length other.1))

-- if replies of one outcome count as one, any bytes are the answer
any_reply : (bytes : List ℕ) → IsAnswered talk word [] Done (Some []) (Some bytes)
any_reply bytes = record {
  bytes = bytes;
  is = replied true Done bytes refl (λ asks. omega arith) refl;
  only = only;
  written = refl;
}
  where
    only : (p : Outcome) (others : List ℕ) → Answer talk word [] p others → p ≡ Done
    only _ _ (no_form i form) = absurd (cc)
    only _ _ (too_long command form asks long) = absurd (omega (arith, long))
    only _ _ (replied command o others form short r) = r

-- ---- an answer that is cut short

abbrev pub two : List ℕ
two = 1 ∷ 2 ∷ []

abbrev pub other : List ℕ
other = 3 ∷ []

pub echoed : Answer echo word two Done two
echoed = replied true Done two refl (λ asks. omega arith) (refl, refl)

first_byte : IsCutShort echo word two (Some []) (Some (1 ∷ []))
first_byte = record {
  outcome = Done;
  bytes = two;
  is = echoed;
  written = record { count = 1; within = omega arith; bytes = refl };
}

begins_otherwise : (count : ℕ) → other ≡ take count two → ⊥
begins_otherwise zero same = let some : 1 ≡ 0 = ap length same in absurd (omega (arith, some))
begins_otherwise (suc count) same =
    let first : 3 ≡ 1 = ap (λ (bytes : List ℕ). slice_index_or bytes 0 0) same in
    absurd (omega (arith, first))

-- a byte that is not the answer's first
pub other_byte : ¬ IsCutShort echo word two (Some []) (Some other)
other_byte cut =
    let same : cut.bytes ≡ two = (one_answer echo lawful word two _ _ _ _ cut.is echoed).1 in
    begins_otherwise cut.written.count
    (cut.written.bytes ∙ ap (take cut.written.count) same)
