-- Calls of the program that gives back what it reads, three bytes at most: one that is a call, and
-- for each promise one that breaks it.
use Rattle.std.proofs.Common.{◌≡◌, ◌∙◌, ℕ, ◌≤◌, inl, inr, Bool, true, List, [], ◌∷◌, length}
use Rattle.std.proofs.Common.{refl, sym, ap, subst, length-append, arith, Option, Some, None}
use Rattle.std.specs.Prelude.{◌⊎◌, slice_index_or}
use Rattle.scald_base.specs.Device.{Rose}
use Rattle.scald_base.specs.declared.outcome.Outcome.{Outcome}
use Rattle.scald_base.specs.declared.outcome.Outcome.TheVariants.{Done, BadWords, TooLong}
use Rattle.scald_base.specs.declared.outcome.Outcome.TheVariants.{ReadFault, WriteFault, NoMemory}
use Rattle.program_call.specs.Program.{IsAnswered, by_source}
use Rattle.program_call.specs.Call.{Devices, IsCall, devices, nothing_more}
use Rattle.program_call.proofs.Calling.{replied_whole}
use Rattle.program_call.proofs.ExamplesAnswer.{Echoes, echo, echoed, lawful, other, other_byte, two}
use Rattle.program_call.proofs.ExamplesAnswer.{word}

-- ---- devices that tell their bytes

-- the bytes that are left or were taken, if they are told, and a count of faults
abbrev State : Type 0
State = Option (List ℕ) × ℕ

abbrev told : Devices State State
told = devices (λ s. s.0) (λ s. s.1) (λ k. k.0) (λ k. k.1)

abbrev Is : List (List ℕ) → Outcome → State → State → State → State → Type 0
Is words o source source' sink sink' =
    IsCall echo nothing_more words o told source source' sink sink'

abbrev at : List ℕ → State
at bytes = (Some bytes, 0)

abbrev none_read : State
none_read = at []

abbrev four : List ℕ
four = 1 ∷ 2 ∷ 3 ∷ 4 ∷ []

abbrev no_words : List (List ℕ)
no_words = []

abbrev two_words : List (List ℕ)
two_words = [] ∷ [] ∷ []

never_rose : ¬ Rose 0 0
never_rose (inl more) = absurd (omega (arith, more))
never_rose (inr full) = absurd (omega (arith, full))

-- ---- a call

it_is : Is word Done (at two) (at []) (at []) (at two)
it_is =
    replied_whole echo lawful nothing_more word told (at two) (at []) (at []) (at two) true two refl
    (λ reads. record { bytes = refl; to_end = refl; within = omega arith }) (omega arith)
    (λ none. absurd (cc))
    (record { front = two; bytes = refl; within = omega arith }) refl
    two Done two two refl (refl, refl) refl tt refl refl

-- ---- and none, by one promise each

-- unrecognised words have their own answer
bad_words : ¬ Is two_words Done (at two) (at []) (at []) (at two)
bad_words call = let none : Done ≡ BadWords 1 = call.bad_words 1 refl in absurd (cc)

bad_words_only : ¬ Is word (BadWords 0) (at two) (at []) (at []) (at [])
bad_words_only call = let none = call.bad_words_only 0 refl in absurd (cc none)

-- a form that does not read leaves the source as it is
unread : ¬ Is no_words Done (at two) (at []) (at []) (at [])
unread call = let same = call.unread refl in absurd (let none = ap (λ (s : State). s.0) same in cc)

-- a silent outcome writes nothing
unwritten : ¬ Is word TooLong (at four) (at []) (at []) (at two)
unwritten call = let same =
    call.unwritten refl in absurd (let none = ap (λ (s : State). s.0) same in cc)

-- if nothing fails, the outcome is that of the answer
whole : ¬ Is word ReadFault (at two) (at []) (at []) (at [])
whole call = by (call.whole two (by_source refl) (λ asks. never_rose) never_rose)
  where
    by : (ReadFault ≡ NoMemory) ⊎ IsAnswered echo word two ReadFault (Some []) (Some []) → ⊥
    by (inl none) = absurd (cc none)
    by (inr answered) = let same = answered.only Done two echoed in absurd (let none = same.0 in cc)

-- the bytes are those of the answer
truthful : ¬ Is word Done (at two) (at []) (at []) (at other)
truthful call =
    let answered = call.truthful two (by_source refl) refl in
    let bytes = answered.written ∙ sym (answered.only Done two echoed).1 in
    let first : 3 ≡ 1 = ap (λ (bytes : List ℕ). slice_index_or bytes 0 0) bytes in
    absurd (omega (arith, first))

-- no more than one byte past the limit is read
front : ¬ Is no_words NoMemory (at (0 ∷ four)) (at []) (at []) (at [])
front call =
    let read = call.front in
    absurd (omega (arith, ap length read.bytes, length-append read.front [], read.within))

-- what speaks of the text read it to its end
to_end : ¬ Is word Done (at two) (at (2 ∷ [])) (at []) (at two)
to_end call = let none = call.to_end refl refl in absurd (cc none)

-- a fault is reported
source_steady : ¬ Is word Done (at two) (Some [], 1) (at []) (at two)
source_steady call = let same : 1 ≡ 0 =
    call.source_steady (λ e. absurd (cc e)) in absurd (omega (arith, same))

sink_steady : ¬ Is word Done (at two) (at []) (at []) (Some two, 1)
sink_steady call = let same : 1 ≡ 0 =
    call.sink_steady (λ e. absurd (cc e)) in absurd (omega (arith, same))

-- an outcome that speaks of a text is that of a text that may be read
replied : ¬ Is word Done (None, 0) (None, 0) (at []) (at four)
replied call =
    let written = call.replied refl in
    let reply = written.reply in
    let one : true ≡ reply.command = cc reply.form in
    let is = subst (λ (command : Bool). Echoes command reply.text Done written.bytes) (sym one)
    reply.is in
    let short = subst (λ (command : Bool). length reply.text ≤ 3) (sym one) reply.short in
    absurd (omega (arith, ap length written.written, ap length is.1, short))

-- only what reads is too long
read_first : ¬ Is no_words TooLong (at two) (at two) (at []) (at [])
read_first call = let none = call.read_first refl in absurd (cc none)

-- a reported fault is one
read_fault : ¬ Is word ReadFault (at two) (at two) (at []) (at [])
read_fault call = never_rose (call.read_fault refl)

write_fault : ¬ Is word WriteFault (at two) (at []) (at []) (at (1 ∷ []))
write_fault call = never_rose (call.write_fault refl)

-- after a failed write a front of the answer was taken
cut_short : ¬ Is word WriteFault (at two) (at []) (at []) (Some other, 1)
cut_short call = other_byte (call.cut_short two (by_source refl) refl)

-- a text that is too long had one byte past the limit
too_long : ¬ Is word TooLong (at two) (at []) (at []) (at [])
too_long call =
    let read = call.too_long refl in
    absurd (omega (arith, ap length read.bytes, length-append read.front [], read.past))

-- a text past the limit is too long
long_text : ¬ Is word Done (at four) (at []) (at []) (at four)
long_text call = by (call.long_text refl (omega arith) never_rose)
  where
    by : (Done ≡ NoMemory) ⊎ (Done ≡ TooLong) → ⊥
    by (inl none) = absurd (cc none)
    by (inr none) = absurd (cc none)
