-- What a program means, and what its main call promises of it.
use Rattle.std.specs.Prelude.{◌≡◌, ℕ, ◌<◌, ◌≤◌, Bool, true, false, List, [], length, Option, Some, None, Result, Ok, Err}
use Rattle.std.specs.Io.KnownBytes.{Appends}
use Rattle.scald_base.specs.Device.{ReadsAll, TakesFront}
use Rattle.scald_base.specs.declared.call_end.CallEnd.{CallEnd}
use Rattle.scald_base.specs.declared.call_end.CallEnd.TheVariants.{BadWords, TooLong, ReadFault, WriteFault, NoMemory}

-- What the words of a program ask for, or the number of the first with which no form goes on;
-- which commands read, and how many bytes at most; what is replied to a text, by outcome and
-- bytes; which two replies count as one; and which outcomes are of the ends of a call that say
-- nothing of a text.
pub record Meaning (Command Outcome : Type 0) : Type 1 where
  pub command_of : List (List ℕ) → Result Command ℕ
  pub reads : Command → Bool
  pub most_bytes : Result Command ℕ → ℕ
  pub Replied : Command → List ℕ → Outcome → List ℕ → Type 0
  pub AreOne : Outcome → List ℕ → Outcome → List ℕ → Type 0
  pub ended : CallEnd → Outcome
  pub end_of : Outcome → Option CallEnd

-- Each end has an outcome of its own, and no reply is such an outcome. All replies to a text count
-- as one, which is the same to all texts if the source is not read.
pub record IsLawful {Command Outcome : Type 0} (m : Meaning Command Outcome) : Type 0 where
  pub ends : (end : CallEnd) → m.end_of (m.ended end) ≡ Some end
  pub replies : (command : Command) (text : List ℕ) (o : Outcome) (bytes : List ℕ) →
      m.Replied command text o bytes → m.end_of o ≡ None
  pub one : (command : Command) (text : List ℕ) (o o' : Outcome) (bytes bytes' : List ℕ) →
      m.Replied command text o bytes → m.Replied command text o' bytes' → m.AreOne o bytes o' bytes'
  pub same : (o : Outcome) (bytes : List ℕ) → m.AreOne o bytes o bytes
  pub unread : (command : Command) (text other : List ℕ) (o : Outcome) (bytes : List ℕ) →
      m.reads command ≡ false → m.Replied command text o bytes → m.Replied command other o bytes

-- ---- the words

-- the words are of a form that reads
abbrev pub are_reading : {Command : Type 0} → (Command → Bool) → Result Command ℕ → Bool
are_reading reads (Ok command) = reads command
are_reading reads (Err i) = false

-- the same, of a program's words
abbrev pub asks : {Command Outcome : Type 0} → Meaning Command Outcome → List (List ℕ) → Bool
asks m words = are_reading m.reads (m.command_of words)

-- the most bytes that are read for the words
abbrev pub most_for : {Command Outcome : Type 0} → Meaning Command Outcome → List (List ℕ) → ℕ
most_for m words = m.most_bytes (m.command_of words)

-- ---- the outcomes

abbrev pub is_no_end : Option CallEnd → Bool
is_no_end None = true
is_no_end (Some end) = false

abbrev pub is_end : (CallEnd → Bool) → Option CallEnd → Bool
is_end test None = false
is_end test (Some end) = test end

-- an outcome that says something of the text, all of which was read and all of whose answer was
-- written
abbrev pub speaks : {Command Outcome : Type 0} → Meaning Command Outcome → Outcome → Bool
speaks m o = is_no_end (m.end_of o)

-- ends with which nothing is written
abbrev pub ends_silent : CallEnd → Bool
ends_silent (BadWords i) = true
ends_silent TooLong = true
ends_silent ReadFault = true
ends_silent NoMemory = true
ends_silent WriteFault = false

-- an outcome with which nothing is written
abbrev pub is_silent : {Command Outcome : Type 0} → Meaning Command Outcome → Outcome → Bool
is_silent m o = is_end ends_silent (m.end_of o)

-- ends that only reading the source can have
abbrev pub ends_reading : CallEnd → Bool
ends_reading TooLong = true
ends_reading ReadFault = true
ends_reading (BadWords i) = false
ends_reading WriteFault = false
ends_reading NoMemory = false

-- an outcome that only reading the source can have
abbrev pub has_read : {Command Outcome : Type 0} → Meaning Command Outcome → Outcome → Bool
has_read m o = is_end ends_reading (m.end_of o)

-- the outcome of a call, which replies or has an end
abbrev pub outcome_of : {Command Outcome : Type 0} → Meaning Command Outcome →
    Result Outcome CallEnd → Outcome
outcome_of m (Ok o) = o
outcome_of m (Err end) = m.ended end

-- ---- the answer

-- The outcome and the bytes that are written, to words and to the bytes of the input. A form
-- that does not read takes no text to be too long.
pub data Answer {Command Outcome : Type 0} (m : Meaning Command Outcome)
    (words : List (List ℕ)) (text : List ℕ) : Outcome → List ℕ → Type 0 where
  no_form : (i : ℕ) → m.command_of words ≡ Err i → Answer m words text (m.ended (BadWords i)) []
  too_long : (command : Command) → m.command_of words ≡ Ok command → m.reads command ≡ true →
      m.most_bytes (Ok command) < length text → Answer m words text (m.ended TooLong) []
  replied : (command : Command) (o : Outcome) (bytes : List ℕ) → m.command_of words ≡ Ok command →
      (m.reads command ≡ true → length text ≤ m.most_bytes (Ok command)) →
      m.Replied command text o bytes → Answer m words text o bytes

-- What the words are answered to: the bytes that the source has left, if it tells them; and
-- any bytes if the words are of no form that reads, since then the answer is the same to all.
pub data AreTold {Command Outcome : Type 0} (m : Meaning Command Outcome)
    (words : List (List ℕ)) (left : Option (List ℕ)) (text : List ℕ) : Type 0 where
  by_source : left ≡ Some text → AreTold m words left text
  by_words : are_reading m.reads (m.command_of words) ≡ false → AreTold m words left text

-- The outcome and the bytes that the sink took are an answer that the words and the text have, and
-- all others count as the same.
pub record IsAnswered {Command Outcome : Type 0} (m : Meaning Command Outcome)
    (words : List (List ℕ)) (text : List ℕ) (o : Outcome)
    (taken taken' : Option (List ℕ)) : Type 0 where
  pub bytes : List ℕ
  pub is : Answer m words text o bytes
  pub only : (p : Outcome) (others : List ℕ) → Answer m words text p others →
      m.AreOne p others o bytes
  pub written : Appends taken taken' bytes

-- The sink took a front of the bytes of the answer that the words and the text have.
pub record IsCutShort {Command Outcome : Type 0} (m : Meaning Command Outcome)
    (words : List (List ℕ)) (text : List ℕ) (taken taken' : Option (List ℕ)) : Type 0 where
  pub outcome : Outcome
  pub bytes : List ℕ
  pub is : Answer m words text outcome bytes
  pub written : TakesFront taken taken' bytes

-- ---- the reply, whether the devices tell their bytes or not

-- The words are of a form, a text was read if it reads, and this is the reply to that text.
pub record IsReply {Command Outcome : Type 0} (m : Meaning Command Outcome)
    (words : List (List ℕ)) (left left' : Option (List ℕ)) (o : Outcome)
    (bytes : List ℕ) : Type 0 where
  pub command : Command
  pub form : m.command_of words ≡ Ok command
  pub text : List ℕ
  pub read : m.reads command ≡ true → ReadsAll left left' (m.most_bytes (Ok command)) text
  pub short : length text ≤ m.most_bytes (Ok command)
  pub is : m.Replied command text o bytes

-- The reply was written, and what the program promises of it holds of the text.
pub record IsReplied {Command Outcome : Type 0} (m : Meaning Command Outcome)
    (promised : Command → List ℕ → Outcome → Type 0) (words : List (List ℕ))
    (left left' : Option (List ℕ)) (o : Outcome) (taken taken' : Option (List ℕ)) : Type 0 where
  pub bytes : List ℕ
  pub reply : IsReply m words left left' o bytes
  pub kept : promised reply.command reply.text o
  pub written : Appends taken taken' bytes

-- The reply was written in part.
pub record IsPartReplied {Command Outcome : Type 0} (m : Meaning Command Outcome)
    (words : List (List ℕ)) (left left' taken taken' : Option (List ℕ)) : Type 0 where
  pub outcome : Outcome
  pub bytes : List ℕ
  pub reply : IsReply m words left left' outcome bytes
  pub written : TakesFront taken taken' bytes
