-- What every main call promises of its words, of its devices, and of the bytes that it writes.
use Rattle.std.specs.Prelude.{◌≡◌, ◌≢◌, ◌⊎◌, ℕ, ◌<◌, true, false, List, length, Option, Ok, Err}
use Rattle.std.specs.Prelude.{IfSome}
use Rattle.std.specs.Io.KnownBytes.{IsAtEnd}
use Rattle.scald_base.specs.Device.{Rose, ReadsFront, ReadsPast}
use Rattle.scald_base.specs.declared.call_end.CallEnd.{CallEnd}
use Rattle.scald_base.specs.declared.call_end.CallEnd.TheVariants.{BadWords, TooLong, ReadFault, WriteFault, NoMemory}
use Rattle.program_call.specs.Program.{Meaning, AreTold, IsAnswered, IsCutShort, IsReplied, asks, has_read, is_silent, most_for, speaks}

-- What is known of a source and of a sink: what the source has left and what the sink took, as far
-- as they tell it, and how many faults each has counted.
pub record Devices (S K : Type 0) : Type 0 where
  pub left : S → Option (List ℕ)
  pub source_faults : S → ℕ
  pub taken : K → Option (List ℕ)
  pub sink_faults : K → ℕ

abbrev pub devices : {S K : Type 0} → (S → Option (List ℕ)) → (S → ℕ) → (K → Option (List ℕ)) →
    (K → ℕ) → Devices S K
devices left source_faults taken sink_faults = record {
  left = left;
  source_faults = source_faults;
  taken = taken;
  sink_faults = sink_faults;
}

-- Why a call ends before there is a reply: no form has its words, or reading their text ends so.
pub data EndsAsking {Command Outcome : Type 0} (m : Meaning Command Outcome) (words : List (List ℕ))
    (left left' : Option (List ℕ)) (faults faults' : ℕ) : CallEnd → Type 0 where
  unrecognised : (i : ℕ) → m.command_of words ≡ Err i →
      EndsAsking m words left left' faults faults' (BadWords i)
  past : asks m words ≡ true → ReadsPast left left' (most_for m words) →
      EndsAsking m words left left' faults faults' TooLong
  failed : asks m words ≡ true → Rose faults faults' →
      EndsAsking m words left left' faults faults' ReadFault
  no_room : (command : Command) → m.command_of words ≡ Ok command →
      EndsAsking m words left left' faults faults' NoMemory

-- a program that promises nothing beside its answer
abbrev pub nothing_more : {Command Outcome : Type 0} → Command → List ℕ → Outcome → Type 0
nothing_more command text o = Unit {0}

-- A program was called with these words and ended with this outcome. What is said of bytes holds as
-- far as the devices tell: of those that are left to read if the source tells them, of those that
-- were taken if the sink does.
pub record IsCall {Command Outcome S K : Type 0} (m : Meaning Command Outcome)
    (promised : Command → List ℕ → Outcome → Type 0) (words : List (List ℕ)) (o : Outcome)
    (d : Devices S K) (source source' : S) (sink sink' : K) : Type 0 where
  -- Unrecognised words have their own answer. Nothing is read for them, nor for a form that does
  -- not read, and nothing is written if the outcome is silent.
  pub bad_words : (i : ℕ) → m.command_of words ≡ Err i → o ≡ m.ended (BadWords i)
  pub bad_words_only : (i : ℕ) → o ≡ m.ended (BadWords i) → m.command_of words ≡ Err i
  pub unread : asks m words ≡ false → source' ≡ source
  pub unwritten : is_silent m o ≡ true → sink' ≡ sink
  -- If the source tells its bytes and no device that is used fails: the answer that the words and
  -- the bytes have, with exactly its bytes, or no memory.
  pub whole : (text : List ℕ) → AreTold m words (d.left source) text →
      (asks m words ≡ true → Rose (d.source_faults source) (d.source_faults source') → ⊥) →
      (Rose (d.sink_faults sink) (d.sink_faults sink') → ⊥) →
      (o ≡ m.ended NoMemory) ⊎ IsAnswered m words text o (d.taken sink) (d.taken sink')
  -- Whatever the devices did, an outcome that speaks of the text comes only if it is the text's
  -- own, all of the text was read, and all of the answer was written. Of what a source tells no
  -- more than one byte past the limit is read.
  pub truthful : (text : List ℕ) → AreTold m words (d.left source) text → speaks m o ≡ true →
      IsAnswered m words text o (d.taken sink) (d.taken sink')
  pub front : ReadsFront (d.left source) (d.left source') (most_for m words)
  pub to_end : IfSome (d.left source) (λ text. asks m words ≡ true → speaks m o ≡ true →
      IsAtEnd (d.left source'))
  -- Every I/O error is reported.
  pub source_steady : o ≢ m.ended ReadFault → d.source_faults source' ≡ d.source_faults source
  pub sink_steady : o ≢ m.ended WriteFault → d.sink_faults sink' ≡ d.sink_faults sink
  -- Of which text an outcome speaks, and what is promised of it.
  pub replied : speaks m o ≡ true →
      IsReplied m promised words (d.left source) (d.left source') o (d.taken sink) (d.taken sink')
  -- Why the others come. A sink that tells what it took has a front of the answer's bytes after a
  -- failed write, and a source that tells its bytes had one past the limit if the text is too long.
  pub read_first : has_read m o ≡ true → asks m words ≡ true
  pub read_fault : o ≡ m.ended ReadFault → Rose (d.source_faults source) (d.source_faults source')
  pub write_fault : o ≡ m.ended WriteFault → Rose (d.sink_faults sink) (d.sink_faults sink')
  pub cut_short : (text : List ℕ) → AreTold m words (d.left source) text → o ≡ m.ended WriteFault →
      IsCutShort m words text (d.taken sink) (d.taken sink')
  pub too_long : o ≡ m.ended TooLong →
      ReadsPast (d.left source) (d.left source') (most_for m words)
  pub long_text : IfSome (d.left source) (λ text. asks m words ≡ true →
      most_for m words < length text →
      (Rose (d.source_faults source) (d.source_faults source') → ⊥) →
      (o ≡ m.ended NoMemory) ⊎ (o ≡ m.ended TooLong))
