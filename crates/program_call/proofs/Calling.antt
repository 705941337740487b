-- What every main call promises, from how it went.
use Rattle.std.proofs.Common.{◌≡◌, ℕ, ◌≤◌, true, false, List, length, refl, sym, ap, subst, IfOk}
use Rattle.std.proofs.Common.{IfErr, Result, Ok, Err}
use Rattle.std.specs.Prelude.{◌≢◌}
use Rattle.std.specs.Io.KnownBytes.{Appends}
use Rattle.scald_base.specs.Device.{Rose, ReadsAll, ReadsFront, ReadsPast, TakesFront}
use Rattle.scald_base.specs.declared.call_end.CallEnd.{CallEnd}
use Rattle.scald_base.specs.declared.call_end.CallEnd.TheVariants.{BadWords, TooLong, ReadFault}
use Rattle.scald_base.specs.declared.call_end.CallEnd.TheVariants.{WriteFault, NoMemory}
use Rattle.program_call.specs.Program.{Meaning, IsLawful, IsPartReplied, IsReplied, IsReply, asks}
use Rattle.program_call.specs.Program.{are_reading, ends_reading, ends_silent, most_for, outcome_of}
use Rattle.program_call.specs.Call.{Devices, EndsAsking, IsCall, unrecognised, past, failed}
use Rattle.program_call.specs.Call.{no_room}
use Rattle.program_call.proofs.Answering.{end_is, end_gives, other_end, at_end, speaks_replied}
use Rattle.program_call.proofs.Answering.{at_source_end, reply_answers, part_answers, reply_made}
use Rattle.program_call.proofs.Answering.{whole_answer, long_text}

module _ {Command Outcome S K : Type 0} (m : Meaning Command Outcome) (lawful : IsLawful m)
    (promised : Command → List ℕ → Outcome → Type 0) (words : List (List ℕ)) (d : Devices S K)
    (source source' : S) (sink sink' : K) where
  -- what is known of a call by what it made: an outcome that is replied, or its end
  record Went (made : Result Outcome CallEnd) : Type 0 where
    pub bad_words : (i : ℕ) → m.command_of words ≡ Err i → made ≡ Err (BadWords i)
    pub bad_words_only : (i : ℕ) → made ≡ Err (BadWords i) → m.command_of words ≡ Err i
    pub unread : asks m words ≡ false → source' ≡ source
    pub unwritten : IfErr made (λ end. ends_silent end ≡ true → sink' ≡ sink)
    pub replied : IfOk made
        (λ o. IsReplied m promised words (d.left source) (d.left source') o (d.taken sink)
        (d.taken sink'))
    pub front : ReadsFront (d.left source) (d.left source') (most_for m words)
    pub source_steady : made ≢ Err ReadFault → d.source_faults source' ≡ d.source_faults source
    pub sink_steady : made ≢ Err WriteFault → d.sink_faults sink' ≡ d.sink_faults sink
    pub read_first : IfErr made (λ end. ends_reading end ≡ true → asks m words ≡ true)
    pub read_fault : made ≡ Err ReadFault → Rose (d.source_faults source) (d.source_faults source')
    pub write_fault : made ≡ Err WriteFault → Rose (d.sink_faults sink) (d.sink_faults sink')
    pub cut_short : made ≡ Err WriteFault →
        IsPartReplied m words (d.left source) (d.left source') (d.taken sink) (d.taken sink')
    pub too_long : made ≡ Err TooLong →
        ReadsPast (d.left source) (d.left source') (most_for m words)

  is_call : (made : Result Outcome CallEnd) (o : Outcome) → o ≡ outcome_of m made → Went made →
      IsCall m promised words o d source source' sink sink'
  is_call made o is r = record {
    bad_words = λ i none. end_gives m lawful made o (BadWords i) is (r.bad_words i none);
    bad_words_only = λ i e. r.bad_words_only i
        (end_is m lawful words _ _ _ _ _ made o (BadWords i) r.replied is e);
    unread = r.unread;
    unwritten = λ silent. at_end m lawful words _ _ _ _ _ made o ends_silent _ r.replied is
        r.unwritten silent;
    whole = λ text told read written. whole_answer m lawful words _ _ _ _ _ d.taken _ _ refl refl
        made o text _ _ is told
        r.replied r.bad_words_only r.read_first r.unwritten r.too_long r.read_fault r.write_fault
        read written;
    truthful = λ text told spoken. reply_answers m lawful words _ _ _ text o _ _ told
        (speaks_replied m lawful words _ _ _ _ _ made o r.replied is spoken);
    front = r.front;
    to_end = at_source_end m lawful words _ _ _ _ _ made o r.replied is;
    source_steady = λ other. r.source_steady (other_end m lawful made o ReadFault is other);
    sink_steady = λ other. r.sink_steady (other_end m lawful made o WriteFault is other);
    replied = λ spoken. speaks_replied m lawful words _ _ _ _ _ made o r.replied is spoken;
    read_first = λ reading. at_end m lawful words _ _ _ _ _ made o ends_reading _ r.replied is
        r.read_first reading;
    read_fault = λ e. r.read_fault
        (end_is m lawful words _ _ _ _ _ made o ReadFault r.replied is e);
    write_fault = λ e. r.write_fault
        (end_is m lawful words _ _ _ _ _ made o WriteFault r.replied is e);
    cut_short = λ text told e. part_answers m lawful words _ _ text _ _ told
        (r.cut_short (end_is m lawful words _ _ _ _ _ made o WriteFault r.replied is e));
    too_long = λ e. r.too_long (end_is m lawful words _ _ _ _ _ made o TooLong r.replied is e);
    long_text = long_text m lawful words _ _ _ _ _ made o _ is r.replied r.bad_words_only
        r.read_fault r.cut_short;
  }

  -- ---- before the reply

  abbrev Ends : CallEnd → Type 0
  Ends = EndsAsking m words (d.left source) (d.left source') (d.source_faults source)
      (d.source_faults source')

  no_words : (i : ℕ) → m.command_of words ≡ Err i → asks m words ≡ true → ⊥
  no_words i none asked = let silent : asks m words ≡ false =
      ap (are_reading m.reads) none in absurd (cc)

  ends_unrecognised : (end : CallEnd) → Ends end → (i : ℕ) → m.command_of words ≡ Err i →
      end ≡ BadWords i
  ends_unrecognised _ (unrecognised j none') i none = let same : j ≡ i =
      cc (none, none') in ap BadWords same
  ends_unrecognised _ (past asked reads) i none = absurd (no_words i none asked)
  ends_unrecognised _ (failed asked rose) i none = absurd (no_words i none asked)
  ends_unrecognised _ (no_room command form) i none = absurd (cc (none, form))

  are_unrecognised : (end : CallEnd) → Ends end → (i : ℕ) → end ≡ BadWords i →
      m.command_of words ≡ Err i
  are_unrecognised _ (unrecognised j none) i e = let same : j ≡ i =
      cc in subst (λ (k : ℕ). m.command_of words ≡ Err k) same none
  are_unrecognised _ (past asked reads) i e = absurd (cc)
  are_unrecognised _ (failed asked rose) i e = absurd (cc)
  are_unrecognised _ (no_room command form) i e = absurd (cc)

  reading_asked : (end : CallEnd) → Ends end → ends_reading end ≡ true → asks m words ≡ true
  reading_asked _ (unrecognised j none) reading = absurd (cc)
  reading_asked _ (past asked reads) reading = asked
  reading_asked _ (failed asked rose) reading = asked
  reading_asked _ (no_room command form) reading = absurd (cc)

  reading_failed : (end : CallEnd) → Ends end → end ≡ ReadFault →
      Rose (d.source_faults source) (d.source_faults source')
  reading_failed _ (unrecognised j none) e = absurd (cc)
  reading_failed _ (past asked reads) e = absurd (cc)
  reading_failed _ (failed asked rose) e = rose
  reading_failed _ (no_room command form) e = absurd (cc)

  reading_past : (end : CallEnd) → Ends end → end ≡ TooLong →
      ReadsPast (d.left source) (d.left source') (most_for m words)
  reading_past _ (unrecognised j none) e = absurd (cc)
  reading_past _ (past asked reads) e = reads
  reading_past _ (failed asked rose) e = absurd (cc)
  reading_past _ (no_room command form) e = absurd (cc)

  asking_writes_nothing : (end : CallEnd) → Ends end → end ≡ WriteFault → ⊥
  asking_writes_nothing _ (unrecognised j none) e = absurd (cc)
  asking_writes_nothing _ (past asked reads) e = absurd (cc)
  asking_writes_nothing _ (failed asked rose) e = absurd (cc)
  asking_writes_nothing _ (no_room command form) e = absurd (cc)

  pub ended_asking : (end : CallEnd) (o : Outcome) → o ≡ m.ended end → Ends end →
      (asks m words ≡ false → source' ≡ source) →
      ReadsFront (d.left source) (d.left source') (most_for m words) →
      (end ≢ ReadFault → d.source_faults source' ≡ d.source_faults source) → sink' ≡ sink →
      IsCall m promised words o d source source' sink sink'
  ended_asking end o is ends unread front steady same = is_call (Err end) o is (record {
    bad_words = λ i none. ap Err (ends_unrecognised end ends i none);
    bad_words_only = λ i e. are_unrecognised end ends i (let one : end ≡ BadWords i = cc in one);
    unread = unread;
    unwritten = λ silent. same;
    replied = tt;
    front = front;
    source_steady = λ other. steady (λ e. other (ap Err e));
    sink_steady = λ other. ap d.sink_faults same;
    read_first = reading_asked end ends;
    read_fault = λ e. reading_failed end ends (let one : end ≡ ReadFault = cc in one);
    write_fault = λ e. absurd
        (asking_writes_nothing end ends (let one : end ≡ WriteFault = cc in one));
    cut_short = λ e. absurd
        (asking_writes_nothing end ends (let one : end ≡ WriteFault = cc in one));
    too_long = λ e. reading_past end ends (let one : end ≡ TooLong = cc in one);
  })

  -- ---- from the reply on

  module _ (command : Command) (read : List ℕ) (form : m.command_of words ≡ Ok command)
      (all : m.reads command ≡ true →
      ReadsAll (d.left source) (d.left source') (m.most_bytes (Ok command)) read)
      (short : length read ≤ m.most_bytes (Ok command))
      (unread : asks m words ≡ false → source' ≡ source)
      (front : ReadsFront (d.left source) (d.left source') (most_for m words))
      (steady : d.source_faults source' ≡ d.source_faults source) where
    pub ended_making : (o : Outcome) → o ≡ m.ended NoMemory → sink' ≡ sink →
        IsCall m promised words o d source source' sink sink'
    ended_making o is same = is_call (Err NoMemory) o is (record {
      bad_words = λ i none. absurd (cc (none, form));
      bad_words_only = λ i e. absurd (cc e);
      unread = unread;
      unwritten = λ silent. same;
      replied = tt;
      front = front;
      source_steady = λ other. steady;
      sink_steady = λ other. ap d.sink_faults same;
      read_first = λ reading. absurd (cc);
      read_fault = λ e. absurd (cc e);
      write_fault = λ e. absurd (cc e);
      cut_short = λ e. absurd (cc e);
      too_long = λ e. absurd (cc e);
    })

    module _ (text : List ℕ) (o : Outcome) (bytes piece : List ℕ) (same : text ≡ read)
        (is : m.Replied command text o bytes)
        (are : piece ≡ bytes) where
      abbrev reply : IsReply m words (d.left source) (d.left source') o bytes
      reply = reply_made m words (d.left source) (d.left source') command read text o bytes
          (sym form) all short same is

      pub ended_writing : (end : Outcome) → end ≡ m.ended WriteFault →
          TakesFront (d.taken sink) (d.taken sink') piece →
          Rose (d.sink_faults sink) (d.sink_faults sink') →
          IsCall m promised words end d source source' sink sink'
      ended_writing end is_end written rose = is_call (Err WriteFault) end is_end (record {
        bad_words = λ i none. absurd (cc (none, form));
        bad_words_only = λ i e. absurd (cc e);
        unread = unread;
        unwritten = λ silent. absurd (cc silent);
        replied = tt;
        front = front;
        source_steady = λ other. steady;
        sink_steady = λ other. absurd (other refl);
        read_first = λ reading. absurd (cc reading);
        read_fault = λ e. absurd (cc e);
        write_fault = λ e. rose;
        cut_short = λ e. record {
          outcome = o;
          bytes = bytes;
          reply = reply;
          written = subst (TakesFront (d.taken sink) (d.taken sink')) are written;
        };
        too_long = λ e. absurd (cc e);
      })

      pub replied_whole : promised command text o → Appends (d.taken sink) (d.taken sink') piece →
          d.sink_faults sink' ≡ d.sink_faults sink →
          IsCall m promised words o d source source' sink sink'
      replied_whole kept written still = is_call (Ok o) o refl (record {
        bad_words = λ i none. absurd (cc (none, form));
        bad_words_only = λ i e. absurd (cc e);
        unread = unread;
        unwritten = tt;
        replied = record {
          bytes = bytes;
          reply = reply;
          kept = kept;
          written =
              subst (Appends (d.taken sink) (d.taken sink')) are written;
        };
        front = front;
        source_steady = λ other. steady;
        sink_steady = λ other. still;
        read_first = tt;
        read_fault = λ e. absurd (cc e);
        write_fault = λ e. absurd (cc e);
        cut_short = λ e. absurd (cc e);
        too_long = λ e. absurd (cc e);
      })
