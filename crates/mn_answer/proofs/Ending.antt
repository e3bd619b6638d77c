-- What is left where a call is cut off.
use Rattle.std.proofs.Common.{◌≡◌, ◌≤◌, ℕ, arith, List, [], ◌++◌, take, drop, Option, Some}
use Rattle.std.proofs.Common.{None, refl, sym, ◌∙◌, ap, append_assoc, inl, inr, IsSomeAnd, Bool, true, false, subst, if◌then◌else◌, MatchOption, Result, Ok}
use Rattle.std.proofs.Common.{Err}
use Rattle.std.specs.Prelude.{⊤}
use Rattle.std.specs.Option.{ForSome}
use Rattle.mn_base.specs.Limits.{most_script_lines}
use Rattle.mn_script.specs.declared.refusal.ScriptRule.{ScriptRule}
use Rattle.mn_topo.specs.Network.{Network}
use Rattle.mn_topo_toml.specs.declared.refusal.TopoRule.{TopoRule}
use Rattle.mn_topo_toml.specs.declared.refusal.Place.{Place}
use Rattle.mn_answer.specs.declared.outcome.Limit.TheVariants.{TopologyBytes, ScriptBytes, ScriptLines}
use Rattle.std.proofs.lemmas.List.{take-append-drop, append-nil}
use Rattle.mn_edge.specs.Faults.{Grew, GrewUnless, Rose}
use Rattle.mn_edge.specs.FaultLaws.{grew_by, grew_rose, grew_not}
use Rattle.mn_edge.specs.Files.{Files}
use Rattle.mn_edge.specs.Written.{laid, PartWritten}
use Rattle.mn_answer.specs.declared.outcome.Outcome.{Outcome}
use Rattle.mn_answer.specs.declared.outcome.Outcome.TheVariants.{Done, Usage, ReadFault, WriteFault, NoMemory, BadTopology, BadScript, BadCapture, BadSecond}
use Rattle.mn_answer.specs.declared.outcome.Outcome.TheVariants.{BadJoints, TooLarge}
use Rattle.mn_lines.specs.Putting.{PartPut}
use Rattle.mn_answer.specs.Answer.{Answer, refusal_of, if_lawful, if_accepted, most_topology_bytes, most_script_bytes}
use Rattle.mn_answer.specs.Endings.{PartText, PartFiles, OutcomeIs, FilesAre, TextIs, IsLate, IsUnread, Answers, CausedBy, SinkCausedBy, Completes, Counts}
use Rattle.mn_answer.specs.Endings.{UsageIff, NoRise, AreSound, EndsSoundly}

-- the first bytes of the next piece
pub part_put : (done piece rest t : List ℕ) (n : ℕ) (after : Option (List ℕ)) → after ≡ Some ((t ++ done) ++ take n piece) →
    PartPut (done ++ (piece ++ rest)) t after
part_put done piece rest t n after e = (
  done ++ take n piece,
  (
    drop n piece ++ rest,
    append_assoc done (take n piece) (drop n piece ++ rest)
        ∙ ap (λ l. done ++ l) (sym (append_assoc (take n piece) (drop n piece) rest) ∙ ap (λ l. l ++ rest) (take-append-drop n piece)),
  ),
  e ∙ ap Some (append_assoc t done (take n piece)),
)

-- the first bytes of the only piece
pub part_one : (piece t : List ℕ) (n : ℕ) (after : Option (List ℕ)) → after ≡ Some (t ++ take n piece) → PartPut piece t after
part_one piece t n after e =
    subst (λ l. PartPut l t after) (append-nil piece) (part_put [] piece [] t n after (e ∙ ap (λ l. Some (l ++ take n piece)) (sym (append-nil t))))

-- nothing was begun
none_part : (fs : List (List ℕ × List ℕ)) (m : Files) (after : Option Files) → after ≡ Some m → PartWritten fs m after
none_part fs m after e = record { stands = []; is_part = tt; after_is = e }

-- nothing was put and nothing begun
pub untouched_text : (a : Option Answer) (t : List ℕ) (after : Option (List ℕ)) → after ≡ Some t → PartText a t after
untouched_text None t after e = e
untouched_text (Some x) t after e = ([], (x.text, refl), e ∙ ap Some (sym (append-nil t)))

pub untouched_files : (a : Option Answer) (m : Files) (after : Option Files) → after ≡ Some m → PartFiles a m after
untouched_files None m after e = e
untouched_files (Some x) m after e = none_part x.files m after e

given : (a : Option Answer) (o : Outcome) → IsSomeAnd a (λ x. x.outcome ≡ o) → (x : Answer) → a ≡ Some x → o ≡ x.outcome
given None o h x e = absurd h
given (Some y) o h x e = let s : y ≡ x = cc in sym h ∙ ap (λ z. z.outcome) s

-- an answer that comes is the one, or a fault that rose, or out of memory
pub completes : (a : Option Answer) (unread : Type 0) (old new : Counts) (o : Outcome) → (unread → a ≡ None) → OutcomeIs a o → CausedBy unread old new o →
    Completes a old new o
completes a unread old new ReadFault missing h c x e none =
    absurd (let n : ◌≡◌ {A = Option Answer} None (Some x) = sym (missing (grew_not unread old.0 new.0 c.0 none.0)) ∙ e in cc)
completes a unread old new WriteFault missing h c x e none =
    elim c.1 [ inl p ↦ absurd (none.1 (grew_rose old.1 new.1 p.0)) | inr p ↦ absurd (none.2 (grew_rose old.2 new.2 p.0)) ]
completes a unread old new NoMemory missing h c x e none = inr refl
completes a unread old new Done missing h c x e none = inl (given a Done h x e)
completes a unread old new Usage missing h c x e none = inl (given a Usage h x e)
completes a unread old new (BadTopology rule place) missing h c x e none = inl (given a (BadTopology rule place) h x e)
completes a unread old new (BadScript rule line) missing h c x e none = inl (given a (BadScript rule line) h x e)
completes a unread old new (BadCapture rule place) missing h c x e none = inl (given a (BadCapture rule place) h x e)
completes a unread old new (BadSecond rule place) missing h c x e none = inl (given a (BadSecond rule place) h x e)
completes a unread old new (BadJoints rule line) missing h c x e none = inl (given a (BadJoints rule line) h x e)
completes a unread old new (TooLarge which limit) missing h c x e none = inl (given a (TooLarge which limit) h x e)

-- no count of a sound device rises
no_rise : (old new : Counts) → AreSound old → NoRise old new
no_rise old new sound = (
  λ rose. subst (λ n. Rose n new.0) sound.0 rose,
  λ rose. subst (λ n. Rose n new.1) sound.1 rose,
  λ rose. subst (λ n. Rose n new.2) sound.2 rose,
)

-- over sound devices an answer that comes is the one, and where there is none a read's fault comes, or out of memory
pub soundly : (a : Option Answer) (unread : Type 0) (old new : Counts) (o : Outcome) → (unread → a ≡ None) → OutcomeIs a o → CausedBy unread old new o →
    EndsSoundly a old o
soundly (Some x) unread old new o missing h c sound = completes (Some x) unread old new o missing h c x refl (no_rise old new sound)
soundly None unread old new ReadFault missing h c sound = inl refl
soundly None unread old new NoMemory missing h c sound = inr refl
soundly None unread old new WriteFault missing h c sound =
    let none = no_rise old new sound in
    elim c.1 [ inl p ↦ absurd (none.1 (grew_rose old.1 new.1 p.0)) | inr p ↦ absurd (none.2 (grew_rose old.2 new.2 p.0)) ]
soundly None unread old new Done missing h c sound = absurd h
soundly None unread old new Usage missing h c sound = absurd h
soundly None unread old new (BadTopology rule place) missing h c sound = absurd h
soundly None unread old new (BadScript rule line) missing h c sound = absurd h
soundly None unread old new (BadCapture rule place) missing h c sound = absurd h
soundly None unread old new (BadSecond rule place) missing h c sound = absurd h
soundly None unread old new (BadJoints rule line) missing h c sound = absurd h
soundly None unread old new (TooLarge which limit) missing h c sound = absurd h

-- the words were a command line
pub not_usage : (good : Bool) (o : Outcome) → good ≡ true → (o ≡ Usage → ⊥) → UsageIff good o
not_usage good Usage e i = absurd (i refl)
not_usage good WriteFault e i = tt
not_usage good NoMemory e i = tt
not_usage good ReadFault e i = e
not_usage good Done e i = e
not_usage good (BadTopology rule place) e i = e
not_usage good (BadScript rule line) e i = e
not_usage good (BadCapture rule place) e i = e
not_usage good (BadSecond rule place) e i = e
not_usage good (BadJoints rule line) e i = e
not_usage good (TooLarge which limit) e i = e

-- an answer that writes nothing, where no file changed
pub files_untouched : (a : Answer) (m : Files) (after : Option Files) (o : Outcome) → a.files ≡ [] → after ≡ Some m → FilesAre (Some a) m after o
files_untouched a m after ReadFault none same = none_part a.files m after same
files_untouched a m after WriteFault none same = none_part a.files m after same
files_untouched a m after NoMemory none same = none_part a.files m after same
files_untouched a m after Usage none same = same ∙ ap (λ f. Some (laid f m)) (sym none)
files_untouched a m after Done none same = same ∙ ap (λ f. Some (laid f m)) (sym none)
files_untouched a m after (BadTopology rule place) none same = same ∙ ap (λ f. Some (laid f m)) (sym none)
files_untouched a m after (BadScript rule line) none same = same ∙ ap (λ f. Some (laid f m)) (sym none)
files_untouched a m after (BadCapture rule place) none same = same ∙ ap (λ f. Some (laid f m)) (sym none)
files_untouched a m after (BadSecond rule place) none same = same ∙ ap (λ f. Some (laid f m)) (sym none)
files_untouched a m after (BadJoints rule line) none same = same ∙ ap (λ f. Some (laid f m)) (sym none)
files_untouched a m after (TooLarge which limit) none same = same ∙ ap (λ f. Some (laid f m)) (sym none)

pub whole_untouched : (a : Answer) (m : Files) (after : Option Files) (before : List ℕ) (written : Option (List ℕ)) → a.files ≡ [] → after ≡ Some m →
    IsLate (Some a) m after before written
whole_untouched a m after before written none same = inl (same ∙ ap (λ f. Some (laid f m)) (sym none))

-- nothing was put
pub nothing_put : (a : Option Answer) (m : Files) (after : Option Files) (before : List ℕ) (written : Option (List ℕ)) → written ≡ Some before →
    IsLate a m after before written
nothing_put None m after before written is = tt
nothing_put (Some x) m after before written is = inr ([], (x.early, refl), is ∙ ap Some (sym (append-nil before)))

-- no read fails in a call on the sink alone
pub sink_unread : (a : Option Answer) (m : Files) (after : Option Files) (before : List ℕ) (written : Option (List ℕ)) (old new : Option ℕ) (o : Outcome) →
    SinkCausedBy old new o
    → IsUnread a m after before written o
sink_unread a m after before written old new ReadFault h = absurd h.0.0
sink_unread a m after before written old new Done h = tt
sink_unread a m after before written old new Usage h = tt
sink_unread a m after before written old new WriteFault h = tt
sink_unread a m after before written old new NoMemory h = tt
sink_unread a m after before written old new (BadTopology rule place) h = tt
sink_unread a m after before written old new (BadScript rule line) h = tt
sink_unread a m after before written old new (BadCapture rule place) h = tt
sink_unread a m after before written old new (BadSecond rule place) h = tt
sink_unread a m after before written old new (BadJoints rule line) h = tt
sink_unread a m after before written old new (TooLarge which limit) h = tt

-- an answer that writes no file
abbrev pub WritesNone : Option Answer → Type 0
WritesNone answer = MatchOption answer ⊤ (λ a. a.files ≡ [])

pub topology_writes : (found : Result Network (TopoRule × Place)) (next : Network → Option Answer) →
    ((t : Network) → WritesNone (next t)) → WritesNone (if_lawful found next)
topology_writes (Ok t) next h = h t
topology_writes (Err refused) next h = refl

pub topology_bytes_write : (b : Bool) (found : Result Network (TopoRule × Place)) (next : Network → Option Answer) → ((t : Network) → WritesNone (next t))
    → WritesNone (if b then Some (refusal_of (TooLarge TopologyBytes most_topology_bytes)) else if_lawful found next)
topology_bytes_write true found next h = refl
topology_bytes_write false found next h = topology_writes found next h

pub script_writes : {S : Type 0} (found : Result S (ScriptRule × ℕ)) (next : S → Option Answer) →
    ((s : S) → WritesNone (next s)) → WritesNone (if_accepted found next)
script_writes (Ok s) next h = h s
script_writes (Err refused) next h = refl

pub script_bytes_write : {S : Type 0} (b many : Bool) (found : Result S (ScriptRule × ℕ)) (next : S → Option Answer) →
    ((s : S) → WritesNone (next s))
    → WritesNone
    (if b then Some (refusal_of (TooLarge ScriptBytes most_script_bytes)) else if many then Some
    (refusal_of (TooLarge ScriptLines most_script_lines)) else if_accepted found next)
script_bytes_write true many found next h = refl
script_bytes_write false true found next h = refl
script_bytes_write false false found next h = script_writes found next h

pub files_stay : (a : Option Answer) (m : Files) (after : Option Files) (o : Outcome) → WritesNone a → OutcomeIs a o → after ≡ Some m → FilesAre a m after o
files_stay (Some a) m after o none h same = files_untouched a m after o none same
files_stay None m after ReadFault none h same = same
files_stay None m after WriteFault none h same = same
files_stay None m after NoMemory none h same = same
files_stay None m after Done none h same = h
files_stay None m after Usage none h same = h
files_stay None m after (BadTopology rule place) none h same = h
files_stay None m after (BadScript rule line) none h same = h
files_stay None m after (BadCapture rule place) none h same = h
files_stay None m after (BadSecond rule place) none h same = h
files_stay None m after (BadJoints rule line) none h same = h
files_stay None m after (TooLarge which limit) none h same = h

pub late_stays : (a : Option Answer) (m : Files) (after : Option Files) (before : List ℕ) (written : Option (List ℕ)) → WritesNone a → after ≡ Some m →
    IsLate a m after before written
late_stays (Some a) m after before written none same = whole_untouched a m after before written none same
late_stays None m after before written none same = tt

-- a call on the sink alone, whose answer writes no file
pub sink_answers : (a : Option Answer) (m : Files) (after : Option Files) (before written : Option (List ℕ)) (old new : Option ℕ) (o : Outcome) → WritesNone a →
    after ≡ Some m → OutcomeIs a o → ForSome before (λ text. TextIs a text written o) → SinkCausedBy old new o →
    Answers a m after before written o
sink_answers a m after before written old new o none same outcome text cause = record {
  outcome_is = outcome;
  files_are = files_stay a m after o none outcome same;
  text_is = text;
  is_late = λ t is. late_stays a m after t written none same;
  is_unread = λ t is. sink_unread a m after t written old new o cause;
}

-- an input could not be read, or there was no memory for it: nothing was begun and nothing put
pub fault_answers : (a : Option Answer) (m : Files) (after : Option Files) (before : Option (List ℕ)) → after ≡ Some m →
    Answers a m after before before ReadFault
fault_answers a m after before same = record {
  outcome_is = tt;
  files_are = untouched_files a m after same;
  text_is = λ t is. untouched_text a t before is;
  is_late = λ t is. nothing_put a m after t before is;
  is_unread = λ t is. inl (same, is);
}

pub memory_answers : (a : Option Answer) (m : Files) (after : Option Files) (before : Option (List ℕ)) → after ≡ Some m →
    Answers a m after before before NoMemory
memory_answers a m after before same = record {
  outcome_is = tt;
  files_are = untouched_files a m after same;
  text_is = λ t is. untouched_text a t before is;
  is_late = λ t is. nothing_put a m after t before is;
  is_unread = λ t is. tt;
}

-- words that are no command line are refused so
pub is_usage : (old new : Option ℕ) (o : Outcome) → OutcomeIs (Some (refusal_of Usage)) o → SinkCausedBy old new o → UsageIff false o
is_usage old new Usage h c = refl
is_usage old new WriteFault h c = tt
is_usage old new NoMemory h c = tt
is_usage old new ReadFault h c = absurd c.0.0
is_usage old new Done h c = absurd (let e : Usage ≡ Done = h in cc)
is_usage old new (BadTopology rule place) h c = absurd (let e : Usage ≡ BadTopology rule place = h in cc)
is_usage old new (BadScript rule line) h c = absurd (let e : Usage ≡ BadScript rule line = h in cc)
is_usage old new (BadCapture rule place) h c = absurd (let e : Usage ≡ BadCapture rule place = h in cc)
is_usage old new (BadSecond rule place) h c = absurd (let e : Usage ≡ BadSecond rule place = h in cc)
is_usage old new (BadJoints rule line) h c = absurd (let e : Usage ≡ BadJoints rule line = h in cc)
is_usage old new (TooLarge which limit) h c = absurd (let e : Usage ≡ TooLarge which limit = h in cc)

-- a call on the sink alone leaves the shelf's counts
pub sink_caused : (unread : Type 0) (old new : Counts) (o : Outcome) → new.0 ≡ old.0 → new.1 ≡ old.1 → SinkCausedBy old.2 new.2 o → CausedBy unread old new o
sink_caused unread old new ReadFault reads writes c = absurd c.0.0
sink_caused unread old new WriteFault reads writes c = elim c.1 [ inl p ↦ absurd p.0.0 | inr p ↦ (reads, inr (p.0, writes)) ]
sink_caused unread old new Usage reads writes c = (reads, writes, c.2)
sink_caused unread old new NoMemory reads writes c = (reads, writes, c.2)
sink_caused unread old new Done reads writes c = (reads, writes, c.2)
sink_caused unread old new (BadTopology rule place) reads writes c = (reads, writes, c.2)
sink_caused unread old new (BadScript rule line) reads writes c = (reads, writes, c.2)
sink_caused unread old new (BadCapture rule place) reads writes c = (reads, writes, c.2)
sink_caused unread old new (BadSecond rule place) reads writes c = (reads, writes, c.2)
sink_caused unread old new (BadJoints rule line) reads writes c = (reads, writes, c.2)
sink_caused unread old new (TooLarge which limit) reads writes c = (reads, writes, c.2)

-- a later call's cause is one of the whole, where the calls before left the shelf's counts
pub caused_after : (one other : Type 0) (first before now : Counts) (o : Outcome) → before.0 ≡ first.0 → before.1 ≡ first.1 → before.2 ≡ first.2 →
    (one → other) →
    CausedBy one before now o → CausedBy other first now o
caused_after one other first before now ReadFault reads writes puts so c =
    (subst (λ n. GrewUnless other n now.0) reads (grew_by one other before.0 now.0 so c.0), c.1 ∙ writes, c.2 ∙ puts)
caused_after one other first before now WriteFault reads writes puts so c = (
  c.0 ∙ reads,
  elim c.1 [
    | inl p ↦ inl (subst (λ n. Grew n now.1) writes p.0, p.1 ∙ puts)
    | inr p ↦ inr (subst (λ n. Grew n now.2) puts p.0, p.1 ∙ writes)
  ],
)
caused_after one other first before now Usage reads writes puts so c = (c.0 ∙ reads, c.1 ∙ writes, c.2 ∙ puts)
caused_after one other first before now NoMemory reads writes puts so c = (c.0 ∙ reads, c.1 ∙ writes, c.2 ∙ puts)
caused_after one other first before now Done reads writes puts so c = (c.0 ∙ reads, c.1 ∙ writes, c.2 ∙ puts)
caused_after one other first before now (BadTopology rule place) reads writes puts so c = (c.0 ∙ reads, c.1 ∙ writes, c.2 ∙ puts)
caused_after one other first before now (BadScript rule line) reads writes puts so c = (c.0 ∙ reads, c.1 ∙ writes, c.2 ∙ puts)
caused_after one other first before now (BadCapture rule place) reads writes puts so c = (c.0 ∙ reads, c.1 ∙ writes, c.2 ∙ puts)
caused_after one other first before now (BadSecond rule place) reads writes puts so c = (c.0 ∙ reads, c.1 ∙ writes, c.2 ∙ puts)
caused_after one other first before now (BadJoints rule line) reads writes puts so c = (c.0 ∙ reads, c.1 ∙ writes, c.2 ∙ puts)
caused_after one other first before now (TooLarge which limit) reads writes puts so c = (c.0 ∙ reads, c.1 ∙ writes, c.2 ∙ puts)

-- an input that couldn't be read
pub caused_read : (one other : Type 0) (old new : Counts) → new.1 ≡ old.1 → new.2 ≡ old.2 → (one → other) → GrewUnless one old.0 new.0 →
    CausedBy other old new ReadFault
caused_read one other old new writes puts so grew = (grew_by one other old.0 new.0 so grew, writes, puts)
