-- From what the calls of a step add to what the files are to hold.
use Rattle.std.proofs.Common.{◌≡◌, ℕ, suc, ◌+◌, ◌-◌, ◌<◌, List, [], ◌∷◌, ◌++◌, length, take, slice_get}
use Rattle.std.proofs.Common.{Option, Some, None, Result, refl, sym, ◌∙◌, ap, subst, arith}
use Rattle.std.specs.Borrow.{Bor}
use Rattle.std.specs.Option.{option_copied}
use Rattle.mn_edge.specs.Files.{Files}
use Rattle.mn_edge.specs.Kept.{HoldsOn}
use Rattle.mn_journal.specs.Lines.{line_of}
use Rattle.mn_topo.specs.Network.{Network}
use Rattle.mn_topo.specs.Lawful.{IsLawful}
use Rattle.mn_topo.specs.declared.steps.JournalEntry.{JournalEntry}
use Rattle.mn_ledger.specs.Ledger.{packets_of}
use Rattle.mn_ledger.specs.Items.{flight_of}
use Rattle.mn_ledger.specs.Lawful.{IsLawfulJournal}
use Rattle.mn_course_laws.specs.Course.{inputs_of}
use Rattle.mn_output_laws.specs.Moments.{Moment, journal_then, made}
use Rattle.mn_output_laws.specs.Files.{OutputFile, Journal, Deliveries, files_of}
use Rattle.mn_output_laws.specs.Contents.{contents, delivery_record}
use Rattle.mn_output_laws.proofs.Adding.{adding}
use Rattle.mn_files.specs.Numbers.{file_at}
use Rattle.mn_files.proofs.Places.{journal_is, deliveries_are}
use Rattle.mn_sched.specs.Done.{Done}
use Rattle.mn_net_laws.specs.Now.{NetNow, StandsFor}
use Rattle.mn_sched.specs.Watching.{but_last, made_over}
use Rattle.mn_perform.specs.Recorded.{BooksNow, IsFor, contents_at}
use Rattle.mn_perform.specs.Adding.{Puts, with_part, only_in}
use Rattle.mn_perform.specs.Parts.{in_file, items_part, by_number, IsMade, RecordsLast, RecordsStep}
use Rattle.mn_perform.proofs.Adding.{holds_as, begins_as, ok_then, err_then}
use Rattle.mn_perform.proofs.Same.{in_place}
use Rattle.mn_perform.proofs.Steps.{lawful_step_adds, made_then_is}

-- the last entry stands behind the others
last_of : (entries : List JournalEntry) (entry : JournalEntry) → slice_get entries (length entries - 1) ≡ Some entry → entries ≡ but_last entries ++ entry ∷ []
last_of [] entry h = absurd (let e : None ≡ Some entry = h in cc)
last_of (x ∷ []) entry h = ap (λ e. e ∷ []) (let e : Some x ≡ Some entry = h in cc)
last_of (x ∷ y ∷ more) entry h =
    let rest : y ∷ more ≡ but_last (y ∷ more) ++ entry ∷ [] =
    last_of (y ∷ more) entry (ap (slice_get (x ∷ y ∷ more)) (let e : suc (length (y ∷ more) - 1) ≡ length (x ∷ y ∷ more) - 1 = omega arith in e) ∙ h) in
    ap (λ l. x ∷ l) rest
    ∙ ap (λ n. take n (x ∷ y ∷ more) ++ entry ∷ []) (let e : suc (length (y ∷ more) - 1) ≡ length (x ∷ y ∷ more) - 1 = omega arith in e)

none_last : (entries : List JournalEntry) → slice_get entries (length entries - 1) ≡ None → entries ≡ []
none_last [] h = refl
none_last (x ∷ []) h = absurd (let e : Some x ≡ None = h in cc)
none_last (x ∷ y ∷ more) h =
    let rest : y ∷ more ≡ [] =
    none_last (y ∷ more) (ap (slice_get (x ∷ y ∷ more)) (let e : suc (length (y ∷ more) - 1) ≡ length (x ∷ y ∷ more) - 1 = omega arith in e) ∙ h) in
    absurd (let e : y ∷ more ≡ [] = rest in cc)

-- what the items of a step add, by the file's number
abbrev pub items_in : NetNow → List (List ℕ) → JournalEntry → Done → ℕ → List ℕ
items_in net all entry made = by_number net.topology (items_part net.topology net.journal (inputs_of all net.journal) entry.tick made.first
    (made.end - made.first))

-- with what it delivered
abbrev pub behind_line : NetNow → List (List ℕ) → JournalEntry → Done → ℕ → List ℕ
behind_line net all entry made k =
    only_in 2 (delivery_record entry.tick (packets_of net.topology net.journal (inputs_of all net.journal)).delivered) k ++ items_in net all entry made k

-- what the three calls of a step add
abbrev pub parts_of : NetNow → List (List ℕ) → JournalEntry → Done → ℕ → List ℕ
parts_of net all entry made k = only_in 0 (line_of net.topology entry) k ++ behind_line net all entry made k

-- is what the step adds
pub contents_grow : (net : NetNow) (all : List (List ℕ)) (entry : JournalEntry) (done : Done) (k : ℕ) → IsLawful net.topology →
    StandsFor net (inputs_of all net.journal) → IsMade net all done → slice_get net.journal (length net.journal - 1) ≡ Some entry →
    k < length (files_of net.topology) →
    contents_at net.topology all (but_last net.journal) k ++ parts_of net all entry done k ≡ contents_at net.topology all net.journal k
contents_grow net all entry done k lawful stands is_made last within =
    let t : Network = net.topology in
    let now : Moment = record { before = but_last net.journal; entry = entry } in
    let out : OutputFile = file_at t k in
    let journal : net.journal ≡ journal_then now = last_of net.journal entry last in
    let many : done.end - done.first ≡ length (made t all now) =
    let first = is_made.0 in
    let end : done.end ≡ (flight_of t (but_last net.journal) (inputs_of all (but_last net.journal))).made + length (made t all now) =
    is_made.1 ∙ ap (λ j. made_over t all j) journal ∙ made_then_is t all now in
    omega (arith, first, end) in
    ap (λ l. contents_at t all (but_last net.journal) k ++ l)
    (ap (λ l. l ++ (only_in 2 (delivery_record entry.tick (packets_of t net.journal (inputs_of all net.journal)).delivered) k
    ++ by_number t (items_part t net.journal (inputs_of all net.journal) entry.tick done.first (done.end - done.first)) k))
    (in_place t Journal 0 k (line_of t entry) (journal_is t) within)
    ∙ ap (λ l. in_file (Some Journal) (line_of t entry) out ++ (l
    ++ by_number t (items_part t net.journal (inputs_of all net.journal) entry.tick done.first (done.end - done.first)) k))
    (in_place t Deliveries 2 k (delivery_record entry.tick (packets_of t net.journal (inputs_of all net.journal)).delivered) (deliveries_are t) within)
    ∙ ap (λ j. in_file (Some Journal) (line_of t entry) out ++
    (in_file (Some Deliveries) (delivery_record entry.tick (packets_of t j (inputs_of all j)).delivered) out
    ++ items_part t j (inputs_of all j) entry.tick done.first (done.end - done.first) out)) journal
    ∙ ap (λ n. in_file (Some Journal) (line_of t entry) out
    ++ (in_file (Some Deliveries) (delivery_record entry.tick (packets_of t (journal_then now) (inputs_of all (journal_then now))).delivered) out
    ++ items_part t (journal_then now) (inputs_of all (journal_then now)) entry.tick n (done.end - done.first) out)) is_made.0
    ∙ ap (λ n. in_file (Some Journal) (line_of t entry) out
    ++ (in_file (Some Deliveries) (delivery_record entry.tick (packets_of t (journal_then now) (inputs_of all (journal_then now))).delivered) out
    ++ items_part t (journal_then now) (inputs_of all (journal_then now)) entry.tick
    (flight_of t (but_last net.journal) (inputs_of all (but_last net.journal))).made n out)) many
    ∙ lawful_step_adds t all now out lawful
    (subst (λ j. IsLawfulJournal t j (inputs_of all j)) journal stands.stands.lawful))
    ∙ sym (adding t all (but_last net.journal) entry out) ∙ ap (λ j. contents t all j out) (sym journal)

-- the three calls record the step
pub step_recorded : {E : Type 0} (net : NetNow) (all : List (List ℕ)) (entry : JournalEntry) (done : Done) {topology : Network} {a d : BooksNow}
    {f g : Option Files} {result : Result (Unit {0}) E} → topology ≡ net.topology → IsLawful topology → StandsFor net (inputs_of all net.journal) →
    IsMade net all done → slice_get net.journal (length net.journal - 1) ≡ Some entry → IsFor d net.topology →
    Puts (parts_of net all entry done) a d f g result →
    RecordsStep net all a d f g result
step_recorded net all entry done {d = d} {g = g} {result = result} same laws stands is_made last is puts = record {
  records = ok_then result _ _ puts.adds (λ adds holds.
      holds_as d.names (with_part before (parts_of net all entry done)) (contents_at net.topology all net.journal) d.held g grow (adds before holds));
  may = err_then result _ _ puts.may (λ may holds.
      begins_as d.names (with_part before (parts_of net all entry done)) (contents_at net.topology all net.journal) g grow (may before holds));
}
  where
    before : ℕ → List ℕ
    before = contents_at net.topology all (but_last net.journal)

    grow : (k : ℕ) → k < length d.names → with_part before (parts_of net all entry done) k ≡ contents_at net.topology all net.journal k
    grow k within = contents_grow net all entry done k (subst IsLawful same laws) stands is_made last (subst (λ n. k < n) is.files within)

-- the last entry, by what was answered
pub entry_is : (seen journal : List JournalEntry) (o : Option (Bor JournalEntry)) (found : Option (Bor JournalEntry)) → seen ≡ journal →
    option_copied o ≡ slice_get seen (length seen - 1) → o ≡ found → slice_get journal (length journal - 1) ≡ option_copied found
entry_is seen journal o found same last is = sym (ap (λ j. slice_get j (length j - 1)) same) ∙ sym last ∙ ap option_copied is

-- where there is no step, there is nothing to record
pub nothing_recorded : (net : NetNow) (all : List (List ℕ)) (a : BooksNow) (f : Option Files) → slice_get net.journal (length net.journal - 1) ≡ None →
    RecordsLast net all a a f f
nothing_recorded net all a f none = λ holds.
    let empty : net.journal ≡ [] = none_last net.journal none in
    subst (λ j. HoldsOn a.names (contents_at net.topology all j) a.held f) (ap but_last empty ∙ sym empty) holds
