-- What a watch is told, and what it tells.
use Rattle.std.specs.Prelude.{◌≡◌, ◌-◌, ℕ, Bool, true, false, ◌&&◌, nat_le, List, length, take, slice_get, IfSome, Option, Some, None, Result, Ok, Err}
use Rattle.std.specs.Option.{ForSome}
use Rattle.std.specs.Borrow.{Bor}
use Rattle.mn_edge.specs.Faults.{GrewUnless}
use Rattle.mn_topo.specs.Network.{Network}
use Rattle.mn_entry.specs.Entries.{entry_fits}
use Rattle.mn_topo.specs.declared.steps.JournalEntry.{JournalEntry}
use Rattle.mn_course_laws.specs.Course.{record_of, inputs_of}
use Rattle.mn_ledger.specs.Items.{flight_of}
use Rattle.mn_net.specs.declared.net.Done.{Done}
use Rattle.mn_net.specs.Now.{NetNow, StandsFor}
use Rattle.mn_sched.specs.declared.watch.WatchBad.{WatchBad}
use Rattle.mn_sched.specs.declared.watch.WatchBad.TheVariants.{Read, Write, NoMemory}

-- the counts of failed reads and of failed writes, none where it is sound
abbrev pub Counts : Type 0
Counts = Option ℕ × Option ℕ

-- each fault comes only where its own count rose, or by this excuse, and all else leaves both
abbrev pub Counted : {T : Type 0} → Type 0 → Counts → Counts → Result T WatchBad → Type 0
Counted excuse old new (Ok x) = (new.0 ≡ old.0) × (new.1 ≡ old.1)
Counted excuse old new (Err Read) = GrewUnless excuse old.0 new.0 × (new.1 ≡ old.1)
Counted excuse old new (Err Write) = GrewUnless excuse old.1 new.1 × (new.0 ≡ old.0)
Counted excuse old new (Err NoMemory) = (new.0 ≡ old.0) × (new.1 ≡ old.1)

-- records are numbered from 1
abbrev pub is_record : ℕ → ℕ → Bool
is_record records nth = nat_le 1 nth && nat_le nth records

-- none exactly where there is no such record; else its packet, where packets are told
abbrev pub Found : Option (List (List ℕ)) → ℕ → ℕ → Option (Bor (List ℕ)) → Type 0
Found packets records nth None = is_record records nth ≡ false
Found packets records nth (Some packet) = (is_record records nth ≡ true) × ForSome packets (λ all. record_of all nth ≡ Some packet.now)

-- what a watch keeps, by topology, journal and the journal's packets
abbrev pub Keeping : Type 1
Keeping = Network → List JournalEntry → List (List ℕ) → Type 0

-- what stood still stands
abbrev pub Kept : (Network → List JournalEntry → List (List ℕ) → Type 0) → (Network → List JournalEntry → List (List ℕ) → Type 0) → Type 0
Kept old new = (topology : Network) (journal : List JournalEntry) (inputs : List (List ℕ)) → old topology journal inputs → new topology journal inputs

-- the net stands for the packets that its journal's steps name, and the watch for that journal
abbrev pub Together : NetNow → Option (List (List ℕ)) → (Network → List JournalEntry → List (List ℕ) → Type 0) → Type 0
Together net packets stands = ForSome packets (λ all. StandsFor net (inputs_of all net.journal) × stands net.topology net.journal (inputs_of all net.journal))

-- all entries but the last
abbrev pub but_last : List JournalEntry → List JournalEntry
but_last entries = take (length entries - 1) entries

-- the same before the net's last step was told to the watch
abbrev pub Stood : NetNow → Option (List (List ℕ)) → (Network → List JournalEntry → List (List ℕ) → Type 0) → Type 0
Stood net packets stands =
    ForSome packets (λ all. StandsFor net (inputs_of all net.journal) × stands net.topology (but_last net.journal) (inputs_of all (but_last net.journal)))

-- the watch begins the net's journal
abbrev pub Begun : NetNow → Option (List (List ℕ)) → (Network → List JournalEntry → List (List ℕ) → Type 0) → Type 0
Begun net packets begins = ForSome packets (λ all. begins net.topology net.journal (inputs_of all net.journal))

-- how many items the ledger's journal of these steps has made
abbrev pub made_over : Network → List (List ℕ) → List JournalEntry → ℕ
made_over topology all entries = (flight_of topology entries (inputs_of all entries)).made

-- where packets are told, these are the numbers of the items that the last step of the net's journal made
abbrev pub MadeLast : NetNow → Option (List (List ℕ)) → Done → Type 0
MadeLast net packets made =
    ForSome packets (λ all. (made.first ≡ made_over net.topology all (but_last net.journal)) × (made.end ≡ made_over net.topology all net.journal))

-- the last entry is one of the topology: of a step, or of a damaged message
abbrev pub LastFits : NetNow → Type 0
LastFits net = IfSome (slice_get net.journal (length net.journal - 1)) (λ entry. entry_fits net.topology entry ≡ true)
