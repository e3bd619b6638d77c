-- What a call tells, in other words.
use Rattle.std.proofs.Common.{◌≡◌, ℕ, List, Option, Ok, Err, OnOk, OnErr, sym, subst}
use Rattle.mn_topo.specs.Network.{Network}
use Rattle.mn_topo.specs.declared.steps.JournalEntry.{JournalEntry}
use Rattle.mn_script.specs.declared.command.Show.{Show}
use Rattle.mn_output_laws.specs.Tables.{table_text}
use Rattle.mn_lines.specs.Putting.{Puts, PutsPart}
use Rattle.mn_tables.specs.Telling.{Stand, Tells}
use Rattle.mn_tables.proofs.Telling.{Answer}

-- of a topology that is the same
pub of_topology : {N : Type 0} (f : N → List ℕ) (topology other : N) (s t : Stand) (r : Answer) → other ≡ topology → Tells (f other) s t r →
    Tells (f topology) s t r
of_topology f topology other s t r same x = subst (λ n. Tells (f n) s t r) same x

-- for whatever a network stands for, by the answer
pub put_where : {I : Type 0} (S : I → Type 0) (f : I → List ℕ) (s t : Stand) (r : Answer) → ((i : I) → S i → Tells (f i) s t r)
    → OnOk r ((i : I) → S i → Puts (f i) s.waits t.waits s.written t.written)
put_where S f s t (Ok x) told = λ i h. (told i h).put
put_where S f s t (Err e) told = tt

pub part_where : {I : Type 0} (S : I → Type 0) (f : I → List ℕ) (s t : Stand) (r : Answer) → ((i : I) → S i → Tells (f i) s t r)
    → OnErr r ((i : I) → S i → PutsPart (f i) s.waits s.written t.written)
part_where S f s t (Ok x) told = tt
part_where S f s t (Err e) told = λ i h. (told i h).part

-- the table that is asked for
pub as_shown : (topology : Network) (journal : List JournalEntry) (inputs : List (List ℕ)) (packet : Option (List ℕ)) (table asked : Show) (s t : Stand)
    (r : Answer)
    → table ≡ asked → Tells (table_text topology journal inputs packet asked) s t r → Tells (table_text topology journal inputs packet table) s t r
as_shown topology journal inputs packet table asked s t r is x = subst (λ a. Tells (table_text topology journal inputs packet a) s t r) (sym is) x
