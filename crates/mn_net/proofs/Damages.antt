-- A damage is the step that it also is, and then a mark on the last entry.
use Rattle.std.proofs.Common.{◌≡◌, ◌≤◌, ◌+◌, true, false, List, [], ◌∷◌, ◌++◌, ℕ, length, refl, arith, sym, ◌∙◌, ap, subst, Some, None}
use Rattle.std.specs.Prelude.{◌≢◌, map}
use Rattle.mn_topo.specs.declared.steps.Step.{Step}
use Rattle.mn_topo.specs.declared.steps.Damage.{Damage}
use Rattle.mn_topo.specs.declared.steps.Damage.TheVariants.{Ldp, Bgp}
use Rattle.mn_topo.specs.declared.steps.Damaged.{Damaged}
use Rattle.mn_topo.specs.declared.steps.Damaged.TheVariants.{Undamaged}
use Rattle.mn_topo.specs.declared.steps.JournalEntry.{JournalEntry}
use Rattle.mn_ledger.specs.declared.refused.Refused.TheVariants.{Empty, StillReads}
use Rattle.mn_ledger.specs.OneMore.{with_packet}
use Rattle.mn_timetable_laws.specs.Steps.{pushed}
use Rattle.mn_damage.specs.Damages.{hearing, ending, mark_of, entry_for, damage_fits}
use Rattle.mn_damage.specs.Same.{unmarked}
use Rattle.mn_net.specs.Marks.{marked, marked_last}
use Rattle.mn_net.proofs.Still.{marks_last, still}
use Rattle.mn_topo.specs.Network.{Network}
use Rattle.mn_topo.specs.Steps.{fits}
use Rattle.mn_ledger.specs.Time.{ticks_in}
use Rattle.mn_ledger.specs.Ledger.{world_of, packets_of}
use Rattle.mn_ledger.specs.Refusal.{refusal}
use Rattle.mn_damage.specs.Refusals.{damage_refusal, still_reads}
use Rattle.mn_damage.proofs.Lives.{ends, in_turn}
use Rattle.mn_net.specs.Damaged.{IsDamaged}
use Rattle.mn_net_laws.specs.Now.{NetNow, StandsFor, IsNet}
use Rattle.mn_net_laws.specs.Done.{IsDone}

-- what is taken off the end and put back marked is the last entry marked
pub put_back : (old rest later : List JournalEntry) (last : JournalEntry) (m : Damaged) → old ≡ rest ++ last ∷ [] → later ≡ rest ++ marked last m ∷ [] →
    later ≡ marked_last old m
put_back old rest later last m was is = is ∙ sym ((marks_last rest m).pushed last) ∙ ap (λ es. marked_last es m) (sym was)

-- marked so, the entry of the step is the entry of the damage
pub entry_is : (es : List JournalEntry) (tick : ℕ) (d : Damage) → marked_last (pushed es tick (ending d)) (mark_of d) ≡ es ++ entry_for tick d ∷ []
entry_is es tick d = (marks_last es (mark_of d)).pushed (record { tick = tick; step = ending d; damaged = Undamaged })

-- it injects nothing
pub no_packet : (d : Damage) (b : List ℕ) (ps : List (List ℕ)) → with_packet (ending d) b ps ≡ ps
no_packet (Ldp l dir n) b ps = refl
no_packet (Bgp x y n) b ps = refl

-- memory to spare is nothing that the ledger speaks of
pub stands_with_spare : (net : NetNow) (spare : ℕ) (ps : List (List ℕ)) → StandsFor net ps → StandsFor (record net { spare = spare }) ps
stands_with_spare net spare ps n = record { works = n.works; transport = n.transport; routes = n.routes; stands = n.stands; tally = n.tally }

pub is_with_spare : (net : NetNow) (spare : ℕ) → IsNet net → IsNet (record net { spare = spare })
is_with_spare net spare is = record {
  inputs = is.inputs;
  stands = stands_with_spare net spare is.inputs is.stands;
  channels = is.channels;
  late = is.late;
  due = is.due;
  within = is.within;
  bytes = is.bytes;
  copies = is.copies;
  verdicts = is.verdicts;
}

-- the last entry put back marked, and nothing else changed but memory to spare
pub still_net : (view : NetNow) (items : List JournalEntry) (spare : ℕ) → map unmarked view.journal ≡ map unmarked items →
    (view.failed ≡ false → IsNet view) → view.failed ≡ false → IsNet (record view { journal = items; spare = spare })
still_net view items spare same is works = is_with_spare (record view { journal = items }) spare ((still view items same).is (is works))

pub put_marked : (view now : NetNow) (items : List JournalEntry) (spare : ℕ) (m : Damaged) → view ≡ now → items ≡ marked_last view.journal m →
    record view { journal = items; spare = spare } ≡ record now { journal = marked_last now.journal m; spare = spare }
put_marked view now items spare m same is =
    subst (λ (n : NetNow). record view { journal = items; spare = spare } ≡ record n { journal = marked_last n.journal m; spare = spare }) same
    (ap (λ es. record view { journal = es; spare = spare }) is)

-- in which order it is refused, after these entries
pub reads_next : (t : Network) (es : List JournalEntry) (ps : List (List ℕ)) (d : Damage) (b : List ℕ) → refusal t es ps (hearing d) [] ≢ Some Empty →
    still_reads d b ≡ true → damage_refusal t es ps d b ≡ Some StillReads
reads_next t es ps d b h r = (in_turn t (world_of t es) (packets_of t es ps) (length es) d b).reads h r

pub rest_last : (t : Network) (es : List JournalEntry) (ps : List (List ℕ)) (d : Damage) (b : List ℕ) → refusal t es ps (hearing d) [] ≢ Some Empty →
    still_reads d b ≡ false → damage_refusal t es ps d b ≡ refusal t es ps (ending d) []
rest_last t es ps d b h r = (in_turn t (world_of t es) (packets_of t es ps) (length es) d b).rest h r

pub ending_fits : (t : Network) (es : List JournalEntry) (ps : List (List ℕ)) (d : Damage) (b : List ℕ) → damage_fits t d ≡ true →
    damage_refusal t es ps d b ≡ None → fits t (ending d) ≡ true
ending_fits t es ps d b fit h = (ends t (world_of t es) (packets_of t es ps) (length es) d b fit h).fitting

no_ticks : (d : Damage) (tick : ℕ) → tick + ticks_in (ending d) ≡ tick
no_ticks (Ldp l dir n) tick = omega arith
no_ticks (Bgp x y n) tick = omega arith

-- the step done and marked is the damage done
damaged_so : (old mid new : NetNow) (d : Damage) → IsDone old mid (ending d) [] →
    new ≡ record mid { journal = marked_last mid.journal (mark_of d); spare = new.spare } → IsDamaged old new d
damaged_so old mid new d done e = record {
  topology = ap (λ (n : NetNow). n.topology) e ∙ done.longer.topology;
  journal = ap (λ (n : NetNow). n.journal) e ∙ ap (λ es. marked_last es (mark_of d)) done.longer.journal ∙ entry_is old.journal old.tick d;
  tick = ap (λ (n : NetNow). n.tick) e ∙ done.longer.tick ∙ no_ticks d old.tick;
  made = subst (λ (n : NetNow). old.made ≤ n.made) (sym e) done.longer.made;
}

stands_so : (old mid new : NetNow) (d : Damage) → IsDone old mid (ending d) [] →
    new ≡ record mid { journal = marked_last mid.journal (mark_of d); spare = new.spare } → (ps : List (List ℕ)) → StandsFor old ps → StandsFor new ps
stands_so old mid new d done e ps h =
    let m : Damaged = mark_of d in
    subst (λ (n : NetNow). StandsFor n ps) (sym e)
    (stands_with_spare (record mid { journal = marked_last mid.journal m }) new.spare ps
    ((still mid (marked_last mid.journal m) (marks_last mid.journal m).same).stands ps
    (subst (λ qs. StandsFor mid qs) (no_packet d [] ps) (done.stands ps h))))

-- as a call's proof has it: by the step that ends it, and by how it is marked
pub ended_so : (old mid new : NetNow) (d : Damage) (s : Step) (m : Damaged) → s ≡ ending d → m ≡ mark_of d → IsDone old mid s []
    → new ≡ record mid { journal = marked_last mid.journal m; spare = new.spare } →
    IsDamaged old new d × ((ps : List (List ℕ)) → StandsFor old ps → StandsFor new ps)
ended_so old mid new d s m ends marks done e =
    let as_ended : IsDone old mid (ending d) [] = subst (λ x. IsDone old mid x []) ends done in
    let as_marked : new ≡ record mid { journal = marked_last mid.journal (mark_of d); spare = new.spare } =
    subst (λ x. new ≡ record mid { journal = marked_last mid.journal x; spare = new.spare }) marks e in
    (damaged_so old mid new d as_ended as_marked, stands_so old mid new d as_ended as_marked)
