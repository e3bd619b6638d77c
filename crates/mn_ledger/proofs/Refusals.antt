-- Where nothing refuses a step none of the causes holds; and the ledger never says that memory ran out.
use Rattle.std.specs.Prelude.{ℕ, ◌≡◌, ◌≤◌, ◌<◌, ◌+◌, Bool, true, false, cond, List, [], ◌∷◌, length, refl, Option, Some, None, nat_le}
use Rattle.std.proofs.Common.{arith}
use Rattle.std.proofs.lemmas.Bool.Decides.{nat_tests}
use Rattle.mn_topo.specs.Network.{Network}
use Rattle.mn_topo.specs.declared.steps.Step.{Step}
use Rattle.mn_topo.specs.declared.steps.Step.TheVariants.{LinkUp, AddRoute, DelRoute}
use Rattle.mn_topo.specs.declared.steps.JournalEntry.{JournalEntry}
use Rattle.mn_ledger.specs.declared.refused.Refused.{Refused}
use Rattle.mn_ledger.specs.declared.refused.Refused.TheVariants as why
use Rattle.mn_ledger.specs.Places.{vrf_of}
use Rattle.mn_ledger.specs.World.{World}
use Rattle.mn_ledger.specs.Packets.{Packets, packets_after}
use Rattle.mn_ledger.specs.Time.{clock_after}
use Rattle.mn_ledger.specs.Ledger.{packets_by, after, start, no_packets, next_of, left_by}
use Rattle.mn_ledger.specs.Refusal.{refusal_at, first_cause, where_holds, limits, static_refusal, prefix_refusal, taken_by, is_unchanged, is_empty}
use Rattle.mn_ledger.specs.Refusal.{is_targets_full, is_spent, is_full}
use Rattle.mn_ledger.specs.Lawful.{IsLawfulFrom, IsLawfulJournal}

-- 1. What holds where nothing refuses a step

pub record IsFree (t : Network) (w : World) (k : Packets) (n : ℕ) (s : Step) (b : List ℕ) : Type 0 where
  pub changes : is_unchanged w.config s ≡ false
  pub there : is_empty t w k s ≡ false
  pub statics : static_refusal t w.config s ≡ None
  pub targets : is_targets_full w.config s ≡ false
  pub labels : is_spent t w.config s ≡ false
  pub room : is_full t w k s b ≡ false
  pub steps : n < 4000000

none_first : (o : Option Refused) (os : List (Option Refused)) → first_cause (o ∷ os) ≡ None → (o ≡ None) × (first_cause os ≡ None)
none_first None os h = (refl, h)
none_first (Some r) os h = cc

off : (b : Bool) (c : Refused) → where_holds b c ≡ None → b ≡ false
off true c h = cc
off false c h = refl

below : (n : ℕ) → nat_le 4000000 n ≡ false → n < 4000000
below n e = grind (arith, nat_tests, e)

pub free : (t : Network) (w : World) (k : Packets) (n : ℕ) (s : Step) (b : List ℕ) → refusal_at t w k n s b ≡ None → IsFree t w k n s b
free t w k n s b h =
    let one = none_first (where_holds (is_unchanged w.config s) why.Unchanged) (where_holds (is_empty t w k s) why.Empty ∷ limits t w k n s b) h in
    let two = none_first (where_holds (is_empty t w k s) why.Empty) (limits t w k n s b) one.1 in
    let three = none_first (static_refusal t w.config s)
    (where_holds (is_targets_full w.config s) why.TargetsFull ∷ where_holds (is_spent t w.config s) why.LabelsSpent
    ∷ where_holds (is_full t w k s b) why.NetFull ∷ where_holds (nat_le 4000000 n) why.TooManySteps ∷ []) two.1 in
    let four = none_first (where_holds (is_targets_full w.config s) why.TargetsFull)
    (where_holds (is_spent t w.config s) why.LabelsSpent ∷ where_holds (is_full t w k s b) why.NetFull ∷ where_holds (nat_le 4000000 n) why.TooManySteps
    ∷ []) three.1 in
    let five =
    none_first (where_holds (is_spent t w.config s) why.LabelsSpent) (where_holds (is_full t w k s b) why.NetFull
    ∷ where_holds (nat_le 4000000 n) why.TooManySteps ∷ []) four.1 in
    let six = none_first (where_holds (is_full t w k s b) why.NetFull) (where_holds (nat_le 4000000 n) why.TooManySteps ∷ []) five.1 in
    let seven = none_first (where_holds (nat_le 4000000 n) why.TooManySteps) [] six.1 in
    record {
      changes = off (is_unchanged w.config s) why.Unchanged one.0;
      there = off (is_empty t w k s) why.Empty two.0;
      statics = three.0;
      targets = off (is_targets_full w.config s) why.TargetsFull four.0;
      labels = off (is_spent t w.config s) why.LabelsSpent five.0;
      room = off (is_full t w k s b) why.NetFull six.0;
      steps = below n (off (nat_le 4000000 n) why.TooManySteps seven.0);
    }

few_from : (t : Network) (es : List JournalEntry) (tick : ℕ) (w : World) (k : Packets) (n : ℕ) (ps : List (List ℕ)) → IsLawfulFrom t tick w k n es ps →
    n ≤ 4000000 → n + length es ≤ 4000000
few_from t [] tick w k n ps l h = omega (arith, h)
few_from t (e ∷ es) tick w k n ps l h =
    let b : List ℕ = next_of ps in
    let here : n < 4000000 = (free t w k n e.step b l.2).steps in
    let rest : n + 1 + length es ≤ 4000000 =
    few_from t es (clock_after e) (after t w e.step) (packets_by t (after t w e.step) k e b) (n + 1) (left_by e.step ps) l.3 (omega (arith, here)) in
    omega (arith, rest)

pub few_entries : (t : Network) (es : List JournalEntry) (ps : List (List ℕ)) → IsLawfulJournal t es ps → length es ≤ 4000000
few_entries t es ps l = let all : 0 + length es ≤ 4000000 = few_from t es 0 (start t) no_packets 0 ps l (omega arith) in omega (arith, all)

-- 2. The ledger never says that memory ran out

not_so : (c : Refused) → c ≡ why.Unchanged → Some c ≡ Some why.NoMemory → ⊥
not_so c e f = cc

passes : (b : Bool) (c : Refused) (rest : List (Option Refused)) → (Some c ≡ Some why.NoMemory → ⊥) →
    (first_cause rest ≡ Some why.NoMemory → ⊥) → first_cause (where_holds b c ∷ rest) ≡ Some why.NoMemory → ⊥
passes true c rest h g e = h e
passes false c rest h g e = g e

passes_static : (r : Option Refused) (rest : List (Option Refused)) → (r ≡ Some why.NoMemory → ⊥) →
    (first_cause rest ≡ Some why.NoMemory → ⊥) → first_cause (r ∷ rest) ≡ Some why.NoMemory → ⊥
passes_static None rest h g e = g e
passes_static (Some c) rest h g e = h e

cond_kept : (b : Bool) (x y : Option Refused) → (x ≡ Some why.NoMemory → ⊥) → (y ≡ Some why.NoMemory → ⊥) → cond b x y ≡ Some why.NoMemory → ⊥
cond_kept true x y h g e = h e
cond_kept false x y h g e = g e

prefix_never : (o : Option ℕ) (n : ℕ) → prefix_refusal o n ≡ Some why.NoMemory → ⊥
prefix_never (Some s) n e = cc
prefix_never None n e = cond_kept (nat_le 65536 n) (Some why.RoutesFull) None (λ f. cc) (λ f. cc) e

static_never : (t : Network) (w : World) (s : Step) → static_refusal t w.config s ≡ Some why.NoMemory → ⊥
static_never t w (AddRoute s p) e = prefix_never (taken_by t (vrf_of t s.0) p w.config.statics) (length w.config.statics) e
static_never t w (DelRoute s p) e = cond_kept _ None (Some why.NoRouteThere) (λ f. cc) (λ f. cc) e
static_never t w (LinkUp l) e = cc
static_never t w _ e = cc

pub never_for_memory : (t : Network) (w : World) (k : Packets) (n : ℕ) (s : Step) (b : List ℕ) → refusal_at t w k n s b ≡ Some why.NoMemory → ⊥
never_for_memory t w k n s b =
    passes (is_unchanged w.config s) why.Unchanged _ (λ f. cc)
    (passes (is_empty t w k s) why.Empty _ (λ f. cc)
    (passes_static (static_refusal t w.config s) _ (static_never t w s)
    (passes (is_targets_full w.config s) why.TargetsFull _ (λ f. cc)
    (passes (is_spent t w.config s) why.LabelsSpent _ (λ f. cc)
    (passes (is_full t w k s b) why.NetFull _ (λ f. cc)
    (passes (nat_le 4000000 n) why.TooManySteps [] (λ f. cc) (λ f. cc)))))))
