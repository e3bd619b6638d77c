-- A journal with damages whose last entry is allowed after the others, each with the packet at which it looks.
use Rattle.std.proofs.Common.{ℕ, suc, ◌≡◌, ◌+◌, Bool, true, false, List, [], ◌∷◌, ◌++◌, length, refl, arith, sym, ap, ◌∙◌, subst}
use Rattle.std.specs.Prelude.{⊤, cond, ◌||◌}
use Rattle.mn_base.proofs.Bools.{or_right}
use Rattle.mn_topo.specs.Network.{Network}
use Rattle.mn_topo.specs.declared.steps.Step.{Step}
use Rattle.mn_topo.specs.declared.steps.Step.TheVariants.{Inject}
use Rattle.mn_topo.specs.declared.steps.Damaged.{Damaged}
use Rattle.mn_topo.specs.declared.steps.Damaged.TheVariants.{Undamaged, Forth, Back}
use Rattle.mn_topo.specs.declared.steps.JournalEntry.{JournalEntry}
use Rattle.mn_ledger.specs.World.{World}
use Rattle.mn_ledger.specs.Packets.{Packets, packets_after}
use Rattle.mn_ledger.specs.Time.{clock_after, timed}
use Rattle.mn_ledger.specs.Ledger.{after, injects, next_of, but_next, left_by, packets_by, packets_from, world_from}
use Rattle.mn_ledger.specs.Lawful.{GoesForward}
use Rattle.mn_ledger.specs.OneMore.{tick_from}
use Rattle.mn_ledger.proofs.More.{unlooked, unread}
use Rattle.mn_damage.specs.Allowed.{is_marked, looks, injected, left_then, IsAllowed, AreAllowedFrom}
use Rattle.mn_course_laws.specs.Course.{record_of, bytes_of, record_in, packet_for, packets_for, input_before, inputs_of}

-- 1. Each entry with the packet at which it looks

-- these entries go on so
abbrev pub AllowedOn : List (List ℕ) → Network → ℕ → World → Packets → ℕ → List JournalEntry → Type 0
AllowedOn capture t tick w k n [] = ⊤
AllowedOn capture t tick w k n (e ∷ es) =
    IsAllowed t w k n e.step e.damaged (packet_for capture e)
    × GoesForward t tick k e.tick
    × (let v : World = after t w e.step in AllowedOn capture t (clock_after e) v (packets_by t v k e (packet_for capture e)) (n + 1) es)

off : (x y : Bool) → (x || y) ≡ false → x ≡ false
off true y h = absurd (let e : true ≡ false = h in cc)
off false y h = refl

-- an entry that looks at none may have any
reread : (t : Network) (w : World) (k : Packets) (n : ℕ) (s : Step) (m : Damaged) (a b : List ℕ) → (injects s || is_marked m) ≡ false →
    IsAllowed t w k n s m a → IsAllowed t w k n s m b
reread t w k n s Undamaged a b g h = record { fitting = h.fitting; unrefused = unread t w k n s b a (off (injects s) false g) ∙ h.unrefused }
reread t w k n s (Forth r) a b g h = absurd (let e : true ≡ false = sym (or_right (injects s) true refl) ∙ g in cc)
reread t w k n s (Back r) a b g h = absurd (let e : true ≡ false = sym (or_right (injects s) true refl) ∙ g in cc)

-- what is allowed from an entry on, with these packets
abbrev From : Network → ℕ → World → Packets → ℕ → JournalEntry → List JournalEntry → List (List ℕ) → Type 0
From t tick w k n e es ps =
    IsAllowed t w k n e.step e.damaged (next_of ps) × GoesForward t tick k e.tick
    × (let v : World = after t w e.step in AreAllowedFrom t (clock_after e) v (packets_by t v k e (next_of ps)) (n + 1) es (left_then e ps))

-- and with its own
abbrev Own : Network → ℕ → World → Packets → ℕ → JournalEntry → List JournalEntry → List ℕ → List (List ℕ) → Type 0
Own t tick w k n e es b ps =
    IsAllowed t w k n e.step e.damaged b × GoesForward t tick k e.tick
    × (let v : World = after t w e.step in AreAllowedFrom t (clock_after e) v (packets_by t v k e b) (n + 1) es ps)

own_then : (t : Network) (tick : ℕ) (w : World) (k : Packets) (n : ℕ) (e : JournalEntry) (es : List JournalEntry) (b : List ℕ) (ps : List (List ℕ)) (x : Bool) →
    looks e ≡ x → Own t tick w k n e es b ps → From t tick w k n e es (cond x (b ∷ ps) ps)
own_then t tick w k n e es b ps true g h = (
  h.0,
  h.1,
  subst (λ y. AreAllowedFrom t (clock_after e) (after t w e.step) (packets_by t (after t w e.step) k e b) (n + 1) es (cond y ps (b ∷ ps)))
      (sym g) h.2,
)
own_then t tick w k n e es b ps false g h =
    let v : World = after t w e.step in (
      reread t w k n e.step e.damaged b (next_of ps) g h.0,
      h.1,
      subst (λ y. AreAllowedFrom t (clock_after e) v (packets_by t v k e (next_of ps)) (n + 1) es (cond y (but_next ps) ps)) (sym g)
          (subst (λ q. AreAllowedFrom t (clock_after e) v q (n + 1) es ps)
          (unlooked t v (timed t e k) e.step b (next_of ps) (off (injects e.step) (is_marked e.damaged) g)) h.2),
    )

then_own : (t : Network) (tick : ℕ) (w : World) (k : Packets) (n : ℕ) (e : JournalEntry) (es : List JournalEntry) (b : List ℕ) (ps : List (List ℕ)) (x : Bool) →
    looks e ≡ x → From t tick w k n e es (cond x (b ∷ ps) ps) → Own t tick w k n e es b ps
then_own t tick w k n e es b ps true g h =
    (h.0, h.1, subst (λ y. AreAllowedFrom t (clock_after e) (after t w e.step) (packets_by t (after t w e.step) k e b) (n + 1) es (cond y ps (b ∷ ps))) g h.2)
then_own t tick w k n e es b ps false g h =
    let v : World = after t w e.step in (
      reread t w k n e.step e.damaged (next_of ps) b g h.0,
      h.1,
      subst (λ q. AreAllowedFrom t (clock_after e) v q (n + 1) es ps)
          (unlooked t v (timed t e k) e.step (next_of ps) b (off (injects e.step) (is_marked e.damaged) g))
          (subst (λ y. AreAllowedFrom t (clock_after e) v (packets_by t v k e (next_of ps)) (n + 1) es (cond y (but_next ps) ps)) g h.2),
    )

pub with_packets : (capture : List (List ℕ)) (t : Network) (es : List JournalEntry) (tick : ℕ) (w : World) (k : Packets) (n : ℕ) →
    AllowedOn capture t tick w k n es → AreAllowedFrom t tick w k n es (packets_for capture es)
with_packets capture t [] tick w k n h = tt
with_packets capture t (e ∷ es) tick w k n h =
    let v : World = after t w e.step in
    own_then t tick w k n e es (packet_for capture e) (packets_for capture es) (looks e) refl
    (h.0, h.1, with_packets capture t es (clock_after e) v (packets_by t v k e (packet_for capture e)) (n + 1) h.2)

pub with_own : (capture : List (List ℕ)) (t : Network) (es : List JournalEntry) (tick : ℕ) (w : World) (k : Packets) (n : ℕ) →
    AreAllowedFrom t tick w k n es (packets_for capture es) → AllowedOn capture t tick w k n es
with_own capture t [] tick w k n h = tt
with_own capture t (e ∷ es) tick w k n h =
    let v : World = after t w e.step in
    let one = then_own t tick w k n e es (packet_for capture e) (packets_for capture es) (looks e) refl h in
    (one.0, one.1, with_own capture t es (clock_after e) v (packets_by t v k e (packet_for capture e)) (n + 1) one.2)

-- 2. One entry more

-- the packet that a step injects is its own
one_packet : (capture : List (List ℕ)) (t : Network) (v : World) (k : Packets) (s : Step) (m : Damaged) (ps : List (List ℕ)) →
    packets_after t v k s (next_of (input_before capture s ps)) ≡ packets_after t v k s (bytes_of (record_of capture (record_in s m)))
one_packet capture t v k (Inject r number) m ps = refl
one_packet capture t v k s m ps = unlooked t v k s (next_of ps) (bytes_of (record_of capture (record_in s m))) refl

one_left : (capture : List (List ℕ)) (s : Step) (ps : List (List ℕ)) → left_by s (input_before capture s ps) ≡ ps
one_left capture (Inject r number) ps = refl
one_left capture s ps = refl

pub allowed-push : (capture : List (List ℕ)) (t : Network) (es : List JournalEntry) (e : JournalEntry) (tick : ℕ) (w : World) (k : Packets) (n : ℕ) →
    AllowedOn capture t tick w k n es →
    IsAllowed t (world_from t w es) (packets_from t w k es (inputs_of capture es)) (n + length es) e.step e.damaged (packet_for capture e) →
    GoesForward t (tick_from tick es) (packets_from t w k es (inputs_of capture es)) e.tick → AllowedOn capture t tick w k n (es ++ e ∷ [])
allowed-push capture t [] e tick w k n h a f =
    (subst (λ c. IsAllowed t w k c e.step e.damaged (packet_for capture e)) (let z : n + 0 ≡ n = omega arith in z) a, f, tt)
allowed-push capture t (x ∷ es) e tick w k n h a f =
    let v : World = after t w x.step in
    let q : Packets = packets_by t v k x (packet_for capture x) in
    let same : packets_from t w k (x ∷ es) (inputs_of capture (x ∷ es)) ≡ packets_from t v q es (inputs_of capture es) =
    ap (λ r. packets_from t v r es (left_by x.step (input_before capture x.step (inputs_of capture es))))
    (one_packet capture t v (timed t x k) x.step x.damaged (inputs_of capture es))
    ∙ ap (packets_from t v q es) (one_left capture x.step (inputs_of capture es)) in (
      h.0,
      h.1,
      allowed-push capture t es e (clock_after x) v q (n + 1) h.2
          (subst (λ c. IsAllowed t (world_from t v es) (packets_from t v q es (inputs_of capture es)) c e.step e.damaged (packet_for capture e))
          (let z : n + suc (length es) ≡ n + 1 + length es = omega arith in z)
          (subst (λ r. IsAllowed t (world_from t v es) r (n + suc (length es)) e.step e.damaged (packet_for capture e)) same a))
          (subst (λ r. GoesForward t (tick_from (clock_after x) es) r e.tick) same f),
    )

-- 3. Of the packets those that are injected are what the ledger is given

one_injected : (capture : List (List ℕ)) (s : Step) (m : Damaged) (later : List (List ℕ)) (given : List (List ℕ) → List (List ℕ)) →
    (let p : List ℕ = bytes_of (record_of capture (record_in s m)) in let ps : List (List ℕ) = cond (injects s || is_marked m) (p ∷ later) later in
    cond (injects s) (next_of ps ∷ given (cond (injects s || is_marked m) (but_next ps) ps)) (given (cond (injects s || is_marked m) (but_next ps) ps)))
    ≡ input_before capture s (given later)
one_injected capture (Inject r number) m later given = refl
one_injected capture s Undamaged later given = refl
one_injected capture s (Forth r) later given = refl
one_injected capture s (Back r) later given = refl

pub these_are_injected : (capture : List (List ℕ)) (es : List JournalEntry) → injected es (packets_for capture es) ≡ inputs_of capture es
these_are_injected capture [] = refl
these_are_injected capture (e ∷ es) =
    one_injected capture e.step e.damaged (packets_for capture es) (injected es) ∙ ap (input_before capture e.step) (these_are_injected capture es)
