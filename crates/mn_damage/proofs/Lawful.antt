-- A journal of which nothing refuses an entry is lawful to the ledger.
use Rattle.std.specs.Prelude.{ℕ, ◌≡◌, ◌+◌, Bool, true, false, cond, List, [], ◌∷◌, refl, None}
use Rattle.std.proofs.Common.{ap, ◌∙◌, sym, subst}
use Rattle.mn_topo.specs.Network.{Network}
use Rattle.mn_topo.specs.Steps.{fits}
use Rattle.mn_topo.specs.declared.steps.Step.{Step}
use Rattle.mn_topo.specs.declared.steps.Damaged.{Damaged}
use Rattle.mn_topo.specs.declared.steps.Damaged.TheVariants.{Undamaged, Forth, Back}
use Rattle.mn_topo.specs.declared.steps.JournalEntry.{JournalEntry}
use Rattle.mn_ledger.specs.World.{World}
use Rattle.mn_ledger.specs.Packets.{Packets}
use Rattle.mn_ledger.specs.Time.{clock_after, timed}
use Rattle.mn_ledger.specs.Ledger.{after, injects, next_of, but_next, left_by, packets_by}
use Rattle.mn_ledger.specs.Lawful.{GoesForward, IsLawfulFrom}
use Rattle.mn_ledger.specs.Refusal.{refusal_at}
use Rattle.mn_ledger.proofs.More.{unlooked, unread}
use Rattle.mn_damage.specs.Allowed.{left_then, injected, IsAllowedStep, IsAllowedDamage, IsAllowed, AreAllowedFrom}
use Rattle.mn_damage.proofs.Lives.{ends}

-- a damage that is allowed is a step that is
by_damage : (t : Network) (w : World) (k : Packets) (n : ℕ) (s : Step) (m : Damaged) (b : List ℕ) → IsAllowedDamage t w k n s m b → IsAllowedStep t w k n s b
by_damage t w k n s m b h =
    let e = ends t w k n h.damage b h.fitting h.unrefused in
    record { fitting = ap (fits t) h.ends ∙ e.fitting; unrefused = ap (λ x. refusal_at t w k n x b) h.ends ∙ e.unrefused b }

pub allowed : (t : Network) (w : World) (k : Packets) (n : ℕ) (s : Step) (m : Damaged) (b : List ℕ) → IsAllowed t w k n s m b → IsAllowedStep t w k n s b
allowed t w k n s Undamaged b h = h
allowed t w k n s (Forth r) b h = by_damage t w k n s (Forth r) b h
allowed t w k n s (Back r) b h = by_damage t w k n s (Back r) b h

-- what the ledger is given from an entry on
abbrev Given : Network → ℕ → World → Packets → ℕ → JournalEntry → List JournalEntry → List (List ℕ) → Type 0
Given t tick w k n e es qs =
    (fits t e.step ≡ true) × GoesForward t tick k e.tick × (refusal_at t w k n e.step (next_of qs) ≡ None)
    × (let v : World = after t w e.step in IsLawfulFrom t (clock_after e) v (packets_by t v k e (next_of qs)) (n + 1) es (left_by e.step qs))

one_entry : (t : Network) (tick : ℕ) (w : World) (k : Packets) (n : ℕ) (e : JournalEntry) (es : List JournalEntry) (b : List ℕ) (rest : List (List ℕ))
    (f : Bool) →
    injects e.step ≡ f → IsAllowedStep t w k n e.step b → GoesForward t tick k e.tick →
    (let v : World = after t w e.step in IsLawfulFrom t (clock_after e) v (packets_by t v k e b) (n + 1) es rest) →
    Given t tick w k n e es (cond f (b ∷ rest) rest)
one_entry t tick w k n e es b rest true f step forward later = (
  step.fitting,
  forward,
  step.unrefused,
  subst (λ x. IsLawfulFrom t (clock_after e) (after t w e.step) (packets_by t (after t w e.step) k e b) (n + 1) es (cond x rest (b ∷ rest))) (sym f) later,
)
one_entry t tick w k n e es b rest false f step forward later =
    let v : World = after t w e.step in (
      step.fitting,
      forward,
      unread t w k n e.step (next_of rest) b f ∙ step.unrefused,
      subst (λ x. IsLawfulFrom t (clock_after e) v (packets_by t v k e (next_of rest)) (n + 1) es (cond x (but_next rest) rest)) (sym f)
          (subst (λ q. IsLawfulFrom t (clock_after e) v q (n + 1) es rest) (unlooked t v (timed t e k) e.step b (next_of rest) f) later),
    )

pub lawful_from : (t : Network) (es : List JournalEntry) (tick : ℕ) (w : World) (k : Packets) (n : ℕ) (ps : List (List ℕ)) →
    AreAllowedFrom t tick w k n es ps → IsLawfulFrom t tick w k n es (injected es ps)
lawful_from t [] tick w k n ps h = tt
lawful_from t (e ∷ es) tick w k n ps h =
    let b : List ℕ = next_of ps in
    let v : World = after t w e.step in
    one_entry t tick w k n e es b (injected es (left_then e ps)) (injects e.step) refl (allowed t w k n e.step e.damaged b h.0) h.1
    (lawful_from t es (clock_after e) v (packets_by t v k e b) (n + 1) (left_then e ps) h.2)
