-- What a network asks its parts, and what they answer.
use Rattle.std.proofs.Common.{ℕ, ◌≡◌, ◌+◌, ◌*◌, ◌≤◌, Bool, true, false, List, length, refl, arith, sym, ap, ◌∙◌, subst, Option, Some, None}
use Rattle.std.specs.Prelude.{nat_le, IfSome}
use Rattle.std.proofs.lemmas.Bool.Decides.{nat_tests}
use Rattle.mn_base.proofs.Bools.{and_parts}
use Rattle.mn_topo.specs.Network.{Network}
use Rattle.mn_topo.specs.Lawful.{IsLawful}
use Rattle.mn_topo.specs.Steps.{fits}
use Rattle.mn_topo.specs.declared.steps.JournalEntry.{JournalEntry}
use Rattle.mn_ledger.specs.Items.{Channel}
use Rattle.mn_ledger.specs.Items.{Notices, Messages, Routes, Frames}
use Rattle.mn_ledger.specs.Ledger.{injects}
use Rattle.mn_ledger.specs.Time.{ticks_in}
use Rattle.mn_ledger.specs.OneMore.{tick_from}
use Rattle.mn_ledger.proofs.Saying.{bounded}
use Rattle.mn_ledger_laws.specs.Flight.{delivering, IsOpen}
use Rattle.mn_course_laws.specs.declared.coming.Kind.{Kind}
use Rattle.mn_course_laws.specs.declared.coming.Coming.{Coming}
use Rattle.mn_course_laws.specs.Coming.{is_kind, kind_of, lost, delivery}
use Rattle.mn_course_laws.specs.Next.{IsNext}
use Rattle.mn_net_parts_laws.specs.Stands as model
use Rattle.mn_net.specs.Parts.{PartsStand, packed_of}
use Rattle.mn_net_laws.specs.Now.{NetNow, StandsFor, IsNet}

pub parts_stand : (net : NetNow) (ps : List (List ℕ)) → net.moving.channels ≡ 2 * length net.topology.links → StandsFor net ps →
    PartsStand net.topology net.journal ps net.transport net.routes net.moving net.tally
parts_stand net ps channels h = record {
  transport = h.transport;
  routes = h.routes;
  packed = subst (λ made. model.StandsFor net.topology net.journal (packed_of net.transport net.routes net.moving made) ps) h.stands.made h.stands;
  channels = channels;
  counted = h.tally;
}

-- what comes next

no_more : (a b : ℕ) → nat_le a b ≡ true → a ≤ b
no_more a b h = grind (arith, nat_tests, h)

-- what delivers an item injects nothing and lets no time go by
moves_it_alone : (t : Network) (on : Channel) (lossy : Bool) →
    (injects (lost lossy (delivering t on 0)) ≡ false) × (ticks_in (lost lossy (delivering t on 0)) ≡ 0)
moves_it_alone t (Notices l n) true = (refl, refl)
moves_it_alone t (Notices l n) false = (refl, refl)
moves_it_alone t (Messages l n) true = (refl, refl)
moves_it_alone t (Messages l n) false = (refl, refl)
moves_it_alone t (Routes a b) true = (refl, refl)
moves_it_alone t (Routes a b) false = (refl, refl)
moves_it_alone t (Frames l d) true = (refl, refl)
moves_it_alone t (Frames l d) false = (refl, refl)

module _ (t : Network) (es : List JournalEntry) (ps : List (List ℕ)) (kind : Kind) (limit : ℕ) where
  pub within : (o : Option Coming) → IsNext t es ps kind limit o → IfSome o (λ item. item.due ≤ limit)
  within None h = tt
  within (Some c) h =
      subst (λ n. n ≤ limit) (sym h.due) (no_more h.item.due limit (and_parts (is_kind kind (kind_of h.item.on)) (nat_le h.item.due limit) h.least.in_time).1)

  pub soon : (tick : ℕ) → tick_from 0 es ≤ tick → (o : Option Coming) → IsNext t es ps kind limit o → IfSome o (λ item. item.due ≤ tick + 1000)
  soon tick late None h = tt
  soon tick late (Some c) h = let due = h.soon in omega (arith, due, late)

  pub fitting : (o : Option Coming) → IsNext t es ps kind limit o
      → IfSome o (λ item. (fits t (delivery item) ≡ true) × (injects (delivery item) ≡ false) × (ticks_in (delivery item) ≡ 0))
  fitting None h = tt
  fitting (Some c) h = (
    h.delivered.fitting,
    ap (λ s. injects (lost c.lossy s)) h.step ∙ (moves_it_alone t h.item.on c.lossy).0,
    ap (λ s. ticks_in (lost c.lossy s)) h.step ∙ (moves_it_alone t h.item.on c.lossy).1,
  )

  pub open_to : (o : Option Coming) → IsNext t es ps kind limit o → IfSome o (λ item. IsOpen t es ps (delivery item))
  open_to None h = tt
  open_to (Some c) h = h.delivered

-- how long its journal is

pub few_steps : (net : NetNow) → IsLawful net.topology → IsNet net → length net.journal ≤ 4000000
few_steps net lawful is = (bounded net.topology net.journal is.inputs lawful is.stands.stands.lawful).steps

pub few_packets : (net : NetNow) → IsLawful net.topology → IsNet net → length net.moving.verdicts ≤ 4000000
few_packets net lawful is = let steps = few_steps net lawful is in let few = is.verdicts in omega (arith, steps, few)
