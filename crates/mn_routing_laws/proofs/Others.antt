-- A step of another part leaves the routes as they are.
use Rattle.std.proofs.Common.{ℕ, ◌≡◌, false, List, sym, subst}
use Rattle.mn_topo.specs.Network.{Network}
use Rattle.mn_topo.specs.declared.steps.Step.{Step}
use Rattle.mn_topo.specs.declared.steps.Step.TheVariants as step
use Rattle.mn_topo.specs.declared.steps.JournalEntry.{JournalEntry}
use Rattle.mn_topo.specs.declared.steps.Damaged.TheVariants.{Undamaged}
use Rattle.mn_ledger.specs.World.{World}
use Rattle.mn_ledger.specs.Bgp.{peerings_after}
use Rattle.mn_ledger.specs.Ledger.{after, start, world_of}
use Rattle.mn_ledger.proofs.More.{world_from-push}
use Rattle.mn_frame_laws.specs.Numbers.{labels_of}
use Rattle.mn_bgp_spelling_laws.specs.Spelling.{Labels}
use Rattle.mn_timetable_laws.specs.Steps.{pushed}
use Rattle.mn_routing_laws.proofs.Growing.{table_grows}
use Rattle.mn_routing_laws.specs.Labels.{labels_after, next_label}
use Rattle.mn_routing_laws.specs.Routed.{Routed, StandsFor, IsRoutes}
use Rattle.mn_routing_laws.specs.Steps.{is_its, StayAsTheyWere}

-- the world and the labels after one entry more
pub world_then : (t : Network) (es : List JournalEntry) (tick : ℕ) (s : Step) → world_of t (pushed es tick s) ≡ after t (world_of t es) s
world_then t es tick s = world_from-push t es (start t) (record { tick = tick; step = s; damaged = Undamaged })

pub labels_then : (t : Network) (es : List JournalEntry) (tick : ℕ) (s : Step) →
    labels_of t (pushed es tick s) ≡ labels_after (next_label t es) (world_of t es).config (labels_of t es) s
labels_then t es tick s = table_grows t es (record { tick = tick; step = s; damaged = Undamaged })

pub then_stands : (t : Network) (es : List JournalEntry) (tick : ℕ) (s : Step) (routed : Routed) →
    StandsFor t (labels_after (next_label t es) (world_of t es).config (labels_of t es) s) (after t (world_of t es) s) routed →
    IsRoutes t (pushed es tick s) routed
then_stands t es tick s routed h =
    subst (λ l. StandsFor t l (world_of t (pushed es tick s)) routed) (sym (labels_then t es tick s))
    (subst (λ w. StandsFor t (labels_after (next_label t es) (world_of t es).config (labels_of t es) s) w routed) (sym (world_then t es tick s)) h)

still : (t : Network) (gives : ℕ → ℕ) (l : Labels) (w : World) (s : Step) (routed : Routed) → is_its s ≡ false → StandsFor t l w routed →
    StandsFor t (labels_after gives w.config l s) (after t w s) routed
unfolding peerings_after
still t gives l w (step.LinkUp k) routed e h = record { edges = h.edges; sessions = h.sessions; messages = h.messages }
still t gives l w (step.LinkDown k) routed e h = record { edges = h.edges; sessions = h.sessions; messages = h.messages }
still t gives l w (step.LdpAdmin k on) routed e h = record { edges = h.edges; sessions = h.sessions; messages = h.messages }
still t gives l w (step.Learn n k) routed e h = record { edges = h.edges; sessions = h.sessions; messages = h.messages }
still t gives l w (step.HearLdp k d) routed e h = record { edges = h.edges; sessions = h.sessions; messages = h.messages }
still t gives l w (step.Inject s k) routed e h = record { edges = h.edges; sessions = h.sessions; messages = h.messages }
still t gives l w (step.Carry k d n) routed e h = record { edges = h.edges; sessions = h.sessions; messages = h.messages }
still t gives l w (step.Lose k d n) routed e h = record { edges = h.edges; sessions = h.sessions; messages = h.messages }
still t gives l w (step.Tick ticks) routed e h = record { edges = h.edges; sessions = h.sessions; messages = h.messages }
still t gives l w _ routed e h = cc

pub stay : StayAsTheyWere
stay t es tick s routed lawful other h = then_stands t es tick s routed (still t (next_label t es) (labels_of t es) (world_of t es) s routed other h)
