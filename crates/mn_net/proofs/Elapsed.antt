-- Time that goes by, by a number of ticks that is the step's.
use Rattle.std.proofs.Common.{ℕ, ◌≡◌, ◌+◌, [], sym, subst}
use Rattle.mn_topo.specs.declared.steps.Step.TheVariants.{Tick}
use Rattle.mn_ledger.specs.Packets.{Packets}
use Rattle.mn_ledger.specs.Time.{expire}
use Rattle.mn_frame_laws.specs.Given.{Labelling}
use Rattle.mn_transit.specs.Moving.{Moving, CountsOn}
use Rattle.mn_transit.specs.Stands as transit
use Rattle.mn_transit.specs.Aging.{DueAsSent}
use Rattle.mn_timetable_laws.specs.Keys.{keys_in, keys_in_time}
use Rattle.mn_timetable_laws.specs.Steps.{pushed}
use Rattle.mn_net_laws.specs.Now.{NetNow}
use Rattle.mn_net_laws.proofs.Moves.{Goes}

module _ (old : NetNow) (begun moving : Moving) (ticks : ℕ) where
  -- the frames that are too old have ended
  abbrev Expired : ℕ → Type 0
  Expired n =
      (g : Labelling) (packets : Packets) → transit.StandsFor old.topology g begun packets → DueAsSent old.topology begun.flying packets
      → transit.StandsFor old.topology g moving (expire old.topology (old.tick + n) (record packets { clock = old.tick + n }))

  abbrev Left : ℕ → Type 0
  Left n = keys_in moving.flying ≡ keys_in_time old.topology (old.tick + n) (keys_in begun.flying)

  abbrev Gone : ℕ → Type 0
  Gone n = Goes old (record old { journal = pushed old.journal old.tick (Tick ticks); tick = old.tick + n; moving = moving }) (Tick ticks) []

  pub elapse_at : (n : ℕ) → n ≡ ticks → (Expired ticks → Left ticks → CountsOn begun moving 0 0 0 → Gone ticks) →
      Expired n → Left n → CountsOn begun moving 0 0 0 → Gone n
  elapse_at n e done = subst (λ m. Expired m → Left m → CountsOn begun moving 0 0 0 → Gone m) (sym e) done
