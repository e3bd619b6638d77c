-- The bindings, and since when FECs are at rest: RFC 5036, sections 3.5.10 and 3.5.11.
use Rattle.std.specs.Prelude.{ℕ, ◌+◌, ◌≤◌, ◌<◌, ◌&&◌, not, Bool, List, [], ◌∷◌, ⊤}
use Rattle.mn_base.specs.declared.numbers.NodeNo.{NodeNo}
use Rattle.mn_releases.specs.Rests.{Resting, at_first, opened, closed, released, withdrawn, stopped, row_of, count_in, is_over}
use Rattle.mn_bindings.specs.declared.event.LibEvent.{LibEvent}
use Rattle.mn_bindings.specs.declared.event.LibEvent.TheVariants as event
use Rattle.mn_bindings.specs.declared.event.Tell.{Tell}
use Rattle.mn_bindings.specs.declared.event.TellKind.{TellKind}
use Rattle.mn_bindings.specs.declared.event.TellKind.TheVariants.{Withdraw}
use Rattle.mn_bindings.specs.Bindings.{Bindings, nothing_heard, offers, after_events}
use Rattle.mn_bindings.specs.Tells.{tells}
use Rattle.mn_bindings.specs.News.{ended}

-- what contracts see of a Lib
pub record Known : Type 0 where
  pub bindings : Bindings
  pub resting : Resting

abbrev pub nothing_known : NodeNo → ℕ → ℕ → Known
nothing_known me nodes life = record { bindings = nothing_heard me nodes; resting = at_first nodes life }

-- a session begins or ends, or a Release is received
abbrev pub rested_event : ℕ → Resting → LibEvent → Resting
rested_event tick resting (event.Opened from) = opened resting from.0
rested_event tick resting (event.Closed from) = closed resting from.0 tick
rested_event tick resting (event.Released from fec) = released resting from.0 fec.0 tick
rested_event tick resting _ = resting

abbrev pub rested_events : ℕ → Resting → List LibEvent → Resting
rested_events tick resting [] = resting
rested_events tick resting (event ∷ events) = rested_events tick (rested_event tick resting event) events

-- for each Withdraw that is sent a Release is owed
abbrev pub owed_by : TellKind → Resting → ℕ → ℕ → Resting
owed_by Withdraw resting to fec = withdrawn resting to fec
owed_by _ resting to fec = resting

abbrev pub owed_for : Resting → List Tell → Resting
owed_for resting [] = resting
owed_for resting (tell ∷ tells) = owed_for (owed_by tell.kind resting tell.to.0 tell.fec.0) tells

-- FECs cease to be offered
abbrev pub all_stopped : ℕ → Resting → List ℕ → Resting
all_stopped tick resting [] = resting
all_stopped tick resting (fec ∷ fecs) = all_stopped tick (stopped resting fec tick) fecs

-- after these events at this tick
abbrev pub known_after : Known → List LibEvent → ℕ → Known
known_after known events tick = record {
  bindings = after_events known.bindings events;
  resting = all_stopped tick (owed_for (rested_events tick known.resting events) (tells known.bindings events))
      (ended known.bindings (after_events known.bindings events));
}

-- each neighbour owes at most so many Releases of each FEC
abbrev pub AreFew : ℕ → Resting → Type 0
AreFew most resting = (neighbour fec : ℕ) → count_in (row_of resting neighbour) fec ≤ most

-- the node doesn't offer the FEC, no neighbour owes a Release of it, and no frame that was sent before flies any more
abbrev pub is_free : Known → ℕ → ℕ → Bool
is_free known tick fec = not (offers known.bindings fec) && is_over known.resting tick fec

-- how many neighbours open
abbrev pub opened_in : List LibEvent → ℕ
opened_in [] = 0
opened_in (event.Opened from ∷ events) = opened_in events + 1
opened_in (_ ∷ events) = opened_in events

-- the event is of nodes that there are
abbrev pub RestFits : ℕ → ℕ → LibEvent → Type 0
RestFits neighbours fecs (event.Opened from) = from.0 < neighbours
RestFits neighbours fecs (event.Closed from) = from.0 < neighbours
RestFits neighbours fecs (event.Released from fec) = fec.0 < fecs
RestFits neighbours fecs _ = ⊤
