-- The same by all that happened so far.
use Rattle.std.specs.Prelude.{ℕ, ◌≡◌, ◌<◌, ◌==◌, ◌&&◌, cond, List, [], ◌∷◌, ◌++◌, reverse, slice_index_or, Option, Some, None}
use Rattle.mn_base.specs.declared.numbers.NodeNo.{NodeNo}
use Rattle.mn_bindings.specs.declared.event.LibEvent.{LibEvent}
use Rattle.mn_bindings.specs.declared.event.LibEvent.TheVariants.{Opened, Closed, Map, Withdraw, Released, Next}
use Rattle.mn_bindings.specs.Bindings.{Bindings, nothing_heard, row_of, after_events, EventsFit}

-- What a neighbour last advertised for a FEC since it was opened, by the events from the newest to the oldest: none where it isn't
-- open, and no label where it sent nothing of the FEC or withdrew it.
abbrev pub said_last : ℕ → ℕ → List LibEvent → Option (Option ℕ)
said_last neighbour fec [] = None
said_last neighbour fec (Opened from ∷ older) = cond (from.0 == neighbour) (Some None) (said_last neighbour fec older)
said_last neighbour fec (Closed from ∷ older) = cond (from.0 == neighbour) None (said_last neighbour fec older)
said_last neighbour fec (Map from of label ∷ older) = cond ((from.0 == neighbour) && (of.0 == fec)) (Some (Some label)) (said_last neighbour fec older)
said_last neighbour fec (Withdraw from of ∷ older) = cond ((from.0 == neighbour) && (of.0 == fec)) (Some None) (said_last neighbour fec older)
said_last neighbour fec (Released from of ∷ older) = said_last neighbour fec older
said_last neighbour fec (Next of hop ∷ older) = said_last neighbour fec older

-- the next hop that was named last, by the events from the newest to the oldest
abbrev pub hop_last : ℕ → List LibEvent → Option NodeNo
hop_last fec [] = None
hop_last fec (Next of hop ∷ older) = cond (of.0 == fec) hop (hop_last fec older)
hop_last fec (_ ∷ older) = hop_last fec older

-- what is kept of a neighbour and a FEC: none where the neighbour isn't open
abbrev pub cell : Option (List (Option ℕ)) → ℕ → Option (Option ℕ)
cell None fec = None
cell (Some row) fec = Some (slice_index_or row fec None)

-- after these events, from the start on, what is kept is what was sent last
pub record IsLast (me : NodeNo) (count : ℕ) (events : List LibEvent) : Type 0 where
  pub said : (neighbour fec : ℕ) → neighbour < count → fec < count →
      cell (row_of (after_events (nothing_heard me count) events) neighbour) fec ≡ said_last neighbour fec (reverse events)
  pub hop : (fec : ℕ) → fec < count → slice_index_or (after_events (nothing_heard me count) events).hops fec None ≡ hop_last fec (reverse events)

-- events that come in two lists are those of one: what is kept, and whether they may happen
pub record AreJoined (bindings : Bindings) (first second : List LibEvent) : Type 0 where
  pub kept : after_events bindings (first ++ second) ≡ after_events (after_events bindings first) second
  pub fit : EventsFit bindings first → EventsFit (after_events bindings first) second → EventsFit bindings (first ++ second)
