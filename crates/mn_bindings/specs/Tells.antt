-- What a node must tell its neighbours after a change of its bindings: RFC 5036, sections 2.6.1.2, 3.5.7, 3.5.10 and 3.5.11.
use Rattle.std.specs.Prelude.{ℕ, ◌==◌, ◌&&◌, ◌||◌, not, cond, Bool, true, false, List, [], ◌∷◌, ◌++◌, map, slice_index_or}
use Rattle.std.specs.List.{flat_map, range_with_len}
use Rattle.mn_bindings.specs.declared.event.LibEvent.{LibEvent}
use Rattle.mn_bindings.specs.declared.event.LibEvent.TheVariants as event
use Rattle.mn_bindings.specs.declared.event.Tell.{Tell}
use Rattle.mn_bindings.specs.declared.event.TellKind.{TellKind}
use Rattle.mn_bindings.specs.declared.event.TellKind.TheVariants.{Map, Withdraw, Release}
use Rattle.mn_bindings.specs.Bindings.{Bindings, nodes, is_open, offers, after_events}

-- the neighbour is closed in these events
abbrev pub closes : List LibEvent → ℕ → Bool
closes [] neighbour = false
closes (event.Closed from ∷ events) neighbour = (from.0 == neighbour) || closes events neighbour
closes (_ ∷ events) neighbour = closes events neighbour

-- the neighbour is opened in these events
abbrev pub opens : List LibEvent → ℕ → Bool
opens [] neighbour = false
opens (event.Opened from ∷ events) neighbour = (from.0 == neighbour) || opens events neighbour
opens (_ ∷ events) neighbour = opens events neighbour

abbrev pub tell : ℕ → TellKind → ℕ → Tell
tell to kind fec = record { to = record { 0 = to }; kind = kind; fec = record { 0 = fec } }

-- section 3.5.10.1: a Release for each Withdraw, unless its neighbour is closed later
abbrev pub releases : List LibEvent → List Tell
releases [] = []
releases (event.Withdraw from fec ∷ events) = cond (closes events from.0) [] (tell from.0 Release fec.0 ∷ []) ++ releases events
releases (_ ∷ events) = releases events

-- what must be sent of a FEC that was offered before or not, and is offered after or not
abbrev pub mention : Bool → Bool → List TellKind
mention true true = []
mention false false = []
mention false true = Map ∷ []
mention true false = Withdraw ∷ []

-- what a neighbour is sent for a FEC; one that was opened is sent as if nothing was offered before
abbrev pub told : Bool → Bindings → List LibEvent → ℕ → ℕ → List Tell
told before after events fec to = cond (is_open after to) (map (λ kind. tell to kind fec) (mention (before && not (opens events to)) (offers after fec))) []

-- what all neighbours are sent for a FEC, in node order
abbrev pub tells_of : Bool → Bindings → List LibEvent → ℕ → List Tell
tells_of before after events fec = flat_map (told before after events fec) (range_with_len 0 (nodes after))

-- by FEC in node order, where these were offered before
abbrev pub changes : List Bool → Bindings → List LibEvent → List Tell
changes before after events = flat_map (λ fec. tells_of (slice_index_or before fec false) after events fec) (range_with_len 0 (nodes after))

-- which FECs are offered, in node order
abbrev pub offered : Bindings → List Bool
offered bindings = map (offers bindings) (range_with_len 0 (nodes bindings))

-- what must be sent as these events happen
abbrev pub tells : Bindings → List LibEvent → List Tell
tells bindings events = releases events ++ changes (offered bindings) (after_events bindings events) events
