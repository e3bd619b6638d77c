-- What a node does with a frame: RFC 3031, sections 3.10, 3.11 and 3.16; RFC 3032, sections 2.1 and 2.4.
use Rattle.std.specs.Prelude.{ℕ, ◌+◌, ◌-◌, ◌==◌, ◌&&◌, Bool, true, false, not, nat_le, List, [], ◌∷◌, Option, Some, None, if◌then◌else◌}
use Rattle.mn_drops.specs.declared.drops.Rule.TheVariants.{TtlExpired, SiteGone, NoEntry}
use Rattle.mn_ipv4.specs.Header.{with_ttl}
use Rattle.mn_stack.specs.declared.message.Entry.{Entry}
use Rattle.mn_stack.specs.Labelled.{Labelled, swapped, popped, with_top_ttl}
use Rattle.mn_lfib.specs.declared.answer.Forwarded.{Forwarded}
use Rattle.mn_lfib.specs.declared.answer.Forwarded.TheVariants.{Next, Site, Drop}
use Rattle.mn_lfib.specs.declared.answer.Use.{Use}
use Rattle.mn_lfib.specs.declared.answer.Use.TheVariants as label_of
use Rattle.mn_lfib.specs.Uses.{use_of}

-- as a next label: the entry is popped here, and none is sent
abbrev pub implicit_null : ℕ
implicit_null = 3

-- without its top entry
abbrev pub pop : Labelled → Labelled
pop frame = record frame { entries = popped frame.entries; room = frame.room + 1 }

-- What is done by the use of the top label, where the top entry is the bottom or isn't, and the frame goes on with
-- this TTL.
abbrev pub by_use : Option Use → Bool → ℕ → Labelled → Forwarded × Labelled
by_use (Some label_of.Ended) bottom ttl frame = (Drop SiteGone, frame)
by_use None bottom ttl frame = (Drop NoEntry, frame)
by_use (Some (label_of.Site site)) false ttl frame = (Drop NoEntry, frame)
by_use (Some (label_of.Fec next_hop label)) bottom ttl frame =
    if label == implicit_null && bottom then (Drop NoEntry, frame)
    else if not (label == implicit_null) then (Next next_hop, record frame { entries = swapped frame.entries label ttl })
    else (let under = pop frame in (Next next_hop, record under { entries = with_top_ttl under.entries ttl }))
by_use (Some (label_of.Site site)) true ttl frame = (let under = pop frame in (Site site, record under { packet = with_ttl under.packet ttl }))

-- what becomes of a frame with this top entry
abbrev pub by_top : Entry → List (ℕ × Use) → Labelled → Forwarded × Labelled
by_top top uses frame =
    if nat_le top.ttl 1 then (Drop TtlExpired, frame) else by_use (use_of uses top.label) top.bottom (top.ttl - 1) frame

-- what becomes of a frame, and the frame as it is then; one without an entry isn't forwarded
unfoldable pub forwarded : List (ℕ × Use) → Labelled → Forwarded × Labelled
forwarded uses frame = elim frame.entries [ [] ↦ (Drop NoEntry, frame) | top ∷ below ↦ by_top top uses frame ]
