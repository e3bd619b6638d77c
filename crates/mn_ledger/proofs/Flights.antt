-- What flies over the network of two links, with numbers and due ticks: a notice takes 1 tick, what goes over a link 2, and
-- what one edge tells another 3.
use Rattle.std.specs.Prelude.{◌≡◌, refl, false, ◌++◌, ℕ, List, [], ◌∷◌}
use Rattle.mn_topo.specs.Dir.TheVariants.{Forth, Back}
use Rattle.mn_ipv4.specs.Header.{aged}
use Rattle.mn_topo.specs.declared.steps.Step.{Step}
use Rattle.mn_topo.specs.declared.steps.Step.TheVariants.{LinkUp, LinkDown, Learn, LdpAdmin, HearLdp, BgpUp, BgpDown, HearBgp, AddRoute, Inject, Carry}
use Rattle.mn_topo.specs.declared.steps.JournalEntry.{JournalEntry}
use Rattle.mn_topo.specs.declared.steps.Damaged.TheVariants.{Undamaged}
use Rattle.mn_ledger.specs.World.{Initialization, KeepAlive, Open, BgpKeepAlive}
use Rattle.mn_ledger.specs.Packets.{Token}
use Rattle.mn_ledger.specs.Items.{Channel, Notices, Messages, Routes, Frames, Load, Notice, Says, Tells, Carries, Item, flight_of}
use Rattle.mn_ledger.proofs.Deciding.{lawful}
use Rattle.mn_ledger.specs.Lawful.{IsLawfulJournal}
use Rattle.mn_topo.specs.Steps.{fits}
use Rattle.mn_ledger.proofs.TwoLinks.{node_no, link_no, site_no, two_links, settling, packet, across_both}
use Rattle.mn_ledger.proofs.Running.{a_run}

abbrev at : ℕ → Step → JournalEntry
at tick step = record { tick = tick; step = step; damaged = Undamaged }

abbrev item : ℕ → ℕ → Channel → Load → Item
item number due on load = record { number = number; due = due; on = on; load = load }

-- a link comes up, and then the edges open their session
abbrev beginning : List JournalEntry
beginning = at 4 (LinkUp (link_no 0)) ∷ at 7 (BgpUp (node_no 0) (node_no 2)) ∷ []

-- each node is told of the change; the end of greater address sends Initialization; the lesser edge tells OPEN first
pub notices_come_first : (flight_of two_links beginning []).items
    ≡ item 0 5 (Notices 0 0) Notice ∷ item 1 5 (Notices 0 1) Notice ∷ item 2 5 (Notices 0 2) Notice
    ∷ item 3 6 (Messages 0 1) (Says Initialization)
    ∷ item 4 10 (Routes 0 2) (Tells Open) ∷ item 5 10 (Routes 2 0) (Tells Open) ∷ []
unfolding a_run
notices_come_first = refl

-- what is received or learned leaves, and answers follow; what isn't stays with its number
pub what_is_heard_leaves : (flight_of two_links (beginning ++ at 7 (Learn (node_no 1) (link_no 0)) ∷ at 8 (HearLdp (link_no 0) Back) ∷ []) []).items
    ≡ item 0 5 (Notices 0 0) Notice ∷ item 2 5 (Notices 0 2) Notice
    ∷ item 4 10 (Routes 0 2) (Tells Open) ∷ item 5 10 (Routes 2 0) (Tells Open)
    ∷ item 6 10 (Messages 0 0) (Says Initialization) ∷ item 7 10 (Messages 0 0) (Says KeepAlive) ∷ []
unfolding a_run
what_is_heard_leaves = refl

-- the far edge receives the near one's OPEN, which leaves, and answers; its own OPEN is still on its way
pub what_a_peer_hears_leaves : (flight_of two_links (beginning ++ at 11 (HearBgp (node_no 0) (node_no 2)) ∷ []) []).items
    ≡ item 0 5 (Notices 0 0) Notice ∷ item 1 5 (Notices 0 1) Notice ∷ item 2 5 (Notices 0 2) Notice
    ∷ item 3 6 (Messages 0 1) (Says Initialization)
    ∷ item 5 10 (Routes 2 0) (Tells Open) ∷ item 6 14 (Routes 2 0) (Tells BgpKeepAlive) ∷ []
unfolding a_run
what_a_peer_hears_leaves = refl

-- a link that goes down takes its session's messages with it, and leaves notices
pub a_cut_leaves_notices : (flight_of two_links (beginning ++ at 9 (LinkDown (link_no 0)) ∷ []) []).items
    ≡ item 0 5 (Notices 0 0) Notice ∷ item 1 5 (Notices 0 1) Notice ∷ item 2 5 (Notices 0 2) Notice
    ∷ item 4 10 (Routes 0 2) (Tells Open) ∷ item 5 10 (Routes 2 0) (Tells Open)
    ∷ item 6 10 (Notices 0 0) Notice ∷ item 7 10 (Notices 0 1) Notice ∷ item 8 10 (Notices 0 2) Notice ∷ []
unfolding a_run
a_cut_leaves_notices = refl

-- LDP that is switched off takes them too, and a session of edges that ends what they told
pub sessions_end_with_what_was_said : (flight_of two_links (beginning ++ at 9 (LdpAdmin (link_no 0) false) ∷ at 9 (BgpDown (node_no 0) (node_no 2))
    ∷ []) []).items
    ≡ item 0 5 (Notices 0 0) Notice ∷ item 1 5 (Notices 0 1) Notice ∷ item 2 5 (Notices 0 2) Notice ∷ []
unfolding a_run
sessions_end_with_what_was_said = refl

-- a packet's frame, on each link with what is left of its TTL
abbrev flying_at : ℕ → ℕ → Token
flying_at ttl tick = record { packet = 0; edge = 2; site = 1; attachment = 1; pushed = 63; ttl = ttl; sent = tick; bytes = aged packet 1 }

pub a_frame_flies_on_the_first_link : (flight_of two_links (settling ++ at 5 (Inject (site_no 0) 1) ∷ []) (packet ∷ [])).items ≡ item 36 7 (Frames 0 Forth)
    (Carries (flying_at 63 5)) ∷ []
unfolding a_run
a_frame_flies_on_the_first_link = refl

pub and_then_on_the_second : (flight_of two_links (settling ++ at 5 (Inject (site_no 0) 1) ∷ at 7 (Carry (link_no 0) Forth 0) ∷ []) (packet ∷ [])).items ≡
    item 37 9 (Frames 1 Forth) (Carries (flying_at 62 7)) ∷ []
unfolding a_run
and_then_on_the_second = refl

-- a frame that overtakes another leaves the other where it was
pub the_second_overtakes : (flight_of two_links (settling ++ at 5 (Inject (site_no 0) 1) ∷ at 5 (Inject (site_no 0) 1) ∷ at 7 (Carry (link_no 0) Forth 1)
    ∷ []) (packet ∷ packet ∷ [])).items
    ≡ item 36 7 (Frames 0 Forth) (Carries (flying_at 63 5)) ∷ item 38 9 (Frames 1 Forth) (Carries (record (flying_at 62 7) { packet = 1 })) ∷ []
unfolding a_run
the_second_overtakes = refl

-- a lawful run that adds a prefix; one with a bit set past its length fits no topology
abbrev adds_a_route : List JournalEntry
adds_a_route = across_both ++ at 9 (AddRoute (site_no 0) (record { address = 0; length = 0 })) ∷ []

pub host_bits_do_not_fit : fits two_links (AddRoute (site_no 0) (record { address = 1; length = 31 })) ≡ false
host_bits_do_not_fit = refl

pub adding_is_lawful : IsLawfulJournal two_links adds_a_route (packet ∷ [])
unfolding a_run
adding_is_lawful = lawful two_links adds_a_route (packet ∷ []) refl
