-- Frames at pe2 of the network of two links, once it is settled, whatever they are and wherever they came from:
--
--     site a --- pe1 --- p --- pe2 --- site b
--
-- pe2 gave label 16 for site b, 17 for p and 18 for pe1.
use Rattle.std.specs.Prelude.{◌≡◌, refl, ℕ, Bool, List, [], ◌∷◌, ◌++◌, true, false}
use Rattle.mn_drops.specs.declared.drops.Rule.TheVariants.{TtlExpired, SiteGone, NoEntry}
use Rattle.mn_wiring.specs.Paths.{next}
use Rattle.mn_ipv4.specs.Header.{with_ttl}
use Rattle.mn_stack.specs.declared.message.Entry.{Entry}
use Rattle.mn_stack.specs.Labelled.{Labelled}
use Rattle.mn_lfib.specs.declared.answer.Forwarded.TheVariants.{Next, Site, Drop}
use Rattle.mn_topo.specs.declared.steps.Step.TheVariants.{Detach}
use Rattle.mn_ledger.specs.Transport.{knowledge_of, news, sessions_after}
use Rattle.mn_ledger.proofs.TwoLinks.{node_no, site_no, two_links, at_start, settling, packet}
use Rattle.mn_reuse_laws.specs.Labels.{labels_of}
use Rattle.mn_frame_laws.specs.Given.{given}
use Rattle.mn_output_laws.specs.ShownFrames.{shown}

abbrev entry : ℕ → Bool → ℕ → Entry
entry label bottom ttl = record { label = label; exp = 0; bottom = bottom; ttl = ttl }

abbrev frame : List Entry → Labelled
frame entries = record { entries = entries; packet = packet; room = 2 }

-- to p with label 3: the entry is popped, and the one below goes on with its TTL
pub one_is_popped : shown two_links settling 2 (frame (entry 17 false 63 ∷ entry 16 true 63 ∷ []))
    ≡ (Next (node_no 1), record { entries = entry 16 true 62 ∷ []; packet = packet; room = 3 })
unfolding given labels_of next knowledge_of news sessions_after
one_is_popped = refl

-- to pe1 over p, which gave it 17
pub one_is_swapped : shown two_links settling 2 (frame (entry 18 true 63 ∷ [])) ≡ (Next (node_no 1), frame (entry 17 true 62 ∷ []))
unfolding given labels_of next knowledge_of news sessions_after
one_is_swapped = refl

-- to site b, and once that is detached to nobody
pub one_is_delivered : shown two_links settling 2 (frame (entry 16 true 61 ∷ [])) ≡ (
  Site (site_no 1),
  record {
    entries = [];
    packet =
        with_ttl packet 60;
    room = 3;
  },
)
unfolding given labels_of next knowledge_of news sessions_after
one_is_delivered = refl

pub one_comes_too_late : shown two_links (settling ++ at_start (Detach (site_no 1)) ∷ []) 2 (frame (entry 16 true 61 ∷ []))
    ≡ (Drop SiteGone, frame (entry 16 true 61 ∷ []))
unfolding given labels_of next knowledge_of news sessions_after
one_comes_too_late = refl

-- label 19 was given for nothing, and 15 is reserved; TTL 1 ends here, whatever the label
pub one_is_nobodys : shown two_links settling 2 (frame (entry 19 true 61 ∷ [])) ≡ (Drop NoEntry, frame (entry 19 true 61 ∷ []))
unfolding given labels_of next knowledge_of news sessions_after
one_is_nobodys = refl

pub one_is_reserved : shown two_links settling 2 (frame (entry 15 true 61 ∷ [])) ≡ (Drop NoEntry, frame (entry 15 true 61 ∷ []))
unfolding given labels_of next knowledge_of news sessions_after
one_is_reserved = refl

pub one_expires : shown two_links settling 2 (frame (entry 18 true 1 ∷ [])) ≡ (Drop TtlExpired, frame (entry 18 true 1 ∷ []))
one_expires = refl
