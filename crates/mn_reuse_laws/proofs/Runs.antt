-- Labels that are used again in the network of two links, computed step by step from the definitions:
--
--     site a --- pe1 --- p --- pe2 --- site b
--
-- Its nodes are 0, 1 and 2; the life of each link is 2000.
use Rattle.std.specs.Prelude.{◌≡◌, refl, ℕ, true, false, List, [], ◌∷◌, ◌++◌, Some, None, map}
use Rattle.mn_wiring.specs.declared.links.Dir.TheVariants.{Forth, Back}
use Rattle.mn_drops.specs.declared.drops.Rule.TheVariants.{NoEntry}
use Rattle.mn_topo.specs.declared.steps.Step.{Step}
use Rattle.mn_topo.specs.declared.steps.Step.TheVariants.{LdpAdmin, HearLdp, Inject, Carry, Tick}
use Rattle.mn_topo.specs.declared.steps.JournalEntry.{JournalEntry}
use Rattle.mn_topo.specs.declared.steps.Damaged.TheVariants.{Undamaged}
use Rattle.mn_labels.specs.declared.meaning.Bind.{Bind}
use Rattle.mn_ledger.specs.declared.verdict.Verdict.TheVariants.{Dropped}
use Rattle.mn_ledger.specs.Ledger.{packets_of}
use Rattle.mn_ledger.specs.Lawful.{IsLawfulJournal}
use Rattle.mn_ledger.proofs.Deciding.{lawful}
use Rattle.mn_ledger.proofs.TwoLinks.{two_links, node_no, link_no, site_no, settling, packet}
use Rattle.mn_labels.specs.declared.meaning.Given.{Given}
use Rattle.mn_labels.specs.Labels.{attachment_of, fec_of}
use Rattle.mn_reuse_laws.specs.Labels.{labels_of}
use Rattle.mn_ledger.proofs.Running.{a_run}

abbrev pub at : ℕ → List Step → List JournalEntry
at tick steps = map (λ step. record { tick = tick; step = step; damaged = Undamaged }) steps

abbrev giving : ℕ → Bind → Given
giving label what = record { label = label; what = what }

-- 1. The journals

-- LDP of p and pe2 is switched off, and all that they say of it is received
abbrev pub withdrawing : List Step
withdrawing =
    LdpAdmin (link_no 1) false ∷
    HearLdp (link_no 0) Back ∷
    HearLdp (link_no 0) Forth ∷
    HearLdp (link_no 0) Forth ∷
    HearLdp (link_no 0) Back ∷ []

-- and then that of pe1 and p, so that both FECs are at rest at p
abbrev pub quieting : List Step
quieting = withdrawing ++ LdpAdmin (link_no 0) false ∷ []

-- LDP of pe1 and p is switched on again, and all is received
abbrev pub beginning : List Step
beginning =
    LdpAdmin (link_no 0) true ∷
    HearLdp (link_no 0) Back ∷
    HearLdp (link_no 0) Forth ∷
    HearLdp (link_no 0) Forth ∷
    HearLdp (link_no 0) Back ∷
    HearLdp (link_no 0) Back ∷
    HearLdp (link_no 0) Back ∷
    HearLdp (link_no 0) Forth ∷
    HearLdp (link_no 0) Forth ∷
    HearLdp (link_no 0) Forth ∷
    HearLdp (link_no 0) Back ∷ []

-- and that of p and pe2
abbrev pub ending : List Step
ending =
    LdpAdmin (link_no 1) true ∷
    HearLdp (link_no 1) Back ∷
    HearLdp (link_no 1) Forth ∷
    HearLdp (link_no 1) Forth ∷
    HearLdp (link_no 1) Back ∷
    HearLdp (link_no 1) Back ∷
    HearLdp (link_no 1) Back ∷
    HearLdp (link_no 1) Forth ∷
    HearLdp (link_no 1) Forth ∷
    HearLdp (link_no 1) Forth ∷
    HearLdp (link_no 0) Back ∷
    HearLdp (link_no 1) Forth ∷
    HearLdp (link_no 1) Back ∷
    HearLdp (link_no 1) Back ∷
    HearLdp (link_no 0) Forth ∷ []

abbrev pub after_the_life : List JournalEntry
after_the_life = settling ++ at 0 quieting ++ at 0 (Tick 2001 ∷ []) ++ at 2001 beginning

abbrev anew : List JournalEntry
anew = after_the_life ++ at 2001 ending

-- a packet enters at pe1 before, and comes to p last of all
abbrev within_the_life : List JournalEntry
within_the_life = settling ++ at 0 (Inject (site_no 0) 1 ∷ []) ++ at 0 quieting ++ at 0 beginning ++ at 0 (Carry (link_no 0) Forth 0 ∷ [])

anew_is_lawful : IsLawfulJournal two_links anew []
unfolding a_run
anew_is_lawful = lawful two_links anew [] refl

within_is_lawful : IsLawfulJournal two_links within_the_life (packet ∷ [])
unfolding a_run
within_is_lawful = lawful two_links within_the_life (packet ∷ []) refl

-- 2. Past the links' life

-- p offers pe1's FEC first, which is given the least label: it was pe2's
given_anew : (labels_of two_links anew 1).given ≡ giving 16 (fec_of 2) ∷ giving 17 (fec_of 0) ∷ giving 16 (fec_of 0) ∷ giving 17 (fec_of 2) ∷ []
unfolding a_run labels_of
given_anew = refl

-- a site's label is given once
edges_anew : map (λ node. (labels_of two_links anew node).given) (0 ∷ 2 ∷ [])
    ≡ (giving 16 (attachment_of 0 1) ∷ giving 17 (fec_of 1) ∷ giving 18 (fec_of 2) ∷ giving 17 (fec_of 1) ∷ giving 18 (fec_of 2) ∷ [])
    ∷ (giving 16 (attachment_of 1 1) ∷ giving 17 (fec_of 1) ∷ giving 18 (fec_of 0) ∷ giving 17 (fec_of 0) ∷ giving 18 (fec_of 1) ∷ []) ∷ []
unfolding a_run labels_of
edges_anew = refl

-- 3. Within it

-- no label is given anew: pe1's FEC takes up its own again, and pe2's keeps it at rest
given_once : (labels_of two_links within_the_life 1).given ≡ giving 16 (fec_of 2) ∷ giving 17 (fec_of 0) ∷ []
unfolding a_run labels_of
given_once = refl

had_still : (labels_of two_links within_the_life 1).fecs ≡ Some 17 ∷ None ∷ Some 16 ∷ []
unfolding a_run labels_of
had_still = refl

-- so the frame that was sent before, with pe2's label, isn't sent on to a wrong site
is_dropped : (packets_of two_links within_the_life (packet ∷ [])).verdicts ≡ Dropped NoEntry (node_no 1) ∷ []
unfolding a_run
is_dropped = refl
