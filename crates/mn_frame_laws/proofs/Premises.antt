-- What the laws ask is met in the network of two links, where a packet is on its way from site a to site b:
--
--     site a --- pe1 --- p --- pe2 --- site b
--
-- Its nodes are 0, 1 and 2. Each edge has given 16 for its site, 17 for p's FEC, of which it receives first, and 18 for the other edge's;
-- p has given 16 for pe2's FEC and 17 for pe1's.
use Rattle.std.proofs.Common.{ℕ, zero, suc, ◌≡◌, ◌≢◌, ◌+◌, ◌<◌, ◌≤◌, inl, inr, Bool, true, false, cond, List, [], ◌∷◌, ◌++◌, length, refl}
use Rattle.std.proofs.Common.{Less, Equal, Greater, rules, arith, sym, ◌∙◌, ap, subst, Some, None}
use Rattle.std.specs.Prelude.{◌==◌, nat_lt, slice_index}
use Rattle.std.specs.List.{Contains, list_all}
use Rattle.std.specs.Ordering.{nat_cmp, is_eq}
use Rattle.std.specs.BTreeMap.{is_at}
use Rattle.std.proofs.lemmas.Option.{same_Some}
use Rattle.mn_base.proofs.Bools.{no, other_test, and_left, and_right, less_tells}
use Rattle.mn_wiring.specs.declared.links.Dir.TheVariants.{Forth}
use Rattle.mn_wiring.specs.Paths.{next}
use Rattle.mn_ipv4.specs.Header.{is_not_ipv4, is_malformed, is_truncated, has_bad_checksum, good, checksum_for, with_ttl, aged}
use Rattle.mn_stack.specs.Labelled.{Labelled}
use Rattle.mn_labels.specs.declared.meaning.Bind.{Bind}
use Rattle.mn_labels.specs.declared.meaning.Given.{Given}
use Rattle.mn_labels.specs.Labels.{Labels, greatest, meaning_of}
use Rattle.mn_lfib.specs.declared.answer.Use.{Use}
use Rattle.mn_lfib.specs.declared.answer.Use.TheVariants as label_of
use Rattle.mn_lfib.specs.Uses.{use_of, fec_use}
use Rattle.mn_topo.specs.Network.{wiring_of}
use Rattle.mn_topo.specs.declared.steps.Step.{Step}
use Rattle.mn_topo.specs.declared.steps.Step.TheVariants.{Attach, Detach, Inject}
use Rattle.mn_topo.specs.declared.steps.JournalEntry.{JournalEntry}
use Rattle.mn_ledger.specs.World.{World}
use Rattle.mn_ledger.specs.Transport.{knowledge_of, news, sessions_after, usable, usable_by}
use Rattle.mn_ledger.specs.Bgp.{peerings_after}
use Rattle.mn_ledger.specs.Held.{HeldRoute, Far, held}
use Rattle.mn_ledger.specs.Packets.{Token, flying_on, packets_after}
use Rattle.mn_ledger.specs.Ledger.{start, world_of, packets_of, after}
use Rattle.mn_ledger.specs.Lawful.{IsLawfulJournal}
use Rattle.mn_ledger.specs.Refusal.{in_flight, bytes_flying}
use Rattle.mn_ledger.specs.Verdicts.{injections}
use Rattle.mn_ledger_laws.specs.Named.{AreBytes}
use Rattle.mn_ledger.proofs.Members.{In, in_contained, contained_in}
use Rattle.mn_ledger.proofs.Parts.{knowledge_kept}
use Rattle.mn_ledger.proofs.TwoLinks.{node_no, site_no, two_links, the_topology_is_lawful, at_start, settling, packet, too_high}
use Rattle.mn_reuse_laws.specs.Labels.{labels_of, attached_in}
use Rattle.mn_frame_laws.specs.Given.{Labelling, HasLabel, given, fec_of, attachment_of, label_in}
use Rattle.mn_frame_laws.specs.Frames.{entry, IsFrameOf, IsSound}
use Rattle.mn_frame_laws.specs.Tables.{AreMapped, TableStands, next_entry, site_entry}
use Rattle.mn_frame_laws.specs.Entries.{Leaves, fate, IsPushed, IsAged}
use Rattle.mn_frame_laws.specs.Attachments.{Attaches, Detaches}
use Rattle.mn_frame_laws.proofs.Bridge.{given_fit, has_in}
use Rattle.mn_frame_laws.proofs.Labels.{means_one, fec_within}
use Rattle.mn_frame_laws.proofs.Unmoved.{gives_by_attaching}
use Rattle.mn_frame_laws.proofs.Mapped.{all_are_mapped}
use Rattle.mn_frame_laws.proofs.Anew.{site_of, number_of, never_given}

-- 1. The journal

abbrev pub on_its_way : List JournalEntry
on_its_way = settling ++ at_start (Inject (site_no 0) 1) ∷ []

pub it_is_lawful : IsLawfulJournal two_links on_its_way (packet ∷ [])
unfolding next knowledge_of news sessions_after peerings_after held packets_after is_not_ipv4 is_malformed is_truncated has_bad_checksum good checksum_for
    with_ttl aged in_flight bytes_flying
it_is_lawful = search rules

pub it_injects_one : length (packet ∷ []) ≡ injections on_its_way
it_injects_one = refl

abbrev pub world : World
world = world_of two_links on_its_way

abbrev pub labels : Labelling
labels = given two_links on_its_way

abbrev giving : ℕ → Bind → Given
giving label what = record { label = label; what = what }

abbrev pe1 : Labels
pe1 = record { given = giving 16 (attachment_of 0 1) ∷ giving 17 (fec_of 1) ∷ giving 18 (fec_of 2) ∷ []; fecs = None ∷ Some 17 ∷ Some 18 ∷ [] }

abbrev p : Labels
p = record { given = giving 16 (fec_of 2) ∷ giving 17 (fec_of 0) ∷ []; fecs = Some 17 ∷ None ∷ Some 16 ∷ [] }

abbrev pe2 : Labels
pe2 = record { given = giving 16 (attachment_of 1 1) ∷ giving 17 (fec_of 1) ∷ giving 18 (fec_of 0) ∷ []; fecs = Some 18 ∷ Some 17 ∷ None ∷ [] }

pub labels_of_pe1 : labels 0 ≡ pe1
unfolding next knowledge_of news sessions_after peerings_after given labels_of
labels_of_pe1 = refl

pub labels_of_p : labels 1 ≡ p
unfolding next knowledge_of news sessions_after peerings_after given labels_of
labels_of_p = refl

pub labels_of_pe2 : labels 2 ≡ pe2
unfolding next knowledge_of news sessions_after peerings_after given labels_of
labels_of_pe2 = refl

site_b_has_one : HasLabel pe2 (attachment_of 1 1)
site_b_has_one = omega arith

pub site_b_has_a_label : HasLabel (labels 2) (attachment_of 1 1)
site_b_has_a_label = subst (λ ls. HasLabel ls (attachment_of 1 1)) (sym labels_of_pe2) site_b_has_one

pub next_hops_have_labels : AreMapped two_links labels world
next_hops_have_labels = all_are_mapped two_links on_its_way (packet ∷ []) the_topology_is_lawful it_is_lawful

-- 2. The three tables

abbrev pub uses_of_pe1 : List (ℕ × Use)
uses_of_pe1 = (16, label_of.Site (site_no 0)) ∷ (17, label_of.Fec (node_no 1) 3) ∷ (18, label_of.Fec (node_no 1) 16) ∷ []

abbrev pub uses_of_p : List (ℕ × Use)
uses_of_p = (16, label_of.Fec (node_no 2) 3) ∷ (17, label_of.Fec (node_no 0) 3) ∷ []

abbrev pub uses_of_pe2 : List (ℕ × Use)
uses_of_pe2 = (16, label_of.Site (site_no 1)) ∷ (17, label_of.Fec (node_no 1) 3) ∷ (18, label_of.Fec (node_no 1) 17) ∷ []

other_key : (label key : ℕ) → label ≢ key → is_at (nat_cmp label) key ≡ false
other_key label key apart = by (nat_lt label key) (label == key) (other_test label key apart)
  where
    by : (a b : Bool) → b ≡ false → is_eq (cond a Less (cond b Equal Greater)) ≡ false
    by true b e = refl
    by false false e = refl
    by false true e = absurd (no (sym e))

no_use : (label : ℕ) (x y z : Use) → label ≢ 16 → label ≢ 17 → label ≢ 18 → use_of ((16, x) ∷ (17, y) ∷ (18, z) ∷ []) label ≡ None
no_use label x y z a b c = rw (other_key label 16 a, other_key label 17 b, other_key label 18 c) refl

fecs_of_pe1 : (edge : ℕ) → edge < 3 → edge ≢ 0 → use_of uses_of_pe1 (label_in (labels 0) (fec_of edge)) ≡ fec_use (next_entry two_links labels world 0 edge)
unfolding next knowledge_of news sessions_after peerings_after held packets_after is_not_ipv4 is_malformed is_truncated has_bad_checksum good checksum_for
    with_ttl aged in_flight bytes_flying given labels_of
fecs_of_pe1 zero h apart = absurd (apart refl)
fecs_of_pe1 (suc zero) h apart = refl
fecs_of_pe1 (suc (suc zero)) h apart = refl
fecs_of_pe1 (suc (suc (suc n))) h apart = absurd (too_high n h)

fecs_of_p : (edge : ℕ) → edge < 3 → edge ≢ 1 → use_of uses_of_p (label_in (labels 1) (fec_of edge)) ≡ fec_use (next_entry two_links labels world 1 edge)
unfolding next knowledge_of news sessions_after peerings_after held packets_after is_not_ipv4 is_malformed is_truncated has_bad_checksum good checksum_for
    with_ttl aged in_flight bytes_flying given labels_of
fecs_of_p zero h apart = refl
fecs_of_p (suc zero) h apart = absurd (apart refl)
fecs_of_p (suc (suc zero)) h apart = refl
fecs_of_p (suc (suc (suc n))) h apart = absurd (too_high n h)

fecs_of_pe2 : (edge : ℕ) → edge < 3 → edge ≢ 2 → use_of uses_of_pe2 (label_in (labels 2) (fec_of edge)) ≡ fec_use (next_entry two_links labels world 2 edge)
unfolding next knowledge_of news sessions_after peerings_after held packets_after is_not_ipv4 is_malformed is_truncated has_bad_checksum good checksum_for
    with_ttl aged in_flight bytes_flying given labels_of
fecs_of_pe2 zero h apart = refl
fecs_of_pe2 (suc zero) h apart = refl
fecs_of_pe2 (suc (suc zero)) h apart = absurd (apart refl)
fecs_of_pe2 (suc (suc (suc n))) h apart = absurd (too_high n h)

-- an edge has one site
one_site : (s site k : ℕ) (P : ℕ → ℕ → Type 0) → P s 1 → In (attachment_of s 1 ∷ []) (attachment_of site k) → P site k
one_site s site k P h (inl e) = subst (λ n. P site n) (ap number_of e) (subst (λ x. P x 1) (ap site_of e) h)
one_site s site k P h (inr i) = absurd i

site_a : use_of uses_of_pe1 (label_in (labels 0) (attachment_of 0 1)) ≡ Some (site_entry world 0 1)
unfolding next knowledge_of news sessions_after peerings_after held packets_after is_not_ipv4 is_malformed is_truncated has_bad_checksum good checksum_for
    with_ttl aged in_flight bytes_flying given labels_of
site_a = refl

site_b : use_of uses_of_pe2 (label_in (labels 2) (attachment_of 1 1)) ≡ Some (site_entry world 1 1)
unfolding next knowledge_of news sessions_after peerings_after held packets_after is_not_ipv4 is_malformed is_truncated has_bad_checksum good checksum_for
    with_ttl aged in_flight bytes_flying given labels_of
site_b = refl

below : (label m : ℕ) → label < 16 → 16 ≤ m → label ≢ m
below label m h g e = omega (arith, h, g, e)

-- a label that nothing has isn't the one that this thing has
another : (labels : Labels) (thing : Bind) (label m : ℕ) → ((other : Bind) → HasLabel labels other → label_in labels other ≢ label) →
    label_in labels thing ≡ m → 16 ≤ m → label ≢ m
another labels thing label m none is low same = none thing (subst (λ n. 16 ≤ n) (sym is) low) (is ∙ sym same)

pub the_table_of_pe1 : TableStands two_links labels world 0 uses_of_pe1
the_table_of_pe1 = record {
  fecs = λ edge h apart had. fecs_of_pe1 edge h apart;
  sites = λ site k c. one_site 0 site k (λ x n. use_of uses_of_pe1 (label_in (labels 0) (attachment_of x n)) ≡ Some (site_entry world x n)) site_a
      (has_in pe1.given site k (subst (λ ls. HasLabel ls (attachment_of site k)) labels_of_pe1 c));
  reserved = λ label h. no_use label _ _ _ (below label 16 h (omega arith)) (below label 17 h (omega arith)) (below label 18 h (omega arith));
  others = λ label none. no_use label _ _ _
      (another (labels 0) (attachment_of 0 1) label 16 none (ap (λ ls. label_in ls (attachment_of 0 1)) labels_of_pe1) (omega arith))
      (another (labels 0) (fec_of 1) label 17 none (ap (λ ls. label_in ls (fec_of 1)) labels_of_pe1) (omega arith))
      (another (labels 0) (fec_of 2) label 18 none (ap (λ ls. label_in ls (fec_of 2)) labels_of_pe1) (omega arith));
}

pub the_table_of_p : TableStands two_links labels world 1 uses_of_p
the_table_of_p = record {
  fecs = λ edge h apart had. fecs_of_p edge h apart;
  sites = λ site k c. absurd (has_in p.given site k (subst (λ ls. HasLabel ls (attachment_of site k)) labels_of_p c));
  reserved = λ label h. none label (below label 16 h (omega arith)) (below label 17 h (omega arith));
  others = λ label no_one. none label
      (another (labels 1) (fec_of 2) label 16 no_one (ap (λ ls. label_in ls (fec_of 2)) labels_of_p) (omega arith))
      (another (labels 1) (fec_of 0) label 17 no_one (ap (λ ls. label_in ls (fec_of 0)) labels_of_p) (omega arith));
}
  where
    none : (label : ℕ) → label ≢ 16 → label ≢ 17 → use_of uses_of_p label ≡ None
    none label a b = rw (other_key label 16 a, other_key label 17 b) refl

pub the_table_of_pe2 : TableStands two_links labels world 2 uses_of_pe2
the_table_of_pe2 = record {
  fecs = λ edge h apart had. fecs_of_pe2 edge h apart;
  sites = λ site k c. one_site 1 site k (λ x n. use_of uses_of_pe2 (label_in (labels 2) (attachment_of x n)) ≡ Some (site_entry world x n)) site_b
      (has_in pe2.given site k (subst (λ ls. HasLabel ls (attachment_of site k)) labels_of_pe2 c));
  reserved = λ label h. no_use label _ _ _ (below label 16 h (omega arith)) (below label 17 h (omega arith)) (below label 18 h (omega arith));
  others = λ label none. no_use label _ _ _
      (another (labels 2) (attachment_of 1 1) label 16 none (ap (λ ls. label_in ls (attachment_of 1 1)) labels_of_pe2) (omega arith))
      (another (labels 2) (fec_of 1) label 17 none (ap (λ ls. label_in ls (fec_of 1)) labels_of_pe2) (omega arith))
      (another (labels 2) (fec_of 0) label 18 none (ap (λ ls. label_in ls (fec_of 0)) labels_of_pe2) (omega arith));
}

-- 3. At the start, where no node can send, no FEC has a label and each site is attached

abbrev pub first_labels : Labelling
first_labels = given two_links []

abbrev with_site : ℕ → Labels
with_site site = record { given = giving 16 (attachment_of site 1) ∷ []; fecs = None ∷ None ∷ None ∷ [] }

abbrev without : Labels
without = record { given = []; fecs = None ∷ None ∷ None ∷ [] }

first_of_pe1 : first_labels 0 ≡ with_site 0
unfolding given labels_of
first_of_pe1 = refl

first_of_p : first_labels 1 ≡ without
unfolding given labels_of
first_of_p = refl

first_of_pe2 : first_labels 2 ≡ with_site 1
unfolding given labels_of
first_of_pe2 = refl

one_use : (label : ℕ) (x : Use) → label ≢ 16 → use_of ((16, x) ∷ []) label ≡ None
one_use label x apart = rw (other_key label 16 apart) refl

no_fec : (labels : Labels) (edge : ℕ) → labels.fecs ≡ None ∷ None ∷ None ∷ [] → edge < 3 → HasLabel labels (fec_of edge) → ⊥
no_fec labels edge e h had = by edge h (subst (λ fecs. HasLabel (record labels { fecs = fecs }) (fec_of edge)) e had)
  where
    none : 16 ≤ 0 → ⊥
    none x = omega (arith, x)

    by : (edge : ℕ) → edge < 3 → HasLabel (record labels { fecs = None ∷ None ∷ None ∷ [] }) (fec_of edge) → ⊥
    by zero h had = none had
    by (suc zero) h had = none had
    by (suc (suc zero)) h had = none had
    by (suc (suc (suc n))) h had = too_high n h

first_site_a : use_of ((16, label_of.Site (site_no 0)) ∷ []) (label_in (first_labels 0) (attachment_of 0 1)) ≡ Some (site_entry (start two_links) 0 1)
unfolding given labels_of
first_site_a = refl

first_site_b : use_of ((16, label_of.Site (site_no 1)) ∷ []) (label_in (first_labels 2) (attachment_of 1 1)) ≡ Some (site_entry (start two_links) 1 1)
unfolding given labels_of
first_site_b = refl

pub the_first_table_of_pe1 : TableStands two_links first_labels (start two_links) 0 ((16, label_of.Site (site_no 0)) ∷ [])
the_first_table_of_pe1 = record {
  fecs = λ edge h apart had. absurd (no_fec (first_labels 0) edge (ap (λ (ls : Labels). ls.fecs) first_of_pe1) h had);
  sites = λ site k c. one_site 0 site k
      (λ x n. use_of ((16, label_of.Site (site_no 0)) ∷ []) (label_in (first_labels 0) (attachment_of x n)) ≡ Some (site_entry (start two_links) x n))
      first_site_a
      (has_in (with_site 0).given site k (subst (λ ls. HasLabel ls (attachment_of site k)) first_of_pe1 c));
  reserved = λ label h. one_use label _ (below label 16 h (omega arith));
  others = λ label none. one_use label _
      (another (first_labels 0) (attachment_of 0 1) label 16 none (ap (λ ls. label_in ls (attachment_of 0 1)) first_of_pe1) (omega arith));
}

pub the_first_table_of_p : TableStands two_links first_labels (start two_links) 1 []
the_first_table_of_p = record {
  fecs = λ edge h apart had. absurd (no_fec (first_labels 1) edge (ap (λ (ls : Labels). ls.fecs) first_of_p) h had);
  sites = λ site k c. absurd (has_in without.given site k (subst (λ ls. HasLabel ls (attachment_of site k)) first_of_p c));
  reserved = λ label h. refl;
  others = λ label none. refl;
}

pub the_first_table_of_pe2 : TableStands two_links first_labels (start two_links) 2 ((16, label_of.Site (site_no 1)) ∷ [])
the_first_table_of_pe2 = record {
  fecs = λ edge h apart had. absurd (no_fec (first_labels 2) edge (ap (λ (ls : Labels). ls.fecs) first_of_pe2) h had);
  sites = λ site k c. one_site 1 site k
      (λ x n. use_of ((16, label_of.Site (site_no 1)) ∷ []) (label_in (first_labels 2) (attachment_of x n)) ≡ Some (site_entry (start two_links) x n))
      first_site_b
      (has_in (with_site 1).given site k (subst (λ ls. HasLabel ls (attachment_of site k)) first_of_pe2 c));
  reserved = λ label h. one_use label _ (below label 16 h (omega arith));
  others = λ label none. one_use label _
      (another (first_labels 2) (attachment_of 1 1) label 16 none (ap (λ ls. label_in ls (attachment_of 1 1)) first_of_pe2) (omega arith));
}

-- 4. The packet on its way, and its frames

abbrev pub token : Token
token = record { packet = 0; edge = 2; site = 1; attachment = 1; pushed = 63; ttl = 63; sent = 0; bytes = aged packet 1 }

pub the_packet_flies : flying_on (packets_of two_links on_its_way (packet ∷ [])) 0 Forth ≡ token ∷ []
unfolding next knowledge_of news sessions_after peerings_after held packets_after is_not_ipv4 is_malformed is_truncated has_bad_checksum good checksum_for
    with_ttl aged in_flight bytes_flying
the_packet_flies = refl

pub it_is_sound : IsSound two_links labels token
unfolding is_not_ipv4 is_malformed is_truncated has_bad_checksum good checksum_for with_ttl aged
it_is_sound = record {
  home = refl;
  node = omega arith;
  labelled = site_b_has_a_label;
  within = omega arith;
  pushed = refl;
  packet = refl;
}

-- on its way to p, and then to pe2
abbrev pub to_p : Labelled
to_p = record { entries = entry 16 false 63 ∷ entry 16 true 63 ∷ []; packet = aged packet 1; room = 0 }

abbrev pub to_pe2 : Labelled
to_pe2 = record { entries = entry 16 true 62 ∷ []; packet = aged packet 1; room = 1 }

p_has_a_label : HasLabel (labels 1) (fec_of 2)
p_has_a_label = subst (λ ls. HasLabel ls (fec_of 2)) (sym labels_of_p) (omega arith)

pub its_frame_to_p : IsFrameOf labels token 1 to_p
its_frame_to_p = record {
  stack = ap (λ l. entry l false 63 ∷ entry 16 true 63 ∷ []) (sym (ap (λ ls. label_in ls (fec_of 2)) labels_of_p))
      ∙ ap (λ l. entry (label_in (labels 1) (fec_of 2)) false 63 ∷ entry l true 63 ∷ []) (sym (ap (λ ls. label_in ls (attachment_of 1 1)) labels_of_pe2));
  packet = refl;
  outer = λ apart. p_has_a_label;
}

pub its_frame_to_pe2 : IsFrameOf labels (record token { ttl = 62 }) 2 to_pe2
its_frame_to_pe2 = record {
  stack = ap (λ l. entry l true 62 ∷ []) (sym (ap (λ ls. label_in ls (attachment_of 1 1)) labels_of_pe2));
  packet = refl;
  outer = λ apart. absurd (apart refl);
}

-- 5. As it entered

abbrev pub route : HeldRoute
route = record { prefix = record { address = 167903232; length = 16 }; source = Far 3221225987 279172874240002; edge = 2; site = 1; attachment = 1 }

pub it_is_bound_to_the_far_edge : fate two_links (world_of two_links settling) 0 packet ≡ Leaves route
unfolding next knowledge_of news sessions_after peerings_after held packets_after is_not_ipv4 is_malformed is_truncated has_bad_checksum good checksum_for
    with_ttl aged in_flight bytes_flying
it_is_bound_to_the_far_edge = refl

pub it_is_pushed : IsPushed two_links labels route packet (record { entries = entry 16 true 63 ∷ []; packet = aged packet 1; room = 1 })
unfolding is_not_ipv4 is_malformed is_truncated has_bad_checksum good checksum_for with_ttl aged
it_is_pushed = record {
  stack = ap (λ l. entry l true 63 ∷ []) (sym (ap (λ ls. label_in ls (attachment_of 1 1)) labels_of_pe2));
  packet = refl;
  sound = record { home = refl; node = omega arith; labelled = site_b_has_a_label; within = omega arith; pushed = refl; packet = refl };
}

pub it_is_aged : IsAged packet (record { entries = []; packet = aged packet 1; room = 2 })
unfolding aged with_ttl checksum_for
it_is_aged = record { packet = refl; ttl = refl; alive = omega arith }

pub its_bytes : (i : ℕ) → slice_index packet i < 256
its_bytes i = by packet i refl
  where
    by : (bytes : List ℕ) (i : ℕ) → list_all (λ b. nat_lt b 256) bytes ≡ true → slice_index bytes i < 256
    by [] i h = omega arith
    by (b ∷ bs) zero h = less_tells b 256 (and_left (nat_lt b 256) _ h)
    by (b ∷ bs) (suc i) h = by bs i (and_right (nat_lt b 256) _ h)

pub the_bytes : AreBytes (packet ∷ [])
the_bytes zero bytes e i = subst (λ b. slice_index b i < 256) (same_Some packet bytes e) (its_bytes i)
the_bytes (suc n) bytes e i = absurd (let none : None ≡ Some bytes → ⊥ = (λ q. cc) in none e)

-- 6. Site b is detached, and attached anew

abbrev pub detached : World
detached = after two_links world (Detach (site_no 1))

abbrev pub attached : World
attached = after two_links detached (Attach (site_no 1))

abbrev pub uses_while_detached : List (ℕ × Use)
uses_while_detached = (16, label_of.Ended) ∷ (17, label_of.Fec (node_no 1) 3) ∷ (18, label_of.Fec (node_no 1) 17) ∷ []

abbrev pub uses_once_attached : List (ℕ × Use)
uses_once_attached = (16, label_of.Ended) ∷ (17, label_of.Fec (node_no 1) 3) ∷ (18, label_of.Fec (node_no 1) 17) ∷ (19, label_of.Site (site_no 1)) ∷ []

abbrev pub later : List JournalEntry
later = on_its_way ++ at_start (Detach (site_no 1)) ∷ []

abbrev pub later_labels : Labelling
later_labels = given two_links (later ++ at_start (Attach (site_no 1)) ∷ [])

labels_go_on : (node : ℕ) → later_labels node ≡ attached_in two_links (world_of two_links later) (Attach (site_no 1)) node (labels node)
labels_go_on node =
    gives_by_attaching two_links later (at_start (Attach (site_no 1))) node refl
    ∙ ap (attached_in two_links (world_of two_links later) (Attach (site_no 1)) node)
    (gives_by_attaching two_links on_its_way (at_start (Detach (site_no 1))) node refl)

-- the new label is the edge's alone
no_more_elsewhere : (node : ℕ) (now : Labels) → node ≢ 2 → attached_in two_links (world_of two_links later) (Attach (site_no 1)) node now ≡ now
no_more_elsewhere node now apart = let other : (2 == node) ≡ false = other_test 2 node (λ e. apart (sym e)) in rw other refl

sends_still : (w : World) (step : Step) (edge : ℕ) →
    knowledge_of (wiring_of two_links) (after two_links w step).config (after two_links w step).views (after two_links w step).sessions 2
    ≡ knowledge_of (wiring_of two_links) w.config w.views w.sessions 2 →
    usable two_links (after two_links w step).config (after two_links w step).views (after two_links w step).sessions 2 edge
    ≡ usable two_links w.config w.views w.sessions 2 edge
sends_still w step edge h = ap (λ k. usable_by (wiring_of two_links) k 2 edge) h

pub the_site_is_detached : Detaches two_links labels world detached 2 1 1 uses_of_pe2 uses_while_detached
the_site_is_detached = record {
  labelled = site_b_has_a_label;
  told = λ one other had also same. same_Some one other (sym (means one had) ∙ ap (meaning_of (labels 2)) same ∙ means other also);
  attached = refl;
  detached = refl;
  sends = λ edge. sends_still world (Detach (site_no 1)) edge (knowledge_kept two_links world (Detach (site_no 1)) 2 refl);
  set = ap (use_of uses_while_detached) its_label;
  others = λ label apart. rw (other_key label 16 (λ e. apart (e ∙ sym its_label))) refl;
}
  where
    its_label : label_in (labels 2) (attachment_of 1 1) ≡ 16
    its_label = ap (λ ls. label_in ls (attachment_of 1 1)) labels_of_pe2

    means : (thing : Bind) → HasLabel (labels 2) thing → meaning_of (labels 2) (label_in (labels 2) thing) ≡ Some thing
    means thing had = means_one two_links on_its_way (packet ∷ []) 2 thing (omega arith) the_topology_is_lawful it_is_lawful had

pub the_site_is_attached_anew : Attaches two_links labels later_labels detached attached 2 1 2 uses_while_detached uses_once_attached
the_site_is_attached_anew = record {
  given = labels_go_on 2;
  elsewhere = λ node apart. labels_go_on node ∙ no_more_elsewhere node (labels node) apart;
  fecs = fec_within (labels 2) (given_fit two_links on_its_way 2);
  low = λ giving c. (given_fit two_links on_its_way 2).reserved giving (in_contained (labels 2).given giving c);
  fresh = never_given two_links on_its_way 2 1 2 (omega arith);
  detached = refl;
  attached = refl;
  sends = λ edge. sends_still detached (Attach (site_no 1)) edge (knowledge_kept two_links detached (Attach (site_no 1)) 2 refl);
  set = ap (use_of uses_once_attached) its_label;
  others = λ label apart. rw (other_key label 19 (λ e. apart (e ∙ sym its_label))) refl;
}
  where
    its_label : greatest (labels 2).given + 1 ≡ 19
    its_label = ap (λ (ls : Labels). greatest ls.given + 1) labels_of_pe2
