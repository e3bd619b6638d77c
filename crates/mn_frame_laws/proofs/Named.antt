-- What was told, what is held and what flies names an attachment that has a label.
use Rattle.std.proofs.Common.{ℕ, ◌≡◌, ◌<◌, Bool, true, false, Some, None, List, length, refl, arith, sym, ◌∙◌, ap, subst}
use Rattle.std.specs.Prelude.{◌==◌, IsTrue, Option, if◌then◌else◌}
use Rattle.mn_base.proofs.Bools.{test_same}
use Rattle.mn_drops.specs.declared.drops.Rule.{Rule}
use Rattle.mn_drops.specs.declared.drops.Rule.TheVariants as rule
use Rattle.mn_ipv4.specs.Header.{good, total_length, destination_of}
use Rattle.mn_stack.specs.Grammar.{is_packet}
use Rattle.mn_topo.specs.Network.{Network}
use Rattle.mn_topo.specs.declared.steps.JournalEntry.{JournalEntry}
use Rattle.mn_ledger.specs.Places.{home_of, edge_of, vrf_of}
use Rattle.mn_ledger.specs.World.{Config, Export, Announcement, World}
use Rattle.mn_ledger.specs.Held.{HeldRoute, held, best}
use Rattle.mn_ledger.specs.Eligible.{eligible, is_resolved}
use Rattle.mn_ledger.proofs.Eligible.{in_those}
use Rattle.mn_ledger.proofs.Members.{contained_in, in_contained}
use Rattle.mn_ledger.specs.Entry.{first_rule}
use Rattle.mn_ledger.specs.Packets.{Token, Packets, entry_rules}
use Rattle.mn_ledger.specs.Ledger.{world_of, packets_of}
use Rattle.mn_ledger_laws.specs.Named.{NamesAnAttachment, IsGoodFrame}
use Rattle.mn_ledger_laws.proofs.Holding.{names_what_exists}
use Rattle.mn_ledger_laws.proofs.Accounted.{frames_good}
use Rattle.mn_ledger_laws.proofs.There.{home_there, vrf_there}
use Rattle.mn_ledger_laws.proofs.Entering.{best_is}
use Rattle.mn_topo.specs.Lawful.{IsLawful}
use Rattle.mn_frame_laws.specs.Given.{given, attachment_of, HasLabel}
use Rattle.mn_frame_laws.specs.Frames.{IsSound}
use Rattle.mn_frame_laws.specs.Attached.{IsAttachmentAt, AllHaveLabels, LeavesSound, AllAreSound}
use Rattle.mn_frame_laws.specs.Entries.{Fate, Falls, Stays, Leaves, fate_of, IsFit, IsFall}
use Rattle.mn_frame_laws.proofs.Fit.{fits_or_falls}
use Rattle.mn_frame_laws.proofs.Anew.{gives_to_each}

-- what a site's edge has given, at the node that is this edge
labelled : (t : Network) (entries : List JournalEntry) (node site k : ℕ) → IsAttachmentAt t (world_of t entries).config node site k →
    HasLabel (given t entries node) (attachment_of site k)
labelled t entries node site k is =
    subst (λ n. HasLabel (given t entries n) (attachment_of site k)) is.home
    (gives_to_each t entries site k (record { home = refl; there = is.there; first = is.first; last = is.last }))

of_export : (t : Network) (c : Config) (teller : ℕ) (export : Export) → NamesAnAttachment t c teller export →
    IsAttachmentAt t c teller export.site export.attachment
of_export t c teller export names = record { home = ap (edge_of t) names.of_vrf ∙ names.at_teller; there = names.site; first = names.first; last = names.given }

pub all_have_labels : AllHaveLabels
all_have_labels t entries inputs topology lawful =
    let names = names_what_exists t entries inputs topology lawful in
    record {
      told = λ teller peer export there. labelled t entries teller export.site export.attachment
          (of_export t (world_of t entries).config teller export (names.bgp teller peer (Announcement export) there));
      held = λ v route there is.
          let site = names.routes v route there is in
          labelled t entries route.edge route.site route.attachment (record { home = site.home; there = site.site; first = site.first; last = site.given });
    }

whole : (bytes : List ℕ) → IsTrue (good bytes) → length bytes ≡ total_length bytes → IsTrue (is_packet bytes)
whole bytes fine ends = let still : good bytes ≡ true = fine in let end : (length bytes == total_length bytes) ≡ true = test_same _ _ ends in
    rw (still, end) refl

sound : (t : Network) (entries : List JournalEntry) (packets : Packets) (l : ℕ) (token : Token) → IsLawful t →
    IsGoodFrame t (world_of t entries).config packets l token → IsSound t (given t entries) token
sound t entries packets l token topology frame = record {
  home = sym frame.home;
  node = subst (λ n. n < length t.loopbacks) frame.home (home_there t token.site topology frame.site);
  labelled = labelled t entries token.edge token.site token.attachment
      (record { home = frame.home; there = frame.site; first = frame.first; last = frame.given });
  within = frame.lowered;
  pushed = frame.pushed;
  packet = whole token.bytes frame.is_good frame.whole;
}

pub all_are_sound : AllAreSound
all_are_sound t entries inputs topology lawful each bytes l dir token there =
    sound t entries (packets_of t entries inputs) l token topology (frames_good t entries inputs topology lawful each bytes l dir token there)

-- the route to which a packet is bound is the best one, and the packet fits
bound_by : (t : Network) (w : World) (site : ℕ) (bytes : List ℕ) (route : HeldRoute) (found : Option HeldRoute) (cause : Option Rule) →
    fate_of (home_of t site) found cause ≡ Leaves route → found ≡ Some route
bound_by t w site bytes route found (Some cause) e = absurd (let none : Falls cause ≡ Leaves route → ⊥ = (λ q. cc) in none e)
bound_by t w site bytes route None None e = absurd (let none : Falls rule.NoRoute ≡ Leaves route → ⊥ = (λ q. cc) in none e)
bound_by t w site bytes route (Some other) None e = by (other.edge == home_of t site) e
  where
    by : (b : Bool) → (if b then Stays other.site else Leaves other) ≡ Leaves route → Some other ≡ Some route
    by true q = absurd (let none : Stays other.site ≡ Leaves route → ⊥ = (λ q. cc) in none q)
    by false q = ap (λ (f : Fate). Some (route_in f)) q
      where
        route_in : Fate → HeldRoute
        route_in (Leaves r) = r
        route_in (Falls c) = route
        route_in (Stays s) = route

pub leaves_sound : LeavesSound
leaves_sound t entries inputs s bytes route topology lawful there small leaves =
    let w : World = world_of t entries in
    let routes : List HeldRoute = eligible t w (home_of t s) (vrf_of t s) (destination_of bytes) in
    let all : List HeldRoute = held t w.config w.peerings (home_of t s) (vrf_of t s) in
    let is : best routes (destination_of bytes) ≡ Some route =
    bound_by t w s bytes route (best routes (destination_of bytes)) (first_rule (entry_rules (w.config.attached s) bytes)) leaves in
    let names = (names_what_exists t entries inputs topology lawful).routes (vrf_of t s) route (vrf_there t s topology there)
    (contained_in all route (in_those _ (is_resolved t w (home_of t s)) all route
    (in_contained routes route (best_is routes (destination_of bytes) route is).held))) in
    let fit : IsFit bytes = fits_or_falls t w s bytes small (λ fall. subst IsFall leaves fall) in
    record {
      home = sym names.home;
      node = subst (λ n. n < length t.loopbacks) names.home (home_there t route.site topology names.site);
      labelled = labelled t entries route.edge route.site route.attachment
          (record { home = names.home; there = names.site; first = names.first; last = names.given });
      within = omega arith;
      pushed = fit.ttl;
      packet = fit.packet;
    }
