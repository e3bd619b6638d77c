-- Where a packet enters its site's edge stands for the ledger.
use Rattle.std.proofs.Common.{ℕ, ◌≡◌, ◌<◌, List, [], ◌∷◌, length, refl, ◌∙◌, ap, Option, Some, None}
use Rattle.std.proofs.Common.{inl}
use Rattle.std.specs.Prelude.{is_none, option_map, slice_index, if◌then◌else◌, not}
use Rattle.std.specs.List.{list_any}
use Rattle.std.proofs.lemmas.Option.{same_Some}
use Rattle.mn_base.proofs.Bools.{same_test}
use Rattle.mn_base.proofs.Members.{In, in_filter, contained_in}
use Rattle.mn_prefix.specs.Prefix.{AddressBlock, contains}
use Rattle.mn_ipv4.specs.Header.{destination_of}
use Rattle.mn_topo.specs.Network.{Network}
use Rattle.mn_topo.specs.Lawful.{IsLawful}
use Rattle.mn_topo.specs.declared.steps.JournalEntry.{JournalEntry}
use Rattle.mn_ledger.specs.Places.{home_of, edge_of, vrf_of}
use Rattle.mn_ledger.specs.World.{World}
use Rattle.mn_ledger.specs.Entry.{first_rule}
use Rattle.mn_ledger.specs.Packets.{entry_rules}
use Rattle.mn_ledger.specs.Eligible.{eligible, is_resolved}
use Rattle.mn_ledger.proofs.Eligible.{in_those}
use Rattle.mn_ledger.specs.Held.{HeldRoute, held, best, first_of, unbeaten, matching, is_better}
use Rattle.mn_ledger.specs.Held as ledger_held
use Rattle.mn_ledger.specs.Ledger.{world_of}
use Rattle.mn_ledger.specs.Lawful.{IsLawfulJournal}
use Rattle.mn_ledger_laws.proofs.There.{vrf_there}
use Rattle.mn_frame_laws.specs.Given.{given, label_at}
use Rattle.mn_frame_laws.specs.Numbers.{labels_of}
use Rattle.mn_frame_laws.proofs.Anew.{gives_to_no_other}
use Rattle.mn_frame_laws.proofs.Named.{all_have_labels, leaves_sound}
use Rattle.mn_bgp_spelling_laws.specs.Spelling.{Labels}
use Rattle.mn_vrf.specs.declared.source.Source.{Source}
use Rattle.mn_pe.specs.Held.{site_label, far_over}
use Rattle.mn_pe.specs.Entries as entry
use Rattle.mn_pe.specs.Entries.{StandsAtEntry}
use Rattle.mn_routing_laws.specs.Sources.{as_held, source_from}
use Rattle.mn_routing_laws.specs.Standing.{site_label_now, edge_in}
use Rattle.mn_routing_laws.proofs.Tables.{map_numbers_at}

no_none : {A B : Type 0} (f : A → B) (o : Option A) → is_none (option_map f o) ≡ is_none o
no_none f None = refl
no_none f (Some x) = refl

first_in : (xs : List HeldRoute) (x : HeldRoute) → first_of xs ≡ Some x → In xs x
first_in [] x h = absurd (let none : None ≡ Some x → ⊥ = (λ e. cc) in none h)
first_in (y ∷ ys) x h = inl (same_Some y x h)

-- the best route is held
best_in : (xs : List HeldRoute) (address : ℕ) (x : HeldRoute) → best xs address ≡ Some x → In xs x
best_in xs address x h =
    let f = in_filter (λ route. not (list_any (λ other. is_better other route) (matching address xs))) (matching address xs) x
    (first_in (unbeaten (matching address xs)) x h) in
    (in_filter (λ (route : HeldRoute). contains route.prefix address) xs x f.0).0

-- its label is the one that its edge gave
label_same : (g : ℕ) (l : ℕ) (route : HeldRoute) → (source : ledger_held.Source) → l ≡ g →
    (let a : Source = far_over 0 0 route.edge l in a) ≡ far_over 0 0 route.edge g
label_same g l route source e = ap (far_over 0 0 route.edge) e

module _ (t : Network) (lawful : IsLawful t) (es : List JournalEntry) (ps : List (List ℕ)) (journal : IsLawfulJournal t es ps) where
  abbrev w : World
  w = world_of t es

  abbrev l : Labels
  l = labels_of t es

  held_as : (route : HeldRoute) → l route.site route.attachment ≡ label_at (given t es) route.edge route.site route.attachment →
      as_held l route ≡ entry.as_held (given t es) route
  held_as route e = ap (λ (s : Source). let pair : AddressBlock × Source = (route.prefix, s) in pair) (by route.source)
    where
      by : (source : ledger_held.Source) → source_from l route.edge route.site route.attachment source ≡ entry.source_of (given t es) route source
      by ledger_held.Own = refl
      by (ledger_held.Near v) = refl
      by (ledger_held.Far address rd) = ap (far_over address rd route.edge) e

  label_is : (v : ℕ) (route : HeldRoute) → v < length t.vrfs → In (held t w.config w.peerings (edge_of t v) v) route →
      l route.site route.attachment ≡ label_at (given t es) route.edge route.site route.attachment
  unfolding labels_of
  label_is v route below i =
      let there = (all_have_labels t es ps lawful journal).held v route below (contained_in (held t w.config w.peerings (edge_of t v) v) route i) in
      ap (λ e. label_at (given t es) e route.site route.attachment) (gives_to_no_other t es ps route.edge route.site route.attachment journal there).home

  best_as : (v address : ℕ) → v < length t.vrfs → (o : Option HeldRoute) → best (eligible t w (edge_of t v) v address) address ≡ o →
      option_map (as_held l) o ≡ option_map (entry.as_held (given t es)) o
  best_as v address below None e = refl
  best_as v address below (Some route) e =
      ap (λ x. Some x) (held_as route (label_is v route below
      (in_those _ (is_resolved t w (edge_of t v)) (held t w.config w.peerings (edge_of t v) v) route
      (best_in (eligible t w (edge_of t v) v address) address route e))))

  -- its site has a label while it is attached
  pub attached_so : (site : ℕ) → site < length t.sites →
      is_none (site_label (edge_in t l w.config w.peerings (home_of t site)) site) ≡ is_none (w.config.attached site)
  attached_so site there =
      ap is_none (map_numbers_at (site_label_now t l w.config (home_of t site)) (length t.sites) site None there
      ∙ ap (λ b. if b then option_map (l site) (w.config.attached site) else None) (same_test (home_of t site)))
      ∙ no_none (l site) (w.config.attached site)

  -- where it finds the ledger's choice
  pub stands_at_entry : (site : ℕ) (bytes : List ℕ) (route : Option (AddressBlock × Source)) → site < length t.sites →
      ((i : ℕ) → slice_index bytes i < 256)
      → (first_rule (entry_rules (w.config.attached site) bytes) ≡ None → route
      ≡ option_map (as_held l) (best (eligible t w (home_of t site) (vrf_of t site) (destination_of bytes)) (destination_of bytes)))
      → StandsAtEntry (edge_in t l w.config w.peerings (home_of t site)) route t (given t es) w site bytes
  stands_at_entry site bytes route there small finds =
      let v : ℕ = vrf_of t site in
      let below = vrf_there t site lawful there in
      record {
        attached = attached_so site there;
        route = λ passes. finds passes
            ∙ best_as v (destination_of bytes) below (best (eligible t w (edge_of t v) v (destination_of bytes)) (destination_of bytes)) refl;
        sound = λ leaving leaves. leaves_sound t es ps site bytes leaving lawful journal there small leaves;
      }
