-- Each cause of the list is the ledger's, and so is the first that holds.
use Rattle.std.proofs.Common.{ℕ, ◌≡◌, ◌+◌, ◌*◌, ◌<◌, Bool, true, false, cond, List, [], ◌∷◌, length, refl, sym, ap, ◌∙◌, subst, Option, Some, None}
use Rattle.std.specs.Prelude.{◌&&◌, ◌||◌, ◌-◌, not, nat_le, nat_lt, option_map, unwrap_or}
use Rattle.std.specs.List.{All}
use Rattle.mn_base.specs.Numbers.{has_rt_form}
use Rattle.mn_base.proofs.Bools.{and_parts, less_tells}
use Rattle.mn_base.specs.declared.numbers.SiteNo.{SiteNo}
use Rattle.mn_prefix.specs.Prefix.{AddressBlock}
use Rattle.mn_topo.specs.Lawful.{IsLawful}
use Rattle.mn_topo.specs.Network.{Network}
use Rattle.mn_topo.specs.SiteTable.{is_lawful_prefix}
use Rattle.mn_topo.specs.Steps.{fits}
use Rattle.mn_topo.specs.declared.steps.Step.{Step}
use Rattle.mn_topo.specs.declared.steps.Step.TheVariants.{LinkUp, AddRoute, DelRoute, Import, Export, Attach, Inject}
use Rattle.mn_topo.specs.declared.steps.JournalEntry.{JournalEntry}
use Rattle.mn_ledger.specs.declared.refused.Refused.{Refused}
use Rattle.mn_ledger.specs.declared.refused.Refused.TheVariants.{Unchanged, Empty, NoRouteThere, TargetsFull, LabelsSpent, NetFull, TooManySteps}
use Rattle.mn_ledger.specs.Places.{vrf_of, home_of}
use Rattle.mn_ledger.specs.World.{World}
use Rattle.mn_ledger.specs.Packets.{Packets}
use Rattle.mn_ledger.specs.Ledger.{world_of, packets_of}
use Rattle.mn_ledger.specs.Refusal.{first_cause, where_holds, taken_by, prefix_refusal, static_refusal, is_targets_full, is_spent, is_full, takes_out}
use Rattle.mn_ledger.specs.Refusal.{in_flight, bytes_flying, refusal}
use Rattle.mn_ledger.specs.Refusal as refusals
use Rattle.mn_ledger.proofs.Choice.{keeps}
use Rattle.mn_ledger.proofs.Statics.{HasStatics}
use Rattle.mn_ledger_laws.proofs.There.{vrf_there, home_there}
use Rattle.mn_frame_laws.proofs.Ranges.{given_long}
use Rattle.mn_frame_laws.proofs.Spent.{as_many_given}
use Rattle.mn_frame_laws.specs.Given.{given}
use Rattle.mn_frame_laws.specs.Numbers.{labels_of}
use Rattle.mn_vrf.specs.Vrf.{Static, static_of}
use Rattle.mn_flight.specs.Flying.{IsFlight}
use Rattle.mn_transit.specs.Moving.{bytes_in}
use Rattle.mn_transit.proofs.Counting.{bytes_told}
use Rattle.mn_timetable_laws.specs.Keys.{of_frames}
use Rattle.mn_net_parts_laws.proofs.News.{is_counted}
use Rattle.mn_net_parts_laws.proofs.Numbers.{flight_ascends}
use Rattle.mn_net_laws.specs.Alike.{RefusesAlike}
use Rattle.mn_net_laws.specs.Seen.{Seen, Shows, attachments_in}
use Rattle.mn_net_laws.specs.Refusal.{of_vrf, site_with, is_site, is_so, has_nothing, of_static, has_all_targets, has_given_all, has_no_room}
use Rattle.mn_net_laws.specs.Refusal.{has_too_much, refusal_seen}
use Rattle.mn_net_laws.proofs.Already.{already}
use Rattle.mn_net_laws.proofs.Nothing.{nothing_is_there}
use Rattle.mn_net_laws.proofs.OfFrames.{on_directions}
use Rattle.mn_net_laws.proofs.Statics.{site_is, over_site}
use Rattle.mn_net_laws.proofs.Vrfs.{vrf_is, imports_count, exports_count}

module _ (t : Network) (lawful : IsLawful t) (es : List JournalEntry) (ps : List (List ℕ)) (seen : Seen) (h : Shows t es ps seen) where
  abbrev w : World
  w = world_of t es

  -- 1. Statics

  has : HasStatics t (world_of t es).config.statics
  has = (keeps t es ps lawful h.packed.lawful).statics

  site_row : (s : SiteNo) (p : AddressBlock) → (nat_lt s.0 (length t.sites) && is_lawful_prefix p) ≡ true →
      site_with t seen.routes (vrf_of t s.0) p ≡ taken_by t (vrf_of t s.0) p w.config.statics
  site_row s p fit =
      let there = less_tells s.0 (length t.sites) (and_parts (nat_lt s.0 (length t.sites)) (is_lawful_prefix p) fit).0 in
      ap (λ r. site_with t r (vrf_of t s.0) p) h.routes
      ∙ vrf_is t (labels_of t es) w.config w.peerings lawful (vrf_of t s.0) (λ vrf. option_map (λ (static : Static). static.site) (static_of p vrf.statics))
      (vrf_there t s.0 lawful there)
      ∙ site_is t (vrf_of t s.0) p w.config has

  static_is : (s : Step) → fits t s ≡ true → of_static t seen s ≡ static_refusal t w.config s
  static_is (AddRoute s p) fit =
      ap (λ o. prefix_refusal o seen.statics) (site_row s p fit) ∙ ap (prefix_refusal (taken_by t (vrf_of t s.0) p w.config.statics)) h.statics
  static_is (DelRoute s p) fit =
      ap (λ o. cond (is_site s.0 o) None (Some NoRouteThere)) (site_row s p fit)
      ∙ ap (λ b. cond b None (Some NoRouteThere)) (sym (over_site t (vrf_of t s.0) p w.config has s.0 refl))
  static_is (LinkUp l) fit = refl
  static_is _ fit = refl

  -- 2. Targets

  targets_are : (s : Step) → fits t s ≡ true → has_all_targets t seen.routes s ≡ is_targets_full w.config s
  targets_are (Import v true target) fit =
      let there = less_tells v.0 (length t.vrfs) (and_parts (nat_lt v.0 (length t.vrfs)) (has_rt_form target.0) fit).0 in
      ap (nat_le 16) (ap (λ r. unwrap_or (of_vrf t r v.0 (λ vrf. Some (length vrf.imports))) 0) h.routes
      ∙ imports_count t (labels_of t es) w.config w.peerings lawful v.0 there)
  targets_are (Export v true target) fit =
      let there = less_tells v.0 (length t.vrfs) (and_parts (nat_lt v.0 (length t.vrfs)) (has_rt_form target.0) fit).0 in
      ap (nat_le 16) (ap (λ r. unwrap_or (of_vrf t r v.0 (λ vrf. Some (length vrf.exports))) 0) h.routes
      ∙ exports_count t (labels_of t es) w.config w.peerings lawful v.0 there)
  targets_are (Import v false target) fit = refl
  targets_are (Export v false target) fit = refl
  targets_are (LinkUp l) fit = refl
  targets_are _ fit = refl

  -- 3. Labels

  labels_are : (s : Step) → fits t s ≡ true → has_given_all t seen.given s ≡ is_spent t w.config s
  labels_are (Attach s) fit =
      let there = home_there t s.0 lawful (less_tells s.0 (length t.sites) fit) in
      ap (nat_le 1048560) (h.given (home_of t s.0) there
      ∙ ap (λ n. attachments_in (given t es (home_of t s.0)).given + (n - 1)) (given_long t es (home_of t s.0))
      ∙ as_many_given t es ps (home_of t s.0) h.packed.lawful)
  labels_are (LinkUp l) fit = refl
  labels_are _ fit = refl

  -- 4. What is in flight

  bytes_are : bytes_in seen.packed.moving.flying ≡ bytes_flying t (packets_of t es ps)
  bytes_are = bytes_told t (given t es) seen.packed.moving (packets_of t es ps)
      (subst (λ n. IsFlight n seen.packed.moving.flying) (sym h.channels) (on_directions t es ps seen.packed lawful h.packed)) h.channels h.packed.packets

  room_is : (s : Step) (b : List ℕ) → has_no_room seen.packed s b ≡ refusals.has_no_room t (packets_of t es ps) s b
  room_is (Inject s number) b = ap (λ n. nat_lt 268435456 (n + length b)) bytes_are
  room_is (LinkUp l) b = refl
  room_is _ b = refl

  full_is : (s : Step) (b : List ℕ) → has_too_much seen.packed s b ≡ is_full t w (packets_of t es ps) s b
  full_is s b =
      ap (λ n. (not (takes_out s) && nat_le 2000000 n) || has_no_room seen.packed s b) (sym (is_counted t es seen.packed ps lawful h.packed))
      ∙ ap (λ r. (not (takes_out s) && nat_le 2000000 (in_flight t w)) || r) (room_is s b)

  -- 5. The first that holds

  pub same_refusal : (s : Step) (b : List ℕ) → fits t s ≡ true → refusal_seen t seen s b ≡ refusal t es ps s b
  same_refusal s b fit =
      rows (already t lawful es ps seen h s fit) (nothing_is_there t lawful es ps seen.packed h.packed s fit) (static_is s fit) (targets_are s fit)
      (labels_are s fit) (full_is s b) h.steps
    where
      rows : {so so_too none none_too many many_too all all_too full full_too : Bool} {static static_too : Option Refused} {steps steps_too : ℕ} →
          so ≡ so_too → none ≡ none_too → static ≡ static_too → many ≡ many_too → all ≡ all_too → full ≡ full_too → steps ≡ steps_too →
          first_cause (where_holds so Unchanged ∷ where_holds none Empty ∷ static ∷ where_holds many TargetsFull ∷ where_holds all LabelsSpent
          ∷ where_holds full NetFull ∷ where_holds (nat_le 4000000 steps) TooManySteps ∷ [])
          ≡ first_cause (where_holds so_too Unchanged ∷ where_holds none_too Empty ∷ static_too ∷ where_holds many_too TargetsFull
          ∷ where_holds all_too LabelsSpent ∷ where_holds full_too NetFull ∷ where_holds (nat_le 4000000 steps_too) TooManySteps ∷ [])
      rows a b c d e f g = rw (a, b, c, d, e, f, g) refl

pub refuses_alike : RefusesAlike
refuses_alike t es ps seen s b lawful h fit = same_refusal t lawful es ps seen h s b fit
