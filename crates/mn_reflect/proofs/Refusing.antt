-- What is seen refuses what the definitions refuse, for the same cause.
use Rattle.std.proofs.Common.{ℕ, ◌≡◌, ◌+◌, ◌-◌, ◌<◌, Bool, true, false, cond, List, [], ◌∷◌, length, refl, sym, ap, ◌∙◌, Option, Some, None, inl, inr, ◌⊎◌}
use Rattle.std.specs.Prelude.{◌&&◌, ◌||◌, ◌==◌, not, nat_le, nat_lt, option_map, unwrap_or, slice_index_or, is_some, is_none}
use Rattle.mn_base.specs.Numbers.{has_rt_form}
use Rattle.mn_base.proofs.Bools.{no, and_parts, less_tells}
use Rattle.mn_base.specs.declared.numbers.SiteNo.{SiteNo}
use Rattle.mn_prefix.specs.Prefix.{AddressBlock}
use Rattle.mn_topo.specs.Lawful.{IsLawful}
use Rattle.mn_topo.specs.Network.{Network}
use Rattle.mn_topo.specs.SiteTable.{is_lawful_prefix}
use Rattle.mn_topo.specs.VrfTable.{is_edge}
use Rattle.mn_topo.specs.declared.steps.Step.{Step}
use Rattle.mn_topo.specs.declared.steps.Step.TheVariants as step
use Rattle.mn_ledger.specs.declared.refused.Refused.{Refused}
use Rattle.mn_ledger.specs.declared.refused.Refused.TheVariants.{Unchanged, Empty, NoRouteThere, TargetsFull, LabelsSpent, NetFull}
use Rattle.mn_ledger.specs.Places.{vrf_of, home_of}
use Rattle.mn_ledger.specs.Refusal.{agree, first_cause, where_holds, taken_by, prefix_refusal, static_refusal, is_unchanged, is_targets_full, is_spent}
use Rattle.mn_ledger.proofs.Statics.{HasStatics, first_statics}
use Rattle.mn_ledger_laws.proofs.There.{vrf_there, home_there}
use Rattle.mn_vrf.specs.Vrf.{Static, static_of}
use Rattle.mn_bgp_spelling_laws.specs.Spelling.{Labels}
use Rattle.mn_mail.specs.Mail as mail
use Rattle.mn_routing_laws.proofs.Tables.{map_numbers_at}
use Rattle.mn_routing_laws.proofs.GoingOn.{edge_below}
use Rattle.mn_net_laws.specs.Refusal.{session_at, of_vrf, imports_it, exports_it, site_label, site_with, is_site}
use Rattle.mn_net_laws.proofs.Statics.{site_is, over_site}
use Rattle.mn_net_laws.proofs.Vrfs.{not_some, vrf_is, imports_is, exports_is, imports_count, exports_count, attached_is}
use Rattle.mn_reflect_ledger_laws.specs.Words.{Word}
use Rattle.mn_reflect_ledger_laws.specs.Picks.{ReflectWorld, is_reflector}
use Rattle.mn_reflect_ledger_laws.specs.Quiet.{AreReflectors}
use Rattle.mn_reflect_ledger_laws.specs.World.{start, world_of, first_word}
use Rattle.mn_reflect_ledger_laws.specs.Refusal.{is_empty, is_full, takes_out, refusal}
use Rattle.mn_reflect_ledger_laws.proofs.Apart.{statics_from}
use Rattle.mn_reflect_world_laws.specs.Labels.{labels_of, attachments_at}
use Rattle.mn_reflect_world_laws.specs.Spelling.{letter_in}
use Rattle.mn_reflect_world_laws.specs.Now.{ReflectNow, StandsFor}
use Rattle.mn_reflect_world_laws.specs.Steps.{may_peer, takes}
use Rattle.mn_reflect_world_laws.proofs.Letters.{are_words}
use Rattle.mn_reflect.specs.Course.{IsRun}
use Rattle.mn_reflect.specs.Causes.{IsOfPlaces, shown, is_so, has_nothing, of_static, has_all_targets, has_given_all, has_too_much, refusal_seen}
use Rattle.mn_reflect.proofs.Reading.{as_many}
use Rattle.mn_reflect.proofs.Shown.{by_edges, lives_as, c, p}

mapped_none : {A B : Type 0} (f : A → B) (o : Option A) → is_none (option_map f o) ≡ is_none o
mapped_none f None = refl
mapped_none f (Some x) = refl

module _ (t : Network) (rs : List ℕ) (steps : List Step) (now : ReflectNow) (lawful : IsLawful t) (has : HasStatics t (world_of t rs steps).config.statics)
    (h : StandsFor t rs (labels_of t steps) (world_of t rs steps) now) where
  abbrev w : ReflectWorld
  w = world_of t rs steps

  abbrev l : Labels
  l = labels_of t steps

  -- 1. Already so

  so_is : (s : Step) → IsOfPlaces t s → takes t rs s ≡ true → now.topology ≡ t → is_so now s ≡ is_unchanged w.config s
  so_is (step.BgpUp a b) places taken same = lives_as t rs l w now h a.0 b.0 places.0 places.1 (and_parts _ (nat_lt a.0 b.0) taken).1
  so_is (step.BgpDown a b) places taken same =
      not_some (session_at (shown now) a.0 b.0) ∙ ap not (lives_as t rs l w now h a.0 b.0 places.0 places.1 (and_parts _ (nat_lt a.0 b.0) taken).1)
  so_is (step.Import v on target) places taken same =
      ap (agree on) (ap (λ n. imports_it n (shown now) v.0 target) same
      ∙ by_edges t rs l w now h (λ r. imports_it t r v.0 target) (λ es ss other. refl)
      ∙ imports_is t l (c t rs l w now h) (p t rs l w now h) lawful v.0 target places)
  so_is (step.Export v on target) places taken same =
      ap (agree on) (ap (λ n. exports_it n (shown now) v.0 target) same
      ∙ by_edges t rs l w now h (λ r. exports_it t r v.0 target) (λ es ss other. refl)
      ∙ exports_is t l (c t rs l w now h) (p t rs l w now h) lawful v.0 target places)
  so_is (step.Attach s) places taken same =
      ap (λ n. is_some (site_label n (shown now) s.0)) same
      ∙ ap is_some (by_edges t rs l w now h (λ r. site_label t r s.0) (λ es ss other. refl))
      ∙ attached_is t l (c t rs l w now h) (p t rs l w now h) lawful s.0 places
  so_is (step.Detach s) places taken same =
      ap (λ n. is_none (site_label n (shown now) s.0)) same
      ∙ not_some (site_label t (shown now) s.0)
      ∙ ap (λ o. not (is_some o)) (by_edges t rs l w now h (λ r. site_label t r s.0) (λ es ss other. refl))
      ∙ ap not (attached_is t l (c t rs l w now h) (p t rs l w now h) lawful s.0 places)
      ∙ sym (not_some (w.config.attached s.0))
  so_is (step.HearBgp a b) places taken same = refl
  so_is (step.AddRoute s prefix) places taken same = refl
  so_is (step.DelRoute s prefix) places taken same = refl
  so_is (step.LinkUp k) places taken same = absurd (no taken)
  so_is _ places taken same = absurd (no taken)

  -- 2. Nothing to hear

  nothing_is : (s : Step) → has_nothing now s ≡ is_empty w s
  nothing_is (step.HearBgp a b) =
      ap (λ letters. is_none (mail.first_from_to a.0 b.0 letters)) h.letters
      ∙ ap is_none (are_words t rs l a.0 b.0 w.flying).first
      ∙ mapped_none (λ (word : Word). letter_in t rs l (record { from = a.0; to = b.0; word = word })) (first_word a.0 b.0 w.flying)
  nothing_is (step.BgpUp a b) = refl
  nothing_is _ = refl

  -- 3. Statics

  site_row : (s : SiteNo) (prefix : AddressBlock) → s.0 < length t.sites →
      site_with t (shown now) (vrf_of t s.0) prefix ≡ taken_by t (vrf_of t s.0) prefix w.config.statics
  site_row s prefix there =
      by_edges t rs l w now h (λ r. site_with t r (vrf_of t s.0) prefix) (λ es ss other. refl)
      ∙ vrf_is t l (c t rs l w now h) (p t rs l w now h) lawful (vrf_of t s.0)
      (λ vrf. option_map (λ (static : Static). static.site) (static_of prefix vrf.statics)) (vrf_there t s.0 lawful there)
      ∙ site_is t (vrf_of t s.0) prefix (c t rs l w now h) has

  static_is : (s : Step) → IsOfPlaces t s → now.topology ≡ t → of_static now s ≡ static_refusal t w.config s
  static_is (step.AddRoute s prefix) places same =
      ap (λ n. prefix_refusal (site_with n (shown now) (vrf_of n s.0) prefix) now.statics) same
      ∙ ap (λ o. prefix_refusal o now.statics) (site_row s prefix places)
      ∙ ap (prefix_refusal (taken_by t (vrf_of t s.0) prefix w.config.statics)) h.statics
  static_is (step.DelRoute s prefix) places same =
      ap (λ n. cond (is_site s.0 (site_with n (shown now) (vrf_of n s.0) prefix)) None (Some NoRouteThere)) same
      ∙ ap (λ o. cond (is_site s.0 o) None (Some NoRouteThere)) (site_row s prefix places)
      ∙ ap (λ b. cond b None (Some NoRouteThere)) (sym (over_site t (vrf_of t s.0) prefix w.config has s.0 refl))
  static_is (step.LinkUp k) places same = refl
  static_is _ places same = refl

  -- 4. Targets

  targets_are : (s : Step) → IsOfPlaces t s → now.topology ≡ t → has_all_targets now s ≡ is_targets_full w.config s
  targets_are (step.Import v true target) places same =
      ap (nat_le 16) (ap (λ n. unwrap_or (of_vrf n (shown now) v.0 (λ vrf. Some (length vrf.imports))) 0) same
      ∙ by_edges t rs l w now h (λ r. unwrap_or (of_vrf t r v.0 (λ vrf. Some (length vrf.imports))) 0) (λ es ss other. refl)
      ∙ imports_count t l (c t rs l w now h) (p t rs l w now h) lawful v.0 places)
  targets_are (step.Export v true target) places same =
      ap (nat_le 16) (ap (λ n. unwrap_or (of_vrf n (shown now) v.0 (λ vrf. Some (length vrf.exports))) 0) same
      ∙ by_edges t rs l w now h (λ r. unwrap_or (of_vrf t r v.0 (λ vrf. Some (length vrf.exports))) 0) (λ es ss other. refl)
      ∙ exports_count t l (c t rs l w now h) (p t rs l w now h) lawful v.0 places)
  targets_are (step.Import v false target) places same = refl
  targets_are (step.Export v false target) places same = refl
  targets_are (step.LinkUp k) places same = refl
  targets_are _ places same = refl

  -- 5. Labels

  labels_are : (s : Step) → IsOfPlaces t s → now.topology ≡ t → has_given_all now s ≡ is_spent t w.config s
  labels_are (step.Attach s) places same =
      ap (λ n. nat_le 1048560 ((length n.loopbacks - 1) + slice_index_or now.attachments (home_of n s.0) 0)) same
      ∙ ap (λ k. nat_le 1048560 ((length t.loopbacks - 1) + k)) (ap (λ xs. slice_index_or xs (home_of t s.0) 0) h.attachments
      ∙ map_numbers_at (attachments_at t w.config) (length t.loopbacks) (home_of t s.0) 0 (home_there t s.0 lawful places))
  labels_are (step.LinkUp k) places same = refl
  labels_are _ places same = refl

  -- 6. What flies

  full_is : (s : Step) → has_too_much now s ≡ is_full w s
  full_is s = ap (λ n. not (takes_out s) && nat_le 2000000 n) (as_many t rs l w.flying now.mail.letters h.letters)

  -- 7. The first that holds

  pub same_refusal : (s : Step) → IsOfPlaces t s → takes t rs s ≡ true → refusal_seen now s ≡ refusal t w s
  same_refusal s places taken =
      rows (so_is s places taken h.topology_is) (nothing_is s) (static_is s places h.topology_is) (targets_are s places h.topology_is)
      (labels_are s places h.topology_is) (full_is s)
    where
      rows : {so so_too none none_too many many_too all all_too full full_too : Bool} {static static_too : Option Refused} →
          so ≡ so_too → none ≡ none_too → static ≡ static_too → many ≡ many_too → all ≡ all_too → full ≡ full_too →
          first_cause (where_holds so Unchanged ∷ where_holds none Empty ∷ static ∷ where_holds many TargetsFull ∷ where_holds all LabelsSpent
          ∷ where_holds full NetFull ∷ [])
          ≡ first_cause (where_holds so_too Unchanged ∷ where_holds none_too Empty ∷ static_too ∷ where_holds many_too TargetsFull
          ∷ where_holds all_too LabelsSpent ∷ where_holds full_too NetFull ∷ [])
      rows a b c d e f = rw (a, b, c, d, e, f) refl

-- 8. The nodes, VRFs and sites of a step that is taken

pub sides : (x y z u : Bool) → ((x && (y || z)) || (y && u)) ≡ true → ((x ≡ true) × ((y ≡ true) ⊎ (z ≡ true))) ⊎ ((y ≡ true) × (u ≡ true))
sides true true z u h = inl (refl, inl refl)
sides true false true u h = inl (refl, inr refl)
sides true false false u h = absurd (no h)
sides false true z true h = inr (refl, refl)
sides false true z false h = absurd (no h)
sides false false z u h = absurd (no h)

module _ (t : Network) (rs : List ℕ) (lawful : IsLawful t) (are : AreReflectors t rs) where
  peers_below : (a b : ℕ) → may_peer t rs a b ≡ true → (a < length t.loopbacks) × (b < length t.loopbacks)
  peers_below a b may =
      elim (sides (is_reflector rs a) (is_reflector rs b) (is_edge t.vrfs b) (is_edge t.vrfs a)
      (and_parts (not (a == b)) ((is_reflector rs a && (is_reflector rs b || is_edge t.vrfs b)) || (is_reflector rs b && is_edge t.vrfs a)) may).1) [
        | inl one ↦ (are.nodes a one.0, elim one.1 [ inl e ↦ are.nodes b e | inr e ↦ edge_below t b lawful e ])
        | inr two ↦ (edge_below t a lawful two.1, are.nodes b two.0)
      ]

  pub places_of : (s : Step) → takes t rs s ≡ true → IsOfPlaces t s
  places_of (step.BgpUp a b) taken = peers_below a.0 b.0 (and_parts (may_peer t rs a.0 b.0) (nat_lt a.0 b.0) taken).0
  places_of (step.BgpDown a b) taken = peers_below a.0 b.0 (and_parts (may_peer t rs a.0 b.0) (nat_lt a.0 b.0) taken).0
  places_of (step.HearBgp a b) taken = peers_below a.0 b.0 taken
  places_of (step.AddRoute s prefix) taken = less_tells s.0 (length t.sites) (and_parts (nat_lt s.0 (length t.sites)) (is_lawful_prefix prefix) taken).0
  places_of (step.DelRoute s prefix) taken = less_tells s.0 (length t.sites) (and_parts (nat_lt s.0 (length t.sites)) (is_lawful_prefix prefix) taken).0
  places_of (step.Import v on target) taken = less_tells v.0 (length t.vrfs) (and_parts (nat_lt v.0 (length t.vrfs)) (has_rt_form target.0) taken).0
  places_of (step.Export v on target) taken = less_tells v.0 (length t.vrfs) (and_parts (nat_lt v.0 (length t.vrfs)) (has_rt_form target.0) taken).0
  places_of (step.Attach s) taken = less_tells s.0 (length t.sites) taken
  places_of (step.Detach s) taken = less_tells s.0 (length t.sites) taken
  places_of (step.LinkUp k) taken = tt
  places_of _ taken = tt

-- 9. Of routes after a run

pub refuses : (t : Network) (rs : List ℕ) (steps : List Step) (now : ReflectNow) (s : Step) → IsRun t rs steps now → takes t rs s ≡ true →
    refusal_seen now s ≡ refusal t (world_of t rs steps) s
refuses t rs steps now s is taken =
    same_refusal t rs steps now is.run.topology_is
    (statics_from t rs (start t) steps is.run.done (first_statics t is.run.topology_is)) is.stands.0 s
    (places_of t rs is.run.topology_is is.run.are s taken) taken
