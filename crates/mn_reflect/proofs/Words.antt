-- What flies is read as it was sent.
use Rattle.std.proofs.Common.{ℕ, zero, suc, ◌≡◌, ◌≤◌, ◌<◌, ◌^◌, ◌*◌, Bool, true, false, List, [], ◌∷◌, length, refl, arith, sym, ap, ◌∙◌, subst, Option, Some}
use Rattle.std.proofs.Common.{None}
use Rattle.std.proofs.Common.{inl, inr, lit<}
use Rattle.std.specs.Prelude.{nat_lt, slice_index_or, if◌then◌else◌}
use Rattle.std.specs.List.{AllByRecursion, list_all}
use Rattle.mn_base.proofs.Bools.{and_parts, and_left, and_right, less_tells}
use Rattle.mn_base.specs.Numbers.{has_rd_form}
use Rattle.mn_topo.specs.Network.{Network}
use Rattle.mn_topo.specs.Lawful.{IsLawful, is_vrf_of}
use Rattle.mn_topo.specs.Nodes.{is_loopback}
use Rattle.mn_ledger.specs.Places.{loopback, vrf_at, edge_of}
use Rattle.mn_ledger.specs.World as ledger
use Rattle.mn_ledger_laws.proofs.There.{at_all}
use Rattle.mn_bgp_wire.specs.Says.{Says}
use Rattle.mn_bgp_wire.specs.Grammar.{PathAttribute, IsBgp, value_of, attributes_bytes, update_kind, update_body}
use Rattle.mn_bgp_wire.specs.Written.{update_bytes, announced, withdrawn, says_announced, says_withdrawn}
use Rattle.mn_bgp_wire.specs.declared.message.BgpMessage.{BgpMessage}
use Rattle.mn_bgp_wire.specs.declared.message.BgpMessage.TheVariants as messages
use Rattle.mn_bgp_wire.proofs.Listed.{list_again}
use Rattle.mn_bgp_wire.proofs.Messages.{size_of, one_message}
use Rattle.mn_bgp_wire.proofs.Parts.{some_is}
use Rattle.mn_bgp_reflected.specs.Says.{SaysReflected}
use Rattle.mn_bgp_reflected.specs.Grammar.{attributes_of_update as attributes_by, IsReflected, SayOriginator, SayClusters, originator_kind, cluster_kind}
use Rattle.mn_bgp_reflected.specs.Written.{reflected, says_reflected}
use Rattle.mn_bgp_reflected.proofs.Messages.{are_in_body, one_reflected}
use Rattle.mn_bgp_reflected.proofs.Spelling.{reflected_is_spelled}
use Rattle.mn_bgp_spelling_laws.specs.Spelling.{Labels, as_targets, route_of}
use Rattle.mn_bgp_spelling_laws.proofs.Coming.{spelled}
use Rattle.mn_reflect_ledger_laws.specs.Words.{Key, Offer, Word, Open, KeepAlive, Announce, Withdraw, key_of}
use Rattle.mn_reflect_ledger_laws.specs.Picks.{is_reflector}
use Rattle.mn_reflect_ledger_laws.specs.Through.{AreOneOrTwo, ComesThrough}
use Rattle.mn_reflect_world_laws.specs.Kept.{route_in}
use Rattle.mn_reflect_world_laws.specs.Spelling.{word_bytes, hop_of}
use Rattle.mn_reflect_telling.specs.Said.{IsOther, IsSaid}
use Rattle.mn_reflect.specs.Doing.{IsGoodWord, IsFirst, IsSaying}

-- 1. Addresses

none_there : (n : ℕ) → n ≡ 0 → n < 2 ^ 32
none_there n e = subst (λ k. k < 2 ^ 32) (sym e) (lit< tt)

below : (n : ℕ) → nat_lt n (224 * 2 ^ 24) ≡ true → n < 2 ^ 32
below n h = let less : n < 224 * 2 ^ 24 = less_tells n (224 * 2 ^ 24) h in omega (arith, less)

address_fits : (loopbacks : List ℕ) (node : ℕ) → list_all is_loopback loopbacks ≡ true → slice_index_or loopbacks node 0 < 2 ^ 32
address_fits [] node h = none_there 0 refl
address_fits (x ∷ xs) zero h = below x (and_right _ (nat_lt x (224 * 2 ^ 24)) (and_left (is_loopback x) (list_all is_loopback xs) h))
address_fits (x ∷ xs) (suc node) h = address_fits xs node (and_right (is_loopback x) (list_all is_loopback xs) h)

pub clusters_fit : (t : Network) (rs : List ℕ) (n p : ℕ) (offer : Offer) → IsLawful t → ComesThrough t rs n p offer →
    AllByRecursion (λ (cluster : ℕ). cluster < 2 ^ 32) offer.clusters
clusters_fit t rs n p offer lawful h = by (is_reflector rs n) refl (is_reflector rs p) refl
  where
    fits : (node : ℕ) → loopback t node < 2 ^ 32
    fits node = address_fits t.loopbacks node lawful.nodes.formed

    one_or_two : AreOneOrTwo t rs n offer.clusters → AllByRecursion (λ (cluster : ℕ). cluster < 2 ^ 32) offer.clusters
    one_or_two (inl e) = subst (AllByRecursion (λ (cluster : ℕ). cluster < 2 ^ 32)) (sym e) (fits n, tt)
    one_or_two (inr e) = subst (AllByRecursion (λ (cluster : ℕ). cluster < 2 ^ 32)) (sym e.3) (fits n, (fits e.0, tt))

    by : (a : Bool) → is_reflector rs n ≡ a → (b : Bool) → is_reflector rs p ≡ b → AllByRecursion (λ (cluster : ℕ). cluster < 2 ^ 32) offer.clusters
    by false f b g = subst (AllByRecursion (λ (cluster : ℕ). cluster < 2 ^ 32)) (sym (h.of_an_edge f)) tt
    by true f true g = subst (AllByRecursion (λ (cluster : ℕ). cluster < 2 ^ 32)) (sym (h.to_a_reflector f g)) (fits n, tt)
    by true f false g = one_or_two (h.to_an_edge f g)

-- 2. An UPDATE with neither originator nor clusters

attributes_short : (attributes : List PathAttribute) (says : Says) → IsBgp (update_bytes attributes) (messages.Update says) →
    length (attributes_bytes attributes) < 2 ^ 16
attributes_short attributes says is =
    let within = is.within in
    let size = size_of update_kind (update_body (attributes_bytes attributes)) in
    omega arith

attributes_are : (attributes : List PathAttribute) (says : Says) (is : IsBgp (update_bytes attributes) (messages.Update says)) →
    attributes_by (update_bytes attributes) says is ≡ attributes
attributes_are attributes says is =
    some_is _ attributes (sym (are_in_body (update_bytes attributes) says is) ∙ list_again attributes (attributes_short attributes says is))

plainly : (attributes : List PathAttribute) (says : Says) → value_of originator_kind attributes ≡ None → value_of cluster_kind attributes ≡ None →
    IsBgp (update_bytes attributes) (messages.Update says) →
    IsReflected (update_bytes attributes) (record { update = says; originator = None; clusters = [] })
plainly attributes says no_originator no_clusters is = record {
  is_update = is;
  originator = subst (λ (o : Option (List ℕ)). SayOriginator o None)
      (sym (ap (value_of originator_kind) (attributes_are attributes says is) ∙ no_originator)) refl;
  clusters = subst (λ (o : Option (List ℕ)). SayClusters o [])
      (sym (ap (value_of cluster_kind) (attributes_are attributes says is) ∙ no_clusters)) refl;
}

-- 3. Words

module _ (t : Network) (lawful : IsLawful t) (rs : List ℕ) (labels : Labels) (from : ℕ) where
  abbrev bytes_of : Word → List ℕ
  bytes_of word = word_bytes t rs labels from word

  form : (v : ℕ) → v < length t.vrfs → has_rd_form (vrf_at t v).rd.0 ≡ true
  form v there =
      (and_parts (nat_lt (edge_of t v) (length t.loopbacks)) (has_rd_form (vrf_at t v).rd.0)
      (at_all (is_vrf_of (length t.loopbacks)) t.vrfs v _ lawful.vrfs.formed there)).1

  opens : IsBgp (bytes_of Open) (messages.Opening 4 t.asn 0 (loopback t from) true)
  opens = spelled t labels from ledger.Open lawful tt

  keeps : IsBgp (bytes_of KeepAlive) messages.KeepAlive
  keeps = spelled t labels from ledger.BgpKeepAlive lawful tt

  -- what an UPDATE says
  abbrev pub says_offer : Offer → Says
  says_offer offer = says_announced (hop_of t offer) (route_of t labels offer.export) (as_targets offer.export.targets)

  abbrev Announced : Offer → Type 0
  Announced offer =
      IsBgp (update_bytes (announced (hop_of t offer) (route_of t labels offer.export) (as_targets offer.export.targets))) (messages.Update (says_offer offer))

  announces : (offer : Offer) → IsGoodWord t rs labels from (Announce offer) → Announced offer
  announces offer good =
      spelled t labels (edge_of t offer.export.vrf) (ledger.Announcement offer.export) lawful
      (record { distinguisher = form offer.export.vrf good.0.vrf; label = good.0.label; prefix = good.1 }, good.0.few, good.0.targets)

  withdraws : (key : Key) → IsGoodWord t rs labels from (Withdraw key) →
      IsBgp (bytes_of (Withdraw key)) (messages.Update (says_withdrawn (vrf_at t key.vrf).rd key.prefix))
  withdraws key good =
      spelled t labels from (ledger.Withdrawal key.vrf key.prefix) lawful
      (record { distinguisher = form key.vrf good.0; label = lit< tt; prefix = good.1 })

  -- with the clusters
  is_offer : (offer : Offer) → IsGoodWord t rs labels from (Announce offer) →
      (said : SaysReflected) × (said.update ≡ says_offer offer) × (said.clusters ≡ offer.clusters) × IsReflected (bytes_of (Announce offer)) said
  is_offer offer good = by (is_reflector rs from) refl
    where
      by : (b : Bool) → is_reflector rs from ≡ b →
          (said : SaysReflected) × (said.update ≡ says_offer offer) × (said.clusters ≡ offer.clusters) × IsReflected (bytes_of (Announce offer)) said
      by true e = (
        says_reflected (hop_of t offer) (route_of t labels offer.export) (as_targets offer.export.targets) (hop_of t offer) offer.clusters,
        refl,
        refl,
        subst (λ b. IsReflected (if b
            then update_bytes (reflected (hop_of t offer) (route_of t labels offer.export) (as_targets offer.export.targets) (hop_of t offer) offer.clusters)
            else update_bytes (announced (hop_of t offer) (route_of t labels offer.export) (as_targets offer.export.targets)))
            (says_reflected (hop_of t offer) (route_of t labels offer.export) (as_targets offer.export.targets) (hop_of t offer) offer.clusters)) (sym e)
            (reflected_is_spelled (hop_of t offer) (route_of t labels offer.export) (as_targets offer.export.targets) (hop_of t offer) offer.clusters
            (announces offer good) good.0.few (good.3 e) (more (length offer.clusters) good.0.near)
            (address_fits t.loopbacks (edge_of t offer.export.vrf) lawful.nodes.formed)
            good.4),
      )
        where
          more : (n : ℕ) → n ≤ 7 → n ≤ 8
          more n h = omega (arith, h)
      by false e = (
        record { update = says_offer offer; originator = None; clusters = [] },
        refl,
        sym (good.2 e),
        subst (λ b. IsReflected (if b
            then update_bytes (reflected (hop_of t offer) (route_of t labels offer.export) (as_targets offer.export.targets) (hop_of t offer) offer.clusters)
            else update_bytes (announced (hop_of t offer) (route_of t labels offer.export) (as_targets offer.export.targets)))
            (record { update = says_offer offer; originator = None; clusters = [] })) (sym e)
            (plainly (announced (hop_of t offer) (route_of t labels offer.export) (as_targets offer.export.targets)) (says_offer offer) refl refl
            (announces offer good)),
      )

  is_withdrawal : (key : Key) → IsGoodWord t rs labels from (Withdraw key) →
      IsReflected (bytes_of (Withdraw key)) (record { update = says_withdrawn (vrf_at t key.vrf).rd key.prefix; originator = None; clusters = [] })
  is_withdrawal key good =
      plainly (withdrawn (vrf_at t key.vrf).rd key.prefix) (says_withdrawn (vrf_at t key.vrf).rd key.prefix) refl refl (withdraws key good)

  -- 4. As they are read

  pub is_said : (word : Word) → IsGoodWord t rs labels from word → IsSaid (bytes_of word)
  is_said Open good = inr (messages.Opening 4 t.asn 0 (loopback t from) true, tt, opens)
  is_said KeepAlive good = inr (messages.KeepAlive, tt, keeps)
  is_said (Announce offer) good = let said = is_offer offer good in inl (said.0, said.3)
  is_said (Withdraw key) good =
      inl (record { update = says_withdrawn (vrf_at t key.vrf).rd key.prefix; originator = None; clusters = [] }, is_withdrawal key good)

  no_update : (other : BgpMessage) (says : Says) → IsOther other → other ≡ messages.Update says → ⊥
  no_update other says its e = subst IsOther e its

  pub is_first : (word : Word) (other : BgpMessage) → IsGoodWord t rs labels from word → IsOther other → IsBgp (bytes_of word) other → IsFirst t from other word
  is_first Open other good its is = one_message (bytes_of Open) other _ is opens
  is_first KeepAlive other good its is = one_message (bytes_of KeepAlive) other _ is keeps
  is_first (Announce offer) other good its is =
      let said = is_offer offer good in
      absurd (no_update other said.0.update its (one_message (bytes_of (Announce offer)) other _ is said.3.is_update))
  is_first (Withdraw key) other good its is =
      absurd (no_update other _ its (one_message (bytes_of (Withdraw key)) other _ is (withdraws key good)))

  -- the routes of an UPDATE are those of the word
  abbrev pub IsSayingWord : SaysReflected → Word → Type 0
  IsSayingWord said (Announce offer) = IsSaying t said (key_of offer) (Some (route_in labels offer))
  IsSayingWord said (Withdraw key) = IsSaying t said key None
  IsSayingWord said _ = ⊥

  pub is_saying : (word : Word) (said : SaysReflected) → IsGoodWord t rs labels from word → IsReflected (bytes_of word) said → IsSayingWord said word
  is_saying Open said good is = one_kind (one_message (bytes_of Open) _ _ opens is.is_update)
    where
      one_kind : messages.Opening 4 t.asn 0 (loopback t from) true ≡ messages.Update said.update → ⊥
      one_kind e = cc
  is_saying KeepAlive said good is = one_kind (one_message (bytes_of KeepAlive) _ _ keeps is.is_update)
    where
      one_kind : messages.KeepAlive ≡ messages.Update said.update → ⊥
      one_kind e = cc
  is_saying (Announce offer) said good is =
      let meant = is_offer offer good in
      let same : said ≡ meant.0 = one_reflected (bytes_of (Announce offer)) said meant.0 is meant.3 in
      record {
        vrf = good.0.vrf;
        passable = good.0;
        says = (ap (λ (s : SaysReflected). s.update) same ∙ meant.1, ap (λ (s : SaysReflected). s.clusters) same ∙ meant.2, (refl, refl));
      }
  is_saying (Withdraw key) said good is =
      let same = one_reflected (bytes_of (Withdraw key)) said _ is (is_withdrawal key good) in
      record { vrf = good.0; passable = tt; says = ap (λ (s : SaysReflected). s.update) same }
