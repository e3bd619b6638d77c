-- What is in flight before a step is spelled by the labels that FECs have after it.
use Rattle.std.proofs.Common.{ℕ, zero, suc, ◌≡◌, ◌≢◌, ◌+◌, ◌≤◌, ◌<◌, ◌^◌, inl, inr, true, List, [], ◌∷◌, ◌++◌, length, drop, refl, arith, sym, ◌∙◌, ap, subst}
use Rattle.std.specs.Prelude.{if◌then◌else◌, unwrap_or, ⊤}
use Rattle.std.specs.List.{Contains}
use Rattle.std.proofs.lemmas.Bool.Decides.{eqb_tells}
use Rattle.mn_base.proofs.Bools.{same_test}
use Rattle.mn_base.proofs.Members.{In, contained_in}
use Rattle.mn_wiring.specs.Wiring.{Wiring, is_end, across, sender, receiver}
use Rattle.mn_wiring.specs.declared.links.Dir.{Dir}
use Rattle.mn_flight.specs.declared.Item.{Item}
use Rattle.mn_topo.specs.Network.{Network, wiring_of}
use Rattle.mn_topo.specs.Lawful.{IsLawful}
use Rattle.mn_topo.specs.declared.steps.JournalEntry.{JournalEntry}
use Rattle.mn_node.specs.Ldp.{Message, Initialization, KeepAlive, Address, Mapping, Withdraw, Release}
use Rattle.mn_ldp_wire.specs.Grammar.{IsLabel}
use Rattle.mn_ldp_session.specs.Spelling.{Pdu, pdu, pdu_in_network, HasItsLabel}
use Rattle.mn_ledger.specs.Ledger.{world_of}
use Rattle.mn_ledger.specs.Lawful.{IsLawfulJournal}
use Rattle.mn_ledger.proofs.Turning.{dir_ends, across-end}
use Rattle.mn_ledger_laws.specs.Named.{NamesANode}
use Rattle.mn_settled_laws.proofs.Offering.{ends_below}
use Rattle.mn_labels.specs.Labels.{label_now, greatest, fec_of}
use Rattle.mn_frame_laws.specs.Given.{given}
use Rattle.mn_frame_laws.proofs.Bridge.{given_fit}
use Rattle.mn_reuse_laws.specs.Answers.{flying_from, is_mention, is_release}
use Rattle.mn_reuse_laws.specs.Labels.{labels_of}
use Rattle.mn_reuse_laws.specs.Laws.{StaysLabelled}
use Rattle.mn_reuse_laws.specs.Relabelled.{Labelling, labels_at}
use Rattle.mn_reuse_laws.proofs.Labelling.{bounded}
use Rattle.mn_reuse_laws.proofs.Keeping.{keeps_what_is_said}
use Rattle.mn_transport_laws.specs.Sending.{spelled}
use Rattle.mn_transport_laws.proofs.Spelled.{FliesAs}

-- 1. By two labellings

-- what the message says has the same label by both
abbrev pub HasSame : Wiring → Labelling → Labelling → ℕ → ℕ → Message → Type 0
HasSame w g h l s (Mapping fec) = g s fec ≡ h s fec
HasSame w g h l s (Withdraw fec) = g s fec ≡ h s fec
HasSame w g h l s (Release fec) = g (across w l s) fec ≡ h (across w l s) fec
HasSame w g h l s _ = ⊤

pdu-same : (w : Wiring) (g h : Labelling) (l s id : ℕ) (m : Message) → HasSame w g h l s m →
    pdu_in_network w l s (g s) (g (across w l s)) id m ≡ pdu_in_network w l s (h s) (h (across w l s)) id m
pdu-same w g h l s id Initialization e = refl
pdu-same w g h l s id KeepAlive e = refl
pdu-same w g h l s id Address e = refl
pdu-same w g h l s id (Mapping fec) e = ap (λ label. pdu w l s (λ x. label) 0 id (Mapping fec)) e
pdu-same w g h l s id (Withdraw fec) e = ap (λ label. pdu w l s (λ x. label) 0 id (Withdraw fec)) e
pdu-same w g h l s id (Release fec) e = ap (λ label. pdu w l s (g s) label id (Release fec)) e

pub spelled-same : (w : Wiring) (g h : Labelling) (l s id : ℕ) (ms : List Message) → ((m : Message) → In ms m → HasSame w g h l s m) →
    spelled w g l s id ms ≡ spelled w h l s id ms
spelled-same w g h l s id [] e = refl
spelled-same w g h l s id (m ∷ ms) e =
    ap (λ (p : Pdu). p.bytes ∷ spelled w g l s (id + 1) ms) (pdu-same w g h l s id m (e m (inl refl)))
    ∙ ap (λ bs. (pdu_in_network w l s (h s) (h (across w l s)) id m).bytes ∷ bs) (spelled-same w g h l s (id + 1) ms (λ x i. e x (inr i)))

drop-spelled : (w : Wiring) (g : Labelling) (l s n id : ℕ) (ms : List Message) → drop n (spelled w g l s id ms) ≡ spelled w g l s (id + n) (drop n ms)
drop-spelled w g l s zero id ms = ap (λ k. spelled w g l s k ms) (let e : id ≡ id + 0 = omega arith in e)
drop-spelled w g l s (suc n) id [] = refl
drop-spelled w g l s (suc n) id (m ∷ ms) =
    drop-spelled w g l s n (id + 1) ms ∙ ap (λ k. spelled w g l s k (drop n ms)) (let e : id + 1 + n ≡ id + suc n = omega arith in e)

pub flies-same : (w : Wiring) (g h : Labelling) (l : ℕ) (dir : Dir) (heard : ℕ) (said : List Message) (items : List (Item (List ℕ))) →
    ((m : Message) → In (drop heard said) m → HasSame w g h l (sender w l dir) m) → FliesAs w g l dir heard said items → FliesAs w h l dir heard said items
flies-same w g h l dir heard said items e flies =
    flies ∙ drop-spelled w g l (sender w l dir) heard 1 said ∙ spelled-same w g h l (sender w l dir) (1 + heard) (drop heard said) e
    ∙ sym (drop-spelled w h l (sender w l dir) heard 1 said)

-- 2. Before and after an entry

-- a FEC that stays labelled has the same label by both
stays_same : (t : Network) (es : List JournalEntry) (e : JournalEntry) (far p : ℕ) → (p ≢ far → StaysLabelled t es e far p)
    → labels_at t es far p ≡ labels_at t (es ++ e ∷ []) far p
stays_same t es e far p stays = elim (eqb_tells far p) [
  | inl x ↦ ap (λ b. if b then 3 else before) x.0 ∙ sym (ap (λ b. if b then 3 else after) x.0)
  | inr x ↦
      let one = stays (λ q. x.1 (sym q)) in
      ap (λ b. if b then 3 else before) x.0 ∙ ap (λ o. unwrap_or o 0) (one.before ∙ sym one.now) ∙ sym (ap (λ b. if b then 3 else after) x.0)
]
  where
    before : ℕ
    before = unwrap_or (label_now (labels_of t es far) p) 0

    after : ℕ
    after = unwrap_or (label_now (labels_of t (es ++ e ∷ []) far) p) 0

in_drop : {A : Type 0} (n : ℕ) (xs : List A) (x : A) → In (drop n xs) x → In xs x
in_drop zero xs x i = i
in_drop (suc n) [] x i = i
in_drop (suc n) (y ∷ ys) x i = inr (in_drop n ys x i)

same_given : (t : Network) (es : List JournalEntry) (n : ℕ) → given t es n ≡ labels_of t es n
unfolding given
same_given t es n = refl

-- the FEC of which it speaks stays labelled, but a node's own
abbrev pub HasStays : Network → List JournalEntry → JournalEntry → ℕ → ℕ → Message → Type 0
HasStays t es e l s (Mapping fec) = fec ≢ s → StaysLabelled t es e s fec
HasStays t es e l s (Withdraw fec) = fec ≢ s → StaysLabelled t es e s fec
HasStays t es e l s (Release fec) = fec ≢ across (wiring_of t) l s → StaysLabelled t es e (across (wiring_of t) l s) fec
HasStays t es e l s _ = ⊤

-- so it is of what flies in a direction
pub stays-in-flight : (t : Network) (lawful : IsLawful t) (es : List JournalEntry) (ps : List (List ℕ)) → IsLawfulJournal t es ps → (e : JournalEntry) →
    ((l end : ℕ) (message : Message) → Contains ((world_of t es).sessions.said l end) message → NamesANode t message) →
    (l : ℕ) (dir : Dir) → l < length t.links → (m : Message)
    → In (drop ((world_of t es).sessions.heard l (receiver (wiring_of t) l dir)) ((world_of t es).sessions.said l (sender (wiring_of t) l dir))) m →
    HasStays t es e l (sender (wiring_of t) l dir) m
stays-in-flight t lawful es ps journal e named l dir below m i = by m i
    (named l (sender (wiring_of t) l dir) m (contained_in ((world_of t es).sessions.said l (sender (wiring_of t) l dir)) m
    (in_drop ((world_of t es).sessions.heard l (receiver (wiring_of t) l dir)) ((world_of t es).sessions.said l (sender (wiring_of t) l dir)) m i)))
  where
    ends : (is_end (wiring_of t) l (receiver (wiring_of t) l dir) ≡ true) × (across (wiring_of t) l (receiver (wiring_of t) l dir) ≡ sender (wiring_of t) l dir)
    ends = dir_ends (wiring_of t) l dir (lawful.ends_differ l below)

    back : (is_end (wiring_of t) l (sender (wiring_of t) l dir) ≡ true) × (across (wiring_of t) l (sender (wiring_of t) l dir) ≡ receiver (wiring_of t) l dir)
    back = let other = across-end (wiring_of t) l (receiver (wiring_of t) l dir) (lawful.ends_differ l below) ends.0 in
        (subst (λ n. is_end (wiring_of t) l n ≡ true) ends.1 other.0, ap (across (wiring_of t) l) (sym ends.1) ∙ other.1)

    Flies : Message → Type 0
    Flies x = In (drop ((world_of t es).sessions.heard l (receiver (wiring_of t) l dir)) ((world_of t es).sessions.said l (sender (wiring_of t) l dir))) x

    mentioned : (x : Message) (fec : ℕ) → Flies x → is_mention fec x ≡ true → fec < length t.loopbacks → fec ≢ sender (wiring_of t) l dir →
        StaysLabelled t es e (sender (wiring_of t) l dir) fec
    mentioned x fec j is under apart =
        (keeps_what_is_said t es ps e (sender (wiring_of t) l dir) fec l lawful journal
        (ends_below t lawful.joins_nodes l (sender (wiring_of t) l dir) below back.0) under apart below back.0).mention x
        (contained_in (flying_from t (world_of t es) l (sender (wiring_of t) l dir)) x
        (subst (λ n. In (drop ((world_of t es).sessions.heard l n) ((world_of t es).sessions.said l (sender (wiring_of t) l dir))) x) (sym back.1) j)) is

    released : (x : Message) (fec : ℕ) → Flies x → is_release fec x ≡ true → fec < length t.loopbacks → fec ≢ receiver (wiring_of t) l dir →
        StaysLabelled t es e (receiver (wiring_of t) l dir) fec
    released x fec j is under apart =
        (keeps_what_is_said t es ps e (receiver (wiring_of t) l dir) fec l lawful journal
        (ends_below t lawful.joins_nodes l (receiver (wiring_of t) l dir) below ends.0) under apart below ends.0).release x
        (contained_in (flying_from t (world_of t es) l (across (wiring_of t) l (receiver (wiring_of t) l dir))) x
        (subst (λ n. In (drop ((world_of t es).sessions.heard l (across (wiring_of t) l n)) ((world_of t es).sessions.said l n)) x) (sym ends.1)
        (subst (λ n. In (drop ((world_of t es).sessions.heard l n) ((world_of t es).sessions.said l (sender (wiring_of t) l dir))) x) (sym back.1) j))) is

    by : (x : Message) → Flies x → NamesANode t x → HasStays t es e l (sender (wiring_of t) l dir) x
    by Initialization j n = tt
    by KeepAlive j n = tt
    by Address j n = tt
    by (Mapping fec) j n = mentioned (Mapping fec) fec j (same_test fec) n
    by (Withdraw fec) j n = mentioned (Withdraw fec) fec j (same_test fec) n
    by (Release fec) j n = subst (λ x. fec ≢ x → StaysLabelled t es e x fec) (sym back.1) (released (Release fec) fec j (same_test fec) n)

-- so it has the same label before and after
pub same-in-flight : (t : Network) (lawful : IsLawful t) (es : List JournalEntry) (ps : List (List ℕ)) → IsLawfulJournal t es ps → (e : JournalEntry) →
    ((l end : ℕ) (message : Message) → Contains ((world_of t es).sessions.said l end) message → NamesANode t message) →
    (l : ℕ) (dir : Dir) → l < length t.links → (m : Message)
    → In (drop ((world_of t es).sessions.heard l (receiver (wiring_of t) l dir)) ((world_of t es).sessions.said l (sender (wiring_of t) l dir))) m →
    HasSame (wiring_of t) (labels_at t es) (labels_at t (es ++ e ∷ [])) l (sender (wiring_of t) l dir) m
same-in-flight t lawful es ps journal e named l dir below m i = by m (stays-in-flight t lawful es ps journal e named l dir below m i)
  where
    by : (x : Message) → HasStays t es e l (sender (wiring_of t) l dir) x →
        HasSame (wiring_of t) (labels_at t es) (labels_at t (es ++ e ∷ [])) l (sender (wiring_of t) l dir) x
    by Initialization h = tt
    by KeepAlive h = tt
    by Address h = tt
    by (Mapping fec) h = stays_same t es e (sender (wiring_of t) l dir) fec h
    by (Withdraw fec) h = stays_same t es e (sender (wiring_of t) l dir) fec h
    by (Release fec) h = stays_same t es e (across (wiring_of t) l (sender (wiring_of t) l dir)) fec h

-- and a label of 20 bits, where the nodes' labels have
label-fits : (t : Network) (es : List JournalEntry) (e : JournalEntry) (n fec : ℕ) → greatest (given t es n).given < 2 ^ 20 →
    (fec ≢ n → StaysLabelled t es e n fec) →
    IsLabel (labels_at t (es ++ e ∷ []) n fec)
label-fits t es e n fec few stays = elim (eqb_tells n fec) [
  | inl x ↦ inl (ap (λ b. if b then 3 else unwrap_or (label_now (labels_of t (es ++ e ∷ []) n) fec) 0) x.0)
  | inr x ↦
      let one = stays (λ q. x.1 (sym q)) in
      let is : labels_at t (es ++ e ∷ []) n fec ≡ one.label =
      ap (λ b. if b then 3 else unwrap_or (label_now (labels_of t (es ++ e ∷ []) n) fec) 0) x.0 ∙ ap (λ o. unwrap_or o 0) one.now in
      let there = (given_fit t es n).given fec one.label (ap (λ g. label_now g fec) (same_given t es n) ∙ one.before) in
      let low = (given_fit t es n).reserved (record { label = one.label; what = fec_of fec }) there in
      let high = bounded (given t es n).given (record { label = one.label; what = fec_of fec }) there in
      inr (subst (λ k. 16 ≤ k) (sym is) low, subst (λ k. k < 2 ^ 20) (sym is) (below _ _ high few))
]
  where
    below : (a b : ℕ) → a ≤ b → b < 2 ^ 20 → a < 2 ^ 20
    below a b f h = omega (arith, f, h)

pub fits-in-flight : (t : Network) (es : List JournalEntry) (e : JournalEntry) (l s : ℕ) (m : Message) → greatest (given t es s).given < 2 ^ 20 →
    greatest (given t es (across (wiring_of t) l s)).given < 2 ^ 20 → HasStays t es e l s m →
    HasItsLabel (labels_at t (es ++ e ∷ []) s) (labels_at t (es ++ e ∷ []) (across (wiring_of t) l s)) m
fits-in-flight t es e l s Initialization near far h = tt
fits-in-flight t es e l s KeepAlive near far h = tt
fits-in-flight t es e l s Address near far h = tt
fits-in-flight t es e l s (Mapping fec) near far h = label-fits t es e s fec near h
fits-in-flight t es e l s (Withdraw fec) near far h = label-fits t es e s fec near h
fits-in-flight t es e l s (Release fec) near far h = label-fits t es e (across (wiring_of t) l s) fec far h
