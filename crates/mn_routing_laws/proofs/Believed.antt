-- What is kept by distinguisher and prefix is what is believed by VRF and prefix: distinguishers differ.
use Rattle.std.proofs.Common.{ℕ, ◌≡◌, ◌<◌, inl, inr, Bool, true, false, List, [], ◌∷◌, filter, length, refl, sym, ◌∙◌, ap, subst}
use Rattle.std.specs.Prelude.{◌==◌, ◌&&◌, ◌||◌, not, fold, ⊤}
use Rattle.mn_prefix.specs.Prefix.{AddressBlock, same_prefix, prefix_before}
use Rattle.mn_topo.specs.Network.{Network}
use Rattle.mn_topo.specs.Lawful.{IsLawful}
use Rattle.mn_ledger.specs.Places.{vrf_at}
use Rattle.mn_ledger.specs.World.{Export, Telling, Open, BgpKeepAlive, Announcement, Withdrawal}
use Rattle.mn_ledger.specs.Bgp.{is_for}
use Rattle.mn_ledger.specs.Held.{believed_after, believed_from}
use Rattle.mn_ledger.proofs.Members.{In, in_append, in_front, in_rest, in_filter, filter_in}
use Rattle.mn_ledger.proofs.Peers.{same_numbers, same_test, and_left, and_right}
use Rattle.mn_ledger.proofs.Held.{one_vrf}
use Rattle.mn_base.proofs.Orders.{first_same, first_neither}
use Rattle.mn_rib_in.specs.Heard.{Heard, heard_before, place_of}
use Rattle.mn_bgp_spelling_laws.specs.Spelling.{Labels, as_targets}
use Rattle.mn_routing_laws.specs.Standing.{says_of, heard_if}
use Rattle.mn_base.proofs.Kept.{with_in, in_with_new, in_with}
use Rattle.mn_routing_laws.proofs.Removing.{two_prefixes, same_place}
use Rattle.mn_base.proofs.Bools.{no}

-- a route as it is kept
abbrev pub heard_route : Network → Labels → Export → Heard
heard_route t l x = record { rd = (vrf_at t x.vrf).rd; prefix = x.prefix; label = l x.site x.attachment; targets = as_targets x.targets }

-- the VRFs that are named are there
abbrev pub NamesVrf : Network → Telling → Type 0
NamesVrf t (Announcement x) = x.vrf < length t.vrfs
NamesVrf t (Withdrawal v p) = v < length t.vrfs
NamesVrf t _ = ⊤

pub record KeepsBelieved (t : Network) (l : Labels) (es : List Export) (hs : List Heard) : Type 0 where
  pub named : (x : Export) → In es x → x.vrf < length t.vrfs
  pub there : (x : Export) → In es x → In hs (heard_route t l x)
  pub only : (h : Heard) → In hs h → (x : Export) × In es x × (heard_route t l x ≡ h)

module _ (t : Network) (l : Labels) (lawful : IsLawful t) where
  -- one place is one VRF and prefix
  place_is : (v : ℕ) (p : AddressBlock) (y : Export) → v < length t.vrfs → y.vrf < length t.vrfs
      → (heard_before (heard_route t l y) (place_of (vrf_at t v).rd p) || heard_before (place_of (vrf_at t v).rd p) (heard_route t l y)) ≡ not (is_for v p y)
  place_is v p y below there = by_test (is_for v p y) refl
    where
      rd : ℕ → ℕ
      rd u = (vrf_at t u).rd.0

      same_keys : v ≡ y.vrf → p ≡ y.prefix → (heard_before (heard_route t l y) (place_of (vrf_at t v).rd p) || heard_before (place_of (vrf_at t v).rd p)
          (heard_route t l y)) ≡ false
      same_keys e f =
          ap (λ b. b || heard_before (place_of (vrf_at t v).rd p) (heard_route t l y)) (first_same (rd y.vrf) (rd v) _ (ap rd (sym e)))
          ∙ ap (λ b. prefix_before y.prefix p || b) (first_same (rd v) (rd y.vrf) _ (ap rd e))
          ∙ ap (λ q. prefix_before y.prefix q || prefix_before q y.prefix) f ∙ same_place y.prefix

      apart : is_for v p y ≡ false → (b : Bool) → (heard_before (heard_route t l y) (place_of (vrf_at t v).rd p) || heard_before (place_of (vrf_at t v).rd p)
          (heard_route t l y)) ≡ b → b ≡ true
      apart h true e = refl
      apart h false e =
          let n = first_neither (rd y.vrf) (rd v) (prefix_before y.prefix p) (prefix_before p y.prefix) e in
          let vrf : y.vrf ≡ v = one_vrf t lawful y.vrf v there below n.0 in
          elim (two_prefixes p y.prefix) [
            | inl q ↦ absurd (no (sym h ∙ ap (λ u. (v == u) && same_prefix p y.prefix) vrf ∙ ap (λ b. b && same_prefix p y.prefix) (same_test v) ∙ q.1))
            | inr q ↦ absurd (no (sym (turn (prefix_before y.prefix p) (prefix_before p y.prefix) n.1) ∙ q.1))
          ]
        where
          turn : (a b : Bool) → (a || b) ≡ false → (b || a) ≡ false
          turn true b h = absurd (no (sym h))
          turn false true h = absurd (no (sym h))
          turn false false h = refl

      by_test : (b : Bool) → is_for v p y ≡ b → (heard_before (heard_route t l y) (place_of (vrf_at t v).rd p) || heard_before (place_of (vrf_at t v).rd p)
          (heard_route t l y)) ≡ not b
      by_test true h = same_keys (same_numbers v y.vrf (and_left _ _ h))
          (elim (two_prefixes p y.prefix) [ inl q ↦ q.0 | inr q ↦ absurd (no (sym q.0 ∙ and_right (v == y.vrf) _ h)) ])
      by_test false h = apart h _ refl

  not_for : (v : ℕ) (p : AddressBlock) (y : Export) (b : Bool) → b ≡ not (is_for v p y) → b ≡ true → not (is_for v p y) ≡ true
  not_for v p y b e h = sym e ∙ h

  announced : (es : List Export) (hs : List Heard) (x : Export) → x.vrf < length t.vrfs → KeepsBelieved t l es hs →
      KeepsBelieved t l (believed_after es (Announcement x)) (heard_if hs (says_of t l 0 (Announcement x)))
  announced es hs x below k = record {
    named = λ y i. elim (in_append (filter (λ other. not (is_for x.vrf x.prefix other)) es) (x ∷ []) y i) [
      | inl j ↦ k.named y (in_filter (λ other. not (is_for x.vrf x.prefix other)) es y j).0
      | inr j ↦ elim j [ inl e ↦ subst (λ (z : Export). z.vrf < length t.vrfs) e below | inr n ↦ absurd n ]
    ];
    there = λ y i. elim (in_append (filter (λ other. not (is_for x.vrf x.prefix other)) es) (x ∷ []) y i) [
      | inl j ↦
          let m = in_filter (λ other. not (is_for x.vrf x.prefix other)) es y j in
          in_with heard_before (heard_route t l x) hs (heard_route t l y) (k.there y m.0) (place_is x.vrf x.prefix y below (k.named y m.0) ∙ m.1)
      | inr j ↦ elim j [
        | inl e ↦ subst (λ (z : Export). In (heard_if hs (says_of t l 0 (Announcement x))) (heard_route t l z)) e
            (in_with_new heard_before (heard_route t l x) hs)
        | inr n ↦ absurd n
      ]
    ];
    only = λ h i. elim (with_in heard_before (heard_route t l x) hs h i) [
      | inl e ↦ (x, in_rest (filter (λ other. not (is_for x.vrf x.prefix other)) es) (x ∷ []) x (inl refl), e)
      | inr j ↦
          let o = k.only h j.0 in
          let kept : not (is_for x.vrf x.prefix o.0) ≡ true = sym (place_is x.vrf x.prefix o.0 below (k.named o.0 o.1))
          ∙ ap (λ (z : Heard). heard_before z (place_of (vrf_at t x.vrf).rd x.prefix) || heard_before (place_of (vrf_at t x.vrf).rd x.prefix) z) o.2
          ∙ j.1 in (
            o.0,
            in_front (filter (λ other. not (is_for x.vrf x.prefix other)) es) (x ∷ []) o.0
                (filter_in (λ other. not (is_for x.vrf x.prefix other)) es o.0 o.1 kept),
            o.2,
          )
    ];
  }

  withdrawn : (es : List Export) (hs : List Heard) (v : ℕ) (p : AddressBlock) → v < length t.vrfs → KeepsBelieved t l es hs →
      KeepsBelieved t l (believed_after es (Withdrawal v p)) (heard_if hs (says_of t l 0 (Withdrawal v p)))
  withdrawn es hs v p below k = record {
    named = λ y i. k.named y (in_filter (λ other. not (is_for v p other)) es y i).0;
    there = λ y i.
        let m = in_filter (λ other. not (is_for v p other)) es y i in
        filter_in (λ z. heard_before z (place_of (vrf_at t v).rd p) || heard_before (place_of (vrf_at t v).rd p) z) hs (heard_route t l y) (k.there y m.0)
        (place_is v p y below (k.named y m.0) ∙ m.1);
    only = λ h i.
        let j = in_filter (λ z. heard_before z (place_of (vrf_at t v).rd p) || heard_before (place_of (vrf_at t v).rd p) z) hs h i in
        let o = k.only h j.0 in
        let kept : not (is_for v p o.0) ≡ true = sym (place_is v p o.0 below (k.named o.0 o.1))
        ∙ ap (λ (z : Heard). heard_before z (place_of (vrf_at t v).rd p) || heard_before (place_of (vrf_at t v).rd p) z) o.2 ∙ j.1 in
        (o.0, filter_in (λ other. not (is_for v p other)) es o.0 o.1 kept, o.2);
  }

  pub keeps_from : (q : ℕ) (es : List Export) (hs : List Heard) (ms : List Telling) → ((m : Telling) → In ms m → NamesVrf t m) → KeepsBelieved t l es hs
      → KeepsBelieved t l (believed_from es ms) (fold (λ heard telling. heard_if heard (says_of t l q telling)) hs ms)
  keeps_from q es hs [] named k = k
  keeps_from q es hs (Announcement x ∷ ms) named k = keeps_from q (believed_after es (Announcement x)) (heard_if hs (says_of t l q (Announcement x))) ms
      (λ m i. named m (inr i)) (announced es hs x (named (Announcement x) (inl refl)) k)
  keeps_from q es hs (Withdrawal v p ∷ ms) named k = keeps_from q (believed_after es (Withdrawal v p)) (heard_if hs (says_of t l q (Withdrawal v p))) ms
      (λ m i. named m (inr i)) (withdrawn es hs v p (named (Withdrawal v p) (inl refl)) k)
  keeps_from q es hs (Open ∷ ms) named k = keeps_from q es hs ms (λ m i. named m (inr i)) k
  keeps_from q es hs (BgpKeepAlive ∷ ms) named k = keeps_from q es hs ms (λ m i. named m (inr i)) k
