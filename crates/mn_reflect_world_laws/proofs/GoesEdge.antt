-- A step of an edge: it alone has news.
use Rattle.std.proofs.Common.{ℕ, ◌≡◌, ◌≢◌, ◌+◌, ◌<◌, ◌≤◌, ◌⊎◌, inl, inr, Bool, true, false, cond, List, [], ◌∷◌, ◌++◌, map, filter, length, Some, None, Option}
use Rattle.std.proofs.Common.{refl, arith, sym, ◌∙◌, ap, subst}
use Rattle.std.specs.Prelude.{◌==◌, ◌&&◌, ◌||◌, not, nat_lt, nat_le, if◌then◌else◌, slice_index_or, is_some}
use Rattle.std.specs.List.{flat_map, range_with_len}
use Rattle.mn_base.specs.declared.numbers.NodeNo.{NodeNo}
use Rattle.mn_base.specs.declared.numbers.Rt.{Rt}
use Rattle.mn_base.specs.declared.numbers.VrfNo.{VrfNo}
use Rattle.mn_base.proofs.Bools.{no, two_ways, same_test, same_numbers, less_is, less_tells}
use Rattle.mn_base.proofs.Members.{In, AreApart, in_filter, filter_in, in_range}
use Rattle.mn_wiring.specs.Wiring.{nodes_of}
use Rattle.mn_topo.specs.Network.{Network, wiring_of}
use Rattle.mn_topo.specs.Lawful.{IsLawful}
use Rattle.mn_topo.specs.declared.steps.Step.{Step}
use Rattle.mn_topo.specs.declared.steps.Step.TheVariants as step
use Rattle.mn_ledger.specs.Places.{loopback}
use Rattle.mn_ledger.specs.World.{SiteRoute, Config, Export, Announcement, Withdrawal}
use Rattle.mn_ledger.specs.Exports.{export_of, exports_of, has_target}
use Rattle.mn_ledger.specs.Bgp.{peers_live, state_heard, changed}
use Rattle.mn_ledger.specs.Ledger.{with_target, config_after}
use Rattle.mn_ledger.specs.Refusal.{agree}
use Rattle.mn_ledger.proofs.Statics.{HasStatics}
use Rattle.mn_ledger.proofs.OneKind.{AreSome, from_exports, to_exports}
use Rattle.mn_ledger.proofs.GoingBy.{put_here}
use Rattle.mn_settled_laws.proofs.Changes.{exports-different, exports-kept}
use Rattle.mn_bgp_spelling_laws.specs.Spelling.{Labels}
use Rattle.mn_routing_laws.specs.Sending.{peers_from}
use Rattle.mn_routing_laws.specs.Touched.{touches}
use Rattle.mn_routing_laws.proofs.Present.{exported}
use Rattle.mn_mail.specs.Mail.{Letter}
use Rattle.mn_reflect_ledger_laws.specs.Words.{Key, Offer, Word, Open, KeepAlive, Announce, Withdraw, last_mention}
use Rattle.mn_reflect_ledger_laws.specs.Picks.{Spoken, ReflectWorld, announced_by, is_reflector, is_established}
use Rattle.mn_reflect_ledger_laws.specs.World.{news}
use Rattle.mn_reflect_ledger_laws.proofs.Saying.{flat_one}
use Rattle.mn_reflect_world_laws.specs.Labels.{labels_after}
use Rattle.mn_reflect_world_laws.specs.Spelling.{offer_bytes, word_bytes, letter_in, letters_in}
use Rattle.mn_reflect_world_laws.specs.Now.{session_in, sessions_in}
use Rattle.mn_reflect_world_laws.specs.Letters.{edge_news}
use Rattle.mn_reflect_world_laws.specs.Goes.{steady_of}
use Rattle.mn_reflect_world_laws.proofs.Given.{label_stays}
use Rattle.mn_reflect_world_laws.proofs.Config.{IsInOrder, made_export}
use Rattle.mn_reflect_world_laws.proofs.Said.{IsGood}
use Rattle.mn_reflect_world_laws.proofs.Changes.{map_flat, flat_same_in}
use Rattle.mn_reflect_world_laws.proofs.Rows.{table_same}
use Rattle.mn_reflect_world_laws.proofs.EdgeNews.{AreExports}
use Rattle.mn_reflect_world_laws.proofs.EdgeLetters.{exports_up, comes_news, goes_news, nothing_told}
use Rattle.mn_reflect_world_laws.proofs.Same.{reflector_same, quiet_news}

-- 1. Letters of what was sent stay, since labels that were given do

abbrev with_label : Network → List ℕ → Spoken → Offer → ℕ → Letter
with_label t reflectors x y n = record {
  from = x.from;
  to = x.to;
  bytes = offer_bytes t reflectors (λ site k. n) x.from y;
}

same_letter : (t : Network) (reflectors : List ℕ) (c : Config) (l : Labels) (s : Step) (x : Spoken) → IsGood t c x.word →
    letter_in t reflectors (labels_after t c l s) x ≡ letter_in t reflectors l x
same_letter t reflectors c l s x h = by x.word h
  where
    label : (s : Step) (site k : ℕ) → k ≤ c.attaches site + 1 → labels_after t c l s site k ≡ l site k
    label (step.Attach a) site k g = label_stays t c l a site k g
    label _ site k g = refl

    by : (v : Word) → IsGood t c v →
        (let r : Letter = record { from = x.from; to = x.to; bytes = word_bytes t reflectors (labels_after t c l s) x.from v } in r)
        ≡ record { from = x.from; to = x.to; bytes = word_bytes t reflectors l x.from v }
    by Open g = refl
    by KeepAlive g = refl
    by (Withdraw k) g = refl
    by (Announce y) g = ap (with_label t reflectors x y) (label s y.export.site y.export.attachment g.attachment.given)

pub same_letters : (t : Network) (reflectors : List ℕ) (c : Config) (l : Labels) (s : Step) (xs : List Spoken) → ((x : Spoken) → In xs x → IsGood t c x.word) →
    letters_in t reflectors (labels_after t c l s) xs ≡ letters_in t reflectors l xs
same_letters t reflectors c l s [] h = refl
same_letters t reflectors c l s (x ∷ xs) h =
    ap (λ r. r ∷ letters_in t reflectors (labels_after t c l s) xs) (same_letter t reflectors c l s x (h x (inl refl)))
    ∙ ap (λ rs. letter_in t reflectors l x ∷ rs) (same_letters t reflectors c l s xs (λ y i. h y (inr i)))

-- 2. One edge alone has news

module _ (t : Network) (reflectors : List ℕ) (m l : Labels) (w u : ReflectWorld) (lawful : IsLawful t) (heard : u.heard ≡ w.heard)
    (on : u.config.bgp_on ≡ w.config.bgp_on) (was : IsInOrder t w.config l) (is : IsInOrder t u.config m) (all : List SiteRoute) (has : HasStatics t all)
    (old_in : (x : SiteRoute) → In w.config.statics x → In all x) (new_in : (x : SiteRoute) → In u.config.statics x → In all x) where
  live_same : (n p : ℕ) → peers_live w.config n p ≡ peers_live u.config n p
  live_same n p = ap (λ (f : ℕ → ℕ → Bool). if nat_lt n p then f n p else f p n) (sym on)

  heard_same : (n p : ℕ) (k : Key) → announced_by w n p k ≡ announced_by u n p k
  heard_same n p k =
      ap (λ b. if b then last_mention k None (w.heard n p) else None) (live_same n p)
      ∙ ap (λ (h : ℕ → ℕ → List Word). if peers_live u.config n p then last_mention k None (h n p) else None) (sym heard)

  settled_same : (n p : ℕ) → is_established u n p ≡ true → is_established w n p ≡ true
  settled_same n p h =
      ap (λ b. b && nat_le 2 (length (w.heard n p))) (live_same n p)
      ∙ ap (λ (f : ℕ → ℕ → List Word). peers_live u.config n p && nat_le 2 (length (f n p))) (sym heard) ∙ h

  pub sessions_same : sessions_in t u ≡ sessions_in t w
  sessions_same = table_same (length t.loopbacks) (session_in t u) (session_in t w) (λ n p.
      ap (λ b. if b then Some (record {
        asn = t.asn;
        me = loopback t n;
        peer = loopback t p;
        state = state_heard (length (u.heard n p));
      }) else None) (sym (live_same n p))
      ∙ ap (λ (f : ℕ → ℕ → List Word). if peers_live w.config n p then Some (record {
        asn = t.asn;
        me = loopback t n;
        peer = loopback t p;
        state = state_heard (length (f n p));
      }) else None) heard)

  are_exports : (n : ℕ) → AreExports (exports_of t w.config n) (exports_of t u.config n)
  are_exports n = record {
    old_up = exports_up t w.config l n lawful was;
    new_up = exports_up t u.config m n lawful is;
    old_one = λ x y i j h. exports-different t w.config n was.statics x y i j (ap (λ (k : Key). k.vrf) h, ap (λ (k : Key). k.prefix) h);
    new_one = λ x y i j h. exports-different t u.config n is.statics x y i j (ap (λ (k : Key). k.vrf) h, ap (λ (k : Key). k.prefix) h);
    kept = λ y x i j h. exports-kept t all w.config u.config n has new_in old_in y x i j h;
  }

  module _ (home : ℕ) (below : home < length t.loopbacks) (told : (n : ℕ) → n ≢ home → changed (exports_of t w.config n) (exports_of t u.config n) ≡ []) where
    others_quiet : (n : ℕ) → n < length t.loopbacks → n ≢ home → letters_in t reflectors m (news t reflectors w u n) ≡ []
    others_quiet n n_below d = by (is_reflector reflectors n) refl
      where
        by : (b : Bool) → is_reflector reflectors n ≡ b → letters_in t reflectors m (news t reflectors w u n) ≡ []
        by true e = ap (letters_in t reflectors m)
            (quiet_news t reflectors w u n (λ p k. reflector_same t reflectors w u n k (λ q. heard_same n q k) e p))
        by false e = nothing_told t reflectors m w u n e n_below (settled_same n) (are_exports n) (told n d)

    pub home_news : letters_in t reflectors m (flat_map (news t reflectors w u) (nodes_of (wiring_of t)))
        ≡ letters_in t reflectors m (news t reflectors w u home)
    home_news =
        map_flat (letter_in t reflectors m) (news t reflectors w u) (nodes_of (wiring_of t))
        ∙ only_home (λ n. letters_in t reflectors m (news t reflectors w u n)) (length t.loopbacks) below others_quiet
      where
        only_home : (f : ℕ → List Letter) (size : ℕ) → home < size → ((n : ℕ) → n < size → n ≢ home → f n ≡ []) →
            flat_map f (range_with_len 0 size) ≡ f home
        only_home f size h quiet =
            same_in 0 size (λ n a b. past n b)
            ∙ flat_one (λ n. cond (nat_lt n size) (f n) []) home 0 size (omega arith) (omega (arith, h)) (λ n d. quiet_or n d (two_ways (nat_lt n size)))
            ∙ ap (λ b. cond b (f home) []) (less_is home size h)
          where
            past : (n : ℕ) → n < 0 + size → f n ≡ cond (nat_lt n size) (f n) []
            past n g = sym (ap (λ b. cond b (f n) []) (less_is n size (omega (arith, g))))

            same_in : (from count : ℕ) → ((n : ℕ) → from ≤ n → n < from + count → f n ≡ cond (nat_lt n size) (f n) []) →
                flat_map f (range_with_len from count) ≡ flat_map (λ n. cond (nat_lt n size) (f n) []) (range_with_len from count)
            same_in from count g = flat_same_in f (λ n. cond (nat_lt n size) (f n) []) (range_with_len from count)
                (λ n i. let r = in_range from count n i in g n r.0 r.1)

            quiet_or : (n : ℕ) → n ≢ home → (nat_lt n size ≡ true) ⊎ (nat_lt n size ≡ false) → cond (nat_lt n size) (f n) [] ≡ []
            quiet_or n d (inl e) = ap (λ b. cond b (f n) []) e ∙ quiet n (less_tells n size e) d
            quiet_or n d (inr e) = ap (λ b. cond b (f n) []) e

    module _ (edge_is : is_reflector reflectors home ≡ false) where
      abbrev steady : List NodeNo
      steady = steady_of (sessions_in t w) home

      pub home_comes : (q : Export → Bool) → changed (exports_of t w.config home) (exports_of t u.config home)
          ≡ map (λ export. Announcement export) (filter q (exports_of t u.config home)) →
          letters_in t reflectors m (flat_map (news t reflectors w u) (nodes_of (wiring_of t)))
          ≡ edge_news t home steady true (map (exported t m) (filter q (exports_of t u.config home)))
      home_comes q h =
          home_news
          ∙ comes_news t reflectors m w u home edge_is below (settled_same home) (are_exports home) q h (λ y i. (made_export t u.config m home y is i).1)
          ∙ ap (λ ss. edge_news t home (peers_from 0 (slice_index_or ss home [])) true (map (exported t m) (filter q (exports_of t u.config home))))
          sessions_same

      pub home_goes : (q : Export → Bool) → changed (exports_of t w.config home) (exports_of t u.config home)
          ≡ map (λ (export : Export). Withdrawal export.vrf export.prefix) (filter q (exports_of t w.config home)) →
          letters_in t reflectors m (flat_map (news t reflectors w u) (nodes_of (wiring_of t)))
          ≡ edge_news t home steady false (map (exported t m) (filter q (exports_of t w.config home)))
      home_goes q h =
          home_news
          ∙ goes_news t reflectors m w u home edge_is below (settled_same home) (are_exports home) q h
          ∙ ap (λ ss. edge_news t home (peers_from 0 (slice_index_or ss home [])) false (map (exported t m) (filter q (exports_of t w.config home))))
          sessions_same

-- 3. Sets of targets that change

has_new : (x : ℕ) (xs : List ℕ) → has_target (with_target x true xs) x ≡ true
has_new x [] = ap (λ b. b || false) (same_test x)
has_new x (y ∷ ys) = split (nat_lt x y) (has_new x ys)
  where
    split : (b : Bool) → has_target (with_target x true ys) x ≡ true → has_target (cond b (x ∷ y ∷ ys) (y ∷ with_target x true ys)) x ≡ true
    split true h = ap (λ b. b || ((y == x) || has_target ys x)) (same_test x)
    split false h = ap (λ b. (y == x) || b) h ∙ or_on (y == x)
      where
        or_on : (b : Bool) → (b || true) ≡ true
        or_on true = refl
        or_on false = refl

has_no_more : (x : ℕ) (xs : List ℕ) → has_target (with_target x false xs) x ≡ false
has_no_more x [] = refl
has_no_more x (y ∷ ys) = split (x == y) refl (has_no_more x ys)
  where
    split : (b : Bool) → (x == y) ≡ b → has_target (with_target x false ys) x ≡ false →
        has_target (cond (not b) (y ∷ with_target x false ys) (with_target x false ys)) x ≡ false
    split true e h = h
    split false e h = ap (λ b. b || has_target (with_target x false ys) x) (turned e) ∙ h
      where
        turned : (x == y) ≡ false → (y == x) ≡ false
        turned e = elim (two_ways (y == x)) [ inr f ↦ f | inl f ↦ absurd (no (sym e ∙ ap (λ z. x == z) (same_numbers y x f) ∙ same_test x)) ]

pub set_differs : (x : ℕ) (on : Bool) (xs : List ℕ) → agree on (has_target xs x) ≡ false → with_target x on xs ≢ xs
set_differs x true xs h e = no (sym h ∙ ap (λ ys. has_target ys x) (sym e) ∙ has_new x xs)
set_differs x false xs h e = no (sym h ∙ ap not (ap (λ ys. has_target ys x) (sym e) ∙ has_no_more x xs))

-- the last of a list without two alike is unlike each other
pub last_apart : {A : Type 0} (alike : A → A → Type 0) (xs : List A) (x y : A) → AreApart alike (xs ++ y ∷ []) → In xs x → alike x y → ⊥
last_apart alike [] x y h i a = absurd i
last_apart alike (z ∷ zs) x y h i a = elim i [
  | inl e ↦ h.0 y (in_end zs y) (subst (λ w. alike w y) (sym e) a)
  | inr j ↦ last_apart alike zs x y h.1 j a
]
  where
    in_end : {A : Type 0} (zs : List A) (y : A) → In (zs ++ y ∷ []) y
    in_end [] y = inl refl
    in_end (w ∷ ws) y = inr (in_end ws y)

pub not_attached : (o : Option ℕ) → is_some o ≡ false → o ≡ None
not_attached None h = refl
not_attached (Some k) h = absurd (no (sym h))

-- 4. A VRF that exports with other targets than before

some_behind : (t : Network) (c : Config) (v : VrfNo) (target : Rt) (on : Bool) (edge : ℕ) (x y : ℕ) (more : List ℕ) →
    with_target target.0 on (c.exports v.0) ≡ y ∷ more → (e : Export) → In (exports_of t c edge) e → (e.vrf == v.0) ≡ true →
    (f : Export) × In (exports_of t (config_after c (step.Export v on target)) edge) f × ((f.vrf == v.0) ≡ true)
unfolding AreSome
some_behind t c v target on edge x y more is e i at =
    let b = from_exports t c edge e i in
    let new : Config = config_after c (step.Export v on target) in
    let vrf : b.v ≡ v.0 = ap (λ (z : Export). z.vrf) b.is ∙ same_numbers e.vrf v.0 at in
    let now : new.exports b.v ≡ y ∷ more = ap new.exports vrf ∙ put_here c.exports v.0 (with_target target.0 on (c.exports v.0)) ∙ is in (
      export_of new b.v (new.exports b.v) b.static,
      to_exports t new edge b.v b.static b.at_edge (y, more, now) b.there b.present,
      ap (λ n. n == v.0) vrf ∙ same_test v.0,
    )

nothing_in : {A : Type 0} (xs : List A) → ((x : A) → In xs x → ⊥) → xs ≡ []
nothing_in [] h = refl
nothing_in (x ∷ xs) h = absurd (h x (inl refl))

pub none_before : (t : Network) (c : Config) (v : VrfNo) (target : Rt) (on : Bool) (edge y : ℕ) (more : List ℕ) →
    with_target target.0 on (c.exports v.0) ≡ y ∷ more →
    filter (touches t (step.Export v on target)) (exports_of t (config_after c (step.Export v on target)) edge) ≡ [] →
    filter (touches t (step.Export v on target)) (exports_of t c edge) ≡ []
none_before t c v target on edge y more is none = nothing_in (filter (touches t (step.Export v on target)) (exports_of t c edge)) (λ e i.
    let f = in_filter (touches t (step.Export v on target)) (exports_of t c edge) e i in
    let g = some_behind t c v target on edge 0 y more is e f.0 f.1 in
    subst (λ zs. In zs g.0) none
    (filter_in (touches t (step.Export v on target)) (exports_of t (config_after c (step.Export v on target)) edge) g.0 g.1 g.2))
