-- What a step of an edge makes it say, as letters.
use Rattle.std.proofs.Common.{ℕ, ◌≡◌, ◌<◌, inl, inr, Bool, true, false, cond, List, [], ◌∷◌, ◌++◌, map, filter, length}
use Rattle.std.proofs.Common.{Some, None, Option, refl, sym, ◌∙◌, ap, subst}
use Rattle.std.specs.Prelude.{◌==◌, ◌&&◌, ◌||◌, nat_lt, if◌then◌else◌, slice_index_or, option_map}
use Rattle.std.specs.List.{flat_map, AllByRecursion}
use Rattle.mn_base.specs.declared.numbers.NodeNo.{NodeNo}
use Rattle.mn_base.specs.declared.numbers.Rt.{Rt}
use Rattle.mn_base.specs.Ordered.{Ascends}
use Rattle.mn_base.proofs.Bools.{no, two_ways}
use Rattle.mn_base.proofs.Members.{In, in_map, in_filter, in_flat_map, filter_in}
use Rattle.mn_base.proofs.Orders.{first_same}
use Rattle.mn_base.proofs.Places.{all_turned, all_append}
use Rattle.mn_prefix.specs.Prefix.{prefix_before}
use Rattle.mn_wiring.specs.Wiring.{nodes_of}
use Rattle.mn_topo.specs.Network.{Network, wiring_of}
use Rattle.mn_topo.specs.Lawful.{IsLawful}
use Rattle.mn_ledger.specs.Places.{loopback, edge_of}
use Rattle.mn_ledger.specs.World.{Config, Export, Open, BgpKeepAlive, Announcement, Withdrawal, Peerings}
use Rattle.mn_ledger.specs.Exports.{exports_of}
use Rattle.mn_ledger.specs.Bgp.{changed}
use Rattle.mn_ledger.proofs.Turning.{loopbacks_apart}
use Rattle.mn_settled_laws.proofs.Changes.{exports-different}
use Rattle.mn_bgp_wire.specs.Written.{update_bytes, announced as announced_in}
use Rattle.mn_bgp_reflected.specs.Written.{reflected}
use Rattle.mn_bgp_spelling_laws.specs.Spelling.{Labels, as_targets, route_of}
use Rattle.mn_vrf.specs.Vrf.{Static, VrfState, static_before}
use Rattle.mn_pe.specs.Edge.{Edge}
use Rattle.mn_pe.specs.Held.{Exported, site_label, export_at}
use Rattle.mn_pe.specs.Held as held
use Rattle.mn_pe.proofs.Present.{export_before, present_ascends}
use Rattle.mn_routing_laws.specs.Standing.{edge_in}
use Rattle.mn_routing_laws.specs.Sending.{is_steady as end_steady, peers_from}
use Rattle.mn_routing_laws.proofs.KeptOrder.{kept_in as kept_order}
use Rattle.mn_routing_laws.proofs.Exports.{exports_same}
use Rattle.mn_routing_laws.proofs.Present.{exported}
use Rattle.mn_mail.specs.Mail.{Letter}
use Rattle.mn_reflect_ledger_laws.specs.Words.{Key, Word, Announce, Withdraw, key_of, key_before, keys_in, in_order, change}
use Rattle.mn_reflect_ledger_laws.specs.Picks.{ReflectWorld, is_reflector, is_established, plain, own_offer, offered, known_keys, through, to_reflect}
use Rattle.mn_reflect_ledger_laws.specs.World.{says, is_steady, news_of, news, all_offers}
use Rattle.mn_reflect_ledger_laws.proofs.Saying.{flat_same, flat_none}
use Rattle.mn_reflect_world_laws.specs.Spelling.{hop_of, letter_in, letters_in}
use Rattle.mn_reflect_world_laws.specs.Now.{session_in, sessions_in}
use Rattle.mn_reflect_world_laws.specs.Letters.{export_letter, edge_news}
use Rattle.mn_reflect_world_laws.proofs.InOrder.{in_order_is}
use Rattle.mn_reflect_world_laws.proofs.Config.{IsInOrder, made_export}
use Rattle.mn_reflect_world_laws.proofs.Changes.{map_flat, flat_same_in, steady_is, still_steady, to_steady}
use Rattle.mn_reflect_world_laws.proofs.Rows.{table_row}
use Rattle.mn_reflect_world_laws.proofs.EdgeNews.{key, AreExports, anew, gone, told, comes_told, goes_told, find_one, flat_map_keys}

-- 1. Exports stand by VRF, and then by prefix

abbrev of_exported : Exported → Key
of_exported x = record { vrf = x.vrf; prefix = x.prefix }

all_of_vrf : (v : ℕ) (x : Exported) → x.vrf ≡ v → (xs : List Exported) → ((y : Exported) → In xs y → y.vrf ≡ v) →
    AllByRecursion (λ y. export_before x y ≡ true) xs → AllByRecursion (λ k. key_before (of_exported x) k ≡ true) (map of_exported xs)
all_of_vrf v x e [] f h = tt
all_of_vrf v x e (y ∷ ys) f h = (
  first_same x.vrf y.vrf (prefix_before x.prefix y.prefix) (e ∙ sym (f y (inl refl))) ∙ h.0,
  all_of_vrf v x e ys (λ z i. f z (inr i)) h.1,
)

one_vrf_up : (v : ℕ) (xs : List Exported) → ((y : Exported) → In xs y → y.vrf ≡ v) → Ascends export_before xs → Ascends key_before (map of_exported xs)
one_vrf_up v [] f up = tt
one_vrf_up v (x ∷ xs) f up = (all_of_vrf v x (f x (inl refl)) xs (λ z i. f z (inr i)) up.0, one_vrf_up v xs (λ z i. f z (inr i)) up.1)

at_vrf : (vrf : VrfState) (targets : List Rt) (static : Static) (o : Option ℕ) (x : Exported) → In (export_at vrf targets static o) x → x.vrf ≡ vrf.number
at_vrf vrf targets static None x i = absurd i
at_vrf vrf targets static (Some label) x i = elim i [ inl e ↦ ap (λ (y : Exported). y.vrf) (sym e) | inr j ↦ absurd j ]

of_vrf : (edge : Edge) (vrf : VrfState) (targets : List Rt) (x : Exported) → In (held.exports_with edge vrf targets) x → x.vrf ≡ vrf.number
of_vrf edge vrf [] x i = absurd i
of_vrf edge vrf (r ∷ targets) x i =
    let f = in_flat_map (λ static. export_at vrf (r ∷ targets) static (site_label edge static.site)) vrf.statics x i in
    at_vrf vrf (r ∷ targets) f.0 (site_label edge f.0.site) x f.2

with_up : (edge : Edge) (vrf : VrfState) (targets : List Rt) → Ascends static_before vrf.statics → Ascends export_before (held.exports_with edge vrf targets)
with_up edge vrf [] up = tt
with_up edge vrf (r ∷ targets) up = present_ascends edge vrf (r ∷ targets) vrf.statics up

map_more : {A B : Type 0} (f : A → B) (xs ys : List A) → map f (xs ++ ys) ≡ map f xs ++ map f ys
map_more f [] ys = refl
map_more f (x ∷ xs) ys = ap (λ zs. f x ∷ zs) (map_more f xs ys)

-- all of later VRFs come after
all_later : (edge : Edge) (x : Exported) (vrfs : List VrfState) → AllByRecursion (λ (u : VrfState). nat_lt x.vrf u.number ≡ true) vrfs →
    AllByRecursion (λ k. key_before (of_exported x) k ≡ true) (map of_exported (flat_map (λ (u : VrfState). held.exports_with edge u u.exports) vrfs))
all_later edge x [] h = tt
all_later edge x (u ∷ vrfs) h =
    subst (AllByRecursion (λ k. key_before (of_exported x) k ≡ true))
    (sym (map_more of_exported (held.exports_with edge u u.exports) (flat_map (λ (z : VrfState). held.exports_with edge z z.exports) vrfs)))
    (all_append (λ k. key_before (of_exported x) k ≡ true) (map of_exported (held.exports_with edge u u.exports))
    (map of_exported (flat_map (λ (z : VrfState). held.exports_with edge z z.exports) vrfs))
    (each (held.exports_with edge u u.exports) (λ y i. of_vrf edge u u.exports y i)) (all_later edge x vrfs h.1))
  where
    each : (ys : List Exported) → ((y : Exported) → In ys y → y.vrf ≡ u.number) → AllByRecursion (λ k. key_before (of_exported x) k ≡ true) (map of_exported ys)
    each [] f = tt
    each (y ∷ ys) f = (
      ap (λ b. b || ((x.vrf == y.vrf) && prefix_before x.prefix y.prefix)) (subst (λ n. nat_lt x.vrf n ≡ true) (sym (f y (inl refl))) h.0),
      each ys (λ z i. f z (inr i)),
    )

append_up : (xs ys : List Key) → Ascends key_before xs → Ascends key_before ys → ((x : Key) → In xs x → AllByRecursion (λ k. key_before x k ≡ true) ys) →
    Ascends key_before (xs ++ ys)
append_up [] ys up vp h = vp
append_up (x ∷ xs) ys up vp h = (all_append (λ k. key_before x k ≡ true) xs ys up.0 (h x (inl refl)), append_up xs ys up.1 vp (λ z i. h z (inr i)))

vrfs_up : (edge : Edge) (vrfs : List VrfState) → Ascends (λ (u v : VrfState). nat_lt u.number v.number) vrfs →
    ((vrf : VrfState) → In vrfs vrf → Ascends static_before vrf.statics) →
    Ascends key_before (map of_exported (flat_map (λ (u : VrfState). held.exports_with edge u u.exports) vrfs))
vrfs_up edge [] up f = tt
vrfs_up edge (u ∷ vrfs) up f =
    subst (Ascends key_before)
    (sym (map_more of_exported (held.exports_with edge u u.exports) (flat_map (λ (z : VrfState). held.exports_with edge z z.exports) vrfs)))
    (append_up (map of_exported (held.exports_with edge u u.exports))
    (map of_exported (flat_map (λ (z : VrfState). held.exports_with edge z z.exports) vrfs))
    (one_vrf_up u.number (held.exports_with edge u u.exports) (of_vrf edge u u.exports) (with_up edge u u.exports (f u (inl refl))))
    (vrfs_up edge vrfs up.1 (λ v i. f v (inr i)))
    (λ k i. let m = in_map of_exported (held.exports_with edge u u.exports) k i in
    subst (λ z. AllByRecursion (λ q. key_before z q ≡ true) (map of_exported (flat_map (λ (z : VrfState). held.exports_with edge z z.exports) vrfs))) m.2
    (all_later edge m.0 vrfs (all_turned (λ (v : VrfState). nat_lt u.number v.number ≡ true) (λ (v : VrfState). nat_lt m.0.vrf v.number ≡ true)
    (λ v h. subst (λ n. nat_lt n v.number ≡ true) (sym (of_vrf edge u u.exports m.0 m.1)) h) vrfs up.0))))

keys_again : (t : Network) (l : Labels) (xs : List Export) → map of_exported (map (exported t l) xs) ≡ map key xs
keys_again t l [] = refl
keys_again t l (x ∷ xs) = ap (λ ks. key x ∷ ks) (keys_again t l xs)

pub exports_up : (t : Network) (c : Config) (l : Labels) (edge : ℕ) → IsLawful t → IsInOrder t c l → Ascends key_before (map key (exports_of t c edge))
exports_up t c l edge lawful order =
    let p : Peerings = record { told = λ a b. []; heard = λ a b. 0 } in
    let kept = kept_order t l c p edge (loopbacks_apart t lawful) in
    subst (Ascends key_before)
    (ap (map of_exported) (sym (exports_same t l c p edge order.statics order.bounds.sites)) ∙ keys_again t l (exports_of t c edge))
    (vrfs_up (edge_in t l c p edge) (edge_in t l c p edge).vrfs kept.vrfs kept.statics)

-- the letter by which an edge that is no reflector announces an export
announced_letter : (t : Network) (reflectors : List ℕ) (l : Labels) (e p : ℕ) (y : Export) → is_reflector reflectors e ≡ false → edge_of t y.vrf ≡ e →
    letter_in t reflectors l (record { from = e; to = p; word = Announce (plain y) }) ≡ export_letter t e p true (exported t l y)
announced_letter t reflectors l e p y is at =
    ap (λ b. let r : Letter = record {
      from = e;
      to = p;
      bytes = if b then update_bytes (reflected (hop_of t (plain y)) (route_of t l y) (as_targets y.targets)
          (hop_of t (plain y)) []) else update_bytes (announced_in (hop_of t (plain y)) (route_of t l y) (as_targets y.targets));
    } in r) is
    ∙ ap (λ n. let r : Letter = record {
      from = e;
      to = p;
      bytes = update_bytes (announced_in (loopback t n) (route_of t l y) (as_targets y.targets));
    } in r) at

-- 2. What an edge that is no reflector says

module _ (t : Network) (reflectors : List ℕ) (l : Labels) (w u : ReflectWorld) (e : ℕ) (is : is_reflector reflectors e ≡ false) (below : e < length t.loopbacks)
    (settled : (p : ℕ) → is_established u e p ≡ true → is_established w e p ≡ true) where
  abbrev pub peers : List NodeNo
  peers = peers_from 0 (slice_index_or (sessions_in t u) e [])

  -- these words, to each peer
  abbrev pub to_all : List Word → List Letter
  to_all words = flat_map (λ (peer : NodeNo). letters_in t reflectors l (says e peer.0 words)) peers

  none_to_all : to_all [] ≡ []
  none_to_all = flat_none (λ (peer : NodeNo). letters_in t reflectors l (says e peer.0 [])) peers (λ p. refl)

  own_is : (v : ReflectWorld) (p : ℕ) (k : Key) → offered t reflectors v e p k ≡ own_offer t v.config e k
  own_is v p k = ap (λ b. if b then option_map (through t e) (to_reflect t reflectors v e p k) else own_offer t v.config e k) is

  known_is : (v : ReflectWorld) → known_keys t reflectors v e ≡ map key_of (map plain (exports_of t v.config e))
  known_is v = ap (λ b. if b then flat_map (λ p. keys_in (v.heard e p)) (nodes_of (wiring_of t)) else
      map key_of (map plain (exports_of t v.config e))) is

  steady_now : (p : ℕ) → is_steady w u e p ≡ is_established u e p
  steady_now p = still_steady w u e p (settled p)

  one_name : (k : Key) → letters_in t reflectors l (flat_map (news_of t reflectors w u e k) (nodes_of (wiring_of t)))
      ≡ to_all (change k (own_offer t w.config e k) (own_offer t u.config e k))
  one_name k =
      map_flat (letter_in t reflectors l) (news_of t reflectors w u e k) (nodes_of (wiring_of t))
      ∙ flat_same (λ p. letters_in t reflectors l (news_of t reflectors w u e k p))
      (λ p. cond (end_steady (session_in t u e p)) (letters_in t reflectors l (says e p words)) []) (nodes_of (wiring_of t)) (λ p. each p)
      ∙ sym (to_steady (session_in t u e) (λ p. letters_in t reflectors l (says e p words)) 0 (length t.loopbacks))
      ∙ ap (λ ends. flat_map (λ (peer : NodeNo). letters_in t reflectors l (says e peer.0 words)) (peers_from 0 ends))
      (sym (table_row (length t.loopbacks) (session_in t u) e below))
    where
      words : List Word
      words = change k (own_offer t w.config e k) (own_offer t u.config e k)

      each : (p : ℕ) → letters_in t reflectors l (news_of t reflectors w u e k p) ≡ cond (end_steady (session_in t u e p))
          (letters_in t reflectors l (says e p words)) []
      each p = by (is_steady w u e p) (sym (steady_is t u e p ∙ sym (steady_now p)))
        where
          by : (b : Bool) → b ≡ end_steady (session_in t u e p) →
              letters_in t reflectors l (cond b (says e p (change k (offered t reflectors w e p k) (offered t reflectors u e p k))) [])
              ≡ cond (end_steady (session_in t u e p)) (letters_in t reflectors l (says e p words)) []
          by true g =
              ap (λ o. letters_in t reflectors l (says e p (change k o (offered t reflectors u e p k)))) (own_is w p k)
              ∙ ap (λ o. letters_in t reflectors l (says e p (change k (own_offer t w.config e k) o))) (own_is u p k)
              ∙ ap (λ x. cond x (letters_in t reflectors l (says e p words)) []) g
          by false g = ap (λ x. cond x (letters_in t reflectors l (says e p words)) []) g

  module _ (are : AreExports (exports_of t w.config e) (exports_of t u.config e)) where
    abbrev xs : List Export
    xs = exports_of t w.config e

    abbrev ys : List Export
    ys = exports_of t u.config e

    news_told : letters_in t reflectors l (news t reflectors w u e)
        ≡ flat_map (told xs ys are to_all none_to_all) (in_order (map key_of (map plain xs) ++ map key_of (map plain ys)))
    news_told =
        map_flat (letter_in t reflectors l) (λ k. flat_map (news_of t reflectors w u e k) (nodes_of (wiring_of t)))
        (in_order (known_keys t reflectors w e ++ known_keys t reflectors u e))
        ∙ flat_same (λ k. letters_in t reflectors l (flat_map (news_of t reflectors w u e k) (nodes_of (wiring_of t)))) (told xs ys are to_all none_to_all)
        (in_order (known_keys t reflectors w e ++ known_keys t reflectors u e)) one_name
        ∙ ap (λ ks. flat_map (told xs ys are to_all none_to_all) (in_order (ks ++ known_keys t reflectors u e))) (known_is w)
        ∙ ap (λ ks. flat_map (told xs ys are to_all none_to_all) (in_order (map key_of (map plain xs) ++ ks))) (known_is u)

    -- 3. An export that comes or goes

    one_each : {A B : Type 0} (f : A → B) (zs : List A) → flat_map (λ z. f z ∷ []) zs ≡ map f zs
    one_each f [] = refl
    one_each f (z ∷ zs) = ap (λ rest. f z ∷ rest) (one_each f zs)

    comes_letter : (y : Export) → edge_of t y.vrf ≡ e → (p : ℕ) →
        letter_in t reflectors l (record { from = e; to = p; word = Announce (plain y) }) ≡ export_letter t e p true (exported t l y)
    comes_letter y at p = announced_letter t reflectors l e p y is at

    pub comes_letters : (zs : List Export) → ((y : Export) → In zs y → edge_of t y.vrf ≡ e) →
        flat_map (λ y. to_all (Announce (plain y) ∷ [])) zs ≡ edge_news t e peers true (map (exported t l) zs)
    comes_letters [] at = refl
    comes_letters (z ∷ zs) at =
        ap (λ rest. rest ++ flat_map (λ y. to_all (Announce (plain y) ∷ [])) zs)
        (flat_same (λ (peer : NodeNo). letters_in t reflectors l (says e peer.0 (Announce (plain z) ∷ [])))
        (λ (peer : NodeNo). export_letter t e peer.0 true (exported t l z) ∷ []) peers (λ peer. ap (λ r. r ∷ []) (comes_letter z (at z (inl refl)) peer.0))
        ∙ one_each (λ (peer : NodeNo). export_letter t e peer.0 true (exported t l z)) peers)
        ∙ ap (λ rest. map (λ (peer : NodeNo). export_letter t e peer.0 true (exported t l z)) peers ++ rest) (comes_letters zs (λ y i. at y (inr i)))

    pub goes_letters : (zs : List Export) → flat_map (λ x. to_all (Withdraw (key x) ∷ [])) zs ≡ edge_news t e peers false (map (exported t l) zs)
    goes_letters [] = refl
    goes_letters (z ∷ zs) =
        ap (λ rest. rest ++ flat_map (λ x. to_all (Withdraw (key x) ∷ [])) zs)
        (one_each (λ (peer : NodeNo). export_letter t e peer.0 false (exported t l z)) peers)
        ∙ ap (λ rest. map (λ (peer : NodeNo). export_letter t e peer.0 false (exported t l z)) peers ++ rest) (goes_letters zs)

    announcement_is : (x y : Export) → Announcement x ≡ Announcement y → x ≡ y
    announcement_is x y h = cc

    same_announced : (zs vs : List Export) → map (λ export. Announcement export) zs ≡ map (λ export. Announcement export) vs → zs ≡ vs
    same_announced [] [] h = refl
    same_announced [] (v ∷ vs) h = absurd (no (ap (λ ts. elim ts [ [] ↦ false | m ∷ more ↦ true ]) h))
    same_announced (z ∷ zs) [] h = absurd (no (sym (ap (λ ts. elim ts [ [] ↦ false | m ∷ more ↦ true ]) h)))
    same_announced (z ∷ zs) (v ∷ vs) h =
        ap (λ x. x ∷ zs) (announcement_is z v (ap (λ ts. elim ts [ [] ↦ Announcement z | m ∷ more ↦ m ]) h))
        ∙ ap (λ more. v ∷ more) (same_announced zs vs (ap (λ ts. elim ts [ [] ↦ [] | m ∷ more ↦ more ]) h))

    -- withdrawals first: where all is announcements there are none
    no_withdrawals : (gs : List Export) (cs bs : List Export) →
        map (λ (export : Export). Withdrawal export.vrf export.prefix) gs ++ map (λ export. Announcement export) cs ≡ map (λ export. Announcement export) bs →
        gs ≡ []
    no_withdrawals [] cs bs h = refl
    no_withdrawals (g ∷ gs) cs [] h = absurd (no (sym (ap (λ ts. elim ts [ [] ↦ false | m ∷ more ↦ true ]) h)))
    no_withdrawals (g ∷ gs) cs (b ∷ bs) h = absurd (unlike (ap (λ ts. elim ts [ [] ↦ Announcement b | m ∷ more ↦ m ]) h))
      where
        unlike : Withdrawal g.vrf g.prefix ≡ Announcement b → ⊥
        unlike q = cc

    none_left_out : (p : Export → Bool) (zs : List Export) → filter p zs ≡ [] → (z : Export) → In zs z → p z ≡ false
    none_left_out p zs h z i = elim (two_ways (p z)) [ inr g ↦ g | inl g ↦ absurd (subst (λ vs. In vs z) h (filter_in p zs z i g)) ]

    -- where what is told of is announced
    pub comes_news : (q : Export → Bool) → changed xs ys ≡ map (λ export. Announcement export) (filter q ys) →
        ((y : Export) → In ys y → edge_of t y.vrf ≡ e) →
        letters_in t reflectors l (news t reflectors w u e) ≡ edge_news t e peers true (map (exported t l) (filter q ys))
    comes_news q h at =
        news_told ∙ comes_told xs ys are to_all none_to_all (none_left_out (gone ys) xs none)
        ∙ comes_letters (filter (anew xs) ys) (λ y i. at y (in_filter (anew xs) ys y i).0)
        ∙ ap (λ zs. edge_news t e peers true (map (exported t l) zs)) same
      where
        none : filter (gone ys) xs ≡ []
        none = no_withdrawals (filter (gone ys) xs) (filter (anew xs) ys) (filter q ys) h

        same : filter (anew xs) ys ≡ filter q ys
        same = same_announced (filter (anew xs) ys) (filter q ys)
            (sym (ap (λ gs. map (λ (export : Export). Withdrawal export.vrf export.prefix) gs ++ map (λ export. Announcement export) (filter (anew xs) ys))
            none) ∙ h)

    no_announcements : (gs cs bs : List Export) →
        map (λ (export : Export). Withdrawal export.vrf export.prefix) gs ++ map (λ export. Announcement export) cs
        ≡ map (λ (export : Export). Withdrawal export.vrf export.prefix) bs → (cs ≡ []) × (map key gs ≡ map key bs)
    no_announcements [] [] [] h = (refl, refl)
    no_announcements [] [] (b ∷ bs) h = absurd (no (ap (λ ts. elim ts [ [] ↦ false | m ∷ more ↦ true ]) h))
    no_announcements [] (c ∷ cs) [] h = absurd (no (sym (ap (λ ts. elim ts [ [] ↦ false | m ∷ more ↦ true ]) h)))
    no_announcements [] (c ∷ cs) (b ∷ bs) h = absurd (unlike (ap (λ ts. elim ts [ [] ↦ Announcement c | m ∷ more ↦ m ]) h))
      where
        unlike : Announcement c ≡ Withdrawal b.vrf b.prefix → ⊥
        unlike q = cc
    no_announcements (g ∷ gs) cs [] h = absurd (no (sym (ap (λ ts. elim ts [ [] ↦ false | m ∷ more ↦ true ]) h)))
    no_announcements (g ∷ gs) cs (b ∷ bs) h =
        let more = no_announcements gs cs bs (ap (λ ts. elim ts [ [] ↦ [] | m ∷ rest ↦ rest ]) h) in
        (more.0, ap (λ k. k ∷ map key gs) (named (ap (λ ts. elim ts [ [] ↦ Withdrawal g.vrf g.prefix | m ∷ rest ↦ m ]) h)) ∙ ap (λ ks. key b ∷ ks) more.1)
      where
        named : Withdrawal g.vrf g.prefix ≡ Withdrawal b.vrf b.prefix → key g ≡ key b
        named q = ap (λ m. elim m [
          | Withdrawal v p ↦ record { vrf = v; prefix = p }
          | Announcement x ↦ key g
          | Open ↦ key g
          | BgpKeepAlive ↦ key g
        ]) q

    -- of exports of one list those of the same names are the same
    same_of_names : (gs bs : List Export) → ((x : Export) → In gs x → In xs x) → ((x : Export) → In bs x → In xs x) → map key gs ≡ map key bs → gs ≡ bs
    same_of_names [] [] f g h = refl
    same_of_names [] (b ∷ bs) f g h = absurd (no (ap (λ ts. elim ts [ [] ↦ false | m ∷ more ↦ true ]) h))
    same_of_names (x ∷ gs) [] f g h = absurd (no (sym (ap (λ ts. elim ts [ [] ↦ false | m ∷ more ↦ true ]) h)))
    same_of_names (x ∷ gs) (b ∷ bs) f g h =
        ap (λ z. z ∷ gs) (are.old_one x b (f x (inl refl)) (g b (inl refl)) (ap (λ ts. elim ts [ [] ↦ key x | m ∷ more ↦ m ]) h))
        ∙ ap (λ more. b ∷ more) (same_of_names gs bs (λ z i. f z (inr i)) (λ z i. g z (inr i)) (ap (λ ts. elim ts [ [] ↦ [] | m ∷ more ↦ more ]) h))

    -- where it is withdrawn
    pub goes_news : (q : Export → Bool) → changed xs ys ≡ map (λ (export : Export). Withdrawal export.vrf export.prefix) (filter q xs) →
        letters_in t reflectors l (news t reflectors w u e) ≡ edge_news t e peers false (map (exported t l) (filter q xs))
    goes_news q h =
        let parts = no_announcements (filter (gone ys) xs) (filter (anew xs) ys) (filter q xs) h in
        news_told ∙ goes_told xs ys are to_all none_to_all (none_left_out (anew xs) ys parts.0)
        ∙ goes_letters (filter (gone ys) xs)
        ∙ ap (λ zs. edge_news t e peers false (map (exported t l) zs))
        (same_of_names (filter (gone ys) xs) (filter q xs) (λ x i. (in_filter (gone ys) xs x i).0) (λ x i. (in_filter q xs x i).0) parts.1)

    -- and where nothing is told of
    pub nothing_told : changed xs ys ≡ [] → letters_in t reflectors l (news t reflectors w u e) ≡ []
    nothing_told h =
        goes_news (λ x. false) (h ∙ sym (ap (map (λ (export : Export). Withdrawal export.vrf export.prefix)) (none xs)))
        ∙ ap (λ zs. edge_news t e peers false (map (exported t l) zs)) (none xs)
      where
        none : (zs : List Export) → filter (λ (x : Export). false) zs ≡ []
        none [] = refl
        none (z ∷ zs) = none zs

-- 4. All that an edge offers a new peer

module _ (t : Network) (reflectors : List ℕ) (l : Labels) (u : ReflectWorld) (e p : ℕ) (is : is_reflector reflectors e ≡ false) (lawful : IsLawful t)
    (order : IsInOrder t u.config l) where
  abbrev zs : List Export
  zs = exports_of t u.config e

  one_of_name : (x y : Export) → In zs x → In zs y → key x ≡ key y → x ≡ y
  one_of_name x y i j h = exports-different t u.config e order.statics x y i j (ap (λ (k : Key). k.vrf) h, ap (λ (k : Key). k.prefix) h)

  keys_again_here : (vs : List Export) → map key_of (map plain vs) ≡ map key vs
  keys_again_here [] = refl
  keys_again_here (v ∷ vs) = ap (λ ks. key v ∷ ks) (keys_again_here vs)

  known : in_order (known_keys t reflectors u e) ≡ map key zs
  known =
      ap (λ b. in_order (if b then flat_map (λ q. keys_in (u.heard e q)) (nodes_of (wiring_of t)) else map key_of (map plain zs))) is
      ∙ ap in_order (keys_again_here zs)
      ∙ in_order_is (map key zs) (map key zs) (exports_up t u.config l e lawful order) (λ k i. i) (λ k i. i)

  each_offer : (y : Export) → In zs y → change (key y) None (offered t reflectors u e p (key y)) ≡ Announce (plain y) ∷ []
  each_offer y i =
      ap (λ b. change (key y) None (if b then option_map (through t e) (to_reflect t reflectors u e p (key y)) else own_offer t u.config e (key y))) is
      ∙ ap (change (key y) None) (find_one (key y) zs y i refl (λ z j h. one_of_name z y j i h))

  said : all_offers t reflectors u e p ≡ flat_map (λ y. Announce (plain y) ∷ []) zs
  said =
      ap (flat_map (λ k. change k None (offered t reflectors u e p k))) known
      ∙ flat_map_keys (λ k. change k None (offered t reflectors u e p k)) zs
      ∙ flat_same_in (λ y. change (key y) None (offered t reflectors u e p (key y))) (λ y. Announce (plain y) ∷ []) zs each_offer

  letter_of : (y : Export) → In zs y →
      letter_in t reflectors l (record { from = e; to = p; word = Announce (plain y) }) ≡ export_letter t e p true (exported t l y)
  letter_of y i = announced_letter t reflectors l e p y is (made_export t u.config l e y order i).1

  all_letters : (vs : List Export) → ((y : Export) → In vs y → In zs y) →
      letters_in t reflectors l (says e p (flat_map (λ y. Announce (plain y) ∷ []) vs)) ≡ edge_news t e (record { 0 = p } ∷ []) true (map (exported t l) vs)
  all_letters [] h = refl
  all_letters (v ∷ vs) h =
      ap (λ r. r ∷ letters_in t reflectors l (says e p (flat_map (λ y. Announce (plain y) ∷ []) vs))) (letter_of v (h v (inl refl)))
      ∙ ap (λ rest. export_letter t e p true (exported t l v) ∷ rest) (all_letters vs (λ y i. h y (inr i)))

  pub edge_offers : letters_in t reflectors l (says e p (all_offers t reflectors u e p)) ≡ edge_news t e (record { 0 = p } ∷ []) true (map (exported t l) zs)
  edge_offers = ap (λ ws. letters_in t reflectors l (says e p ws)) said ∙ all_letters zs (λ y i. i)
